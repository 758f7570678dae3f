-- What a bill says last.
use Rattle.std.specs.Prelude.{◌≡◌, ℕ, List, Some, None, Option}
use Rattle.day.specs.declared.entry.Entry.{Entry}
use Rattle.day.specs.declared.ending.Ending.{Ending}
use Rattle.day.specs.declared.ending.Ending.TheVariants.{Total, Bad}
use Rattle.day.specs.Sums.{Totalled}

-- the number of the bad line, where there is one; else the total of the entries
abbrev pub Ends : List Entry → Option ℕ → Ending → Type 0
Ends bill (Some n) (Bad line) = line ≡ n
Ends bill (Some n) (Total t) = ⊥
Ends bill None (Bad line) = ⊥
Ends bill None (Total t) = Totalled bill t.calls t.seconds
