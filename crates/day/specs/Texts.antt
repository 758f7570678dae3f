-- How a bill's lines are written.
use Rattle.std.specs.Prelude.{ℕ, List, ◌++◌, codes, decimal}
use Rattle.day.specs.declared.entry.Entry.{Entry}
use Rattle.day.specs.declared.entry.Entry.TheVariants as entry
use Rattle.day.specs.declared.ending.Ending.{Ending}
use Rattle.day.specs.declared.ending.Ending.TheVariants as ending

abbrev pub entry_text : Entry → List ℕ
entry_text (entry.Call c) = codes "call " ++ (decimal c.line ++ (codes " " ++ decimal c.seconds))
entry_text (entry.Charge g) = codes "charge " ++ (decimal g.line ++ (codes " " ++ (decimal g.calls ++ (codes " " ++ decimal g.seconds))))

abbrev pub ending_text : Ending → List ℕ
ending_text (ending.Total t) = codes "total " ++ (decimal t.calls ++ (codes " " ++ decimal t.seconds))
ending_text (ending.Bad line) = codes "bad " ++ decimal line
