-- What a day's script comes to.
use Rattle.std.specs.Prelude.{ℕ, ◌<◌, ◌≤◌, List, length, Option}
use Rattle.line_operators.specs.Sessions.{none_open, sessions_next, sessions_gives}
use Rattle.line_operators.specs.Totals.{none_charged, totals_next, totals_gives}
use Rattle.day.specs.declared.entry.Entry.{Entry}
use Rattle.day.specs.declared.unbilled.Unbilled.{Unbilled}
use Rattle.day.specs.declared.unbilled.Unbilled.TheVariants.{TooLong, Memory}
use Rattle.day.specs.Bills.{Billed}
use Rattle.day.specs.Sums.{AddsUp}

-- the longest script, in bytes
abbrev pub longest_script : ℕ
longest_script = 65536

-- a script that is not too long has the bill that Sessions and Totals make of it, and that adds up
pub record DayBilled (text : List ℕ) (bill : List Entry) (bad : Option ℕ) : Type 0 where
  pub fits : length text ≤ longest_script
  pub billed : Billed sessions_next sessions_gives totals_next totals_gives none_open none_charged text bill bad
  pub adds_up : AddsUp bill

-- a script of so many bytes is refused for its length exactly where it is too long
abbrev pub Refused : ℕ → Unbilled → Type 0
Refused n TooLong = longest_script < n
Refused n Memory = n ≤ longest_script
