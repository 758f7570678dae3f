-- A bill adds up: each charge is the number and the sum of its line's calls above it.
use Rattle.std.specs.Prelude.{◌≡◌, ℕ, min, List, ◌∷◌, ◌++◌, length, Option, Some, None}
use Rattle.std.specs.List.{filter_map, sum_by}
use Rattle.bodies.specs.declared.call.Call.{Call}
use Rattle.bodies.specs.declared.charge.Charge.{Charge}
use Rattle.line_operators.specs.Totals.{most_seconds}
use Rattle.line_operators.specs.TotalsLaw.{charge_for}
use Rattle.day.specs.declared.entry.Entry.{Entry}
use Rattle.day.specs.declared.entry.Entry.TheVariants as entry

-- the call that an entry shows, where it shows one
abbrev pub call_in : Entry → Option Call
call_in (entry.Call c) = Some c
call_in (entry.Charge g) = None

-- the calls among entries
abbrev pub calls_in : List Entry → List Call
calls_in bill = filter_map call_in bill

abbrev pub AddsUp : List Entry → Type 0
AddsUp bill = (above below : List Entry) (g : Charge) → bill ≡ above ++ entry.Charge g ∷ below → g ≡ charge_for g.line (calls_in above)

-- all calls of a bill, and their seconds together, which stop at their largest value
abbrev pub seconds_of : List Call → ℕ
seconds_of calls = sum_by (λ c. c.seconds) calls

pub record Totalled (bill : List Entry) (calls time : ℕ) : Type 0 where
  pub calls_are : calls ≡ length (calls_in bill)
  pub seconds_are : time ≡ min (seconds_of (calls_in bill)) most_seconds
