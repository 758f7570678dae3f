-- What Totals gives over runs of calls: for every call the number and the sum of its line's calls so far.
use Rattle.std.specs.Prelude.{◌≡◌, ℕ, ◌+◌, ◌<◌, min, cond, ◌⊎◌, List, [], ◌∷◌, length, Some, ◌==◌}
use Rattle.bodies.specs.declared.call.Call.{Call}
use Rattle.bodies.specs.declared.charge.Charge.{Charge}
use Rattle.operators.specs.Pipes.{after_all}
use Rattle.line_operators.specs.Rows.{found}
use Rattle.line_operators.specs.Totals.{Charges, charge_line, none_charged, most_calls, most_seconds, totals_next, totals_gives}

-- how many calls of a line there are among some, and their seconds together
abbrev pub number : ℕ → List Call → ℕ
number line [] = 0
number line (c ∷ cs) = cond (c.line == line) 1 0 + number line cs

abbrev pub seconds : ℕ → List Call → ℕ
seconds line [] = 0
seconds line (c ∷ cs) = cond (c.line == line) c.seconds 0 + seconds line cs

abbrev pub charge_for : ℕ → List Call → Charge
charge_for line cs = record { line = line; calls = min (number line cs) most_calls; seconds = min (seconds line cs) most_seconds }

-- after any calls, a charge given is for the line's calls among them and this one
abbrev pub SoFar : Type 0
SoFar =
    (cs : List Call) (c : Call) (g : Charge) → totals_gives (after_all totals_next none_charged cs) c ≡ g ∷ [] → g ≡ charge_for c.line (c ∷ cs)

-- a call of this line finds a place: one is free, or the line has a charge
abbrev pub Placed : ℕ → Charges → Type 0
Placed line s = (length s.0 < 64) ⊎ ((g : Charge) × (found charge_line line s.0 ≡ Some g))

-- and then a charge is given
abbrev pub Given : Type 0
Given = (s : Charges) (c : Call) → Placed c.line s → (g : Charge) × (totals_gives s c ≡ g ∷ [])
