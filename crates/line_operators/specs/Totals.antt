-- Totals: every line's calls so far, and what a call adds.
use Rattle.std.specs.Prelude.{◌≡◌, ℕ, ◌+◌, ◌≤◌, min, Bool, true, false, cond, List, [], ◌∷◌, length, Some, None, Option, nat_le, nat_lt}
use Rattle.std.proofs.Common.{arith}
use Rattle.std.proofs.lemmas.Bool.{lt-ltb}
use Rattle.bodies.specs.declared.call.Call.{Call}
use Rattle.bodies.specs.declared.charge.Charge.{Charge}
use Rattle.bodies.specs.Charges.{charge_bytes, charge_laws}
use Rattle.operators.specs.Operators.{OperatorLaws}
use Rattle.line_operators.specs.Rows.{found, with_row, put_in, listing}
use Rattle.line_operators.specs.Tables.{Table, put_fair, table_apart, table_long}

abbrev pub charge_line : Charge → ℕ
charge_line c = c.line

-- a charge in the table has at least one call
abbrev pub billed : Charge → Bool
billed c = nat_lt 0 c.calls

-- the state: at most 64 lines' charges in rising order
abbrev pub Charges : Type 0
Charges = Table charge_line billed 64

abbrev pub none_charged : Charges
none_charged = ([], tt)

-- a line that has no charge has no calls and no seconds
abbrev pub calls_so_far : Option Charge → ℕ
calls_so_far None = 0
calls_so_far (Some c) = c.calls

abbrev pub seconds_so_far : Option Charge → ℕ
seconds_so_far None = 0
seconds_so_far (Some c) = c.seconds

-- the largest numbers of calls and of seconds in a charge
abbrev pub most_calls : ℕ
most_calls = 4294967295

abbrev pub most_seconds : ℕ
most_seconds = 18446744073709551615

-- a line's charge with a call more, each number stopping at its largest value
abbrev pub raised : Option Charge → ℕ → ℕ → Charge
raised o line seconds = record { line = line; calls = min (calls_so_far o + 1) most_calls; seconds = min (seconds_so_far o + seconds) most_seconds }

abbrev pub charge_with : Call → List Charge → Charge
charge_with v xs = raised (found charge_line v.line xs) v.line v.seconds

-- the new charge, unless its line is new and all places are taken
abbrev pub charged : Charge → List Charge → List Charge
charged c xs = cond (nat_le (length (with_row charge_line c xs)) 64) (c ∷ []) []

pub raised_billed : (o : Option Charge) (line seconds : ℕ) → billed (raised o line seconds) ≡ true
raised_billed o line seconds = lt-ltb 0 (min (calls_so_far o + 1) most_calls) (omega arith)

abbrev pub totals_next : Charges → Call → Charges
totals_next s v = (
  put_in charge_line 64 (charge_with v s.0) s.0,
  put_fair charge_line billed 64 (charge_with v s.0) s.0 (raised_billed (found charge_line v.line s.0) v.line v.seconds) s.1,
)

abbrev pub totals_gives : Charges → Call → List Charge
totals_gives s v = charged (charge_with v s.0) s.0

-- a count byte, then the charges
abbrev pub totals_written : Charges → List ℕ
totals_written s = listing charge_bytes s.0

one_charge : (b : Bool) (c : Charge) → length (cond b (c ∷ []) []) ≤ 1
one_charge true c = omega arith
one_charge false c = omega arith

pub totals_laws : OperatorLaws totals_gives totals_written 1025
totals_laws = record {
  few = λ s v. one_charge (nat_le (length (with_row charge_line (charge_with v s.0) s.0)) 64) (charge_with v s.0);
  within = λ h s. table_long charge_line billed 64 charge_laws s;
  apart = λ h. table_apart charge_line billed 64 charge_laws;
}
