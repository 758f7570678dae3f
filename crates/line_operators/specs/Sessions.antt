-- Sessions: the open lines, and what an event does to them.
use Rattle.std.specs.Prelude.{◌≡◌, ℕ, ◌+◌, ◌-◌, ◌%◌, ◌≤◌, Bool, true, List, [], ◌∷◌, length, Some, None, Option, refl}
use Rattle.std.proofs.Common.{arith}
use Rattle.bodies.specs.declared.event.Event.{Event}
use Rattle.bodies.specs.declared.event.EventKind.{EventKind}
use Rattle.bodies.specs.declared.event.EventKind.TheVariants.{Begin, End}
use Rattle.bodies.specs.declared.call.Call.{Call}
use Rattle.operators.specs.Operators.{OperatorLaws}
use Rattle.line_operators.specs.declared.open.Open.{Open}
use Rattle.line_operators.specs.Rows.{found, put_in, without, listing}
use Rattle.line_operators.specs.Tables.{Fair, Table, put_fair, without_fair, table_apart, table_long}
use Rattle.line_operators.specs.Opens.{open_bytes, open_laws}

abbrev pub open_line : Open → ℕ
open_line o = o.line

-- every open line may stand in the table
abbrev pub any_open : Open → Bool
any_open o = true

-- the state: at most 32 open lines in rising order
abbrev pub Opens : Type 0
Opens = Table open_line any_open 32

abbrev pub none_open : Opens
none_open = ([], tt)

-- the lines open after an event: a begin opens its line, or sets its stamp anew, or is dropped where no place is free; an end closes its line
abbrev pub open_after : EventKind → ℕ → ℕ → List Open → List Open
open_after Begin line stamp xs = put_in open_line 32 (record { line = line; stamp = stamp }) xs
open_after End line stamp xs = without open_line line xs

-- the seconds from one stamp to another, on a clock that starts again at 4,294,967,296
abbrev pub seconds_between : ℕ → ℕ → ℕ
seconds_between begin end = (4294967296 + end - begin) % 4294967296

-- two begins and ends, one over the clock's start and one with the clock set back
abbrev pub SecondsShown : Type 0
SecondsShown = (seconds_between 4294967290 5 ≡ 11) × (seconds_between 100 40 ≡ 4294967236)

pub seconds_shown : SecondsShown
seconds_shown = (refl, refl)

-- the call of a line that was open, or none
abbrev pub call_of : ℕ → ℕ → Option Open → List Call
call_of line stamp None = []
call_of line stamp (Some o) = record { line = line; seconds = seconds_between o.stamp stamp } ∷ []

-- what an event gives: the end of an open line its call, all else none
abbrev pub called : EventKind → ℕ → ℕ → List Open → List Call
called Begin line stamp xs = []
called End line stamp xs = call_of line stamp (found open_line line xs)

pub after_fair : (k : EventKind) (line stamp : ℕ) (xs : List Open) → Fair open_line any_open 32 xs → Fair open_line any_open 32 (open_after k line stamp xs)
after_fair Begin line stamp xs f = put_fair open_line any_open 32 (record { line = line; stamp = stamp }) xs (λ i. true) f
after_fair End line stamp xs f = without_fair open_line any_open 32 line xs f

abbrev pub sessions_next : Opens → Event → Opens
sessions_next s e = (open_after e.kind e.line e.stamp s.0, after_fair e.kind e.line e.stamp s.0 s.1)

abbrev pub sessions_gives : Opens → Event → List Call
sessions_gives s e = called e.kind e.line e.stamp s.0

-- a count byte, then the open lines
abbrev pub sessions_written : Opens → List ℕ
sessions_written s = listing open_bytes s.0

one_call : (k : EventKind) (line stamp : ℕ) (xs : List Open) → length (called k line stamp xs) ≤ 1
one_call Begin line stamp xs = omega arith
one_call End line stamp xs = at_most (found open_line line xs)
  where
    at_most : (o : Option Open) → length (call_of line stamp o) ≤ 1
    at_most None = omega arith
    at_most (Some o) = omega arith

pub sessions_laws : OperatorLaws sessions_gives sessions_written 257
sessions_laws = record {
  few = λ s e. one_call e.kind e.line e.stamp s.0;
  within = λ h s. table_long open_line any_open 32 open_laws s;
  apart = λ h. table_apart open_line any_open 32 open_laws;
}
