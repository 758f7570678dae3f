-- What a day's events put on the bill.
use Rattle.std.specs.Prelude.{◌≡◌, ℕ, List, [], ◌∷◌, ◌++◌, map, Option}
use Rattle.bodies.specs.declared.event.Event.{Event}
use Rattle.bodies.specs.declared.call.Call.{Call}
use Rattle.bodies.specs.declared.charge.Charge.{Charge}
use Rattle.operators.specs.Pipes.{after_all, given_all}
use Rattle.script.specs.Lines.{lines}
use Rattle.day.specs.declared.entry.Entry.{Entry}
use Rattle.day.specs.declared.entry.Entry.TheVariants as entry
use Rattle.day.specs.Events.{events, bad_line}

-- calls and then the charges that came of them
abbrev pub shown : List Call → List Charge → List Entry
shown calls charges = map entry.Call calls ++ map entry.Charge charges

module _ {S T : Type 0} (open_next : S → Event → S) (calls : S → Event → List Call) (next : T → Call → T) (charges : T → Call → List Charge) where
  -- what one operator gives over events, and another over what that gives, in the order in which it is given
  abbrev pub entries : S → T → List Event → List Entry
  entries s t [] = []
  entries s t (e ∷ es) = shown (calls s e) (given_all next charges t (calls s e)) ++ entries (open_next s e) (after_all next t (calls s e)) es

  -- a text's bill: the entries of its events up to the first bad line, and that line's number
  pub record Billed (s : S) (t : T) (text : List ℕ) (bill : List Entry) (bad : Option ℕ) : Type 0 where
    pub entries_are : bill ≡ entries s t (events (lines text))
    pub bad_is : bad ≡ bad_line 1 (lines text)
