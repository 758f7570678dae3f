-- The events of a day's script.
use Rattle.std.specs.Prelude.{ℕ, ◌+◌, List, [], ◌∷◌, Some, None, Option}
use Rattle.bodies.specs.declared.event.Event.{Event}
use Rattle.bodies.specs.declared.event.EventKind.TheVariants as kind
use Rattle.script.specs.Orders.{order_of}
use Rattle.script.specs.declared.commands.Command.{Command}
use Rattle.script.specs.declared.commands.Command.TheVariants.{Begin, End, Turn, Fail, Avail}

-- a begin or an end is an event; no other order is
abbrev pub event_in : Option (Command ℕ) → Option Event
event_in None = None
event_in (Some (Begin line stamp)) = Some (record { line = line; stamp = stamp; kind = kind.Begin })
event_in (Some (End line stamp)) = Some (record { line = line; stamp = stamp; kind = kind.End })
event_in (Some Turn) = None
event_in (Some (Fail side)) = None
event_in (Some (Avail side)) = None

abbrev pub event_of : List ℕ → Option Event
event_of line = event_in (order_of line)

-- the events of the lines before the first that gives none
abbrev pub before_bad : Option Event → List Event → List Event
before_bad None es = []
before_bad (Some e) es = e ∷ es

abbrev pub events : List (List ℕ) → List Event
events [] = []
events (line ∷ more) = before_bad (event_of line) (events more)

-- the number of the first line that gives none, if any, the first of these lines being number n
abbrev pub number_or : ℕ → Option Event → Option ℕ → Option ℕ
number_or n None later = Some n
number_or n (Some e) later = later

abbrev pub bad_line : ℕ → List (List ℕ) → Option ℕ
bad_line n [] = None
bad_line n (line ∷ more) = number_or n (event_of line) (bad_line (n + 1) more)
