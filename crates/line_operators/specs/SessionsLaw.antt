-- What Sessions gives over runs of events: every end of an open line its own call, and no call twice.
use Rattle.std.specs.Prelude.{◌≡◌, ℕ, ◌<◌, ◌⊎◌, List, [], ◌∷◌, length, Some}
use Rattle.bodies.specs.declared.event.Event.{Event}
use Rattle.bodies.specs.declared.event.EventKind.{EventKind}
use Rattle.bodies.specs.declared.event.EventKind.TheVariants.{Begin, End}
use Rattle.operators.specs.Pipes.{after_all}
use Rattle.line_operators.specs.declared.open.Open.{Open}
use Rattle.line_operators.specs.Rows.{found}
use Rattle.line_operators.specs.Sessions.{Opens, open_line, none_open, seconds_between, sessions_next, sessions_gives}

-- a begin on this line finds a place: one is free, or the line is open
abbrev pub Free : ℕ → Opens → Type 0
Free line s = (length s.0 < 32) ⊎ ((o : Open) × (found open_line line s.0 ≡ Some o))

-- events of other lines
abbrev pub Others : ℕ → List Event → Type 0
Others line [] = Unit {0}
Others line (e ∷ es) = (e.line ≡ line → ⊥) × Others line es

-- no begin of this line among the events
abbrev pub NoBegin : ℕ → List Event → Type 0
NoBegin line [] = Unit {0}
NoBegin line (e ∷ es) = (e.kind ≡ Begin → e.line ≡ line → ⊥) × NoBegin line es

abbrev pub event : EventKind → ℕ → ℕ → Event
event k line stamp = record { line = line; stamp = stamp; kind = k }

-- where a begin finds a place, the next end of its line gives the call from that begin to that end, whatever other lines did between
abbrev pub OwnBegin : Type 0
OwnBegin =
    (s : Opens) (line begin end : ℕ) (between : List Event) → Free line s → Others line between →
    sessions_gives (after_all sessions_next (sessions_next s (event Begin line begin)) between) (event End line end)
    ≡ record { line = line; seconds = seconds_between begin end } ∷ []

-- after an end of a line, an end of that line gives nothing until the line begins again
abbrev pub Once : Type 0
Once =
    (s : Opens) (line end later : ℕ) (between : List Event) → NoBegin line between →
    sessions_gives (after_all sessions_next (sessions_next s (event End line end)) between) (event End line later) ≡ []

-- nor does an end of a line that never began
abbrev pub Begun : Type 0
Begun = (line end : ℕ) (before : List Event) → NoBegin line before → sessions_gives (after_all sessions_next none_open before) (event End line end) ≡ []
