-- An event's bytes: line, stamp, kind.
use Rattle.std.specs.Prelude.{◌≡◌, ℕ, cond, List, [], ◌∷◌, ◌++◌, take, drop, Option, ◌==◌, slice_index, refl}
use Rattle.bodies.specs.declared.event.Event.{Event}
use Rattle.bodies.specs.declared.event.EventKind.{EventKind}
use Rattle.bodies.specs.declared.event.EventKind.TheVariants.{Begin, End}
use Rattle.bodies.specs.Numbers.{be32, worth, worth32}
use Rattle.bodies.specs.Bodies.{BodyLaws, value_by, lawful_by}

abbrev pub kind_byte : EventKind → ℕ
kind_byte Begin = 1
kind_byte End = 2

abbrev pub event_bytes : Event → List ℕ
event_bytes e = be32 e.line ++ be32 e.stamp ++ kind_byte e.kind ∷ []

-- the event whose bytes these may be
abbrev pub event_guess : List ℕ → Event
event_guess xs = record { line = worth (take 4 xs); stamp = worth (take 4 (drop 4 xs)); kind = cond (slice_index xs 8 == 1) Begin End }

abbrev pub event_value : List ℕ → Option Event
event_value = value_by event_bytes event_guess

kind_back : (k : EventKind) → cond (kind_byte k == 1) Begin End ≡ k
kind_back Begin = refl
kind_back End = refl

pub event_laws : BodyLaws 9 event_bytes event_value
event_laws =
    lawful_by event_bytes event_guess 9 (λ x. refl)
    (λ x i. record { line = worth32 x.line i; stamp = worth32 x.stamp i; kind = kind_back x.kind i })
