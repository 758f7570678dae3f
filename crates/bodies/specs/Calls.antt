-- A call's bytes: line, seconds.
use Rattle.std.specs.Prelude.{ℕ, List, ◌++◌, take, drop, Option, refl}
use Rattle.bodies.specs.declared.call.Call.{Call}
use Rattle.bodies.specs.Numbers.{be32, worth, worth32}
use Rattle.bodies.specs.Bodies.{BodyLaws, value_by, lawful_by}

abbrev pub call_bytes : Call → List ℕ
call_bytes c = be32 c.line ++ be32 c.seconds

-- the call whose bytes these may be
abbrev pub call_guess : List ℕ → Call
call_guess xs = record { line = worth (take 4 xs); seconds = worth (take 4 (drop 4 xs)) }

abbrev pub call_value : List ℕ → Option Call
call_value = value_by call_bytes call_guess

pub call_laws : BodyLaws 8 call_bytes call_value
call_laws =
    lawful_by call_bytes call_guess 8 (λ x. refl)
    (λ x i. record { line = worth32 x.line i; seconds = worth32 x.seconds i })
