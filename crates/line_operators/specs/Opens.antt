-- An open line's bytes: line, stamp of its begin.
use Rattle.std.specs.Prelude.{ℕ, List, ◌++◌, take, drop, Option, refl}
use Rattle.bodies.specs.Numbers.{be32, worth, worth32}
use Rattle.bodies.specs.Bodies.{BodyLaws, value_by, lawful_by}
use Rattle.line_operators.specs.declared.open.Open.{Open}

abbrev pub open_bytes : Open → List ℕ
open_bytes o = be32 o.line ++ be32 o.stamp

-- the open line whose bytes these may be
abbrev pub open_guess : List ℕ → Open
open_guess xs = record { line = worth (take 4 xs); stamp = worth (take 4 (drop 4 xs)) }

abbrev pub open_value : List ℕ → Option Open
open_value = value_by open_bytes open_guess

pub open_laws : BodyLaws 8 open_bytes open_value
open_laws =
    lawful_by open_bytes open_guess 8 (λ x. refl)
    (λ x i. record { line = worth32 x.line i; stamp = worth32 x.stamp i })
