-- A charge's bytes: line, calls, seconds.
use Rattle.std.specs.Prelude.{ℕ, List, ◌++◌, take, drop, Option, refl}
use Rattle.bodies.specs.declared.charge.Charge.{Charge}
use Rattle.bodies.specs.Numbers.{be32, be64, worth, worth32, worth64}
use Rattle.bodies.specs.Bodies.{BodyLaws, value_by, lawful_by}

abbrev pub charge_bytes : Charge → List ℕ
charge_bytes c = be32 c.line ++ be32 c.calls ++ be64 c.seconds

-- the charge whose bytes these may be
abbrev pub charge_guess : List ℕ → Charge
charge_guess xs = record { line = worth (take 4 xs); calls = worth (take 4 (drop 4 xs)); seconds = worth (take 8 (drop 8 xs)) }

abbrev pub charge_value : List ℕ → Option Charge
charge_value = value_by charge_bytes charge_guess

pub charge_laws : BodyLaws 16 charge_bytes charge_value
charge_laws =
    lawful_by charge_bytes charge_guess 16 (λ x. refl)
    (λ x i. record { line = worth32 x.line i; calls = worth32 x.calls i; seconds = worth64 x.seconds i })
