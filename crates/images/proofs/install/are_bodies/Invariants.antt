use Rattle.std.proofs.Common.{length}
use Rattle.images.specs.Installs.{AreBodies}
use Rattle.images.proofs.install.are_bodies.Given as goal

-- what is left is bodies just where the whole is
abbrev pub invariant-loop-rest : goal.invariant-loop-rest
invariant-loop-rest g l =
    (AreBodies g.B.Body.bytes l.rest → AreBodies g.B.Body.bytes l.bytes) × (AreBodies g.B.Body.bytes l.bytes → AreBodies g.B.Body.bytes l.rest)

abbrev pub decreases-loop-rest : goal.decreases-loop-rest
decreases-loop-rest g l = length l.rest
