use Rattle.std.proofs.Common.{◌≡◌, ◌++◌, length, take, drop}
use Rattle.std.specs.List.{flat_map}
use Rattle.bodies.proofs.body.put.Given as goal

-- what the parts put so far are
abbrev pub invariant-loop-part : goal.invariant-loop-part
invariant-loop-part l =
    (l.at ≡ length (flat_map (λ p. p.now) (take l.part-index l.parts)))
    × (l.out ≡ flat_map (λ p. p.now) (take l.part-index l.parts) ++ drop l.at l.fn.out)
