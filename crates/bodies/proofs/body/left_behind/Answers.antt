use Rattle.std.proofs.Common.{rules}
use Rattle.bodies.proofs.Parts.{beyond}
use Rattle.bodies.proofs.body.left_behind.Goals as goal

pub returns-in_err-left : goal.returns-in_err-left
returns-in_err-left c =
    let few = beyond (λ p. p.now) c.args.parts.now c.loop-part.part-index _ c.loop-part-test.true c.loop-part.left c.args.whole c.loop-part.invariant c.in_err-left.ensures in
    search rules
