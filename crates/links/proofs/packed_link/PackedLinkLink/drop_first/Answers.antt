use Rattle.links.proofs.Offers.{first_said}
use Rattle.links.proofs.Packed.{dropped}
use Rattle.links.proofs.packed_link.PackedLinkLink.drop_first.Goals as goal

pub invariant_of-self : goal.invariant_of-self
invariant_of-self c =
    let k = dropped c.args.self.now (first_said _ c.first.ensures c.in_ok-ok_or.ensures.ok_part) c.weight-weight.ensures.is c.drop_front.ensures in
    record { spells = k.spells; counts = k.counts; light = k.light; short = k.short }

pub returns-clause-after : goal.returns-clause-after
returns-clause-after c = (dropped c.args.self.now (first_said _ c.first.ensures c.in_ok-ok_or.ensures.ok_part) c.weight-weight.ensures.is c.drop_front.ensures).are
