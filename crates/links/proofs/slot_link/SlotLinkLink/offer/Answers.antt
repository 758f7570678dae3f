use Rattle.std.proofs.Common.{refl, arith}
use Rattle.messages.specs.Messages.{content_of}
use Rattle.links.proofs.Slots.{room, pushed}
use Rattle.links.proofs.slot_link.SlotLinkLink.offer.Goals as goal

pub push_back-requires : goal.push_back-requires
push_back-requires c = (omega arith, room c.args.self.now (content_of c.args.message) c.in_ok-admit.ensures)

pub invariant_of-self : goal.invariant_of-self
invariant_of-self c =
    let p = pushed c.args.self.now (content_of c.args.message) c.in_ok-admit.ensures c.padded.ensures c.push_back.ensures in
    record { filled = p.filled; weighs = omega (arith, p.weighs, c.weight.ensures.is); light = omega (arith, p.weighs, p.light) }

pub returns : goal.returns
returns c =
    let p = pushed c.args.self.now (content_of c.args.message) c.in_ok-admit.ensures c.padded.ensures c.push_back.ensures in
    record { answer = p.answer; after = p.after; kept = refl }
