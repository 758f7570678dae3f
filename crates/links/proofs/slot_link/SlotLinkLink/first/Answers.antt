use Rattle.std.proofs.Common.{arith}
use Rattle.links.proofs.Slots.{first_in, one_in}
use Rattle.links.proofs.slot_link.SlotLinkLink.first.Goals as goal

pub returns : goal.returns
returns c = grind (arith, first_in, one_in)
