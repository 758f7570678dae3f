use Rattle.std.proofs.Common.{sym, ◌∙◌}
use Rattle.links.specs.Spelling.{spelled_weight}
use Rattle.links.proofs.packed_link.PackedLinkLink.weight.Goals as goal

pub returns : goal.returns
returns c = let l = c.args.self.now in c.len.ensures ∙ sym (spelled_weight l.bytes l.spells)
