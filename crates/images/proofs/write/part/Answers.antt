use Rattle.images.proofs.Parts.{cut_part}
use Rattle.images.proofs.write.part.Goals as goal

pub returns : goal.returns
returns c = cut_part c.args.bytes.now c.args.number c.min.result c.min.ensures
