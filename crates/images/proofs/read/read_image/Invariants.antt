use Rattle.std.proofs.Common.{◌≡◌, ◌*◌, length, drop}
use Rattle.images.specs.Runs.{number_of, Going}
use Rattle.images.proofs.read.read_image.Given as goal

abbrev pub invariant-loop-next : goal.invariant-loop-next
invariant-loop-next g l = record {
  left : l.left ≡ drop (512 * number_of l.image.expected) l.blocks;
  going : Going g.B.Body.size l.blocks l.fn.memory l.image.expected l.memory;
}

abbrev pub decreases-loop-next : goal.decreases-loop-next
decreases-loop-next g l = length l.left
