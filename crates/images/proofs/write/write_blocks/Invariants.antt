use Rattle.std.proofs.Common.{◌≡◌, ◌*◌, ◌++◌, drop}
use Rattle.images.specs.Images.{blocks_from}
use Rattle.images.proofs.write.write_blocks.Given as goal

-- the blocks written so far
abbrev pub invariant-loop-number : goal.invariant-loop-number
invariant-loop-number l =
    l.memory ≡ blocks_from l.version l.count l.bytes 0 l.number ++ drop (512 * l.number) l.fn.memory
