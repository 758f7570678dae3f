use Rattle.std.proofs.Common.{◌+◌, ◌-◌, ◌*◌, ◌<◌, ◌≤◌, length, take, drop, ap, ◌∙◌, arith}
use Rattle.blocks.specs.declared.block.Block.{Block}
use Rattle.blocks.specs.Blocks.{block_bytes}
use Rattle.operators.proofs.Laying.{part_long}
use Rattle.images.proofs.Parts.{length_part, wrote, put_next}
use Rattle.images.proofs.write.write_blocks.Goals as goal

pub loop-number-preserved : goal.loop-number-preserved
loop-number-preserved c =
    let ds = c.args.bytes.now in
    let k = c.loop-number.number in
    let count = c.div_ceil-count.result in
    let now = c.loop-number.memory in
    let l = length_part ds k in
    let same = ap length c.part.ensures in
    let many : 502 * k < length ds = omega (arith, c.loop-number-test.true, c.div_ceil-count.ensures) in
    let room : 512 * k + 512 ≤ length now = omega (arith, c.loop-number.auto.memory, c.if-memory-count.false, c.loop-number-test.true) in
    let block : Block = record { version = c.args.version; number = k; count = count; «data» = c.part.result } in
    let is = wrote block (take (512 * k + 512 - 512 * k) (drop (512 * k) now)) c.write.new.out c.write.result (omega arith, omega arith) (part_long now (512 * k) (512 * k + 512) (omega arith) room ∙ omega arith) c.write.ensures.wrote in
    put_next c.args.version count ds c.args.memory.now now c.write.new.out k (512 * k + 512 - 512 * k) c.loop-number.invariant (omega arith) (is ∙ ap (block_bytes c.args.version k count) c.part.ensures)
