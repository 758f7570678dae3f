use Rattle.std.proofs.Common.{◌≡◌, ◌+◌, ◌*◌, ◌<◌, length, take, drop, sym, ap, ◌∙◌, arith, length-drop}
use Rattle.std.proofs.lemmas.Bool.Decides.{nat_tests}
use Rattle.std.proofs.lemmas.List.{drop-drop}
use Rattle.blocks.specs.declared.block_test.Expected.{Expected}
use Rattle.images.specs.Runs.{number_of}
use Rattle.images.proofs.Runs.{expected_number, block_long, first_bytes}
use Rattle.images.proofs.read.read_image.Goals as goal

pub loop-next-preserved : goal.loop-next-preserved
loop-next-preserved g c =
    let blocks = c.args.blocks.now in
    let e = c.loop-next.image.expected in
    let i = c.loop-next.invariant in
    let s = c.split_at.ensures in
    let t = rw c.in-Ok-Open.field-0-is at c.in-Ok-Open.ensures.answer in
    let is = first_bytes c.loop-next.left.now c.split_at.result.0.now c.min.result c.min.ensures s.front ∙ ap (take 512) i.left in
    let long = block_long t.0 c.split_at.result.0.now t.1.1 t.1.0 in
    let m : c.min.result ≡ 512 = omega (arith, s.front_len, long) in
    let at = expected_number e t.0 t.1.2 in
    let next : 512 * number_of e + c.min.result ≡ 512 * (t.0.number + 1) = omega arith in
    record {
      left = s.back ∙ ap (drop c.min.result) i.left ∙ drop-drop c.min.result (512 * number_of e) blocks ∙ ap (λ n. drop n blocks) next ∙ ap (λ (x : Expected). drop (512 * number_of x) blocks) (sym t.4);
      going = rw c.in-Ok-Open.field-0-is at (c.in-Ok-Open.ensures.run blocks c.args.memory.now is i.going);
    }

pub returns-then-not-is_empty : goal.returns-then-not-is_empty
returns-then-not-is_empty g c wide =
    let i = c.loop-next.invariant in
    let s = c.split_at.ensures in
    let is = first_bytes c.loop-next.left.now c.split_at.result.0.now c.min.result c.min.ensures s.front ∙ ap (take 512) i.left in
    let run = rw c.in-Ok-Complete.field-0-is at (c.in-Ok-Complete.ensures.run c.args.blocks.now c.args.memory.now is i.going) in
    let left = ap length i.left ∙ length-drop (512 * number_of c.loop-next.image.expected) c.args.blocks.now in
    let some : 0 < length c.split_at.result.1.now = grind (arith, nat_tests) in
    run.1 (omega (arith, s.back_len, c.min.ensures))

pub returns-in-Ok-Complete : goal.returns-in-Ok-Complete
returns-in-Ok-Complete g c =
    let i = c.loop-next.invariant in
    let s = c.split_at.ensures in
    let is = first_bytes c.loop-next.left.now c.split_at.result.0.now c.min.result c.min.ensures s.front ∙ ap (take 512) i.left in
    let run = rw c.in-Ok-Complete.field-0-is at (c.in-Ok-Complete.ensures.run c.args.blocks.now c.args.memory.now is i.going) in
    let left = ap length i.left ∙ length-drop (512 * number_of c.loop-next.image.expected) c.args.blocks.now in
    let none : length c.split_at.result.1.now ≡ 0 = grind (arith, nat_tests) in
    run.0 (omega (arith, s.back_len, c.min.ensures))

pub returns-in-Err : goal.returns-in-Err
returns-in-Err g c wide =
    let i = c.loop-next.invariant in
    let is = first_bytes c.loop-next.left.now c.split_at.result.0.now c.min.result c.min.ensures c.split_at.ensures.front ∙ ap (take 512) i.left in
    c.in-Err.ensures.run c.args.blocks.now c.args.memory.now is i.going (omega (arith, c.loop-next.auto.memory))
