use Rattle.std.proofs.Common.{rules, ◌≡◌, ◌+◌, ◌*◌, length, take, drop, None, Some, Err, ap, sym, ◌∙◌, arith, refl}
use Rattle.images.specs.declared.fault.ImageFault.TheVariants.{WrongContents}
use Rattle.images.specs.Takes.{data_through}
use Rattle.images.proofs.Data.{length_through, data_in_memory, sound_in_memory}
use Rattle.images.proofs.take.OpenImage.next.Goals as goal

pub returns-in_err-counts : goal.returns-in_err-counts
returns-in_err-counts g c =
    let b = c.in_ok-block.block in
    let f = c.in_ok-block.ensures in
    let old = c.args.memory.now in
    let whole = length_through b old (omega (arith, f.of_image.below, f.of_image.most, c.if-memory-lt-MEMORY_LENGTH.false)) in
    let last : b.number + 1 ≡ b.count = omega (arith, f.of_image.below, c.if-block.false) in
    let none : c.read_front.result ≡ None = search rules in
    let is : c.from_residual-in_err-counts.result ≡ Err WrongContents = search rules in
    let no = rw none at c.read_front.ensures in
    rw is ((b, (f.says, f.of_image, f.expected, sym f.fault, c.if-memory-lt-MEMORY_LENGTH.false), last, λ k sound e. no k sound (ap length e ∙ whole ∙ omega (arith, c.from.ensures)) (ap (take 16) e ∙ sym c.front.ensures)), refl)

pub returns : goal.returns
returns g c =
    let b = c.in_ok-block.block in
    let f = c.in_ok-block.ensures in
    let old = c.args.memory.now in
    let whole = length_through b old (omega (arith, f.of_image.below, f.of_image.most, c.if-memory-lt-MEMORY_LENGTH.false)) in
    let last : b.number + 1 ≡ b.count = omega (arith, f.of_image.below, c.if-block.false) in
    let k = c.in_ok-counts in
    let some : c.read_front.result ≡ Some (k.counts, k.state_length, k.held_length) = search rules in
    let r = rw some at c.read_front.ensures in
    let long : length (data_through b old) ≡ 16 + k.state_length + k.held_length = omega (arith, c.from.ensures, r.3) in
    let front = sym c.front.ensures ∙ r.0 in
    let is = c.put_block-2.ensures in
    let rest = drop (502 * b.number + length b.«data».now) old in
    (b, (f.says, f.of_image, f.expected, sym f.fault, c.if-memory-lt-MEMORY_LENGTH.false), is, last, refl, sound_in_memory k.counts k.state_length k.held_length (data_through b old) rest c.put_block-2.new.memory is long g.B.Body.size r.1 r.2, data_in_memory k.counts k.state_length k.held_length (data_through b old) rest c.put_block-2.new.memory is long front)
