use Rattle.std.proofs.Common.{◌≡◌, ◌+◌, ◌-◌, ◌<◌, ◌≤◌, min, ◌++◌, length, take, drop, sym, refl, ap, ◌∙◌, arith, length-append}
use borrow.Rule.Slice.PartMut.{put_mid}
use Rattle.bodies.specs.Numbers.{be32}
use Rattle.operators.specs.Operators.{unbounded}
use Rattle.operators.proofs.Laying.{laid_exact, part_long, laid_more, laid_long}
use Rattle.operators.proofs.pipe.PipeOperator.write_state.Goals as goal

pub returns-then-out-whole-clause-refused : goal.returns-then-out-whole-clause-refused
returns-then-out-whole-clause-refused g c = λ small none.
    let s = g.F.Operator.state c.args.self.now.front in
    let t = g.S.Operator.state c.args.self.now.back in
    let f = c.state_length-front.ensures (omega arith) in
    let b = c.state_length-back.ensures (omega arith) in
    let fl = g.F.Operator.laws.within (omega arith) s in
    let bl = g.S.Operator.laws.within (omega arith) t in
    let l = length-append (g.F.Operator.written s) (g.S.Operator.written t) in
    omega (arith, c.saturating_add.ensures, c.saturating_add-whole.ensures, c.if-out-whole.true)

pub returns-clause-laid : goal.returns-clause-laid
returns-clause-laid g c =
    let s = g.F.Operator.state c.args.self.now.front in
    let t = g.S.Operator.state c.args.self.now.back in
    let a = g.F.Operator.written s in
    let b = g.S.Operator.written t in
    let n = c.state_length-front.result in
    let whole = c.saturating_add-whole.result in
    let out = c.args.out.now in
    let small : min (4 + g.F.Operator.longest + g.S.Operator.longest) unbounded < unbounded = omega (arith, c.longest.ensures, c.if-longest.false) in
    let f : n ≡ length a = c.state_length-front.ensures (omega arith) in
    let k = c.state_length-back.ensures (omega arith) in
    let fl = g.F.Operator.laws.within (omega arith) s in
    let bl = g.S.Operator.laws.within (omega arith) t in
    let l = length-append a b in
    let total : whole ≡ 4 + n + length b = omega (arith, c.saturating_add.ensures, c.saturating_add-whole.ensures) in
    let fits : whole ≤ length out = omega (arith, c.if-out-whole.false) in
    let x : c.copy_from_slice.new.self ≡ be32 n = c.copy_from_slice.ensures.after ∙ c.to_bytes.ensures in
    let one = put_mid 0 4 out c.copy_from_slice.new.self in
    let one-is : one ≡ be32 n ++ drop 4 out = ap (λ h. h ++ drop 4 out) x in
    let one-long = laid_long out one (be32 n) 4 refl (omega arith) one-is in
    let y : c.write_state.new.out ≡ a =
    laid_exact a (take (4 + n - 4) (drop 4 one)) c.write_state.new.out c.write_state.result c.write_state.ensures.laid (c.write_state.ensures.refused (omega arith))
    (part_long one 4 (4 + n) (omega arith) (omega arith) ∙ omega arith) in
    let two = put_mid 4 (4 + n - 4) one c.write_state.new.out in
    let two_is : two ≡ (be32 n ++ a) ++ drop (4 + n) out = ap (put_mid 4 (4 + n - 4) one) y ∙ laid_more out one (be32 n) a 4 (4 + n - 4) refl one-is (omega arith) ∙ ap (λ j. (be32 n ++ a) ++ drop (4 + j) out) (sym f) in
    let two-long = laid_long out two (be32 n ++ a) (4 + n) (omega arith) (omega arith) two_is in
    let z : c.write_state-2.new.out ≡ b =
    laid_exact b (take (whole - (4 + n)) (drop (4 + n) two)) c.write_state-2.new.out c.write_state-2.result c.write_state-2.ensures.laid (c.write_state-2.ensures.refused (omega arith))
    (part_long two (4 + n) whole (omega arith) (omega arith) ∙ omega arith) in (
      omega arith,
      ap (put_mid (4 + n) (whole - (4 + n)) two) z
          ∙ laid_more out two (be32 n ++ a) b (4 + n) (whole - (4 + n)) (omega arith) two_is (omega arith)
          ∙ (λ i. (be32 (f i) ++ (a ++ b)) ++ drop (sym total i) out),
    )
