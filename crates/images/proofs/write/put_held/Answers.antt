use Rattle.std.proofs.Common.{◌≡◌, ◌+◌, ◌-◌, ◌*◌, ◌++◌, length, None, sym, ap, ◌∙◌, arith, rules, length-append}
use Rattle.std.proofs.lemmas.List.{drop_all, append-nil}
use Rattle.images.specs.Contents.{held_by}
use Rattle.operators.proofs.Laying.{laid_more}
use Rattle.images.proofs.Held.{first_bodies, next_body, no_body, all_bodies, one_more}
use Rattle.images.proofs.write.put_held.Goals as goal

pub returns-in_err-entry : goal.returns-in_err-entry
returns-in_err-entry g c =
    let is : c.from_residual.result ≡ None = search rules in
    let none : c.entry.result ≡ None = search rules in
    rw is (no_body g.B.Body.size c.args.results.now c.args.table.now c.loop-number.number c.loop-number.auto.number c.loop-number-test.true c.in_err-entry.ensures.is)

pub loop-number-preserved : goal.loop-number-preserved
loop-number-preserved g c =
    let size = g.B.Body.size in
    let n = c.args.results.now in
    let t = c.args.table.now in
    let number = c.loop-number.number in
    let k = number - n.gone in
    let b = c.in_ok-entry.entry.body.now in
    let at = c.loop-number.at in
    let i = c.loop-number.invariant in
    let more = next_body size n t number c.in_ok-entry.entry.number b c.loop-number.auto.number c.loop-number-test.true c.in_ok-entry.ensures.is in
    let long : length b ≡ size = c.in_ok-entry.ensures.long in
    let step : number + 1 - n.gone ≡ k + 1 = omega arith in
    let product = one_more (number + 1 - n.gone) k size step in
    let wide : at + length b - at ≡ length b = omega arith in
    let put = c.copy_from_slice.ensures.after in
    record {
      end = omega arith;
      place = omega arith;
      long = ap length more ∙ length-append (first_bodies size n t k) b ∙ omega arith;
      put = ap (λ x. borrow.Rule.Slice.PartMut.put_mid at (at + length b - at) c.loop-number.out x) put ∙ laid_more c.args.out.now c.loop-number.out (first_bodies size n t k) b at (at + length b - at) i.long i.put wide ∙ ap (λ x. x ++ lib.ListN.drop (at + length b) c.args.out.now) (sym more);
    }

pub returns : goal.returns
returns g c =
    let size = g.B.Body.size in
    let n = c.args.results.now in
    let t = c.args.table.now in
    let k = c.loop-number.number - n.gone in
    let i = c.loop-number.invariant in
    let end : k ≡ n.last - n.gone = omega (arith, i.end) in
    let all = i.place ∙ ap (λ j. j * size) end in
    (i.put ∙ (λ j. all_bodies size n t k end j ++ drop_all c.loop-number.at c.args.out.now (omega arith) j) ∙ append-nil (held_by size n t), c.loop-number.auto.out)
