use Rattle.std.proofs.Common.{rules, ◌≡◌, ◌<◌, length, None, ◌++◌, take, drop, arith, sym, ap, ◌∙◌, subst, take-append-drop}
use Rattle.std.proofs.lemmas.Bool.Decides.{nat_tests}
use Rattle.images.specs.Installs.{AreBodies}
use Rattle.images.proofs.Bodies.{first_body, one_body, no_body}
use Rattle.images.proofs.install.are_bodies.Goals as goal

pub returns-in_default-clause-no : goal.returns-in_default-clause-no
returns-in_default-clause-no g c _ all =
    let some : 0 < length c.loop-rest.rest.now = grind (arith, nat_tests) in
    let first = first_body g.B.Body.laws c.loop-rest.rest.now some (c.loop-rest.invariant.1 all) in
    omega (arith, first.3, c.in_default.ensures.cases, c.size.ensures.is)

pub returns-in_default-read-clause-no : goal.returns-in_default-read-clause-no
returns-in_default-read-clause-no g c _ all =
    let rest = c.loop-rest.rest.now in
    let some : 0 < length rest = grind (arith, nat_tests) in
    let body : c.in-Some.body.now ≡ take g.B.Body.size rest = c.in-Some.ensures.cases.1 ∙ ap (λ n. take n rest) c.size.ensures.is in
    let none : c.read.result ≡ None = search rules in
    no_body g.B.Body.laws rest some (ap g.B.Body.value (sym body) ∙ sym c.read.ensures ∙ none) (c.loop-rest.invariant.1 all)

pub loop-rest-preserved : goal.loop-rest-preserved
loop-rest-preserved g c =
    let bytes = g.B.Body.bytes in
    let rest = c.loop-rest.rest.now in
    let n = c.size.result in
    let s = c.in-Some.ensures.cases in
    let some : 0 < length rest = grind (arith, nat_tests) in
    let joined : c.in-Some.body.now ++ c.in-Some.behind.now ≡ rest = (λ i. s.1 i ++ s.2 i) ∙ take-append-drop n rest in
    let behind : drop g.B.Body.size rest ≡ c.in-Some.behind.now = ap (λ n. drop n rest) (sym c.size.ensures.is) ∙ sym s.2 in
    (λ all. c.loop-rest.invariant.0 (subst (λ xs. AreBodies bytes xs) joined (one_body g.B.Body.laws c.in-Some.body.now c.in-Some.behind.now c.in-Some-read._value (sym c.read.ensures ∙ c.in-Some-read.is) all)), λ all. subst (λ xs. AreBodies bytes xs) behind (first_body g.B.Body.laws rest some (c.loop-rest.invariant.1 all)).2)
