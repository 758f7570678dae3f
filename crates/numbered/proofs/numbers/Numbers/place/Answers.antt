use Rattle.std.proofs.Common.{◌≡◌, ◌*◌, ◌/◌, ◌%◌, ◌<◌, ◌≤◌, length, Some, sym, ap, ◌∙◌, arith}
use Rattle.std.proofs.lemmas.Bool.{cond-true}
use Rattle.numbered.specs.Buffers.{places, has_places}
use Rattle.numbered.proofs.Rings.{place_within}
use Rattle.numbered.proofs.Holdings.{all_places}
use Rattle.numbered.proofs.numbers.Numbers.place.Goals as goal

pub returns : goal.returns
returns g c =
    let size = g.B.Body.size in
    let limit = c.args.self.now.limit in
    let number = c.args.number in
    let long = length c.args.table.now in
    let p = places limit size in
    let many : limit / c.entry_weight.result ≡ p = ap (λ w. limit / w) c.entry_weight.ensures.is in
    let at : number % (limit / c.entry_weight.result) * c.size-size.result ≡ number % p * size = λ i. number % many i * c.size-size.ensures.is i in
    let bytes : limit / c.entry_weight.result * c.size-size.result ≡ p * size = λ i. many i * c.size-size.ensures.is i in
    let all : p * size ≤ long = omega arith in
    let some : 0 < p = omega (arith, many, c.if-places-eq0.false) in
    let inside = place_within p size number some in
    record {
      is = ap Some at ∙ sym (cond-true (has_places limit size long) _ _ (all_places limit size long some all));
      within = omega arith;
    }
