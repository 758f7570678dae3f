use Rattle.std.proofs.Common.{length, drop, ap, ◌∙◌, arith, rules}
use Rattle.links.proofs.Rings.{length-items_in, one_less}
use Rattle.links.proofs.ring.Ring.drop_front.Goals as goal

pub returns : goal.returns
returns g c =
    let r = c.self.inside in
    let long = length-items_in g.row.N r.first r.count r.places c.self.invariant.0 c.self.invariant.1 (search rules) in
    let same = ap length c.self.view_is in
    one_less g.row.N r.first r.count r.places c.self.invariant.0 c.self.invariant.1 (search rules) (omega arith) ∙ ap (drop 1) c.self.view_is
