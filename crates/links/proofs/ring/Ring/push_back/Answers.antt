use Rattle.std.proofs.Common.{List, [], ◌∷◌, ◌++◌, length, ap, ◌∙◌, arith, rules}
use Rattle.links.proofs.Rings.{length-items_in, one_more}
use Rattle.links.proofs.ring.Ring.push_back.Goals as goal

pub returns : goal.returns
returns g c =
    let r = c.self.inside in
    let long = length-items_in g.row.N r.first r.count r.places c.self.invariant.0 c.self.invariant.1 (search rules) in
    let same = ap length c.self.view_is in
    one_more g.row.N r.first r.count r.places c.self.invariant.0 c.self.invariant.1 (search rules) c.args.item (omega arith) ∙ ap (λ (xs : List g.row.T.Denot). xs ++ c.args.item ∷ []) c.self.view_is
