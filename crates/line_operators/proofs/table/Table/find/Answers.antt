use Rattle.std.proofs.Common.{get_or, ap, sym, ◌∙◌, Some}
use Rattle.line_operators.proofs.Spots.{at_some, at_none}
use Rattle.line_operators.proofs.table.Table.find.Goals as goal

pub returns-in_err-i : goal.returns-in_err-i
returns-in_err-i g c =
    let rank = λ (e : g.row.E.Denot). g.E.Key.Ranked.rank (g.E.Row.key e) in
    c.from_residual.ensures ∙ sym (at_none rank (g.E.Key.Ranked.rank c.args.key) c.args.self.now.rows.items c.place.result c.place.ensures (sym c.in_err-i.ensures.value)).0

pub returns : goal.returns
returns g c =
    let rank = λ (e : g.row.E.Denot). g.E.Key.Ranked.rank (g.E.Row.key e) in
    let known = at_some rank (g.E.Key.Ranked.rank c.args.key) c.in_ok-i.i c.args.self.now.rows.items c.place.result c.place.ensures (sym c.in_ok-i.ensures.value) in
    ap Some (c.index-deref-i.is ∙ ap (λ xs. get_or xs c.in_ok-i.i c.index-deref-i.result) c.deref.ensures.0) ∙ sym (known.finds c.index-deref-i.result)
