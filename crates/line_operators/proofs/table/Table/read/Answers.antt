use Rattle.std.proofs.Common.{sym, ap, ◌∙◌}
use Rattle.std.proofs.lemmas.Bool.{both_ways}
use Rattle.line_operators.specs.Rows.{orderly}
use Rattle.line_operators.specs.RowLaws.{listing_apart}
use Rattle.line_operators.proofs.table.Table.read.Goals as goal

-- no other rows write the bytes
pub returns-then-not-in_order : goal.returns-then-not-in_order
returns-then-not-in_order g c xs few ordered w =
    let up = orderly (λ (e : g.row.E.Denot). g.E.Key.Ranked.rank (g.E.Row.key e)) g.E.Row.sound 0 in
    let same = listing_apart g.E.Body.laws xs c.in_ok-rows.rows.items (w ∙ sym c.in_ok-rows.ensures.1) in
    both_ways (up c.in_ok-rows.rows.items) (sym (c.in_order.ensures ∙ ap up c.deref.ensures.0) ∙ c.if-not-in_order.true) (ap up (sym same) ∙ ordered)
