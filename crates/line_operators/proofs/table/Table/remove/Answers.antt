use Rattle.std.proofs.Common.{ap, sym, ◌∙◌, Some, arith}
use Rattle.line_operators.specs.Rows.{orderly}
use Rattle.line_operators.specs.RowLaws.{without_orderly}
use Rattle.line_operators.proofs.Spots.{Known, at_some, at_none}
use Rattle.line_operators.proofs.table.Table.remove.Given as given
use Rattle.line_operators.proofs.table.Table.remove.Goals as goal
use Rattle.line_operators.proofs.table.Table.remove.Goals.{After-remove}

pub returns-in_err-i : goal.returns-in_err-i
returns-in_err-i g c =
    let rank = λ (e : g.row.E.Denot). g.E.Key.Ranked.rank (g.E.Row.key e) in
    let none = at_none rank (g.E.Key.Ranked.rank c.args.key) c.args.self.now.rows.items c.place.result c.place.ensures (sym c.in_err-i.ensures.value) in
    record { given = c.from_residual.ensures ∙ sym none.0; after = sym none.1 }

-- the row that goes is that of the key
known : (g : given.Over) (c : After-remove g) → Known (λ e. g.E.Key.Ranked.rank (g.E.Row.key e)) (g.E.Key.Ranked.rank c.args.key) c.in_ok-i.i c.args.self.now.rows.items
known g c = at_some (λ e. g.E.Key.Ranked.rank (g.E.Row.key e)) (g.E.Key.Ranked.rank c.args.key) c.in_ok-i.i c.args.self.now.rows.items c.place.result c.place.ensures (sym c.in_ok-i.ensures.value)

pub invariant_of-self : goal.invariant_of-self
invariant_of-self g c =
    let rank = λ (e : g.row.E.Denot). g.E.Key.Ranked.rank (g.E.Row.key e) in
    let old = c.args.self.now in
    let takes = (known g (goal.at.invariant_of-self g c).After-remove).takes in
    record {
      counted = old.counted;
      few = omega (arith, c.remove.ensures.len, old.few);
      ordered = ap (orderly rank g.E.Row.sound 0) (c.remove.ensures.items ∙ sym takes) ∙ without_orderly rank g.E.Row.sound 0 (g.E.Key.Ranked.rank c.args.key) old.rows.items old.ordered;
    }

pub returns : goal.returns
returns g c =
    let row = known g (goal.at.returns g c).After-remove in
    record { given = ap Some c.remove.ensures.value ∙ sym (row.finds c.remove.result); after = c.remove.ensures.items ∙ sym row.takes }
