use Rattle.std.proofs.Common.{◌≡◌, ap, ◌∙◌}
use Rattle.line_operators.specs.Rows.{put_in}
use Rattle.line_operators.specs.Tables.{same_table}
use Rattle.line_operators.specs.Totals.{charge_line, billed, charge_with, raised}
use Rattle.line_operators.proofs.totals.TotalsOperator.take.Goals as goal
use Rattle.line_operators.proofs.totals.TotalsOperator.take.Goals.{After-put}

-- what is put is the line's charge with the call
put : (c : After-put) → c.put.new.self.rows.items ≡ (let xs = c.args.self.now.table.rows.items in put_in charge_line 64 (charge_with c.args.value xs) xs)
put c =
    let v = c.args.value in
    c.put.ensures.after ∙ ap (λ e. put_in charge_line 64 e c.args.self.now.table.rows.items) (c.raise-charge.ensures ∙ ap (λ o. raised o v.line v.seconds) c.find.ensures)

pub returns-in_err-ok-clause-after : goal.returns-in_err-ok-clause-after
returns-in_err-ok-clause-after c = same_table charge_line billed 64 _ _ (put (goal.at.returns-in_err-ok-clause-after c).After-put)

pub returns-clause-after : goal.returns-clause-after
returns-clause-after c = same_table charge_line billed 64 _ _ (put (goal.at.returns-clause-after c).After-put)
