use Rattle.std.proofs.Common.{sym, ap, ◌∙◌}
use Rattle.line_operators.specs.Tables.{same_table}
use Rattle.line_operators.specs.Sessions.{open_line, any_open, open_after}
use Rattle.line_operators.proofs.sessions.SessionsOperator.take.Goals as goal

pub returns-in-Begin-clause-after : goal.returns-in-Begin-clause-after
returns-in-Begin-clause-after c =
    let v = c.args.value in
    same_table open_line any_open 32 _ _ (c.begin.ensures ∙ ap (λ k. open_after k v.line v.stamp c.args.self.now.table.rows.items) (sym c.in-Begin.is))

pub returns-in-End-clause-after : goal.returns-in-End-clause-after
returns-in-End-clause-after c =
    let v = c.args.value in
    same_table open_line any_open 32 _ _ (c.end.ensures.after ∙ ap (λ k. open_after k v.line v.stamp c.args.self.now.table.rows.items) (sym c.in-End.is))
