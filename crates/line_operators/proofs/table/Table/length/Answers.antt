use Rattle.std.proofs.Common.{◌*◌, length, ap, ◌∙◌, arith}
use Rattle.line_operators.specs.RowLaws.{joined_long}
use Rattle.line_operators.proofs.table.Table.length.Goals as goal

pub returns : goal.returns
returns g c =
    let l = joined_long g.E.Body.laws c.args.self.now.rows.items in
    let p = ap (λ n. n * c.size.result) c.len.ensures.value ∙ ap (λ s. length c.args.self.now.rows.items * s) c.size.ensures.is in
    omega arith
