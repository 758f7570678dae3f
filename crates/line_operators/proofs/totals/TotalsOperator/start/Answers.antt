use Rattle.line_operators.specs.Tables.{same_table}
use Rattle.line_operators.specs.Totals.{charge_line, billed}
use Rattle.line_operators.proofs.totals.TotalsOperator.start.Goals as goal

pub returns : goal.returns
returns c = same_table charge_line billed 64 _ _ c.new.ensures
