use Rattle.line_operators.proofs.TotalsRuns.{so_far, always_given}
use Rattle.line_operators.proofs.laws.totals_give_number_and_sum.Goals as goal

pub returns : goal.returns
returns c = record { sums = so_far; given = always_given }
