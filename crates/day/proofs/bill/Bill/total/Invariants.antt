use Rattle.std.proofs.Common.{◌≤◌, take}
use Rattle.day.specs.Sums.{Totalled}
use Rattle.day.proofs.bill.Bill.total.Given as goal

-- the entries so far are totalled; none shows more than one call, so that the count does not overflow
abbrev pub invariant-loop-entry : goal.invariant-loop-entry
invariant-loop-entry l = record {
  totalled : Totalled (take l.entry-index l.entry-items) l.calls l.seconds;
  few : l.calls ≤ l.entry-index;
}
