use Rattle.std.proofs.Common.{◌≡◌, ◌-◌, ◌*◌, ◌≤◌, max, ◌++◌, length, drop}
use Rattle.images.proofs.Held.{first_bodies}
use Rattle.images.proofs.write.put_held.Given as goal

-- the bodies put so far
abbrev pub invariant-loop-number : goal.invariant-loop-number
invariant-loop-number g l = record {
  end : l.number ≤ max l.results.gone l.results.last;
  place : l.at ≡ (l.number - l.results.gone) * g.B.Body.size;
  long : length (first_bodies g.B.Body.size l.results l.table (l.number - l.results.gone)) ≡ l.at;
  put : l.out ≡ first_bodies g.B.Body.size l.results l.table (l.number - l.results.gone) ++ drop l.at l.initial.out;
}
