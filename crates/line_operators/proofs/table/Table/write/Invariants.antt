use Rattle.std.proofs.Common.{◌≡◌, ◌+◌, ◌<◌, ◌≤◌, ◌++◌, length, take, drop}
use Rattle.std.specs.List.{flat_map}
use Rattle.line_operators.proofs.table.Table.write.Given as goal

abbrev pub invariant-loop-row : goal.invariant-loop-row
invariant-loop-row g l = record {
  place : l.at ≡ 1 + length (flat_map g.E.Body.bytes (take l.row-index l.rows));
  room : l.row-index < length l.rows → l.at + l.size ≤ l.length;
  wrote : l.out ≡ (take 1 l.initial.out ++ flat_map g.E.Body.bytes (take l.row-index l.rows)) ++ drop l.at l.initial.out;
}
