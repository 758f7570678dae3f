use Rattle.std.proofs.Common.{◌≡◌, ◌≤◌, ◌++◌, length, drop}
use Rattle.std.specs.List.{flat_map}
use Rattle.std.specs.Slice.Iter.{chunks_exact_rest, chunks_exact_size}
use Rattle.line_operators.proofs.table.reading.read_rows.Given as goal

abbrev pub invariant-loop-chunk : goal.invariant-loop-chunk
invariant-loop-chunk g l = record {
  read : flat_map g.E.Body.bytes l.rows.items ++ chunks_exact_rest l.chunk-iterator ≡ drop 1 l.from;
  size : chunks_exact_size l.chunk-iterator ≡ g.E.Body.size;
  few : length l.rows.items ≤ g.row.N;
}
