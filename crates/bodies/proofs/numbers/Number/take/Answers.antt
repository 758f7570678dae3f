use Rattle.std.proofs.Common.{arith}
use Rattle.bodies.proofs.numbers.Number.take.Goals as goal

pub split_first_chunk-requires : goal.split_first_chunk-requires
split_first_chunk-requires g c = omega (arith, g.Self.Number.narrow)
