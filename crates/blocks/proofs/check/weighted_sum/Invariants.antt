use Rattle.std.proofs.Common.{◌≡◌, ◌*◌, ◌≤◌, take}
use Rattle.blocks.specs.Checks.{weighted_sum}
use Rattle.blocks.proofs.check.weighted_sum.Given as goal

-- no product is over 510 × 255
abbrev pub invariant-loop-place : goal.invariant-loop-place
invariant-loop-place l =
    (l.sum ≡ weighted_sum 0 (take l.place l.bytes)) × (l.sum ≤ 130050 * l.place)
