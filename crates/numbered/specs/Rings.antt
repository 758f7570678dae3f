-- Consecutive numbers in a table of bytes: places of one size side by side, and each number has the place of its remainder.
use Rattle.std.specs.Prelude.{ℕ, ◌*◌, ◌%◌, List, map, take, drop}
use Rattle.std.specs.List.{range_with_len}

-- what stands at a number's place
abbrev pub at_place : (places size : ℕ) → List ℕ → ℕ → List ℕ
at_place places size table n = take size (drop (n % places * size) table)

-- what stands at the places of so many consecutive numbers, from one on
abbrev pub ring : (places size : ℕ) → List ℕ → (from count : ℕ) → List (List ℕ)
ring places size table from count = map (at_place places size table) (range_with_len from count)
