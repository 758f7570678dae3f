-- A key's place among rows.
use Rattle.std.specs.Prelude.{◌≡◌, ℕ, ◌<◌, ◌≤◌, List, length, Ok, Err, Result, slice_index_or}

module _ {E : Type 0} (rank : E → ℕ) where
  -- the rows before place i are below rank k
  abbrev pub Before : ℕ → ℕ → List E → Type 0
  Before k i xs = (j : ℕ) (d : E) → j < i → rank (slice_index_or xs j d) < k

  -- the row of rank k stands at i; or none does, and it would stand at i, before the rows past it
  abbrev pub Place : ℕ → List E → Result ℕ ℕ → Type 0
  Place k xs (Ok i) = (i < length xs) × Before k i xs × ((d : E) → rank (slice_index_or xs i d) ≡ k)
  Place k xs (Err i) = (i ≤ length xs) × Before k i xs × ((d : E) → i < length xs → k < rank (slice_index_or xs i d))
