-- Parts one behind another.
use Rattle.std.proofs.Common.{◌≡◌, ℕ, ◌+◌, ◌<◌, ◌≤◌, List, length, get_or, take, arith}
use Rattle.std.proofs.lemmas.List.Folds.{length-flat_map-take}
use Rattle.std.specs.List.{flat_map}

module _ {X : Type 0} (bytes : X → List ℕ) (parts : List X) (i : ℕ) (x : X) (more : i < length parts) where
  -- the first parts and the next are no more than all
  pub within : (at whole : ℕ) → at ≡ length (flat_map bytes (take i parts)) → length (flat_map bytes parts) ≡ whole → at + length (bytes (get_or parts i x)) ≤ whole
  within at whole e w = let l = length-flat_map-take bytes parts i x more in omega arith

  -- where the next part is longer than what is left, all are longer than the whole
  pub beyond : (left whole : ℕ) → left + length (flat_map bytes (take i parts)) ≡ whole → (length (bytes (get_or parts i x)) ≤ left → ⊥) → whole < length (flat_map bytes parts)
  beyond left whole e short = let l = length-flat_map-take bytes parts i x more in omega arith
