-- A ring's items: where each stands, one more behind them, and all but the first.
use Rattle.std.proofs.Common.{◌≡◌, ℕ, ◌+◌, ◌-◌, ◌%◌, ◌<◌, ◌≤◌, ◌⊎◌, List, [], ◌∷◌, ◌++◌, length, get_or, drop, set, ap, ◌∙◌, inl, inr, mod-eq_of_lt, arith, length-append, length-drop, length-set, length-take-le, get_or-drop, get_or-take}
use native.Mathlib.Nat.{mod-eq-sub-mod, mod-add-mod}
use Rattle.std.proofs.lemmas.List.{same_lists, get_or_append_left, get_or-append_right}
use Rattle.std.proofs.lemmas.Bool.{cases_lt}
use Rattle.std.proofs.lemmas.Grind.{common_steps}
use Rattle.links.specs.Rings.{items_in}

-- a number below twice another has one of two remainders
remainder : (N j : ℕ) → j < N + N → ((j < N) × (j % N ≡ j)) ⊎ ((N ≤ j) × (j % N ≡ j - N))
remainder N j below = elim (cases_lt j N) [
  | inl low ↦ inl (low, mod-eq_of_lt low)
  | inr high ↦ inr (high, mod-eq-sub-mod high ∙ mod-eq_of_lt (omega arith))
]

module _ {X : Type 0} (N first count : ℕ) (places : List X) (within : first < N) (few : count ≤ N) (long : length places ≡ N) where
  pub length-items_in : length (items_in places first count) ≡ count
  length-items_in = length-take-le count _ (simp (length-append, length-drop) (omega (arith, length-take-le first places (omega arith))))

  pub get_or-items_in : (i : ℕ) (d : X) → i < count → get_or (items_in places first count) i d ≡ get_or places ((first + i) % N) d
  get_or-items_in i d lt =
      let tail = length-drop first places in
      get_or-take count _ i d lt ∙ elim (remainder N (first + i) (omega arith)) [
        | inl before ↦ get_or_append_left _ _ d i (omega arith) ∙ get_or-drop first places i d ∙ ap (λ j. get_or places j d) (omega arith)
        | inr past ↦ get_or-append_right _ _ (N - first) i d (omega arith) (omega arith) ∙ get_or-take first places _ d (omega arith) ∙ ap (λ j. get_or places j d) (omega arith)
      ]

-- in a section of its own, since these use the lemmas above of other items
module _ {X : Type 0} (N first count : ℕ) (places : List X) (within : first < N) (few : count ≤ N) (long : length places ≡ N) where
  -- an item written into the place behind the others
  pub one_more : (x : X) → count < N → items_in (set places ((first + count) % N) x) first (count + 1) ≡ items_in places first count ++ x ∷ []
  one_more x space =
      let written = set places ((first + count) % N) x in
      let long' = length-set places ((first + count) % N) x ∙ long in
      let old = length-items_in N first count places within few long in
      let new = length-items_in N first (count + 1) written within (omega arith) long' in
      let place = remainder N (first + count) (omega arith) in
      same_lists _ _ (grind (arith, common_steps)) (λ i d lt. grind (
        arith,
        common_steps,
        remainder N (first + i) (omega arith),
        get_or-items_in N first count places within few long i d,
        get_or-items_in N first (count + 1) written within (omega arith) long' i d,
      ))

  -- the ring from the next place on has all items but the first
  pub one_less : 0 < count → items_in places ((first + 1) % N) (count - 1) ≡ drop 1 (items_in places first count)
  one_less some =
      let next : (first + 1) % N < N = grind (arith, remainder N (first + 1) (omega arith)) in
      let old = length-items_in N first count places within few long in
      let new = length-items_in N ((first + 1) % N) (count - 1) places next (omega arith) long in
      same_lists _ _ (simp length-drop (omega arith)) (λ i d lt. grind (
        arith,
        length-drop 1 (items_in places first count),
        get_or-drop 1 (items_in places first count) i d,
        mod-add-mod (first + 1) N i,
        get_or-items_in N first count places within few long (1 + i) d,
        get_or-items_in N _ (count - 1) places next (omega arith) long i d,
      ))
