-- What order tells of rows: each is sound and past those before it.
use Rattle.std.proofs.Common.{◌≡◌, ℕ, zero, suc, ◌+◌, ◌<◌, ◌≤◌, Bool, true, false, ltb, List, [], ◌∷◌, length, get_or, Some, None, Option, MatchOption, Err, sym, refl, ◌∙◌, inl, inr, add-one, arith}
use Rattle.std.proofs.lemmas.Bool.{and_from, and_parts, ltb-true, ltb-false, cases_Bool, both_ways}
use Rattle.std.proofs.lemmas.List.Sums.{AllPass-from_list_all}
use Rattle.std.specs.List.{AllWithin, HoldsAt, IsAllAdjacentAnswer, list_all}
use Rattle.line_operators.specs.Rows.{orderly}
use Rattle.line_operators.specs.RowLaws.{parts, from_parts}
use Rattle.line_operators.specs.Places.{Place, Before}

module _ {E : Type 0} (rank : E → ℕ) (sound : E → Bool) where
  pub orderly_sound : (n : ℕ) (xs : List E) → orderly rank sound n xs ≡ true → list_all sound xs ≡ true
  orderly_sound n [] h = refl
  orderly_sound n (x ∷ xs) h = let o = parts rank sound n x xs h in and_from (sound x) (list_all sound xs) o.fit (orderly_sound (suc (rank x)) xs o.others)

  orderly_least : (n j : ℕ) (xs : List E) (d : E) → orderly rank sound n xs ≡ true → j < length xs → n ≤ rank (get_or xs j d)
  orderly_least n j [] d h l = absurd (omega arith)
  orderly_least n zero (x ∷ xs) d h l = (parts rank sound n x xs h).least
  orderly_least n (suc j) (x ∷ xs) d h l = let o = parts rank sound n x xs h in let m = orderly_least (suc (rank x)) j xs d o.others (omega arith) in omega (arith, o.least)

  pub orderly_rises : (n i j : ℕ) (xs : List E) (d : E) → orderly rank sound n xs ≡ true → i < j → j < length xs → rank (get_or xs i d) < rank (get_or xs j d)
  orderly_rises n i j [] d h lt l = absurd (omega arith)
  orderly_rises n i zero (x ∷ xs) d h lt l = absurd (omega arith)
  orderly_rises n zero (suc j) (x ∷ xs) d h lt l = orderly_least (suc (rank x)) j xs d (parts rank sound n x xs h).others (omega arith)
  orderly_rises n (suc i) (suc j) (x ∷ xs) d h lt l = orderly_rises (suc (rank x)) i j xs d (parts rank sound n x xs h).others (omega arith) (omega arith)

  pub orderly_from : (n : ℕ) (xs : List E) → list_all sound xs ≡ true → ((d : E) → 0 < length xs → n ≤ rank (get_or xs 0 d)) → ((j : ℕ) (d : E) → suc j < length xs → rank (get_or xs j d) < rank (get_or xs (suc j) d)) → orderly rank sound n xs ≡ true
  orderly_from n [] fit least up = refl
  orderly_from n (x ∷ xs) fit least up =
      let p = and_parts (sound x) (list_all sound xs) fit in
      from_parts rank sound n x xs (record { fit = p.0; least = least x (omega arith); others = orderly_from (suc (rank x)) xs p.1 (λ d l. up 0 d (omega arith)) (λ j d l. up (suc j) d (omega arith)) })

  -- rows of which one is not sound are not in order
  pub not_sound : (xs : List E) → list_all sound xs ≡ false → false ≡ orderly rank sound 0 xs
  not_sound xs bad =
      elim (cases_Bool (orderly rank sound 0 xs)) [
        | inl up ↦ absurd (both_ways (list_all sound xs) bad (orderly_sound 0 xs up))
        | inr down ↦ sym down
      ]

  -- sound rows are in order just where each is below the next
  pub in_order_is : (xs : List E) (below : E → E → Bool) → ((x y : E) → sound x ≡ true → sound y ≡ true → below x y ≡ ltb (rank x) (rank y)) → list_all sound xs ≡ true → (r : Bool) → IsAllAdjacentAnswer (λ x y b. b ≡ below x y) xs r → r ≡ orderly rank sound 0 xs
  in_order_is xs below by fit true up =
      sym (orderly_from 0 xs fit (λ d l. omega arith)
      (λ j d l.
      let a = get_or xs j d in
      let b = get_or xs (suc j) d in
      ltb-true (rank a) (rank b) (sym (by a b (AllPass-from_list_all sound xs fit j d (omega arith)) (AllPass-from_list_all sound xs fit (suc j) d l)) ∙ sym (rw add-one at (up j d (omega arith))))))
  in_order_is [] below by fit false (k, lt, down) = absurd (omega arith)
  in_order_is (x ∷ xs) below by fit false (k, lt, down) =
      elim (cases_Bool (orderly rank sound 0 (x ∷ xs))) [
        | inl up ↦
            let a = get_or (x ∷ xs) k x in
            let b = get_or (x ∷ xs) (k + 1) x in
            let le = ltb-false (rank a) (rank b) (sym (by a b (AllPass-from_list_all sound (x ∷ xs) fit k x (omega arith)) (AllPass-from_list_all sound (x ∷ xs) fit (k + 1) x lt)) ∙ sym (down x)) in
            absurd (omega (arith, orderly_rises 0 k (k + 1) (x ∷ xs) x up (omega arith) lt))
        | inr unordered ↦ sym unordered
      ]

  -- what a test tells of a row if the row is sound: it is below rank k, or it is not
  abbrev pub IsBelow : ℕ → E → Type 0
  IsBelow k e = sound e ≡ true → rank e < k

  abbrev pub IsNotBelow : ℕ → E → Type 0
  IsNotBelow k e = sound e ≡ true → k ≤ rank e

  -- where a search for the first row that is not below rank k stops
  abbrev pub Stops : ℕ → List E → Option ℕ → Type 0
  Stops k xs None = Place rank k xs (Err (length xs))
  Stops k xs (Some i) = (i < length xs) × Before rank k i xs × HoldsAt (λ e. (sound e ≡ true) × (k ≤ rank e)) xs i

  pub searched : (k : ℕ) (xs : List E) → orderly rank sound 0 xs ≡ true → (r : Option ℕ) → MatchOption r (AllWithin (IsBelow k) xs 0 (length xs)) (λ i. (i < length xs) × HoldsAt (IsNotBelow k) xs i × AllWithin (IsBelow k) xs 0 i) → Stops k xs r
  searched k xs up None below = (omega arith, λ j d l. below j d (omega arith) l (AllPass-from_list_all sound xs (orderly_sound 0 xs up) j d l), λ d l. absurd (omega (arith, l)))
  searched k xs up (Some i) (within, not_below, below) =
      let fit = AllPass-from_list_all sound xs (orderly_sound 0 xs up) in
      (within, λ j d l. below j d (omega arith) l (fit j d (omega (arith, l, within))), λ d. (fit i d within, not_below d (fit i d within)))
