-- What changes of a table leave of the other rows.
use Rattle.std.proofs.Common.{◌≡◌, ℕ, suc, ◌<◌, ◌≤◌, Bool, true, false, cond, leb, ◌⊎◌, List, [], ◌∷◌, length, Some, None, Option, sym, refl, ap, ◌∙◌, inl, inr, arith}
use Rattle.std.proofs.lemmas.Bool.{le-leb, lt-leb, cond-true, cond-false, cases_lt, cases_order}
use Rattle.line_operators.specs.Rows.{orderly, found, with_row, put_in, without}
use Rattle.line_operators.specs.RowSteps.{found_past, found_first, found_before, with_past, with_first, with_before, without_past, without_first, without_before}
use Rattle.line_operators.specs.RowLaws.{parts}

module _ {E : Type 0} (rank : E → ℕ) where
  -- a row that was put in is found
  pub found_own : (e : E) (xs : List E) → found rank (rank e) (with_row rank e xs) ≡ Some e
  found_own e [] = found_first rank (rank e) e [] refl
  found_own e (x ∷ xs) =
      elim (cases_order (rank x) (rank e)) [
        | inl same ↦ ap (found rank (rank e)) (with_first rank e x xs same) ∙ found_first rank (rank e) e xs refl
        | inr other ↦ elim other [
          | inl below ↦ ap (found rank (rank e)) (with_past rank e x xs below) ∙ found_past rank (rank e) x (with_row rank e xs) below ∙ found_own e xs
          | inr above ↦ ap (found rank (rank e)) (with_before rank e x xs above) ∙ found_first rank (rank e) e (x ∷ xs) refl
        ]
      ]

  -- the others are found as before
  pub found_other : (k : ℕ) (e : E) (xs : List E) → (rank e ≡ k → ⊥) → found rank k (with_row rank e xs) ≡ found rank k xs
  found_other k e [] ne =
      elim (cases_lt (rank e) k) [ inl below ↦ found_past rank k e [] below | inr above ↦ found_before rank k e [] (elim (cases_order (rank e) k) [ inl same ↦ absurd (ne same) | inr o ↦ elim o [ inl l ↦ absurd (omega arith) | inr g ↦ g ] ]) ]
  found_other k e (x ∷ xs) ne =
      elim (cases_order (rank x) (rank e)) [
        | inl same ↦ ap (found rank k) (with_first rank e x xs same) ∙ elim (cases_order (rank e) k) [
          | inl is ↦ absurd (ne is)
          | inr o ↦ elim o [
            | inl below ↦ found_past rank k e xs below ∙ sym (found_past rank k x xs (omega arith))
            | inr above ↦ found_before rank k e xs above ∙ sym (found_before rank k x xs (omega arith))
          ]
        ]
        | inr other ↦ elim other [
          | inl below ↦ ap (found rank k) (with_past rank e x xs below) ∙ elim (cases_order (rank x) k) [
            | inl is ↦ found_first rank k x (with_row rank e xs) is ∙ sym (found_first rank k x xs is)
            | inr o ↦ elim o [
              | inl less ↦ found_past rank k x (with_row rank e xs) less ∙ found_other k e xs ne ∙ sym (found_past rank k x xs less)
              | inr more ↦ found_before rank k x (with_row rank e xs) more ∙ sym (found_before rank k x xs more)
            ]
          ]
          | inr above ↦ ap (found rank k) (with_before rank e x xs above) ∙ elim (cases_order (rank e) k) [
            | inl is ↦ absurd (ne is)
            | inr o ↦ elim o [
              | inl less ↦ found_past rank k e (x ∷ xs) less
              | inr more ↦ found_before rank k e (x ∷ xs) more ∙ sym (found_before rank k x xs (omega arith))
            ]
          ]
        ]
      ]

  -- a row takes a place more exactly where its rank is new
  pub length_known : (e o : E) (xs : List E) → found rank (rank e) xs ≡ Some o → length (with_row rank e xs) ≡ length xs
  length_known e o [] h = absurd (let z : ◌≡◌ {A = ℕ} 0 1 = cc in omega arith)
  length_known e o (x ∷ xs) h =
      elim (cases_order (rank x) (rank e)) [
        | inl same ↦ ap length (with_first rank e x xs same)
        | inr other ↦ elim other [
          | inl below ↦ ap length (with_past rank e x xs below) ∙ ap suc (length_known e o xs (sym (found_past rank (rank e) x xs below) ∙ h))
          | inr above ↦ absurd (let f = found_before rank (rank e) x xs above in let z : ◌≡◌ {A = ℕ} 0 1 = cc in omega arith)
        ]
      ]

  pub length_new : (e : E) (xs : List E) → found rank (rank e) xs ≡ None → length (with_row rank e xs) ≡ suc (length xs)
  length_new e [] h = refl
  length_new e (x ∷ xs) h =
      elim (cases_order (rank x) (rank e)) [
        | inl same ↦ absurd (let f = found_first rank (rank e) x xs same in let z : ◌≡◌ {A = ℕ} 0 1 = cc in omega arith)
        | inr other ↦ elim other [
          | inl below ↦ ap length (with_past rank e x xs below) ∙ ap suc (length_new e xs (sym (found_past rank (rank e) x xs below) ∙ h))
          | inr above ↦ ap length (with_before rank e x xs above)
        ]
      ]

  -- a row that finds a place is put in, and one that finds none is dropped
  pub put_fits : (most : ℕ) (e : E) (xs : List E) → length (with_row rank e xs) ≤ most → put_in rank most e xs ≡ with_row rank e xs
  put_fits most e xs h = cond-true (leb (length (with_row rank e xs)) most) (with_row rank e xs) xs (le-leb (length (with_row rank e xs)) most h)

  pub put_full : (most : ℕ) (e : E) (xs : List E) → most < length (with_row rank e xs) → put_in rank most e xs ≡ xs
  put_full most e xs h = cond-false (leb (length (with_row rank e xs)) most) (with_row rank e xs) xs (lt-leb (length (with_row rank e xs)) most h)

  -- it is then found; the others are found as before; and no row is lost
  pub put_own : (most : ℕ) (e : E) (xs : List E) → length (with_row rank e xs) ≤ most → found rank (rank e) (put_in rank most e xs) ≡ Some e
  put_own most e xs h = ap (found rank (rank e)) (put_fits most e xs h) ∙ found_own e xs

  pub put_other : (most k : ℕ) (e : E) (xs : List E) → (rank e ≡ k → ⊥) → found rank k (put_in rank most e xs) ≡ found rank k xs
  put_other most k e xs ne = go (leb (length (with_row rank e xs)) most)
    where
      go : (b : Bool) → found rank k (cond b (with_row rank e xs) xs) ≡ found rank k xs
      go true = found_other k e xs ne
      go false = refl

  pub put_longer : (most : ℕ) (e : E) (xs : List E) → length xs ≤ length (put_in rank most e xs)
  put_longer most e xs = go (leb (length (with_row rank e xs)) most)
    where
      longer : (o : Option E) → found rank (rank e) xs ≡ o → length xs ≤ length (with_row rank e xs)
      longer None h = let l = length_new e xs h in omega arith
      longer (Some o) h = let l = length_known e o xs h in omega arith

      go : (b : Bool) → length xs ≤ length (cond b (with_row rank e xs) xs)
      go true = longer (found rank (rank e) xs) refl
      go false = omega arith

  -- a row finds a place where one is free or its rank has a row
  pub room : (most : ℕ) (e : E) (xs : List E) → length xs ≤ most → (length xs < most) ⊎ ((o : E) × (found rank (rank e) xs ≡ Some o)) → length (with_row rank e xs) ≤ most
  room most e xs few (inr known) = let l = length_known e known.0 xs known.1 in omega arith
  room most e xs few (inl less) = go (found rank (rank e) xs) refl
    where
      go : (o : Option E) → found rank (rank e) xs ≡ o → length (with_row rank e xs) ≤ most
      go None h = let l = length_new e xs h in omega arith
      go (Some o) h = let l = length_known e o xs h in omega arith

  module _ (sound : E → Bool) where
    -- no row of a rank below all is found
    found_none : (n k : ℕ) (xs : List E) → orderly rank sound n xs ≡ true → k < n → found rank k xs ≡ None
    found_none n k [] h l = refl
    found_none n k (x ∷ xs) h l = let least = (parts rank sound n x xs h).least in found_before rank k x xs (omega arith)

    -- a row taken out is found no more
    pub found_gone : (n k : ℕ) (xs : List E) → orderly rank sound n xs ≡ true → found rank k (without rank k xs) ≡ None
    found_gone n k [] h = refl
    found_gone n k (x ∷ xs) h =
        let o = parts rank sound n x xs h in
        elim (cases_order (rank x) k) [
          | inl same ↦ ap (found rank k) (without_first rank k x xs same) ∙ found_none (suc (rank x)) k xs o.others (omega arith)
          | inr other ↦ elim other [
            | inl below ↦ ap (found rank k) (without_past rank k x xs below) ∙ found_past rank k x (without rank k xs) below ∙ found_gone (suc (rank x)) k xs o.others
            | inr above ↦ ap (found rank k) (without_before rank k x xs above) ∙ found_before rank k x xs above
          ]
        ]

    -- a row taken out leaves the others to be found as before
    pub found_without : (n j k : ℕ) (xs : List E) → orderly rank sound n xs ≡ true → (j ≡ k → ⊥) → found rank k (without rank j xs) ≡ found rank k xs
    found_without n j k [] h ne = refl
    found_without n j k (x ∷ xs) h ne =
        let o = parts rank sound n x xs h in
        elim (cases_order (rank x) j) [
          | inl same ↦ ap (found rank k) (without_first rank j x xs same) ∙ elim (cases_lt (rank x) k) [
            | inl below ↦ sym (found_past rank k x xs below)
            | inr above ↦ let past : k < rank x = elim (cases_order (rank x) k) [ inl is ↦ absurd (ne (omega arith)) | inr r ↦ elim r [ inl l ↦ absurd (omega arith) | inr g ↦ g ] ] in found_none (suc (rank x)) k xs o.others (omega arith) ∙ sym (found_before rank k x xs past)
          ]
          | inr other ↦ elim other [
            | inl below ↦ ap (found rank k) (without_past rank j x xs below) ∙ elim (cases_order (rank x) k) [
              | inl is ↦ found_first rank k x (without rank j xs) is ∙ sym (found_first rank k x xs is)
              | inr r ↦ elim r [
                | inl less ↦ found_past rank k x (without rank j xs) less ∙ found_without (suc (rank x)) j k xs o.others ne ∙ sym (found_past rank k x xs less)
                | inr more ↦ found_before rank k x (without rank j xs) more ∙ sym (found_before rank k x xs more)
              ]
            ]
            | inr above ↦ ap (found rank k) (without_before rank j x xs above)
          ]
        ]
