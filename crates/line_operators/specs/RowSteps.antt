-- What finding, putting in and taking out do at the first row, by how it stands to a rank.
use Rattle.std.specs.Prelude.{◌≡◌, ℕ, ◌<◌, List, ◌∷◌, Some, None}
use Rattle.std.proofs.Common.{arith}
use Rattle.std.proofs.lemmas.Bool.{lt-ltb, le-ltb, eq-eqb, ne_eqb}
use Rattle.line_operators.specs.Rows.{found, with_row, without}

module _ {E : Type 0} (rank : E → ℕ) where
  pub found_past : (k : ℕ) (x : E) (xs : List E) → rank x < k → found rank k (x ∷ xs) ≡ found rank k xs
  found_past k x xs h = rw (lt-ltb (rank x) k h)

  pub found_first : (k : ℕ) (x : E) (xs : List E) → rank x ≡ k → found rank k (x ∷ xs) ≡ Some x
  found_first k x xs h = rw (le-ltb (rank x) k (omega arith), eq-eqb (rank x) k h)

  pub found_before : (k : ℕ) (x : E) (xs : List E) → k < rank x → found rank k (x ∷ xs) ≡ None
  found_before k x xs h = rw (le-ltb (rank x) k (omega arith), ne_eqb (rank x) k (λ q. omega arith))

  pub with_past : (e x : E) (xs : List E) → rank x < rank e → with_row rank e (x ∷ xs) ≡ x ∷ with_row rank e xs
  with_past e x xs h = rw (lt-ltb (rank x) (rank e) h)

  pub with_first : (e x : E) (xs : List E) → rank x ≡ rank e → with_row rank e (x ∷ xs) ≡ e ∷ xs
  with_first e x xs h = rw (le-ltb (rank x) (rank e) (omega arith), eq-eqb (rank x) (rank e) h)

  pub with_before : (e x : E) (xs : List E) → rank e < rank x → with_row rank e (x ∷ xs) ≡ e ∷ x ∷ xs
  with_before e x xs h = rw (le-ltb (rank x) (rank e) (omega arith), ne_eqb (rank x) (rank e) (λ q. omega arith))

  pub without_past : (k : ℕ) (x : E) (xs : List E) → rank x < k → without rank k (x ∷ xs) ≡ x ∷ without rank k xs
  without_past k x xs h = rw (lt-ltb (rank x) k h)

  pub without_first : (k : ℕ) (x : E) (xs : List E) → rank x ≡ k → without rank k (x ∷ xs) ≡ xs
  without_first k x xs h = rw (le-ltb (rank x) k (omega arith), eq-eqb (rank x) k h)

  pub without_before : (k : ℕ) (x : E) (xs : List E) → k < rank x → without rank k (x ∷ xs) ≡ x ∷ xs
  without_before k x xs h = rw (le-ltb (rank x) k (omega arith), ne_eqb (rank x) k (λ q. omega arith))
