-- What keeps the rows in order, and that two tables never write the same bytes.
use Rattle.std.specs.Prelude.{◌≡◌, ℕ, suc, ◌+◌, ◌*◌, ◌≤◌, Bool, true, false, cond, ◌&&◌, List, [], ◌∷◌, length, take, drop, Option, nat_le, slice_index, refl}
use Rattle.std.proofs.Common.{sym, ap, ◌∙◌, inl, inr, arith, suc-mul, length-append}
use Rattle.std.proofs.lemmas.Bool.{le-leb, leb-true, and_parts, and_from, cases_order}
use Rattle.std.proofs.lemmas.List.{take_at, drop_at}
use Rattle.std.specs.List.{flat_map}
use Rattle.bodies.specs.Bodies.{BodyLaws}
use Rattle.line_operators.specs.Rows.{orderly, with_row, put_in, without, listing}
use Rattle.line_operators.specs.RowSteps.{with_past, with_first, with_before, without_past, without_first, without_before}

module _ {E : Type 0} (rank : E → ℕ) (sound : E → Bool) where
  pub record Orderly (n : ℕ) (x : E) (xs : List E) : Type 0 where
    pub fit : sound x ≡ true
    pub least : n ≤ rank x
    pub others : orderly rank sound (suc (rank x)) xs ≡ true

  pub parts : (n : ℕ) (x : E) (xs : List E) → orderly rank sound n (x ∷ xs) ≡ true → Orderly n x xs
  parts n x xs h =
      let p = and_parts (sound x) (nat_le n (rank x) && orderly rank sound (suc (rank x)) xs) h in
      let q = and_parts (nat_le n (rank x)) (orderly rank sound (suc (rank x)) xs) p.1 in
      record { fit = p.0; least = leb-true n (rank x) q.0; others = q.1 }

  pub from_parts : (n : ℕ) (x : E) (xs : List E) → Orderly n x xs → orderly rank sound n (x ∷ xs) ≡ true
  from_parts n x xs o =
      and_from (sound x) (nat_le n (rank x) && orderly rank sound (suc (rank x)) xs) o.fit
      (and_from (nat_le n (rank x)) (orderly rank sound (suc (rank x)) xs) (le-leb n (rank x) o.least) o.others)

  pub orderly_lower : (m n : ℕ) (xs : List E) → m ≤ n → orderly rank sound n xs ≡ true → orderly rank sound m xs ≡ true
  orderly_lower m n [] le h = refl
  orderly_lower m n (x ∷ xs) le h =
      let o = parts n x xs h in
      let l = o.least in
      from_parts m x xs (record { fit = o.fit; least = omega arith; others = o.others })

  pub with_orderly : (n : ℕ) (e : E) (xs : List E) → sound e ≡ true → n ≤ rank e → orderly rank sound n xs ≡ true → orderly rank sound n (with_row rank e xs) ≡ true
  with_orderly n e [] fit le h = from_parts n e [] (record { fit = fit; least = le; others = refl })
  with_orderly n e (x ∷ xs) fit le h =
      let o = parts n x xs h in
      let l = o.least in
      elim (cases_order (rank x) (rank e)) [
        | inl same ↦
            ap (orderly rank sound n) (with_first rank e x xs same)
            ∙ (from_parts n e xs (record { fit = fit; least = le; others = ap (λ r. orderly rank sound (suc r) xs) (sym same) ∙ o.others }))
        | inr other ↦ elim other [
          | inl below ↦
              ap (orderly rank sound n) (with_past rank e x xs below)
              ∙ (from_parts n x (with_row rank e xs) (record { fit = o.fit; least = l; others = with_orderly (suc (rank x)) e xs fit (omega arith) o.others }))
          | inr above ↦
              ap (orderly rank sound n) (with_before rank e x xs above)
              ∙ (from_parts n e (x ∷ xs) (record { fit = fit; least = le; others = from_parts (suc (rank e)) x xs (record { fit = o.fit; least = omega arith; others = o.others }) }))
        ]
      ]

  pub put_orderly : (n most : ℕ) (e : E) (xs : List E) → sound e ≡ true → n ≤ rank e → orderly rank sound n xs ≡ true → orderly rank sound n (put_in rank most e xs) ≡ true
  put_orderly n most e xs fit le h = go (nat_le (length (with_row rank e xs)) most)
    where
      go : (b : Bool) → orderly rank sound n (cond b (with_row rank e xs) xs) ≡ true
      go true = with_orderly n e xs fit le h
      go false = h

  pub without_orderly : (n k : ℕ) (xs : List E) → orderly rank sound n xs ≡ true → orderly rank sound n (without rank k xs) ≡ true
  without_orderly n k [] h = refl
  without_orderly n k (x ∷ xs) h =
      let o = parts n x xs h in
      let l = o.least in
      elim (cases_order (rank x) k) [
        | inl same ↦ ap (orderly rank sound n) (without_first rank k x xs same) ∙ orderly_lower n (suc (rank x)) xs (omega arith) o.others
        | inr other ↦ elim other [
          | inl below ↦ ap (orderly rank sound n) (without_past rank k x xs below) ∙ (from_parts n x (without rank k xs) (record { fit = o.fit; least = l; others = without_orderly (suc (rank x)) k xs o.others }))
          | inr above ↦ ap (orderly rank sound n) (without_before rank k x xs above) ∙ h
        ]
      ]

module _ {E : Type 0} (rank : E → ℕ) where
  pub without_short : (k : ℕ) (xs : List E) → length (without rank k xs) ≤ length xs
  without_short k [] = omega arith
  without_short k (x ∷ xs) =
      elim (cases_order (rank x) k) [
        | inl same ↦ let w = ap length (without_first rank k x xs same) in omega arith
        | inr o ↦ elim o [
          | inl below ↦ let w = ap length (without_past rank k x xs below) in let i = without_short k xs in omega arith
          | inr above ↦ let w = ap length (without_before rank k x xs above) in omega arith
        ]
      ]

module _ {E : Type 0} {size : ℕ} {bytes : E → List ℕ} {value : List ℕ → Option E} (laws : BodyLaws size bytes value) where
  pub joined_long : (xs : List E) → length (flat_map bytes xs) ≡ length xs * size
  joined_long [] = omega arith
  joined_long (x ∷ xs) = length-append (bytes x) (flat_map bytes xs) ∙ (λ i. laws.long x i + joined_long xs i) ∙ (let e = suc-mul (length xs) size in omega arith)

  -- rows of one length, cut apart again
  joined_apart : (xs ys : List E) → length xs ≡ length ys → flat_map bytes xs ≡ flat_map bytes ys → xs ≡ ys
  joined_apart [] [] l e = refl
  joined_apart [] (y ∷ ys) l e = absurd (omega arith)
  joined_apart (x ∷ xs) [] l e = absurd (omega arith)
  joined_apart (x ∷ xs) (y ∷ ys) l e =
      let head : bytes x ≡ bytes y = sym (take_at (bytes x) (flat_map bytes xs) size (laws.long x)) ∙ ap (take size) e ∙ take_at (bytes y) (flat_map bytes ys) size (laws.long y) in
      let tail : flat_map bytes xs ≡ flat_map bytes ys = sym (drop_at (bytes x) (flat_map bytes xs) size (laws.long x)) ∙ ap (drop size) e ∙ drop_at (bytes y) (flat_map bytes ys) size (laws.long y) in
      let a = laws.apart x y head in
      let b = joined_apart xs ys (omega arith) tail in
      λ i. a i ∷ b i

  pub listing_apart : (xs ys : List E) → listing bytes xs ≡ listing bytes ys → xs ≡ ys
  listing_apart xs ys e = joined_apart xs ys (ap (λ l. slice_index l 0) e) (ap (drop 1) e)
