-- Rings: how long they are, some gone from the front, one more behind the others, and numbers cut to their remainder.
use Rattle.std.proofs.Common.{◌≡◌, ℕ, zero, suc, ◌+◌, ◌-◌, ◌*◌, ◌/◌, ◌%◌, ◌<◌, ◌≤◌, List, [], ◌∷◌, ◌++◌, map, length, get_or, take, drop, sym, refl, ap, ◌∙◌, inl, inr, mul-le-mul_right, mod-lt, add-mul, div-add-mod', arith, length-take-le, take_at, drop_at}
use borrow.Rule.Slice.PartMut.{put_mid, post_of}
use Rattle.std.specs.List.{range_with_len}
use Rattle.std.proofs.lemmas.List.FromFn.{length-map-range_with_len, get_or-map-range_with_len, map-range_with_len_more}
use Rattle.std.proofs.lemmas.Bool.{cases_order}
use Rattle.std.proofs.lemmas.List.{drop-take}
use Rattle.std.proofs.lemmas.Slice.{take-put_mid_below, drop-put_mid}
use Rattle.numbered.specs.Rings.{at_place, ring}

-- numbers less than a modulus apart differ by it
pub apart : (p m n : ℕ) → m < n → n < m + p → m % p ≡ n % p → ⊥
apart p m n lt near e =
    let a = div-add-mod' m p in
    let b = div-add-mod' n p in
    elim (cases_order (m / p) (n / p)) [
      | inl same ↦ let s = ap (λ k. k * p) same in omega arith
      | inr other ↦ elim other [
        | inl less ↦ let s = mul-le-mul_right {m = m / p + 1} {n = n / p} p (omega arith) in let t = add-mul (m / p) 1 p in omega arith
        | inr more ↦ let s = mul-le-mul_right {m = n / p} {n = m / p} p (omega arith) in omega arith
      ]
    ]

-- a place ends where the next begins, or before
below : (r s size : ℕ) → r < s → r * size + size ≤ s * size
below r s size lt = let a = mul-le-mul_right {m = r + 1} {n = s} size (omega arith) in let b = add-mul r 1 size in omega arith

-- a number's place is one of the places
pub place_within : (places size n : ℕ) → 1 ≤ places → n % places * size + size ≤ places * size
place_within places size n some = below (n % places) places size (mod-lt n some)

-- functions that agree on consecutive numbers give one list
map_same : {X : Type 0} (f g : ℕ → X) (from count : ℕ) → ((n : ℕ) → from ≤ n → n < from + count → f n ≡ g n) → map f (range_with_len from count) ≡ map g (range_with_len from count)
map_same f g from zero h = refl
map_same f g from (suc k) h =
    let e = h from (omega arith) (omega arith) in
    let more = map_same f g (from + 1) k (λ n a b. h n (omega arith) (omega arith)) in
    λ i. e i ∷ more i

-- the first m gone
map_drop : {X : Type 0} (f : ℕ → X) (m from count : ℕ) → drop m (map f (range_with_len from count)) ≡ map f (range_with_len (from + m) (count - m))
map_drop f zero from count = let a : from ≡ from + 0 = omega arith in let b : count ≡ count - 0 = omega arith in λ i. map f (range_with_len (a i) (b i))
map_drop f (suc m) from zero = let b : zero ≡ zero - suc m = omega arith in ap (λ k. map f (range_with_len (from + suc m) k)) b
map_drop f (suc m) from (suc k) =
    let a : from + 1 + m ≡ from + suc m = omega arith in
    let b : k - m ≡ suc k - suc m = omega arith in
    map_drop f m (from + 1) k ∙ (λ i. map f (range_with_len (a i) (b i)))

module _ (places size : ℕ) where
  pub ring_length : (t : List ℕ) (from count : ℕ) → length (ring places size t from count) ≡ count
  ring_length t from count = length-map-range_with_len (at_place places size t) from count

  pub ring_drop : (t : List ℕ) (m from count : ℕ) → drop m (ring places size t from count) ≡ ring places size t (from + m) (count - m)
  ring_drop t m from count = map_drop (at_place places size t) m from count

  pub ring_at : (t : List ℕ) (from count j : ℕ) → j < count → get_or (ring places size t from count) j [] ≡ at_place places size t (from + j)
  ring_at t from count j h = get_or-map-range_with_len (at_place places size t) from count j (from + j) [] h refl

  -- a write over one place leaves the others
  other : (t ys : List ℕ) (at k m r : ℕ) → at ≡ r * size → k ≡ size → length ys ≡ size → r * size + size ≤ length t → (m ≡ r → ⊥) → take size (drop (m * size) (put_mid at k t ys)) ≡ take size (drop (m * size) t)
  other t ys at k m r e f l w ne =
      elim (cases_order m r) [
        | inl same ↦ absurd (ne same)
        | inr differ ↦ elim differ [
          | inl less ↦
              let b = below m r size less in
              sym (drop-take (m * size) size (put_mid at k t ys)) ∙ ap (drop (m * size)) (take-put_mid_below at k t ys (m * size + size) (omega arith) (omega arith)) ∙ drop-take (m * size) size t
          | inr more ↦ let b = below r m size more in ap (take size) (drop-put_mid at k t ys (m * size) (omega arith) (omega arith) (omega arith))
        ]
      ]

  -- and stands there
  same : (t ys : List ℕ) (at k r : ℕ) → at ≡ r * size → length ys ≡ size → r * size + size ≤ length t → take size (drop (r * size) (put_mid at k t ys)) ≡ ys
  same t ys at k r e l w =
      ap (take size) (drop_at (take at t) (ys ++ post_of at k t) (r * size) (length-take-le at t (omega arith) ∙ e)) ∙ take_at ys (post_of at k t) size l

  -- one more, written behind the others
  pub ring_push : (t ys : List ℕ) (at k from count : ℕ) → at ≡ (from + count) % places * size → k ≡ size → length ys ≡ size → places * size ≤ length t → count < places →
      ring places size (put_mid at k t ys) from (count + 1) ≡ ring places size t from count ++ (ys ∷ [])
  ring_push t ys at k from count e f l w lt =
      let n = from + count in
      let inside = place_within places size n (omega arith) in
      let u = put_mid at k t ys in
      let others = map_same (at_place places size u) (at_place places size t) from count (λ j h g. other t ys at k (j % places) (n % places) e f l (omega arith) (apart places j n (omega arith) (omega arith))) in
      let last = same t ys at k (n % places) e l (omega arith) in
      map-range_with_len_more (at_place places size u) from count n refl ∙ (λ i. others i ++ (last i ∷ []))
