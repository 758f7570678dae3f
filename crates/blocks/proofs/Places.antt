-- What stands where in a block.
use Rattle.std.proofs.Common.{◌≡◌, ℕ, ◌+◌, ◌-◌, ◌*◌, ◌/◌, ◌%◌, ◌<◌, ◌≤◌, List, [], ◌∷◌, ◌++◌, length, get_or, take, drop, replicate, slice_range, sym, ap, ◌∙◌, arith, length-append, length-drop, length-take-le, take-append-drop, take-take, get_or-take, get_or-drop}
use Rattle.std.proofs.lemmas.List.{length-replicate, take_at, drop-take, get_or-append_right}
use Rattle.std.proofs.lemmas.List.FromFn.{fill_by_all}
use Rattle.bodies.specs.Numbers.{be16}
use Rattle.blocks.specs.Checks.{check_of}
use Rattle.blocks.specs.Blocks.{checked_bytes, block_bytes}
use Rattle.blocks.specs.Tests.{number_at}

module _ (v n c : ℕ) (ds : List ℕ) where
  pub length_checked_bytes : length ds ≤ 502 → length (checked_bytes v n c ds) ≡ 510
  unfolding checked_bytes
  length_checked_bytes h = simp (length-append, length-replicate) (omega arith)

  pub length-block_bytes : length ds ≤ 502 → length (block_bytes v n c ds) ≡ 512
  unfolding block_bytes
  length-block_bytes h = let k = length_checked_bytes h in simp length-append (omega arith)

  pub take-block_bytes : length ds ≤ 502 → take 510 (block_bytes v n c ds) ≡ checked_bytes v n c ds
  unfolding block_bytes
  take-block_bytes h = take_at _ _ 510 (length_checked_bytes h)

  pub version_at : number_at (block_bytes v n c ds) 0 ≡ v
  unfolding checked_bytes block_bytes
  version_at = omega arith

  pub number_at_2 : number_at (block_bytes v n c ds) 2 ≡ n
  unfolding checked_bytes block_bytes
  number_at_2 = omega arith

  pub count_at : number_at (block_bytes v n c ds) 4 ≡ c
  unfolding checked_bytes block_bytes
  count_at = omega arith

  pub used_at : number_at (block_bytes v n c ds) 6 ≡ length ds
  unfolding checked_bytes block_bytes
  used_at = omega arith

  pub check_at : length ds ≤ 502 → number_at (block_bytes v n c ds) 510 ≡ check_of (checked_bytes v n c ds)
  unfolding block_bytes
  check_at h =
      let f = checked_bytes v n c ds in
      let s = check_of f in
      let a : get_or (f ++ be16 s) 510 0 ≡ s / 256 = get_or-append_right f (be16 s) 510 510 0 (length_checked_bytes h) (omega arith) in
      let b : get_or (f ++ be16 s) 511 0 ≡ s % 256 = get_or-append_right f (be16 s) 510 511 0 (length_checked_bytes h) (omega arith) in
      omega arith

  -- the data bytes
  pub places_at : length ds ≤ 502 → slice_range (block_bytes v n c ds) 8 510 ≡ ds ++ replicate (502 - length ds) 0
  unfolding checked_bytes
  places_at h = sym (drop-take 8 502 (block_bytes v n c ds)) ∙ ap (drop 8) (take-block_bytes h)

be16_at : (a b : ℕ) → b < 256 → be16 (a * 256 + b) ≡ a ∷ b ∷ []
be16_at a b h =
    let p : (a * 256 + b) / 256 ≡ a = omega arith in
    let q : (a * 256 + b) % 256 ≡ b = omega arith in
    λ i. p i ∷ q i ∷ []

module _ (bs : List ℕ) (long : length bs ≡ 512) (w : (i : ℕ) → get_or bs i 0 < 256) where
  -- eight bytes are the four numbers that they write
  header : be16 (number_at bs 0) ++ be16 (number_at bs 2) ++ be16 (number_at bs 4) ++ be16 (number_at bs 6) ≡ take 8 bs
  header =
      let g : ℕ → ℕ = λ j. get_or bs j 0 in
      (λ i. be16_at (g 0) (g 1) (w 1) i ++ be16_at (g 2) (g 3) (w 3) i ++ be16_at (g 4) (g 5) (w 5) i ++ be16_at (g 6) (g 7) (w 7) i)
      ∙ sym (fill_by_all g (take 8 bs) 8 0 (length-take-le 8 bs (omega arith)) (λ j k. get_or-take 8 bs j 0 k))

  -- 510 bytes whose filler is zero are those of what they say
  pub checked_bytes_from : (ds : List ℕ) → length ds ≡ number_at bs 6 → slice_range bs 8 510 ≡ ds ++ replicate (502 - length ds) 0 → checked_bytes (number_at bs 0) (number_at bs 2) (number_at bs 4) ds ≡ take 510 bs
  unfolding checked_bytes
  checked_bytes_from ds l p =
      let z : List ℕ = replicate (502 - length ds) 0 in
      (λ i. be16 (number_at bs 0) ++ be16 (number_at bs 2) ++ be16 (number_at bs 4) ++ be16 (l i) ++ ds ++ z)
      ∙ (λ i. header i ++ sym p i)
      ∙ (λ i. sym (take-take 8 510 bs (omega arith)) i ++ sym (drop-take 8 502 bs) i)
      ∙ take-append-drop 8 (take 510 bs)

  pub block_bytes_from : (ds : List ℕ) → length ds ≡ number_at bs 6 → slice_range bs 8 510 ≡ ds ++ replicate (502 - length ds) 0 → number_at bs 510 ≡ check_of (take 510 bs) → block_bytes (number_at bs 0) (number_at bs 2) (number_at bs 4) ds ≡ bs
  unfolding block_bytes
  block_bytes_from ds l p s =
      let f = checked_bytes_from ds l p in
      let g : ℕ → ℕ = λ j. get_or bs (510 + j) 0 in
      let t : drop 510 bs ≡ get_or bs 510 0 ∷ get_or bs 511 0 ∷ [] = fill_by_all g (drop 510 bs) 2 0 (simp length-drop (omega arith)) (λ j k. get_or-drop 510 bs j 0) in
      let u : be16 (number_at bs 510) ≡ get_or bs 510 0 ∷ get_or bs 511 0 ∷ [] = be16_at (get_or bs 510 0) (get_or bs 511 0) (w 511) in
      (λ i. f i ++ be16 (check_of (f i))) ∙ (λ i. take 510 bs ++ be16 (sym s i)) ∙ (λ i. take 510 bs ++ (u ∙ sym t) i) ∙ take-append-drop 510 bs
