-- What a block has that passes; that a written one does; and that one byte changed is seen.
use Rattle.std.proofs.Common.{◌≡◌, ◌≢◌, ◌==◌, ℕ, zero, suc, ◌+◌, ◌-◌, ◌*◌, ◌<◌, ◌≤◌, ◌⊎◌, Bool, true, false, not, ◌||◌, cond, List, [], ◌∷◌, ◌++◌, length, get_or, take, drop, set, replicate, slice_range, Some, None, Option, refl, sym, ap, ◌∙◌, ⊎_elim, inl, inr, arith, length-drop, length-take-le, length-set, take-append-drop, get_or-take}
use Rattle.std.proofs.Math.Seq.{take-set-lt}
use Rattle.std.proofs.lemmas.Bool.{eqb-true, leb-true, ltb-true, eq-eqb, lt-ltb, le-leb, ne_eqb, and_parts, and_from, or_cases, or_left, or_right, cases_lt, cases_eq}
use Rattle.std.proofs.lemmas.List.{take-set-le, get_or-set_same, get_or-set_other, drop_at}
use Rattle.std.specs.List.{list_all}
use Rattle.blocks.specs.declared.block.Block.{Block}
use Rattle.blocks.specs.declared.block_test.Expected.{Expected}
use Rattle.blocks.specs.declared.block_test.Expected.TheVariants.{First, Next}
use Rattle.blocks.specs.declared.fault.BlockFault.{BlockFault}
use Rattle.blocks.specs.declared.fault.BlockFault.TheVariants.{WrongLength, WrongCheck, WrongNumber, WrongVersion, WrongData}
use Rattle.blocks.specs.Checks.{check_of}
use Rattle.blocks.specs.Blocks.{block_bytes, bytes_of, IsImageBlock}
use Rattle.blocks.specs.Tests.{number_at, has_number, is_numbered, has_version, is_filled, first_fault, IsExpected, PassesAs}
use Rattle.blocks.specs.OneByte.{NoByteHides}
use Rattle.blocks.proofs.Divisors.{check_moves}
use Rattle.blocks.proofs.Places.{length-block_bytes, take-block_bytes, version_at, number_at_2, count_at, used_at, check_at, places_at, block_bytes_from}

-- five tests in a row
abbrev row : Bool → Bool → Bool → Bool → Bool → Option BlockFault
row a b c d e =
    cond (not a) (Some WrongLength) (cond (not b) (Some WrongCheck) (cond (not c) (Some WrongNumber) (cond (not d) (Some WrongVersion) (cond (not e) (Some WrongData) None))))

row_none : (a b c d e : Bool) → row a b c d e ≡ None → (a ≡ true) × (b ≡ true) × (c ≡ true) × (d ≡ true) × (e ≡ true)
row_none false b c d e h = cc
row_none true false c d e h = cc
row_none true true false d e h = cc
row_none true true true false e h = cc
row_none true true true true false h = cc
row_none true true true true true h = (refl, refl, refl, refl, refl)

zeros : (n : ℕ) → list_all (λ b. b == 0) (replicate n 0) ≡ true
zeros zero = refl
zeros (suc n) = zeros n

zeros_from : (xs : List ℕ) → list_all (λ b. b == 0) xs ≡ true → xs ≡ replicate (length xs) 0
zeros_from [] e = refl
zeros_from (x ∷ xs) e =
    let p = and_parts (x == 0) (list_all (λ b. b == 0) xs) e in
    λ i. eqb-true x 0 p.0 i ∷ zeros_from xs p.1 i

numbered : (e : Expected) (number count : ℕ) → is_numbered e number count ≡ true → (number < count) × (count ≤ 15)
numbered e number count h =
    let p = and_parts _ _ h in
    (ltb-true _ _ (and_parts _ _ p.0).1, leb-true _ _ p.1)

module _ (bs : List ℕ) (e : Expected) (none : first_fault bs e ≡ None) where
  parts : (length bs == 512 ≡ true) × (number_at bs 510 == check_of (take 510 bs) ≡ true) × (is_numbered e (number_at bs 2) (number_at bs 4) ≡ true) × (has_version e (number_at bs 0) ≡ true) × (is_filled (slice_range bs 8 510) (number_at bs 6) (number_at bs 2 + 1 == number_at bs 4) ≡ true)
  parts = row_none (length bs == 512) (number_at bs 510 == check_of (take 510 bs)) (is_numbered e (number_at bs 2) (number_at bs 4)) (has_version e (number_at bs 0)) (is_filled (slice_range bs 8 510) (number_at bs 6) (number_at bs 2 + 1 == number_at bs 4)) none

  long : length bs ≡ 512
  long = eqb-true _ _ parts.0

  sums : number_at bs 510 ≡ check_of (take 510 bs)
  sums = eqb-true _ _ parts.1

  length-places : length (slice_range bs 8 510) ≡ 502
  length-places = let l = long in length-take-le 502 (drop 8 bs) (simp length-drop (omega arith))

  used : (0 < number_at bs 6) × (number_at bs 6 ≤ 502) × ((number_at bs 2 + 1 ≡ number_at bs 4) ⊎ (number_at bs 6 ≡ 502)) × (list_all (λ b. b == 0) (drop (number_at bs 6) (slice_range bs 8 510)) ≡ true)
  used =
      let p = and_parts _ _ parts.4 in
      let q = and_parts _ _ p.0 in
      let r = and_parts _ _ q.0 in
      (ltb-true _ _ r.0, leb-true _ _ r.1, ⊎_elim (λ h. inl (eqb-true _ _ h)) (λ h. inr (eqb-true _ _ h)) (or_cases _ _ q.1), p.1)

  length-data : length (take (number_at bs 6) (slice_range bs 8 510)) ≡ number_at bs 6
  length-data = let l = length-places in let u = used in length-take-le _ (slice_range bs 8 510) (omega arith)

  -- it is the block of what it says
  pub says : ((i : ℕ) → get_or bs i 0 < 256) → (v n c : ℕ) (d : List ℕ) → v ≡ number_at bs 0 → n ≡ number_at bs 2 → c ≡ number_at bs 4 → d ≡ take (number_at bs 6) (slice_range bs 8 510) → block_bytes v n c d ≡ bs
  says w v n c d version_is number_is count_is data_is =
      let xs = slice_range bs 8 510 in
      let ds = take (number_at bs 6) xs in
      let few : length (drop (number_at bs 6) xs) ≡ 502 - length ds = let l = length-places in let k = length-data in simp length-drop (omega arith) in
      let split : xs ≡ ds ++ replicate (502 - length ds) 0 = sym (take-append-drop (number_at bs 6) xs) ∙ ap (λ z. ds ++ z) (zeros_from _ used.3 ∙ ap (λ n. replicate n 0) few) in
      (λ i. block_bytes (version_is i) (number_is i) (count_is i) (data_is i))
      ∙ block_bytes_from bs long w ds length-data split sums

  pub of_image : (b : Block) → b.number ≡ number_at bs 2 → b.count ≡ number_at bs 4 → b.«data».now ≡ take (number_at bs 6) (slice_range bs 8 510) → IsImageBlock b
  of_image b number_is count_is data_is =
      let n = numbered e (number_at bs 2) (number_at bs 4) parts.2 in
      let l : length b.«data».now ≡ number_at bs 6 = ap length data_is ∙ length-data in
      let u = used in
      record {
        below = omega arith;
        most = omega arith;
        has_data = (omega arith, omega arith);
        full = ⊎_elim (λ h. inl (omega arith)) (λ h. inr (l ∙ h)) u.2;
      }

  -- the check's own two bytes
  tail_moves : ((i : ℕ) → get_or bs i 0 < 256) → (k b : ℕ) → 510 ≤ k → k < 512 → b < 256 → b ≢ get_or bs k 0 → number_at (set bs k b) 510 ≢ number_at bs 510
  tail_moves w k b ge lt new ne s =
      let ys = set bs k b in
      let l = long in
      let same : get_or ys k 0 ≡ b = get_or-set_same bs k b 0 (omega arith) in
      let w1 = w 511 in
      ⊎_elim
      (λ e. let p : get_or ys 510 0 ≡ b = ap (λ j. get_or ys j 0) (sym e) ∙ same in let o : 511 ≢ k = omega arith in let q = get_or-set_other bs k 511 b 0 o in let a : get_or bs k 0 ≡ get_or bs 510 0 = ap (λ j. get_or bs j 0) e in ne (omega arith))
      (λ n. let e : k ≡ 511 = omega arith in let p : get_or ys 511 0 ≡ b = ap (λ j. get_or ys j 0) (sym e) ∙ same in let o : 510 ≢ k = omega arith in let q = get_or-set_other bs k 510 b 0 o in let a : get_or bs k 0 ≡ get_or bs 511 0 = ap (λ j. get_or bs j 0) e in ne (omega arith))
      (cases_eq k 510)

  wrong_check : (ys : List ℕ) (f : Expected) → length ys ≡ 512 → number_at ys 510 ≢ check_of (take 510 ys) → first_fault ys f ≡ Some WrongCheck
  wrong_check ys f l h =
      (λ i. row (eq-eqb _ _ l i) (ne_eqb _ _ h i) (is_numbered f (number_at ys 2) (number_at ys 4)) (has_version f (number_at ys 0)) (is_filled (slice_range ys 8 510) (number_at ys 6) (number_at ys 2 + 1 == number_at ys 4)))

  pub no_byte_hides : ((i : ℕ) → get_or bs i 0 < 256) → NoByteHides bs
  no_byte_hides w k b lt new ne f =
      let ys = set bs k b in
      let l = long in
      wrong_check ys f (length-set bs k b ∙ long)
      (λ e. ⊎_elim
      (λ in_front.
      let o : 510 ≢ k = omega arith in
      let o' : 511 ≢ k = omega arith in
      let p : get_or ys 510 0 ≡ get_or bs 510 0 = get_or-set_other bs k 510 b 0 o in
      let q : get_or ys 511 0 ≡ get_or bs 511 0 = get_or-set_other bs k 511 b 0 o' in
      let t : length (take 510 bs) ≡ 510 = length-take-le 510 bs (omega arith) in
      let s : check_of (take 510 ys) ≡ check_of (take 510 bs) = sym e ∙ (λ i. p i * 256 + q i) ∙ sums in
      let at : get_or (take 510 bs) k 0 ≡ get_or bs k 0 = get_or-take 510 bs k 0 in_front in
      check_moves (take 510 bs) k b (omega arith) (omega arith) (omega (arith, w k)) new (λ x. ne (x ∙ at)) (ap check_of (sym (take-set-lt 510 bs k b in_front)) ∙ s))
      (λ behind. tail_moves w k b behind lt new ne (e ∙ ap check_of (take-set-le 510 bs k b behind) ∙ sym sums))
      (cases_lt k 510))

expected_number : (e : Expected) (b : Block) → IsExpected e b → has_number e b.number b.count ≡ true
expected_number First b h = eq-eqb _ _ h
expected_number (Next n c v) b h = and_from _ _ (eq-eqb _ _ h.0) (eq-eqb _ _ h.1)

expected_numbered : (e : Expected) (b : Block) → IsImageBlock b → IsExpected e b → is_numbered e b.number b.count ≡ true
expected_numbered e b f h =
    and_from _ _ (and_from _ _ (expected_number e b h) (lt-ltb _ _ f.below)) (le-leb _ _ f.most)

expected_version : (e : Expected) (b : Block) → IsExpected e b → has_version e b.version ≡ true
expected_version First b h = refl
expected_version (Next n c v) b h = eq-eqb _ _ h.2

-- a written block of an image passes where it is expected
pub written_passes : (b : Block) → PassesAs b (bytes_of b)
written_passes b f e h =
    let v = b.version in
    let n = b.number in
    let c = b.count in
    let ds = b.«data».now in
    let xs = bytes_of b in
    let z = replicate (502 - length ds) 0 in
    let has_length : length xs == 512 ≡ true = eq-eqb _ _ (length-block_bytes v n c ds f.has_data.1) in
    let has_check : number_at xs 510 == check_of (take 510 xs) ≡ true = eq-eqb _ _ (check_at v n c ds f.has_data.1 ∙ ap check_of (sym (take-block_bytes v n c ds f.has_data.1))) in
    let full : (n + 1 == c || length ds == 502) ≡ true = ⊎_elim (λ p. or_left _ _ (eq-eqb _ _ p)) (λ p. or_right _ _ (eq-eqb _ _ p)) f.full in
    let filler : list_all (λ b. b == 0) (drop (length ds) (ds ++ z)) ≡ true = ap (list_all (λ b. b == 0)) (drop_at ds z (length ds) refl) ∙ zeros (502 - length ds) in
    let filled : is_filled (ds ++ z) (length ds) (n + 1 == c) ≡ true = and_from _ _ (and_from _ _ (and_from _ _ (lt-ltb _ _ f.has_data.0) (le-leb _ _ f.has_data.1)) full) filler in
    (λ i. row (has_length i) (has_check i) (is_numbered e (number_at_2 v n c ds i) (count_at v n c ds i)) (has_version e (version_at v n c ds i)) (is_filled (places_at v n c ds f.has_data.1 i) (used_at v n c ds i) (number_at_2 v n c ds i + 1 == count_at v n c ds i)))
    ∙ (λ i. row true true (expected_numbered e b f h i) (expected_version e b h i) (filled i))
