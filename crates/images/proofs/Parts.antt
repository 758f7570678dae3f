-- The parts of an image's data, and blocks back to back.
use Rattle.std.proofs.Common.{◌≡◌, ℕ, zero, suc, ◌+◌, ◌-◌, ◌*◌, min, List, ◌++◌, length, take, drop, sym, refl, ap, ◌∙◌, append_assoc, arith, length-append, length-drop, length-take, Ok, Err, Result, ◌⊎◌, inl, inr, slice_range, replicate, ◌<◌, ◌≤◌, []}
use Rattle.std.proofs.lemmas.List.{append-nil, drop-drop, drop-take, drop_at, take-take, take_all, take_at, take_min, take_rest}
use borrow.Rule.Slice.PartMut.{put_mid}
use Rattle.blocks.specs.Blocks.{HasData, BlockWrote, bytes_of, block_bytes}
use Rattle.blocks.specs.declared.block.Block.{Block}
use Rattle.blocks.specs.declared.block.Unwritten.{Unwritten}
use Rattle.blocks.specs.declared.block.Unwritten.TheVariants.{WrongData, WrongLength}
use Rattle.blocks.proofs.Places.{length-block_bytes, version_at, number_at_2, count_at, used_at, places_at}
use Rattle.blocks.specs.Tests.{number_at}
use Rattle.images.specs.Images.{part, blocks_from}

pub length_part : (ds : List ℕ) (k : ℕ) → length (part ds k) ≡ min 502 (length ds - 502 * k)
length_part ds k = length-take 502 (drop (502 * k) ds) ∙ ap (min 502) (length-drop (502 * k) ds)

-- the part that ends after 502 bytes or where the data do
pub cut_part : (ds : List ℕ) (k m : ℕ) → m ≡ min (length (take (length ds - 502 * k) (drop (502 * k) ds))) 502 → take m (take (length ds - 502 * k) (drop (502 * k) ds)) ≡ part ds k
cut_part ds k m e =
    let d = drop (502 * k) ds in
    let all = take_rest ds (502 * k) in
    let same = ap length all in
    let l : m ≡ min 502 (length d) = omega arith in
    (λ i. take (l i) (all i)) ∙ take_min 502 d

-- a block that has data is written over 512 bytes
pub wrote : (b : Block) (old new : List ℕ) (r : Result (Unit {0}) Unwritten) → HasData b → length old ≡ 512 → BlockWrote b old new r → new ≡ bytes_of b
wrote b old new (Ok _) h l w = w.2
wrote b old new (Err WrongData) h l w = absurd (w.0 h)
wrote b old new (Err WrongLength) h l w = absurd (w.1 l)

module _ (v c : ℕ) (ds : List ℕ) where
  -- the block of a number
  abbrev pub block : ℕ → List ℕ
  block k = block_bytes v k c (part ds k)

  pub length_block : (k : ℕ) → length (block k) ≡ 512
  length_block k = length-block_bytes v k c (part ds k) (let l = length_part ds k in omega arith)

  pub length_blocks : (n m : ℕ) → length (blocks_from v c ds n m) ≡ 512 * m
  length_blocks n zero = refl
  length_blocks n (suc m) =
      let a = length-append (block n) (blocks_from v c ds (n + 1) m) in
      let b = length_blocks (n + 1) m in
      let d = length_block n in
      omega arith

  -- one block more
  pub block_more : (n m k : ℕ) → n + m ≡ k → blocks_from v c ds n (m + 1) ≡ blocks_from v c ds n m ++ block k
  block_more n zero k e = let z : n ≡ k = omega arith in append-nil (block n) ∙ ap block z
  block_more n (suc m) k e =
      let s : suc m + 1 ≡ suc (m + 1) = omega arith in
      ap (blocks_from v c ds n) s ∙ ap (λ b. block n ++ b) (block_more (n + 1) m k (omega arith)) ∙ sym (append_assoc (block n) (blocks_from v c ds (n + 1) m) (block k))

  -- the next block, put behind those that were written
  pub put_next : (old now b : List ℕ) (k n : ℕ) → now ≡ blocks_from v c ds 0 k ++ drop (512 * k) old → n ≡ 512 → b ≡ block k → put_mid (512 * k) n now b ≡ blocks_from v c ds 0 (k + 1) ++ drop (512 * (k + 1)) old
  put_next old now b k n e l is =
      let p = blocks_from v c ds 0 k in
      let q = drop (512 * k) old in
      let long = length_blocks 0 k in
      let front : take (512 * k) now ≡ p = ap (take (512 * k)) e ∙ take_at p q (512 * k) long in
      let next : 512 * k + n ≡ 512 * (k + 1) = omega arith in
      let behind : drop n (drop (512 * k) now) ≡ drop (512 * (k + 1)) old = ap (λ x. drop n (drop (512 * k) x)) e ∙ ap (drop n) (drop_at p q (512 * k) long) ∙ drop-drop n (512 * k) old ∙ ap (λ x. drop x old) next in
      (λ i. front i ++ (is i ++ behind i)) ∙ sym (append_assoc p (block k) (drop (512 * (k + 1)) old)) ∙ ap (λ x. x ++ drop (512 * (k + 1)) old) (sym (block_more 0 k k (omega arith)))

  -- the block of a number, among all
  pub block_at : (n m k j : ℕ) → k < m → n + k ≡ j → take 512 (drop (512 * k) (blocks_from v c ds n m)) ≡ block j
  block_at n zero k j h e = absurd (omega arith)
  block_at n (suc m) zero j h e = let z : n ≡ j = omega arith in take_at (block n) (blocks_from v c ds (n + 1) m) 512 (length_block n) ∙ ap block z
  block_at n (suc m) (suc k) j h e =
      let ys = blocks_from v c ds (n + 1) m in
      let s : 512 * suc k ≡ 512 + 512 * k = omega arith in
      ap (λ i. take 512 (drop i (block n ++ ys))) s
      ∙ ap (take 512) (sym (drop-drop (512 * k) 512 (block n ++ ys)) ∙ ap (drop (512 * k)) (drop_at (block n) ys 512 (length_block n)))
      ∙ block_at (n + 1) m k j (omega arith) (omega arith)

-- data that begin with the same bytes have the same first blocks
same_part : (xs ys : List ℕ) (n k : ℕ) → k < n → take (502 * n) xs ≡ take (502 * n) ys → part xs k ≡ part ys k
same_part xs ys n k h e =
    let f : 502 * k + 502 ≤ 502 * n = omega arith in
    sym (drop-take (502 * k) 502 xs)
    ∙ ap (drop (502 * k)) (sym (take-take (502 * k + 502) (502 * n) xs f) ∙ ap (take (502 * k + 502)) e ∙ take-take (502 * k + 502) (502 * n) ys f)
    ∙ drop-take (502 * k) 502 ys

pub same_blocks : (v c : ℕ) (xs ys : List ℕ) (n m to : ℕ) → n + m ≡ to → take (502 * to) xs ≡ take (502 * to) ys → blocks_from v c xs n m ≡ blocks_from v c ys n m
same_blocks v c xs ys n zero to e s = refl
same_blocks v c xs ys n (suc m) to e s =
    let p = same_part xs ys to n (omega arith) s in
    let more = same_blocks v c xs ys (n + 1) m to (omega arith) s in
    λ i. block_bytes v n c (p i) ++ more i

-- a part behind those before it, where it is full or the last
pub part_behind : (n : ℕ) (xs used rest : List ℕ) → length xs ≡ 502 * n → length used ≤ 502 → (length used ≡ 502) ⊎ (rest ≡ []) → part ((xs ++ used) ++ rest) n ≡ used
part_behind n xs used rest l h f =
    ap (take 502) (ap (drop (502 * n)) (append_assoc xs used rest) ∙ drop_at xs (used ++ rest) (502 * n) l)
    ∙ elim f [
      | inl full ↦ take_at used rest 502 full
      | inr none ↦ ap (λ r. take 502 (used ++ r)) none ∙ ap (take 502) (append-nil used) ∙ take_all 502 used h
    ]

-- two blocks of the same bytes say the same
pub same_block : (v n c v' n' c' : ℕ) (ds ds' : List ℕ) → length ds ≤ 502 → length ds' ≤ 502 → block_bytes v n c ds ≡ block_bytes v' n' c' ds' → (v ≡ v') × (n ≡ n') × (c ≡ c') × (ds ≡ ds')
same_block v n c v' n' c' ds ds' h h' e =
    let l : length ds ≡ length ds' = sym (used_at v n c ds) ∙ ap (λ b. number_at b 6) e ∙ used_at v' n' c' ds' in
    let p = sym (places_at v n c ds h) ∙ ap (λ b. slice_range b 8 510) e ∙ places_at v' n' c' ds' h' in (
      sym (version_at v n c ds) ∙ ap (λ b. number_at b 0) e ∙ version_at v' n' c' ds',
      sym (number_at_2 v n c ds) ∙ ap (λ b. number_at b 2) e ∙ number_at_2 v' n' c' ds',
      sym (count_at v n c ds) ∙ ap (λ b. number_at b 4) e ∙ count_at v' n' c' ds',
      sym (take_at ds (replicate (502 - length ds) 0) (length ds) refl) ∙ ap (take (length ds)) p ∙ take_at ds' (replicate (502 - length ds') 0) (length ds) (sym l),
    )
