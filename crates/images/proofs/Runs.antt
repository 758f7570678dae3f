-- An image of which blocks were taken, and one block more.
use Rattle.std.proofs.Common.{◌≡◌, ℕ, ◌+◌, ◌*◌, ◌<◌, ◌≤◌, ◌⊎◌, min, true, List, [], ◌++◌, length, take, drop, None, sym, refl, ap, subst, ◌∙◌, inl, inr, append_assoc, arith, length-take-le, Ok, Some}
use Rattle.std.proofs.Math.Seq.{take-add}
use Rattle.std.proofs.lemmas.List.{append-nil, take_at, drop_at, drop-drop, take_all, take_min}
use Rattle.blocks.specs.declared.block.Block.{Block}
use Rattle.blocks.specs.declared.block_test.Expected.{Expected}
use Rattle.blocks.specs.declared.block_test.Expected.TheVariants.{First, Next}
use Rattle.blocks.specs.Blocks.{block_bytes, bytes_of, IsImageBlock}
use Rattle.blocks.specs.Tests.{first_fault, IsExpected}
use Rattle.blocks.proofs.Places.{length-block_bytes}
use Rattle.blocks.proofs.Passing.{written_passes}
use Rattle.images.specs.Contents.{Contents, data_of, is_sound}
use Rattle.images.specs.Images.{count_of, part, blocks_from, image_bytes}
use Rattle.bodies.specs.Weights.{longest_body}
use Rattle.std.proofs.lemmas.Bool.{cases_lt}
use Rattle.images.specs.declared.complete.CompleteImage.{CompleteImage}
use Rattle.images.specs.declared.fault.ImageFault.{ImageFault}
use Rattle.images.specs.declared.fault.ImageFault.TheVariants.{InBlock, WrongContents, Unreadable, ShortMemory}
use Rattle.images.specs.Runs.{number_of, IsNext, AreTaken, GoesOn, Going, GoneOn}
use Rattle.images.specs.declared.take.Taken.{Taken}
use Rattle.images.specs.declared.take.Taken.TheVariants.{Open, Complete}
use Rattle.images.specs.Reads.{IsImage, ImageRead}
use Rattle.images.specs.Takes.{data_through, laid, held_in, memory_length, IsTaken, Took, Faulty}
use Rattle.images.proofs.Contents.{same_contents, length_sound}
use Rattle.images.proofs.Data.{length_through}
use Rattle.images.proofs.Parts.{length_part, length_blocks, block_more, block_at, same_blocks, part_behind, same_block}

pub expected_number : (e : Expected) (b : Block) → IsExpected e b → number_of e ≡ b.number
expected_number First b h = sym h
expected_number (Next n c v) b h = sym h.0

taken_front : (e : Expected) (b : Block) (blocks memory : List ℕ) → IsExpected e b → AreTaken blocks e memory → take (512 * b.number) blocks ≡ blocks_from b.version b.count memory 0 b.number
taken_front First b blocks memory h t = (λ i. take (512 * h i) blocks) ∙ (λ i. blocks_from b.version b.count memory 0 (sym h i))
taken_front (Next n c v) b blocks memory h t =
    (λ i. take (512 * h.0 i) blocks) ∙ t ∙ (λ i. blocks_from (sym h.2 i) (sym h.1 i) memory 0 (sym h.0 i))

pub block_long : (b : Block) (bytes : List ℕ) → IsImageBlock b → bytes_of b ≡ bytes → length bytes ≡ 512
block_long b bytes image is = ap length (sym is) ∙ length-block_bytes b.version b.number b.count b.«data».now image.has_data.1

module _ (e : Expected) (b : Block) (blocks old : List ℕ) (image : IsImageBlock b) (expected : IsExpected e b) (room : 502 * b.number ≤ length old) where
  abbrev n : ℕ
  n = b.number

  abbrev used : List ℕ
  used = b.«data».now

  -- the memory once the block's data are there, or just the data
  module _ (rest : List ℕ) (full : (length used ≡ 502) ⊎ (rest ≡ [])) where
    abbrev now : List ℕ
    now = data_through b old ++ rest

    kept : take (502 * n) now ≡ take (502 * n) old
    kept =
        let l = length-take-le (502 * n) old room in
        ap (take (502 * n)) (append_assoc (take (502 * n) old) used rest) ∙ take_at (take (502 * n) old) (used ++ rest) (502 * n) l

    -- with this block, the blocks taken are those of what lies there then
    pub taken_more : AreTaken blocks e old → bytes_of b ≡ take 512 (drop (512 * n) blocks) → take (512 * n + 512) blocks ≡ blocks_from b.version b.count now 0 (n + 1)
    taken_more taken here =
        let v = b.version in
        let c = b.count in
        let p = part_behind n (take (502 * n) old) used rest (length-take-le (502 * n) old room) image.has_data.1 full in
        take-add (512 * n) 512 blocks
        ∙ (λ i. (taken_front e b blocks old expected taken ∙ same_blocks v c old now 0 n n (omega arith) (sym kept)) i ++ sym here i)
        ∙ ap (λ x. blocks_from v c now 0 n ++ block_bytes v n c x) (sym p)
        ∙ sym (block_more v c now 0 n n (omega arith))

  -- the last block: they are the blocks of an image of just these data
  pub taken_all : AreTaken blocks e old → bytes_of b ≡ take 512 (drop (512 * n) blocks) → n + 1 ≡ b.count → length blocks ≤ 512 * n + 512 → blocks ≡ image_bytes b.version (data_through b old)
  taken_all taken here last end =
      let ds = data_through b old in
      let l = length_through b old room in
      let d = image.has_data in
      let count : b.count ≡ count_of ds = omega arith in
      let many : n + 1 ≡ count_of ds = omega arith in
      let z : ds ++ [] ≡ ds = append-nil ds in
      sym (take_all (512 * n + 512) blocks end) ∙ taken_more [] (inr refl) taken here ∙ (λ i. blocks_from b.version (count i) (z i) 0 (many i))

  module _ (v : ℕ) (ds : List ℕ) (some : 1 ≤ length ds) (on : GoesOn v ds e old) where
    goes_on : (n < count_of ds) × (take (502 * n) old ≡ take (502 * n) ds)
    goes_on = go e expected on
      where
        go : (e : Expected) → IsExpected e b → GoesOn v ds e old → (n < count_of ds) × (take (502 * n) old ≡ take (502 * n) ds)
        go First h on = (omega arith, (λ i. take (502 * h i) old) ∙ (λ i. take (502 * sym h i) ds))
        go (Next m c w) h on = (omega (arith, h.0, on.0), (λ i. take (502 * h.0 i) old) ∙ on.3 ∙ (λ i. take (502 * sym h.0 i) ds))

    -- the block is that of these data
    module _ (here : bytes_of b ≡ block_bytes v n (count_of ds) (part ds n)) where
      pub says : (b.version ≡ v) × (n ≡ n) × (b.count ≡ count_of ds) × (used ≡ part ds n)
      says = let l = length_part ds n in same_block b.version n b.count v n (count_of ds) used (part ds n) image.has_data.1 (omega arith) here

      pub through : data_through b old ≡ take (502 * n + 502) ds
      through = (λ i. goes_on.1 i ++ says.3 i) ∙ sym (take-add (502 * n) 502 ds)

      pub goes_further : (rest : List ℕ) → n + 1 < b.count → GoesOn v ds (Next (n + 1) b.count b.version) (data_through b old ++ rest)
      goes_further rest more =
          let s = says in
          let l = length_through b old room in
          let p = length_part ds n in
          let q = ap length s.3 in
          let f : 502 * (n + 1) ≡ 502 * n + 502 = omega arith in
          let long : length (data_through b old) ≡ 502 * n + 502 = omega (arith, s.2) in (
            omega (arith, s.2),
            s.2,
            s.0,
            ap (λ i. take i (data_through b old ++ rest)) f ∙ take_at (data_through b old) rest (502 * n + 502) long ∙ through ∙ ap (λ i. take i ds) (sym f),
          )

      pub through_all : n + 1 ≡ b.count → data_through b old ≡ ds
      through_all last = let s = says in through ∙ take_all (502 * n + 502) ds (omega (arith, s.2))

module _ (size : ℕ) (blocks first : List ℕ) where
  -- the next block of a written image
  pub written_here : (small : size ≤ longest_body) (v : ℕ) (c : Contents) → IsImage size v c blocks → (n : ℕ) → n < count_of (data_of c) → take 512 (drop (512 * n) blocks) ≡ block_bytes v n (count_of (data_of c)) (part (data_of c) n)
  written_here small v c image n h =
      ap (λ xs. take 512 (drop (512 * n) xs)) image.1 ∙ block_at v (count_of (data_of c)) (data_of c) 0 (count_of (data_of c)) n n h (omega arith)

  expects : (e : Expected) (memory : List ℕ) (v : ℕ) (ds : List ℕ) → 1 ≤ length ds → GoesOn v ds e memory → number_of e < count_of ds
  expects First memory v ds some on = omega arith
  expects (Next n c w) memory v ds some on = on.0

  is_expected : (e : Expected) (memory : List ℕ) (v : ℕ) (ds : List ℕ) (b : Block) → GoesOn v ds e memory → b.number ≡ number_of e → b.count ≡ count_of ds → b.version ≡ v → IsExpected e b
  is_expected First memory v ds b on n c w = n
  is_expected (Next m k u) memory v ds b on n c w = (n, c ∙ sym on.1, w ∙ sym on.2)

  -- passes
  pub passes_here : (small : size ≤ longest_body) (e : Expected) (memory : List ℕ) → Going size blocks first e memory → (v : ℕ) (c : Contents) → IsImage size v c blocks → first_fault (take 512 (drop (512 * number_of e) blocks)) e ≡ None
  passes_here small e memory going v c image =
      let ds = data_of c in
      let n = number_of e in
      let bounds = length_sound size c small image.0 in
      let on = going.on v c image in
      let h = expects e memory v ds (omega (arith, bounds.0)) on in
      let l = length_part ds n in
      let b : Block = record { version = v; number = n; count = count_of ds; «data» = record { ref_ptr = (0, 0); now = part ds n } } in
      let is : IsImageBlock b = record { below = h; most = omega (arith, bounds.1); has_data = (omega arith, omega arith); full = elim (cases_lt (n + 1) (count_of ds)) [ inl more ↦ inr (omega arith) | inr last ↦ inl (omega arith) ] } in
      ap (λ xs. first_fault xs e) (written_here small v c image n h) ∙ written_passes b is e (is_expected e memory v ds b on refl refl refl)

  module _ (small : size ≤ longest_body) (e : Expected) (old bytes : List ℕ) (going : Going size blocks first e old) (b : Block) (taken : IsTaken size e bytes old b) (is : bytes ≡ take 512 (drop (512 * number_of e) blocks)) where
    at : number_of e ≡ b.number
    at = expected_number e b taken.2

    room : 502 * b.number ≤ length old
    room = let i = taken.1 in omega (arith, i.below, i.most, taken.4)

    here : bytes_of b ≡ take 512 (drop (512 * b.number) blocks)
    here = taken.0 ∙ is ∙ ap (λ n. take 512 (drop (512 * n) blocks)) at

    -- where a written image's block is taken, it is that
    module _ (v : ℕ) (c : Contents) (image : IsImage size v c blocks) where
      some : 1 ≤ length (data_of c)
      some = let l = length_sound size c small image.0 in omega (arith, l.0)

      there : bytes_of b ≡ block_bytes v b.number (count_of (data_of c)) (part (data_of c) b.number)
      there = here ∙ written_here small v c image b.number (let h = expects e old v (data_of c) some (going.on v c image) in let a = at in omega arith)

    -- a written image ends with its last block
    pub ends : (v : ℕ) (c : Contents) → IsImage size v c blocks → b.number + 1 ≡ b.count → length blocks ≡ 512 * b.number + 512
    ends v c image last =
        let s = says e b blocks old taken.1 taken.2 room v (data_of c) (some v c image) (going.on v c image) (there v c image) in
        ap length image.1 ∙ length_blocks v (count_of (data_of c)) (data_of c) 0 (count_of (data_of c)) ∙ omega (arith, s.2)

    pub behind_more : (new : List ℕ) → new ≡ laid b old → (n : ℕ) → n ≡ 502 * b.number + length b.«data».now → drop n new ≡ drop n first
    behind_more new lay n is_n =
        let l = length_through b old room in
        let k = length b.«data».now in
        let rest = drop (502 * b.number + k) old in
        ap (drop n) lay ∙ drop_at (data_through b old) rest n (omega arith)
        ∙ sym (drop-drop k (502 * b.number) old)
        ∙ ap (drop k) ((λ i. drop (502 * sym at i) old) ∙ going.behind ∙ (λ i. drop (502 * at i) first))
        ∙ drop-drop k (502 * b.number) first ∙ ap (λ m. drop m first) (sym is_n)

    -- one block more
    pub going_more : (new : List ℕ) → new ≡ laid b old → b.number + 1 < b.count → Going size blocks first (Next (b.number + 1) b.count b.version) new
    going_more new lay more =
        let i = taken.1 in
        let rest = drop (502 * b.number + length b.«data».now) old in
        let full : length b.«data».now ≡ 502 = elim i.full [ inl last ↦ absurd (omega arith) | inr all ↦ all ] in
        let f : 512 * (b.number + 1) ≡ 512 * b.number + 512 = omega arith in
        record {
          taken = ap (λ n. take n blocks) f ∙ taken_more e b blocks old i taken.2 room rest (inl full) going.taken here ∙ ap (λ m. blocks_from b.version b.count m 0 (b.number + 1)) (sym lay);
          on = λ v c image. subst (λ m. GoesOn v (data_of c) (Next (b.number + 1) b.count b.version) m) (sym lay) (goes_further e b blocks old i taken.2 room v (data_of c) (some v c image) (going.on v c image) (there v c image) rest more);
          behind = behind_more new lay (502 * (b.number + 1)) (omega arith);
        }

    -- the last
    pub read_all : (new : List ℕ) (k : CompleteImage) → new ≡ laid b old → b.number + 1 ≡ b.count → k.version ≡ b.version → is_sound size (held_in k new) ≡ true → data_of (held_in k new) ≡ data_through b old → length blocks ≤ 512 * b.number + 512 → ImageRead size blocks first new (Ok k)
    read_all new k lay last version sound holds end =
        let i = taken.1 in (
          (sound, taken_all e b blocks old i taken.2 room going.taken here last end ∙ (λ j. image_bytes (sym version j) (sym holds j))),
          (λ v c image.
              let on = going.on v c image in
              let all = through_all e b blocks old i taken.2 room v (data_of c) (some v c image) on (there v c image) last in
              let s = says e b blocks old i taken.2 room v (data_of c) (some v c image) on (there v c image) in
              (sym s.0 ∙ sym version, same_contents c (held_in k new) (sym all ∙ sym holds))),
          behind_more new lay (length (data_of (held_in k new))) (ap length holds ∙ length_through b old room),
        )

  -- no block of a written image is refused
  pub not_refused : (small : size ≤ longest_body) (e : Expected) (old bytes : List ℕ) → Going size blocks first e old → bytes ≡ take 512 (drop (512 * number_of e) blocks) → (fault : ImageFault) → Faulty size e bytes old fault → memory_length ≤ length old → (v : ℕ) (c : Contents) → IsImage size v c blocks → ⊥
  not_refused small e old bytes going is (InBlock f) faulty wide v c image =
      let z : None ≡ Some f = sym (passes_here small e old going v c image) ∙ ap (λ xs. first_fault xs e) (sym is) ∙ faulty.0 in
      cc
  not_refused small e old bytes going is ShortMemory faulty wide v c image = omega (arith, faulty.1)
  not_refused small e old bytes going is WrongContents (b, taken, last, never) wide v c image =
      let room : 502 * b.number ≤ length old = omega (arith, taken.1.below, taken.1.most, wide) in
      never c image.0 (sym (through_all e b blocks old taken.1 taken.2 room v (data_of c) (some small e old bytes going b taken is v c image) (going.on v c image) (there small e old bytes going b taken is v c image) last))
  not_refused small e old bytes going is Unreadable faulty wide v c image = faulty

  -- what taking the next block leaves
  pub gone_on : (small : size ≤ longest_body) (e : Expected) (old new bytes : List ℕ) → Going size blocks first e old → IsNext blocks e bytes → (t : Taken) → Took size e bytes old new t → GoneOn size blocks first e old new (Ok t)
  gone_on small e old new bytes going is (Open next) (b, taken, lay, more, expected) =
      subst (λ (x : Expected). Going size blocks first x new) (sym expected) (going_more small e old bytes going b taken is new lay more)
  gone_on small e old new bytes going is (Complete k) (b, taken, lay, last, version, sound, holds) =
      let at = expected_number e b taken.2 in (
        λ end. read_all small e old bytes going b taken is new k lay last version sound holds (omega arith),
        λ beyond v c image. let l = ends small e old bytes going b taken is v c image last in omega arith,
      )

-- the bytes up to 512
pub first_bytes : (left bytes : List ℕ) (m : ℕ) → m ≡ min (length left) 512 → bytes ≡ take m left → bytes ≡ take 512 left
first_bytes left bytes m e is =
    let f : m ≡ min 512 (length left) = omega arith in
    is ∙ ap (λ n. take n left) f ∙ take_min 512 left
