-- The data of an image, put together and taken apart.
use Rattle.std.proofs.Common.{◌≡◌, ℕ, ◌+◌, ◌-◌, ◌*◌, ◌≤◌, true, List, ◌++◌, length, take, drop, sym, ap, ◌∙◌, append_assoc, arith, length-append, length-drop, length-take-le, slice_range, ◌≢◌, mul-add}
use Rattle.std.proofs.lemmas.Bool.{and_from, eq-eqb}
use Rattle.std.proofs.lemmas.Nat.{mul-le}
use Rattle.std.proofs.lemmas.List.{take_at, take-append-le, take-take}
use Rattle.std.proofs.Math.Seq.{take-add}
use Rattle.blocks.specs.declared.block.Block.{Block}
use Rattle.images.specs.Takes.{data_through}
use Rattle.images.specs.declared.counts.Counts.{Counts}
use Rattle.images.specs.Contents.{Contents, front_of, data_of, are_sound, is_sound, most_bytes, most_held}
use Rattle.bodies.specs.Weights.{weigh, longest_body}

-- four parts, of which three are the data
pub in_front : (c : Contents) (front state held rest : List ℕ) (n : ℕ) → front ≡ front_of c.counts (length c.state) → state ≡ c.state → held ≡ c.held → n ≡ 16 + length c.state + length c.held → take n (front ++ (state ++ (held ++ rest))) ≡ data_of c
in_front c front state held rest n f s h e =
    (λ i. take n (f i ++ (s i ++ (h i ++ rest))))
    ∙ ap (λ x. take n (front_of c.counts (length c.state) ++ x)) (sym (append_assoc c.state c.held rest))
    ∙ take_at (data_of c) rest n (let l = length-append c.state c.held in omega arith)

pub length_of_data : (c : Contents) → length (data_of c) ≡ 16 + length c.state + length c.held
length_of_data c = let l = length-append c.state c.held in omega arith

pub sound_from : (size : ℕ) (c : Contents) → are_sound size c.counts (length c.state) ≡ true → length c.held ≡ (c.counts.results_produced - c.counts.results_settled) * size → is_sound size c ≡ true
sound_from size c a l = and_from _ _ a (eq-eqb _ _ l)

-- held results within their weight have so few bytes of bodies
pub few_held : (k size : ℕ) → size ≤ longest_body → k * weigh size ≤ most_bytes → k * size ≤ most_held
few_held k size small light =
    let sum : k * weigh size ≡ k * 8 + k * size = mul-add k 8 size in
    let most : k * size ≤ k * 40 = mul-le k size k 40 (omega arith) small in
    omega arith

module _ (counts : Counts) (s h : ℕ) (ds rest memory : List ℕ) (is : memory ≡ ds ++ rest) (long : length ds ≡ 16 + s + h) where
  -- what lies in the memory behind the front
  abbrev in_memory : Contents
  in_memory = record { counts = counts; state = slice_range memory 16 (16 + s); held = slice_range memory (16 + s) (16 + s + h) }

  length_of_memory : 16 + s + h ≤ length memory
  length_of_memory = let l = ap length is in let a = length-append ds rest in omega arith

  state_is : slice_range memory 16 (16 + s) ≡ take s (drop 16 memory)
  state_is = let e : 16 + s - 16 ≡ s = omega arith in ap (λ n. take n (drop 16 memory)) e

  held_is : slice_range memory (16 + s) (16 + s + h) ≡ take h (drop (16 + s) memory)
  held_is = let e : 16 + s + h - (16 + s) ≡ h = omega arith in ap (λ n. take n (drop (16 + s) memory)) e

  pub length_of_state : length in_memory.state ≡ s
  length_of_state = let l = length_of_memory in let d = length-drop 16 memory in ap length state_is ∙ length-take-le s (drop 16 memory) (omega arith)

  pub length_of_held : length in_memory.held ≡ h
  length_of_held = let l = length_of_memory in let d = length-drop (16 + s) memory in ap length held_is ∙ length-take-le h (drop (16 + s) memory) (omega arith)

  -- data that begin with their front are those of it
  pub data_in_memory : take 16 ds ≡ front_of counts s → data_of in_memory ≡ ds
  data_in_memory front =
      let first : take 16 memory ≡ front_of counts s = ap (take 16) is ∙ take-append-le 16 ds rest (omega arith) ∙ front in
      (λ i. front_of counts (length_of_state i) ++ state_is i ++ held_is i)
      ∙ (λ i. sym first i ++ take s (drop 16 memory) ++ take h (drop (16 + s) memory))
      ∙ (λ i. sym (take-add 16 s memory) i ++ take h (drop (16 + s) memory))
      ∙ sym (take-add (16 + s) h memory)
      ∙ ap (take (16 + s + h)) is
      ∙ take_at ds rest (16 + s + h) long

  pub sound_in_memory : (size : ℕ) → are_sound size counts s ≡ true → h ≡ (counts.results_produced - counts.results_settled) * size → is_sound size in_memory ≡ true
  sound_in_memory size a e = sound_from size in_memory (ap (are_sound size counts) length_of_state ∙ a) (length_of_held ∙ e)

-- the front of the data lies in the first block, and later in the memory
pub front_first : (n : ℕ) (used memory front : List ℕ) → n ≡ 0 → front ≡ used → take 16 front ≡ take 16 (take (502 * n) memory ++ used)
front_first n used memory front z e = (λ i. take 16 (take (502 * sym z i) memory ++ e i))

pub front_later : (n : ℕ) (used memory front : List ℕ) → n ≢ 0 → 502 * n ≤ length memory → front ≡ memory → take 16 front ≡ take 16 (take (502 * n) memory ++ used)
front_later n used memory front z room e =
    let l = length-take-le (502 * n) memory room in
    ap (take 16) e ∙ sym (take-take 16 (502 * n) memory (omega arith)) ∙ sym (take-append-le 16 (take (502 * n) memory) used (omega arith))

pub length_through : (b : Block) (memory : List ℕ) → 502 * b.number ≤ length memory → length (data_through b memory) ≡ 502 * b.number + length b.«data».now
length_through b memory room =
    let l = length-take-le (502 * b.number) memory room in
    length-append (take (502 * b.number) memory) b.«data».now ∙ omega arith
