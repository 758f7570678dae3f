-- Rows in bytes: one more written, one more read.
use Rattle.std.proofs.Common.{◌≡◌, ℕ, suc, ◌+◌, ◌*◌, ◌/◌, ◌%◌, ◌<◌, ◌≤◌, List, [], ◌∷◌, ◌++◌, length, get_or, take, drop, Ok, Err, Option, Result, sym, ap, ◌∙◌, append_assoc, mul-le-mul_right, suc-mul, inl, inr, arith, length-append, length-take-le}
use borrow.Rule.Slice.PartMut.{put_mid}
use Rattle.std.proofs.lemmas.List.{take_at, drop_at, take_more, flat_map_more, append-nil, nil_from_length}
use Rattle.std.proofs.lemmas.Nat.{mod-mul-add}
use Rattle.std.proofs.Math.Nat.{mul-mod_left, mul-div_cancel}
use Rattle.std.proofs.lemmas.Bool.{cases_lt}
use Rattle.std.specs.List.{flat_map}
use Rattle.bodies.specs.declared.body.WrongLength.{WrongLength}
use Rattle.bodies.specs.Bodies.{BodyLaws, Wrote}
use Rattle.operators.proofs.Laying.{laid_more}
use Rattle.line_operators.specs.Rows.{listing}
use Rattle.line_operators.specs.RowLaws.{joined_long}

pub wrote_fits : (b o p : List ℕ) (r : Result (Unit {0}) WrongLength) → Wrote b o p r → length o ≡ length b → p ≡ b
wrote_fits b o p (Ok _) w l = w.1
wrote_fits b o p (Err _) w l = absurd (w.0 l)

-- a row written behind the count and the rows before
pub wrote_more : (O out w J b : List ℕ) (at size k : ℕ) → at ≡ 1 + length J → 1 ≤ length O → out ≡ (take 1 O ++ J) ++ drop at O → w ≡ b → k ≡ size → length b ≡ size → put_mid at k out w ≡ (take 1 O ++ (J ++ b)) ++ drop (at + size) O
wrote_more O out w J b at size k e one o same z lb =
    let long : length (take 1 O ++ J) ≡ at = length-append (take 1 O) J ∙ (let t = length-take-le 1 O one in omega arith) in
    ap (put_mid at k out) same ∙ laid_more O out (take 1 O ++ J) b at k long o (omega arith) ∙ (λ i. append_assoc (take 1 O) J b i ++ drop (at + lb i) O)

module _ {E : Type 0} {size : ℕ} {bytes : E → List ℕ} {value : List ℕ → Option E} (laws : BodyLaws size bytes value) where
  pub joined_next : (rows : List E) (i : ℕ) (x : E) → i < length rows → x ≡ get_or rows i x → flat_map bytes (take (i + 1) rows) ≡ flat_map bytes (take i rows) ++ bytes x
  joined_next rows i x lt e = ap (flat_map bytes) (take_more rows i x lt ∙ ap (λ y. take i rows ++ y ∷ []) (sym e)) ∙ sym (flat_map_more bytes [] (take i rows) x)

  -- the next row fits where all do
  pub room : (rows : List E) (i : ℕ) → i < length rows → length (flat_map bytes (take i rows)) + size ≤ length (flat_map bytes rows)
  room rows i lt =
      let l = joined_long laws (take i rows) ∙ ap (λ n. n * size) (length-take-le i rows (omega arith)) in
      let all = joined_long laws rows in
      let s = suc-mul i size in
      let m = mul-le-mul_right {m = suc i} {n = length rows} size lt in
      omega arith

  -- once less than a row is left of so many rows' bytes, all are read
  pub all_read : (ys : List E) (rest tail : List ℕ) (count : ℕ) → flat_map bytes ys ++ rest ≡ tail → length rest < size → length tail ≡ count * size → listing bytes ys ≡ count ∷ tail
  all_read ys rest tail count e less even =
      let long : length ys * size + length rest ≡ count * size = ap (λ n. n + length rest) (sym (joined_long laws ys)) ∙ sym (length-append (flat_map bytes ys) rest) ∙ ap length e ∙ even in
      let none : length rest ≡ 0 = sym (mod-mul-add (length ys) size (length rest) less) ∙ ap (λ n. n % size) long ∙ mul-mod_left count size in
      let some : 0 < size = omega arith in
      let all : length ys ≡ count = sym (mul-div_cancel (length ys) some) ∙ ap (λ n. n / size) (omega arith) ∙ mul-div_cancel count some in
      let are = sym (append-nil (flat_map bytes ys)) ∙ ap (λ l. flat_map bytes ys ++ l) (sym (nil_from_length rest none)) ∙ e in
      λ i. all i ∷ are i

  -- a row is read from the bytes that are left
  pub read_more : (ys : List E) (x : E) (part rest later tail : List ℕ) → flat_map bytes ys ++ rest ≡ tail → rest ≡ part ++ later → bytes x ≡ part → flat_map bytes (ys ++ x ∷ []) ++ later ≡ tail
  read_more ys x part rest later tail e cut is =
      ap (λ l. l ++ later) (sym (flat_map_more bytes [] ys x)) ∙ append_assoc (flat_map bytes ys) (bytes x) later ∙ ap (λ l. flat_map bytes ys ++ (l ++ later)) is ∙ ap (λ l. flat_map bytes ys ++ l) (sym cut) ∙ e

  -- rows whose bytes begin with other rows' and a row's length more are more rows
  more : (ys xs : List E) (part rest : List ℕ) → 1 ≤ size → length part ≡ size → flat_map bytes ys ++ (part ++ rest) ≡ flat_map bytes xs → length ys < length xs
  more ys xs part rest some long e =
      elim (cases_lt (length ys) (length xs)) [
        | inl less ↦ less
        | inr most ↦
            let a = ap length e ∙ joined_long laws xs in
            let b = length-append (flat_map bytes ys) (part ++ rest) in
            let d = length-append part rest in
            let f = joined_long laws ys in
            let m = mul-le-mul_right {m = length xs} {n = length ys} size most in
            absurd (omega arith)
      ]

  -- and the next of them writes those bytes
  next : (ys xs : List E) (part rest : List ℕ) → length part ≡ size → flat_map bytes ys ++ (part ++ rest) ≡ flat_map bytes xs → length ys < length xs → (x : E) × (bytes x ≡ part)
  next ys [] part rest long e l = absurd (omega arith)
  next [] (x ∷ xs) part rest long e l = (x, sym (take_at (bytes x) (flat_map bytes xs) size (laws.long x)) ∙ ap (take size) (sym e) ∙ take_at part rest size long)
  next (y ∷ ys) (x ∷ xs) part rest long e l =
      next ys xs part rest long
      (sym (drop_at (bytes y) (flat_map bytes ys ++ (part ++ rest)) size (laws.long y)) ∙ ap (drop size) (sym (append_assoc (bytes y) (flat_map bytes ys) (part ++ rest)) ∙ e) ∙ drop_at (bytes x) (flat_map bytes xs) size (laws.long x))
      (omega arith)

  -- where a row's length is left of rows' bytes, these are more than the rows read, and the next of them writes that part
  pub next_row : (ys xs : List E) (part rest later tail : List ℕ) → 1 ≤ size → flat_map bytes ys ++ rest ≡ tail → rest ≡ part ++ later → length part ≡ size → flat_map bytes xs ≡ tail → record { less : length ys < length xs; row : (x : E) × (bytes x ≡ part) }
  next_row ys xs part rest later tail some e cut long w =
      let read = ap (λ l. flat_map bytes ys ++ l) (sym cut) ∙ e ∙ sym w in
      let less = more ys xs part later some long read in
      record { less = less; row = next ys xs part later long read less }
