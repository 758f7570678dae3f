-- A table's state: orderly rows, at most so many.
use Rattle.std.specs.Prelude.{◌≡◌, ℕ, ◌+◌, ◌*◌, ◌≤◌, Bool, true, false, cond, ◌&&◌, T, List, length, Option, nat_le, refl}
use Rattle.std.proofs.Common.{sym, subst, arith, mul-le-mul_right}
use mathlib.Core.HLevel.{Σ_prop_path}
use Rattle.std.proofs.Math.Dec.{T_prop}
use Rattle.std.proofs.lemmas.Bool.{le-leb, leb-true, and_parts, and_from}
use Rattle.bodies.specs.Bodies.{BodyLaws}
use Rattle.line_operators.specs.Rows.{orderly, with_row, without, put_in, listing}
use Rattle.line_operators.specs.RowLaws.{put_orderly, without_orderly, without_short, joined_long, listing_apart}

passes : (b : Bool) → T b → b ≡ true
passes true t = refl
passes false t = elim t [ ]

module _ {E : Type 0} (rank : E → ℕ) (sound : E → Bool) (most : ℕ) where
  -- rows that a table may have
  abbrev pub Fair : List E → Type 0
  Fair xs = T (nat_le (length xs) most && orderly rank sound 0 xs)

  -- a table: rows, with the fact that it may have them
  abbrev pub Table : Type 0
  Table = (xs : List E) × Fair xs

  pub fair_from : (xs : List E) → length xs ≤ most → orderly rank sound 0 xs ≡ true → Fair xs
  fair_from xs few up = subst T (sym (and_from (nat_le (length xs) most) (orderly rank sound 0 xs) (le-leb (length xs) most few) up)) tt

  pub fair_few : (xs : List E) → Fair xs → length xs ≤ most
  fair_few xs f = leb-true (length xs) most (and_parts (nat_le (length xs) most) (orderly rank sound 0 xs) (passes _ f)).0

  pub fair_orderly : (xs : List E) → Fair xs → orderly rank sound 0 xs ≡ true
  fair_orderly xs f = (and_parts (nat_le (length xs) most) (orderly rank sound 0 xs) (passes _ f)).1

  -- a table is its rows
  pub same_table : (s t : Table) → s.0 ≡ t.0 → s ≡ t
  same_table s t e = Σ_prop_path (λ xs. T_prop (nat_le (length xs) most && orderly rank sound 0 xs)) {u = s} {v = t} e

  pub put_fair : (e : E) (xs : List E) → sound e ≡ true → Fair xs → Fair (put_in rank most e xs)
  put_fair e xs fit f = fair_from (put_in rank most e xs) (go (nat_le (length (with_row rank e xs)) most) refl) (put_orderly rank sound 0 most e xs fit (omega arith) (fair_orderly xs f))
    where
      go : (b : Bool) → nat_le (length (with_row rank e xs)) most ≡ b → length (cond b (with_row rank e xs) xs) ≤ most
      go true h = leb-true (length (with_row rank e xs)) most h
      go false h = fair_few xs f

  pub without_fair : (k : ℕ) (xs : List E) → Fair xs → Fair (without rank k xs)
  without_fair k xs f =
      fair_from (without rank k xs) (let a = without_short rank k xs in let b = fair_few xs f in omega arith) (without_orderly rank sound 0 k xs (fair_orderly xs f))

  -- the table of a list's rows
  abbrev pub table_of : (xs : List E) → length xs ≤ most → orderly rank sound 0 xs ≡ true → Table
  table_of xs few up = (xs, fair_from xs few up)

  module _ {size : ℕ} {bytes : E → List ℕ} {value : List ℕ → Option E} (laws : BodyLaws size bytes value) where
    pub table_apart : (s t : Table) → listing bytes s.0 ≡ listing bytes t.0 → s ≡ t
    table_apart s t e = same_table s t (listing_apart laws s.0 t.0 e)

    pub table_long : (s : Table) → length (listing bytes s.0) ≤ 1 + most * size
    table_long s =
        let l = joined_long laws s.0 in
        let m = mul-le-mul_right {m = length s.0} {n = most} size (fair_few s.0 s.1) in
        omega arith
