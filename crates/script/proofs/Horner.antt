-- Reading a number from the left, digit by digit.
use Rattle.std.proofs.Common.{◌≡◌, ℕ, ◌+◌, ◌-◌, ◌*◌, ◌<◌, ◌≤◌, true, cond, leb, List, [], ◌∷◌, length, get_or, drop, Some, None, decimal as written, Option, sym, refl, ap, ◌∙◌, arith, rules}
use Rattle.std.proofs.lemmas.List.{drop_more, drop_all}
use Rattle.std.proofs.lemmas.Bool.{le-leb, cond-true}
use Rattle.std.proofs.lemmas.Bool.Decides.{nat_tests}
use Rattle.std.proofs.lemmas.Fmt.{decimal_nonempty, digits_decimal, digits_value-decimal}
use Rattle.std.proofs.lemmas.Str.Parse.{IsNumeralModel, numerals_by_fold}
use Rattle.script.specs.Numbers.{digits, value, fitting, with_digit, decimal, NumbersRight}

-- what is read of the bytes that are left, after the number n
abbrev pub onwards : ℕ → List ℕ → Option ℕ
onwards n bytes = cond (digits bytes) (fitting (value n bytes)) None

value_grows : (n : ℕ) (bytes : List ℕ) → n ≤ value n bytes
value_grows n [] = omega arith
value_grows n (b ∷ bs) = omega (arith, value_grows (10 * n + (b - 48)) bs)

fits : (n : ℕ) → n ≤ 4294967295 → fitting n ≡ Some n
fits n small = cond-true (leb n 4294967295) (Some n) None (le-leb n 4294967295 small)

-- a number that is too large already stays so
too_large : (n : ℕ) (bytes : List ℕ) → fitting n ≡ None → onwards n bytes ≡ None
too_large n bytes large = grind (arith, nat_tests, value_grows n bytes)

-- a byte that is refused
refused : (n b : ℕ) (bs : List ℕ) → with_digit n b ≡ None → onwards n (b ∷ bs) ≡ None
refused n b bs none = grind (arith, nat_tests, too_large (10 * n + (b - 48)) bs)

-- a digit that is taken
taken : (n b m : ℕ) (bs : List ℕ) → with_digit n b ≡ Some m → onwards n (b ∷ bs) ≡ onwards m bs
taken n b m bs some = grind (arith, nat_tests)

bounded : (n b m : ℕ) → with_digit n b ≡ Some m → m ≤ 4294967295
bounded n b m some = grind (arith, nat_tests)

-- the number so far, and so what is left to read
abbrev pub Reading : List ℕ → ℕ → ℕ → Type 0
Reading word n i = (onwards n (drop i word) ≡ decimal word) × (n ≤ 4294967295)

-- one byte on, and at the end
module _ (word : List ℕ) (n i : ℕ) (so_far : Reading word n i) where
  here : i < length word → decimal word ≡ onwards n (get_or word i 0 ∷ drop (i + 1) word)
  here within = sym so_far.0 ∙ ap (onwards n) (drop_more word i 0 within)

  pub stops : i < length word → with_digit n (get_or word i 0) ≡ None → decimal word ≡ None
  stops within none = here within ∙ refused n (get_or word i 0) (drop (i + 1) word) none

  pub goes_on : (m : ℕ) → i < length word → with_digit n (get_or word i 0) ≡ Some m → Reading word m (i + 1)
  goes_on m within some = (sym (here within ∙ taken n (get_or word i 0) m (drop (i + 1) word) some), bounded n (get_or word i 0) m some)

  pub ends : length word ≤ i → decimal word ≡ Some n
  ends past = sym so_far.0 ∙ ap (onwards n) (drop_all i word past) ∙ fits n so_far.1

own : IsNumeralModel (λ bytes. digits bytes ≡ true) (value 0)
own = numerals_by_fold (λ bytes. digits bytes ≡ true) (search rules) value (search rules)

-- a word of digits that is not empty
decimal_of : (word : List ℕ) → 1 ≤ length word → decimal word ≡ onwards 0 word
decimal_of [] some = absurd (omega arith)
decimal_of (b ∷ bs) some = refl

reads_back : (n : ℕ) → n ≤ 4294967295 → decimal (written n) ≡ Some n
reads_back n small =
    let all : digits (written n) ≡ true = digits_decimal own n (omega arith) in
    let same : value 0 (written n) ≡ n = digits_value-decimal own n (omega arith) in
    decimal_of (written n) (decimal_nonempty n (omega arith)) ∙ (λ i. cond (all i) (fitting (same i)) None) ∙ fits n small

pub numbers_right : NumbersRight
numbers_right = (reads_back, λ word some. sym (decimal_of word some))
