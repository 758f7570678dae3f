-- The laws of lines, and the first line of a text that is cut at its first newline.
use Rattle.std.proofs.Common.{◌≡◌, ℕ, ◌+◌, ◌<◌, ◌≤◌, eqb, List, [], ◌∷◌, ◌++◌, length, Some, None, Option, sym, refl, ap, ◌∙◌, subst, arith, Bor, MatchOption}
use Rattle.std.specs.List.{flat_map, AllByRecursion}
use Rattle.std.specs.Option.{option_or}
use Rattle.std.proofs.lemmas.Bool.Decides.{nat_tests}
use Rattle.script.specs.Bytes.{Without, front}
use Rattle.script.specs.Lines.{lines, first_line, after_line, closed, Cut, LinesRight}
use Rattle.script.proofs.Pieces.{byte_without}

-- an empty text has no line
pub lines_none : lines [] ≡ []
lines_none = refl

-- any other text has its first line, and then the lines of what follows that
pub lines_first : (text : List ℕ) → 1 ≤ length text → lines text ≡ first_line text ∷ lines (after_line text)
lines_first [] some = absurd (omega arith)
lines_first (b ∷ []) some = grind (arith, nat_tests)
lines_first (b ∷ c ∷ cs) some = let more = lines_first (c ∷ cs) (omega arith) in grind (arith, nat_tests)

after_line_short : (text : List ℕ) → length (after_line text) ≤ length text
after_line_short [] = omega arith
after_line_short (b ∷ bs) = let short = after_line_short bs in grind (arith, nat_tests)

-- and what follows is shorter than the text
pub after_line_shorter : (text : List ℕ) → 1 ≤ length text → length (after_line text) < length text
after_line_shorter [] some = absurd (omega arith)
after_line_shorter (b ∷ bs) some = let short = after_line_short bs in grind (arith, nat_tests)

front_few : (b : ℕ) (ls : List (List ℕ)) → length (front b ls) ≤ length ls + 1
front_few b [] = omega arith
front_few b (l ∷ ls) = omega arith

-- a text has no more lines than bytes
pub lines_few : (text : List ℕ) → length (lines text) ≤ length text
lines_few [] = omega arith
lines_few (b ∷ bs) = let few = lines_few bs in let front = front_few b (lines bs) in grind (arith, nat_tests)

abbrev Piece : Type 0
Piece = Bor (List ℕ)

abbrev ended : List (List ℕ) → List ℕ
ended ls = flat_map (λ line. line ++ 10 ∷ []) ls

ended_front : (b : ℕ) (ls : List (List ℕ)) → 1 ≤ length ls → ended (front b ls) ≡ b ∷ ended ls
ended_front b [] some = absurd (omega arith)
ended_front b (l ∷ ls) some = refl

rejoin : (text : List ℕ) → ended (lines text) ≡ closed text
rejoin [] = refl
rejoin (b ∷ []) = grind (arith, nat_tests)
rejoin (b ∷ c ∷ cs) =
    let some : 1 ≤ length (lines (c ∷ cs)) = rw (lines_first (c ∷ cs) (omega arith)) (omega arith) in
    let rest = rejoin (c ∷ cs) in
    let first = ended_front b (lines (c ∷ cs)) some in
    grind (arith, nat_tests)

unbroken : (text : List ℕ) → AllByRecursion (Without 10) (lines text)
unbroken [] = tt
unbroken (b ∷ bs) = byte_without 10 b (lines bs) (unbroken bs) (eqb b 10) refl

pub lines_right : LinesRight
lines_right text = (rejoin text, unbroken text)

-- a line that a newline ends
first_of : (line rest : List ℕ) → Without 10 line → first_line (line ++ 10 ∷ rest) ≡ line
first_of [] rest apart = refl
first_of (b ∷ bs) rest apart = let more = first_of bs rest apart.1 in grind (arith, nat_tests)

after_of : (line rest : List ℕ) → Without 10 line → after_line (line ++ 10 ∷ rest) ≡ rest
after_of [] rest apart = refl
after_of (b ∷ bs) rest apart = let more = after_of bs rest apart.1 in grind (arith, nat_tests)

-- a last line that no newline ends
first_only : (line : List ℕ) → Without 10 line → first_line line ≡ line
first_only [] apart = refl
first_only (b ∷ bs) apart = let more = first_only bs apart.1 in grind (arith, nat_tests)

after_only : (line : List ℕ) → Without 10 line → after_line line ≡ []
after_only [] apart = refl
after_only (b ∷ bs) apart = let more = after_only bs apart.1 in grind (arith, nat_tests)

-- a text that is not empty, cut at its first newline, or else at its end
module _ (text : List ℕ) (some : 1 ≤ length text) where
  cut_as : (line rest : List ℕ) → line ≡ first_line text → rest ≡ after_line text → Cut text line rest
  cut_as line rest l r =
      record { first = l; after = r; goes_on = lines_first text some ∙ (λ i. sym l i ∷ lines (sym r i)); shorter = subst (λ xs. length xs < length text) (sym r) (after_line_shorter text some) }

  pub cut_either : (found : Option (Piece × Piece)) (unended : Piece × Piece) → MatchOption found (Without 10 text) (λ p. Without 10 p.0.now × (text ≡ p.0.now ++ 10 ∷ p.1.now)) → unended.0.now ≡ text → unended.1.now ≡ [] → MatchOption (option_or found (Some unended)) (text ≡ []) (λ p. Cut text p.0.now p.1.now)
  cut_either None unended without front back =
      cut_as unended.0.now unended.1.now (front ∙ sym (first_only text without)) (back ∙ sym (after_only text without))
  cut_either (Some p) unended parts front back =
      cut_as p.0.now p.1.now (sym (ap first_line parts.1 ∙ first_of p.0.now p.1.now parts.0)) (sym (ap after_line parts.1 ∙ after_of p.0.now p.1.now parts.0))
