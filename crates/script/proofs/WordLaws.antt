-- The law of words, and the words after a letter.
use Rattle.std.proofs.Common.{◌≡◌, ℕ, ◌≤◌, eqb, List, [], ◌∷◌, ◌++◌, length, drop, sym, refl, ap, ◌∙◌, subst, arith}
use Rattle.std.specs.List.{AllByRecursion}
use Rattle.std.proofs.lemmas.Bool.Decides.{nat_tests}
use Rattle.script.specs.Bytes.{Without, front}
use Rattle.script.specs.Words.{words, spaced, WordsRight, Word, EndsWith}
use Rattle.script.proofs.Pieces.{byte_without}

front_some : (b : ℕ) (ws : List (List ℕ)) → 1 ≤ length (front b ws)
front_some b [] = omega arith
front_some b (w ∷ ws) = omega arith

words_some : (line : List ℕ) → 1 ≤ length (words line)
words_some [] = omega arith
words_some (b ∷ bs) = let some = front_some b (words bs) in grind (arith, nat_tests)

-- a byte in front of the words of what follows, and a space in front of them
spaced_front : (b : ℕ) (ws : List (List ℕ)) → 1 ≤ length ws → (spaced (front b ws) ≡ b ∷ spaced ws) × (spaced ([] ∷ ws) ≡ 32 ∷ spaced ws)
spaced_front b [] some = absurd (omega arith)
spaced_front b (w ∷ []) some = (refl, refl)
spaced_front b (w ∷ v ∷ vs) some = (refl, refl)

rejoin : (line : List ℕ) → spaced (words line) ≡ line
rejoin [] = refl
rejoin (b ∷ bs) =
    let more = rejoin bs in
    let first = spaced_front b (words bs) (words_some bs) in
    grind (arith, nat_tests)

solid : (line : List ℕ) → AllByRecursion (Without 32) (words line)
solid [] = (tt, tt)
solid (b ∷ bs) = byte_without 32 b (words bs) (solid bs) (eqb b 32) refl

-- a word that a space ends, and one that the line ends
words_first : (w rest : List ℕ) → Without 32 w → words (w ++ 32 ∷ rest) ≡ w ∷ words rest
words_first [] rest apart = refl
words_first (b ∷ bs) rest apart = let more = words_first bs rest apart.1 in grind (arith, nat_tests)

words_last : (w : List ℕ) → Without 32 w → words w ≡ w ∷ []
words_last [] apart = refl
words_last (b ∷ bs) apart = let more = words_last bs apart.1 in grind (arith, nat_tests)

pub words_spaced : (pieces : List (List ℕ)) → 1 ≤ length pieces → AllByRecursion (Without 32) pieces → words (spaced pieces) ≡ pieces
words_spaced [] some all = absurd (omega arith)
words_spaced (w ∷ []) some all = words_last w all.0
words_spaced (w ∷ v ∷ vs) some all = words_first w (spaced (v ∷ vs)) all.0 ∙ ap (λ l. w ∷ l) (words_spaced (v ∷ vs) (omega arith) all.1)

pub words_right : WordsRight
words_right = (λ line. (rejoin line, solid line), words_spaced)

-- where two words end a line, its first space after the letter's is the one between them
module _ (rest bytes a b : List ℕ) (is : rest ≡ 32 ∷ bytes) (ends : EndsWith rest (a ∷ b ∷ [])) where
  whole : bytes ≡ a ++ 32 ∷ b
  whole = ap (drop 1) (sym is ∙ ends.1)

  split : words bytes ≡ a ∷ b ∷ []
  split = ap words whole ∙ words_spaced (a ∷ b ∷ []) (omega arith) (ends.0.0.1, (ends.0.1.0.1, tt))

  pub between : Without 32 bytes → ⊥
  between without = let long = ap length (sym split ∙ words_last bytes without) in omega arith

  pub sides : (first second : List ℕ) → Without 32 first × (bytes ≡ first ++ 32 ∷ second) → Word first × Word second
  sides first second cut =
      let same = sym split ∙ ap words cut.1 ∙ words_first first second cut.0 in
      let one : a ≡ first = cc in
      let more : b ∷ [] ≡ words second = cc in
      (subst Word one ends.0.0, subst Word (ap spaced more ∙ rejoin second) ends.0.1.0)
