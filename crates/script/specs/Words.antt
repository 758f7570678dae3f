-- The words of a line, which single spaces, byte 32, part.
use Rattle.std.specs.Prelude.{◌≡◌, ℕ, ◌≤◌, cond, List, [], ◌∷◌, ◌++◌, length, ◌==◌}
use Rattle.std.specs.List.{AllByRecursion}
use Rattle.script.specs.Bytes.{Without, front}

-- a line cut at each space: two spaces in a row, or one at an end, leave an empty piece
abbrev pub words : List ℕ → List (List ℕ)
words [] = [] ∷ []
words (b ∷ bs) = cond (b == 32) ([] ∷ words bs) (front b (words bs))

-- pieces put together with one space between
abbrev pub spaced : List (List ℕ) → List ℕ
spaced [] = []
spaced (w ∷ []) = w
spaced (w ∷ v ∷ vs) = w ++ 32 ∷ spaced (v ∷ vs)

-- The law of words: with one space between they are the line, and none holds a space;
-- and they are the only pieces of which that is so.
abbrev pub WordsRight : Type 0
WordsRight =
    ((line : List ℕ) → (spaced (words line) ≡ line) × AllByRecursion (Without 32) (words line)) ×
    ((pieces : List (List ℕ)) → 1 ≤ length pieces → AllByRecursion (Without 32) pieces → words (spaced pieces) ≡ pieces)

-- a word proper: one byte or more, and no space
abbrev pub Word : List ℕ → Type 0
Word w = (1 ≤ length w) × Without 32 w

-- what words add to a line: each of them after one space
abbrev pub added : List (List ℕ) → List ℕ
added [] = []
added (w ∷ ws) = 32 ∷ spaced (w ∷ ws)

-- the end of a line, after the letter of its command, is these words
abbrev pub EndsWith : List ℕ → List (List ℕ) → Type 0
EndsWith rest ws = AllByRecursion Word ws × (rest ≡ added ws)
