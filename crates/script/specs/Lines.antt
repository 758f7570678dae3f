-- The lines of a text. A newline, byte 10, ends a line; the last line may lack its newline.
use Rattle.std.specs.Prelude.{◌≡◌, ℕ, ◌<◌, cond, List, [], ◌∷◌, ◌++◌, length, ◌==◌}
use Rattle.std.specs.List.{flat_map, AllByRecursion}
use Rattle.script.specs.Bytes.{Without, front}
use Rattle.script.specs.declared.lines.Lines.{Lines}

-- all lines of a text, without their newlines
abbrev pub lines : List ℕ → List (List ℕ)
lines [] = []
lines (b ∷ bs) = cond (b == 10) ([] ∷ lines bs) (front b (lines bs))

-- the lines that are still to come
abbrev pub left : Lines → List (List ℕ)
left it = lines it.rest.now

-- what stands before the first newline, or all where there is none
abbrev pub first_line : List ℕ → List ℕ
first_line [] = []
first_line (b ∷ bs) = cond (b == 10) [] (b ∷ first_line bs)

-- what stands after the first newline, or nothing where there is none
abbrev pub after_line : List ℕ → List ℕ
after_line [] = []
after_line (b ∷ bs) = cond (b == 10) bs (after_line bs)

-- the text with a newline at its end: added, unless the text is empty or ends with one
abbrev pub closed : List ℕ → List ℕ
closed [] = []
closed (b ∷ []) = cond (b == 10) (b ∷ []) (b ∷ 10 ∷ [])
closed (b ∷ c ∷ cs) = b ∷ closed (c ∷ cs)

-- A text that is not empty is cut after its first line.
pub record Cut (text line rest : List ℕ) : Type 0 where
  pub first : line ≡ first_line text
  pub after : rest ≡ after_line text
  pub goes_on : lines text ≡ line ∷ lines rest
  pub shorter : length rest < length text

-- The law of lines: each followed by a newline they are the text, closed by a newline, and no line holds one.
abbrev pub LinesRight : Type 0
LinesRight = (text : List ℕ) → (flat_map (λ line. line ++ 10 ∷ []) (lines text) ≡ closed text) × AllByRecursion (Without 10) (lines text)
