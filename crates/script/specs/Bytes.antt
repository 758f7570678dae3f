-- Bytes that are cut into pieces at a mark: a text into lines at its newlines, a line into words at its spaces.
use Rattle.std.specs.Prelude.{ℕ, List, [], ◌∷◌, ◌≢◌}
use Rattle.std.specs.List.{AllByRecursion}

-- none of the bytes is the mark
abbrev pub Without : ℕ → List ℕ → Type 0
Without mark bytes = AllByRecursion (λ b. b ≢ mark) bytes

-- a byte put in front of the first piece, or a piece of its own where there is none
abbrev pub front : ℕ → List (List ℕ) → List (List ℕ)
front b [] = (b ∷ []) ∷ []
front b (piece ∷ more) = (b ∷ piece) ∷ more
