-- A table as the list of its rows, in rising order of their keys' ranks.
use Rattle.std.specs.Prelude.{ℕ, suc, Bool, true, cond, ◌&&◌, List, [], ◌∷◌, length, Some, None, Option, ◌==◌, nat_le, nat_lt}
use Rattle.std.specs.List.{flat_map}

module _ {E : Type 0} (rank : E → ℕ) where
  -- each row is sound, has at least rank n, and stands past the one before
  abbrev pub orderly : (E → Bool) → ℕ → List E → Bool
  orderly sound n [] = true
  orderly sound n (x ∷ xs) = sound x && (nat_le n (rank x) && orderly sound (suc (rank x)) xs)

  -- the row of rank k
  abbrev pub found : ℕ → List E → Option E
  found k [] = None
  found k (x ∷ xs) = cond (nat_lt (rank x) k) (found k xs) (cond (rank x == k) (Some x) None)

  -- a row put at its place, over the one of its rank
  abbrev pub with_row : E → List E → List E
  with_row e [] = e ∷ []
  with_row e (x ∷ xs) = cond (nat_lt (rank x) (rank e)) (x ∷ with_row e xs) (cond (rank x == rank e) (e ∷ xs) (e ∷ x ∷ xs))

  -- a row put at its place among at most so many, or dropped where it is new and all places are taken
  abbrev pub put_in : ℕ → E → List E → List E
  put_in most e xs = cond (nat_le (length (with_row e xs)) most) (with_row e xs) xs

  -- the rows without that of rank k
  abbrev pub without : ℕ → List E → List E
  without k [] = []
  without k (x ∷ xs) = cond (nat_lt (rank x) k) (x ∷ without k xs) (cond (rank x == k) xs (x ∷ xs))

-- a count byte, then the rows
abbrev pub listing : {E : Type 0} → (E → List ℕ) → List E → List ℕ
listing bytes xs = length xs ∷ flat_map bytes xs
