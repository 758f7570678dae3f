-- Items in places of which the last is followed by the first.
use Rattle.std.specs.Prelude.{ℕ, List, ◌++◌, take, drop}

-- so many items, from the first one's place on
abbrev pub items_in : {X : Type 0} → List X → (first count : ℕ) → List X
items_in places first count = take count (drop first places ++ take first places)
