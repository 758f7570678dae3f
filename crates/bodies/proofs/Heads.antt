-- Bytes cut behind the first few.
use Rattle.std.proofs.Common.{◌≡◌, ℕ, ◌-◌, ◌≤◌, List, ◌++◌, map, length, get_or, take, drop, ap, ◌∙◌, take-append-drop, length-take-le, get_or-take}
use Rattle.std.specs.List.{range_with_len}
use Rattle.std.proofs.lemmas.List.FromFn.{fill_by_all}
use Rattle.std.proofs.lemmas.List.{take_rest}

-- the first n, one by one
pub front : (n : ℕ) (xs : List ℕ) → n ≤ length xs → take n xs ≡ map (λ j. get_or xs j 0) (range_with_len 0 n)
front n xs long = fill_by_all (λ j. get_or xs j 0) (take n xs) n 0 (length-take-le n xs long) (λ j h. get_or-take n xs j 0 h)

-- the first n and those behind, as a slice pattern binds them
pub cut : (n : ℕ) (xs : List ℕ) → take n xs ++ take (length xs - n) (drop n xs) ≡ xs
cut n xs = ap (λ l. take n xs ++ l) (take_rest xs n) ∙ take-append-drop n xs
