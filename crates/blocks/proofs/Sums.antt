-- The weighted sum, one byte at a time, and how high it gets.
use Rattle.std.proofs.Common.{◌≡◌, ℕ, suc, ◌+◌, ◌*◌, ◌<◌, ◌≤◌, List, [], ◌∷◌, ◌++◌, length, take, get_or, ap, ◌∙◌, arith, length-take-le, mul-add, suc-mul}
use Rattle.std.proofs.lemmas.List.{take_more}
use Rattle.std.proofs.lemmas.Nat.{mul-le}
use Rattle.blocks.specs.Checks.{weighted_sum, highest_sum}

weighted_sum-push : (p : ℕ) (xs : List ℕ) (y : ℕ) → weighted_sum p (xs ++ y ∷ []) ≡ weighted_sum p xs + (p + length xs + 1) * y
weighted_sum-push p [] y = omega arith
weighted_sum-push p (x ∷ xs) y =
    let e = weighted_sum-push (p + 1) xs y in
    let k : p + 1 + length xs + 1 ≡ p + length (x ∷ xs) + 1 = omega arith in
    ap (λ n. (p + 1) * x + n) (e ∙ ap (λ n. weighted_sum (p + 1) xs + n * y) k) ∙ omega arith

-- a byte more
pub weighted_sum_more : (xs : List ℕ) (i : ℕ) → i < length xs → weighted_sum 0 (take (i + 1) xs) ≡ weighted_sum 0 (take i xs) + (i + 1) * get_or xs i 0
weighted_sum_more xs i h =
    let n : 0 + length (take i xs) + 1 ≡ i + 1 = omega (arith, length-take-le i xs (omega arith)) in
    ap (weighted_sum 0) (take_more xs i 0 h) ∙ weighted_sum-push 0 (take i xs) (get_or xs i 0) ∙ ap (λ m. weighted_sum 0 (take i xs) + m * get_or xs i 0) n

pub product : (place byte : ℕ) → place < 510 → byte < 256 → (place + 1) * byte ≤ 130050
product place byte h k = mul-le (place + 1) byte 510 255 (omega arith) (omega arith)

twice : (p : ℕ) (xs : List ℕ) → ((i : ℕ) → get_or xs i 0 < 256) → 2 * weighted_sum p xs ≤ 255 * (length xs * (p + p + length xs + 1))
twice p [] w = omega arith
twice p (b ∷ bs) w =
    let n = length bs in
    let ih = twice (p + 1) bs (λ i. w (suc i)) in
    let m : (p + 1) * b ≤ (p + 1) * 255 = mul-le (p + 1) b (p + 1) 255 (omega arith) (let k = w 0 in omega arith) in
    let s : suc n * (p + p + suc n + 1) ≡ n * (p + p + suc n + 1) + (p + p + suc n + 1) = suc-mul n (p + p + suc n + 1) in
    let y : p + 1 + (p + 1) + n + 1 ≡ p + p + suc n + 1 + 1 = omega arith in
    let t : n * (p + 1 + (p + 1) + n + 1) ≡ n * (p + p + suc n + 1) + n * 1 = ap (λ k. n * k) y ∙ mul-add n (p + p + suc n + 1) 1 in
    omega arith

-- of 510 bytes
pub sum_is_bounded : (xs : List ℕ) → ((i : ℕ) → get_or xs i 0 < 256) → length xs ≡ 510 → weighted_sum 0 xs ≤ highest_sum
sum_is_bounded xs w h =
    let b = twice 0 xs w in
    let e : length xs * (0 + 0 + length xs + 1) ≡ 510 * (0 + 0 + 510 + 1) = ap (λ n. n * (0 + 0 + n + 1)) h in
    omega arith
