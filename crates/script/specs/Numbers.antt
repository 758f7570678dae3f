-- The number that a word writes in decimal digits, '0' (byte 48) to '9' (byte 57).
use Rattle.std.specs.Prelude.{◌≡◌, ℕ, ◌+◌, ◌-◌, ◌*◌, ◌≤◌, Bool, true, cond, ◌&&◌, List, [], ◌∷◌, length, Some, None, decimal as written, Option, nat_le}

-- a byte that is a digit
abbrev pub digit : ℕ → Bool
digit b = nat_le 48 b && nat_le b 57

-- each byte is a digit
abbrev pub digits : List ℕ → Bool
digits [] = true
digits (b ∷ bs) = digit b && digits bs

-- the number that digits write after those of n, by Horner's rule
abbrev pub value : ℕ → List ℕ → ℕ
value n [] = n
value n (b ∷ bs) = value (10 * n + (b - 48)) bs

-- a number of 32 bits
abbrev pub fitting : ℕ → Option ℕ
fitting n = cond (nat_le n 4294967295) (Some n) None

-- the number n with one more digit
abbrev pub with_digit : ℕ → ℕ → Option ℕ
with_digit n b = cond (digit b) (fitting (10 * n + (b - 48))) None

-- the number of a word: none where it has no byte, or one that is no digit, or writes too large a number
abbrev pub decimal : List ℕ → Option ℕ
decimal [] = None
decimal (b ∷ bs) = cond (digits (b ∷ bs)) (fitting (value 0 (b ∷ bs))) None

-- The law of numbers: what is written of a number, as `{n}` writes it, reads as that number, and zeros may lead.
abbrev pub NumbersRight : Type 0
NumbersRight =
    ((n : ℕ) → n ≤ 4294967295 → decimal (written n) ≡ Some n) ×
    ((word : List ℕ) → 1 ≤ length word → decimal (48 ∷ word) ≡ decimal word)
