-- Numbers in bytes, the highest first.
use Rattle.std.specs.Prelude.{◌≡◌, ℕ, ◌+◌, ◌*◌, ◌/◌, ◌%◌, ◌^◌, List, [], ◌∷◌, ◌++◌, length}
use Rattle.std.proofs.Common.{ap, ◌∙◌, sym, arith}

-- the two, four and eight bytes of a number: the first of them holds all that is left, so that no two numbers,
-- however large, write the same
abbrev pub be16 : ℕ → List ℕ
be16 n = (n / 256) ∷ (n % 256) ∷ []

abbrev pub be32 : ℕ → List ℕ
be32 n = (n / 16777216) ∷ (n / 65536 % 256) ∷ (n / 256 % 256) ∷ (n % 256) ∷ []

abbrev pub be64 : ℕ → List ℕ
be64 n = be32 (n / 4294967296) ++ be32 (n % 4294967296)

-- the number that bytes write
abbrev pub worth : List ℕ → ℕ
worth [] = 0
worth (x ∷ xs) = x * 256 ^ length xs + worth xs

-- a number is what its bytes are worth
pub worth16 : (n : ℕ) → worth (be16 n) ≡ n
worth16 n = omega arith

pub worth32 : (n : ℕ) → worth (be32 n) ≡ n
worth32 n = omega arith

pub worth64 : (n : ℕ) → worth (be64 n) ≡ n
worth64 n = omega arith

-- so two numbers never write the same bytes
pub be32_apart : (m n : ℕ) → be32 m ≡ be32 n → m ≡ n
be32_apart m n e = sym (worth32 m) ∙ ap worth e ∙ worth32 n
