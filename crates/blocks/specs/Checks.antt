-- The check of a block.
use Rattle.std.specs.Prelude.{◌≡◌, ℕ, ◌+◌, ◌*◌, ◌%◌, List, [], ◌∷◌, replicate, refl}

-- the sum of (place + 1) × byte, where the first byte has this place
abbrev pub weighted_sum : ℕ → List ℕ → ℕ
weighted_sum place [] = 0
weighted_sum place (byte ∷ bytes) = (place + 1) * byte + weighted_sum (place + 1) bytes

abbrev pub check_of : List ℕ → ℕ
check_of bytes = weighted_sum 0 bytes % 65521

-- no sum of 510 bytes is higher
abbrev pub highest_sum : ℕ
highest_sum = 33227775

-- 510 bytes of 255 have this sum, and the check 8,628
abbrev pub CheckOfAllOnes : Type 0
CheckOfAllOnes = (weighted_sum 0 (replicate 510 255) ≡ highest_sum) × (check_of (replicate 510 255) ≡ 8628)

pub check_of_all_ones : CheckOfAllOnes
check_of_all_ones = (refl, refl)
