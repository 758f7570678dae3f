-- The bytes of a block.
use Rattle.std.specs.Prelude.{◌≡◌, ℕ, ◌+◌, ◌-◌, ◌<◌, ◌≤◌, ◌⊎◌, ◌≢◌, Ok, Err, Result, List, ◌++◌, length, replicate}
use Rattle.bodies.specs.Numbers.{be16}
use Rattle.blocks.specs.declared.block.Block.{Block}
use Rattle.blocks.specs.declared.block.Unwritten.{Unwritten}
use Rattle.blocks.specs.declared.block.Unwritten.TheVariants.{WrongData, WrongLength}
use Rattle.blocks.specs.Checks.{check_of}

-- the first 510, where the data are these: version, number, count, data length, the data, and zeros
unfoldable pub checked_bytes : ℕ → ℕ → ℕ → List ℕ → List ℕ
checked_bytes version number count bytes =
    be16 version ++ be16 number ++ be16 count ++ be16 (length bytes) ++ bytes ++ replicate (502 - length bytes) 0

-- these and their check
unfoldable pub block_bytes : ℕ → ℕ → ℕ → List ℕ → List ℕ
block_bytes version number count bytes =
    checked_bytes version number count bytes ++ be16 (check_of (checked_bytes version number count bytes))

abbrev pub bytes_of : Block → List ℕ
bytes_of b = block_bytes b.version b.number b.count b.«data».now

-- a block has 1 to 502 data bytes
abbrev pub HasData : Block → Type 0
HasData b = (1 ≤ length b.«data».now) × (length b.«data».now ≤ 502)

-- a block of an image: the count is 1 to 15, and all blocks but the last are full
pub record IsImageBlock (b : Block) : Type 0 where
  pub below : b.number < b.count
  pub most : b.count ≤ 15
  pub has_data : HasData b
  pub full : (b.number + 1 ≡ b.count) ⊎ (length b.«data».now ≡ 502)

-- a block with data stands in the place of 512 lent bytes; else they stay
abbrev pub BlockWrote : Block → List ℕ → List ℕ → Result (Unit {0}) Unwritten → Type 0
BlockWrote b old new (Ok _) = HasData b × (length old ≡ 512) × (new ≡ bytes_of b)
BlockWrote b old new (Err WrongData) = (HasData b → ⊥) × (new ≡ old)
BlockWrote b old new (Err WrongLength) = HasData b × (length old ≢ 512) × (new ≡ old)
