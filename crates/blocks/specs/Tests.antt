-- The block test: which blocks pass, and which fault of another comes first.
use Rattle.std.specs.Prelude.{◌≡◌, ℕ, ◌+◌, ◌*◌, Bool, true, not, ◌&&◌, ◌||◌, List, length, take, drop, Some, None, Option, if◌then◌else◌, nat_lt, nat_le, ◌==◌, slice_index, slice_range}
use Rattle.std.specs.List.{list_all}
use Rattle.blocks.specs.declared.block.Block.{Block}
use Rattle.blocks.specs.declared.block_test.Expected.{Expected}
use Rattle.blocks.specs.declared.block_test.Expected.TheVariants.{First, Next}
use Rattle.blocks.specs.declared.fault.BlockFault.{BlockFault}
use Rattle.blocks.specs.declared.fault.BlockFault.TheVariants.{WrongLength, WrongCheck, WrongNumber, WrongVersion, WrongData}
use Rattle.blocks.specs.Checks.{check_of}
use Rattle.blocks.specs.Blocks.{IsImageBlock}

-- the number in the two bytes at a place
abbrev pub number_at : List ℕ → ℕ → ℕ
number_at bytes place = slice_index bytes place * 256 + slice_index bytes (place + 1)

-- the number is the one expected and, past block 0, the count too
abbrev pub has_number : Expected → ℕ → ℕ → Bool
has_number First number count = number == 0
has_number (Next n c _) number count = number == n && count == c

-- past block 0 the version is as expected
abbrev pub has_version : Expected → ℕ → Bool
has_version First version = true
has_version (Next _ _ v) version = version == v

-- the number is also below the count, which is at most 15
abbrev pub is_numbered : Expected → ℕ → ℕ → Bool
is_numbered expected number count = has_number expected number count && nat_lt number count && nat_le count 15

-- of the data bytes 1 to 502 are used, all 502 but in the last block, and the others are zero
abbrev pub is_filled : List ℕ → ℕ → Bool → Bool
is_filled places used is_last =
    nat_lt 0 used && nat_le used 502 && (is_last || used == 502) && list_all (λ b. b == 0) (drop used places)

-- the first fault, in the order of their numbers
abbrev pub first_fault : List ℕ → Expected → Option BlockFault
first_fault bytes expected =
    let version = number_at bytes 0 in
    let number = number_at bytes 2 in
    let count = number_at bytes 4 in
    let used = number_at bytes 6 in
    if not (length bytes == 512) then Some WrongLength
    else if not (number_at bytes 510 == check_of (take 510 bytes)) then Some WrongCheck
    else if not (is_numbered expected number count) then Some WrongNumber
    else if not (has_version expected version) then Some WrongVersion
    else if not (is_filled (slice_range bytes 8 510) used (number + 1 == count)) then Some WrongData
    else None

-- the block is one that is expected
abbrev pub IsExpected : Expected → Block → Type 0
IsExpected First b = b.number ≡ 0
IsExpected (Next number count version) b = (b.number ≡ number) × (b.count ≡ count) × (b.version ≡ version)

-- bytes are those of a block that passes wherever it is expected, if it is one of an image
abbrev pub PassesAs : Block → List ℕ → Type 0
PassesAs b bytes =
    IsImageBlock b → (expected : Expected) → IsExpected expected b → first_fault bytes expected ≡ None
