-- What the check is for: no change of one byte goes unseen.
use Rattle.std.specs.Prelude.{◌≡◌, ◌≢◌, ℕ, ◌<◌, List, Some, slice_index, slice_set}
use Rattle.blocks.specs.declared.block_test.Expected.{Expected}
use Rattle.blocks.specs.declared.fault.BlockFault.TheVariants.{WrongCheck}
use Rattle.blocks.specs.Tests.{first_fault}

-- a block's bytes with any one of them changed to another value are refused for their check, whatever is expected
abbrev pub NoByteHides : List ℕ → Type 0
NoByteHides bytes =
    (place byte : ℕ) → place < 512 → byte < 256 → byte ≢ slice_index bytes place → (expected : Expected) → first_fault (slice_set bytes place byte) expected ≡ Some WrongCheck
