-- Blocks taken one after another off bytes that have them back to back.
use Rattle.std.specs.Prelude.{◌≡◌, ℕ, ◌+◌, ◌*◌, ◌<◌, ◌≤◌, Ok, Err, Result, List, length, take, drop}
use Rattle.blocks.specs.declared.block_test.Expected.{Expected}
use Rattle.blocks.specs.declared.block_test.Expected.TheVariants.{First, Next}
use Rattle.images.specs.Contents.{Contents, data_of}
use Rattle.images.specs.Images.{count_of, blocks_from}
use Rattle.images.specs.Takes.{memory_length}
use Rattle.images.specs.Reads.{IsImage, NoneWrote, ImageRead}
use Rattle.images.specs.declared.take.Refused.{Refused}
use Rattle.images.specs.declared.take.Taken.{Taken}
use Rattle.images.specs.declared.take.Taken.TheVariants.{Open, Complete}

-- the number of the block that is expected
abbrev pub number_of : Expected → ℕ
number_of First = 0
number_of (Next n _ _) = n

-- the bytes are the next block's
abbrev pub IsNext : List ℕ → Expected → List ℕ → Type 0
IsNext blocks expected bytes = bytes ≡ take 512 (drop (512 * number_of expected) blocks)

-- the blocks taken so far are those of what lies in the memory
abbrev pub AreTaken : List ℕ → Expected → List ℕ → Type 0
AreTaken blocks First memory = Unit {0}
AreTaken blocks (Next n count version) memory = take (512 * n) blocks ≡ blocks_from version count memory 0 n

-- of an image of these data the next block is expected, and the data of those before it lie in the memory
abbrev pub GoesOn : (version : ℕ) → List ℕ → Expected → List ℕ → Type 0
GoesOn version bytes First memory = Unit {0}
GoesOn version bytes (Next n count v) memory =
    (n < count_of bytes) × (count ≡ count_of bytes) × (v ≡ version) × (take (502 * n) memory ≡ take (502 * n) bytes)

module _ (size : ℕ) (blocks first : List ℕ) where
  -- an image of which blocks were taken off these, into a memory that was this at first
  pub record Going (expected : Expected) (memory : List ℕ) : Type 0 where
    pub taken : AreTaken blocks expected memory
    pub on : (version : ℕ) (c : Contents) → IsImage size version c blocks → GoesOn version (data_of c) expected memory
    pub behind : drop (502 * number_of expected) memory ≡ drop (502 * number_of expected) first

  -- with the next block it goes on, or is complete and, where no bytes are behind, was written by just what it holds;
  -- where the block is refused, or bytes are behind the last, the blocks are no image
  abbrev pub GoneOn : Expected → (old new : List ℕ) → Result Taken Refused → Type 0
  GoneOn expected old new (Ok (Open next)) = Going next.expected new
  GoneOn expected old new (Ok (Complete k)) =
      (length blocks ≤ 512 * number_of expected + 512 → ImageRead size blocks first new (Ok k))
      × (512 * number_of expected + 512 < length blocks → NoneWrote size blocks)
  GoneOn expected old new (Err _) = memory_length ≤ length old → NoneWrote size blocks
