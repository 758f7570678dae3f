-- What taking a block answers and leaves.
use Rattle.std.specs.Prelude.{◌≡◌, ◌≢◌, ℕ, ◌+◌, ◌*◌, ◌<◌, ◌≤◌, true, Some, None, List, ◌++◌, length, take, drop, slice_range}
use Rattle.blocks.specs.declared.block.Block.{Block}
use Rattle.blocks.specs.declared.block_test.Expected.{Expected}
use Rattle.blocks.specs.declared.block_test.Expected.TheVariants.{Next}
use Rattle.blocks.specs.declared.fault.BlockFault.TheVariants.{WrongLength}
use Rattle.blocks.specs.Blocks.{bytes_of, IsImageBlock}
use Rattle.blocks.specs.Tests.{first_fault, IsExpected}
use Rattle.images.specs.Contents.{Contents, data_of, is_sound}
use Rattle.images.specs.declared.fault.ImageFault.{ImageFault}
use Rattle.images.specs.declared.fault.ImageFault.TheVariants.{InBlock, WrongContents, Unreadable, ShortMemory}
use Rattle.images.specs.declared.complete.CompleteImage.{CompleteImage}
use Rattle.images.specs.declared.take.Taken.{Taken}
use Rattle.images.specs.declared.take.Taken.TheVariants.{Open, Complete}

-- the memory that blocks are taken into
abbrev pub memory_length : ℕ
memory_length = 7530

-- what an image holds whose blocks were taken into this memory
abbrev pub held_in : CompleteImage → List ℕ → Contents
held_in k memory = record {
  counts = k.counts;
  state = slice_range memory 16 (16 + k.state_length);
  held = slice_range memory (16 + k.state_length) (16 + k.state_length + k.held_length);
}

-- the data up to a block's, and the memory with a block's data at their place
abbrev pub data_through : Block → List ℕ → List ℕ
data_through b memory = take (502 * b.number) memory ++ b.«data».now

abbrev pub laid : Block → List ℕ → List ℕ
laid b memory = data_through b memory ++ drop (502 * b.number + length b.«data».now) memory

module _ (size : ℕ) (expected : Expected) (bytes : List ℕ) where
  -- the bytes are this block of an image, which is expected and passes the test, and there is memory for any
  abbrev pub IsTaken : List ℕ → Block → Type 0
  IsTaken memory b = (bytes_of b ≡ bytes) × IsImageBlock b × IsExpected expected b × (first_fault bytes expected ≡ None) × (memory_length ≤ length memory)

  -- the block's data stand in the memory; the next is expected, or the image is complete and its data are those of what it holds
  abbrev pub Took : List ℕ → List ℕ → Taken → Type 0
  Took old new (Open next) = (b : Block) × IsTaken old b × (new ≡ laid b old) × (b.number + 1 < b.count) × (next.expected ≡ Next (b.number + 1) b.count b.version)
  Took old new (Complete k) =
      (b : Block) × IsTaken old b × (new ≡ laid b old) × (b.number + 1 ≡ b.count) × (k.version ≡ b.version)
      × (is_sound size (held_in k new) ≡ true) × (data_of (held_in k new) ≡ data_through b old)

  -- why the block is not taken
  abbrev pub Faulty : List ℕ → ImageFault → Type 0
  Faulty memory (InBlock fault) = (first_fault bytes expected ≡ Some fault) × (fault ≢ WrongLength → memory_length ≤ length memory)
  Faulty memory ShortMemory = (length bytes ≡ 512) × (length memory < memory_length)
  Faulty memory WrongContents = (b : Block) × IsTaken memory b × (b.number + 1 ≡ b.count) × ((c : Contents) → is_sound size c ≡ true → data_of c ≢ data_through b memory)
  Faulty memory Unreadable = ⊥
