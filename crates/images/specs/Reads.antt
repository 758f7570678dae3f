-- What reading all blocks of an image answers and leaves.
use Rattle.std.specs.Prelude.{◌≡◌, ℕ, ◌≤◌, true, Ok, Err, Result, List, length, drop}
use Rattle.images.specs.Contents.{Contents, data_of, is_sound}
use Rattle.images.specs.Images.{image_bytes}
use Rattle.images.specs.Takes.{held_in, memory_length}
use Rattle.images.specs.declared.complete.CompleteImage.{CompleteImage}
use Rattle.images.specs.declared.fault.ImageFault.{ImageFault}

-- the bytes are the blocks of an image of sound contents
abbrev pub IsImage : (size version : ℕ) → Contents → List ℕ → Type 0
IsImage size version c blocks = (is_sound size c ≡ true) × (blocks ≡ image_bytes version (data_of c))

-- no sound contents wrote the bytes
abbrev pub NoneWrote : (size : ℕ) → List ℕ → Type 0
NoneWrote size blocks = (version : ℕ) (c : Contents) → IsImage size version c blocks → ⊥

-- only that: what is read is what wrote just these blocks, and nothing else did; the memory behind its data is as it was.
-- Round trip: with memory, no blocks that any sound contents wrote are refused.
abbrev pub ImageRead : (size : ℕ) → List ℕ → (old new : List ℕ) → Result CompleteImage ImageFault → Type 0
ImageRead size blocks old new (Ok k) =
    IsImage size k.version (held_in k new) blocks
    × ((version : ℕ) (c : Contents) → IsImage size version c blocks → (version ≡ k.version) × (c ≡ held_in k new))
    × (drop (length (data_of (held_in k new))) new ≡ drop (length (data_of (held_in k new))) old)
ImageRead size blocks old new (Err _) = memory_length ≤ length old → NoneWrote size blocks
