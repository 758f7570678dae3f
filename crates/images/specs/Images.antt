-- The blocks of an image: its data cut into parts of 502 bytes, each a block.
use Rattle.std.specs.Prelude.{ℕ, ◌+◌, ◌*◌, ◌/◌, List, length, take, drop}
use Rattle.std.specs.List.{flat_map, range_with_len}
use Rattle.blocks.specs.Blocks.{block_bytes}

-- how many blocks so many data bytes fill
abbrev pub count_of : List ℕ → ℕ
count_of bytes = (length bytes + 501) / 502

-- the data of a block by its number
abbrev pub part : List ℕ → ℕ → List ℕ
part bytes number = take 502 (drop (502 * number) bytes)

-- so many blocks from one on, back to back, of an image of this version and count with these data
abbrev pub blocks_from : (version count : ℕ) → List ℕ → (number many : ℕ) → List ℕ
blocks_from version count bytes number many =
    flat_map (λ k. block_bytes version k count (part bytes k)) (range_with_len number many)

-- all blocks of an image, back to back
abbrev pub image_bytes : (version : ℕ) → List ℕ → List ℕ
image_bytes version bytes = blocks_from version (count_of bytes) bytes 0 (count_of bytes)
