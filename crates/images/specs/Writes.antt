-- What writing an image answers and leaves.
use Rattle.std.specs.Prelude.{◌≡◌, ℕ, ◌*◌, ◌<◌, ◌⊎◌, Bool, true, false, Ok, Err, Result, List, ◌++◌, length, take, drop}
use Rattle.operators.specs.Operators.{unbounded}
use Rattle.images.specs.Contents.{Contents, data_of, are_sound, is_sound}
use Rattle.images.specs.Images.{count_of, image_bytes}
use Rattle.images.specs.declared.write.Unwritten.{Unwritten}
use Rattle.images.specs.declared.write.Unwritten.TheVariants.{OutOfBounds, ShortTable, ShortMemory}

-- the blocks of an image stand in front of the memory's bytes, the others are as they were, and the count is answered;
-- or all are as they were
abbrev pub BlocksWrote : (version : ℕ) → List ℕ → (old new : List ℕ) → Result ℕ Unwritten → Type 0
BlocksWrote version bytes old new (Ok count) = (count ≡ count_of bytes) × (new ≡ image_bytes version bytes ++ drop (512 * count) old)
BlocksWrote version bytes old new (Err e) = (e ≡ ShortMemory) × (length old < 512 * count_of bytes) × (new ≡ old)

module _ (size longest : ℕ) (c : Contents) (has_places : Bool) where
  -- why contents are not written, of an operator whose states have at most so many bytes and a table that has every place or not: the first that is so
  abbrev pub Unheld : Unwritten → Type 0
  Unheld OutOfBounds = (longest ≡ unbounded) ⊎ (are_sound size c.counts (length c.state) ≡ false)
  Unheld ShortTable = (longest < unbounded) × (are_sound size c.counts (length c.state) ≡ true) × (has_places ≡ false)
  Unheld ShortMemory = ⊥

  -- the image of sound contents stands in the memory
  abbrev pub ImageWrote : (version : ℕ) → (old new : List ℕ) → Result ℕ Unwritten → Type 0
  ImageWrote version old new (Ok count) =
      (longest < unbounded) × (is_sound size c ≡ true) × BlocksWrote version (data_of c) old new (Ok count)
  ImageWrote version old new (Err ShortMemory) =
      (is_sound size c ≡ true) × BlocksWrote version (data_of c) old new (Err ShortMemory)
  ImageWrote version old new (Err e) = Unheld e × (new ≡ old)

  -- the data of sound contents stand in front
  abbrev pub PutData : List ℕ → Result ℕ Unwritten → Type 0
  PutData new (Ok n) = (longest < unbounded) × (is_sound size c ≡ true) × (n ≡ length (data_of c)) × (take n new ≡ data_of c)
  PutData new (Err e) = Unheld e
