-- What reading an image and installing it answers and leaves.
use Rattle.std.specs.Prelude.{◌≡◌, ℕ, ◌<◌, ◌≤◌, Ok, Err, Result, List, length}
use Rattle.std.specs.List.{flat_map}
use Rattle.operators.specs.Operators.{unbounded}
use Rattle.images.specs.Contents.{Contents}
use Rattle.images.specs.Reads.{IsImage}
use Rattle.images.specs.Takes.{memory_length}
use Rattle.images.specs.declared.counts.Counts.{Counts}
use Rattle.images.specs.declared.complete.CompleteImage.{CompleteImage}
use Rattle.images.specs.declared.fault.ImageFault.{ImageFault}

module _ {P State Out : Type 0} (state : P → State) (written : State → List ℕ) (longest size : ℕ) (bytes : Out → List ℕ) (blocks : List ℕ) where
  -- what an image of this state and these held values holds
  abbrev pub contents_by : Counts → State → List Out → Contents
  contents_by counts s values = record { counts = counts; state = written s; held = flat_map bytes values }

  -- the blocks are those that this state and these held values write
  abbrev pub AreWritten : (version : ℕ) → Counts → State → List Out → Type 0
  AreWritten version counts s values = IsImage size version (contents_by counts s values) blocks

  -- only that: the operator is set to a state that, with some values, wrote just these blocks.
  -- Round trip: with memory, no blocks that any state and values wrote are refused. A refusal leaves the operator as it was.
  abbrev pub Restored : List ℕ → P → P → Result CompleteImage ImageFault → Type 0
  Restored memory old new (Ok k) = longest < unbounded → (values : List Out) × AreWritten k.version k.counts (state new) values
  Restored memory old new (Err _) =
      (new ≡ old)
      × (longest < unbounded → memory_length ≤ length memory → (version : ℕ) (counts : Counts) (s : State) (values : List Out) → AreWritten version counts s values → ⊥)
