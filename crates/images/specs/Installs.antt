-- What installing an image answers and leaves.
use Rattle.std.specs.Prelude.{◌≡◌, ℕ, ◌<◌, ◌≤◌, Ok, Err, Result, List, length}
use Rattle.std.specs.List.{flat_map}
use Rattle.operators.specs.Operators.{unbounded}
use Rattle.images.specs.Contents.{Contents}
use Rattle.images.specs.Takes.{memory_length}
use Rattle.images.specs.declared.fault.ImageFault.{ImageFault}
use Rattle.images.specs.declared.fault.ImageFault.TheVariants.{Unreadable, ShortMemory}

-- bytes that values of a kind write, one behind another
abbrev pub AreBodies : {A : Type 0} → (A → List ℕ) → List ℕ → Type 0
AreBodies {A} bytes held = (values : List A) × (flat_map bytes values ≡ held)

module _ {P State Out : Type 0} (state : P → State) (written : State → List ℕ) (longest : ℕ) (bytes : Out → List ℕ) (memory : List ℕ) (c : Contents) where
  -- the operator is set to the state that the image's bytes write, and the held bodies are values' of its results' kind; or it is as it was
  abbrev pub Installed : P → P → Result (Unit {0}) ImageFault → Type 0
  Installed old new (Ok _) = (memory_length ≤ length memory) × (longest < unbounded → written (state new) ≡ c.state) × AreBodies bytes c.held
  Installed old new (Err ShortMemory) = (new ≡ old) × (length memory < memory_length)
  Installed old new (Err Unreadable) =
      (new ≡ old) × (memory_length ≤ length memory) × (longest < unbounded → (s : State) → written s ≡ c.state → AreBodies bytes c.held → ⊥)
  Installed old new (Err _) = ⊥
