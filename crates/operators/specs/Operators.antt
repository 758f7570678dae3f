-- What an operator owes of what it gives and of its state's writing.
use Rattle.std.specs.Prelude.{◌≡◌, ℕ, ◌<◌, ◌≤◌, List, [], ◌∷◌, length, Some, None, Ok, Err, Option, Result, ◌≢◌}
use Rattle.operators.specs.declared.operator.NoState.{NoState}

-- a longest length of this much promises nothing
abbrev pub unbounded : ℕ
unbounded = 4294967295

pub record OperatorLaws {State In Out : Type 0} (gives : State → In → List Out) (written : State → List ℕ) (longest : ℕ) : Type 0 where
  -- none or one
  pub few : (s : State) (v : In) → length (gives s v) ≤ 1
  -- no writing is longer
  pub within : longest < unbounded → (s : State) → length (written s) ≤ longest
  -- a state reads back as itself: no two write the same
  pub apart : longest < unbounded → (s t : State) → written s ≡ written t → s ≡ t

-- what was given, as a list
abbrev pub listed : {A : Type 0} → Option A → List A
listed None = []
listed (Some x) = x ∷ []

-- an operator is set to the state that bytes write, or is as it was where none does
abbrev pub Restored : {P State : Type 0} → (P → State) → (State → List ℕ) → ℕ → List ℕ → P → P → Result (Unit {0}) NoState → Type 0
Restored state written longest from old new (Ok _) = longest < unbounded → written (state new) ≡ from
Restored {State = State} state written longest from old new (Err _) = (new ≡ old) × (longest < unbounded → (s : State) → written s ≢ from)
