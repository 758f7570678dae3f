-- One operator after another: the first's results go into the second.
use Rattle.std.specs.Prelude.{◌≡◌, ℕ, ◌+◌, min, List, [], ◌∷◌, ◌++◌, length}
use Rattle.bodies.specs.Numbers.{be32}
use Rattle.operators.specs.Operators.{unbounded}

-- what an operator is in once it took values one after another
abbrev pub after_all : {State In : Type 0} → (State → In → State) → State → List In → State
after_all next s [] = s
after_all next s (v ∷ vs) = after_all next (next s v) vs

-- what it gave while it took them
abbrev pub given_all : {State In Out : Type 0} → (State → In → State) → (State → In → List Out) → State → List In → List Out
given_all next gives s [] = []
given_all next gives s (v ∷ vs) = gives s v ++ given_all next gives (next s v) vs

module _ {S T In Mid : Type 0} (first_next : S → In → S) (first_gives : S → In → List Mid) (second_next : T → Mid → T) where
  -- both states once the first took a value, and the second what the first gave
  abbrev pub pipe_next : S × T → In → S × T
  pipe_next s v = (first_next s.0 v, after_all second_next s.1 (first_gives s.0 v))

  module _ {Out : Type 0} (second_gives : T → Mid → List Out) where
    -- what the second gives on what the first gives
    abbrev pub pipe_gives : S × T → In → List Out
    pipe_gives s v = given_all second_next second_gives s.1 (first_gives s.0 v)

    -- over any values, a pipe gives what the second gives over all that the first gives
    abbrev pub InTurn : Type 0
    InTurn = (s : S) (t : T) (vs : List In) → given_all pipe_next pipe_gives (s, t) vs ≡ given_all second_next second_gives t (given_all first_next first_gives s vs)

-- the first's length, the first, the second
abbrev pub pipe_written : List ℕ → List ℕ → List ℕ
pipe_written a b = be32 (length a) ++ a ++ b

abbrev pub pipe_longest : ℕ → ℕ → ℕ
pipe_longest a b = min (4 + a + b) unbounded
