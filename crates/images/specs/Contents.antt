-- What an image holds, and its data.
use Rattle.std.specs.Prelude.{ℕ, ◌-◌, ◌*◌, Bool, ◌&&◌, ◌==◌, nat_le, List, ◌++◌, length}
use Rattle.std.specs.List.{flat_map}
use Rattle.bodies.specs.Numbers.{be32}
use Rattle.bodies.specs.Weights.{header_length, weigh}
use Rattle.numbered.specs.Buffers.{holding, bodies_of}
use Rattle.numbered.specs.declared.numbers.Numbers.{Numbers}
use Rattle.images.specs.declared.counts.Counts.{Counts}

-- the counts, the operator's state, and the bodies of the held results, one behind another
pub record Contents : Type 0 where
  pub counts : Counts
  pub state : List ℕ
  pub held : List ℕ

-- the three counts and the state's length, 4 bytes each
abbrev pub front_of : Counts → ℕ → List ℕ
front_of c state_length = be32 c.records_run ++ be32 c.results_produced ++ be32 c.results_settled ++ be32 state_length

abbrev pub data_of : Contents → List ℕ
data_of c = front_of c.counts (length c.state) ++ c.state ++ c.held

-- neither a state nor the results that wait, held or bare, are more
abbrev pub most_bytes : ℕ
most_bytes = 4096

-- so the bodies of held results, which have at most 40 bytes each, have no more together
abbrev pub most_held : ℕ
most_held = 3413

-- results come of records; a state of this length, and held results and bare numbers by their weight, are within bounds
abbrev pub are_sound : (size : ℕ) → Counts → ℕ → Bool
are_sound size c state_length =
    nat_le c.results_produced c.records_run && nat_le state_length most_bytes
    && nat_le ((c.results_produced - c.results_settled) * weigh size) most_bytes && nat_le ((c.results_settled - c.results_produced) * header_length) most_bytes

-- contents whose held results have bodies of this size, and just as many as the counts say
abbrev pub is_sound : (size : ℕ) → Contents → Bool
is_sound size c =
    are_sound size c.counts (length c.state) && length c.held == (c.counts.results_produced - c.counts.results_settled) * size

-- the bodies that a buffer holds, one behind another
abbrev pub held_by : (size : ℕ) → Numbers → List ℕ → List ℕ
held_by size n table = flat_map (λ b. b) (bodies_of (holding size n table))

-- what a unit holds that ran so many records, from its operator's state and its buffer of results
abbrev pub contents_of : (size : ℕ) → ℕ → List ℕ → Numbers → List ℕ → Contents
contents_of size run written n table = record {
  counts = record { records_run = run; results_produced = n.last; results_settled = n.gone };
  state = written;
  held = held_by size n table;
}
