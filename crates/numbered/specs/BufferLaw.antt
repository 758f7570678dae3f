-- What a buffer holds after any requests: just the values that were taken and are not gone, and never too much.
-- It was made by `new`, its limit is unchanged, and all its values are of one body kind, in one table of one length that
-- nothing else writes.
use Rattle.std.specs.Prelude.{◌≡◌, ℕ, ◌+◌, ◌-◌, ◌≤◌, min, cond, List, [], ◌∷◌, ◌++◌, map, length, take, drop, is_ok, Some, Err}
use Rattle.bodies.specs.Weights.{weigh}
use Rattle.bodies.specs.Events.{event_bytes}
use Rattle.bodies.specs.declared.event.Event.{Event}
use Rattle.numbered.specs.declared.buffer.Uninserted.TheVariants.{Full}
use Rattle.numbered.specs.Buffers.{Holding, Values, between, empty, largest_number, first_number, next_number, bodies_of, weight_of, has_places, insertion, value_at, where_places, bare_adding, Request, Insert, Evict, EvictThrough, AddBare, after}

module _ {A : Type 0} (bytes : A → List ℕ) (limit size table_length : ℕ) where
  -- the value that a request inserts, if it is taken
  abbrev pub taken_by : Request A → Holding → List A
  taken_by (Insert v) h = cond (is_ok (insertion limit size table_length h)) (v ∷ []) []
  taken_by Evict h = []
  taken_by (EvictThrough number) h = []
  taken_by AddBare h = []

  -- how many numbers are gone by a request: those of the values that it evicts, or the bare one that it adds
  abbrev pub gone_by : Request A → Holding → ℕ
  gone_by (Insert v) h = 0
  gone_by Evict h = cond (has_places limit size table_length) (min 1 (length (bodies_of h))) 0
  gone_by (EvictThrough number) h = min (number + 1 - first_number h) (length (bodies_of h))
  gone_by AddBare h = cond (is_ok (bare_adding limit size h)) 1 0

  -- the same of requests one after another: what the buffer holds, the values taken in order, and how many numbers are gone
  abbrev pub after_all : List (Request A) → Holding → Holding
  after_all [] h = h
  after_all (r ∷ rs) h = after_all rs (after bytes limit size table_length r h)

  abbrev pub taken_by_all : List (Request A) → Holding → List A
  taken_by_all [] h = []
  taken_by_all (r ∷ rs) h = taken_by r h ++ taken_by_all rs (after bytes limit size table_length r h)

  abbrev pub gone_by_all : List (Request A) → Holding → ℕ
  gone_by_all [] h = 0
  gone_by_all (r ∷ rs) h = gone_by r h + gone_by_all rs (after bytes limit size table_length r h)

-- values numbered from 1, of which so many numbers are gone: the values past those; or, where more are gone than there
-- are values, the bare numbers between
abbrev pub standing : {A : Type 0} → (A → List ℕ) → List A → ℕ → Holding
standing bytes vs gone = between gone (length vs) (map bytes (drop gone vs))

module _ {A : Type 0} (bytes : A → List ℕ) (size : ℕ) where
  -- after any requests to a new buffer, refused ones too, it holds just the values taken and not gone
  abbrev pub Keeps : Type 0
  Keeps = (limit table_length : ℕ) (rs : List (Request A)) → after_all bytes limit size table_length rs empty ≡ standing bytes (taken_by_all bytes limit size table_length rs empty) (gone_by_all bytes limit size table_length rs empty)

  -- a value taken whose number is not gone is shown under that number, which is one more than there were values before it
  abbrev pub Shows : Type 0
  Shows =
      (limit table_length : ℕ) (rs : List (Request A)) (before behind : List A) (v : A) →
      taken_by_all bytes limit size table_length rs empty ≡ before ++ v ∷ behind → gone_by_all bytes limit size table_length rs empty ≤ length before →
      where_places limit size table_length (value_at (length before + 1) (after_all bytes limit size table_length rs empty)) ≡ Some (length before + 1, bytes v)

  -- and the next value gets the number of its place among all values taken
  abbrev pub CountsOn : Type 0
  CountsOn = (limit table_length : ℕ) (rs : List (Request A)) → next_number (after_all bytes limit size table_length rs empty) ≡ length (taken_by_all bytes limit size table_length rs empty) + 1

  -- and it never weighs more than its limit
  abbrev pub StaysWithin : Type 0
  StaysWithin = (limit table_length : ℕ) (rs : List (Request A)) → weight_of size (after_all bytes limit size table_length rs empty) ≤ limit

-- a new buffer of 4,096 bytes takes the first 240 of any events and no other; 240 weigh 4,080, and one more would make
-- 4,097 and is refused
pub record Takes240 : Type 0 where
  pub taken : (table_length : ℕ) (es : List Event) → 2160 ≤ table_length → after_all event_bytes 4096 9 table_length (map Insert es) empty ≡ Values 1 (map event_bytes (take 240 es))
  pub weight : (first : ℕ) (bodies : List (List ℕ)) → length bodies ≡ 240 → weight_of 9 (Values first bodies) ≡ 4080
  pub more : (first : ℕ) (bodies : List (List ℕ)) → length bodies ≡ 240 → weight_of 9 (Values first bodies) + weigh 9 ≡ 4097
  pub refused : (table_length first : ℕ) (bodies : List (List ℕ)) → length bodies ≡ 240 → first + 240 ≤ largest_number → insertion 4096 9 table_length (Values first bodies) ≡ Err Full
