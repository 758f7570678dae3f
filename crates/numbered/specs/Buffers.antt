-- What a numbered buffer holds, and what each call does to it.
use Rattle.std.specs.Prelude.{◌≡◌, ℕ, ◌+◌, ◌-◌, ◌*◌, ◌/◌, ◌%◌, min, max, Bool, true, cond, ◌&&◌, List, [], ◌∷◌, ◌++◌, length, take, drop, is_ok, Some, None, Ok, Err, Option, Result, nat_le, nat_lt, slice_index_or}
use Rattle.bodies.specs.Weights.{header_length, weigh}
use Rattle.numbered.specs.declared.numbers.Numbers.{Numbers}
use Rattle.numbered.specs.declared.numbers.Unadded.{Unadded}
use Rattle.numbered.specs.declared.numbers.Unadded.TheVariants as unadded
use Rattle.numbered.specs.declared.buffer.Uninserted.{Uninserted}
use Rattle.numbered.specs.declared.buffer.Uninserted.TheVariants as uninserted
use Rattle.numbered.specs.declared.entry.Entry.{Entry}
use Rattle.numbered.specs.Rings.{ring}

-- a buffer holds values or bare numbers, never both: the first number, and the bodies of the values from it on;
-- or the first number without a body, and how many there are
pub data Holding : Type 0 where
  Values : ℕ → List (List ℕ) → Holding
  Bare : ℕ → ℕ → Holding

-- a new buffer holds nothing, and its first number is 1
abbrev pub empty : Holding
empty = Values 1 []

-- how many entries with a body of this size weigh no more than the limit
abbrev pub places : (limit size : ℕ) → ℕ
places limit size = limit / weigh size

-- what a buffer holds by the last number gone and the last given to a value: the bodies past the one gone; or, where
-- more are gone than were given, the bare numbers between
abbrev pub between : (gone last : ℕ) → List (List ℕ) → Holding
between gone last bodies = cond (nat_lt last gone) (Bare (last + 1) (gone - last)) (Values (gone + 1) bodies)

-- what a table's bytes and a buffer's numbers mean: each value's body stands at its number's place. Where the table has
-- not every place, no call shows the bodies that this says.
abbrev pub holding : (size : ℕ) → Numbers → List ℕ → Holding
holding size n table = between n.gone n.last (ring (places n.limit size) size table (n.gone + 1) (n.last - n.gone))

-- no number is larger
abbrev pub largest_number : ℕ
largest_number = 4294967295

-- the first number that a buffer holds, or, where it holds none, the next
abbrev pub first_number : Holding → ℕ
first_number (Values first bodies) = first
first_number (Bare first count) = first

-- the number that the next value gets
abbrev pub next_number : Holding → ℕ
next_number (Values first bodies) = first + length bodies
next_number (Bare first count) = first

-- the bodies of the values; bare numbers have none
abbrev pub bodies_of : Holding → List (List ℕ)
bodies_of (Values first bodies) = bodies
bodies_of (Bare first count) = []

-- how many bare numbers there are
abbrev pub bare_count : Holding → ℕ
bare_count (Values first bodies) = 0
bare_count (Bare first count) = count

-- what a buffer weighs: a value as its header and body, a bare number as a header
abbrev pub weight_of : (size : ℕ) → Holding → ℕ
weight_of size h = length (bodies_of h) * weigh size + bare_count h * header_length

-- whether a table of so many bytes has every place of a buffer that takes at least one value
abbrev pub has_places : (limit size table_length : ℕ) → Bool
has_places limit size table_length = nat_lt 0 (places limit size) && nat_le (places limit size * size) table_length

-- whether the next value is within the limit; one that uses up a bare number always is
abbrev pub has_space : (limit size : ℕ) → Holding → Bool
has_space limit size (Values first bodies) = nat_le (weight_of size (Values first bodies) + weigh size) limit
has_space limit size (Bare first count) = true

-- whether the next value has a place; one that uses up a bare number needs none
abbrev pub finds_place : (limit size table_length : ℕ) → Holding → Bool
finds_place limit size table_length (Values first bodies) = has_places limit size table_length
finds_place limit size table_length (Bare first count) = true

-- what an insert answers: the value's number, or the first of these that is so: no number is left, it would weigh more
-- than the limit, the table has not every place
abbrev pub insertion : (limit size table_length : ℕ) → Holding → Result ℕ Uninserted
insertion limit size table_length h =
    cond (nat_lt largest_number (next_number h)) (Err uninserted.NoNumber)
    (cond (has_space limit size h) (cond (finds_place limit size table_length h) (Ok (next_number h)) (Err uninserted.ShortTable)) (Err uninserted.Full))

-- so many bare numbers from one on; where there are none, values may follow
abbrev pub bare_from : (first count : ℕ) → Holding
bare_from first count = cond (nat_lt 0 count) (Bare first count) (Values first [])

-- one value more: behind the others, or dropped where its number is bare, which that uses up
abbrev pub with_value : List ℕ → Holding → Holding
with_value body (Values first bodies) = Values first (bodies ++ body ∷ [])
with_value body (Bare first count) = bare_from (first + 1) (count - 1)

-- what a buffer holds after an insert, which changes nothing where it is refused
abbrev pub inserted : (limit size table_length : ℕ) → List ℕ → Holding → Holding
inserted limit size table_length body h = cond (is_ok (insertion limit size table_length h)) (with_value body h) h

-- the table with a body over a number's place
abbrev pub over_place : (places size : ℕ) → List ℕ → ℕ → List ℕ → List ℕ
over_place places size table n body = take (n % places * size) table ++ (body ++ drop (n % places * size + size) table)

-- the table once a value is taken: it stands at its number's place, unless that number was bare
abbrev pub table_with : (limit size : ℕ) → List ℕ → List ℕ → Holding → List ℕ
table_with limit size table body (Values first bodies) = over_place (places limit size) size table (first + length bodies) body
table_with limit size table body (Bare first count) = table

-- the numbers once the next is given to a value
abbrev pub one_more : Numbers → Numbers
one_more n = record { limit = n.limit; gone = n.gone; last = n.last + 1 }

-- the numbers once all up to one are gone
abbrev pub gone_to : ℕ → Numbers → Numbers
gone_to number n = record { limit = n.limit; gone = number; last = n.last }

-- the value of a number, with that number
abbrev pub value_at : ℕ → Holding → Option (ℕ × List ℕ)
value_at number (Values first bodies) = cond (nat_le first number && nat_lt number (first + length bodies)) (Some (number, slice_index_or bodies (number - first) [])) None
value_at number (Bare first count) = None

-- the first value at or after a number
abbrev pub value_from : ℕ → Holding → Option (ℕ × List ℕ)
value_from number h = value_at (max number (first_number h)) h

-- what a call shows of a buffer: nothing where the table has not every place
abbrev pub where_places : {X : Type 0} → (limit size table_length : ℕ) → Option X → Option X
where_places limit size table_length shown = cond (has_places limit size table_length) shown None

-- what an entry of the code says: its number and its body
abbrev pub shown : Option Entry → Option (ℕ × List ℕ)
shown None = None
shown (Some e) = Some (e.number, e.body.now)

-- an entry of the code has a body of this size
abbrev pub OfSize : ℕ → Option Entry → Type 0
OfSize size None = Unit {0}
OfSize size (Some e) = length e.body.now ≡ size

-- the first so many values leave, or all where there are fewer
abbrev pub evicted : ℕ → Holding → Holding
evicted count (Values first bodies) = Values (first + min count (length bodies)) (drop count bodies)
evicted count (Bare first bare) = Bare first bare

-- the values up to a number leave
abbrev pub evicted_through : ℕ → Holding → Holding
evicted_through number h = evicted (number + 1 - first_number h) h

-- what adding a bare number answers: that number, or the first of these that is so: there are values, no number is left,
-- it would weigh more than the limit
abbrev pub bare_adding : (limit size : ℕ) → Holding → Result ℕ Unadded
bare_adding limit size h =
    cond (nat_lt 0 (length (bodies_of h))) (Err unadded.HoldsValues)
    (cond (nat_lt largest_number (first_number h + bare_count h)) (Err unadded.NoNumber)
    (cond (nat_le (weight_of size h + header_length) limit) (Ok (first_number h + bare_count h)) (Err unadded.Full)))

-- what a buffer holds after that, which changes nothing where it is refused
abbrev pub bare_added : (limit size : ℕ) → Holding → Holding
bare_added limit size h = cond (is_ok (bare_adding limit size h)) (Bare (first_number h) (bare_count h + 1)) h

-- the calls that change a buffer
pub data Request (A : Type 0) : Type 0 where
  Insert : A → Request A
  Evict : Request A
  EvictThrough : ℕ → Request A
  AddBare : Request A

module _ {A : Type 0} (bytes : A → List ℕ) (limit size table_length : ℕ) where
  -- what a buffer of this limit, in a table of so many bytes, holds after a request
  abbrev pub after : Request A → Holding → Holding
  after (Insert v) h = inserted limit size table_length (bytes v) h
  after Evict h = cond (has_places limit size table_length) (evicted 1 h) h
  after (EvictThrough number) h = evicted_through number h
  after AddBare h = bare_added limit size h
