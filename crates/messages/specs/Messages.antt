-- Messages, and the bytes that they write.
use Rattle.std.specs.Prelude.{◌≡◌, ℕ, ◌≤◌, cond, List, [], ◌∷◌, ◌++◌, length, take, drop, Ok, Err, Result as Answer, ◌==◌, ◌≢◌, slice_index, slice_index_or, refl}
use Rattle.std.proofs.Common.{sym, subst, ◌∙◌, arith, length-append}
use Rattle.std.proofs.lemmas.List.{take_at, drop_at}
use Rattle.messages.specs.declared.message.Unwritten.{Unwritten}
use Rattle.messages.specs.declared.message.Unwritten.TheVariants.{LongBody, WrongLength}
use Rattle.messages.specs.declared.message.Message.{Message}
use Rattle.messages.specs.declared.message.Message.TheVariants as case
use Rattle.messages.specs.declared.kind.Kind.{Kind}
use Rattle.messages.specs.declared.kind.Kind.TheVariants as kind
use Rattle.messages.specs.Kinds.{kind_byte}
use Rattle.bodies.specs.Numbers.{be16, be32, worth, worth16, worth32}
use Rattle.bodies.specs.Weights.{header_length, weigh, longest_body}

-- a message by what it says: a record or result by its number and body, an ack by the number acknowledged,
-- a csync or psync by its version
pub data Content : Type 0 where
  Record : ℕ → List ℕ → Content
  Result : ℕ → List ℕ → Content
  Ack : ℕ → Content
  Csync : ℕ → Content
  Psync : ℕ → Content
  Reverse : Content

-- what a message of the code says
abbrev pub content_of : Message → Content
content_of (case.Record number body) = Record number body.now
content_of (case.Result number body) = Result number body.now
content_of (case.Ack number) = Ack number
content_of (case.Csync version) = Csync version
content_of (case.Psync version) = Psync version
content_of case.Reverse = Reverse

-- its body; all but records and results have none
abbrev pub body_of : Content → List ℕ
body_of (Record n b) = b
body_of (Result n b) = b
body_of (Ack n) = []
body_of (Csync v) = []
body_of (Psync v) = []
body_of Reverse = []

abbrev pub weight_of : Content → ℕ
weight_of m = weigh (length (body_of m))

-- a message's body has at most forty bytes
abbrev pub Short : Content → Type 0
Short m = length (body_of m) ≤ longest_body

abbrev pub kind_of : Content → Kind
kind_of (Record n b) = kind.Record
kind_of (Result n b) = kind.Result
kind_of (Ack n) = kind.Ack
kind_of (Csync v) = kind.Csync
kind_of (Psync v) = kind.Psync
kind_of Reverse = kind.Reverse

-- zero but in a csync or psync
abbrev pub version_of : Content → ℕ
version_of (Record n b) = 0
version_of (Result n b) = 0
version_of (Ack n) = 0
version_of (Csync v) = v
version_of (Psync v) = v
version_of Reverse = 0

-- zero in a csync, a psync or a reverse
abbrev pub number_of : Content → ℕ
number_of (Record n b) = n
number_of (Result n b) = n
number_of (Ack n) = n
number_of (Csync v) = 0
number_of (Psync v) = 0
number_of Reverse = 0

-- the header, then the body
abbrev pub message_bytes : Content → List ℕ
message_bytes m = kind_byte (kind_of m) ∷ length (body_of m) ∷ be16 (version_of m) ++ be32 (number_of m) ++ body_of m

-- a message has as many bytes as it weighs
abbrev pub AsLong : Type 0
AsLong = (m : Content) → length (message_bytes m) ≡ weight_of m

pub as_long : AsLong
as_long m = omega arith

-- a message's fields, the kind as its byte, and its body
pub record Fields (m : Content) (byte version number : ℕ) (body : List ℕ) : Type 0 where
  pub kind_is : kind_byte (kind_of m) ≡ byte
  pub version_is : version_of m ≡ version
  pub number_is : number_of m ≡ number
  pub body_is : body_of m ≡ body

-- a message stands in the place of lent bytes of the same number; a body over forty bytes is written nowhere
abbrev pub MessageWrote : Content → List ℕ → List ℕ → Answer (Unit {0}) Unwritten → Type 0
MessageWrote m old new (Ok _) = Short m × (length old ≡ weight_of m) × (new ≡ message_bytes m)
MessageWrote m old new (Err LongBody) = (Short m → ⊥) × (new ≡ old)
MessageWrote m old new (Err WrongLength) = Short m × (length old ≢ weight_of m) × (new ≡ old)

-- a message is its fields
unfoldable pub from_fields : ℕ → ℕ → ℕ → List ℕ → Content
from_fields k v n b =
    cond (k == 1) (Record n b) (cond (k == 2) (Result n b) (cond (k == 3) (Ack n) (cond (k == 4) (Csync v) (cond (k == 5) (Psync v) Reverse))))

fields_back : (m : Content) → from_fields (kind_byte (kind_of m)) (version_of m) (number_of m) (body_of m) ≡ m
unfolding from_fields
fields_back (Record n b) = refl
fields_back (Result n b) = refl
fields_back (Ack n) = refl
fields_back (Csync v) = refl
fields_back (Psync v) = refl
fields_back Reverse = refl

pub fields_apart : (m n : Content) (byte version number : ℕ) (body : List ℕ) → Fields m byte version number body → Fields n byte version number body → m ≡ n
fields_apart m n byte version number body f g =
    sym (fields_back m)
    ∙ (λ i. from_fields ((f.kind_is ∙ sym g.kind_is) i) ((f.version_is ∙ sym g.version_is) i) ((f.number_is ∙ sym g.number_is) i) ((f.body_is ∙ sym g.body_is) i))
    ∙ fields_back n

-- bytes that begin with a message, taken apart
pub record Begins (m : Content) (more xs : List ℕ) : Type 0 where
  pub header : weigh 0 ≤ length xs
  pub body_long : length (body_of m) ≡ slice_index xs 1
  pub fields : Fields m (slice_index xs 0) (worth (slice_index xs 2 ∷ slice_index xs 3 ∷ [])) (worth (slice_index xs 4 ∷ slice_index xs 5 ∷ slice_index xs 6 ∷ slice_index xs 7 ∷ [])) (take (slice_index xs 1) (drop header_length xs))
  pub behind : more ≡ drop (slice_index xs 1) (drop header_length xs)
  pub within : slice_index_or xs 1 0 ≤ length (drop header_length xs)

begun : (m : Content) (more : List ℕ) → Begins m more (message_bytes m ++ more)
begun m more =
    let b = body_of m in
    record {
      header = simp length-append (omega arith);
      body_long = refl;
      fields = record { kind_is = refl; version_is = sym (worth16 (version_of m)); number_is = sym (worth32 (number_of m)); body_is = sym (take_at b more (length b) refl) };
      behind = sym (drop_at b more (length b) refl);
      within = let l = length-append b more in omega arith;
    }

pub begins : (m : Content) (more xs : List ℕ) → message_bytes m ++ more ≡ xs → Begins m more xs
begins m more xs e = let P : List ℕ → Type 0 = λ l. Begins m more l in subst P e (begun m more)

-- no bytes begin with two messages, and so none are two
abbrev pub OneMessage : Type 0
OneMessage = (m n : Content) (x y : List ℕ) → message_bytes m ++ x ≡ message_bytes n ++ y → (m ≡ n) × (x ≡ y)

pub one_message : OneMessage
one_message m n x y e =
    let f = begins m x (message_bytes n ++ y) e in
    let g = begins n y (message_bytes n ++ y) refl in
    (fields_apart m n _ _ _ _ f.fields g.fields, f.behind ∙ sym g.behind)

-- the message that bytes begin with, where they begin with one, and the bytes behind it
abbrev pub first_message : List ℕ → Content
first_message xs =
    from_fields (slice_index xs 0) (worth (slice_index xs 2 ∷ slice_index xs 3 ∷ [])) (worth (slice_index xs 4 ∷ slice_index xs 5 ∷ slice_index xs 6 ∷ slice_index xs 7 ∷ [])) (take (slice_index xs 1) (drop header_length xs))

abbrev pub behind_first : List ℕ → List ℕ
behind_first xs = drop (slice_index xs 1) (drop header_length xs)

pub first_back : (m : Content) (more : List ℕ) → first_message (message_bytes m ++ more) ≡ m
first_back m more =
    let f = (begun m more).fields in
    (λ i. from_fields (sym f.kind_is i) (sym f.version_is i) (sym f.number_is i) (sym f.body_is i)) ∙ fields_back m

pub behind_back : (m : Content) (more : List ℕ) → behind_first (message_bytes m ++ more) ≡ more
behind_back m more = sym (begun m more).behind
