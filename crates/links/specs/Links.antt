-- What a link is: a list of waiting messages, and a limit to what they weigh together.
use Rattle.std.specs.Prelude.{◌≡◌, ℕ, ◌+◌, ◌≤◌, Bool, true, cond, ◌&&◌, List, [], ◌∷◌, ◌++◌, length, is_ok, Some, None, Ok, Err, Option, Result as Answer, nat_le}
use Rattle.bodies.specs.Weights.{longest_body}
use Rattle.messages.specs.declared.message.Message.{Message}
use Rattle.messages.specs.Messages.{Content, content_of, body_of, weight_of}
use Rattle.links.specs.declared.link.Empty.{Empty}
use Rattle.links.specs.declared.link.Untaken.{Untaken}
use Rattle.links.specs.declared.link.Untaken.TheVariants.{LongBody, NoSpace}

-- what messages weigh together
abbrev pub weigh_all : List Content → ℕ
weigh_all [] = 0
weigh_all (m ∷ ms) = weight_of m + weigh_all ms

-- whether no body of theirs has over forty bytes
abbrev pub all_short : List Content → Bool
all_short [] = true
all_short (m ∷ ms) = nat_le (length (body_of m)) longest_body && all_short ms

-- what an offer to messages of this weight is answered: it is taken exactly when its body has at most forty bytes and both
-- weights together are within the limit
abbrev pub offer_answer : ℕ → ℕ → Content → Answer (Unit {0}) Untaken
offer_answer limit weight m = cond (nat_le (length (body_of m)) longest_body) (cond (nat_le (weight + weight_of m) limit) (Ok tt) (Err NoSpace)) (Err LongBody)

abbrev pub is_taken : ℕ → ℕ → Content → Bool
is_taken limit weight m = is_ok (offer_answer limit weight m)

-- what is taken stands last; any other offer changes nothing
abbrev pub offered : ℕ → Content → List Content → List Content
offered limit m ms = cond (is_taken limit (weigh_all ms) m) (ms ++ m ∷ []) ms

-- the first of some messages
abbrev pub first_of : List Content → Option Content
first_of [] = None
first_of (m ∷ ms) = Some m

-- all but the first
abbrev pub rest_of : List Content → List Content
rest_of [] = []
rest_of (m ∷ ms) = ms

-- what dropping the first is answered
abbrev pub drop_answer : List Content → Answer (Unit {0}) Empty
drop_answer [] = Err (record {})
drop_answer (m ∷ ms) = Ok tt

-- what a message that was read says
abbrev pub says : Option Message → Option Content
says None = None
says (Some m) = Some (content_of m)

-- the least and the largest limit
abbrev pub least_limit : ℕ
least_limit = 48

abbrev pub largest_limit : ℕ
largest_limit = 4096

-- what every make of link owes
pub record LinkLaws {L : Type 0} (waiting : L → List Content) (limit : L → ℕ) : Type 0 where
  pub low : (l : L) → least_limit ≤ limit l
  pub high : (l : L) → limit l ≤ largest_limit
  -- what waits is within the limit
  pub light : (l : L) → weigh_all (waiting l) ≤ limit l
  -- and has no body over forty bytes
  pub short : (l : L) → all_short (waiting l) ≡ true
