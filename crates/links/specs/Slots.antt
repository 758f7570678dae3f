-- Messages in slots, each in its own.
use Rattle.std.specs.Prelude.{◌≡◌, ℕ, ◌-◌, Bool, true, ◌&&◌, List, [], ◌∷◌, ◌++◌, map, length, replicate, nat_le, refl}
use Rattle.std.proofs.lemmas.Bool.{and_parts, and_from}
use Rattle.bodies.specs.Bodies.{same}
use Rattle.bodies.specs.Weights.{longest_body}
use Rattle.messages.specs.Messages.{Content, body_of, message_bytes, first_message}
use Rattle.links.specs.Links.{all_short}

-- a message's bytes, and zeros up to the longest message's length
abbrev pub padded_bytes : Content → List ℕ
padded_bytes m = message_bytes m ++ replicate (longest_body - length (body_of m)) 0

-- the messages in slots
abbrev pub in_slots : List (List ℕ) → List Content
in_slots slots = map first_message slots

-- whether a slot is that of a message whose body has at most forty bytes
abbrev pub is_filled : List ℕ → Bool
is_filled xs = nat_le (length (body_of (first_message xs))) longest_body && same (padded_bytes (first_message xs)) xs

abbrev pub all_filled : List (List ℕ) → Bool
all_filled [] = true
all_filled (xs ∷ slots) = is_filled xs && all_filled slots

-- messages in filled slots have no body over forty bytes
pub in_slots_short : (slots : List (List ℕ)) → all_filled slots ≡ true → all_short (in_slots slots) ≡ true
in_slots_short [] e = refl
in_slots_short (xs ∷ slots) e =
    let p = and_parts (is_filled xs) (all_filled slots) e in
    and_from (nat_le (length (body_of (first_message xs))) longest_body) (all_short (in_slots slots)) (and_parts _ _ p.0).0 (in_slots_short slots p.1)
