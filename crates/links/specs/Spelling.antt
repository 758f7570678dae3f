-- Messages back to back: the bytes that a list of messages writes, and the list that bytes spell.
use Rattle.std.specs.Prelude.{◌≡◌, ℕ, zero, suc, ◌*◌, ◌≤◌, cond, List, [], ◌∷◌, length, nat_lt, refl}
use Rattle.std.proofs.Common.{sym, ap, ◌∙◌, arith, length-append}
use Rattle.std.proofs.lemmas.Bool.{le-ltb}
use Rattle.std.specs.List.{flat_map}
use Rattle.bodies.specs.Weights.{header_length}
use Rattle.messages.specs.Messages.{Content, message_bytes, as_long, first_message, behind_first, first_back, behind_back}
use Rattle.links.specs.Links.{weigh_all}

-- what messages write, one behind the other
abbrev pub spelling : List Content → List ℕ
spelling ms = flat_map message_bytes ms

-- the messages that bytes begin with, at most so many
abbrev pub first_messages : ℕ → List ℕ → List Content
first_messages zero xs = []
first_messages (suc n) xs = cond (nat_lt (length xs) header_length) [] (first_message xs ∷ first_messages n (behind_first xs))

-- the messages that bytes spell, no more than there are bytes; where no messages write the bytes, these are some messages that
-- write others
abbrev pub spelled : List ℕ → List Content
spelled xs = first_messages (length xs) xs

-- messages write as many bytes as they weigh
pub spelling_long : (ms : List Content) → length (spelling ms) ≡ weigh_all ms
spelling_long [] = refl
spelling_long (m ∷ ms) = length-append (message_bytes m) (spelling ms) ∙ (let e = spelling_long ms in let l = as_long m in omega arith)

-- each message weighs a header at least
pub weigh_least : (ms : List Content) → header_length * length ms ≤ weigh_all ms
weigh_least [] = omega arith
weigh_least (m ∷ ms) = let e = weigh_least ms in omega arith

messages_back : (n : ℕ) (ms : List Content) → length ms ≤ n → first_messages n (spelling ms) ≡ ms
messages_back zero [] h = refl
messages_back zero (m ∷ ms) h = absurd (omega arith)
messages_back (suc n) [] h = refl
messages_back (suc n) (m ∷ ms) h =
    let l = as_long m in
    rw (le-ltb (length (spelling (m ∷ ms))) 8 (simp length-append (omega arith)))
    (λ i. first_back m (spelling ms) i ∷ (ap (first_messages n) (behind_back m (spelling ms)) ∙ messages_back n ms (omega arith)) i)

-- what a list of messages writes spells that list, and so no other
pub spelled_back : (ms : List Content) → spelled (spelling ms) ≡ ms
spelled_back ms = messages_back (length (spelling ms)) ms (let a = spelling_long ms in let b = weigh_least ms in omega arith)

-- messages that bytes spell, with nothing left over, weigh as many
pub spelled_weight : (xs : List ℕ) → spelling (spelled xs) ≡ xs → weigh_all (spelled xs) ≡ length xs
spelled_weight xs e = sym (spelling_long (spelled xs)) ∙ ap length e
