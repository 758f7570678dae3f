-- Messages in slots: one slot more, the first of them, and the others.
use Rattle.std.proofs.Common.{◌≡◌, ℕ, ◌+◌, ◌<◌, ◌≤◌, true, ◌&&◌, leb, List, [], ◌∷◌, ◌++◌, length, Some, Ok, sym, refl, ap, ◌∙◌, subst, arith}
use Rattle.std.specs.Prelude.{slice_get}
use lib.ListN.{length-map}
use Rattle.std.proofs.lemmas.Bool.{leb-true, le-leb, and_parts, and_from}
use Rattle.std.proofs.lemmas.List.{map-append}
use Rattle.bodies.specs.Bodies.{same, same_true, same_self}
use Rattle.bodies.specs.Weights.{longest_body}
use Rattle.messages.specs.Messages.{Content, Short, body_of, weight_of, message_bytes, first_message, first_back}
use Rattle.links.specs.declared.slot_link.SlotLink.{SlotLink}
use Rattle.links.specs.Links.{weigh_all, offer_answer, offered, first_of}
use Rattle.links.specs.Slots.{padded_bytes, in_slots, is_filled, all_filled}
use Rattle.links.specs.Spelling.{weigh_least}
use Rattle.links.proofs.Offers.{admitted, answered, weigh_push}

-- each message weighs a header at least, so where one more finds space there is a slot
pub room : (l : SlotLink) (m : Content) → Ok (tt {0}) ≡ offer_answer 512 l.weight m → length l.slots < 64
room l m taken =
    let a = admitted 512 l.weight m taken in
    let n = length-map l.slots first_message in
    let w = weigh_least (in_slots l.slots) in
    omega (arith, a.space, l.weighs)

-- a short message's bytes fill a slot
filled_by : (m : Content) → Short m → is_filled (padded_bytes m) ≡ true
filled_by m short =
    let P : Content → Type 0 = λ n. (leb (length (body_of n)) longest_body && same (padded_bytes n) (padded_bytes m)) ≡ true in
    subst P (sym (first_back m _)) (and_from _ _ (le-leb _ _ short) (same_self (padded_bytes m)))

filled_push : (slots : List (List ℕ)) (xs : List ℕ) → all_filled slots ≡ true → is_filled xs ≡ true → all_filled (slots ++ xs ∷ []) ≡ true
filled_push [] xs e f = and_from _ _ f refl
filled_push (ys ∷ slots) xs e f = let p = and_parts _ _ e in and_from _ _ p.0 (filled_push slots xs p.1 f)

-- the message that the first slot begins with is the first
pub first_in : (m : Content) (more xs : List ℕ) (slots : List (List ℕ)) → Some xs ≡ slice_get slots 0 → message_bytes m ++ more ≡ xs → Some m ≡ first_of (in_slots slots)
first_in m more xs [] is e = cc
first_in m more xs (ys ∷ slots) is e = let same : xs ≡ ys = cc in ap Some (sym (first_back m more) ∙ ap first_message (e ∙ same))

-- and a filled slot begins with one
pub one_in : (xs : List ℕ) (slots : List (List ℕ)) → Some xs ≡ slice_get slots 0 → all_filled slots ≡ true → ((m : Content) (more : List ℕ) → Short m → message_bytes m ++ more ≡ xs → ⊥) → ⊥
one_in xs [] is e none = cc
one_in xs (ys ∷ slots) is e none =
    let eq : ys ≡ xs = cc in
    let p = and_parts (leb (length (body_of (first_message ys))) longest_body) (same (padded_bytes (first_message ys)) ys) (and_parts (is_filled ys) (all_filled slots) e).0 in
    none (first_message ys) _ (leb-true _ _ p.0) (same_true (padded_bytes (first_message ys)) ys p.1 ∙ eq)

-- a slot link with a message in the slot behind the others
pub record Pushed (l : SlotLink) (m : Content) (slots : List (List ℕ)) : Type 0 where
  pub filled : all_filled slots ≡ true
  pub weighs : weigh_all (in_slots slots) ≡ l.weight + weight_of m
  pub light : l.weight + weight_of m ≤ 512
  pub answer : Ok (tt {0}) ≡ offer_answer 512 (weigh_all (in_slots l.slots)) m
  pub after : in_slots slots ≡ offered 512 m (in_slots l.slots)

pub pushed : (l : SlotLink) (m : Content) {xs : List ℕ} {slots : List (List ℕ)} → Ok (tt {0}) ≡ offer_answer 512 l.weight m → xs ≡ padded_bytes m → slots ≡ l.slots ++ xs ∷ [] → Pushed l m slots
pushed l m taken x s =
    let e = s ∙ ap (λ ys. l.slots ++ ys ∷ []) x in
    let ms = in_slots l.slots in
    let a = admitted 512 l.weight m taken in
    let are = ap in_slots e ∙ map-append first_message l.slots (padded_bytes m ∷ []) ∙ ap (λ n. ms ++ n ∷ []) (first_back m _) in
    let w = ap weigh_all are ∙ weigh_push ms m in
    let answer = taken ∙ ap (λ weight. offer_answer 512 weight m) l.weighs in
    record {
      filled = ap all_filled e ∙ filled_push l.slots (padded_bytes m) l.filled (filled_by m a.short);
      weighs = omega (arith, w, l.weighs);
      light = a.space;
      answer = answer;
      after = are ∙ answered 512 m ms _ answer;
    }
