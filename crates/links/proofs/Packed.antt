-- A packed link with a message more behind the others, and with the first gone.
use Rattle.std.proofs.Common.{◌≡◌, ℕ, ◌+◌, ◌-◌, ◌*◌, ◌≤◌, true, cond, List, [], ◌∷◌, ◌++◌, length, drop, is_ok, Some, Ok, Result as Answer, sym, ap, ◌∙◌, arith, length-append}
use Rattle.messages.specs.Messages.{Content, Short, message_bytes, weight_of}
use Rattle.links.specs.declared.link.Untaken.{Untaken}
use Rattle.links.specs.declared.packed_link.PackedLink.{PackedLink}
use Rattle.links.specs.Links.{all_short, weigh_all, offer_answer, offered, first_of, rest_of}
use Rattle.links.specs.Spelling.{spelling, spelled, spelled_weight, weigh_least}
use Rattle.links.proofs.Offers.{admitted, answered, weigh_push, short_push, short_rest, front_of}
use Rattle.links.proofs.Spelled.{spells_push, spells_rest}

-- the messages that wait on a packed link
abbrev pub waits : PackedLink → List Content
waits l = spelled l.bytes

-- each of them weighs a header at least
pub few : (l : PackedLink) → 8 * l.count ≤ 502
few l = let n = weigh_least (waits l) in omega (arith, l.counts, l.light)

-- what an offer is answered by the bytes in use, it is by what waits; and what waits then
pub record Answered (l : PackedLink) (m : Content) (r : Answer (Unit {0}) Untaken) : Type 0 where
  pub is : r ≡ offer_answer 502 (weigh_all (waits l)) m
  pub after : cond (is_ok r) (waits l ++ m ∷ []) (waits l) ≡ offered 502 m (waits l)

pub answered_by : (l : PackedLink) (m : Content) {r : Answer (Unit {0}) Untaken} {used : ℕ} → r ≡ offer_answer 502 used m → used ≡ length l.bytes → Answered l m r
answered_by l m {r} e u =
    let is = e ∙ ap (λ weight. offer_answer 502 weight m) (u ∙ sym (spelled_weight l.bytes l.spells)) in
    record { is = is; after = answered 502 m (waits l) r is }

-- bytes in use, how many messages they spell, and which
pub record Kept (xs : List ℕ) (count : ℕ) (ms : List Content) : Type 0 where
  pub are : spelled xs ≡ ms
  pub spells : spelling (spelled xs) ≡ xs
  pub counts : count ≡ length (spelled xs)
  pub light : weigh_all (spelled xs) ≤ 502
  pub short : all_short (spelled xs) ≡ true

-- what an offer finds that is taken: a short message, and space behind the bytes in use
pub room : (l : PackedLink) (m : Content) {used : ℕ} → Ok (tt {0}) ≡ offer_answer 502 used m → used ≡ length l.bytes → Short m × (length l.bytes + weight_of m ≤ 502)
room l m {used} taken u = let a = admitted 502 used m taken in (a.short, omega (arith, a.space))

-- a link with a message more behind the others
pub pushed : (l : PackedLink) (m : Content) {ys : List ℕ} {used : ℕ} → Ok (tt {0}) ≡ offer_answer 502 used m → used ≡ length l.bytes → ys ≡ l.bytes ++ message_bytes m → Kept ys (l.count + 1) (offered 502 m (waits l))
pushed l m {ys} {used} taken u e =
    let ms = waits l in
    let a = admitted 502 used m taken in
    let s = spells_push l.bytes ys m l.spells e in
    let many = ap length s.are ∙ length-append ms (m ∷ []) in
    let weigh = ap weigh_all s.are ∙ weigh_push ms m in
    record {
      are = s.are ∙ (answered_by l m taken u).after;
      spells = s.again;
      counts = omega (arith, l.counts);
      light = let w = spelled_weight l.bytes l.spells in omega (arith, a.space);
      short = ap all_short s.are ∙ short_push ms m l.short a.short;
    }

-- and one without the first
pub dropped : (l : PackedLink) {m : Content} {ys : List ℕ} {weight : ℕ} → Some m ≡ first_of (waits l) → weight ≡ weight_of m → ys ≡ drop weight l.bytes → Kept ys (l.count - 1) (rest_of (waits l))
dropped l {m} {ys} {weight} is w e =
    let s = spells_rest m l.bytes ys weight l.spells is w e in
    let many = ap length s.are in
    let weigh = ap weigh_all s.are in
    let front = front_of m (waits l) is in
    record {
      are = s.are;
      spells = s.again;
      counts = omega (arith, l.counts, front.fewer);
      light = omega (arith, l.light, front.heavier);
      short = ap all_short s.are ∙ short_rest (waits l) l.short;
    }
