-- Which offers are taken, and lists with one message more and with one less.
use Rattle.std.proofs.Common.{◌≡◌, ℕ, ◌+◌, ◌≤◌, Bool, true, false, cond, leb, List, [], ◌∷◌, ◌++◌, length, is_some, is_ok, Some, Ok, Err, Option, Result as Answer, sym, refl, ap, ◌∙◌, arith}
use Rattle.std.proofs.lemmas.Bool.{true≢false, leb-true, le-leb, and_parts, and_from}
use Rattle.bodies.specs.Weights.{longest_body}
use Rattle.messages.specs.Messages.{Content, Short, content_of, body_of, weight_of}
use Rattle.messages.specs.declared.message.Message.{Message}
use Rattle.links.specs.declared.link.Untaken.{Untaken}
use Rattle.links.specs.declared.link.Untaken.TheVariants.{LongBody, NoSpace}
use Rattle.links.specs.Links.{weigh_all, all_short, offer_answer, offered, first_of, rest_of, says}

-- what waits after an offer, by its answer
pub answered : (limit : ℕ) (m : Content) (ms : List Content) (r : Answer (Unit {0}) Untaken) → r ≡ offer_answer limit (weigh_all ms) m → cond (is_ok r) (ms ++ m ∷ []) ms ≡ offered limit m ms
answered limit m ms r e = ap (λ a. cond (is_ok a) (ms ++ m ∷ []) ms) e

-- an offer that is taken is short and light
pub record Admitted (limit weight : ℕ) (m : Content) : Type 0 where
  pub short : Short m
  pub space : weight + weight_of m ≤ limit

pub admitted : (limit weight : ℕ) (m : Content) → Ok (tt {0}) ≡ offer_answer limit weight m → Admitted limit weight m
admitted limit weight m e = go (leb (length (body_of m)) longest_body) (leb (weight + weight_of m) limit) refl refl e
  where
    go : (a b : Bool) → leb (length (body_of m)) longest_body ≡ a → leb (weight + weight_of m) limit ≡ b → Ok (tt {0}) ≡ cond a (cond b (Ok (tt {0})) (Err NoSpace)) (Err LongBody) → Admitted limit weight m
    go true true short space h = record { short = leb-true _ _ short; space = leb-true _ _ space }
    go true false short space h = absurd (true≢false (ap is_ok h))
    go false b short space h = absurd (true≢false (ap is_ok h))

-- what they weigh with one more behind them
pub weigh_push : (ms : List Content) (m : Content) → weigh_all (ms ++ m ∷ []) ≡ weigh_all ms + weight_of m
weigh_push [] m = omega arith
weigh_push (n ∷ ms) m = let e = weigh_push ms m in omega arith

-- and that they stay short with a short one, and without the first
pub short_push : (ms : List Content) (m : Content) → all_short ms ≡ true → Short m → all_short (ms ++ m ∷ []) ≡ true
short_push [] m e h = and_from _ _ (le-leb _ _ h) refl
short_push (n ∷ ms) m e h = let p = and_parts _ _ e in and_from _ _ p.0 (short_push ms m p.1 h)

pub short_rest : (ms : List Content) → all_short ms ≡ true → all_short (rest_of ms) ≡ true
short_rest [] e = refl
short_rest (m ∷ ms) e = (and_parts (leb (length (body_of m)) longest_body) (all_short ms) e).1

-- the first of some messages is one more than the others, and weighs so much more
pub record Front (m : Content) (ms : List Content) : Type 0 where
  pub fewer : length ms ≡ length (rest_of ms) + 1
  pub heavier : weigh_all ms ≡ weight_of m + weigh_all (rest_of ms)

pub front_of : (m : Content) (ms : List Content) → Some m ≡ first_of ms → Front m ms
front_of m [] e = absurd (true≢false (ap is_some e))
front_of m (n ∷ ms) e = let same : n ≡ m = cc in record { fewer = omega arith; heavier = ap (λ k. weight_of k + weigh_all ms) same }

-- what a message that was read says, where it is the first
pub first_said : {r : Option Message} {message : Message} (ms : List Content) → says r ≡ first_of ms → r ≡ Some message → Some (content_of message) ≡ first_of ms
first_said ms e is = ap says (sym is) ∙ e
