-- How many records of events a packed link takes.
use Rattle.std.proofs.Common.{◌≡◌, ℕ, zero, suc, ◌+◌, ◌*◌, Bool, true, false, cond, leb, List, [], ◌∷◌, ◌++◌, map, length, take, is_ok, Ok, Err, sym, refl, ap, ◌∙◌, append_assoc, arith}
use Rattle.std.proofs.lemmas.Bool.{le-leb, lt-leb}
use Rattle.std.proofs.lemmas.List.{append-nil}
use Rattle.bodies.specs.declared.event.Event.{Event}
use Rattle.bodies.specs.Events.{event_bytes}
use Rattle.messages.specs.Messages.{Content, Record}
use Rattle.links.specs.declared.link.Untaken.{Untaken}
use Rattle.links.specs.declared.link.Untaken.TheVariants.{NoSpace}
use Rattle.links.specs.Links.{weigh_all, offered}
use Rattle.links.specs.NoneLost.{Offer, after_all}
use Rattle.links.specs.EventRecords.{event_records, Takes29}
use Rattle.links.proofs.Offers.{weigh_push}

records_weigh : (n : ℕ) (es : List Event) → weigh_all (event_records n es) ≡ 17 * length es
records_weigh n [] = refl
records_weigh n (e ∷ es) = let more = records_weigh (n + 1) es in omega arith

-- an event's record is short, so only space tells whether it is taken
by_space : (n : ℕ) (e : Event) (ms : List Content) (b : Bool) → leb (weigh_all ms + 17) 502 ≡ b → offered 502 (Record n (event_bytes e)) ms ≡ cond b (ms ++ Record n (event_bytes e) ∷ []) ms
by_space n e ms true h = ap (λ c. cond (is_ok {E = Untaken} (cond c (Ok (tt {0})) (Err NoSpace))) (ms ++ Record n (event_bytes e) ∷ []) ms) h
by_space n e ms false h = ap (λ c. cond (is_ok {E = Untaken} (cond c (Ok (tt {0})) (Err NoSpace))) (ms ++ Record n (event_bytes e) ∷ []) ms) h

-- where `left` more find space, so many more are taken
taken_of : (left n : ℕ) (es : List Event) (ms : List Content) → weigh_all ms + 17 * left ≡ 493 → after_all 502 (map Offer (event_records n es)) ms ≡ ms ++ event_records n (take left es)
taken_of zero n [] ms w = sym (append-nil ms)
taken_of (suc left) n [] ms w = sym (append-nil ms)
taken_of zero n (e ∷ es) ms w =
    let full = by_space n e ms false (lt-leb (weigh_all ms + 17) 502 (omega arith)) in
    ap (after_all 502 (map Offer (event_records (n + 1) es))) full ∙ taken_of zero (n + 1) es ms w
taken_of (suc left) n (e ∷ es) ms w =
    let r = Record n (event_bytes e) in
    let space = by_space n e ms true (le-leb (weigh_all ms + 17) 502 (omega arith)) in
    let p = weigh_push ms r in
    ap (after_all 502 (map Offer (event_records (n + 1) es))) space
    ∙ taken_of left (n + 1) es (ms ++ r ∷ []) (omega arith)
    ∙ append_assoc ms (r ∷ []) (event_records (n + 1) (take left es))

pub takes_29 : Takes29 []
takes_29 = record {
  taken = λ n es. taken_of 29 n es [] refl;
  weight = λ n es e. let w = records_weigh n es in omega arith;
}
