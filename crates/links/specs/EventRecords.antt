-- Records of events offered to a new packed link: the first 29 are taken, and weigh 493.
use Rattle.std.specs.Prelude.{◌≡◌, ℕ, ◌+◌, List, [], ◌∷◌, map, length, take}
use Rattle.bodies.specs.declared.event.Event.{Event}
use Rattle.bodies.specs.Events.{event_bytes}
use Rattle.messages.specs.Messages.{Content, Record}
use Rattle.links.specs.Links.{weigh_all}
use Rattle.links.specs.NoneLost.{Offer, after_all}

-- events as records, numbered from n on
abbrev pub event_records : ℕ → List Event → List Content
event_records n [] = []
event_records n (e ∷ es) = Record n (event_bytes e) ∷ event_records (n + 1) es

-- of any records of events, however many, a link of limit 502 on which these messages wait takes the first 29 and no other;
-- 29 weigh 493
pub record Takes29 (ms : List Content) : Type 0 where
  pub taken : (n : ℕ) (es : List Event) → after_all 502 (map Offer (event_records n es)) ms ≡ event_records n (take 29 es)
  pub weight : (n : ℕ) (es : List Event) → length es ≡ 29 → weigh_all (event_records n es) ≡ 493
