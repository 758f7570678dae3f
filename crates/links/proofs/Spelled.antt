-- Bytes that spell messages: one message behind them more, and the first of them gone.
use Rattle.std.proofs.Common.{◌≡◌, ℕ, List, [], ◌∷◌, ◌++◌, drop, is_some, Some, sym, ap, ◌∙◌}
use Rattle.std.proofs.lemmas.Bool.{true≢false}
use Rattle.std.proofs.lemmas.List.{drop_at, flat_map_more}
use Rattle.messages.specs.Messages.{Content, message_bytes, weight_of, as_long}
use Rattle.links.specs.Links.{first_of, rest_of}
use Rattle.links.specs.Spelling.{spelling, spelled, spelled_back}

-- bytes that messages write: which they spell, and that they spell them again
pub record Spells (xs : List ℕ) (ms : List Content) : Type 0 where
  pub are : spelled xs ≡ ms
  pub again : spelling (spelled xs) ≡ xs

spells : (xs : List ℕ) (ms : List Content) → xs ≡ spelling ms → Spells xs ms
spells xs ms e =
    let are : spelled xs ≡ ms = ap spelled e ∙ spelled_back ms in
    record { are = are; again = ap spelling are ∙ sym e }

pub spells_push : (xs ys : List ℕ) (m : Content) → spelling (spelled xs) ≡ xs → ys ≡ xs ++ message_bytes m → Spells ys (spelled xs ++ m ∷ [])
spells_push xs ys m e f = spells ys (spelled xs ++ m ∷ []) (f ∙ ap (λ l. l ++ message_bytes m) (sym e) ∙ flat_map_more message_bytes [] (spelled xs) m)

-- what messages write, but for the first of them, is what the others write
others : (m : Content) (ms : List Content) → Some m ≡ first_of ms → drop (weight_of m) (spelling ms) ≡ spelling (rest_of ms)
others m [] f = absurd (true≢false (ap is_some f))
others m (n ∷ ms) f = let same : n ≡ m = cc in drop_at (message_bytes n) (spelling ms) (weight_of m) (as_long n ∙ ap weight_of same)

pub spells_rest : (m : Content) (xs ys : List ℕ) (n : ℕ) → spelling (spelled xs) ≡ xs → Some m ≡ first_of (spelled xs) → n ≡ weight_of m → ys ≡ drop n xs → Spells ys (rest_of (spelled xs))
spells_rest m xs ys n e f k d = spells ys (rest_of (spelled xs)) (d ∙ (λ i. drop (k i) (sym e i)) ∙ others m (spelled xs) f)
