-- What a buffer holds, from its numbers and table: by which of the two is ahead, and after each change of them.
use Rattle.std.proofs.Common.{◌≡◌, ℕ, ◌+◌, ◌-◌, ◌*◌, ◌%◌, ◌<◌, ◌≤◌, min, max, Bool, true, false, cond, ◌&&◌, ltb, leb, List, [], ◌++◌, length, take, drop, is_some, is_ok, Some, None, Ok, Err, Option, Result, sym, refl, ap, ◌∙◌, inl, inr, add-mul, arith}
use Rattle.std.proofs.lemmas.List.{drop-drop}
use borrow.Rule.Slice.PartMut.{put_mid}
use Rattle.std.proofs.lemmas.Nat.{le-div}
use Rattle.std.proofs.lemmas.Bool.{cases_lt, lt-ltb, le-ltb, le-leb, lt-leb, cond-true, cond-false, and_from, and_left, and_right, and_parts, leb-true, true≢false, false≢true}
use Rattle.bodies.specs.Bodies.{Wrote}
use Rattle.bodies.specs.Weights.{header_length, weigh}
use Rattle.numbered.specs.declared.numbers.Numbers.{Numbers}
use Rattle.numbered.specs.declared.numbers.Unadded.TheVariants.{HoldsValues}
use Rattle.numbered.specs.declared.buffer.Uninserted.{Uninserted}
use Rattle.numbered.specs.declared.buffer.Uninserted.TheVariants.{NoNumber, Full, ShortTable}
use Rattle.numbered.specs.Rings.{at_place, ring}
use Rattle.numbered.specs.Buffers.{Holding, Values, Bare, between, bare_from, holding, largest_number, first_number, next_number, finds_place, insertion, inserted, table_with, value_from, places, weight_of, has_places, has_space, bare_adding, with_value, over_place, one_more, gone_to, value_at, evicted, evicted_through}
use Rattle.numbered.proofs.Rings.{ring_length, ring_drop, ring_at, ring_push}

-- a value written over as many bytes as it has
pub wrote_all : {E : Type 0} (bytes old new : List ℕ) (r : Result (Unit {0}) E) → length old ≡ length bytes → Wrote bytes old new r → new ≡ bytes
wrote_all bytes old new (Ok _) e w = w.1
wrote_all bytes old new (Err _) e w = absurd (w.0 e)

-- a table that has every place
pub all_places : (limit size long : ℕ) → 0 < places limit size → places limit size * size ≤ long → has_places limit size long ≡ true
all_places limit size long some h =
    and_from (ltb 0 (places limit size)) (leb (places limit size * size) long) (lt-ltb 0 (places limit size) some) (le-leb (places limit size * size) long h)

-- what a test shows where it holds, and nothing where it does not
pub shows : {X : Type 0} (b : Bool) (o : Option X) (x : X) → Some x ≡ cond b o None → (b ≡ true) × (Some x ≡ o)
shows true o x e = (refl, e)
shows false o x e = absurd (true≢false (ap is_some e))

pub hides : {X : Type 0} (b : Bool) (x : X) → None ≡ cond b (Some x) None → b ≡ false
hides true x e = absurd (false≢true (ap is_some e))
hides false x e = refl

pub shows_none : {X : Type 0} (b : Bool) (o : Option X) → o ≡ None → None ≡ cond b o None
shows_none true o e = sym e
shows_none false o e = refl

-- a body over a number's place, as a write to a part of the table leaves it
pub over_is_put : (p size : ℕ) (t : List ℕ) (m : ℕ) (body : List ℕ) → put_mid (m % p * size) size t body ≡ over_place p size t m body
over_is_put p size t m body = ap (λ l. take (m % p * size) t ++ (body ++ l)) (drop-drop size (m % p * size) t)

-- which of the two a buffer holds
pub is_values : (gone last : ℕ) (bodies : List (List ℕ)) → gone ≤ last → between gone last bodies ≡ Values (gone + 1) bodies
is_values gone last bodies le = cond-false (ltb last gone) _ _ (le-ltb last gone le)

pub is_bare : (gone last : ℕ) (bodies : List (List ℕ)) → last < gone → between gone last bodies ≡ Bare (last + 1) (gone - last)
is_bare gone last bodies lt = cond-true (ltb last gone) _ _ (lt-ltb last gone lt)

-- one bare number is used up, perhaps the last
pub used_up : (gone last : ℕ) (bodies : List (List ℕ)) → last < gone → (gone ≤ last + 1 → bodies ≡ []) → bare_from (last + 1 + 1) (gone - last - 1) ≡ between gone (last + 1) bodies
used_up gone last bodies lt none =
    elim (cases_lt (last + 1) gone) [
      | inl more ↦
          let left : gone - last - 1 ≡ gone - (last + 1) = omega arith in
          cond-true (ltb 0 (gone - last - 1)) _ _ (lt-ltb 0 (gone - last - 1) (omega arith)) ∙ ap (Bare (last + 1 + 1)) left ∙ sym (is_bare gone (last + 1) bodies more)
      | inr same ↦
          let first : last + 1 + 1 ≡ gone + 1 = omega arith in
          let others = sym (none same) in
          cond-false (ltb 0 (gone - last - 1)) _ _ (le-ltb 0 (gone - last - 1) (omega arith)) ∙ (λ i. Values (first i) (others i)) ∙ sym (is_values gone (last + 1) bodies same)
    ]

-- what an insert answers by its tests, and what the buffer holds by its answer
pub answers_by : (limit size long : ℕ) (h : Holding) (space place : Bool) → next_number h ≤ largest_number → has_space limit size h ≡ space → finds_place limit size long h ≡ place →
    insertion limit size long h ≡ cond space (cond place (Ok (next_number h)) (Err ShortTable)) (Err Full)
answers_by limit size long h space place few s p =
    cond-false (ltb largest_number (next_number h)) _ _ (le-ltb largest_number (next_number h) few) ∙ (λ i. cond (s i) (cond (p i) (Ok (next_number h)) (Err ShortTable)) (Err Full))

pub after_insert : (limit size long : ℕ) (body : List ℕ) (h : Holding) (r : Result ℕ Uninserted) → insertion limit size long h ≡ r → inserted limit size long body h ≡ cond (is_ok r) (with_value body h) h
after_insert limit size long body h r e = ap (λ s. cond (is_ok s) (with_value body h) h) e

module _ (size : ℕ) (n : Numbers) (t : List ℕ) where
  -- the bodies of the values, if there are any
  abbrev pub kept : List (List ℕ)
  kept = ring (places n.limit size) size t (n.gone + 1) (n.last - n.gone)

  abbrev pub values : Holding
  values = Values (n.gone + 1) kept

  abbrev pub bare : Holding
  bare = Bare (n.last + 1) (n.gone - n.last)

  pub holds_values : n.gone ≤ n.last → holding size n t ≡ values
  holds_values h = is_values n.gone n.last kept h

  pub holds_bare : n.last < n.gone → holding size n t ≡ bare
  holds_bare h = is_bare n.gone n.last kept h

  pub kept_length : length kept ≡ n.last - n.gone
  kept_length = ring_length (places n.limit size) size t (n.gone + 1) (n.last - n.gone)

  -- one of the two terms is 0
  pub weight_is : weight_of size (holding size n t) ≡ (n.last - n.gone) * weigh size + (n.gone - n.last) * header_length
  weight_is =
      elim (cases_lt n.last n.gone) [
        | inl h ↦ let none : n.last - n.gone ≡ 0 = omega arith in ap (weight_of size) (holds_bare h) ∙ ap (λ k. k * weigh size + (n.gone - n.last) * header_length) (sym none)
        | inr h ↦
            let none : n.gone - n.last ≡ 0 = omega arith in
            ap (weight_of size) (holds_values h) ∙ (let z = sym none in λ i. kept_length i * weigh size + z i * header_length)
      ]

  -- no bare number beside values
  pub refuses_bare : n.gone < n.last → bare_adding n.limit size (holding size n t) ≡ Err HoldsValues
  refuses_bare h =
      let l = kept_length in
      ap (bare_adding n.limit size) (holds_values (omega arith)) ∙ cond-true (ltb 0 (length kept)) _ _ (lt-ltb 0 (length kept) (omega arith))

  -- the first k values are gone, or all
  pub holds_fewer : (k g : ℕ) → n.gone ≤ n.last → g ≡ n.gone + min k (n.last - n.gone) → holding size (gone_to g n) t ≡ evicted k (holding size n t)
  holds_fewer k g h e =
      let p = places n.limit size in
      let l = kept_length in
      let first : g + 1 ≡ n.gone + 1 + min k (length kept) = omega arith in
      let others : ring p size t (g + 1) (n.last - g) ≡ drop k kept =
      elim (cases_lt k (n.last - n.gone)) [
        | inl some ↦
            let a : n.gone + 1 + k ≡ g + 1 = omega arith in
            let b : n.last - n.gone - k ≡ n.last - g = omega arith in
            sym (ring_drop p size t k (n.gone + 1) (n.last - n.gone) ∙ (λ i. ring p size t (a i) (b i)))
        | inr none ↦
            let a : n.last - g ≡ 0 = omega arith in
            let b : n.last - n.gone - k ≡ 0 = omega arith in
            ap (ring p size t (g + 1)) a ∙ sym (ring_drop p size t k (n.gone + 1) (n.last - n.gone) ∙ ap (ring p size t (n.gone + 1 + k)) b)
      ] in
      is_values g n.last _ (omega arith) ∙ (λ i. Values (first i) (others i)) ∙ sym (ap (evicted k) (holds_values h))

  -- all values up to a number are gone
  pub holds_past : (number g : ℕ) → g ≡ max n.gone (min number n.last) → holding size (gone_to g n) t ≡ evicted_through number (holding size n t)
  holds_past number g e =
      elim (cases_lt n.last n.gone) [
        | inl h ↦
            let same : g ≡ n.gone = omega arith in
            ap (λ m. holding size (gone_to m n) t) same ∙ holds_bare h ∙ sym (ap (evicted_through number) (holds_bare h))
        | inr h ↦
            let k : number + 1 - (n.gone + 1) ≡ number - n.gone = omega arith in
            holds_fewer (number - n.gone) g h (omega arith) ∙ ap (evicted (number - n.gone)) (holds_values h)
            ∙ ap (λ m. evicted m values) (sym k) ∙ sym (ap (evicted_through number) (holds_values h))
      ]

  -- a number between has a value, which stands at its place
  pub holds_number : (number : ℕ) → n.gone < number → number ≤ n.last → value_at number (holding size n t) ≡ Some (number, at_place (places n.limit size) size t number)
  holds_number number a b =
      let p = places n.limit size in
      let l = kept_length in
      let e : n.gone + 1 + (number - (n.gone + 1)) ≡ number = omega arith in
      let here = ring_at p size t (n.gone + 1) (n.last - n.gone) (number - (n.gone + 1)) (omega arith) ∙ ap (at_place p size t) e in
      ap (value_at number) (holds_values (omega arith))
      ∙ cond-true (leb (n.gone + 1) number && ltb number (n.gone + 1 + length kept)) _ _
      (and_from (leb (n.gone + 1) number) (ltb number (n.gone + 1 + length kept)) (le-leb (n.gone + 1) number (omega arith)) (lt-ltb number (n.gone + 1 + length kept) (omega arith)))
      ∙ ap (λ body. Some (number, body)) here

  -- and no other
  pub holds_none : (number : ℕ) → (n.gone < number → number ≤ n.last → ⊥) → value_at number (holding size n t) ≡ None
  holds_none number out =
      elim (cases_lt n.last n.gone) [
        | inl h ↦ ap (value_at number) (holds_bare h)
        | inr h ↦
            let l = kept_length in
            ap (value_at number) (holds_values h)
            ∙ cond-false (leb (n.gone + 1) number && ltb number (n.gone + 1 + length kept)) _ _
            (elim (cases_lt n.gone number) [
              | inl past ↦ and_right (leb (n.gone + 1) number) (ltb number (n.gone + 1 + length kept)) (le-ltb number (n.gone + 1 + length kept) (omega (arith, out past)))
              | inr before ↦ and_left (leb (n.gone + 1) number) (ltb number (n.gone + 1 + length kept)) (lt-leb (n.gone + 1) number (omega arith))
            ])
      ]

  -- the first value at or after a number
  pub holds_from : (m : ℕ) → n.gone < n.last → value_from m (holding size n t) ≡ value_at (max m (n.gone + 1)) (holding size n t)
  holds_from m h = ap (λ k. value_at (max m k) (holding size n t)) (ap first_number (holds_values (omega arith)))

  pub holds_none_from : (m : ℕ) → n.last ≤ n.gone → value_from m (holding size n t) ≡ None
  holds_none_from m h = holds_none (max m (first_number (holding size n t))) (λ a b. omega arith)

  -- so the first value of all has the number past the last gone
  pub holds_first : (x : ℕ × List ℕ) → Some x ≡ value_from 0 (holding size n t) → (n.gone < n.last) × (x.0 ≡ n.gone + 1)
  holds_first x e =
      elim (cases_lt n.gone n.last) [
        | inl h ↦
            let is = e ∙ holds_from 0 h ∙ holds_number (max 0 (n.gone + 1)) (omega arith) (omega arith) in
            let number : x.0 ≡ max 0 (n.gone + 1) = cc in
            (h, omega arith)
        | inr h ↦ let is = e ∙ holds_none_from 0 h in absurd (true≢false (ap is_some is))
      ]

  -- the next value, written at its place
  pub holds_more : (body : List ℕ) → n.gone ≤ n.last → length body ≡ size → (n.last - n.gone + 1) * weigh size ≤ n.limit → places n.limit size * size ≤ length t →
      holding size (one_more n) (over_place (places n.limit size) size t (n.last + 1) body) ≡ with_value body (holding size n t)
  holds_more body h l space long =
      let p = places n.limit size in
      let at = (n.last + 1) % p * size in
      let count = n.last - n.gone in
      let few = le-div (count + 1) n.limit (weigh size) (omega arith) space in
      let e : n.gone + 1 + count ≡ n.last + 1 = omega arith in
      let m : n.last + 1 - n.gone ≡ count + 1 = omega arith in
      let more = ring_push p size t body at size (n.gone + 1) count (sym (ap (λ k. k % p * size) e)) refl l long (omega arith) in
      let u = over_place p size t (n.last + 1) body in
      let now = ap (λ v. ring p size v (n.gone + 1) (count + 1)) (sym (over_is_put p size t (n.last + 1) body)) ∙ more in
      is_values n.gone (n.last + 1) _ (omega arith)
      ∙ ap (Values (n.gone + 1)) (ap (ring p size u (n.gone + 1)) m ∙ now)
      ∙ sym (ap (with_value body) (holds_values h))

  -- the next number is bare, and used up
  pub holds_less : (body : List ℕ) → n.last < n.gone → holding size (one_more n) t ≡ with_value body (holding size n t)
  holds_less body h =
      let p = places n.limit size in
      let u = ring p size t (n.gone + 1) (n.last + 1 - n.gone) in
      let none : n.gone ≤ n.last + 1 → u ≡ [] = λ le. let z : n.last + 1 - n.gone ≡ 0 = omega arith in ap (ring p size t (n.gone + 1)) z in
      sym (used_up n.gone n.last u h none) ∙ sym (ap (with_value body) (holds_bare h))

  pub next_is : next_number (holding size n t) ≡ n.last + 1
  next_is =
      elim (cases_lt n.last n.gone) [
        | inl h ↦ ap next_number (holds_bare h)
        | inr h ↦ let l = kept_length in let e : n.gone + 1 + length kept ≡ n.last + 1 = omega arith in ap next_number (holds_values h) ∙ e
      ]

  -- what an insert answers, by its tests
  pub answers_none : (long : ℕ) → largest_number ≤ n.last → insertion n.limit size long (holding size n t) ≡ Err NoNumber
  answers_none long h = let e = next_is in cond-true (ltb largest_number (next_number (holding size n t))) _ _ (lt-ltb largest_number (next_number (holding size n t)) (omega arith))

  pub answers : (long : ℕ) (space place : Bool) → n.last < largest_number → has_space n.limit size (holding size n t) ≡ space → finds_place n.limit size long (holding size n t) ≡ place →
      insertion n.limit size long (holding size n t) ≡ cond space (cond place (Ok (n.last + 1)) (Err ShortTable)) (Err Full)
  answers long space place few r p =
      let e = next_is in
      answers_by n.limit size long (holding size n t) space place (omega arith) r p ∙ ap (λ m. cond space (cond place (Ok m) (Err ShortTable)) (Err Full)) e

  -- a value is refused: why, and nothing changes
  pub record Refused (body : List ℕ) (why : Uninserted) : Type 0 where
    pub answer : Err why ≡ insertion n.limit size (length t) (holding size n t)
    pub after : holding size n t ≡ inserted n.limit size (length t) body (holding size n t)

  pub refused : (body : List ℕ) (why : Uninserted) → insertion n.limit size (length t) (holding size n t) ≡ Err why → Refused body why
  refused body why e = record { answer = sym e; after = sym (after_insert n.limit size (length t) body (holding size n t) (Err why) e) }

  -- a value is taken: its number, what the buffer holds with it, and the table u
  pub record Taken (body u : List ℕ) : Type 0 where
    pub answer : insertion n.limit size (length t) (holding size n t) ≡ Ok (n.last + 1)
    pub after : holding size (one_more n) u ≡ with_value body (holding size n t)
    pub laid : u ≡ table_with n.limit size t body (holding size n t)

  pub taken_value : (body : List ℕ) → length body ≡ size → n.gone ≤ n.last → n.last < largest_number → has_space n.limit size (holding size n t) ≡ true →
      has_places n.limit size (length t) ≡ true → Taken body (over_place (places n.limit size) size t (n.last + 1) body)
  taken_value body l h few space all =
      let p = places n.limit size in
      let k = kept_length in
      let light = leb-true (length kept * weigh size + 0 * header_length + weigh size) n.limit (sym (ap (has_space n.limit size) (holds_values h)) ∙ space) in
      let more = ap (λ m. m * weigh size) k in
      let one = add-mul (n.last - n.gone) 1 (weigh size) in
      let long = leb-true (p * size) (length t) (and_parts (ltb 0 p) (leb (p * size) (length t)) all).1 in
      let e : n.last + 1 ≡ n.gone + 1 + length kept = omega arith in
      record {
        answer = answers (length t) true true few space (ap (finds_place n.limit size (length t)) (holds_values h) ∙ all);
        after = holds_more body h l (omega arith) long;
        laid = ap (λ m. over_place p size t m body) e ∙ sym (ap (table_with n.limit size t body) (holds_values h));
      }

  pub taken_bare : (body : List ℕ) → n.last < n.gone → n.last < largest_number → Taken body t
  taken_bare body h few =
      record {
        answer = answers (length t) true true few (ap (has_space n.limit size) (holds_bare h)) (ap (finds_place n.limit size (length t)) (holds_bare h));
        after = holds_less body h;
        laid = sym (ap (table_with n.limit size t body) (holds_bare h));
      }
