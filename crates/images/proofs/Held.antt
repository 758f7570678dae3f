-- The bodies that a buffer holds, one by one.
use Rattle.std.proofs.Common.{◌≡◌, ℕ, ◌+◌, ◌-◌, ◌*◌, ◌<◌, ◌≤◌, List, [], ◌++◌, length, get_or, take, Some, sym, ap, ◌∙◌, inl, inr, arith, None, Option, false, add-mul}
use Rattle.std.specs.List.{flat_map}
use Rattle.std.proofs.lemmas.Bool.{cases_lt}
use Rattle.std.proofs.lemmas.List.{flat_map_more, take_more, take_all}
use Rattle.numbered.specs.declared.numbers.Numbers.{Numbers}
use Rattle.numbered.specs.Rings.{at_place, ring}
use Rattle.numbered.specs.Buffers.{holding, bodies_of, places, has_places, value_at, where_places}
use Rattle.numbered.proofs.Rings.{ring_length, ring_at}
use Rattle.numbered.proofs.Holdings.{is_values, is_bare, holds_number, shows, hides}
use Rattle.images.specs.Contents.{held_by}

abbrev body_in : Option (ℕ × List ℕ) → List ℕ
body_in None = []
body_in (Some p) = p.1

-- one product more
pub one_more : (k n size : ℕ) → k ≡ n + 1 → k * size ≡ n * size + size
one_more k n size e = ap (λ j. j * size) e ∙ add-mul n 1 size ∙ omega arith

module _ (size : ℕ) (n : Numbers) (t : List ℕ) where
  -- the bodies from one number to another
  abbrev pub bodies : List (List ℕ)
  bodies = ring (places n.limit size) size t (n.gone + 1) (n.last - n.gone)

  pub bodies_are : bodies_of (holding size n t) ≡ bodies
  bodies_are =
      elim (cases_lt n.last n.gone) [
        | inl less ↦
            let none : 0 ≡ n.last - n.gone = omega arith in
            ap bodies_of (is_bare n.gone n.last bodies less) ∙ ap (ring (places n.limit size) size t (n.gone + 1)) none
        | inr more ↦ ap bodies_of (is_values n.gone n.last bodies more)
      ]

  abbrev pub first_bodies : ℕ → List ℕ
  first_bodies k = flat_map (λ b. b) (take k bodies)

  -- the entry of a number is the next of them
  pub next_body : (number m : ℕ) (b : List ℕ) → n.gone ≤ number → number < n.last → Some (m, b) ≡ where_places n.limit size (length t) (value_at (number + 1) (holding size n t)) → first_bodies (number + 1 - n.gone) ≡ first_bodies (number - n.gone) ++ b
  next_body number m b from to e =
      let p = places n.limit size in
      let k = number - n.gone in
      let there = shows (has_places n.limit size (length t)) (value_at (number + 1) (holding size n t)) (m, b) e in
      let is : b ≡ at_place p size t (number + 1) = ap body_in (there.1 ∙ holds_number size n t (number + 1) (omega arith) (omega arith)) in
      let here : n.gone + 1 + k ≡ number + 1 = omega arith in
      let same : get_or bodies k [] ≡ b = ring_at p size t (n.gone + 1) (n.last - n.gone) k (omega arith) ∙ ap (at_place p size t) here ∙ sym is in
      let l : length bodies ≡ n.last - n.gone = ring_length p size t (n.gone + 1) (n.last - n.gone) in
      let next : number + 1 - n.gone ≡ k + 1 = omega arith in
      ap first_bodies next ∙ ap (flat_map (λ b. b)) (take_more bodies k [] (omega arith)) ∙ sym (flat_map_more (λ b. b) [] (take k bodies) (get_or bodies k [])) ∙ ap (λ x. first_bodies k ++ x) same

  -- a number has no entry where the table has not every place
  pub no_body : (number : ℕ) → n.gone ≤ number → number < n.last → None ≡ where_places n.limit size (length t) (value_at (number + 1) (holding size n t)) → has_places n.limit size (length t) ≡ false
  no_body number from to e =
      hides (has_places n.limit size (length t)) (number + 1, at_place (places n.limit size) size t (number + 1)) (e ∙ ap (where_places n.limit size (length t)) (holds_number size n t (number + 1) (omega arith) (omega arith)))

  -- all of them
  pub all_bodies : (k : ℕ) → k ≡ n.last - n.gone → first_bodies k ≡ held_by size n t
  all_bodies k e =
      let l : length bodies ≡ n.last - n.gone = ring_length (places n.limit size) size t (n.gone + 1) (n.last - n.gone) in
      ap (flat_map (λ b. b)) (take_all k bodies (omega arith) ∙ sym bodies_are)
