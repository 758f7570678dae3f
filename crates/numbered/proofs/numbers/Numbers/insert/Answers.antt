use Rattle.std.proofs.Common.{◌≡◌, ◌≤◌, None, Err, rules, ℕ, ◌+◌, ◌*◌, ◌%◌, ◌<◌, true, false, List, ◌++◌, length, take, drop, Some, Ok, sym, refl, ap, ◌∙◌, subst}
use Rattle.std.proofs.lemmas.Bool.{ltb-true, ltb-false}
use Rattle.numbered.specs.declared.numbers.Numbers.{Numbers}
use Rattle.numbered.specs.declared.buffer.Uninserted.TheVariants.{NoNumber, ShortTable}
use Rattle.numbered.specs.Buffers.{holding, places, has_places, finds_place, largest_number}
use Rattle.numbered.proofs.Holdings.{Taken, answers, answers_none, holds_values, hides, shows, taken_value, taken_bare, refused, after_insert}
use Rattle.numbered.proofs.numbers.Numbers.insert.Goals as goal
use Rattle.numbered.proofs.numbers.Numbers.insert.Goals.{then-not-next_is_bare+else-not-has_space+in_ok-at, else-not-next_is_bare}

-- the numbers with another last
abbrev numbered_to : ℕ → Numbers → Numbers
numbered_to m n = record { limit = n.limit; gone = n.gone; last = m }

pub returns-in_err-number : goal.returns-in_err-number
returns-in_err-number g c =
    let size = g.B.Body.size in
    let n = c.args.self.now in
    let t = c.args.table.now in
    let over : largest_number ≤ n.last = search rules in
    let no = refused size n t (g.B.Body.bytes c.args.value) NoNumber (answers_none size n t (length t) over) in
    let is : c.from_residual.result ≡ Err NoNumber = search rules in
    record { answer = is ∙ no.answer; after = no.after; counted = search rules; laid = search rules }

pub returns-then-not-has_space-clause-answer : goal.returns-then-not-has_space-clause-answer
returns-then-not-has_space-clause-answer g c =
    let size = g.B.Body.size in
    let n = c.args.self.now in
    let t = c.args.table.now in
    let h = holding size n t in
    let few : n.last < largest_number = search rules in
    let e = answers size n t (length t) false (finds_place n.limit size (length t) h) few (sym (c.if-not-has_space.ensures t)) refl in
    sym e

pub returns-in_err-at-clause-answer : goal.returns-in_err-at-clause-answer
returns-in_err-at-clause-answer g c =
    let size = g.B.Body.size in
    let n = c.args.self.now in
    let t = c.args.table.now in
    let h = holding size n t in
    let few : n.last < largest_number = search rules in
    let hidden : c.place.result ≡ None = search rules in
    let none = hides (has_places n.limit size (length t)) (c.in_ok-number.number % places n.limit size * size) (sym hidden ∙ c.place.ensures.is) in
    let place = ap (finds_place n.limit size (length t)) (holds_values size n t (ltb-false n.last n.gone (sym c.if-not-next_is_bare.ensures))) ∙ none in
    let is : c.from_residual-in_err-at.result ≡ Err ShortTable = search rules in
    is ∙ sym (answers size n t (length t) true false few (sym (c.if-not-has_space.ensures t)) place)

pub returns : goal.returns
returns g c =
    let b = g.B.Body in
    let size = b.size in
    let n = c.args.self.now in
    let t = c.args.table.now in
    let body = b.bytes c.args.value in
    let number = c.in_ok-number.number in
    let u = c.if-not-next_is_bare.table in
    let next : number ≡ n.last + 1 = search rules in
    let few : n.last < largest_number = search rules in
    let P : List ℕ → Type 0 = λ v. Taken size n t body v in
    let taken : Taken size n t body u =
    elim c.if-not-next_is_bare.branch [
      | then-not-next_is_bare+else-not-has_space+in_ok-at w ↦
          let place = shows (has_places n.limit size (length t)) (Some (number % places n.limit size * size)) w.in_ok-at.at (sym w.in_ok-at.ensures.ok_part ∙ w.place.ensures.is) in
          let some = place.1 in
          let there : w.in_ok-at.at ≡ number % places n.limit size * size = cc in
          let at = there ∙ ap (λ m. m % places n.limit size * size) next in
          let laid = w.write_at.ensures ∙ (λ i. take (at i) t ++ (body ++ drop (at i + size) t)) in
          subst P (sym (w.table-is ∙ laid))
          (taken_value size n t body (b.laws.long c.args.value) (ltb-false n.last n.gone (sym w.if-not-next_is_bare.ensures)) few (sym (w.if-not-has_space.ensures t)) place.0)
      | else-not-next_is_bare w ↦ subst P (sym w.table-is) (taken_bare size n t body (ltb-true n.last n.gone (sym w.if-not-next_is_bare.ensures)) few)
    ] in
    record {
      answer = ap Ok next ∙ sym taken.answer;
      after = ap (λ m. holding size (numbered_to m n) u) next ∙ taken.after ∙ sym (after_insert n.limit size (length t) body (holding size n t) (Ok (n.last + 1)) taken.answer);
      counted = ap (λ m. numbered_to m n) next;
      laid = taken.laid;
    }
