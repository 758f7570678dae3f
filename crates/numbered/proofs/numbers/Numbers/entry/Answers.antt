use Rattle.std.proofs.Common.{◌≡◌, ◌+◌, ◌-◌, ◌*◌, ◌%◌, ◌<◌, ◌≤◌, length, take, drop, Some, sym, ◌∙◌, arith}
use Rattle.std.proofs.lemmas.Bool.{cond-true}
use Rattle.numbered.specs.Buffers.{holding, places, has_places, value_at}
use Rattle.numbered.proofs.Holdings.{holds_none, holds_number, shows, shows_none}
use Rattle.numbered.proofs.numbers.Numbers.entry.Goals as goal
use Rattle.numbered.proofs.numbers.Numbers.entry.Goals.{then-number-self-via-then-number-self, then-number-self-via-else-number-self+then-number-self-2}

pub returns-then-number-self-clause-is : goal.returns-then-number-self-clause-is
returns-then-number-self-clause-is g c =
    let size = g.B.Body.size in
    let n = c.args.self.now in
    let t = c.args.table.now in
    let number = c.args.number in
    let out : n.gone < number → number ≤ n.last → ⊥ =
    elim c.then-number-self.branch [
      | then-number-self-via-then-number-self w ↦ λ a b. omega arith
      | then-number-self-via-else-number-self+then-number-self-2 w ↦ λ a b. omega arith
    ] in
    shows_none (has_places n.limit size (length t)) (value_at number (holding size n t)) (holds_none size n t number out)

pub returns-clause-is : goal.returns-clause-is
returns-clause-is g c =
    let size = g.B.Body.size in
    let n = c.args.self.now in
    let t = c.args.table.now in
    let number = c.args.number in
    let at = c.in_ok-at.at in
    let wide : at + c.size.result - at ≡ size = omega arith in
    let place = shows (has_places n.limit size (length t)) (Some (number % places n.limit size * size)) at c.in_ok-at.ensures.is in
    let some = place.1 in
    let there : at ≡ number % places n.limit size * size = cc in
    (λ i. Some (number, take (wide i) (drop (there i) t))) ∙ sym (holds_number size n t number (omega arith) (omega arith)) ∙ sym (cond-true (has_places n.limit size (length t)) _ _ place.0)
