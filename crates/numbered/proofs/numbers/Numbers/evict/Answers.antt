use Rattle.std.proofs.Common.{◌+◌, length, sym, ap, ◌∙◌, arith}
use Rattle.std.proofs.lemmas.Bool.{cond-true}
use Rattle.numbered.specs.Buffers.{holding, has_places, gone_to, value_from}
use Rattle.numbered.proofs.Holdings.{holds_first, holds_fewer, shows}
use Rattle.numbered.proofs.numbers.Numbers.evict.Goals as goal

pub returns-clause-after : goal.returns-clause-after
returns-clause-after g c =
    let size = g.B.Body.size in
    let n = c.args.self.now in
    let t = c.args.table.now in
    let first = c.in_ok-first.first in
    let all = has_places n.limit size (length t) in
    let given = shows all (value_from 0 (holding size n t)) (first.number, first.body.now) c.in_ok-first.ensures.is in
    let is = holds_first size n t (first.number, first.body.now) given.1 in
    ap (λ m. holding size (gone_to m n) t) is.1 ∙ holds_fewer size n t 1 (n.gone + 1) (omega arith) (omega (arith, is.0)) ∙ sym (cond-true all _ _ given.0)
