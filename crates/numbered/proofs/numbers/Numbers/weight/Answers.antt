use Rattle.std.proofs.Common.{◌+◌, ◌*◌, sym, ◌∙◌}
use Rattle.bodies.specs.Weights.{header_length}
use Rattle.numbered.proofs.Holdings.{weight_is}
use Rattle.numbered.proofs.numbers.Numbers.weight.Goals as goal

pub returns-clause-is : goal.returns-clause-is
returns-clause-is g c table =
    (λ i. c.value_count.ensures i * c.entry_weight.ensures.is i + c.bare_count.ensures i * header_length) ∙ sym (weight_is g.B.Body.size c.args.self.now table)
