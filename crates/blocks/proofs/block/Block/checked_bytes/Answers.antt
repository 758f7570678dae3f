use Rattle.std.proofs.Common.{◌≡◌, ◌-◌, length, replicate, ◌∙◌, rules}
use Rattle.std.proofs.lemmas.List.{drop-replicate}
use Rattle.blocks.specs.Blocks.{checked_bytes}
use Rattle.blocks.proofs.block.Block.checked_bytes.Goals as goal

pub returns : goal.returns
unfolding checked_bytes
returns c =
    let filler : c.in_ok-filler.filler.now ≡ replicate (502 - length c.args.self.now.«data».now) 0 = c.in_ok-filler.ensures.cases.2 ∙ drop-replicate (length c.args.self.now.«data».now) 502 0 in
    search rules
