use Rattle.std.proofs.Common.{◌≡◌, ◌∙◌, rules}
use Rattle.std.proofs.lemmas.Nat.{be_bytes_8}
use Rattle.std.specs.Int.{w64, to_be_bytes}
use Rattle.bodies.specs.Numbers.{be64}
use Rattle.bodies.proofs.numbers.U64Number8.from_bytes.Goals as goal

pub returns : goal.returns
returns c =
    let n = c.from_be_bytes.result in
    let same : be64 n ≡ to_be_bytes w64 n = search rules in
    same ∙ be_bytes_8 c.args.from n (search rules) (search rules) c.from_be_bytes.ensures
