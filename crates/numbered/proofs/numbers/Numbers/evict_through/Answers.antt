use Rattle.std.proofs.Common.{◌≡◌, min, max, ap, rules}
use Rattle.numbered.specs.Buffers.{gone_to}
use Rattle.numbered.proofs.Holdings.{holds_past}
use Rattle.numbered.proofs.numbers.Numbers.evict_through.Goals as goal

pub returns : goal.returns
returns c =
    let old = c.args.self.now in
    let e : c.max-self.result ≡ max old.gone (min c.args.number old.last) = search rules in
    record { is = ap (λ g. gone_to g old) e; after = λ bytes size long table. holds_past size old table c.args.number c.max-self.result e }
