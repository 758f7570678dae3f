use Rattle.std.proofs.Common.{◌+◌, cond, is_ok, sym, refl, ap, arith}
use Rattle.numbered.specs.Buffers.{holding, Bare, first_number, bare_count}
use Rattle.numbered.proofs.Holdings.{refuses_bare}
use Rattle.numbered.proofs.numbers.Numbers.add_bare.Goals as goal

pub returns-then-value_count-gt0 : goal.returns-then-value_count-gt0
returns-then-value_count-gt0 c =
    let old = c.args.self.now in
    record {
      answer = λ size table. sym (refuses_bare size old table (omega arith));
      is = refl;
      after = λ bytes size long table. let h = holding size old table in sym (ap (λ r. cond (is_ok r) (Bare (first_number h) (bare_count h + 1)) h) (refuses_bare size old table (omega arith)));
    }
