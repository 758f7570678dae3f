use Rattle.std.proofs.Common.{◌≡◌, None, arith, rules}
use Rattle.std.proofs.lemmas.Bool.Decides.{nat_tests}
use Rattle.blocks.specs.Tests.{first_fault}
use Rattle.blocks.proofs.Passing.{says, of_image, no_byte_hides}
use Rattle.blocks.proofs.block_test.test_block.Goals as goal

none : (c : goal.In_ok-data) → first_fault c.args.bytes.now c.args.expected ≡ None
none c = grind (arith, nat_tests)

pub returns-clause-says : goal.returns-clause-says
returns-clause-says c =
    says c.args.bytes.now c.args.expected (none c) (λ i. search rules) _ _ _ _ c.number_at-version.ensures c.number_at-number.ensures c.number_at-count.ensures (search rules)

pub returns-clause-of_image : goal.returns-clause-of_image
returns-clause-of_image c =
    of_image c.args.bytes.now c.args.expected (none c) _ c.number_at-number.ensures c.number_at-count.ensures (search rules)

pub returns-clause-one_byte : goal.returns-clause-one_byte
returns-clause-one_byte c =
    no_byte_hides c.args.bytes.now c.args.expected (none c) (λ i. search rules)
