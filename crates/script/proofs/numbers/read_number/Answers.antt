use Rattle.std.proofs.Common.{sym, ◌∙◌, arith, rules}
use Rattle.script.proofs.Horner.{stops, goes_on, ends, numbers_right}
use Rattle.script.proofs.numbers.read_number.Goals as goal

pub returns-then-is_empty : goal.returns-then-is_empty
returns-then-is_empty c = record { number = search rules; right = numbers_right }

pub returns-in_err-number : goal.returns-in_err-number
returns-in_err-number c =
    let none = stops c.args.word.now c.loop-byte.number _ c.loop-byte.invariant c.loop-byte-test.true (sym c.in_err-number.ensures) in
    record { number = c.from_residual.ensures ∙ sym none; right = numbers_right }

pub loop-byte-preserved : goal.loop-byte-preserved
loop-byte-preserved c = goes_on c.args.word.now c.loop-byte.number _ c.loop-byte.invariant _ c.loop-byte-test.true (sym c.in_ok-number.ensures)

pub returns : goal.returns
returns c =
    record { number = sym (ends c.args.word.now c.loop-byte.number c.loop-byte.byte-index c.loop-byte.invariant (omega arith)); right = numbers_right }
