use Rattle.script.proofs.Horner.{Reading}
use Rattle.script.proofs.numbers.read_number.Given as goal

abbrev pub invariant-loop-byte : goal.invariant-loop-byte
invariant-loop-byte l = Reading l.word l.number l.byte-index
