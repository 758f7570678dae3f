use Rattle.script.proofs.WordLaws.{between, sides}
use Rattle.script.proofs.words.two_words.Goals as goal

pub returns-in_err-first : goal.returns-in_err-first
returns-in_err-first c =
    rw c.from_residual-in_err-first.ensures (λ a b ends. between _ _ a b c.in_ok-after_space.ensures ends c.in_err-first.ensures)

pub returns-in_err-word : goal.returns-in_err-word
returns-in_err-word c =
    rw c.from_residual-in_err-word.ensures (λ a b ends. c.in_err-word.ensures (sides _ _ a b c.in_ok-after_space.ensures ends _ _ c.in_ok-first.ensures).0)

pub returns-in_err-word-2 : goal.returns-in_err-word-2
returns-in_err-word-2 c =
    rw c.from_residual-in_err-word-2.ensures (λ a b ends. c.in_err-word-2.ensures (sides _ _ a b c.in_ok-after_space.ensures ends _ _ c.in_ok-first.ensures).1)
