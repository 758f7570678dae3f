use Rattle.std.proofs.Common.{◌≡◌, ◌≤◌, [], length, sym, ◌∙◌, subst, arith, rules, MatchOption}
use Rattle.std.proofs.lemmas.List.{nil_from_length, take_all, drop_all}
use Rattle.script.specs.Lines.{Cut}
use Rattle.script.proofs.LineLaws.{lines_right, cut_either}
use Rattle.script.proofs.lines.split_line.Goals as goal

pub returns-then-is_empty : goal.returns-then-is_empty
returns-then-is_empty c =
    let none : length c.args.text.now ≡ 0 = search rules in
    record { cut = nil_from_length _ none; right = lines_right }

pub returns : goal.returns
returns c =
    let text = c.args.text.now in
    let some : 1 ≤ length text = search rules in
    let front = c.split_at-unended.ensures.front ∙ take_all (length text) text (omega arith) in
    let back = c.split_at-unended.ensures.back ∙ drop_all (length text) text (omega arith) in
    let cut = cut_either text some c.split_once.result c.split_at-unended.result c.split_once.ensures front back in
    record { cut = subst (λ r. MatchOption r (text ≡ []) (λ p. Cut text p.0.now p.1.now)) (sym c.or.ensures) cut; right = lines_right }
