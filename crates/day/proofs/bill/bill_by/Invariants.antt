use Rattle.std.proofs.Common.{◌≡◌, ◌+◌, ◌≤◌, ◌++◌, length, vec_items}
use Rattle.std.specs.Iterator.Adapters.{zip_first, zip_second}
use Rattle.script.specs.Lines.{left, lines}
use Rattle.day.specs.Bills.{entries}
use Rattle.day.specs.Events.{events, bad_line}
use Rattle.day.proofs.bill.bill_by.Given as goal

-- what is billed so far and what the lines left will bring are the whole bill, and the next line has its number
abbrev pub invariant-loop-number : goal.invariant-loop-number
invariant-loop-number g l =
    let number = (zip_first l.number-iterator).start in
    let rest = left (zip_second l.number-iterator) in
    let gives = entries g.F.Operator.next g.F.Operator.gives g.S.Operator.next g.S.Operator.gives in
    record {
      billed : vec_items l.entries ++ gives (g.F.Operator.state l.pipe.front) (g.S.Operator.state l.pipe.back) (events rest)
          ≡ gives g.F.Operator.first g.S.Operator.first (events (lines l.text));
      numbered : bad_line number rest ≡ bad_line 1 (lines l.text);
      few : number + length rest ≤ length l.text + 1;
    }
