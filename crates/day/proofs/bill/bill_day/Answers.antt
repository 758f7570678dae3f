use Rattle.std.proofs.Common.{sym, subst}
use Rattle.line_operators.specs.Sessions.{none_open, sessions_next, sessions_gives, sessions_laws}
use Rattle.script.specs.Lines.{lines}
use Rattle.day.specs.Events.{events}
use Rattle.day.specs.Sums.{AddsUp}
use Rattle.day.proofs.Adding.{adds_up}
use Rattle.day.proofs.bill.bill_day.Goals as goal

pub returns : goal.returns
returns c =
    let billed = c.in_ok-bill_by.ensures in
    record {
      fits = c.if-text-gt-LONGEST_SCRIPT.false;
      billed = billed;
      adds_up = subst AddsUp (sym billed.entries_are) (adds_up sessions_next sessions_gives sessions_laws.few (events (lines c.args.text.now)) none_open);
    }
