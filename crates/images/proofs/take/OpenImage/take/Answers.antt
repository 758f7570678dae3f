use Rattle.std.proofs.Common.{arith}
use Rattle.images.proofs.Runs.{gone_on, not_refused}
use Rattle.images.proofs.take.OpenImage.take.Goals as goal

pub returns-in-Ok-clause-run : goal.returns-in-Ok-clause-run
returns-in-Ok-clause-run g c blocks first is going =
    gone_on g.B.Body.size blocks first (omega (arith, c.size.ensures)) c.args.self.expected c.args.memory.now c.next.new.memory c.args.bytes.now going is c.in-Ok.taken c.in-Ok.ensures

pub returns-in-Err-clause-run : goal.returns-in-Err-clause-run
returns-in-Err-clause-run g c blocks first is going =
    not_refused g.B.Body.size blocks first (omega (arith, c.size.ensures)) c.args.self.expected c.args.memory.now c.args.bytes.now going is c.in-Err.fault c.in-Err.ensures.0
