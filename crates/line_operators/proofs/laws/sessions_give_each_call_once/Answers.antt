use Rattle.line_operators.proofs.SessionsRuns.{own_begin, once, begun}
use Rattle.line_operators.proofs.laws.sessions_give_each_call_once.Goals as goal

pub returns : goal.returns
returns c = record { own = own_begin; once = once; begun = begun }
