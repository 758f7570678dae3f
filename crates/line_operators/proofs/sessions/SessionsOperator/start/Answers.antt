use Rattle.line_operators.specs.Tables.{same_table}
use Rattle.line_operators.specs.Sessions.{open_line, any_open}
use Rattle.line_operators.proofs.sessions.SessionsOperator.start.Goals as goal

pub returns : goal.returns
returns c = same_table open_line any_open 32 _ _ c.new.ensures
