use Rattle.std.proofs.Common.{sym, ◌∙◌}
use Rattle.script.proofs.WordLaws.{words_right}
use Rattle.script.proofs.OrderLaws.{orders_right}
use Rattle.script.proofs.orders.read_order.Goals as goal

pub returns-in_err-read_command : goal.returns-in_err-read_command
returns-in_err-read_command c =
    record { order = c.from_residual.ensures ∙ sym (orders_right.1 c.args.line.now c.in_err-read_command.ensures); said = orders_right; words = words_right }

pub returns : goal.returns
returns c =
    record { order = c.order.ensures ∙ sym (orders_right.0 c.args.line.now _ c.in_ok-read_command.ensures); said = orders_right; words = words_right }
