use Rattle.std.proofs.Common.{◌≢◌, [], ◌∙◌, rules}
use Rattle.std.proofs.lemmas.List.{append-nil}
use Rattle.messages.specs.Messages.{Content, Short, message_bytes}
use Rattle.messages.proofs.message.Message.read.Goals as goal

pub returns-in_err-message-clause-exact : goal.returns-in_err-message-clause-exact
returns-in_err-message-clause-exact c =
    let none : (m : Content) → Short m → message_bytes m ≢ c.args.bytes.now =
    λ m short e. c.in_err-message.ensures.exact m [] short (append-nil (message_bytes m) ∙ e) in
    search rules
