use Rattle.links.proofs.Records.{takes_29}
use Rattle.links.proofs.packed_link.PackedLink.new.Goals as goal

pub returns-clause-events : goal.returns-clause-events
returns-clause-events c = rw c.new.ensures takes_29
