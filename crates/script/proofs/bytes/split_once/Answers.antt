use Rattle.std.proofs.Common.{rules}
use Rattle.script.proofs.Pieces.{parted}
use Rattle.script.proofs.bytes.split_once.Goals as goal

pub returns : goal.returns
returns c = parted c.args.bytes.now c.args.mark c.in_ok-place.place (search rules) (search rules) (search rules)
