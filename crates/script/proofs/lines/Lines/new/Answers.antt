use Rattle.script.proofs.LineLaws.{lines_few}
use Rattle.script.proofs.lines.Lines.new.Goals as goal

pub returns-clause-few : goal.returns-clause-few
returns-clause-few c = lines_few c.args.text.now
