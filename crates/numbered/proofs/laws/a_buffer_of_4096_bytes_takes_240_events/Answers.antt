use Rattle.numbered.proofs.EventRuns.{takes_240}
use Rattle.numbered.proofs.laws.a_buffer_of_4096_bytes_takes_240_events.Goals as goal

pub returns : goal.returns
returns c = takes_240
