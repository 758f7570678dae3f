use Rattle.numbered.proofs.BufferRuns.{keeps, shows_taken, counts_on, stays_within}
use Rattle.numbered.proofs.laws.a_buffer_keeps_what_was_inserted.Goals as goal

pub returns : goal.returns
returns g c =
    let b = g.B.Body in
    record { kept = keeps b.bytes b.size; shown = shows_taken b.bytes b.size; counted = counts_on b.bytes b.size; within = stays_within b.bytes b.size }
