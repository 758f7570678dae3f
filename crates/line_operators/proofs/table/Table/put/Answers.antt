use Rattle.std.proofs.Common.{length, set, ap, arith}
use Rattle.std.proofs.lemmas.Bool.Decides.{nat_tests}
use Rattle.std.specs.List.{refill}
use Rattle.line_operators.proofs.Spots.{Put, put_known, put_new, put_dropped}
use Rattle.line_operators.proofs.table.Table.put.Given as given
use Rattle.line_operators.proofs.table.Table.put.Goals as goal
use Rattle.line_operators.proofs.table.Table.put.Goals.{After-deref_mut, After-insert}

-- the row stands over that of its key
over : (g : given.Over) (c : After-deref_mut g) → Put (λ e. g.E.Key.Ranked.rank (g.E.Row.key e)) g.E.Row.sound g.row.N c.args.row c.args.self.now.rows.items (refill (length c.args.self.now.rows.items) c.args.self.now.rows.items (set c.deref_mut.result.now c.in-Ok.i c.args.row))
over g c =
    let old = c.args.self.now in
    put_known (λ e. g.E.Key.Ranked.rank (g.E.Row.key e)) g.E.Row.sound g.row.N c.args.row old.rows.items _ c.in-Ok.i (ap g.E.Key.Ranked.rank c.key.ensures) c.requires old.ordered c.deref_mut.result.now c.deref_mut.ensures.value old.few c.in-Ok.ensures

-- or at its own place
at_own : (g : given.Over) (c : After-insert g) → Put (λ e. g.E.Key.Ranked.rank (g.E.Row.key e)) g.E.Row.sound g.row.N c.args.row c.args.self.now.rows.items c.insert.new.self.items
at_own g c =
    let old = c.args.self.now in
    put_new (λ e. g.E.Key.Ranked.rank (g.E.Row.key e)) g.E.Row.sound g.row.N c.args.row old.rows.items _ c.in-Err.field-0 (ap g.E.Key.Ranked.rank c.key.ensures) c.requires old.ordered c.insert.new.self.items c.insert.ensures.items (grind (arith, nat_tests)) c.in-Err.ensures

pub invariant_of-self : goal.invariant_of-self
invariant_of-self g c = let put = over g (goal.at.invariant_of-self g c).After-deref_mut in record { counted = c.args.self.now.counted; few = put.few; ordered = put.ordered }

pub returns-in-Ok : goal.returns-in-Ok
returns-in-Ok g c = let put = over g (goal.at.returns-in-Ok g c).After-deref_mut in record { after = put.after; fits = put.fits }

pub invariant_of-self-in-Err-2 : goal.invariant_of-self-in-Err-2
invariant_of-self-in-Err-2 g c = let put = at_own g (goal.at.invariant_of-self-in-Err-2 g c).After-insert in record { counted = c.args.self.now.counted; few = put.few; ordered = put.ordered }

pub returns-in-Err-2 : goal.returns-in-Err-2
returns-in-Err-2 g c = let put = at_own g (goal.at.returns-in-Err-2 g c).After-insert in record { after = put.after; fits = put.fits }

pub returns-in-Err : goal.returns-in-Err
returns-in-Err g c =
    let xs = c.args.self.now.rows.items in
    let rank = λ (e : g.row.E.Denot). g.E.Key.Ranked.rank (g.E.Row.key e) in
    let full = put_dropped rank g.row.N c.args.row xs _ c.in-Err.field-0 (ap g.E.Key.Ranked.rank c.key.ensures) (grind (arith, nat_tests)) c.in-Err.ensures in
    record { after = full.after; fits = full.fits }
