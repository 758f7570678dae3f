use Rattle.std.proofs.Common.{◌≡◌, ℕ, ◌+◌, ◌<◌, Option, List, [], ◌++◌, length, get_or, take, sym, ap, ◌∙◌, arith, length-append}
use Rattle.std.specs.List.{cons_option}
use Rattle.std.proofs.lemmas.List.{take_more}
use Rattle.std.proofs.lemmas.List.Elements.{filter_map-append}
use Rattle.std.proofs.lemmas.List.Sums.{sum_by-append}
use Rattle.bodies.specs.declared.call.Call.{Call}
use Rattle.day.specs.declared.entry.Entry.{Entry}
use Rattle.day.specs.Sums.{call_in, calls_in}
use Rattle.day.proofs.bill.Bill.total.Goals as goal

-- the calls so far, and the one that the entry at hand may show
one_more : (xs : List Entry) (i : ℕ) (d : Entry) (shown : Option Call) → i < length xs → shown ≡ call_in (get_or xs i d) → calls_in (take (i + 1) xs) ≡ calls_in (take i xs) ++ cons_option shown []
one_more xs i d shown within is = ap calls_in (take_more xs i d within) ∙ filter_map-append call_in (take i xs) _ ∙ ap (λ o. calls_in (take i xs) ++ cons_option o []) (sym is)

pub loop-entry-preserved : goal.loop-entry-preserved
loop-entry-preserved c =
    let more = one_more c.deref-entry-items.result.now c.loop-entry.entry-index _ c.call.result c.loop-entry-test.true c.call.ensures in
    grind (arith, more, length-append, sum_by-append)
