use Rattle.std.proofs.Common.{◌≡◌, ◌+◌, ◌-◌, ◌++◌, length, take, drop, set, sym, ap, ◌∙◌, arith, rules, length-append, length-set}
use Rattle.std.specs.List.{flat_map}
use Rattle.operators.proofs.Laying.{part_long}
use Rattle.line_operators.proofs.Listings.{wrote_fits, wrote_more, joined_next, room}
use Rattle.line_operators.proofs.table.Table.write.Goals as goal

pub loop-row-init : goal.loop-row-init
loop-row-init g c =
    let all = ap (λ xs. length (flat_map g.E.Body.bytes xs)) c.as_slice-rows.ensures.value in
    record {
      place = omega arith;
      room = λ lt. let r = room g.E.Body.laws c.as_slice-rows.result.now 0 lt in omega arith;
      wrote = search rules;
    }

pub loop-row-preserved : goal.loop-row-preserved
loop-row-preserved g c =
    let bytes = g.E.Body.bytes in
    let rows = c.as_slice-rows.result.now in
    let i = c.loop-row.row-index in
    let at = c.loop-row.at in
    let size = c.size-size.result in
    let x = c.row-item.result in
    let O = set c.args.out.now 0 (length rows) in
    let J = flat_map bytes (take i rows) in
    let h = c.loop-row.invariant.room c.loop-row-test.true in
    let lo = length-set c.args.out.now 0 (length rows) in
    let long = g.E.Body.laws.long x in
    let w : c.write.new.out ≡ bytes x = wrote_fits (bytes x) (take (at + size - at) (drop at c.loop-row.out)) _ _ c.write.ensures (part_long c.loop-row.out at (at + size) (omega arith) (omega arith) ∙ omega arith) in
    let more : flat_map bytes (take (i + 1) rows) ≡ J ++ bytes x = joined_next g.E.Body.laws rows i x c.loop-row-test.true c.row-item.is in
    let ml = ap length more ∙ length-append J (bytes x) in
    let all = ap (λ xs. length (flat_map bytes xs)) c.as_slice-rows.ensures.value in
    record {
      place = omega arith;
      room = λ lt. let r = room g.E.Body.laws rows (i + 1) lt in omega arith;
      wrote = wrote_more O c.loop-row.out c.write.new.out J (bytes x) at size (at + size - at) c.loop-row.invariant.place (omega arith) c.loop-row.invariant.wrote w (omega arith) (long ∙ sym c.size-size.ensures.is) ∙ ap (λ l. (take 1 O ++ l) ++ drop (at + size) O) (sym more);
    }
