use Rattle.std.proofs.Common.{◌≡◌, ◌<◌, List, ◌*◌, ◌++◌, length, get_or, drop, sym, ap, ◌∙◌, arith}
use Rattle.std.proofs.lemmas.Grind.{common_steps}
use Rattle.std.specs.List.{flat_map}
use Rattle.std.specs.Slice.Iter.{chunks_exact_rest}
use Rattle.line_operators.specs.Rows.{listing}
use Rattle.line_operators.specs.RowLaws.{joined_long}
use Rattle.line_operators.proofs.Listings.{all_read, read_more, next_row}
use Rattle.line_operators.proofs.table.reading.read_rows.Given as given
use Rattle.line_operators.proofs.table.reading.read_rows.Goals as goal
use Rattle.line_operators.proofs.table.reading.read_rows.Goals.{In-Some}

pub returns-then-tail-count : goal.returns-then-tail-count
returns-then-tail-count g c xs few w =
    let e = w ∙ c.in_ok-count.ensures.cases.0 in
    let count = ap (λ l. get_or l 0 0) e ∙ sym c.from-count.ensures in
    c.if-tail-count.true (sym (ap (λ l. length (drop 1 l)) e) ∙ joined_long g.E.Body.laws xs ∙ (λ i. count i * sym c.size-size.ensures.is i))

pub loop-chunk-init : goal.loop-chunk-init
loop-chunk-init g c = grind (arith, common_steps, ap (drop 1) c.in_ok-count.ensures.cases.0)

-- while a chunk is left, rows that write the bytes are more than those read, and the next writes the chunk
next : (g : given.Over) (c : In-Some g) (xs : List g.row.E.Denot) → listing g.E.Body.bytes xs ≡ c.args.from.now → record { less : length c.loop-chunk.rows.items < length xs; row : (x : g.row.E.Denot) × (g.E.Body.bytes x ≡ c.in-Some.chunk.now) }
next g c xs w =
    let step = c.in-Some.ensures.steps.1 in
    let read = c.loop-chunk.invariant in
    next_row g.E.Body.laws c.loop-chunk.rows.items xs c.in-Some.chunk.now _ _ _ (omega arith) read.read step.0 (step.1 ∙ read.size) (ap (drop 1) w)

pub returns-in_err-read : goal.returns-in_err-read
returns-in_err-read g c =
    rw c.from_residual-in_err-read.ensures (λ xs few w.
    let row = (next g (goal.at.returns-in_err-read g c).In-Some xs w).row in
    cc (c.in_err-read.ensures, row.1, g.E.Body.laws.back row.0))

pub loop-chunk-preserved : goal.loop-chunk-preserved
loop-chunk-preserved g c =
    let step = c.in-Some.ensures.steps in
    let read = c.loop-chunk.invariant in
    let row = c.in_ok-read.field-0 in
    let spelled = g.E.Body.laws.only c.in-Some.chunk.now row (grind (arith, common_steps)) in
    record {
      read = ap (λ zs. flat_map g.E.Body.bytes zs ++ chunks_exact_rest c.next.new.self) (grind (arith, common_steps)) ∙ read_more g.E.Body.laws c.loop-chunk.rows.items row c.in-Some.chunk.now _ _ _ read.read step.1.0 spelled;
      size = step.0 ∙ read.size;
      few = grind (arith, common_steps);
    }

pub returns-in_err-ok : goal.returns-in_err-ok
returns-in_err-ok g c =
    rw c.from_residual-in_err-ok.ensures (λ xs few w.
    let less = (next g (goal.at.returns-in_err-ok g c).In-Some xs w).less in
    grind (arith, common_steps))

pub returns : goal.returns
returns g c =
    let e = c.in_ok-count.ensures.cases.0 in
    let none = c.in-None.ensures.steps.1 in
    let long = c.if-tail-count.false ∙ (λ i. c.from-count.ensures i * c.size-size.ensures.is i) in
    (c.loop-chunk.invariant.few, all_read g.E.Body.laws c.loop-chunk.rows.items (chunks_exact_rest c.loop-chunk.chunk-iterator) c.in_ok-count.tail.now c.in_ok-count.count.now (c.loop-chunk.invariant.read ∙ ap (drop 1) e) (omega (arith, none.0, c.loop-chunk.invariant.size)) long ∙ sym e)
