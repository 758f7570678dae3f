use Rattle.std.proofs.Common.{◌≡◌, rules, sym, ◌∙◌, arith}
use Rattle.std.proofs.lemmas.Bool.Decides.{nat_tests}
use Rattle.std.proofs.lemmas.List.Sorted.{answers_always}
use Rattle.std.proofs.lemmas.Iterator.{YieldsList-from_slice}
use Rattle.std.proofs.lemmas.Iterator.Search.{all_from_yields_List}
use Rattle.std.specs.List.{list_all}
use Rattle.std.specs.Ordering.{partial_lt}
use Rattle.line_operators.proofs.Orders.{not_sound, in_order_is}
use Rattle.line_operators.proofs.table.reading.in_order.Given as given
use Rattle.line_operators.proofs.table.reading.in_order.Goals as goal
use Rattle.line_operators.proofs.table.reading.in_order.Goals.{After-all}

-- the first test is that each row is sound
each : (g : given.Over) (c : After-all g) → c.all.result ≡ list_all g.E.Row.sound c.args.rows.now
each g c = all_from_yields_List g.E.Row.sound _ _ _ c.all.ensures.ran (YieldsList-from_slice c.args.rows.now c.iter.ensures.rest) (λ x b q k. search rules)

pub returns-then-all : goal.returns-then-all
returns-then-all g c =
    let key = g.E.Row.key in
    let below = λ (a : g.row.E.Denot) (b : g.row.E.Denot). partial_lt g.E.Key.PartialOrd.partial_cmp (key a) (key b) in
    in_order_is (λ e. g.E.Key.Ranked.rank (key e)) g.E.Row.sound c.args.rows.now below
    (λ x y a b. grind (arith, nat_tests, g.met.E.Key.Ord.matches_partial_cmp (key x) (key y), g.met.E.Key.Ranked.ranked (key x) (key y) (g.met.E.Row.keyed x a) (g.met.E.Row.keyed y b)))
    (sym (each g (goal.at.returns-then-all g c).After-all) ∙ c.if-all.true)
    c.is_sorted_by.result (c.is_sorted_by.ensures.cases below (answers_always _ _ _ (λ f a r f' called. search rules)))

pub returns-else-all : goal.returns-else-all
returns-else-all g c = c.if-all.false ∙ not_sound (λ e. g.E.Key.Ranked.rank (g.E.Row.key e)) g.E.Row.sound c.args.rows.now (sym (each g (goal.at.returns-else-all g c).After-all) ∙ c.if-all.false)
