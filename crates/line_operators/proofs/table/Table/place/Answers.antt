use Rattle.std.proofs.Common.{◌≡◌, ℕ, ◌<◌, true, eqb, Option, length, get_or, ◌∙◌, subst, rules, arith}
use Rattle.std.proofs.lemmas.Bool.Decides.{nat_tests}
use Rattle.std.proofs.lemmas.Iterator.{YieldsList-from_slice, IsFirst-from_position}
use Rattle.std.proofs.lemmas.List.{get_or_default}
use Rattle.std.specs.Ordering.{nat_cmp}
use Rattle.line_operators.proofs.Orders.{IsBelow, IsNotBelow, Stops, searched}
use Rattle.line_operators.proofs.table.Table.place.Given as given
use Rattle.line_operators.proofs.table.Table.place.Goals as goal
use Rattle.line_operators.proofs.table.Table.place.Goals.{After-position, After-eq}

-- a sound row's key compares with a key as their ranks
compares : (g : given.Over) (k : g.row.E-Key.Denot) → g.E.Key.Ranked.within k → (e : g.row.E.Denot) → g.E.Row.sound e ≡ true → g.E.Key.Ord.cmp (g.E.Row.key e) k ≡ nat_cmp (g.E.Key.Ranked.rank (g.E.Row.key e)) (g.E.Key.Ranked.rank k)
compares g k w e fit = g.met.E.Key.Ranked.ranked (g.E.Row.key e) k (g.met.E.Row.keyed e fit) w

-- the closure tells which rows are below the key, and the slice is the table's rows
stops : (g : given.Over) (c : After-position g) (r : Option ℕ) → c.position.result ≡ r → Stops (λ e. g.E.Key.Ranked.rank (g.E.Row.key e)) g.E.Row.sound (g.E.Key.Ranked.rank c.args.key) c.args.self.now.rows.items r
stops g c r is =
    let rank = λ (e : g.row.E.Denot). g.E.Key.Ranked.rank (g.E.Row.key e) in
    let k = g.E.Key.Ranked.rank c.args.key in
    let rows = c.args.self.now.rows.items in
    subst (Stops rank g.E.Row.sound k rows) is
    (searched rank g.E.Row.sound k rows c.args.self.now.ordered c.position.result
    (IsFirst-from_position _ _ c.position.result (IsNotBelow rank g.E.Row.sound k) (IsBelow rank g.E.Row.sound k) c.position.ensures.ran (YieldsList-from_slice rows (c.iter.ensures.rest ∙ c.as_slice-rows.ensures.value))
    (λ x q called fit. grind (arith, nat_tests, called, g.met.E.Key.Ord.matches_partial_cmp (g.E.Row.key x.now) c.args.key, compares g c.args.key c.requires x.now fit))
    (λ x q called. (search rules, λ fit. grind (arith, nat_tests, called, g.met.E.Key.Ord.matches_partial_cmp (g.E.Row.key x.now) c.args.key, compares g c.args.key c.requires x.now fit)))))

-- the row where the search stops has the key just where it has its rank
test_is : (g : given.Over) (c : After-eq g) (d : g.row.E.Denot) → let row = get_or c.args.self.now.rows.items c.in-Some.i d in c.in-Some.i < length c.args.self.now.rows.items → g.E.Row.sound row ≡ true → c.eq.result ≡ eqb (g.E.Key.Ranked.rank (g.E.Row.key row)) (g.E.Key.Ranked.rank c.args.key)
test_is g c d within fit =
    let rows = c.args.self.now.rows.items in
    let row = get_or rows c.in-Some.i d in
    grind (arith, nat_tests, c.eq.ensures, c.key.ensures, c.index-rows-i.is, c.as_slice-rows.ensures.value, get_or_default rows c.in-Some.i d c.index-rows-i.result within, g.met.E.Key.Ord.matches_eq (g.E.Row.key row) c.args.key, compares g c.args.key c.requires row fit)

pub returns-in-Some : goal.returns-in-Some
returns-in-Some g c =
    let a = goal.at.returns-in-Some g c in
    let s = stops g a.After-position _ c.in-Some.is in
    (s.0, s.1, λ d. grind (arith, nat_tests, test_is g a.After-eq d s.0 (s.2 d).0, c.if-eq.true))

pub returns-in-Some-2 : goal.returns-in-Some-2
returns-in-Some-2 g c =
    let a = goal.at.returns-in-Some-2 g c in
    let s = stops g a.After-position _ c.in-Some.is in
    (omega (arith, s.0), s.1, λ d l. grind (arith, nat_tests, (s.2 d).1, test_is g a.After-eq d s.0 (s.2 d).0, c.if-eq.false))

pub returns-in-None : goal.returns-in-None
returns-in-None g c = rw c.as_slice-rows.ensures.value (stops g (goal.at.returns-in-None g c).After-position _ c.in-None.is)
