use Rattle.std.proofs.Common.{◌≡◌, ℕ, ◌+◌, ◌-◌, ◌≤◌, List, length, take, drop, sym, ap, ◌∙◌, arith, rules, length-drop, length-take, length-take-le}
use lib.Seq.{paste}
use Rattle.std.proofs.lemmas.List.{take_at, drop-take}
use Rattle.links.proofs.packing.Packing.drop_front.Goals as goal

-- the bytes in use but for the first n, moved to the front
moved : (xs ys : List ℕ) (used n : ℕ) → n ≤ used → used ≤ length xs → ys ≡ paste xs 0 (drop n xs) (used - n) → take (used - n) ys ≡ drop n (take used xs)
moved xs ys used n le fits e =
    let s : n + (used - n) ≡ used = omega arith in
    ap (take (used - n)) e ∙ take_at (take (used - n) (drop n xs)) _ (used - n) (simp (length-take, length-drop) (omega arith)) ∙ sym (drop-take n (used - n) xs) ∙ ap (λ m. drop n (take m xs)) s

pub returns : goal.returns
returns c =
    let p = c.self.inside in
    let n = c.args.weight in
    let whole : length p.bytes ≡ 502 = search rules in
    let long = length-take-le p.used p.bytes (omega (arith, c.self.invariant)) in
    let same = ap length c.self.view_is in
    moved p.bytes _ p.used n (omega (arith, c.requires)) (omega (arith, c.self.invariant)) c.copy_within.ensures.after ∙ ap (drop n) c.self.view_is
