use Rattle.std.proofs.Common.{◌≡◌, ◌++◌, Ok, Some, None, Option, List, map, vec_items, sym, ap, ◌∙◌, rules, append_assoc}
use Rattle.std.proofs.lemmas.List.{map-id}
use Rattle.std.proofs.lemmas.Iterator.Adapters.{YieldsList-from_once, fact_from_extend}
use Rattle.std.specs.Option.{option_map, option_to_list}
use Rattle.std.specs.declared.alloc.AllocError.{AllocError}
use Rattle.operators.specs.Operators.{listed}
use Rattle.day.specs.declared.entry.Entry.{Entry}
use Rattle.day.specs.declared.entry.Entry.TheVariants as entry
use Rattle.day.proofs.bill.note.Goals as goal

-- the entries that an option gives
given : {A : Type 0} (f : A → Entry) (o : Option A) (xs : List Entry) → map (λ x. x) xs ≡ option_to_list (option_map f o) → xs ≡ map f (listed o)
given f None xs is = sym (map-id xs) ∙ is
given f (Some x) xs is = sym (map-id xs) ∙ is

pub returns : goal.returns
returns c =
    let call : c.map.result ≡ option_map entry.Call c.args.call = search rules in
    let charge : c.map-2.result ≡ option_map entry.Charge c.args.charge = search rules in
    let first : vec_items c.extend.new.self ≡ vec_items c.args.entries.now ++ map entry.Call (listed c.args.call) =
    fact_from_extend {E = AllocError} (λ x. x) (Ok c.in_ok-extend.field-0) c.in_ok-extend.ensures.ran (λ it b. YieldsList-from_once _ (b.0 ∙ call)) (λ xs e h. h.0 ∙ ap (λ l. vec_items c.args.entries.now ++ l) (given entry.Call c.args.call xs e)) in
    fact_from_extend (λ x. x) c.extend-2.result c.extend-2.ensures.ran (λ it b. YieldsList-from_once _ (b.0 ∙ charge)) (λ xs e h. h.0 ∙ (λ i. first i ++ given entry.Charge c.args.charge xs e i) ∙ append_assoc (vec_items c.args.entries.now) _ _)
