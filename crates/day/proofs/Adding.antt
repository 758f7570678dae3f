-- Why a bill adds up.
use Rattle.std.proofs.Common.{◌≡◌, ℕ, ◌+◌, ◌≤◌, min, List, [], ◌∷◌, ◌++◌, map, length, sym, refl, ap, ◌∙◌, subst, append_assoc, arith}
use Rattle.std.proofs.lemmas.List.{append-nil}
use Rattle.bodies.specs.declared.event.Event.{Event}
use Rattle.bodies.specs.declared.call.Call.{Call}
use Rattle.bodies.specs.declared.charge.Charge.{Charge}
use Rattle.operators.specs.Pipes.{after_all, given_all}
use Rattle.line_operators.specs.Totals.{Charges, none_charged, totals_next, totals_gives, totals_laws, most_calls, most_seconds}
use Rattle.line_operators.specs.TotalsLaw.{number, seconds, charge_for}
use Rattle.line_operators.proofs.TotalsRuns.{so_far}
use Rattle.day.specs.declared.entry.Entry.{Entry}
use Rattle.day.specs.declared.entry.Entry.TheVariants as entry
use Rattle.day.specs.Bills.{shown, entries}
use Rattle.day.specs.Sums.{calls_in, AddsUp}

-- the order of calls does not matter to their number and sum
number_more : (line : ℕ) (cs ds : List Call) → number line (cs ++ ds) ≡ number line cs + number line ds
number_more line [] ds = omega arith
number_more line (c ∷ cs) ds = let i = number_more line cs ds in omega arith

seconds_more : (line : ℕ) (cs ds : List Call) → seconds line (cs ++ ds) ≡ seconds line cs + seconds line ds
seconds_more line [] ds = omega arith
seconds_more line (c ∷ cs) ds = let i = seconds_more line cs ds in omega arith

last_first : (line : ℕ) (cs : List Call) (c : Call) → charge_for line (c ∷ cs) ≡ charge_for line (cs ++ c ∷ [])
last_first line cs c =
    let a = number_more line cs (c ∷ []) in
    let b = seconds_more line cs (c ∷ []) in
    let n : number line (c ∷ cs) ≡ number line (cs ++ c ∷ []) = omega arith in
    let s : seconds line (c ∷ cs) ≡ seconds line (cs ++ c ∷ []) = omega arith in
    λ i. record { line = line; calls = min (n i) most_calls; seconds = min (s i) most_seconds }

-- an operator that took some values and then others
after_more : {S In : Type 0} (next : S → In → S) (s : S) (xs ys : List In) → after_all next s (xs ++ ys) ≡ after_all next (after_all next s xs) ys
after_more next s [] ys = refl
after_more next s (x ∷ xs) ys = after_more next (next s x) xs ys

-- the totals after these calls
abbrev totals_after : List Call → Charges
totals_after cs = after_all totals_next none_charged cs

-- a bill's part that comes after these calls adds up
abbrev Adds : List Call → List Entry → Type 0
Adds cs bill = (above below : List Entry) (g : Charge) → bill ≡ above ++ entry.Charge g ∷ below → g ≡ charge_for g.line (cs ++ calls_in above)

adds_none : (cs : List Call) → Adds cs []
adds_none cs [] below g e = absurd (let z : ◌≡◌ {A = ℕ} 0 1 = cc in omega arith)
adds_none cs (a ∷ above) below g e = absurd (let z : ◌≡◌ {A = ℕ} 0 1 = cc in omega arith)

-- a call in front
adds_call : (cs : List Call) (c : Call) (bill : List Entry) → Adds (cs ++ c ∷ []) bill → Adds cs (entry.Call c ∷ bill)
adds_call cs c bill adds [] below g e = absurd (let z : ◌≡◌ {A = ℕ} 0 1 = cc in omega arith)
adds_call cs c bill adds (entry.Charge h ∷ above) below g e = absurd (let z : ◌≡◌ {A = ℕ} 0 1 = cc in omega arith)
adds_call cs c bill adds (entry.Call d ∷ above) below g e =
    let same : c ≡ d = cc in
    let tail : bill ≡ above ++ entry.Charge g ∷ below = cc in
    adds above below g tail ∙ ap (charge_for g.line) (append_assoc cs (c ∷ []) (calls_in above) ∙ ap (λ x. cs ++ x ∷ calls_in above) same)

-- a charge in front
adds_charge : (cs : List Call) (h : Charge) (bill : List Entry) → h ≡ charge_for h.line cs → Adds cs bill → Adds cs (entry.Charge h ∷ bill)
adds_charge cs h bill right adds [] below g e =
    let same : h ≡ g = cc in
    subst (λ x. x ≡ charge_for x.line (cs ++ [])) same (right ∙ ap (charge_for h.line) (sym (append-nil cs)))
adds_charge cs h bill right adds (entry.Call d ∷ above) below g e = absurd (let z : ◌≡◌ {A = ℕ} 0 1 = cc in omega arith)
adds_charge cs h bill right adds (entry.Charge k ∷ above) below g e = adds above below g (let tail : bill ≡ above ++ entry.Charge g ∷ below = cc in tail)

-- what is given on a call is right of the calls with it
right_charge : (cs : List Call) (c : Call) (h : Charge) → totals_gives (totals_after cs) c ≡ h ∷ [] → h ≡ charge_for h.line (cs ++ c ∷ [])
right_charge cs c h gave =
    let is = so_far cs c h gave in
    let line = ap (λ x. x.line) is in
    is ∙ last_first c.line cs c ∙ ap (λ l. charge_for l (cs ++ c ∷ [])) (sym line)

-- the charges of a call in front: none or one
adds_given : (cs : List Call) (c : Call) (gs : List Charge) (bill : List Entry) → totals_gives (totals_after cs) c ≡ gs → length gs ≤ 1 → Adds (cs ++ c ∷ []) bill → Adds (cs ++ c ∷ []) (map entry.Charge (gs ++ []) ++ bill)
adds_given cs c [] bill gave few adds = adds
adds_given cs c (h ∷ []) bill gave few adds = adds_charge (cs ++ c ∷ []) h bill (right_charge cs c h gave) adds
adds_given cs c (h ∷ (k ∷ gs)) bill gave few adds = absurd (omega arith)

module _ {S : Type 0} (next : S → Event → S) (calls : S → Event → List Call) (few : (s : S) (e : Event) → length (calls s e) ≤ 1) where
  -- what an event gives in front: no call, or one and what comes of it
  adds_event : (cs ds : List Call) (bill : List Entry) → length ds ≤ 1 → Adds (cs ++ ds) bill → Adds cs (shown ds (given_all totals_next totals_gives (totals_after cs) ds) ++ bill)
  adds_event cs [] bill one adds = subst (λ l. Adds l bill) (append-nil cs) adds
  adds_event cs (c ∷ []) bill one adds = adds_call cs c _ (adds_given cs c (totals_gives (totals_after cs) c) bill refl (totals_laws.few (totals_after cs) c) adds)
  adds_event cs (c ∷ (d ∷ ds)) bill one adds = absurd (omega arith)

  adds_all : (es : List Event) (s : S) (cs : List Call) → Adds cs (entries next calls totals_next totals_gives s (totals_after cs) es)
  adds_all [] s cs = adds_none cs
  adds_all (e ∷ es) s cs =
      adds_event cs (calls s e) _ (few s e)
      (subst (λ t. Adds (cs ++ calls s e) (entries next calls totals_next totals_gives (next s e) t es)) (after_more totals_next none_charged cs (calls s e)) (adds_all es (next s e) (cs ++ calls s e)))

  pub adds_up : (es : List Event) (s : S) → AddsUp (entries next calls totals_next totals_gives s none_charged es)
  adds_up es s = adds_all es s []
