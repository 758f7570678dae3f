-- The laws of Totals over runs.
use Rattle.std.proofs.Common.{◌≡◌, ℕ, ◌+◌, ◌≤◌, min, Bool, true, false, cond, eqb, leb, ◌⊎◌, List, [], ◌∷◌, length, Some, None, Option, sym, refl, ap, ◌∙◌, subst, inl, inr, arith}
use Rattle.std.proofs.lemmas.Bool.{le-leb, leb-true, eq-eqb, eqb-true, eqb-false, cases_lt, cond-true}
use Rattle.bodies.specs.declared.call.Call.{Call}
use Rattle.bodies.specs.declared.charge.Charge.{Charge}
use Rattle.operators.specs.Pipes.{after_all}
use Rattle.line_operators.specs.Rows.{found, with_row, put_in}
use Rattle.line_operators.specs.Tables.{fair_few}
use Rattle.line_operators.specs.Totals.{Charges, charge_line, billed, none_charged, calls_so_far, seconds_so_far, raised, charge_with, charged, most_calls, most_seconds, totals_next}
use Rattle.line_operators.specs.TotalsLaw.{number, seconds, SoFar, Given}
use Rattle.line_operators.proofs.Finds.{length_known, length_new, put_own, put_full, put_other, put_longer, room}

-- what is known of a line that had so many calls of so many seconds: its charge says so; it has none, and had no calls; or it found no place, and none is free
Known : ℕ → Option Charge → ℕ → ℕ → ℕ → Type 0
Known line None used n t = ((n ≡ 0) × (t ≡ 0)) ⊎ (64 ≤ used)
Known line (Some c) used n t = c ≡ record { line = line; calls = min n most_calls; seconds = min t most_seconds }

counted : (line used m n t u : ℕ) (o : Option Charge) → m ≡ n → t ≡ u → Known line o used m t → Known line o used n u
counted line used m n t u o a b = let P : ℕ → Type 0 = λ k. Known line o used k t in let Q : ℕ → Type 0 = λ k. Known line o used n k in λ h. subst Q b (subst P a h)

-- a call of another line
other : (line used more n t : ℕ) (o : Option Charge) → used ≤ more → Known line o used n t → Known line o more n t
unfolding Known
other line used more n t None le (inl zero) = inl zero
other line used more n t None le (inr full) = inr (omega arith)
other line used more n t (Some c) le h = h

-- a call of the line, in a table where it finds a place and in one where it finds none
module _ (xs : List Charge) (v : Call) (n t : ℕ) where
  After : Charge → Type 0
  After e = Known v.line (found charge_line v.line (put_in charge_line 64 e xs)) (length (put_in charge_line 64 e xs)) (1 + n) (v.seconds + t)

  placed : (o : Option Charge) → length (with_row charge_line (raised o v.line v.seconds) xs) ≤ 64 → calls_so_far o ≡ min n most_calls → seconds_so_far o ≡ min t most_seconds → After (raised o v.line v.seconds)
  unfolding Known After
  placed o fits a b =
      let e = raised o v.line v.seconds in
      let calls : min (calls_so_far o + 1) most_calls ≡ min (1 + n) most_calls = omega arith in
      let time : min (seconds_so_far o + v.seconds) most_seconds ≡ min (v.seconds + t) most_seconds = omega arith in
      subst (λ f. Known v.line f (length (put_in charge_line 64 e xs)) (1 + n) (v.seconds + t)) (sym (put_own charge_line 64 e xs fits))
      (λ i. record { line = v.line; calls = calls i; seconds = time i })

  dropped : found charge_line v.line xs ≡ None → 64 ≤ length xs → After (raised None v.line v.seconds)
  unfolding Known After
  dropped h full =
      let e = raised None v.line v.seconds in
      let l = length_new charge_line e xs h in
      subst (λ ys. Known v.line (found charge_line v.line ys) (length ys) (1 + n) (v.seconds + t)) (sym (put_full charge_line 64 e xs (omega arith)))
      (subst (λ f. Known v.line f (length xs) (1 + n) (v.seconds + t)) (sym h) (inr full))

  own : (o : Option Charge) → length xs ≤ 64 → found charge_line v.line xs ≡ o → Known v.line o (length xs) n t → After (raised o v.line v.seconds)
  unfolding Known
  own (Some c) few h is =
      let l = length_known charge_line (raised (Some c) v.line v.seconds) c xs h in
      placed (Some c) (omega arith) (ap (λ x. x.calls) is) (ap (λ x. x.seconds) is)
  own None few h (inl zero) =
      let l = length_new charge_line (raised None v.line v.seconds) xs h in
      elim (cases_lt (length xs) 64) [ inl less ↦ placed None (omega arith) (omega arith) (omega arith) | inr full ↦ dropped h full ]
  own None few h (inr full) = dropped h full

-- any call
next_known : (line : ℕ) (s : Charges) (v : Call) (n t : ℕ) (b : Bool) → eqb v.line line ≡ b → Known line (found charge_line line s.0) (length s.0) n t → Known line (found charge_line line (totals_next s v).0) (length (totals_next s v).0) (cond b 1 0 + n) (cond b v.seconds 0 + t)
unfolding After
next_known line s v n t true h known =
    let is : v.line ≡ line = eqb-true v.line line h in
    let P : ℕ → Type 0 = λ l. Known l (found charge_line l s.0) (length s.0) n t → Known l (found charge_line l (totals_next s v).0) (length (totals_next s v).0) (1 + n) (v.seconds + t) in
    subst P is (own s.0 v n t (found charge_line v.line s.0) (fair_few charge_line billed 64 s.0 s.1) refl) known
next_known line s v n t false h known =
    let e = charge_with v s.0 in
    subst (λ f. Known line f (length (put_in charge_line 64 e s.0)) (0 + n) (0 + t)) (sym (put_other charge_line 64 line e s.0 (eqb-false v.line line h)))
    (other line (length s.0) (length (put_in charge_line 64 e s.0)) (0 + n) (0 + t) (found charge_line line s.0) (put_longer charge_line 64 e s.0) (counted line (length s.0) n (0 + n) t (0 + t) (found charge_line line s.0) (omega arith) (omega arith) known))

-- any calls
all_known : (line : ℕ) (cs : List Call) (s : Charges) (n t : ℕ) → Known line (found charge_line line s.0) (length s.0) n t → Known line (found charge_line line (after_all totals_next s cs).0) (length (after_all totals_next s cs).0) (number line cs + n) (seconds line cs + t)
all_known line [] s n t known = counted line (length s.0) n (0 + n) t (0 + t) (found charge_line line s.0) (omega arith) (omega arith) known
all_known line (c ∷ cs) s n t known =
    let a : ℕ = cond (eqb c.line line) 1 0 in
    let b : ℕ = cond (eqb c.line line) c.seconds 0 in
    let end = (after_all totals_next (totals_next s c) cs).0 in
    counted line (length end) (number line cs + (a + n)) (a + number line cs + n) (seconds line cs + (b + t)) (b + seconds line cs + t) (found charge_line line end) (omega arith) (omega arith)
    (all_known line cs (totals_next s c) (a + n) (b + t) (next_known line s c n t (eqb c.line line) refl known))

-- what is given is the charge with this call, where it finds a place
given : (xs : List Charge) (e g : Charge) → charged e xs ≡ g ∷ [] → (length (with_row charge_line e xs) ≤ 64) × (e ≡ g)
given xs e g gave = go (leb (length (with_row charge_line e xs)) 64) refl gave
  where
    go : (b : Bool) → leb (length (with_row charge_line e xs)) 64 ≡ b → cond b (e ∷ []) [] ≡ g ∷ [] → (length (with_row charge_line e xs) ≤ 64) × (e ≡ g)
    go true h f = (leb-true (length (with_row charge_line e xs)) 64 h, cc)
    go false h f = absurd (let z : ◌≡◌ {A = ℕ} 0 1 = ap length f in omega arith)

-- a line that finds a place had its calls in its charge, or had none
before : (xs : List Charge) (v : Call) (n t : ℕ) (o : Option Charge) → found charge_line v.line xs ≡ o → Known v.line o (length xs) n t → length (with_row charge_line (raised o v.line v.seconds) xs) ≤ 64 → (calls_so_far o ≡ min n most_calls) × (seconds_so_far o ≡ min t most_seconds)
unfolding Known
before xs v n t (Some c) h is fits = (ap (λ x. x.calls) is, ap (λ x. x.seconds) is)
before xs v n t None h (inl zero) fits = (omega arith, omega arith)
before xs v n t None h (inr full) fits = absurd (let l = length_new charge_line (raised None v.line v.seconds) xs h in omega arith)

known_first : (line : ℕ) → Known line None 0 0 0
unfolding Known
known_first line = inl (refl, refl)

pub so_far : SoFar
so_far cs c g gave =
    let xs = (after_all totals_next none_charged cs).0 in
    let n = number c.line cs in
    let t = seconds c.line cs in
    let is = given xs (charge_with c xs) g gave in
    let had = before xs c (n + 0) (t + 0) (found charge_line c.line xs) refl (all_known c.line cs none_charged 0 0 (known_first c.line)) is.0 in
    let one : ◌≡◌ {A = ℕ} (cond (eqb c.line c.line) 1 0) 1 = ap (λ b. cond b 1 0) (eq-eqb c.line c.line refl) in
    let all : cond (eqb c.line c.line) c.seconds 0 ≡ c.seconds = ap (λ b. cond b c.seconds 0) (eq-eqb c.line c.line refl) in
    let calls : min (calls_so_far (found charge_line c.line xs) + 1) most_calls ≡ min (cond (eqb c.line c.line) 1 0 + n) most_calls = omega arith in
    let time : min (seconds_so_far (found charge_line c.line xs) + c.seconds) most_seconds ≡ min (cond (eqb c.line c.line) c.seconds 0 + t) most_seconds = omega arith in
    sym is.1 ∙ (λ i. record { line = c.line; calls = calls i; seconds = time i })

pub always_given : Given
always_given s c free =
    let e = charge_with c s.0 in
    let fits = room charge_line 64 e s.0 (fair_few charge_line billed 64 s.0 s.1) free in
    (e, cond-true (leb (length (with_row charge_line e s.0)) 64) (e ∷ []) [] (le-leb (length (with_row charge_line e s.0)) 64 fits))
