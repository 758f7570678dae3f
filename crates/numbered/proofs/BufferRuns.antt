-- What a buffer holds after any requests, one request at a time.
use Rattle.std.proofs.Common.{◌≡◌, ℕ, ◌+◌, ◌-◌, ◌*◌, ◌<◌, ◌≤◌, min, Bool, true, false, cond, ◌&&◌, ltb, leb, List, [], ◌∷◌, ◌++◌, map, length, get_or, drop, is_ok, Some, None, Ok, Err, sym, refl, ap, ◌∙◌, subst, inl, inr, append_assoc, mul-le-mul_right, add-mul, zero-add, arith, length-append, length-drop}
use lib.ListN.{length-map}
use Rattle.std.proofs.lemmas.List.{append-nil, map-append, drop-append-le, drop_all, drop-map, drop-drop, get_or_at}
use Rattle.std.proofs.lemmas.Bool.{cases_lt, lt-ltb, le-leb, leb-true, ltb-false, false≢true, and_from, cond-true, cond_both}
use Rattle.bodies.specs.Weights.{header_length, weigh}
use Rattle.numbered.specs.declared.buffer.Uninserted.TheVariants.{NoNumber, Full, ShortTable}
use Rattle.numbered.specs.declared.numbers.Unadded.TheVariants as unadded
use Rattle.numbered.specs.Buffers.{Holding, Values, Bare, between, empty, largest_number, first_number, next_number, bodies_of, bare_count, weight_of, has_places, has_space, finds_place, insertion, value_at, with_value, evicted, bare_adding, Request, Insert, Evict, EvictThrough, AddBare, after}
use Rattle.numbered.specs.BufferLaw.{taken_by, gone_by, after_all, taken_by_all, gone_by_all, standing, Keeps, Shows, CountsOn, StaysWithin}
use Rattle.numbered.proofs.Holdings.{is_values, is_bare, used_up}

-- a taken insert had space and a place
pub record HadSpace (limit size long : ℕ) (h : Holding) : Type 0 where
  pub space : has_space limit size h ≡ true
  pub place : finds_place limit size long h ≡ true

had_space : (limit size long : ℕ) (h : Holding) → is_ok (insertion limit size long h) ≡ true → HadSpace limit size long h
had_space limit size long h = go (ltb largest_number (next_number h)) (has_space limit size h) (finds_place limit size long h) refl refl
  where
    go : (a s p : Bool) → has_space limit size h ≡ s → finds_place limit size long h ≡ p →
        is_ok (cond a (Err NoNumber) (cond s (cond p (Ok (next_number h)) (Err ShortTable)) (Err Full))) ≡ true → HadSpace limit size long h
    go true s p x y e = absurd (false≢true e)
    go false true true x y e = record { space = x; place = y }
    go false true false x y e = absurd (false≢true e)
    go false false p x y e = absurd (false≢true e)

-- a bare number that was added had no value beside it, and space
pub record HadBareSpace (limit size : ℕ) (h : Holding) : Type 0 where
  pub no_value : length (bodies_of h) ≡ 0
  pub light : weight_of size h + header_length ≤ limit

had_bare_space : (limit size : ℕ) (h : Holding) → is_ok (bare_adding limit size h) ≡ true → HadBareSpace limit size h
had_bare_space limit size h = go (ltb 0 (length (bodies_of h))) (ltb largest_number (first_number h + bare_count h)) (leb (weight_of size h + header_length) limit) refl refl
  where
    go : (v a s : Bool) → ltb 0 (length (bodies_of h)) ≡ v → leb (weight_of size h + header_length) limit ≡ s →
        is_ok (cond v (Err unadded.HoldsValues) (cond a (Err unadded.NoNumber) (cond s (Ok (first_number h + bare_count h)) (Err unadded.Full)))) ≡ true → HadBareSpace limit size h
    go true a s x y e = absurd (false≢true e)
    go false true s x y e = absurd (false≢true e)
    go false false true x y e = let none = ltb-false 0 (length (bodies_of h)) x in record { no_value = omega arith; light = leb-true (weight_of size h + header_length) limit y }
    go false false false x y e = absurd (false≢true e)

module _ {A : Type 0} (bytes : A → List ℕ) (vs : List A) (g : ℕ) where
  abbrev rest : List (List ℕ)
  rest = map bytes (drop g vs)

  rest_long : length rest ≡ length vs - g
  rest_long = length-map (drop g vs) bytes ∙ length-drop g vs

  -- how such a buffer stands
  abbrev full : Holding
  full = Values (g + 1) rest

  abbrev bare : Holding
  bare = Bare (length vs + 1) (g - length vs)

  stands_full : g ≤ length vs → standing bytes vs g ≡ full
  stands_full le = is_values g (length vs) rest le

  stands_bare : length vs < g → standing bytes vs g ≡ bare
  stands_bare lt = is_bare g (length vs) rest lt

  -- what a buffer holds after a request, with the value that was taken and how many numbers are gone by it
  abbrev Ends : Holding → List A → ℕ → Type 0
  Ends new taken gone = new ≡ standing bytes (vs ++ taken) (g + gone)

  -- done or refused
  either : (b : Bool) (taken : Bool → List A) (gone : Bool → ℕ) (old new : Holding) → (b ≡ true → Ends new (taken true) (gone true)) → Ends old (taken false) (gone false) → Ends (cond b new old) (taken b) (gone b)
  either true taken gone old new done refused = done refl
  either false taken gone old new done refused = refused

  -- no value was taken
  none_taken : (new : Holding) (gone m : ℕ) → m ≡ g + gone → new ≡ standing bytes vs m → Ends new [] gone
  none_taken new gone m e h = h ∙ (let n = sym (append-nil vs) in λ i. standing bytes (n i) (e i))

  -- nothing changes
  same : (h : Holding) (gone : ℕ) → standing bytes vs g ≡ h → gone ≡ 0 → Ends h [] gone
  same h gone e z = none_taken h gone g (omega arith) (sym e)

  -- values past as many as there are, or past more
  drop_least : (k m : ℕ) → g ≤ length vs → m ≡ g + min k (length vs - g) → drop (g + k) vs ≡ drop m vs
  drop_least k m le e =
      elim (cases_lt k (length vs - g)) [
        | inl some ↦ let same : g + k ≡ m = omega arith in ap (λ n. drop n vs) same
        | inr none ↦ drop_all (g + k) vs (omega arith) ∙ sym (drop_all m vs (omega arith))
      ]

  -- some values leave
  fewer : (k : ℕ) → g ≤ length vs → Ends (evicted k full) [] (min k (length rest))
  fewer k le =
      let l = rest_long in
      let m = g + min k (length rest) in
      let first : g + 1 + min k (length rest) ≡ m + 1 = omega arith in
      let others = drop-map bytes k (drop g vs) ∙ ap (map bytes) (drop-drop k g vs ∙ drop_least k m le (omega arith)) in
      none_taken (evicted k full) (min k (length rest)) m refl ((λ i. Values (first i) (others i)) ∙ sym (is_values m (length vs) (map bytes (drop m vs)) (omega arith)))

  -- one more value, behind the others or for a bare number
  more_values : (v : A) → g ≤ length vs → Ends (with_value (bytes v) full) (v ∷ []) 0
  more_values v le =
      let z : g ≡ g + 0 = omega arith in
      let l = length-append vs (v ∷ []) in
      let ws = vs ++ v ∷ [] in
      ap (Values (g + 1)) (sym (map-append bytes (drop g vs) (v ∷ [])) ∙ ap (map bytes) (sym (drop-append-le g vs (v ∷ []) le)))
      ∙ sym (is_values g (length ws) (map bytes (drop g ws)) (omega arith))
      ∙ ap (standing bytes ws) z

  less_bare : (v : A) → length vs < g → Ends (with_value (bytes v) bare) (v ∷ []) 0
  less_bare v lt =
      let z : g ≡ g + 0 = omega arith in
      let l = length-append vs (v ∷ []) in
      let ws = vs ++ v ∷ [] in
      let bodies = map bytes (drop g ws) in
      let none : g ≤ length vs + 1 → bodies ≡ [] = λ le. ap (map bytes) (drop_all g ws (omega arith)) in
      used_up g (length vs) bodies lt none ∙ ap (λ n. between g n bodies) (sym l) ∙ ap (standing bytes ws) z

  -- a bare number more, where there is no value
  more_bare : (first count : ℕ) → length vs ≤ g → first ≡ length vs + 1 → count ≡ g + 1 - length vs → Ends (Bare first count) [] 1
  more_bare first count le a b = none_taken (Bare first count) 1 (g + 1) refl ((λ i. Bare (a i) (b i)) ∙ sym (is_bare (g + 1) (length vs) (map bytes (drop (g + 1) vs)) (omega arith)))

module _ {A : Type 0} (bytes : A → List ℕ) (limit size long : ℕ) where
  -- a request to a buffer that stands so leaves it standing so
  abbrev Leaves : Request A → List A → ℕ → Holding → Type 0
  Leaves r vs g h = Ends bytes vs g (after bytes limit size long r h) (taken_by bytes limit size long r h) (gone_by bytes limit size long r h)

  step_values : (r : Request A) (vs : List A) (g : ℕ) → g ≤ length vs → Leaves r vs g (full bytes vs g)
  step_values (Insert v) vs g le =
      let h = full bytes vs g in
      either bytes vs g (is_ok (insertion limit size long h)) (λ b. cond b (v ∷ []) []) (λ b. 0) h (with_value (bytes v) h) (λ ok. more_values bytes vs g v le) (same bytes vs g h 0 (stands_full bytes vs g le) refl)
  step_values Evict vs g le =
      let h = full bytes vs g in
      either bytes vs g (has_places limit size long) (λ b. []) (λ b. cond b (min 1 (length (rest bytes vs g))) 0) h (evicted 1 h) (λ ok. fewer bytes vs g 1 le) (same bytes vs g h 0 (stands_full bytes vs g le) refl)
  step_values (EvictThrough number) vs g le = fewer bytes vs g (number + 1 - (g + 1)) le
  step_values AddBare vs g le =
      let h = full bytes vs g in
      either bytes vs g (is_ok (bare_adding limit size h)) (λ b. []) (λ b. cond b 1 0) h (Bare (g + 1) (0 + 1))
      (λ ok. let r = (had_bare_space limit size h ok).no_value in let l = rest_long bytes vs g in more_bare bytes vs g (g + 1) (0 + 1) (omega arith) (omega arith) (omega arith))
      (same bytes vs g h 0 (stands_full bytes vs g le) refl)

  step_bare : (r : Request A) (vs : List A) (g : ℕ) → length vs < g → Leaves r vs g (bare bytes vs g)
  step_bare (Insert v) vs g lt =
      let h = bare bytes vs g in
      either bytes vs g (is_ok (insertion limit size long h)) (λ b. cond b (v ∷ []) []) (λ b. 0) h (with_value (bytes v) h) (λ ok. less_bare bytes vs g v lt) (same bytes vs g h 0 (stands_bare bytes vs g lt) refl)
  step_bare Evict vs g lt =
      let h = bare bytes vs g in
      let kept = same bytes vs g h 0 (stands_bare bytes vs g lt) refl in
      either bytes vs g (has_places limit size long) (λ b. []) (λ b. cond b (min 1 0) 0) h h (λ ok. kept) kept
  step_bare (EvictThrough number) vs g lt = same bytes vs g (bare bytes vs g) (min (number + 1 - (length vs + 1)) 0) (stands_bare bytes vs g lt) (omega arith)
  step_bare AddBare vs g lt =
      let h = bare bytes vs g in
      either bytes vs g (is_ok (bare_adding limit size h)) (λ b. []) (λ b. cond b 1 0) h (Bare (length vs + 1) (g - length vs + 1))
      (λ ok. more_bare bytes vs g (length vs + 1) (g - length vs + 1) (omega arith) refl (omega arith))
      (same bytes vs g h 0 (stands_bare bytes vs g lt) refl)

  step : (r : Request A) (vs : List A) (g : ℕ) → Leaves r vs g (standing bytes vs g)
  step r vs g =
      let P : Holding → Type 0 = Leaves r vs g in
      elim (cases_lt (length vs) g) [
        | inl lt ↦ subst P (sym (stands_bare bytes vs g lt)) (step_bare r vs g lt)
        | inr le ↦ subst P (sym (stands_full bytes vs g le)) (step_values r vs g le)
      ]

  -- so do requests one after another
  runs : (rs : List (Request A)) (vs : List A) (g : ℕ) → let h = standing bytes vs g in
      after_all bytes limit size long rs h ≡ standing bytes (vs ++ taken_by_all bytes limit size long rs h) (g + gone_by_all bytes limit size long rs h)
  runs [] vs g = same bytes vs g (standing bytes vs g) 0 refl refl
  runs (r ∷ rs) vs g =
      let h = standing bytes vs g in
      let t = taken_by bytes limit size long r h in
      let m = gone_by bytes limit size long r h in
      let P : Holding → Type 0 = λ k. after_all bytes limit size long rs k ≡ standing bytes ((vs ++ t) ++ taken_by_all bytes limit size long rs k) (g + m + gone_by_all bytes limit size long rs k) in
      let k = after bytes limit size long r h in
      let more = subst P (sym (step r vs g)) (runs rs (vs ++ t) (g + m)) in
      let a = append_assoc vs t (taken_by_all bytes limit size long rs k) in
      let b : g + m + gone_by_all bytes limit size long rs k ≡ g + (m + gone_by_all bytes limit size long rs k) = omega arith in
      more ∙ (λ i. standing bytes (a i) (b i))

  -- what each change keeps, requests one after another keep
  module _ (P : Holding → Type 0) (more : (body : List ℕ) (h : Holding) → HadSpace limit size long h → P h → P (with_value body h)) (fewer : (k : ℕ) (h : Holding) → P h → P (evicted k h))
      (one_bare : (h : Holding) → HadBareSpace limit size h → P (Bare (first_number h) (bare_count h + 1))) where
    one_keeps : (r : Request A) (h : Holding) → P h → P (after bytes limit size long r h)
    one_keeps (Insert v) h p = cond_both (is_ok (insertion limit size long h)) (with_value (bytes v) h) h P (λ ok. more (bytes v) h (had_space limit size long h ok) p) (λ no. p)
    one_keeps Evict h p = cond_both (has_places limit size long) (evicted 1 h) h P (λ ok. fewer 1 h p) (λ no. p)
    one_keeps (EvictThrough number) h p = fewer (number + 1 - first_number h) h p
    one_keeps AddBare h p = cond_both (is_ok (bare_adding limit size h)) (Bare (first_number h) (bare_count h + 1)) h P (λ ok. one_bare h (had_bare_space limit size h ok)) (λ no. p)

    all_keep : (rs : List (Request A)) (h : Holding) → P h → P (after_all bytes limit size long rs h)
    all_keep [] h p = p
    all_keep (r ∷ rs) h p = all_keep rs (after bytes limit size long r h) (one_keeps r h p)

  -- values are only in a table that has every place
  abbrev Placed : Holding → Type 0
  Placed h = 0 < length (bodies_of h) → has_places limit size long ≡ true

  more_placed : (body : List ℕ) (h : Holding) → HadSpace limit size long h → Placed h → Placed (with_value body h)
  more_placed body (Values first bodies) had p = λ some. had.place
  more_placed body (Bare first count) had p = cond_both (ltb 0 (count - 1)) (Bare (first + 1) (count - 1)) (Values (first + 1) []) Placed (λ e. p) (λ e. p)

  fewer_placed : (k : ℕ) (h : Holding) → Placed h → Placed (evicted k h)
  fewer_placed k (Values first bodies) p = λ some. p (let l = length-drop k bodies in omega arith)
  fewer_placed k (Bare first count) p = p

  all_placed : (rs : List (Request A)) → Placed (after_all bytes limit size long rs empty)
  all_placed rs = all_keep Placed more_placed fewer_placed (λ h had some. absurd (omega arith)) rs empty (λ some. absurd (omega arith))

  -- and never weigh more than the limit
  abbrev Within : Holding → Type 0
  Within h = weight_of size h ≤ limit

  more_within : (body : List ℕ) (h : Holding) → HadSpace limit size long h → Within h → Within (with_value body h)
  more_within body (Values first bodies) had w =
      let s = leb-true (weight_of size (Values first bodies) + weigh size) limit had.space in
      let l = ap (λ n. n * weigh size) (length-append bodies (body ∷ [])) in
      let a = add-mul (length bodies) 1 (weigh size) in
      omega arith
  more_within body (Bare first count) had w = cond_both (ltb 0 (count - 1)) (Bare (first + 1) (count - 1)) (Values (first + 1) []) Within (λ e. omega arith) (λ e. omega arith)

  fewer_within : (k : ℕ) (h : Holding) → Within h → Within (evicted k h)
  fewer_within k (Values first bodies) w =
      let l = length-drop k bodies in
      let m = mul-le-mul_right {m = length (drop k bodies)} {n = length bodies} (weigh size) (omega arith) in
      omega arith
  fewer_within k (Bare first count) w = w

  bare_within : (h : Holding) → HadBareSpace limit size h → Within (Bare (first_number h) (bare_count h + 1))
  bare_within (Values first bodies) had = let l = had.light in omega arith
  bare_within (Bare first count) had = let l = had.light in omega arith

  all_within : (rs : List (Request A)) → Within (after_all bytes limit size long rs empty)
  all_within rs = all_keep Within more_within fewer_within bare_within rs empty (omega arith)

module _ {A : Type 0} (bytes : A → List ℕ) (size : ℕ) where
  pub keeps : Keeps bytes size
  keeps limit long rs = runs bytes limit size long rs [] 0 ∙ ap (standing bytes (taken_by_all bytes limit size long rs empty)) (zero-add (gone_by_all bytes limit size long rs empty))

  -- what stands under the number of a value that is not gone
  at_standing : (before behind : List A) (v : A) (g : ℕ) → g ≤ length before → value_at (length before + 1) (standing bytes (before ++ v ∷ behind) g) ≡ Some (length before + 1, bytes v)
  at_standing before behind v g le =
      let vs = before ++ v ∷ behind in
      let n = length before + 1 in
      let l = length-append before (v ∷ behind) in
      let r = rest_long bytes vs g in
      let front = map bytes (drop g before) in
      let far : length front ≡ n - (g + 1) = length-map (drop g before) bytes ∙ length-drop g before ∙ omega arith in
      let split = ap (map bytes) (drop-append-le g before (v ∷ behind) le) ∙ map-append bytes (drop g before) (v ∷ behind) in
      let here = ap (λ bs. get_or bs (n - (g + 1)) []) split ∙ get_or_at front (bytes v) (map bytes behind) [] (n - (g + 1)) far in
      ap (value_at n) (stands_full bytes vs g (omega arith))
      ∙ cond-true (leb (g + 1) n && ltb n (g + 1 + length (rest bytes vs g))) _ _
      (and_from (leb (g + 1) n) (ltb n (g + 1 + length (rest bytes vs g))) (le-leb (g + 1) n (omega arith)) (lt-ltb n (g + 1 + length (rest bytes vs g)) (omega arith)))
      ∙ ap (λ b. Some (n, b)) here

  pub shows_taken : Shows bytes size
  shows_taken limit long rs before behind v e le =
      let vs = before ++ v ∷ behind in
      let g = gone_by_all bytes limit size long rs empty in
      let is = keeps limit long rs ∙ ap (λ ws. standing bytes ws g) e in
      let l = length-append before (v ∷ behind) in
      let r = rest_long bytes vs g in
      let some = ap (λ h. length (bodies_of h)) (is ∙ stands_full bytes vs g (omega arith)) in
      let places = all_placed bytes limit size long rs (omega arith) in
      cond-true (has_places limit size long) _ None places ∙ ap (value_at (length before + 1)) is ∙ at_standing before behind v g le

  next_standing : (vs : List A) (g : ℕ) → next_number (standing bytes vs g) ≡ length vs + 1
  next_standing vs g =
      elim (cases_lt (length vs) g) [
        | inl lt ↦ ap next_number (stands_bare bytes vs g lt)
        | inr le ↦
            let l = rest_long bytes vs g in
            let e : g + 1 + length (rest bytes vs g) ≡ length vs + 1 = omega arith in
            ap next_number (stands_full bytes vs g le) ∙ e
      ]

  pub counts_on : CountsOn bytes size
  counts_on limit long rs = ap next_number (keeps limit long rs) ∙ next_standing (taken_by_all bytes limit size long rs empty) (gone_by_all bytes limit size long rs empty)

  pub stays_within : StaysWithin bytes size
  stays_within limit long rs = all_within bytes limit size long rs
