-- One byte changed moves the sum by its place and one times the difference, which 65,521 does not divide.
use Rattle.std.proofs.Common.{◌≡◌, ◌≢◌, ℕ, zero, suc, ◌+◌, ◌-◌, ◌*◌, ◌%◌, ◌<◌, ◌≤◌, ◌⊎◌, Bool, true, not, ◌&&◌, ◌||◌, eqb, List, [], ◌∷◌, length, get_or, set, refl, sym, ap, subst, ◌∙◌, ⊎_elim, arith, mul-add}
use Rattle.std.proofs.Math.Nat.{mul-mod_left}
use Rattle.std.proofs.lemmas.Bool.{cases_order}
use Rattle.std.proofs.lemmas.Bool.Decides.{Decides-below_and, Decides-or, Decides-eqb, Decides-not}
use Rattle.std.proofs.lemmas.Nat.{mul-le}
use Rattle.blocks.specs.Checks.{weighted_sum, check_of}

-- of the numbers 1 to n, only 1 divides 65,521
abbrev none_divides : ℕ → Bool
none_divides zero = true
none_divides (suc n) = (eqb n 0 || not (eqb (65521 % (n + 1)) 0)) && none_divides n

divides_not : (n : ℕ) → n < 255 → (n ≡ 0) ⊎ (65521 % (n + 1) ≢ 0)
divides_not n h =
    (Decides-below_and (λ k. eqb k 0 || not (eqb (65521 % (k + 1)) 0)) (λ k. (k ≡ 0) ⊎ (65521 % (k + 1) ≢ 0)) none_divides (λ k. Decides-or (eqb k 0) (not (eqb (65521 % (k + 1)) 0)) (Decides-eqb k 0) (Decides-not (eqb (65521 % (k + 1)) 0) (Decides-eqb (65521 % (k + 1)) 0))) refl (λ _. refl) 255).0 refl n h

no_product : (m d : ℕ) → m ≤ 510 → d ≤ 255 → m * d ≢ 65521
no_product m zero h k e = omega (arith, e)
no_product m (suc n) h k e =
    let small : n < 255 = omega arith in
    ⊎_elim (λ z. let f : m * suc 0 ≡ 65521 = ap (λ x. m * suc x) (sym z) ∙ e in omega arith) (λ no. no (ap (λ x. x % (n + 1)) (sym e) ∙ (let s : suc n ≡ n + 1 = omega arith in ap (λ x. m * x % (n + 1)) s ∙ mul-mod_left m (n + 1)))) (divides_not n small)

-- a sum that moved by such a product leaves another rest
moved : (s m d : ℕ) → 1 ≤ m → m ≤ 510 → 1 ≤ d → d ≤ 255 → (s + m * d) % 65521 ≢ s % 65521
moved s m d a b p q e =
    let top : m * d ≤ 510 * 255 = mul-le m d 510 255 b q in
    let low : 1 * 1 ≤ m * d = mul-le 1 1 m d a p in
    no_product m d b q (omega arith)

weighted_sum-set : (p : ℕ) (xs : List ℕ) (k b : ℕ) → k < length xs → weighted_sum p (set xs k b) + (p + k + 1) * get_or xs k 0 ≡ weighted_sum p xs + (p + k + 1) * b
weighted_sum-set p [] k b h = absurd (omega arith)
weighted_sum-set p (x ∷ xs) zero b h = omega arith
weighted_sum-set p (x ∷ xs) (suc k) b h =
    let e = weighted_sum-set (p + 1) xs k b (omega arith) in
    let r : p + 1 + k + 1 ≡ p + suc k + 1 = omega arith in
    let f : weighted_sum (p + 1) (set xs k b) + (p + suc k + 1) * get_or xs k 0 ≡ weighted_sum (p + 1) xs + (p + suc k + 1) * b = subst (λ (n : ℕ). weighted_sum (p + 1) (set xs k b) + n * get_or xs k 0 ≡ weighted_sum (p + 1) xs + n * b) r e in
    omega arith

-- one of at most 510 bytes changed: another check
pub check_moves : (xs : List ℕ) (k b : ℕ) → length xs ≤ 510 → k < length xs → get_or xs k 0 < 256 → b < 256 → b ≢ get_or xs k 0 → check_of (set xs k b) ≢ check_of xs
check_moves xs k b long h old new ne e =
    let a = get_or xs k 0 in
    let s = weighted_sum-set 0 xs k b h in
    let z : 0 + k + 1 ≡ k + 1 = omega arith in
    let t : weighted_sum 0 (set xs k b) + (k + 1) * a ≡ weighted_sum 0 xs + (k + 1) * b = subst (λ (n : ℕ). weighted_sum 0 (set xs k b) + n * a ≡ weighted_sum 0 xs + n * b) z s in
    ⊎_elim ne
    (λ o. ⊎_elim
    (λ lt. let x : (k + 1) * b + (k + 1) * (a - b) ≡ (k + 1) * a = sym (mul-add (k + 1) b (a - b)) ∙ ap (λ n. (k + 1) * n) (omega arith) in moved (weighted_sum 0 (set xs k b)) (k + 1) (a - b) (omega arith) (omega arith) (omega arith) (omega arith) (ap (λ n. n % 65521) (omega arith) ∙ sym e))
    (λ gt. let x : (k + 1) * a + (k + 1) * (b - a) ≡ (k + 1) * b = sym (mul-add (k + 1) a (b - a)) ∙ ap (λ n. (k + 1) * n) (omega arith) in moved (weighted_sum 0 xs) (k + 1) (b - a) (omega arith) (omega arith) (omega arith) (omega arith) (ap (λ n. n % 65521) (omega arith) ∙ e))
    o) (cases_order b a)
