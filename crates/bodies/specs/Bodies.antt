-- What a body kind is: how long, what its values write, and which value bytes write.
use Rattle.std.specs.Prelude.{◌≡◌, ℕ, Bool, true, false, cond, ◌&&◌, List, [], ◌∷◌, ◌++◌, length, drop, Some, None, Ok, Err, Option, Result, MatchOption, ◌==◌, ◌≢◌, refl}
use Rattle.std.proofs.Common.{sym, ap, ◌∙◌, arith}
use Rattle.std.proofs.lemmas.Bool.{eqb-true, eq-eqb, and_parts, and_from}

pub record BodyLaws {A : Type 0} (size : ℕ) (bytes : A → List ℕ) (value : List ℕ → Option A) : Type 0 where
  -- every value writes so many
  pub long : (x : A) → length (bytes x) ≡ size
  -- what a value writes reads back as that value
  pub back : (x : A) → value (bytes x) ≡ Some x
  -- and nothing else reads as a value
  pub only : (xs : List ℕ) (x : A) → value xs ≡ Some x → bytes x ≡ xs
  -- two values never write the same bytes
  pub apart : (x y : A) → bytes x ≡ bytes y → x ≡ y

-- bytes stand in the place of lent bytes of the same number; of another number, those stay
abbrev pub Wrote : {E : Type 0} → List ℕ → List ℕ → List ℕ → Result (Unit {0}) E → Type 0
Wrote bytes old new (Ok _) = (length old ≡ length bytes) × (new ≡ bytes)
Wrote bytes old new (Err _) = (length old ≢ length bytes) × (new ≡ old)

-- bytes stand in the place of the first of lent bytes, and their number is answered; or all stay
abbrev pub Laid : List ℕ → List ℕ → List ℕ → Option ℕ → Type 0
Laid bytes old new (Some n) = (n ≡ length bytes) × (new ≡ bytes ++ drop n old)
Laid bytes old new None = new ≡ old

-- whether two lists of bytes are one
abbrev pub same : List ℕ → List ℕ → Bool
same [] [] = true
same [] (y ∷ ys) = false
same (x ∷ xs) [] = false
same (x ∷ xs) (y ∷ ys) = x == y && same xs ys

pub same_true : (xs ys : List ℕ) → same xs ys ≡ true → xs ≡ ys
same_true [] [] e = refl
same_true [] (y ∷ ys) e = absurd (let z : ◌≡◌ {A = ℕ} 0 1 = ap (λ b. cond b 1 0) e in omega arith)
same_true (x ∷ xs) [] e = absurd (let z : ◌≡◌ {A = ℕ} 0 1 = ap (λ b. cond b 1 0) e in omega arith)
same_true (x ∷ xs) (y ∷ ys) e =
    let p = and_parts (x == y) (same xs ys) e in
    let h = eqb-true x y p.0 in
    let t = same_true xs ys p.1 in
    λ i. h i ∷ t i

pub same_self : (xs : List ℕ) → same xs xs ≡ true
same_self [] = refl
same_self (x ∷ xs) = and_from (x == x) (same xs xs) (eq-eqb x x refl) (same_self xs)

module _ {A : Type 0} (bytes : A → List ℕ) (guess : List ℕ → A) where
  -- the value that bytes write: the one guessed from them, if it writes just these
  abbrev pub value_by : List ℕ → Option A
  value_by xs = cond (same (bytes (guess xs)) xs) (Some (guess xs)) None

  value_back : ((x : A) → guess (bytes x) ≡ x) → (x : A) → value_by (bytes x) ≡ Some x
  value_back right x = ap (λ y. cond (same (bytes y) (bytes x)) (Some y) None) (right x) ∙ ap (λ b. cond b (Some x) None) (same_self (bytes x))

  value_only : (xs : List ℕ) (x : A) → value_by xs ≡ Some x → bytes x ≡ xs
  value_only xs x e = go (same (bytes (guess xs)) xs) refl e
    where
      go : (b : Bool) → same (bytes (guess xs)) xs ≡ b → cond b (Some (guess xs)) None ≡ Some x → bytes x ≡ xs
      go true h f = let is : guess xs ≡ x = cc in ap bytes (sym is) ∙ same_true (bytes (guess xs)) xs h
      go false h f = absurd (let z : ◌≡◌ {A = ℕ} 0 1 = cc in omega arith)

  -- a guess that is right of every value's own bytes makes a body kind
  pub lawful_by : (size : ℕ) → ((x : A) → length (bytes x) ≡ size) → ((x : A) → guess (bytes x) ≡ x) → BodyLaws size bytes value_by
  lawful_by size long right = record {
    long = long;
    back = value_back right;
    only = value_only;
    apart = λ x y e. sym (right x) ∙ ap guess e ∙ right y;
  }

module _ {A : Type 0} {size : ℕ} {bytes : A → List ℕ} {value : List ℕ → Option A} (laws : BodyLaws size bytes value) where
  -- a reading that gives the value that wrote, and refuses what no value writes, is the value
  pub value_is : (xs : List ℕ) (r : Option A) → MatchOption r ((x : A) → bytes x ≢ xs) (λ x. bytes x ≡ xs) → r ≡ value xs
  value_is xs (Some x) e = sym (laws.back x) ∙ ap value e
  value_is xs None none = go (value xs) refl
    where
      go : (v : Option A) → value xs ≡ v → None ≡ v
      go None h = refl
      go (Some x) h = absurd (none x (laws.only xs x h))
