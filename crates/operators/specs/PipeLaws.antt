-- A pipe of two operators is an operator.
use Rattle.std.specs.Prelude.{◌≡◌, ℕ, ◌≤◌, List, [], ◌∷◌, ◌++◌, length, take, drop, refl}
use Rattle.std.proofs.Common.{sym, ap, ◌∙◌, arith, length-append}
use Rattle.std.proofs.lemmas.List.{take_at, drop_at, append-nil}
use Rattle.bodies.specs.Numbers.{be32, be32_apart}
use Rattle.operators.specs.Operators.{OperatorLaws}
use Rattle.operators.specs.Pipes.{given_all, pipe_written, pipe_longest}

-- what a pipe wrote is cut where it was joined
pub record Cut (a b xs : List ℕ) (n : ℕ) : Type 0 where
  pub long : n ≡ length a
  pub front : a ≡ take n xs
  pub back : b ≡ drop n xs

pub cut_of : (a b xs : List ℕ) (n : ℕ) → pipe_written a b ≡ be32 n ++ xs → Cut a b xs n
cut_of a b xs n e =
    let long : length a ≡ n = be32_apart (length a) n (ap (take 4) e) in
    let tail : a ++ b ≡ xs = ap (drop 4) e in
    record {
      long = sym long;
      front = sym (take_at a b n long) ∙ ap (take n) tail;
      back = sym (drop_at a b n long) ∙ ap (drop n) tail;
    }

module _ {S T In Mid Out : Type 0} {first : S → In → List Mid} {second : T → Mid → List Out} {v : S → List ℕ} {w : T → List ℕ} {m n : ℕ} (next : T → Mid → T) (one : OperatorLaws first v m) (two : OperatorLaws second w n) where
  gives_few : (t : T) (xs : List Mid) → length xs ≤ 1 → length (given_all next second t xs) ≤ 1
  gives_few t [] h = omega arith
  gives_few t (x ∷ []) h = let e = ap length (append-nil (second t x)) in let f = two.few t x in omega arith
  gives_few t (x ∷ (y ∷ xs)) h = absurd (omega arith)

  pub pipe_laws : OperatorLaws {State = S × T} (λ s x. given_all next second s.1 (first s.0 x)) (λ s. pipe_written (v s.0) (w s.1)) (pipe_longest m n)
  pipe_laws = record {
    few = λ s x. gives_few s.1 (first s.0 x) (one.few s.0 x);
    within = λ small s.
        let a = one.within (omega arith) s.0 in
        let b = two.within (omega arith) s.1 in
        simp length-append (omega arith);
    apart = λ small s t e.
        let f = cut_of (v s.0) (w s.1) (v t.0 ++ w t.1) (length (v t.0)) e in
        let g = cut_of (v t.0) (w t.1) (v t.0 ++ w t.1) (length (v t.0)) refl in
        let a = one.apart (omega arith) s.0 t.0 (f.front ∙ sym g.front) in
        let b = two.apart (omega arith) s.1 t.1 (f.back ∙ sym g.back) in
        λ i. (a i, b i);
  }
