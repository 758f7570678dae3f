-- A line gives an order just where it says a command whose words are numbers.
use Rattle.std.proofs.Common.{◌≡◌, ℕ, true, eqb, List, [], ◌∷◌, Some, None, Option, sym, refl, ap, ◌∙◌, arith, Bor}
use Rattle.std.specs.List.{AllByRecursion}
use Rattle.std.proofs.ByRecursion.{All-weaker}
use Rattle.std.proofs.lemmas.Bool.{eqb-true}
use Rattle.std.proofs.lemmas.Bool.Decides.{nat_tests}
use Rattle.script.specs.declared.commands.Command.{Command}
use Rattle.script.specs.declared.commands.Command.TheVariants.{Begin, End, Turn, Fail, Avail}
use Rattle.script.specs.Bytes.{Without}
use Rattle.script.specs.Words.{words, spaced, Word}
use Rattle.script.specs.Numbers.{decimal}
use Rattle.script.specs.Commands.{Spoken, letter, arguments, Says}
use Rattle.script.specs.Orders.{both, order_by, order_in, order_of, OrdersRight}
use Rattle.script.proofs.WordLaws.{words_spaced, words_right}

no_space : (c : Spoken) → letter c ≡ 32 → ⊥
no_space (Begin line stamp) e = omega arith
no_space (End line stamp) e = omega arith
no_space Turn e = omega arith
no_space (Fail side) e = omega arith
no_space (Avail side) e = omega arith

-- a line that says a command gives the command's order
order_said : (line : List ℕ) (c : Spoken) → Says line c → order_of line ≡ order_by (letter c) (arguments c)
order_said line c says =
    let solid = All-weaker Word (Without 32) (λ w word. word.1) (arguments c) says.0 in
    ap order_in (ap words says.1 ∙ words_spaced ((letter c ∷ []) ∷ arguments c) (omega arith) ((no_space c, tt), solid))

-- pieces that are no words are no numbers
no_number : (a : List ℕ) → Without 32 a → (Word a → ⊥) → decimal a ≡ None
no_number [] solid no_word = refl
no_number (b ∷ bs) solid no_word = absurd (no_word (omega arith, solid))

both_none : (order : ℕ → ℕ → Command ℕ) (n : Option ℕ) → both order n None ≡ None
both_none order None = refl
both_none order (Some n) = refl

no_numbers : (order : ℕ → ℕ → Command ℕ) (a b : List ℕ) → Without 32 a → Without 32 b → (Word a → Word b → ⊥) → both order (decimal a) (decimal b) ≡ None
no_numbers order [] b solid more no_words = refl
no_numbers order (x ∷ xs) b solid more no_words =
    ap (both order (decimal (x ∷ xs))) (no_number b more (no_words (omega arith, solid))) ∙ both_none order (decimal (x ∷ xs))

-- a reference to the bytes
abbrev to : List ℕ → Bor (List ℕ)
to bytes = record { ref_ptr = (0, 0); now = bytes }

-- no command, no order
module _ (line : List ℕ) (unsaid : (c : Spoken) → Says line c → ⊥) where
  not_by : (c : Spoken) (l : ℕ) → spaced ((l ∷ []) ∷ arguments c) ≡ line → eqb l (letter c) ≡ true → AllByRecursion Word (arguments c) → ⊥
  not_by c l is same proper = unsaid c (proper, sym is ∙ ap (λ x. spaced ((x ∷ []) ∷ arguments c)) (eqb-true l (letter c) same))

  unsaid_in : (pieces : List (List ℕ)) → spaced pieces ≡ line → AllByRecursion (Without 32) pieces → order_in pieces ≡ None
  unsaid_in [] is solid = refl
  unsaid_in ([] ∷ more) is solid = refl
  unsaid_in ((l ∷ m ∷ ms) ∷ more) is solid = refl
  unsaid_in ((l ∷ []) ∷ []) is solid = let turn : eqb l 116 ≡ true → ⊥ = λ e. not_by Turn l is e tt in grind (arith, nat_tests)
  unsaid_in ((l ∷ []) ∷ a ∷ []) is solid =
      let none : (c : Spoken) → arguments c ≡ a ∷ [] → eqb l (letter c) ≡ true → decimal a ≡ None = λ c same e. no_number a solid.1.0 (λ w. not_by c l (rw same is) e (rw same (w, tt))) in
      let fail = none (Fail (to a)) refl in
      let avail = none (Avail (to a)) refl in
      grind (arith, nat_tests)
  unsaid_in ((l ∷ []) ∷ a ∷ b ∷ []) is solid =
      let none : (order : ℕ → ℕ → Command ℕ) (c : Spoken) → arguments c ≡ a ∷ b ∷ [] → eqb l (letter c) ≡ true → both order (decimal a) (decimal b) ≡ None = λ order c same e. no_numbers order a b solid.1.0 solid.1.1.0 (λ v w. not_by c l (rw same is) e (rw same (v, (w, tt)))) in
      let begin = none Begin (Begin (to a) (to b)) refl in
      let end = none End (End (to a) (to b)) refl in
      grind (arith, nat_tests)
  unsaid_in ((l ∷ []) ∷ a ∷ b ∷ c ∷ more) is solid = refl

  order_unsaid : order_of line ≡ None
  order_unsaid = unsaid_in (words line) (words_right.0 line).0 (words_right.0 line).1

pub orders_right : OrdersRight
orders_right = (order_said, order_unsaid)
