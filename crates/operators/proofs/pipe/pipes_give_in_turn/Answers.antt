use Rattle.std.proofs.Common.{◌≡◌, List, [], ◌∷◌, ◌++◌, sym, refl, ap, ◌∙◌, append_assoc}
use Rattle.operators.specs.Pipes.{after_all, given_all, InTurn}
use Rattle.operators.proofs.pipe.pipes_give_in_turn.Goals as goal

-- what is given over some values and then others
given_more : {T In Out : Type 0} (next : T → In → T) (gives : T → In → List Out) (t : T) (xs ys : List In) → given_all next gives t (xs ++ ys) ≡ given_all next gives t xs ++ given_all next gives (after_all next t xs) ys
given_more next gives t [] ys = refl
given_more next gives t (x ∷ xs) ys = ap (λ l. gives t x ++ l) (given_more next gives (next t x) xs ys) ∙ sym (append_assoc (gives t x) (given_all next gives (next t x) xs) (given_all next gives (after_all next (next t x) xs) ys))

in_turn : {S T In Mid Out : Type 0} (f : S → In → S) (calls : S → In → List Mid) (next : T → Mid → T) (gives : T → Mid → List Out) → InTurn f calls next gives
in_turn f calls next gives s t [] = refl
in_turn f calls next gives s t (v ∷ vs) =
    ap (λ l. given_all next gives t (calls s v) ++ l) (in_turn f calls next gives (f s v) (after_all next t (calls s v)) vs)
    ∙ sym (given_more next gives t (calls s v) (given_all f calls (f s v) vs))

pub returns : goal.returns
returns g c = in_turn g.F.Operator.next g.F.Operator.gives g.S.Operator.next g.S.Operator.gives
