-- No offer is lost, call by call.
use Rattle.std.proofs.Common.{◌≡◌, ℕ, Bool, true, false, cond, List, [], ◌∷◌, ◌++◌, length, drop, sym, refl, ap, ◌∙◌, append_assoc}
use Rattle.std.proofs.lemmas.List.{append-nil, drop_at}
use Rattle.messages.specs.Messages.{Content}
use Rattle.links.specs.Links.{weigh_all, is_taken, first_of}
use Rattle.links.specs.NoneLost.{Change, Offer, DropFirst, Clear, after, taken_by, gone_by, after_all, taken_in, gone_in, Lossless}

one_call : (limit : ℕ) (c : Change) (ms : List Content) → ms ++ taken_by limit c ms ≡ gone_by c ms ++ after limit c ms
one_call limit (Offer m) ms = go (is_taken limit (weigh_all ms) m)
  where
    go : (b : Bool) → ms ++ cond b (m ∷ []) [] ≡ cond b (ms ++ m ∷ []) ms
    go true = refl
    go false = append-nil ms
one_call limit DropFirst [] = refl
one_call limit DropFirst (m ∷ ms) = append-nil (m ∷ ms)
one_call limit Clear ms = refl

every_call : (limit : ℕ) (cs : List Change) (ms : List Content) → ms ++ taken_in limit cs ms ≡ gone_in limit cs ms ++ after_all limit cs ms
every_call limit [] ms = append-nil ms
every_call limit (c ∷ cs) ms =
    let next = after limit c ms in
    sym (append_assoc ms (taken_by limit c ms) (taken_in limit cs next))
    ∙ ap (λ l. l ++ taken_in limit cs next) (one_call limit c ms)
    ∙ append_assoc (gone_by c ms) next (taken_in limit cs next)
    ∙ ap (λ l. gone_by c ms ++ l) (every_call limit cs next)
    ∙ sym (append_assoc (gone_by c ms) (gone_in limit cs next) (after_all limit cs next))

pub lossless : (limit : ℕ) (cs : List Change) (ms end : List Content) → end ≡ after_all limit cs ms → Lossless limit cs ms end
lossless limit cs ms end e =
    let gone = gone_in limit cs ms in
    let all = every_call limit cs ms ∙ ap (λ l. gone ++ l) (sym e) in
    record {
      none_lost = all;
      read_again = λ before m behind is long. ap first_of (sym (drop_at gone end (length before) long) ∙ ap (drop (length before)) (sym all ∙ is) ∙ drop_at before (m ∷ behind) (length before) refl);
    }

-- one call more
pub after_push : (limit : ℕ) (cs : List Change) (c : Change) (ms : List Content) → after_all limit (cs ++ c ∷ []) ms ≡ after limit c (after_all limit cs ms)
after_push limit [] c ms = refl
after_push limit (d ∷ cs) c ms = after_push limit cs c (after limit d ms)
