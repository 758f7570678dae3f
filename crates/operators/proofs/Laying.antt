-- Parts written one behind another over lent bytes.
use Rattle.std.proofs.Common.{◌≡◌, ℕ, ◌+◌, ◌-◌, ◌<◌, ◌≤◌, List, ◌++◌, length, take, drop, Some, None, Option, sym, refl, ap, ◌∙◌, append_assoc, arith, length-append, length-drop, length-take-le}
use borrow.Rule.Slice.PartMut.{put_mid}
use Rattle.std.proofs.lemmas.List.{take_at, drop_at, drop-drop, drop_all, append-nil}
use Rattle.bodies.specs.Bodies.{Laid}

-- bytes laid over as many are those bytes
pub laid_exact : (bytes old new : List ℕ) (r : Option ℕ) → Laid bytes old new r → (r ≡ None → length old < length bytes) → length old ≡ length bytes → new ≡ bytes
laid_exact bytes old new None l few e = absurd (let h = few refl in omega arith)
laid_exact bytes old new (Some n) l few e = l.1 ∙ ap (λ t. bytes ++ t) (drop_all n old (let h = l.0 in omega arith)) ∙ append-nil bytes

pub part_long : (xs : List ℕ) (at end : ℕ) → at ≤ end → end ≤ length xs → length (take (end - at) (drop at xs)) ≡ end - at
part_long xs at end le h = let d = length-drop at xs in length-take-le (end - at) (drop at xs) (omega arith)

-- bytes of which the first are written, with a part more
pub laid_more : (old now pre part : List ℕ) (at k : ℕ) → length pre ≡ at → now ≡ pre ++ drop at old → k ≡ length part → put_mid at k now part ≡ (pre ++ part) ++ drop (at + length part) old
laid_more old now pre part at k e is l =
    ap (λ t. put_mid at k t part) is
    ∙ (λ i. take_at pre (drop at old) at e i ++ (part ++ drop k (drop_at pre (drop at old) at e i)))
    ∙ ap (λ t. pre ++ (part ++ t)) (drop-drop k at old ∙ ap (λ j. drop (at + j) old) l)
    ∙ sym (append_assoc pre part (drop (at + length part) old))

-- they are as many as before
pub laid_long : (old now pre : List ℕ) (at : ℕ) → length pre ≡ at → at ≤ length old → now ≡ pre ++ drop at old → length now ≡ length old
laid_long old now pre at e le is = ap length is ∙ length-append pre (drop at old) ∙ (let d = length-drop at old in omega arith)
