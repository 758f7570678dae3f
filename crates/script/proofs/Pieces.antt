-- What is cut at a mark, put together again.
use Rattle.std.proofs.Common.{◌≡◌, ℕ, ◌+◌, ◌-◌, ◌<◌, ◌≢◌, Bool, true, false, cond, eqb, List, [], ◌∷◌, ◌++◌, length, get_or, take, drop, sym, ap, ◌∙◌, arith, take-append-drop}
use Rattle.std.proofs.lemmas.List.{drop_more, take_rest, get_or-take, length-take}
use Rattle.std.proofs.ByRecursion.{All-from_get_or}
use Rattle.std.proofs.lemmas.Bool.{eqb-false}
use Rattle.std.specs.List.{AllByRecursion}
use Rattle.script.specs.Bytes.{Without, front}

-- the bytes up to the first mark, the mark and the bytes after it
pub parted : (bytes : List ℕ) (mark i : ℕ) → i < length bytes → get_or bytes i 0 ≡ mark → ((k : ℕ) → k < i → get_or bytes k 0 ≢ mark) → Without mark (take i bytes) × (bytes ≡ take i bytes ++ mark ∷ take (length bytes - (i + 1)) (drop (i + 1) bytes))
parted bytes mark i within is before =
    let back : drop i bytes ≡ mark ∷ take (length bytes - (i + 1)) (drop (i + 1) bytes) = drop_more bytes i 0 within ∙ (λ j. is j ∷ sym (take_rest bytes (i + 1)) j) in (
      All-from_get_or (λ b. b ≢ mark) (take i bytes) 0 (λ k short. let below : k < i = omega (arith, length-take {A = ℕ}) in rw get_or-take (before k below)),
      sym (take-append-drop i bytes) ∙ ap (λ l. take i bytes ++ l) back,
    )

-- a byte before pieces that hold no mark: it parts them, or stands in front of the first
pub byte_without : (mark b : ℕ) (pieces : List (List ℕ)) → AllByRecursion (Without mark) pieces → (v : Bool) → eqb b mark ≡ v → AllByRecursion (Without mark) (cond v ([] ∷ pieces) (front b pieces))
byte_without mark b pieces all true is = (tt, all)
byte_without mark b [] all false is = ((eqb-false b mark is, tt), tt)
byte_without mark b (piece ∷ more) all false is = ((eqb-false b mark is, all.0), all.1)
