-- How many events a new buffer of 4,096 bytes takes.
use Rattle.std.proofs.Common.{◌≡◌, ℕ, zero, suc, ◌+◌, ◌<◌, ◌≤◌, true, false, List, [], ◌∷◌, ◌++◌, map, length, take, Ok, Err, sym, refl, ap, ◌∙◌, append_assoc, arith, length-append}
use Rattle.std.proofs.lemmas.List.{append-nil}
use Rattle.std.proofs.lemmas.Bool.{le-leb, lt-leb}
use Rattle.bodies.specs.Events.{event_bytes}
use Rattle.bodies.specs.declared.event.Event.{Event}
use Rattle.numbered.specs.declared.buffer.Uninserted.TheVariants.{Full}
use Rattle.numbered.specs.Buffers.{Values, largest_number, weight_of, has_places, insertion, Insert}
use Rattle.numbered.specs.BufferLaw.{after_all, Takes240}
use Rattle.numbered.proofs.Holdings.{all_places, answers_by, after_insert}

refused : (long first : ℕ) (bodies : List (List ℕ)) → length bodies ≡ 240 → first + 240 ≤ largest_number → insertion 4096 9 long (Values first bodies) ≡ Err Full
refused long first bodies l few =
    answers_by 4096 9 long (Values first bodies) false (has_places 4096 9 long) (omega arith) (lt-leb (weight_of 9 (Values first bodies) + 17) 4096 (omega arith)) refl

taken : (long : ℕ) (bodies : List (List ℕ)) → 2160 ≤ long → length bodies < 240 → insertion 4096 9 long (Values 1 bodies) ≡ Ok (1 + length bodies)
taken long bodies wide few =
    answers_by 4096 9 long (Values 1 bodies) true true (omega arith) (le-leb (weight_of 9 (Values 1 bodies) + 17) 4096 (omega arith)) (all_places 4096 9 long (omega arith) wide)

module _ (long : ℕ) (wide : 2160 ≤ long) where
  -- where `left` more find space, so many more are taken
  taken_of : (left : ℕ) (es : List Event) (bodies : List (List ℕ)) → length bodies + left ≡ 240 →
      after_all event_bytes 4096 9 long (map Insert es) (Values 1 bodies) ≡ Values 1 (bodies ++ map event_bytes (take left es))
  taken_of zero [] bodies l = ap (Values 1) (sym (append-nil bodies))
  taken_of (suc left) [] bodies l = ap (Values 1) (sym (append-nil bodies))
  taken_of zero (e ∷ es) bodies l =
      ap (after_all event_bytes 4096 9 long (map Insert es)) (after_insert 4096 9 long (event_bytes e) (Values 1 bodies) (Err Full) (refused long 1 bodies (omega arith) (omega arith)))
      ∙ taken_of zero es bodies l
  taken_of (suc left) (e ∷ es) bodies l =
      let more = bodies ++ event_bytes e ∷ [] in
      let n = length-append bodies (event_bytes e ∷ []) in
      ap (after_all event_bytes 4096 9 long (map Insert es)) (after_insert 4096 9 long (event_bytes e) (Values 1 bodies) (Ok (1 + length bodies)) (taken long bodies wide (omega arith)))
      ∙ taken_of left es more (omega arith)
      ∙ ap (Values 1) (append_assoc bodies (event_bytes e ∷ []) (map event_bytes (take left es)))

pub takes_240 : Takes240
takes_240 = record {
  taken = λ long es wide. taken_of long wide 240 es [] refl;
  weight = λ first bodies l. omega arith;
  more = λ first bodies l. omega arith;
  refused = refused;
}
