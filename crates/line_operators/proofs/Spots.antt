-- What finding, putting in and taking out are at a key's place.
use Rattle.std.proofs.Common.{◌≡◌, ℕ, zero, suc, ◌<◌, ◌≤◌, Bool, true, false, leb, List, [], ◌∷◌, length, get_or, set, Some, None, Ok, Err, Result, sym, refl, ap, ◌∙◌, length-set, arith}
use Rattle.std.proofs.lemmas.Bool.{le-leb, lt-leb}
use Rattle.std.proofs.lemmas.List.Edits.{length-insert}
use Rattle.std.specs.List.{insert, remove, refill}
use Rattle.std.specs.Result.{result_ok}
use Rattle.arrayvec.proofs.ArrayVecLemmas.{items-with_items}
use Rattle.line_operators.specs.Rows.{orderly, found, with_row, put_in, without}
use Rattle.line_operators.specs.RowLaws.{with_orderly}
use Rattle.line_operators.specs.RowSteps.{found_past, found_first, found_before, with_past, with_first, with_before, without_past, without_first, without_before}
use Rattle.line_operators.specs.Places.{Place}
use Rattle.line_operators.proofs.Finds.{put_fits, put_full}

module _ {E : Type 0} (rank : E → ℕ) where
  -- at the place i of the row of rank k
  pub record Known (k i : ℕ) (xs : List E) : Type 0 where
    pub finds : (d : E) → found rank k xs ≡ Some (get_or xs i d)
    pub puts : (e : E) → rank e ≡ k → with_row rank e xs ≡ set xs i e
    pub takes : without rank k xs ≡ remove xs i

  pub known : (k i : ℕ) (xs : List E) → Place rank k xs (Ok i) → Known k i xs
  known k i [] p = absurd (omega (arith, p.0))
  known k zero (x ∷ xs) p = record {
    finds = λ d. found_first rank k x xs (p.2 d);
    puts = λ e is. with_first rank e x xs (omega (arith, p.2 e));
    takes = without_first rank k x xs (p.2 x);
  }
  known k (suc i) (x ∷ xs) p =
      let below = p.1 0 x (omega arith) in
      let later = known k i xs (omega (arith, p.0), λ j d lt. p.1 (suc j) d (omega arith), p.2) in
      record {
        finds = λ d. found_past rank k x xs below ∙ later.finds d;
        puts = λ e is. with_past rank e x xs (omega arith) ∙ ap (λ l. x ∷ l) (later.puts e is);
        takes = without_past rank k x xs below ∙ ap (λ l. x ∷ l) later.takes;
      }

  -- at the place i where a row of rank k would stand
  pub record New (k i : ℕ) (xs : List E) : Type 0 where
    pub finds : found rank k xs ≡ None
    pub puts : (e : E) → rank e ≡ k → with_row rank e xs ≡ insert xs i e
    pub takes : without rank k xs ≡ xs

  pub new : (k i : ℕ) (xs : List E) → Place rank k xs (Err i) → New k i xs
  new k zero [] p = record { finds = refl; puts = λ e is. refl; takes = refl }
  new k (suc i) [] p = absurd (omega (arith, p.0))
  new k zero (x ∷ xs) p =
      let past = p.2 x (omega arith) in
      record {
        finds = found_before rank k x xs past;
        puts = λ e is. with_before rank e x xs (omega arith);
        takes = without_before rank k x xs past;
      }
  new k (suc i) (x ∷ xs) p =
      let below = p.1 0 x (omega arith) in
      let later = new k i xs (omega (arith, p.0), λ j d lt. p.1 (suc j) d (omega arith), λ d lt. p.2 d (omega arith)) in
      record {
        finds = found_past rank k x xs below ∙ later.finds;
        puts = λ e is. with_past rank e x xs (omega arith) ∙ ap (λ l. x ∷ l) (later.puts e is);
        takes = without_past rank k x xs below ∙ ap (λ l. x ∷ l) later.takes;
      }

  -- the place that was answered, by its variant
  pub at_some : (k i : ℕ) (xs : List E) (r : Result ℕ ℕ) → Place rank k xs r → result_ok r ≡ Some i → Known k i xs
  at_some k i xs (Ok j) p e = let same : j ≡ i = cc in known k i xs (rw (sym same) p)
  at_some k i xs (Err j) p e = absurd (cc)

  pub at_none : (k : ℕ) (xs : List E) (r : Result ℕ ℕ) → Place rank k xs r → result_ok r ≡ None → found rank k xs ≡ None × without rank k xs ≡ xs
  at_none k xs (Ok i) p e = absurd (cc)
  at_none k xs (Err i) p e = let n = new k i xs p in (n.finds, n.takes)

  module _ (sound : E → Bool) (most : ℕ) (e : E) (xs : List E) where
    -- ys is what a table of so many rows has once a row is put in that has a place
    pub record Put (ys : List E) : Type 0 where
      pub after : ys ≡ put_in rank most e xs
      pub fits : true ≡ leb (length (with_row rank e xs)) most
      pub few : length ys ≤ most
      pub ordered : orderly rank sound 0 ys ≡ true

    module _ (k i : ℕ) (key : k ≡ rank e) (fit : sound e ≡ true) (up : orderly rank sound 0 xs ≡ true) where
      put : (ys : List E) → ys ≡ with_row rank e xs → length ys ≤ most → Put ys
      put ys is few =
          let fits : length (with_row rank e xs) ≤ most = omega (arith, ap length is) in
          record {
            after = is ∙ sym (put_fits rank most e xs fits);
            fits = sym (le-leb (length (with_row rank e xs)) most fits);
            few = few;
            ordered = ap (orderly rank sound 0) is ∙ with_orderly rank sound 0 e xs fit (omega arith) up;
          }

      -- over the row of its rank, as a write through the slice leaves the rows
      pub put_known : (zs : List E) → zs ≡ xs → length xs ≤ most → Place rank k xs (Ok i) → Put (refill (length xs) xs (set zs i e))
      put_known zs same few p =
          let is = items-with_items (record { items = xs }) (set zs i e) (length-set zs i e ∙ ap length same) ∙ ap (λ l. set l i e) same in
          put (refill (length xs) xs (set zs i e)) (is ∙ sym ((known k i xs p).puts e (sym key))) (omega (arith, ap length is, length-set xs i e))

      -- or at its place
      pub put_new : (ys : List E) → ys ≡ insert xs i e → length xs < most → Place rank k xs (Err i) → Put ys
      put_new ys is few p = put ys (is ∙ sym ((new k i xs p).puts e (sym key))) (omega (arith, ap length is, length-insert xs i e p.0))

  -- a new row that has no place is dropped
  pub put_dropped : (most : ℕ) (e : E) (xs : List E) (k i : ℕ) → k ≡ rank e → most ≤ length xs → Place rank k xs (Err i) → record { after : xs ≡ put_in rank most e xs; fits : false ≡ leb (length (with_row rank e xs)) most }
  put_dropped most e xs k i key full p =
      let long : most < length (with_row rank e xs) = omega (arith, ap length ((new k i xs p).puts e (sym key)), length-insert xs i e p.0) in
      record { after = sym (put_full rank most e xs long); fits = sym (lt-leb (length (with_row rank e xs)) most long) }
