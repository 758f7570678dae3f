-- Bodies one behind another, the first of them first.
use Rattle.std.proofs.Common.{◌≡◌, ℕ, ◌<◌, ◌≤◌, List, [], ◌∷◌, ◌++◌, length, take, drop, Some, None, Option, sym, ap, ◌∙◌, arith, length-append, Err}
use Rattle.std.specs.List.{flat_map}
use Rattle.std.proofs.lemmas.List.{take_at, drop_at}
use Rattle.bodies.specs.Bodies.{BodyLaws}
use Rattle.operators.specs.Operators.{unbounded}
use Rattle.images.specs.declared.fault.ImageFault.{ImageFault}
use Rattle.images.specs.declared.fault.ImageFault.TheVariants.{InBlock, WrongContents, Unreadable, ShortMemory}
use Rattle.images.specs.Contents.{Contents}
use Rattle.images.specs.Takes.{memory_length}
use Rattle.images.specs.Installs.{AreBodies, Installed}

module _ {A : Type 0} {size : ℕ} {bytes : A → List ℕ} {value : List ℕ → Option A} (laws : BodyLaws size bytes value) where
  -- bodies that are some begin with one
  pub first_body : (xs : List ℕ) → 0 < length xs → AreBodies bytes xs → (y : A) × (bytes y ≡ take size xs) × AreBodies bytes (drop size xs) × (size ≤ length xs)
  first_body xs some ([], e) = absurd (let l = ap length e in omega arith)
  first_body xs some (y ∷ ys, e) =
      let l = laws.long y in
      let a = length-append (bytes y) (flat_map bytes ys) in
      let w = ap length e in
      (y, sym (take_at (bytes y) (flat_map bytes ys) size l) ∙ ap (take size) e, (ys, sym (drop_at (bytes y) (flat_map bytes ys) size l) ∙ ap (drop size) e), omega arith)

  -- one body in front of others
  pub one_body : (body behind : List ℕ) (y : A) → value body ≡ Some y → AreBodies bytes behind → AreBodies bytes (body ++ behind)
  one_body body behind y is (ys, e) = (y ∷ ys, λ i. laws.only body y is i ++ e i)

  pub no_body : (xs : List ℕ) → 0 < length xs → value (take size xs) ≡ None → AreBodies bytes xs → ⊥
  no_body xs some none all =
      let f = first_body xs some all in
      let z : None ≡ Some f.0 = sym none ∙ ap value (sym f.1) ∙ laws.back f.0 in
      cc

-- an installation that is refused, with memory, has no state or no values that wrote what the image holds; the operator is as it was
pub not_installed : {P State Out : Type 0} (state : P → State) (written : State → List ℕ) (longest : ℕ) (bytes : Out → List ℕ) (memory : List ℕ) (c : Contents) (old new : P) (e : ImageFault) → Installed state written longest bytes memory c old new (Err e) → (new ≡ old) × (longest < unbounded → memory_length ≤ length memory → (s : State) → written s ≡ c.state → AreBodies bytes c.held → ⊥)
not_installed state written longest bytes memory c old new (InBlock f) i = absurd i
not_installed state written longest bytes memory c old new WrongContents i = absurd i
not_installed state written longest bytes memory c old new Unreadable i = (i.0, λ small wide. i.2 small)
not_installed state written longest bytes memory c old new ShortMemory i = (i.0, λ small wide. absurd (omega (arith, i.1)))
