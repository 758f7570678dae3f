-- Contents and their data.
use Rattle.std.proofs.Common.{◌≡◌, ℕ, ◌-◌, ◌*◌, ◌≤◌, true, ◌++◌, length, take, drop, sym, refl, ap, ◌∙◌, arith}
use Rattle.std.proofs.lemmas.Bool.Decides.{nat_tests}
use Rattle.std.proofs.lemmas.List.{take_at, drop_at}
use Rattle.bodies.specs.Weights.{longest_body, weigh}
use Rattle.bodies.specs.Numbers.{be32_apart}
use Rattle.images.specs.Contents.{Contents, data_of, is_sound}
use Rattle.images.proofs.Data.{few_held, length_of_data}

-- two with the same data are one
pub same_contents : (c d : Contents) → data_of c ≡ data_of d → c ≡ d
same_contents c d e =
    let run : c.counts.records_run ≡ d.counts.records_run = be32_apart c.counts.records_run d.counts.records_run (ap (take 4) e) in
    let produced : c.counts.results_produced ≡ d.counts.results_produced = be32_apart c.counts.results_produced d.counts.results_produced (ap (λ x. take 4 (drop 4 x)) e) in
    let settled : c.counts.results_settled ≡ d.counts.results_settled = be32_apart c.counts.results_settled d.counts.results_settled (ap (λ x. take 4 (drop 8 x)) e) in
    let long : length c.state ≡ length d.state = be32_apart (length c.state) (length d.state) (ap (λ x. take 4 (drop 12 x)) e) in
    let behind : c.state ++ c.held ≡ d.state ++ d.held = ap (drop 16) e in
    let state = sym (take_at c.state c.held (length c.state) refl) ∙ ap (take (length c.state)) behind ∙ take_at d.state d.held (length c.state) (sym long) in
    let held = sym (drop_at c.state c.held (length c.state) refl) ∙ ap (drop (length c.state)) behind ∙ drop_at d.state d.held (length c.state) (sym long) in
    λ i. record { counts = record { records_run = run i; results_produced = produced i; results_settled = settled i }; state = state i; held = held i }

-- sound ones fill 1 to 15 blocks
pub length_sound : (size : ℕ) (c : Contents) → size ≤ longest_body → is_sound size c ≡ true → (16 ≤ length (data_of c)) × (length (data_of c) ≤ 7530)
length_sound size c small sound =
    let n = c.counts.results_produced - c.counts.results_settled in
    let state : length c.state ≤ 4096 = grind (arith, nat_tests) in
    let light : n * weigh size ≤ 4096 = grind (arith, nat_tests) in
    let bodies : length c.held ≡ n * size = grind (arith, nat_tests) in
    let held = few_held n size small light in
    let l = length_of_data c in
    (omega arith, omega arith)
