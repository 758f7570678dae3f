use Rattle.std.proofs.Common.{◌≡◌, [], length, rules}
use Rattle.std.specs.List.{flat_map}
use Rattle.bodies.proofs.Parts.{within}
use Rattle.bodies.proofs.body.put.Goals as goal

pub slice_bounds-copy_from_slice-end : goal.slice_bounds-copy_from_slice-end
slice_bounds-copy_from_slice-end c =
    let whole : length (flat_map (λ p. p.now) c.args.parts.now) ≡ length c.args.out.now = search rules in
    let fits = within (λ p. p.now) c.args.parts.now c.loop-part.part-index (record { ref_ptr = (0, 0); now = [] }) c.loop-part-test.true c.loop-part.at (length c.args.out.now) c.loop-part.invariant.0 whole in
    search rules
