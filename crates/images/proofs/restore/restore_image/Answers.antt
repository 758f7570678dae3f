use Rattle.std.proofs.Common.{rules, ◌≡◌, Err, refl, ap, arith}
use Rattle.images.specs.Restores.{contents_by}
use Rattle.images.specs.Takes.{held_in}
use Rattle.images.proofs.Bodies.{not_installed}
use Rattle.images.proofs.restore.restore_image.Goals as goal

pub returns-in_err-image : goal.returns-in_err-image
returns-in_err-image g c =
    let all = contents_by g.P.Operator.state g.P.Operator.written g.P.Operator.longest g.P.Out.Body.size g.P.Out.Body.bytes c.args.blocks.now in
    let is : c.from_residual.result ≡ Err c.in_err-image.field-0.0 = search rules in
    rw is (refl, λ small wide v counts s values w. c.in_err-image.ensures wide v (all counts s values) w)

pub returns-in_err-install : goal.returns-in_err-install
returns-in_err-install g c =
    let all = contents_by g.P.Operator.state g.P.Operator.written g.P.Operator.longest g.P.Out.Body.size g.P.Out.Body.bytes c.args.blocks.now in
    let memory = c.read_image.new.memory in
    let is : c.from_residual-in_err-install.result ≡ Err c.in_err-install.field-0.0 = search rules in
    let no = not_installed g.P.Operator.state g.P.Operator.written g.P.Operator.longest g.P.Out.Body.bytes memory (held_in c.in_ok-image.image memory) c.args.operator.now c.install.new.operator c.in_err-install.field-0.0 c.in_err-install.ensures in
    rw is (
      no.0,
      λ small wide v counts s values w.
          let same = (c.in_ok-image.ensures.1 v (all counts s values) w).1 in
          no.1 small (omega (arith, wide, c.read_image.auto.memory)) s (ap (λ k. k.state) same) (values, ap (λ k. k.held) same),
    )
