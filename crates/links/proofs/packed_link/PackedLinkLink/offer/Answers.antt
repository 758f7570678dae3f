use Rattle.std.proofs.Common.{Err, refl, ap, ◌∙◌, arith}
use Rattle.std.proofs.lemmas.Result.{err_from_is_err_and}
use Rattle.messages.specs.Messages.{content_of}
use Rattle.links.proofs.Packed.{few, answered_by, room, pushed}
use Rattle.links.proofs.packed_link.PackedLinkLink.offer.Goals as goal

pub returns-in_err-admit : goal.returns-in_err-admit
returns-in_err-admit c =
    let p = err_from_is_err_and c.from_residual.result c.from_residual.ensures.1 in
    let a = answered_by c.args.self.now (content_of c.args.message) c.in_err-admit.ensures c.len.ensures in
    record { answer = p.1 ∙ ap Err p.2 ∙ a.is; after = a.after; kept = refl }

pub append-requires : goal.append-requires
append-requires c =
    let r = room c.args.self.now (content_of c.args.message) c.in_ok-admit.ensures c.len.ensures in
    record { short = r.0; space = r.1 }

pub overflow_add-self : goal.overflow_add-self
overflow_add-self c = let f = few c.args.self.now in omega arith

pub invariant_of-self : goal.invariant_of-self
invariant_of-self c =
    let k = pushed c.args.self.now (content_of c.args.message) c.in_ok-admit.ensures c.len.ensures c.append.ensures in
    record { spells = k.spells; counts = k.counts; light = k.light; short = k.short }

pub returns : goal.returns
returns c =
    let l = c.args.self.now in
    let m = content_of c.args.message in
    let k = pushed l m c.in_ok-admit.ensures c.len.ensures c.append.ensures in
    record { answer = (answered_by l m c.in_ok-admit.ensures c.len.ensures).is; after = k.are; kept = refl }
