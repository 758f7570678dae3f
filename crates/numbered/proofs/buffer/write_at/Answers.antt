use Rattle.std.proofs.Common.{◌≡◌, ◌+◌, ◌-◌, ◌++◌, length, take, drop, sym, ap, ◌∙◌, arith, length-drop, length-take}
use Rattle.std.proofs.lemmas.List.{drop-drop}
use Rattle.numbered.proofs.Holdings.{wrote_all}
use Rattle.numbered.proofs.buffer.write_at.Goals as goal

pub returns : goal.returns
returns g c =
    let b = g.B.Body in
    let t = c.args.table.now in
    let at = c.args.at in
    let bytes = b.bytes c.args.value in
    let wide : at + c.size.result - at ≡ b.size = omega arith in
    let part = take (at + c.size.result - at) (drop at t) in
    let long : length part ≡ b.size = simp (length-take, length-drop) (omega (arith, c.requires)) in
    let all = wrote_all bytes part c.write.new.out c.write.result (long ∙ sym (b.laws.long c.args.value)) c.write.ensures in
    (λ i. take at t ++ (all i ++ drop (wide i) (drop at t))) ∙ ap (λ l. take at t ++ (bytes ++ l)) (drop-drop b.size at t)
