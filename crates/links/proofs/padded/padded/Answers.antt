use Rattle.std.proofs.Common.{◌≡◌, ℕ, ◌-◌, List, ◌++◌, length, replicate, Ok, Err, Result as Answer, ap, ◌∙◌, arith, length-take-le}
use Rattle.std.proofs.lemmas.List.{drop-replicate}
use Rattle.messages.specs.declared.message.Unwritten.{Unwritten}
use Rattle.messages.specs.declared.message.Unwritten.TheVariants.{LongBody, WrongLength}
use Rattle.messages.specs.Messages.{Content, Short, MessageWrote, content_of, body_of, message_bytes, weight_of}
use Rattle.links.proofs.padded.padded.Goals as goal

-- a short message is written over as many bytes as it weighs
wrote : (m : Content) (old new : List ℕ) (r : Answer (Unit {0}) Unwritten) → Short m → length old ≡ weight_of m → MessageWrote m old new r → new ≡ message_bytes m
wrote m old new (Ok u) short fits w = w.2
wrote m old new (Err LongBody) short fits w = absurd (w.0 short)
wrote m old new (Err WrongLength) short fits w = absurd (w.1 fits)

pub returns : goal.returns
returns c =
    let m = content_of c.args.message.now in
    let w = c.weight.result in
    let n = c.weight.ensures.is in
    let long = length-take-le {A = ℕ} w (replicate 48 0) (omega (arith, c.requires)) in
    let bytes = wrote m _ _ c.write.result c.requires (long ∙ n) c.write.ensures in
    let left : 48 - w ≡ 40 - length (body_of m) = omega arith in
    let zeros = drop-replicate w 48 0 ∙ ap (λ k. replicate k 0) left in
    λ i. bytes i ++ zeros i
