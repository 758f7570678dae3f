use Rattle.std.proofs.Common.{◌≡◌, ℕ, ◌+◌, ◌<◌, List, map, length, get_or, take, sym, ap, ◌∙◌}
use Rattle.std.proofs.lemmas.List.{map_more, take_all}
use Rattle.messages.specs.Messages.{Content}
use Rattle.links.specs.declared.link.LinkCall.{LinkCall}
use Rattle.links.specs.NoneLost.{after, after_all, change_of}
use Rattle.links.proofs.Losses.{lossless, after_push}
use Rattle.links.proofs.link.Link.make_calls.Goals as goal

-- the calls up to the next one, and that one
one_more : (limit was : ℕ) (calls : List LinkCall) (i : ℕ) (d : LinkCall) (before now first : List Content) → i < length calls → was ≡ limit → before ≡ after_all limit (map change_of (take i calls)) first → now ≡ after was (change_of (get_or calls i d)) before → now ≡ after_all limit (map change_of (take (i + 1) calls)) first
one_more limit was calls i d before now first h k e f =
    f ∙ (λ j. after (k j) (change_of (get_or calls i d)) (e j))
    ∙ sym (ap (λ cs. after_all limit cs first) (map_more change_of calls i d h) ∙ after_push limit (map change_of (take i calls)) (change_of (get_or calls i d)) first)

pub loop-call-preserved : goal.loop-call-preserved
loop-call-preserved g c = (
  c.make_call.ensures.kept ∙ c.loop-call.invariant.0,
  one_more _ _ c.args.calls.now c.loop-call.call-index _ _ _ _ c.loop-call-test.true c.loop-call.invariant.0 c.loop-call.invariant.1 c.make_call.ensures.after,
)

pub returns : goal.returns
returns g c =
    let all = take_all c.loop-call.call-index c.args.calls.now c.loop-call-test.false in
    let left = c.loop-call.invariant.1 ∙ ap (λ cs. after_all (g.Self.Link.limit c.args.self.now) (map change_of cs) (g.Self.Link.waiting c.args.self.now)) all in
    record { after = left; lossless = lossless _ _ _ _ left; kept = c.loop-call.invariant.0 }
