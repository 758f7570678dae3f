use Rattle.std.proofs.Common.{◌≡◌, map, take}
use Rattle.links.specs.NoneLost.{after_all, change_of}
use Rattle.links.proofs.link.Link.make_calls.Given as goal

-- the calls made so far have left the link so
abbrev pub invariant-loop-call : goal.invariant-loop-call
invariant-loop-call g l =
    (g.Self.Link.limit l.self ≡ g.Self.Link.limit l.initial.self)
    × (g.Self.Link.waiting l.self ≡ after_all (g.Self.Link.limit l.initial.self) (map change_of (take l.call-index l.calls)) (g.Self.Link.waiting l.initial.self))
