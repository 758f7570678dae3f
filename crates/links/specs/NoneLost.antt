-- No offer is lost: over any calls on a link, what was taken is read again, in order, whatever came between.
use Rattle.std.specs.Prelude.{◌≡◌, ℕ, cond, List, [], ◌∷◌, ◌++◌, length, Some}
use Rattle.messages.specs.Messages.{Content, content_of}
use Rattle.links.specs.declared.link.LinkCall.{LinkCall}
use Rattle.links.specs.declared.link.LinkCall.TheVariants as case
use Rattle.links.specs.Links.{weigh_all, is_taken, offered, first_of, rest_of}

-- the calls that change a link's messages; reading, counting and weighing change nothing
pub data Change : Type 0 where
  Offer : Content → Change
  DropFirst : Change
  Clear : Change

-- what a call of the code is
abbrev pub change_of : LinkCall → Change
change_of (case.Offer m) = Offer (content_of m)
change_of case.DropFirst = DropFirst
change_of case.Clear = Clear

-- the messages that wait after a call
abbrev pub after : ℕ → Change → List Content → List Content
after limit (Offer m) ms = offered limit m ms
after limit DropFirst ms = rest_of ms
after limit Clear ms = []

-- the message that a call put on the link
abbrev pub taken_by : ℕ → Change → List Content → List Content
taken_by limit (Offer m) ms = cond (is_taken limit (weigh_all ms) m) (m ∷ []) []
taken_by limit DropFirst ms = []
taken_by limit Clear ms = []

-- the messages that a call took off it: the one that could be read as the first, or all
abbrev pub gone_by : Change → List Content → List Content
gone_by (Offer m) ms = []
gone_by DropFirst [] = []
gone_by DropFirst (m ∷ ms) = m ∷ []
gone_by Clear ms = ms

-- the same of calls one after another
abbrev pub after_all : ℕ → List Change → List Content → List Content
after_all limit [] ms = ms
after_all limit (c ∷ cs) ms = after_all limit cs (after limit c ms)

abbrev pub taken_in : ℕ → List Change → List Content → List Content
taken_in limit [] ms = []
taken_in limit (c ∷ cs) ms = taken_by limit c ms ++ taken_in limit cs (after limit c ms)

abbrev pub gone_in : ℕ → List Change → List Content → List Content
gone_in limit [] ms = []
gone_in limit (c ∷ cs) ms = gone_by c ms ++ gone_in limit cs (after limit c ms)

-- calls on a link on which some messages waited, and the messages that wait at the end
pub record Lossless (limit : ℕ) (cs : List Change) (ms end : List Content) : Type 0 where
  -- what waited and what was taken is what has gone, in the same order, and then what waits at the end
  pub none_lost : ms ++ taken_in limit cs ms ≡ gone_in limit cs ms ++ end
  -- so each is read as the first once just those before it have gone
  pub read_again :
      (before : List Content) (m : Content) (behind : List Content) →
      ms ++ taken_in limit cs ms ≡ before ++ m ∷ behind → length (gone_in limit cs ms) ≡ length before → first_of end ≡ Some m
