-- The laws of Sessions over runs.
use Rattle.std.proofs.Common.{◌≡◌, ℕ, List, [], ◌∷◌, None, refl, ap, ◌∙◌, inl, inr, arith}
use Rattle.std.proofs.lemmas.Bool.{cases_order}
use Rattle.bodies.specs.declared.event.Event.{Event}
use Rattle.bodies.specs.declared.event.EventKind.{EventKind}
use Rattle.bodies.specs.declared.event.EventKind.TheVariants.{Begin, End}
use Rattle.operators.specs.Pipes.{after_all}
use Rattle.line_operators.specs.declared.open.Open.{Open}
use Rattle.line_operators.specs.Rows.{found, without}
use Rattle.line_operators.specs.Tables.{fair_few, fair_orderly}
use Rattle.line_operators.specs.Sessions.{Opens, open_line, any_open, open_after, call_of, none_open, sessions_next}
use Rattle.line_operators.specs.SessionsLaw.{Others, NoBegin, event, OwnBegin, Once, Begun}
use Rattle.line_operators.proofs.Finds.{found_without, found_gone, put_own, put_other, room}

-- a line is as it was while other lines go on
stays : (k : EventKind) (line other stamp : ℕ) (s : Opens) → (other ≡ line → ⊥) → found open_line line (open_after k other stamp s.0) ≡ found open_line line s.0
stays Begin line other stamp s ne = put_other open_line 32 line (record { line = other; stamp = stamp }) s.0 ne
stays End line other stamp s ne = found_without open_line any_open 0 other line s.0 (fair_orderly open_line any_open 32 s.0 s.1) ne

stays_all : (line : ℕ) (es : List Event) (s : Opens) → Others line es → found open_line line (after_all sessions_next s es).0 ≡ found open_line line s.0
stays_all line [] s others = refl
stays_all line (e ∷ es) s others = stays_all line es (sessions_next s e) others.1 ∙ stays e.kind line e.line e.stamp s others.0

pub own_begin : OwnBegin
own_begin s line begin end between free others =
    let o : Open = record { line = line; stamp = begin } in
    ap (call_of line end) (stays_all line between (sessions_next s (event Begin line begin)) others ∙ put_own open_line 32 o s.0 (room open_line 32 o s.0 (fair_few open_line any_open 32 s.0 s.1) free))

-- a line that is not open stays so until it begins
closed : (k : EventKind) (line other stamp : ℕ) (s : Opens) → found open_line line s.0 ≡ None → (k ≡ Begin → other ≡ line → ⊥) → found open_line line (open_after k other stamp s.0) ≡ None
closed Begin line other stamp s none ne = stays Begin line other stamp s (ne refl) ∙ none
closed End line other stamp s none ne =
    elim (cases_order other line) [
      | inl same ↦ ap (λ l. found open_line line (without open_line l s.0)) same ∙ found_gone open_line any_open 0 line s.0 (fair_orderly open_line any_open 32 s.0 s.1)
      | inr differ ↦ stays End line other stamp s (λ e. elim differ [ inl l ↦ omega arith | inr g ↦ omega arith ]) ∙ none
    ]

closed_all : (line : ℕ) (es : List Event) (s : Opens) → found open_line line s.0 ≡ None → NoBegin line es → found open_line line (after_all sessions_next s es).0 ≡ None
closed_all line [] s none quiet = none
closed_all line (e ∷ es) s none quiet = closed_all line es (sessions_next s e) (closed e.kind line e.line e.stamp s none quiet.0) quiet.1

pub once : Once
once s line end later between quiet =
    ap (call_of line later) (closed_all line between (sessions_next s (event End line end)) (found_gone open_line any_open 0 line s.0 (fair_orderly open_line any_open 32 s.0 s.1)) quiet)

pub begun : Begun
begun line end before quiet = ap (call_of line end) (closed_all line before none_open refl quiet)
