use mathlib.Core.List.{List, []}
use mathlib.Core.Path.{refl, sym, ap, ◌∙◌}
use native.Mathlib.Omega.{arith}
use Prim.Native.Nat.{ℕ, ◌+◌}
use lib.ListN.{get_or}
use Rattle.listing.specs.Line.{text_of}
use Rattle.trace.specs.Trace.{handed}
use Rattle.trace.specs.declared.Stepped.{Stepped}
use Rattle.logs.specs.Following.{Next, lines_of_nexts}
use Rattle.logs.proofs.Looking.{choices_at, choices_end, line_passes, line_here, line_later}
use Rattle.logs.proofs.choices.line_of_choice.Goals as goal
use Rattle.logs.proofs.choices.line_of_choice.Goals.{then-is_choice+else-ahead-eq0, else-is_choice}

pub returns-then-ahead-eq0 : goal.returns-then-ahead-eq0
unfolding handed text_of
returns-then-ahead-eq0 c =
    let a = c.args in
    let line = c.loop-m.invariant
    ∙ line_here a.session a.number c.loop-m.m (omega arith) (sym c.is_choice.ensures ∙ c.if-is_choice.true)
    c.own_turn_of.ensures c.loop-m.ahead c.if-ahead-eq0.true in
    ap (λ (x : Stepped). x.text) c.step.ensures ∙ sym line

pub loop-m-preserved : goal.loop-m-preserved
loop-m-preserved c =
    let a = c.args in
    let choice = c.is_choice.ensures in
    c.loop-m.invariant
    ∙ elim c.if-is_choice.branch [
      | then-is_choice+else-ahead-eq0 w ↦
          line_later a.session a.number c.loop-m.m (omega arith) (sym choice ∙ w.if-is_choice.true) {event = _} refl c.loop-m.ahead w.if-ahead-eq0.false
          ∙ ap (λ (k : ℕ). get_or (lines_of_nexts (choices_at a.session a.number (c.loop-m.m + 1))) k []) (sym w.ahead-is)
      | else-is_choice w ↦
          line_passes a.session a.number c.loop-m.m (omega arith) (sym choice ∙ w.if-is_choice.false) c.loop-m.ahead
          ∙ ap (λ (k : ℕ). get_or (lines_of_nexts (choices_at a.session a.number (c.loop-m.m + 1))) k []) (sym w.ahead-is)
    ]

pub returns : goal.returns
returns c =
    let a = c.args in
    let none = c.loop-m.invariant
    ∙ ap (λ (xs : List Next). get_or (lines_of_nexts xs) c.loop-m.ahead []) (choices_end a.session a.number c.loop-m.m c.loop-m-test.false) in
    c.empty.ensures ∙ sym none
