use mathlib.Core.Path.{refl, sym, ap, ◌∙◌}
use native.Mathlib.Omega.{arith}
use Rattle.logs.specs.Following.{first_that_is}
use Rattle.logs.proofs.Looking.{choices_end, search_passes, search_hits, search_misses}
use Rattle.logs.proofs.choices.search_choices.Goals as goal
use Rattle.logs.proofs.choices.search_choices.Goals.{then-is_choice+else-is_some, else-is_choice}

pub returns-then-is_some : goal.returns-then-is_some
returns-then-is_some c =
    let a = c.args in
    sym
    (c.loop-m.invariant
    ∙ search_hits a.session a.number c.loop-m.m (omega arith) (sym c.is_choice.ensures ∙ c.if-is_choice.true) c.own_turn_of.ensures a.line.now
    c.search_event-search.ensures c.if-is_some.ensures)

pub loop-m-preserved : goal.loop-m-preserved
loop-m-preserved c =
    let a = c.args in
    let choice = c.is_choice.ensures in
    c.loop-m.invariant
    ∙ elim c.if-is_choice.branch [
      | then-is_choice+else-is_some w ↦
          search_misses a.session a.number c.loop-m.m (omega arith) (sym choice ∙ w.if-is_choice.true) w.own_turn_of.ensures a.line.now
          w.search_event-search.ensures w.if-is_some.ensures
      | else-is_choice w ↦ search_passes a.session a.number c.loop-m.m (omega arith) (sym choice ∙ w.if-is_choice.false) a.line.now
    ]

pub returns : goal.returns
unfolding first_that_is
returns c =
    let a = c.args in
    sym (c.loop-m.invariant ∙ ap (first_that_is a.line.now) (choices_end a.session a.number c.loop-m.m c.loop-m-test.false))
