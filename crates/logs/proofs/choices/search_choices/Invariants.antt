-- `search_choices` goes through the cells: what is looked for among all choices is looked for among those from the present cell on.
use mathlib.Core.Path.{◌≡◌}
use Rattle.logs.specs.Following.{first_that_is}
use Rattle.logs.proofs.Looking.{choices_at}
use Rattle.logs.proofs.choices.search_choices.Given as goal

abbrev pub invariant-loop-m : goal.invariant-loop-m
invariant-loop-m l =
    first_that_is l.line (choices_at l.session l.number 0) ≡ first_that_is l.line (choices_at l.session l.number l.m)
