-- `line_of_choice` goes through the cells: line k of all choices is a line of those from the present cell on.
use mathlib.Core.List.{[]}
use mathlib.Core.Path.{◌≡◌}
use lib.ListN.{get_or}
use Rattle.logs.specs.Following.{lines_of_nexts}
use Rattle.logs.proofs.Looking.{choices_at}
use Rattle.logs.proofs.choices.line_of_choice.Given as goal

abbrev pub invariant-loop-m : goal.invariant-loop-m
invariant-loop-m l =
    get_or (lines_of_nexts (choices_at l.session l.number 0)) l.k [] ≡ get_or (lines_of_nexts (choices_at l.session l.number l.m)) l.ahead []
