-- `put_onward` puts number after number: behind the line so far stands what the numbers left have.
use mathlib.Core.Path.{◌≡◌}
use mathlib.Core.List.{◌++◌, map}
use lib.ListN.{drop}
use Rattle.listing.specs.Line.{decimal, onward}
use Rattle.listing.proofs.Text.put_onward.Given as goal

abbrev pub invariant-loop-number : goal.invariant-loop-number
invariant-loop-number l =
    l.self ++ onward (map decimal (drop l.number-index l.numbers)) ≡ l.initial.self ++ onward (map decimal l.numbers)
