-- `Session::census` counts stream by stream: what it keeps is that of the streams passed.
use mathlib.Core.Path.{◌≡◌}
use Rattle.std.proofs.Common.{Some}
use Rattle.session.specs.Inner.{census_to}
use Rattle.session.proofs.Session.census.Given as goal

abbrev pub invariant-loop-x : goal.invariant-loop-x
invariant-loop-x l = census_to l.self l.x-index ≡ Some l.census
