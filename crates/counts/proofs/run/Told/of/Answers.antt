-- `Told::of` has the tests of the definition.
use mathlib.Core.Path.{◌≡◌}
use Prim.Native.Nat.{ℕ}
use lib.Dec.{ltb}
use Rattle.std.proofs.Common.{is_lt, nat_cmp, rules}
use Rattle.counts.specs.Inner.{added_by}
use Rattle.counts.proofs.run.Told.of.Goals as goal

-- an order by `<`, as a test
less_is : (a b : ℕ) → is_lt (nat_cmp a b) ≡ ltb a b
less_is a b = search rules

pub returns : goal.returns
unfolding added_by
returns c = rw (c.only_if.ensures, c.only_if-2.ensures, c.only_if-3.ensures, c.only_if-lasted.ensures, c.lt.ensures, c.eq.ensures, less_is)
