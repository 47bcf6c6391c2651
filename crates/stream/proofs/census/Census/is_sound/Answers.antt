-- `Census::is_sound` tests the load, whose sums are small where all streams are in order, then the margin that it leaves, the horizon and the sum of the remainders.
use mathlib.Core.Bool.{Bool, false, ◌&&◌}
use mathlib.Core.Path.{◌≡◌}
use Prim.Native.Nat.{◌-◌, ◌≤◌, ◌<◌}
use lib.Dec.{eqb}
use borrow.Author.Rules.{rules}
use lib.IntN.{ℤ, pos}
use borrow.Author.Tests.{le-leb, lt-leb}
use Rattle.table.specs.Whole.{eq_z}
use Rattle.table.proofs.Whole.{less_left}
use Rattle.stream.specs.Search.{load_so, remainders_so, says}
use Rattle.stream.specs.declared.census.Census.{Census}
use Rattle.stream.proofs.census.Census.is_sound.Goals as goal

-- a load above the span fails
load-fails : (c : Census) (margin sum : ℤ) → c.numbers.span < load_so c → false ≡ says c margin sum
unfolding says
load-fails c margin sum over = rw (lt-leb (load_so c) c.numbers.span over)

pub returns-then-span-load : goal.returns-then-span-load
returns-then-span-load c =
    let a = c.args in
    load-fails a.self a.margin.0 a.remainders.0 c.if-span-load.true

-- else margin, horizon and sum decide
three-tests : (c : Census) (margin sum : ℤ) (left soonest summed : Bool) → load_so c ≤ c.numbers.span
    → left ≡ eq_z margin (pos (c.numbers.span - load_so c)) → soonest ≡ eqb c.horizon.0 c.soonest.0 → summed ≡ eq_z sum (remainders_so c.sums c.numbers.span)
    → (left && soonest && summed) ≡ says c margin sum
unfolding says
three-tests c margin sum left soonest summed fits l h s =
    rw (le-leb (load_so c) c.numbers.span fits, less_left c.numbers.span (load_so c) fits, l, h, s)

pub returns : goal.returns
unfolding eq_z
returns c =
    let a = c.args in
    three-tests a.self a.margin.0 a.remainders.0 c.is_left-left.result c.eq-soonest.result c.eq-summed.result
    c.if-span-load.false
    c.is_left-left.ensures
    c.eq-soonest.ensures
    (let same : c.eq-summed.result ≡ eq_z a.remainders.0 c.remainders.result.0 = search rules in rw c.remainders.ensures at same)
