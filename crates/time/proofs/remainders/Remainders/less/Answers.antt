-- `Remainders::less` takes a charge off the sum: both, and their difference, have 63 bits.
use mathlib.Core.Path.{ap, ◌∙◌}
use Prim.Native.Nat.{ℕ}
use lib.IntN.{pos, ◌-ℤ◌}
use native.Mathlib.Omega.{arith}
use borrow.Author.Rules.{rules}
use Rattle.table.proofs.Whole.{Lessened, lessened}
use Rattle.time.specs.Latest.{remainders}
use Rattle.time.proofs.remainders.Remainders.less.Goals as goal

pub overflow_sub-result : goal.overflow_sub-result
overflow_sub-result c =
    let less : Lessened c.args.self.0 c.times.result = let p = c.requires in
    let is = c.times.ensures in
    lessened _ _ (record { sfits = search rules }) (omega (arith, p.0)) (omega (arith, p.1, p.2, is)) in
    less.fits

pub returns : goal.returns
returns c =
    let less : Lessened c.args.self.0 c.times.result = let p = c.requires in
    let is = c.times.ensures in
    lessened _ _ (record { sfits = search rules }) (omega (arith, p.0)) (omega (arith, p.1, p.2, is)) in
    ap remainders (less.is ∙ ap (λ (n : ℕ). c.args.self.0 -ℤ pos n) c.times.ensures)
