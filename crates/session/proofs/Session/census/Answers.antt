use mathlib.Core.Path.{◌≡◌, sym, ap, ◌∙◌, subst}
use Prim.Native.Nat.{ℕ, suc}
use native.Mathlib.Numerals.{add-one}
use native.Mathlib.Omega.{arith}
use Rattle.std.proofs.Common.{Option, Some, None}
use Rattle.stream.specs.Search.{counted}
use Rattle.stream.specs.declared.census.Census.{Census}
use Rattle.session.specs.Session.{stream_at}
use Rattle.session.specs.Inner.{counted_on, census_to}
use Rattle.session.proofs.InUse.{used_in, used_is}
use Rattle.session.proofs.Counted.{counted_to, countable, few_counted, none_on}
use Rattle.session.proofs.Session.census.Goals as goal
use Rattle.session.proofs.Session.census.Goals.{After-begin}

-- what it begins with
begins : (c : After-begin) → c.begin.result ≡ census_to c.args.self.now 0
unfolding census_to
begins c = rw (c.begin.ensures, c.numbers.ensures)

pub returns-in_err-census : goal.returns-in_err-census
returns-in_err-census c =
    let s = c.args.self.now in
    c.from_residual.ensures ∙ sym (none_on s 0 s.count (omega arith) (sym (begins (goal.at.returns-in_err-census c).After-begin) ∙ c.in_err-census.was))

pub shared_ref_as_front-x-items : goal.shared_ref_as_front-x-items
shared_ref_as_front-x-items c = few_counted c.args.self.now _ (sym (begins (goal.at.shared_ref_as_front-x-items c).After-begin) ∙ c.in_ok-census.was)

pub loop-x-init : goal.loop-x-init
loop-x-init c = sym (begins (goal.at.loop-x-init c).After-begin) ∙ c.in_ok-census.was

pub with-requires : goal.with-requires
with-requires c =
    let s = c.args.self.now in
    let at = c.loop-x in
    let l = used_in s at.x-index c.loop-x-test.true in
    countable s at.census at.x-index (omega (arith, l)) (counted_to s at.census at.x-index at.invariant)

pub returns-in_err-census-2 : goal.returns-in_err-census-2
unfolding census_to
returns-in_err-census-2 c =
    let s = c.args.self.now in
    let at = c.loop-x in
    let fails : census_to s (suc at.x-index) ≡ None =
    ap (λ (o : Option Census). counted_on o (stream_at s at.x-index)) at.invariant
    ∙ ap (counted at.census) (sym (used_is s at.x-index c.loop-x-test.true))
    ∙ sym c.with.ensures
    ∙ c.in_err-census-2.was in
    c.from_residual-in_err-census-2.ensures ∙ sym (none_on s (suc at.x-index) s.count (used_in s at.x-index c.loop-x-test.true) fails)

pub loop-x-preserved : goal.loop-x-preserved
unfolding census_to
loop-x-preserved c =
    let s = c.args.self.now in
    let at = c.loop-x in
    let next : census_to s (suc at.x-index) ≡ Some c.in_ok-census-2.census =
    ap (λ (o : Option Census). counted_on o (stream_at s at.x-index)) at.invariant
    ∙ ap (counted at.census) (sym (used_is s at.x-index c.loop-x-test.true))
    ∙ sym c.with.ensures
    ∙ c.in_ok-census-2.was in
    subst (λ (n : ℕ). census_to s n ≡ Some c.in_ok-census-2.census) (sym (add-one at.x-index)) next
