-- `fresh` gives a fresh session: its horizon is the smallest period, and its sum comes from the load.
use mathlib.Core.Path.{◌≡◌, ap, ap₂, ◌∙◌}
use Prim.Native.Nat.{ℕ, ◌-◌, ◌*◌, ◌≤◌}
use native.Mathlib.Omega.{arith}
use lib.IntN.{pos, ◌-ℤ◌}
use Rattle.table.specs.Admission.{load_of}
use Rattle.table.specs.Margin.{margin, left_of}
use Rattle.table.proofs.Judged.{admits_of}
use Rattle.table.specs.declared.Table.{Table}
use Rattle.order.specs.declared.Order.{Order}
use Rattle.time.specs.Time.{moment}
use Rattle.time.specs.Latest.{remainders}
use Rattle.time.specs.declared.Charge.{Charge}
use Rattle.time.specs.declared.Clock.{Clock}
use Rattle.session.specs.Session.{horizon, remainders_of}
use Rattle.session.specs.Opening.{opened_session, fresh_session}
use Rattle.session.proofs.Sound.{bookkept}
use Rattle.session.proofs.Openings.{opened_fit, opened_sum, margin_left, opening_fits}
use Rattle.session.proofs.fresh.Goals as goal
use Rattle.session.proofs.fresh.Goals.{After-left, After-soonest-h}

pub opened_streams-requires : goal.opened_streams-requires
opened_streams-requires c = (admits_of c.args.t c.requires.0).numbers.count_high

pub soonest-h-requires : goal.soonest-h-requires
soonest-h-requires c =
    let t = c.args.t in
    let order = c.args.order in
    let pre = c.requires in
    let fit = opened_fit t order pre.0 in
    rw (c.default.ensures, c.at-start.ensures, c.opened_streams.ensures, ap margin pre.1)
    (bookkept (opened_session t order) fit.used)

-- the horizon is that of the streams
soonest_is : (c : After-soonest-h) → c.soonest-h.result ≡ moment (horizon (opened_session c.args.t c.args.order))
soonest_is c =
    rw (
      c.soonest-h.ensures,
      c.default.ensures,
      c.at-start.ensures,
      c.opened_streams.ensures,
      ap margin c.requires.1,
    )

-- what the margin leaves of the span is the load
left_is : (c : After-left) → c.left.result ≡ c.args.t.span - load_of c.args.t
left_is c = c.left.ensures ∙ ap left_of c.requires.1 ∙ margin_left c.args.t c.args.order c.requires.0

-- so the first sum is the horizon times the load
product_is : (t : Table) (order : Order) (soonest : Clock) (left micros : ℕ) → load_of t ≤ t.span → soonest ≡ moment (horizon (opened_session t order)) → left ≡ t.span - load_of t
    → micros ≡ soonest.0 → micros * (t.span - left) ≡ horizon (opened_session t order) * load_of t
product_is t order soonest left micros fits soonest-is left-is micros-is =
    let load-is : t.span - left ≡ load_of t = omega (arith, left-is) in
    ap₂ ◌*◌ (micros-is ∙ ap (λ (h : Clock). h.0) soonest-is) load-is

pub overflow_sub-load : goal.overflow_sub-load
overflow_sub-load c = omega (arith, left_is (goal.at.overflow_sub-load c).After-left)

pub overflow_mul-micros : goal.overflow_mul-micros
overflow_mul-micros c =
    let at = goal.at.overflow_mul-micros c in
    let fits = opening_fits c.args.t c.args.order c.requires.0 in
    rw (product_is c.args.t c.args.order _ _ _ fits.0 (soonest_is at.After-soonest-h) (left_is at.After-left) c.micros.ensures) (record { fits = omega (arith, fits.1) })

pub of-sum-requires : goal.of-sum-requires
of-sum-requires c =
    let at = goal.at.of-sum-requires c in
    let fits = opening_fits c.args.t c.args.order c.requires.0 in
    rw (
      product_is c.args.t c.args.order _ _ _ fits.0 (soonest_is at.After-soonest-h) (left_is at.After-left) c.micros.ensures,
      ap (λ (d : Charge). d.0) c.of-blocking.ensures,
    )
    (fits.1, fits.2)

pub returns : goal.returns
unfolding fresh_session
returns c =
    let at = goal.at.returns c in
    let fits = opening_fits c.args.t c.args.order c.requires.0 in
    let soonest-is = soonest_is at.After-soonest-h in
    let product-is = product_is c.args.t c.args.order _ _ _ fits.0 soonest-is (left_is at.After-left) c.micros.ensures in
    let sum_is : c.of-sum.result ≡ remainders (remainders_of (opened_session c.args.t c.args.order)) =
    c.of-sum.ensures
    ∙ ap₂ (λ (n m : ℕ). remainders (pos n -ℤ pos (m * c.args.t.span))) product-is (ap (λ (d : Charge). d.0) c.of-blocking.ensures)
    ∙ ap remainders (opened_sum c.args.t c.args.order c.requires.0) in
    rw (
      sum_is,
      soonest-is,
      c.at-start.ensures,
      c.opened_streams.ensures,
      ap margin c.requires.1,
    )
