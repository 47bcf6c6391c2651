use mathlib.Core.List.{List}
use mathlib.Core.Path.{◌≡◌, subst}
use Prim.Native.Nat.{ℕ, ◌+◌, min, ◌≤◌, ◌<◌}
use native.Mathlib.Omega.{arith}
use lib.ListN.{get_or, set}
use Rattle.table.specs.Admission.{period_at}
use Rattle.table.specs.Groups.{granted_at, first_with}
use Rattle.table.specs.declared.Table.{Table}
use Rattle.table.proofs.Judged.{numbers_of, parts_none}
use Rattle.table.proofs.Grouped.{first_with_low}
use Rattle.table.proofs.Gathered.{used_passed, unused_passed, Added, added_none, added_more, added_all, budgets_fit}
use Rattle.table.proofs.groups.budgets.Goals as goal
use Rattle.table.proofs.groups.budgets.Goals.{then-i-t, else-i-t}

-- where a group stands is one of the eight places
placed : (t : Table) (i first : ℕ) → i < 8 → first ≡ first_with (period_at t) i → first < 8
placed t i first l e = omega (arith, e, first_with_low (period_at t) i)

-- a used stream is added, and an unused one changes nothing
joined : (t : Table) (xs ys : List ℕ) (i first g : ℕ) → i < 8 → i < t.count → first ≡ first_with (period_at t) i → g ≡ granted_at t i
    → ys ≡ set xs first (get_or xs first 0 + g) → Added t xs (min i t.count) → Added t ys (min (i + 1) t.count)
joined t xs ys i first g l used at budget set q =
    let n = used_passed i t.count used in
    rw (n.1, set, at, budget) (added_more t xs i l (subst (Added t xs) n.0 q))

passed_over : (t : Table) (xs ys : List ℕ) (i : ℕ) → t.count ≤ i → ys ≡ xs → Added t xs (min i t.count) → Added t ys (min (i + 1) t.count)
passed_over t xs ys i unused same q = rw (unused_passed i t.count unused, same) q

pub loop-i-init : goal.loop-i-init
loop-i-init c =
    let t = c.args.judged.table in
    let none : min 0 t.count ≡ 0 = omega arith in
    rw none (added_none t)

pub bounds-budget-first : goal.bounds-budget-first
bounds-budget-first c =
    placed c.args.judged.table c.loop-i.i c.first_with-first.result (omega arith) c.first_with-first.ensures

pub offset_bounds-budget-first : goal.offset_bounds-budget-first
offset_bounds-budget-first c = omega (arith, bounds-budget-first c)

pub bounds-budget-first-then-i-t : goal.bounds-budget-first-then-i-t
bounds-budget-first-then-i-t c =
    placed c.args.judged.table c.loop-i.i c.first_with-first.result (omega arith) c.first_with-first.ensures

pub overflow_add-budget : goal.overflow_add-budget
overflow_add-budget c =
    let at = c.loop-i in
    let t = c.args.judged.table in
    let parts = parts_none t c.args.judged.in_order in
    let g = rw c.numbers-numbers.ensures at c.granted.ensures in
    omega (arith, g, budgets_fit t parts.1 at.budget (min at.i t.count) c.first_with-first.result at.i (omega arith) (omega arith) (placed t at.i c.first_with-first.result (omega arith) c.first_with-first.ensures) (omega arith) at.invariant)

pub loop-i-preserved : goal.loop-i-preserved
loop-i-preserved c =
    let t = c.args.judged.table in
    let at = c.loop-i in
    elim c.if-i-t.branch [
      | then-i-t w ↦ joined t at.budget c.if-i-t.budget at.i w.first_with-first.result w.granted.result (omega arith) w.if-i-t.true w.first_with-first.ensures (rw c.numbers-numbers.ensures at w.granted.ensures) w.budget-is at.invariant
      | else-i-t w ↦ passed_over t at.budget c.if-i-t.budget at.i w.if-i-t.false w.budget-is at.invariant
    ]

pub returns : goal.returns
returns c =
    let t = c.args.judged.table in
    let at = c.loop-i in
    let numbers = numbers_of t (parts_none t c.args.judged.in_order).0 in
    let all : min at.i t.count ≡ t.count = omega (arith, numbers.count_high) in
    added_all t at.budget (subst (Added t at.budget) all at.invariant)
