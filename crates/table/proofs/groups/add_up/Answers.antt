use mathlib.Core.List.{List}
use mathlib.Core.Path.{◌≡◌, sym, ◌∙◌, ap, subst}
use Prim.Native.Nat.{ℕ, suc, ◌+◌, ◌*◌, ◌/◌, min, max, ◌≤◌, ◌<◌}
use native.Mathlib.Omega.{arith}
use lib.ListN.{get_or}
use Rattle.table.specs.Fold.{sum_to, list_to}
use Rattle.table.specs.Ranges.{streams_max, span_max}
use Rattle.table.specs.Admission.{smallest_period, parts_refusal}
use Rattle.table.specs.Groups.{quotient_at, group_at, grouped_shares}
use Rattle.table.specs.declared.Table.{Table}
use Rattle.table.proofs.Lists.{get_d_list_to}
use Rattle.table.proofs.Judged.{parts_none, numbers_of, streams_of}
use Rattle.table.proofs.Grouped.{group_share}
use Rattle.table.proofs.Gathered.{used_passed, Passed, passed_none, passed_group, passed_by, grouped_used, group_shares_high, smallest_has_largest_quotient}
use Rattle.table.proofs.groups.add_up.Goals as goal
use Rattle.table.proofs.groups.add_up.Goals.{then-budget-ne0, else-budget-ne0}

-- at a place of the eight
module _ (t : Table) (xs : List ℕ) (e : xs ≡ list_to (group_at t) streams_max) (j : ℕ) (l : j < 8) where
  here : get_or xs j 0 ≡ group_at t j
  here = ap (λ ys. get_or ys j 0) e ∙ get_d_list_to (group_at t) 0 streams_max j l

  used : (get_or xs j 0 ≡ 0 → ⊥) → j < t.count
  used some = grouped_used t j (λ none. some (here ∙ none))

  share-fits : (shares most : ℕ) → parts_refusal t ≡ 0 → (get_or xs j 0 ≡ 0 → ⊥)
      → Passed t shares most (min j t.count) → shares + get_or xs j 0 * quotient_at t j ≤ streams_max * span_max
  unfolding sum_to
  share-fits shares most parts some q =
      let none = parts_none t parts in
      let n = used_passed j t.count (used some) in
      let sum = (subst (Passed t shares most) n.0 q).sum in
      rw (here, sum, sym (group_share t j)) (group_shares_high t none.1 none.0 (suc j) (used some))

  -- with a group, and without one
  more : (shares most shares' most' larger : ℕ) → (get_or xs j 0 ≡ 0 → ⊥) → larger ≡ max most (quotient_at t j)
      → shares' ≡ shares + get_or xs j 0 * quotient_at t j → most' ≡ larger
      → Passed t shares most (min j t.count) → Passed t shares' most' (min (j + 1) t.count)
  more shares most shares' most' larger some is-larger sum is-most q = rw (sum, is-most, is-larger, here) (passed_group t shares most j (used some) q)

  same : (shares most shares' most' : ℕ) → parts_refusal t ≡ 0 → get_or xs j 0 ≡ 0 → shares' ≡ shares → most' ≡ most
      → Passed t shares most (min j t.count) → Passed t shares' most' (min (j + 1) t.count)
  same shares most shares' most' parts none sum is-most q = rw (sum, is-most) (passed_by t (parts_none t parts).1 shares most j (sym here ∙ none) q)

-- past the last place
module _ (t : Table) (parts : parts_refusal t ≡ 0) (shares most j : ℕ) (l : 8 ≤ j) (q : Passed t shares most (min j t.count)) where
  all : Passed t shares most t.count
  all = let e : min j t.count ≡ t.count = omega (arith, (numbers_of t (parts_none t parts).0).count_high) in subst (Passed t shares most) e q

  smallest : most ≡ t.span / smallest_period t
  smallest = all.largest ∙ smallest_has_largest_quotient t (parts_none t parts).0 (parts_none t parts).1

  shares_are : shares ≡ grouped_shares t
  unfolding grouped_shares
  shares_are = all.sum

pub loop-j-init : goal.loop-j-init
loop-j-init c =
    let t = c.args.judged.table in
    let none : min 0 t.count ≡ 0 = omega arith in
    rw none (passed_none t)

pub nonzero_div-quotient : goal.nonzero_div-quotient
nonzero_div-quotient c =
    let t = c.args.judged.table in
    let at = c.loop-j in
    omega (arith, streams_of t (parts_none t c.args.judged.in_order).1 at.j (used t _ c.budgets-group.ensures at.j (omega arith) c.if-budget-ne0.true))

pub overflow_add-shares : goal.overflow_add-shares
overflow_add-shares c =
    let at = c.loop-j in
    omega (arith, share-fits c.args.judged.table _ c.budgets-group.ensures at.j (omega arith) at.shares at.largest c.args.judged.in_order c.if-budget-ne0.true at.invariant)

pub overflow_mul-shares : goal.overflow_mul-shares
overflow_mul-shares c = omega (arith, overflow_add-shares c)

pub loop-j-preserved : goal.loop-j-preserved
loop-j-preserved c =
    let t = c.args.judged.table in
    let at = c.loop-j in
    let e = c.budgets-group.ensures in
    elim c.if-budget-ne0.branch [
      | then-budget-ne0 w ↦ more t _ e at.j (omega arith) at.shares at.largest c.if-budget-ne0.shares c.if-budget-ne0.largest w.max-largest.result w.if-budget-ne0.true w.max-largest.ensures w.shares-is w.largest-is at.invariant
      | else-budget-ne0 w ↦ same t _ e at.j (omega arith) at.shares at.largest c.if-budget-ne0.shares c.if-budget-ne0.largest c.args.judged.in_order w.if-budget-ne0.false w.shares-is w.largest-is at.invariant
    ]

pub returns : goal.returns
returns c =
    let at = c.loop-j in
    let j = c.args.judged in
    let past : 8 ≤ at.j = omega arith in (
      shares_are j.table j.in_order at.shares at.largest at.j past at.invariant,
      smallest j.table j.in_order at.shares at.largest at.j past at.invariant,
    )
