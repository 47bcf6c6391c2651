-- `Judged::load` gives the shares by groups, and W times the largest quotient: the load (`load_by_groups`).
use mathlib.Core.Path.{◌≡◌}
use Prim.Native.Nat.{ℕ, ◌+◌, ◌*◌, ◌/◌, ◌≤◌}
use native.Mathlib.Nat.{mul-le-mul, div-le_self, le_trans}
use native.Mathlib.Omega.{arith}
use Rattle.table.specs.Ranges.{streams_max, worst_max, span_max}
use Rattle.table.specs.Admission.{smallest_period, parts_refusal, load_of}
use Rattle.table.specs.Groups.{grouped_shares, grouped_load}
use Rattle.table.specs.declared.Table.{Table}
use Rattle.table.proofs.Judged.{parts_none, numbers_of, shares_high}
use Rattle.table.proofs.Grouped.{grouped_shares_lem, load_by_groups}
use Rattle.table.proofs.parts.Judged.load.Goals as goal

module _ (t : Table) (parts : parts_refusal t ≡ 0) (shares most : ℕ) (sum : shares ≡ grouped_shares t) (largest : most ≡ t.span / smallest_period t) where
  blocking-fits : t.worst * most ≤ worst_max * span_max
  blocking-fits =
      let n = numbers_of t (parts_none t parts).0 in
      mul-le-mul {m₂ = span_max} n.worst_high (rw largest (le_trans (div-le_self t.span (smallest_period t)) n.span_high))

  load_fits : shares + t.worst * most ≤ (streams_max + worst_max) * span_max
  load_fits =
      let none = parts_none t parts in
      omega (arith, blocking-fits, sum, grouped_shares_lem t, shares_high t none.0 none.1)

  whole : shares + t.worst * most ≡ load_of t
  unfolding grouped_load
  whole = rw (sum, largest) (load_by_groups t)

pub overflow_add-result : goal.overflow_add-result
overflow_add-result c =
    let s = c.add_up-sums in
    let j = c.args.self in
    omega (arith, load_fits j.table j.in_order s.result.shares s.result.largest s.ensures.0 s.ensures.1)

pub returns : goal.returns
returns c =
    let s = c.add_up-sums in
    let j = c.args.self in
    whole j.table j.in_order s.result.shares s.result.largest s.ensures.0 s.ensures.1
