-- What a job starts with: the overrun of the one before it, and nothing while no completion ran over.
use mathlib.Core.Bool.{true, not}
use mathlib.Core.List.{List, [], ◌∷◌}
use mathlib.Core.Path.{◌≡◌, refl, sym, ◌∙◌, ap}
use Prim.Native.Nat.{ℕ, ◌+◌, ◌<◌}
use native.Mathlib.Omega.{arith}
use Rattle.table.specs.declared.Table.{Table}
use Rattle.table.proofs.Tests.{both, by_if}
use Rattle.time.specs.declared.Charge.{Charge}
use Rattle.stream.specs.Stream.{carry}
use Rattle.stream.specs.declared.Job.{Job}
use Rattle.session.specs.Session.{stream_at}
use Rattle.session.specs.History.{Moment, history_of, within_bounds, replied, never, closes, added_of, budget_of, start_of, charge_of}
use Rattle.session.specs.Laws.{StartIsInCharge, ChargeIsSum, OverrunIsCarried, NothingIsCarried, BoundsAreTwo}
use Rattle.session.proofs.Promise.{AllLawful, all_lawful, lawful_from, never_before, open_charge, open_start}
use Rattle.session.proofs.Sound.{sound_of}
use Rattle.session.proofs.Within.{within_never}

pub start_is_in_charge : StartIsInCharge
start_is_in_charge s ok i l = ((sound_of s ok).fit.used.each i l).covered

pub charge_is_sum : ChargeIsSum
unfolding charge_of
charge_is_sum t s calls new = (
  λ i l. omega (arith, open_charge t s calls new i l, open_start t s calls new i l),
  λ later m earlier e i l closing.
      let lawful = (lawful_from t s calls new later m earlier e).0 in
      let told = (lawful.closing i l closing).0 in
      let start : (stream_at m.before i).start.0 ≡ start_of t i earlier =
      ap (λ (c : Charge). c.0) (sym (lawful.handing i l closing).recorded ∙ ap (λ (j : Job). j.start) told.recorded) in
      omega (arith, told.made_of, start),
)

pub overrun_is_carried : OverrunIsCarried
overrun_is_carried t s calls new later m earlier e = (lawful_from t s calls new later m earlier e).0.handing

-- the two bounds of the promise, one by one and together
pub bounds_are_two : BoundsAreTwo
unfolding within_bounds never
bounds_are_two past = (within_never past, go past)
  where
    go : (past : List Moment) → (never 26 past ≡ true) × (never 28 past ≡ true) → within_bounds past ≡ true
    go [] none = refl
    go (m ∷ past) none =
        let short = both (not (replied 26 m)) (never 26 past) none.0 in
        let early = both (not (replied 28 m)) (never 28 past) none.1 in
        rw (short.0, early.0, go past (short.1, early.1))

-- a closed job that was charged at most its budget hands on nothing, so that no job starts with any
nothing_started : (t : Table) (i : ℕ) → i < t.count → (past : List Moment) → AllLawful t past → never 26 past ≡ true → start_of t i past ≡ 0
unfolding start_of charge_of never
nothing_started t i l [] lawful short = refl
nothing_started t i l (m ∷ past) lawful short =
    let before = (both (not (replied 26 m)) (never 26 past) short).1 in
    by_if (λ (n : ℕ). n ≡ 0) (closes i m) (carry (start_of t i past + added_of t i past) (budget_of t i)) (start_of t i past)
    (λ e. omega (arith, (lawful.0.closing i l e).0.made_of, lawful.0.sparing i l e before))
    (λ e. nothing_started t i l past lawful.1 before)

pub nothing_is_carried : NothingIsCarried
nothing_is_carried t s calls new short = (
  λ i l. open_start t s calls new i l ∙ nothing_started t i l (history_of s calls) (all_lawful t s calls new) short,
  λ later m earlier e i l closing.
      let lawful = lawful_from t s calls new later m earlier e in
      let none = nothing_started t i l earlier lawful.1 (never_before t s calls new 26 later m earlier e short) in
      let recorded = ap (λ (j : Job). j.start.0) (lawful.0.closing i l closing).0.recorded ∙ none in
      let start = ap (λ (c : Charge). c.0) (lawful.0.handing i l closing).recorded in
      record { recorded = recorded; sum = omega (arith, (charge_is_sum t s calls new).1 later m earlier e i l closing, recorded, start) },
)
