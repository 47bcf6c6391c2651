-- What the tally has to do with the promise and with charges.
use mathlib.Core.Bool.{Bool, true, false}
use mathlib.Core.List.{List, [], ◌∷◌, ◌++◌}
use mathlib.Core.Logic.{◌⊎◌, inl, inr}
use mathlib.Core.Path.{◌≡◌, refl, ap, subst}
use Prim.Native.Nat.{ℕ, suc, ◌+◌, ◌*◌, ◌≤◌, ◌<◌}
use native.Mathlib.Omega.{arith}
use borrow.Author.Tests.{le-ltb, eqb-true}
use Rattle.table.proofs.Tests.{both as both_true, le_or_lt}
use Rattle.table.specs.Fold.{if}
use Rattle.table.specs.declared.Table.{Table}
use Rattle.calls.specs.Replies.{number_of}
use Rattle.session.specs.Session.{stream_at}
use Rattle.session.specs.History.{Moment, closes, closings, replied, reported, expiry, added_of, since_closing, history_of}
use Rattle.session.proofs.Promise.{promise}
use Rattle.session.proofs.Carried.{charge_is_sum}
use Rattle.counts.specs.Tally.{together, closes_late, added, tally_of}
use Rattle.counts.specs.Laws.{Reported, JobsAreClosings, LargestIsReported, NoneIsLate, ChargesAddUp, closed_sum, closed_charges, closed_starts}

-- each closing is a job
pub jobs_are_closings : JobsAreClosings
unfolding tally_of together added closings if
jobs_are_closings i [] = refl
jobs_are_closings i (m ∷ past) = rw (jobs_are_closings i past) (go (closes i m))
  where
    go : (b : Bool) → closings i past + if b 1 0 ≡ if b (suc (closings i past)) (closings i past)
    go true = omega arith
    go false = omega arith

-- the largest is one of the completions, and no smaller than any
largest_among : (i : ℕ) (past : List Moment) → ((tally_of i past).largest ≡ 0) ⊎ Reported i (tally_of i past).largest past
unfolding tally_of together added
largest_among i [] = inl refl
largest_among i (m ∷ past) = go (largest_among i past) (le_or_lt (tally_of i past).largest (reported i m))
  where
    go : ((tally_of i past).largest ≡ 0) ⊎ Reported i (tally_of i past).largest past
        → ((tally_of i past).largest ≤ reported i m) ⊎ (reported i m < (tally_of i past).largest)
        → ((tally_of i (m ∷ past)).largest ≡ 0) ⊎ Reported i (tally_of i (m ∷ past)).largest (m ∷ past)
    go k (inl here) = inr (record { later = []; m = m; earlier = past; stands = refl; is = omega (arith, here) })
    go (inl none) (inr before) = absurd (let never : reported i m < 0 = rw none at before in omega arith)
    go (inr k) (inr before) =
        inr
        (record {
          later = m ∷ k.later;
          m = k.m;
          earlier = k.earlier;
          stands = ap (λ (l : List Moment). m ∷ l) k.stands;
          is = omega (arith, k.is, before);
        })

largest_low : (i : ℕ) (later : List Moment) (m : Moment) (earlier : List Moment) → reported i m ≤ (tally_of i (later ++ (m ∷ earlier))).largest
unfolding tally_of together added
largest_low i [] m earlier = omega arith
largest_low i (n ∷ later) m earlier = omega (arith, largest_low i later m earlier)

pub largest_is_reported : LargestIsReported
largest_is_reported i past =
    (largest_among i past, λ later m earlier e. subst (λ (l : List Moment). reported i m ≤ (tally_of i l).largest) e (largest_low i later m earlier))

-- what a test does not pass is not counted
counted_none : (b : Bool) → b ≡ false → 0 + if b 1 0 ≡ 0
unfolding if
counted_none b e = rw e

-- a history in which every closing of stream i was in time counts none late
none_late : (i : ℕ) (past : List Moment)
    → ((later : List Moment) (m : Moment) (earlier : List Moment) → later ++ (m ∷ earlier) ≡ past → closes i m ≡ true
    → m.before.clock.0 ≤ (stream_at m.before i).deadline.0)
    → (tally_of i past).late ≡ 0
unfolding tally_of together added if
none_late i [] h = refl
none_late i (m ∷ past) h = rw (none_late i past (λ later n earlier e. h (m ∷ later) n earlier (ap (λ (l : List Moment). m ∷ l) e))) (go (closes i m) refl)
  where
    go : (b : Bool) → closes i m ≡ b → 0 + if (closes_late i m) 1 0 ≡ 0
    go true e = rw e (counted_none _ (le-ltb _ _ (h [] m past refl e)))
    go false e = rw e

pub none_is_late : NoneIsLate
none_is_late t s calls new within i l =
    none_late i (history_of s calls) (λ later m earlier e closing. (((promise t s calls new).1 within).closed_jobs later m earlier e i l closing).in_time)

-- a call that closes a job reports nothing and loses nothing
closing_only : (i : ℕ) (m : Moment) → closes i m ≡ true → (reported i m ≡ 0) × (expiry i m ≡ 0)
unfolding if
closing_only i m e =
    let moved : number_of m.answer.reply ≡ 23 = eqb-true _ 23 (both_true (replied 23 m) _ e).0 in
    (rw moved, rw moved)

-- what is counted and what is charged, over a history whose closed jobs were charged what they started with and what it adds
abbrev Sums : Table → ℕ → List Moment → Type 0
Sums t i past =
    (later : List Moment) (m : Moment) (earlier : List Moment) → later ++ (m ∷ earlier) ≡ past → closes i m ≡ true
    → (stream_at m.before i).charge.0 ≡ (stream_at m.before i).start.0 + added_of t i earlier

abbrev AddUp : Table → ℕ → List Moment → Type 0
AddUp t i past =
    (tally_of i past).time + t.worst * (tally_of i past).expired + closed_starts i past ≡ closed_charges i past + added_of t i past

charges : (t : Table) (i : ℕ) (past : List Moment) → Sums t i past → AddUp t i past
unfolding tally_of together added closed_sum added_of since_closing if
charges t i [] h = omega arith
charges t i (m ∷ past) h =
    go (closes i m) refl (charges t i past (λ later n earlier e. h (m ∷ later) n earlier (ap (λ (l : List Moment). m ∷ l) e)))
  where
    go : (b : Bool) → closes i m ≡ b → AddUp t i past → AddUp t i (m ∷ past)
    go true e before =
        let only = closing_only i m e in
        rw (e, only.0, only.1) (omega (arith, before, h [] m past refl e))
    go false e before = rw e (omega (arith, before))

pub charges_add_up : ChargesAddUp
charges_add_up t s calls new i l =
    let sums = charge_is_sum t s calls new in
    omega (
      arith,
      sums.0 i l,
      charges t i (history_of s calls) (λ later m earlier e closing. sums.1 later m earlier e i l closing),
    )
