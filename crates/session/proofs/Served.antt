-- The requests that a card can count on: within bounds, the completions and the expired slots of a closed job come to at least g / W.
use mathlib.Core.Bool.{Bool, true, false}
use mathlib.Core.List.{List, [], ◌∷◌}
use mathlib.Core.Path.{◌≡◌}
use Prim.Native.Nat.{ℕ, ◌+◌, ◌*◌, ◌/◌, ◌≤◌, ◌<◌}
use native.Mathlib.Nat.{div-lt_iff_lt-mul}
use native.Mathlib.Omega.{arith}
use Rattle.table.specs.Fold.{if}
use Rattle.table.specs.declared.Table.{Table}
use Rattle.table.proofs.Tests.{both}
use Rattle.table.proofs.Judged.{admits_of}
use Rattle.session.specs.Session.{stream_at}
use Rattle.session.specs.History.{Moment, history_of, in_bounds, within_bounds, closes, since_closing, reported, expiry, added_of, budget_of}
use Rattle.session.specs.Promise.{completion, RequestsServed}
use Rattle.session.proofs.Promise.{AllLawful, lawful_from, within_before, promise}
use Rattle.session.proofs.Within.{within_never}
use Rattle.session.proofs.Carried.{nothing_is_carried}

-- what is reported for a job, within bounds, is at most W for each of its completions
sum_at_most : (b : Bool) (lasted ended lasted-before ended-before worst : ℕ) → lasted ≤ worst * ended → lasted-before ≤ worst * ended-before
    → if b 0 (lasted + lasted-before) ≤ worst * if b 0 (ended + ended-before)
unfolding if
sum_at_most true lasted ended lasted-before ended-before worst now before = omega arith
sum_at_most false lasted ended lasted-before ended-before worst now before = omega arith

reported_most : (t : Table) (i : ℕ) (past : List Moment) → AllLawful t past → within_bounds past ≡ true
    → since_closing reported i past ≤ t.worst * since_closing completion i past
unfolding within_bounds since_closing
reported_most t i [] lawful within = omega arith
reported_most t i (m ∷ past) lawful within =
    let parts = both (in_bounds m.answer.reply) (within_bounds past) within in
    sum_at_most (closes i m) (reported i m) (completion i m) (since_closing reported i past) (since_closing completion i past) t.worst
    (lawful.0.short parts.0 i) (reported_most t i past lawful.1 parts.1)

-- with W for each expired slot that is more than g less W, so they are at least g / W
enough : (budget charge worst lasted ended lost : ℕ) → 0 < worst → budget < charge + worst → charge ≡ lasted + worst * lost → lasted ≤ worst * ended
    → budget / worst ≤ ended + lost
enough budget charge worst lasted ended lost pos more made most =
    let below : budget / worst < ended + lost + 1 = (div-lt_iff_lt-mul pos).1 (omega arith) in omega arith

pub requests_served : RequestsServed
unfolding added_of
requests_served t s calls new within later m earlier e i l closing =
    let made = ((nothing_is_carried t s calls new (within_never (history_of s calls) within).0).1 later m earlier e i l closing).sum in
    let more = (((promise t s calls new).1 within).closed_jobs later m earlier e i l closing).more_than in
    enough (budget_of t i) (stream_at m.before i).charge.0 t.worst
    (since_closing reported i earlier) (since_closing completion i earlier) (since_closing expiry i earlier)
    (omega (arith, (admits_of t new.admitted).numbers.worst_low)) more made
    (reported_most t i earlier (lawful_from t s calls new later m earlier e).1 (within_before t s calls new later m earlier e within))
