-- The promise is not empty on a long run either: eight streams and 240 calls, by computing. It stands here and not beside the promise, since it is the dearest computation of all.
use mathlib.Core.Bool.{Bool, true, ◌&&◌}
use mathlib.Core.Path.{◌≡◌, refl, ap, ◌∙◌}
use mathlib.Core.List.{List, [], ◌∷◌, map}
use Prim.Native.Nat.{ℕ, zero, suc, ◌+◌, ◌%◌}
use lib.ListN.{replicate}
use lib.Dec.{eqb}
use Rattle.table.specs.Fold.{if}
use Rattle.table.specs.declared.Table.{Table}
use Rattle.calls.specs.Replies.{number_of, value_of}
use Rattle.session.specs.Calls.{answer_to, after}
use Rattle.order.specs.declared.Order.TheVariants.{Sweep}
use Rattle.session.specs.Opening.{opening_of, NewlyOpened}
use Rattle.session.specs.Cases.{padded, table}
use Rattle.session.specs.History.{Moment, history_from, history_of, in_bounds, within_bounds}
use Rattle.session.specs.Promise.{OnTime}
use Rattle.session.specs.declared.Session.{Session}
use Rattle.calls.specs.declared.Call.{Call}
use Rattle.calls.specs.declared.Call.TheVariants.{Arrival, Turn, Done, Clock}
use Rattle.calls.specs.declared.Reply.{Reply}
use Rattle.session.proofs.Rules.{rules}
use Rattle.session.proofs.Promise.{promise}

-- A caller that reports a duration for what is sent, waits as long as it is told, and else brings a request or calls a turn.
abbrev eight : Table
eight =
    table 1_000 60_000 1 (replicate 8 1_000)
    (10_000 ∷ 10_000 ∷ 20_000 ∷ 20_000 ∷ 30_000 ∷ 30_000 ∷ 60_000 ∷ 60_000 ∷ [])

unfoldable next_call : ℕ → Reply → Call
next_call n r =
    if (eqb (number_of r) 21) (Done (n + 400))
    (if (eqb (number_of r) 24) (Clock (value_of r))
    (if (eqb (n % 3) 0) (Arrival (n % 8 + 1) n n) Turn))

unfoldable calls_from : ℕ → Session → Reply → List Call
calls_from zero s r = []
calls_from (suc n) s r =
    let k = next_call n r in
    let a = answer_to s k in
    k ∷ calls_from n a.session a.reply

abbrev opened : Session
opened = (opening_of eight Sweep).session

abbrev many_calls : List Call
many_calls = calls_from 240 opened (Reply.Refused 0)

-- the same run, made once for all that is asked of it: whether every answer was within bounds, and the deadlines afterwards
abbrev deadlines : Session → List ℕ
deadlines s = map (λ x. x.deadline.0) s.streams

unfoldable ran_from : ℕ → Bool → Session → Reply → Bool × List ℕ
ran_from zero within s r = (within, deadlines s)
ran_from (suc n) within s r =
    let a = answer_to s (next_call n r) in
    ran_from n (in_bounds a.reply && within) a.session a.reply

ran_within : (n : ℕ) (past : List Moment) (s : Session) (r : Reply) → within_bounds (history_from past s (calls_from n s r)) ≡ (ran_from n (within_bounds past) s r).0
unfolding history_from within_bounds calls_from ran_from
ran_within zero past s r = refl
ran_within (suc n) past s r =
    let k = next_call n r in
    let a = answer_to s k in
    ran_within n (record { before = s; call = k; answer = a } ∷ past) a.session a.reply

ran_ends : (n : ℕ) (within : Bool) (s : Session) (r : Reply) → deadlines (after s (calls_from n s r)) ≡ (ran_from n within s r).1
unfolding after calls_from ran_from
ran_ends zero within s r = refl
ran_ends (suc n) within s r =
    let a = answer_to s (next_call n r) in
    ran_ends n (in_bounds a.reply && within) a.session a.reply

abbrev closed : List ℕ
closed = 90_000 ∷ 90_000 ∷ 100_000 ∷ 100_000 ∷ 90_000 ∷ 90_000 ∷ 120_000 ∷ 120_000 ∷ []

ran : ran_from 240 true opened (Reply.Refused 0) ≡ (true, closed)
unfolding rules padded next_call ran_from
ran = refl

new : NewlyOpened eight opened
unfolding rules padded
new = record { admitted = refl; order = Sweep; made = refl }

none_past : within_bounds [] ≡ true
unfolding within_bounds
none_past = refl

many_promised : OnTime eight (after opened many_calls) (history_of opened many_calls)
many_promised =
    (promise eight opened many_calls new).1
    (ran_within 240 [] opened (Reply.Refused 0)
    ∙ ap (λ (within : Bool). (ran_from 240 within opened (Reply.Refused 0)).0) none_past
    ∙ ap (λ (b : Bool × List ℕ). b.0) ran)

-- the deadlines afterwards show how many jobs were closed: 8, 8, 4, 4, 2, 2, 1 and 1
many_closed : deadlines (after opened many_calls) ≡ closed
many_closed = ran_ends 240 true opened (Reply.Refused 0) ∙ ap (λ (b : Bool × List ℕ). b.1) ran
