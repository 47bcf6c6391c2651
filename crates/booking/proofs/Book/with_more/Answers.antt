-- `Book::with_more` gives 31, 30, 1, 5, 6, 18 and 7 in their order, and else the desk with the stream: each way out cites the refusal that is reached there.
use mathlib.Core.Bool.{true}
use mathlib.Core.Path.{◌≡◌, sym, ◌∙◌, ap}
use Prim.Native.Nat.{ℕ, ◌≤◌, ◌<◌}
use native.Mathlib.Omega.{arith}
use Rattle.std.proofs.Common.{Result}
use Rattle.std.proofs.lemmas.Result.{err_from_is_err_and}
use Rattle.table.specs.Ranges.{streams_max}
use Rattle.table.specs.Admission.{stream_refusal, judged_shares}
use Rattle.table.specs.Margin.{answer_of, number_in}
use Rattle.table.specs.declared.Table.{Table}
use Rattle.table.specs.declared.margin.Margin.{Margin}
use Rattle.table.specs.declared.refusal.Refusal.{Refusal}
use Rattle.table.proofs.Margins.{refusal_some as table_some, stream_told, answer_carries_margin}
use Rattle.booking.specs.Book.{desk_of, with_desk, streams_of, count_in, table_with, table_in, shares_in, sound_cells}
use Rattle.booking.specs.Bookings.{with_stream, added, desk_refusal, add_refusal}
use Rattle.booking.specs.declared.Desk.{Desk}
use Rattle.booking.specs.declared.Book.{Book}
use Rattle.booking.proofs.Cells.{cells_of}
use Rattle.booking.proofs.Desks.{desk_count}
use Rattle.booking.proofs.Sound.{Sound, own_sound, added_cells, added_parts, added_shares}
use Rattle.booking.proofs.Refusals.{refusal_some, past_desk, add_at_desk, add_at_full, add_at_stream, add_at_limit, add_at_admission}
use Rattle.booking.proofs.Book.with_more.Goals as goal
use Rattle.booking.proofs.Book.with_more.Goals.{After-with_stream-own}

pub returns-in_err-old-clause-number : goal.returns-in_err-old-clause-number
returns-in_err-old-clause-number c =
    let p = err_from_is_err_and c.from_residual.result c.from_residual.ensures.1 in
    let h = c.in_err-old.ensures.number in
    rw (p.1, p.2) (add_at_desk _ _ _ _ _ h (refusal_some _))

pub count-requires : goal.count-requires
count-requires c =
    let s = past_desk c.args.self c.args.desk (sym c.in_ok-old.ensures.number) in
    ((cells_of _ s.first).count_high, (cells_of _ s.second).count_high)

pub returns-then-count-ge-STREAMS_MAX-clause-number : goal.returns-then-count-ge-STREAMS_MAX-clause-number
returns-then-count-ge-STREAMS_MAX-clause-number c =
    add_at_full _ _ _ _ (sym c.in_ok-old.ensures.number) (rw c.count.ensures at c.if-count-ge-STREAMS_MAX.true)

pub returns-in_err-stream_refusal-clause-number : goal.returns-in_err-stream_refusal-clause-number
returns-in_err-stream_refusal-clause-number c =
    let p = err_from_is_err_and c.from_residual-in_err-stream_refusal.result c.from_residual-in_err-stream_refusal.ensures.1 in
    let space = rw c.count.ensures at c.if-count-ge-STREAMS_MAX.false in
    let told = stream_told _ _ _ _ _ _ (rw c.numbers.ensures at c.in_err-stream_refusal.ensures) in
    rw (p.1, p.2) (add_at_stream _ _ _ _ (sym c.in_ok-old.ensures.number) space _ told (table_some _))

-- what is known past 5 and 6: a sound table, with space, a stream in order, and the desk with it
record Fitting (b : Book) (desk e p : ℕ) (own : Desk) : Type 0 where
  none : desk_refusal b desk ≡ 0
  space : count_in b < streams_max
  fits : stream_refusal b.worst b.span b.padding e p ≡ 0
  is : own ≡ with_stream (desk_of b desk) e p

fitting : (c : After-with_stream-own) → let a = c.args in Fitting a.self a.desk a.stream.reserved a.stream.period c.with_stream-own.result
fitting c =
    let a = c.args in
    record {
      none = sym c.in_ok-old.ensures.number;
      space = rw c.count.ensures at c.if-count-ge-STREAMS_MAX.false;
      fits = sym (stream_told _ _ _ _ _ _ (rw c.numbers.ensures at c.in_ok-stream_refusal.ensures));
      is = c.with_stream-own.ensures ∙ ap (λ (d : Desk). with_stream d a.stream.reserved a.stream.period) c.in_ok-old.ensures.value;
    }

module _ (b : Book) (desk e p : ℕ) (own : Desk) (q : Fitting b desk e p own) where
  sound : Sound b
  sound = past_desk b desk q.none

  cells : sound_cells own ≡ true
  cells = rw q.is (own_sound b sound desk e p q.space)

  -- its shares
  told-shares : (shares : ℕ) → shares ≡ judged_shares (table_with b (streams_of own)) → shares ≡ shares_in b (with_stream (desk_of b desk) e p)
  told-shares shares is = is ∙ ap (λ (d : Desk). judged_shares (table_with b (streams_of d))) q.is ∙ added_shares b sound desk e p q.space q.fits

  limit : own.limit ≡ (with_stream (desk_of b desk) e p).limit
  limit = ap (λ (d : Desk). d.limit) q.is

  -- the table with the stream
  module _ (next : Book) (more : next ≡ with_desk b desk own) where
    next_is : next ≡ added b desk e p
    next_is = more ∙ ap (with_desk b desk) q.is

    next_cells : (sound_cells next.first ≡ true) × (sound_cells next.second ≡ true) × (count_in next ≤ streams_max)
    next_cells =
        let s = added_cells b sound desk e p q.space in
        let space = q.space in
        rw next_is (s.0, s.1, omega (arith, s.2, space))

    -- and what it is refused by
    next_refused : (t : Table) → t ≡ table_in next → (shares : ℕ) → shares ≡ judged_shares (table_with b (streams_of own)) → shares ≤ own.limit
        → (answer : Result Margin Refusal) → answer ≡ answer_of t → number_in answer ≡ add_refusal b desk e p
    next_refused t is shares told kept answer told-answer =
        let all = is ∙ ap (λ (x : Book). table_in x) next_is in
        let same = told-shares shares told in
        let kept-limit : shares_in b (with_stream (desk_of b desk) e p) ≤ (with_stream (desk_of b desk) e p).limit = omega (arith, kept, same, limit) in
        ap number_in (told-answer ∙ ap answer_of all)
        ∙ (answer_carries_margin (table_in (added b desk e p))).0
        ∙ add_at_admission b desk e p q.none q.space q.fits kept-limit (added_parts b sound desk e p q.space q.fits)

pub with_stream-own-requires : goal.with_stream-own-requires
with_stream-own-requires c =
    let a = c.args in
    let space : count_in a.self < streams_max = rw c.count.ensures at c.if-count-ge-STREAMS_MAX.false in
    rw c.in_ok-old.ensures.value (omega (arith, space, desk_count a.self a.desk))

pub shares-requires : goal.shares-requires
shares-requires c = cells _ _ _ _ _ (fitting c)

pub returns-then-own-shares-clause-number : goal.returns-then-own-shares-clause-number
returns-then-own-shares-clause-number c =
    let q = fitting c.before.before.before in
    let same = told-shares _ _ _ _ _ q c.shares.result c.shares.ensures in
    add_at_limit _ _ _ _ q.none q.space q.fits (omega (arith, c.if-own-shares.true, same, limit _ _ _ _ _ q))

pub table-requires : goal.table-requires
table-requires c = next_cells _ _ _ _ _ (fitting c.before.before.before.before) _ c.with_desk.ensures

pub returns-in_err-admission-clause-number : goal.returns-in_err-admission-clause-number
returns-in_err-admission-clause-number c =
    let r = err_from_is_err_and c.from_residual-in_err-admission.result c.from_residual-in_err-admission.ensures.1 in
    let q = fitting c.before.before.before.before.before.before.before.before.before in
    rw (r.1, r.2)
    (next_refused _ _ _ _ _ q _ c.with_desk.ensures _ c.table.ensures _ c.shares.ensures c.if-own-shares.false _ (sym c.in_err-admission.was ∙ c.admission.ensures))

pub returns-clause-number : goal.returns-clause-number
returns-clause-number c =
    let q = fitting c.before.before.before.before.before.before.before.before in
    next_refused _ _ _ _ _ q _ c.with_desk.ensures _ c.table.ensures _ c.shares.ensures c.if-own-shares.false _ (sym c.in_ok-admission.was ∙ c.admission.ensures)
