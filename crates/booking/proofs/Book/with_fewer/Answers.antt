-- `Book::with_fewer` gives 31, 30 and 19 in their order, and else the desk without the stream.
use mathlib.Core.Path.{sym, ◌∙◌}
use Rattle.std.proofs.lemmas.Result.{err_from_is_err_and}
use Rattle.table.specs.Refusal.{given, ◌or_next◌, outside}
use Rattle.table.proofs.Tests.{or_next_first, within}
use Rattle.booking.specs.Bookings.{withdraw_refusal}
use Rattle.booking.proofs.Refusals.{refusal_some, past_desk}
use Rattle.booking.proofs.Cells.{cells_of}
use Rattle.booking.proofs.Sound.{desk_sound}
use Rattle.booking.proofs.Book.with_fewer.Goals as goal

pub returns-in_err-old-clause-number : goal.returns-in_err-old-clause-number
unfolding withdraw_refusal
returns-in_err-old-clause-number c =
    let p = err_from_is_err_and c.from_residual.result c.from_residual.ensures.1 in
    let h = c.in_err-old.ensures.number in
    rw (p.1, p.2) (h ∙ sym (or_next_first _ _ (λ z. refusal_some _ (h ∙ z))))

pub returns-then-number-old-clause-number : goal.returns-then-number-old-clause-number
unfolding withdraw_refusal given ◌or_next◌ outside
returns-then-number-old-clause-number c =
    rw (← c.in_ok-old.ensures.number, ← c.in_ok-old.ensures.value, c.if-number-old.true)

pub without_stream-requires : goal.without_stream-requires
unfolding outside
without_stream-requires c =
    let own = c.in_ok-old.old in
    let range = within 1 own.count c.args.number c.if-number-old.false in
    let sound = past_desk c.args.self c.args.desk (sym c.in_ok-old.ensures.number) in
    (range.0, range.1, rw c.in_ok-old.ensures.value (cells_of _ (desk_sound _ sound c.args.desk)).count_high)

pub returns-clause-number : goal.returns-clause-number
unfolding withdraw_refusal given ◌or_next◌ outside
returns-clause-number c =
    rw (← c.in_ok-old.ensures.number, ← c.in_ok-old.ensures.value, c.if-number-old.false)
