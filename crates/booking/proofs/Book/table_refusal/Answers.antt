-- `Book::table_refusal` gives what admission refuses, or without streams what W, H and k are refused by.
use mathlib.Core.Path.{sym, ◌∙◌, ap}
use borrow.Author.Tests.{eq-eqb, ne_eqb}
use Rattle.std.proofs.lemmas.Result.{err_from_is_err_and}
use Rattle.table.specs.Fold.{if}
use Rattle.table.specs.Margin.{answer_of, number_in}
use Rattle.table.proofs.Margins.{ranges_told, answer_carries_margin}
use Rattle.booking.specs.Book.{count_in, table_refusal}
use Rattle.booking.proofs.Book.table_refusal.Goals as goal

pub returns-then-count-eq0 : goal.returns-then-count-eq0
unfolding table_refusal if
returns-then-count-eq0 c =
    let none = sym c.count.ensures ∙ c.if-count-eq0.true in
    let told = ranges_told _ _ _ _ (rw c.numbers.ensures at c.ranges_refusal.ensures) in
    rw (eq-eqb _ 0 none) told

pub returns-in_err-admission : goal.returns-in_err-admission
unfolding table_refusal if
returns-in_err-admission c =
    let p = err_from_is_err_and c.from_residual.result c.from_residual.ensures.1 in
    let some = ne_eqb (count_in c.args.self) 0 (λ none. c.if-count-eq0.false (c.count.ensures ∙ none)) in
    let answer = sym c.in_err-admission.was ∙ c.admission.ensures ∙ ap answer_of c.table.ensures in
    rw (p.1, p.2, some) (ap number_in answer ∙ (answer_carries_margin _).0)

pub returns : goal.returns
unfolding table_refusal if
returns c =
    let some = ne_eqb (count_in c.args.self) 0 (λ none. c.if-count-eq0.false (c.count.ensures ∙ none)) in
    let answer = sym c.in_ok-admission.was ∙ c.admission.ensures ∙ ap answer_of c.table.ensures in
    rw some (ap number_in answer ∙ (answer_carries_margin _).0)
