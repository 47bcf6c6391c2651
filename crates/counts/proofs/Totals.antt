-- The totals of lists of files.
use mathlib.Core.List.{List, [], ◌∷◌}
use mathlib.Core.Path.{◌≡◌, refl, sym, ◌∙◌, ap, subst}
use Prim.Native.Nat.{ℕ}
use mathlib.Core.Bool.{Bool, true, false}
use Rattle.table.specs.Fold.{if, all_to, list_to}
use Rattle.table.specs.Ranges.{streams_max}
use Rattle.table.specs.Admission.{admission_of}
use Rattle.table.specs.Margin.{number_in as told, answer_of}
use Rattle.table.specs.Refusal.{refusal_number as refused_number}
use Rattle.table.specs.declared.Table.{Table}
use Rattle.table.specs.declared.margin.Margin.{Margin}
use Rattle.table.specs.declared.refusal.Refusal.{Refusal as Unadmitted}
use Rattle.table.proofs.Margins.{answer_carries_margin, refused_only}
use Rattle.std.specs.Prelude.{Result, Ok, Err}
use Rattle.session.specs.Opening.{opening_of}
use Rattle.trace.specs.declared.refusal.Refusal.{Refusal}
use borrow.Author.Tests.{ne_eqb}
use Rattle.table.proofs.Tests.{by_if}
use Rattle.table.proofs.Lists.{get_d_list_to}
use Rattle.file.specs.Reading.{is_laid_out, table_in, order_in}
use Rattle.counts.specs.Tally.{nothing, together}
use Rattle.counts.specs.Counts.{fits, counts, none, both, admitted_by, filed_of, opened_file, number_in, over_in, counts_in, totals_of}
use Rattle.counts.specs.Laws.{NoneAddsNothing, TotalsJoin, OneFile, RefusedAddsNothing, CallsAgree, SumsEnd, OneFileMore}
use Rattle.listing.specs.Line.{rendered, refused_fields}
use Rattle.trace.specs.Trace.{called, applied, run_of, listing_of}
use Rattle.session.specs.Calls.{after}
use Rattle.file.specs.declared.event.Event.{Event}
use Rattle.counts.specs.declared.Tally.{Tally}
use Rattle.counts.specs.declared.Counts.{Counts}
use Rattle.counts.specs.declared.Filed.{Filed}
use Rattle.counts.proofs.Monoid.{together_commutes, nothing_together, counts_agree, counts_known, both_counts, both_commutes, both_associates}

-- none is what no tally counts
pub none_is : counts (λ i. nothing) ≡ none
unfolding fits
none_is = counts_known (λ i. nothing) (λ i l. refl)

-- nothing is added by none
none_both : (f : ℕ → Tally) → both none (counts f) ≡ counts f
none_both f =
    both_commutes none (counts f)
    ∙ both_counts f none refl
    ∙ counts_agree _ f
    (λ i l. ap (together (f i)) (get_d_list_to (λ j. nothing) nothing streams_max i l) ∙ together_commutes (f i) nothing ∙ nothing_together (f i))

none_none : both none none ≡ none
none_none = subst (λ (c : Counts). both none c ≡ c) none_is (none_both (λ i. nothing))

none_file : (file : List ℕ) → both none (counts_in (filed_of file)) ≡ counts_in (filed_of file)
unfolding filed_of opened_file
none_file file =
    let Alone : Result Filed Refusal → Type 0 = λ filed. both none (counts_in filed) ≡ counts_in filed in
    by_if Alone (is_laid_out file) _ _ (λ yes. opened (opening_of (table_in file) (order_in file)).admission _ _) (λ unread. none_none)
  where
    opened : (a : Result Margin Unadmitted) (f : ℕ → Tally) (count : ℕ)
        → both none (counts_in (admitted_by a (record { count = count; counts = counts f }))) ≡ counts_in (admitted_by a (record { count = count; counts = counts f }))
    opened (Ok m) f count = none_both f
    opened (Err r) f count = none_none

pub none_adds_nothing : NoneAddsNothing
unfolding totals_of
none_adds_nothing [] = none_none
none_adds_nothing (file ∷ rest) =
    sym (both_associates none (counts_in (filed_of file)) (totals_of rest)) ∙ ap (λ (c : Counts). both c (totals_of rest)) (none_file file)

pub totals_join : TotalsJoin
unfolding totals_of
totals_join [] two = sym (none_adds_nothing two)
totals_join (file ∷ one) two =
    ap (both (counts_in (filed_of file))) (totals_join one two) ∙ sym (both_associates (counts_in (filed_of file)) (totals_of one) (totals_of two))

pub one_file : OneFile
unfolding totals_of
one_file file = both_commutes (counts_in (filed_of file)) none ∙ none_file file

-- a refused file adds nothing, and is told as `replay` tells it
pub refused_adds_nothing : RefusedAddsNothing
unfolding filed_of opened_file listing_of run_of opening_of if
refused_adds_nothing file some = go (is_laid_out file) (answer_of t) refl refl
  where
    t : Table
    t = table_in file

    go : (laid : Bool) (a : Result Margin Unadmitted) → is_laid_out file ≡ laid → answer_of t ≡ a
        → (counts_in (filed_of file) ≡ none) × (listing_of file ≡ rendered (refused_fields (number_in (filed_of file)) (over_in (filed_of file))))
    go false a e f = (rw e, rw e)
    go true (Ok m) e f = absurd (some (rw (e, f)))
    go true (Err r) e f =
        let number : admission_of t ≡ refused_number r = sym (answer_carries_margin t).0 ∙ ap told f in
        (rw (e, f), rw (e, ne_eqb _ 0 (refused_only t r f), f, number))

pub calls_agree : CallsAgree
unfolding applied called after
calls_agree s n (Event.Arrival stream place tag) = refl
calls_agree s n Event.Turn = refl
calls_agree s n (Event.OwnTurn stream index) = refl
calls_agree s n (Event.Done duration) = refl
calls_agree s n (Event.Clock time) = refl
calls_agree s n Event.Malformed = refl

pub sums_end : SumsEnd
unfolding both counts fits together all_to list_to if
sums_end = (refl, refl)

pub one_file_more : OneFileMore
unfolding totals_of
one_file_more files file =
    totals_join files (file ∷ [])
    ∙ ap (both (totals_of files)) (both_commutes (counts_in (filed_of file)) none ∙ none_file file)
