-- What is printed of a table that is refused.
use mathlib.Core.List.{List, [], ◌∷◌}
use mathlib.Core.Logic.{⊎_elim}
use mathlib.Core.Path.{◌≡◌, refl, ap, ◌∙◌}
use Prim.Native.Nat.{ℕ, ◌≤◌}
use native.Mathlib.Omega.{arith}
use borrow.Author.Tests.{ne_eqb}
use Rattle.table.specs.Fold.{if}
use Rattle.table.specs.Admission.{admission_of}
use Rattle.table.specs.Whole.{below_zero}
use Rattle.table.specs.Margin.{over_of, margin_of, over_in, answer_of}
use Rattle.table.specs.declared.Table.{Table}
use Rattle.table.specs.declared.margin.Margin.{Margin}
use Rattle.table.proofs.Margins.{over_load, over_is_exact, answer_carries_margin, parts_or_load}
use Rattle.order.specs.declared.Order.{Order}
use Rattle.session.specs.Opening.{opening_of}
use Rattle.listing.specs.Line.{ascii, decimal, rendered, refused_word, worded_fields, refused_fields}
use Rattle.listing.proofs.Words.{refused_with}
use Rattle.trace.specs.Trace.{run_of}
use Rattle.trace.specs.Laws.{RefusalPrints}

-- one line, of the number and the amount over
refused_run : (t : Table) (order : Order) (trace : List ℕ) → (admission_of t ≡ 0 → ⊥)
    → run_of t order trace ≡ rendered (refused_fields (admission_of t) (over_in (answer_of t)))
unfolding run_of opening_of if
refused_run t order trace some = rw (ne_eqb (admission_of t) 0 some)

-- with the amount, or without
with_amount : (number over : ℕ) → 1 ≤ over → refused_fields number over ≡ refused_word ∷ decimal number ∷ decimal over ∷ []
unfolding worded_fields ascii
with_amount number over some = refused_with number over (λ z. omega arith)

without_amount : (number : ℕ) → refused_fields number 0 ≡ refused_word ∷ decimal number ∷ []
unfolding refused_fields worded_fields ascii
without_amount number = refl

over_7 : (t : Table) → admission_of t ≡ 7 → over_in (answer_of t) ≡ over_of (margin_of t)
over_7 t e = ap (λ (m : Margin). over_of m.0) ((answer_carries_margin t).1 (over_load t e).0)

no_amount : (t : Table) → (admission_of t ≡ 0 → ⊥) → (admission_of t ≡ 7 → ⊥) → over_in (answer_of t) ≡ 0
unfolding below_zero
no_amount t some other = ap (λ (m : Margin). over_of m.0) ((answer_carries_margin t).2 (λ z. ⊎_elim some other (parts_or_load t z)))

pub refusal_prints : RefusalPrints
refusal_prints t order trace = (
  λ seven.
      let exact = over_is_exact t seven in (
        over_of (margin_of t),
        exact.0,
        exact.1,
        refused_run t order trace (λ z. omega (arith, z, seven))
            ∙ ap rendered (rw (seven, over_7 t seven) (with_amount 7 (over_of (margin_of t)) exact.1)),
      ),
  λ some other. refused_run t order trace some ∙ ap rendered (rw (no_amount t some other) (without_amount (admission_of t))),
)
