-- `Table::admission` gives the first refusal of 1 to 6, and where there is none the margin, with 7 where the load is over the span.
use mathlib.Core.Path.{◌≡◌, sym, subst, ◌∙◌, ap}
use Prim.Native.Nat.{◌≤◌, ◌<◌}
use Rattle.std.proofs.Common.{Ok, Err}
use Rattle.std.proofs.lemmas.Result.{err_from_is_err_and}
use Rattle.table.specs.Admission.{load_of}
use Rattle.table.specs.Margin.{less_load, margin, margin_of}
use Rattle.table.specs.declared.refusal.Refusal.TheVariants.{Load}
use Rattle.table.proofs.Judged.{parts_none, load_high}
use Rattle.table.proofs.Margins.{load_fits, load_over, answer_first, answer_admits, answer_over}
use Rattle.table.proofs.Table.admission.Goals as goal
use Rattle.table.proofs.Table.admission.Goals.{After-load-load, After-of-margin}

pub returns-in_err-judged : goal.returns-in_err-judged
returns-in_err-judged c =
    let p = err_from_is_err_and c.from_residual.result c.from_residual.ensures.1 in
    rw (p.1, p.2) (sym (answer_first _ _ c.in_err-judged.ensures.number))

-- past the first refusals, the load is that of the table
load_is : (c : After-load-load) → c.load-load.result ≡ load_of c.args.self
load_is c = c.load-load.ensures ∙ ap load_of c.in_ok-judged.ensures.value

pub of-margin-requires : goal.of-margin-requires
of-margin-requires c =
    let parts = parts_none _ (sym c.in_ok-judged.ensures.number) in
    rw (load_is c) (load_high _ parts.0 parts.1)

-- and the margin is that of the table
margin_is : (c : After-of-margin) → c.of-margin.result ≡ margin (margin_of c.args.self)
unfolding margin_of
margin_is c = c.of-margin.ensures ∙ ap (λ l. margin (less_load c.args.self.span l)) (load_is c.before)

pub returns-then-self-load : goal.returns-then-self-load
returns-then-self-load c =
    let over = subst (λ l. c.args.self.span < l) (load_is c.before.before.before) c.if-self-load.true in
    ap (λ m. Err (Load m)) (margin_is c.before.before) ∙ sym (answer_over _ (load_over _ (sym c.in_ok-judged.ensures.number) over))

pub returns : goal.returns
returns c =
    let fits = subst (λ l. l ≤ c.args.self.span) (load_is c.before.before.before) c.if-self-load.false in
    ap Ok (margin_is c.before.before) ∙ sym (answer_admits _ (load_fits _ (sym c.in_ok-judged.ensures.number) fits))
