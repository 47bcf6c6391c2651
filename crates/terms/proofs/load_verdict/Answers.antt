-- `load_verdict` holds the load to the span.
use mathlib.Core.Path.{◌≡◌, ◌∙◌}
use mathlib.Core.Logic.{⊎_elim}
use Prim.Native.Nat.{◌≤◌, ◌<◌}
use borrow.Author.Tests.{lt-ltb, le-ltb}
use Rattle.std.specs.Result.{result_err}
use Rattle.table.specs.Fold.{if}
use Rattle.table.specs.Refusal.{given, ◌or_next◌}
use Rattle.table.specs.Admission.{load_of, numbers_refusal, streams_refusal, parts_refusal}
use Rattle.table.specs.Margin.{margin_of, refusal_of, answer_of}
use Rattle.table.specs.declared.Table.{Table}
use Rattle.table.proofs.Tests.{le_or_lt}
use Rattle.table.proofs.Judged.{judged_load_lem}
use Rattle.table.proofs.Margins.{load_fits, load_over, answer_admits, answer_over}
use Rattle.terms.specs.Terms.{load_verdict, as_said}
use Rattle.std.proofs.Common.{None}
use Rattle.terms.proofs.load_verdict.Goals as goal

none : (t : Table) → numbers_refusal t ≡ 0 → streams_refusal t ≡ 0 → parts_refusal t ≡ 0
unfolding parts_refusal ◌or_next◌
none t numbers streams = rw (numbers, streams)

-- what is said of a table of which 1 to 6 refuse nothing
said : (t : Table) → numbers_refusal t ≡ 0 → streams_refusal t ≡ 0
    → record { refusal = result_err (answer_of t); stream = None; finding = record { value = load_of t; limit = t.span } } ≡ as_said (margin_of t) (load_verdict t)
unfolding as_said load_verdict given refusal_of if
said t numbers streams =
    ⊎_elim
    (λ (l : load_of t ≤ t.span). rw (answer_admits t (load_fits t (none t numbers streams) l), le-ltb t.span (load_of t) l))
    (λ (l : t.span < load_of t). rw (answer_over t (load_over t (none t numbers streams) l), lt-ltb t.span (load_of t) l))
    (le_or_lt (load_of t) t.span)

pub returns : goal.returns
returns c =
    let t = c.args.t in
    let load = c.load.ensures ∙ judged_load_lem t c.requires.0 c.requires.1 in
    rw (c.err.ensures.value, c.admission.ensures, load) (said t c.requires.0 c.requires.1)
