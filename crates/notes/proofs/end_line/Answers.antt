-- `end_line` stores the event of a right line, and keeps why that is refused.
use mathlib.Core.Bool.{true, false}
use mathlib.Core.List.{List}
use mathlib.Core.Path.{◌≡◌, sym, ap, ◌∙◌}
use Prim.Native.Nat.{ℕ}
use Rattle.std.specs.Prelude.{Ok, Err}
use Rattle.file.specs.Refusal.{answer_by}
use Rattle.notes.specs.declared.line.Line.{Line}
use Rattle.notes.specs.Line.{line_of}
use Rattle.notes.specs.Notes.{after, Read, read, line_refusal, refused_by, trace_after, line_ended}
use Rattle.notes.specs.declared.Notes.{Notes}
use Rattle.notes.proofs.Choices.{chosen, passed, Put, kept, put_kept}
use Rattle.notes.proofs.end_line.Goals as goal

module _ (n : Notes) (trace : List ℕ) where
  abbrev next : Notes
  next = after n (line_of n.draft)

  abbrev taken : Read
  taken = read (refused_by next (line_refusal trace n.events (line_of n.draft))) (trace_after trace n.events (line_of n.draft))

  ends-wrong : next.wrong ≡ true → line_ended n trace ≡ read next trace
  unfolding line_ended
  ends-wrong h = chosen next.wrong (read next trace) taken h

  ends-right : next.wrong ≡ false → line_ended n trace ≡ taken
  unfolding line_ended
  ends-right h = passed next.wrong (read next trace) taken h

-- the notes and the trace after a right line, whose event was stored or refused
ends : (n : Notes) (trace : List ℕ) (line : Line) (m : Notes) (put : Put) (stored : List ℕ)
    → line ≡ line_of n.draft → m ≡ after n line → m.wrong ≡ false → put ≡ answer_by (line_refusal trace n.events line) tt → stored ≡ trace_after trace n.events line
    → read (kept m put) stored ≡ line_ended n trace
ends n trace line m put stored is then right told wrote =
    let same : m ≡ next n trace = then ∙ ap (after n) is in
    ap (λ (r : Notes). read r stored) (put_kept m (line_refusal trace n.events line) put told)
    ∙ ap (λ (s : List ℕ). read (refused_by m (line_refusal trace n.events line)) s) wrote
    ∙ ap (λ (l : Line). read (refused_by m (line_refusal trace n.events l)) (trace_after trace n.events l)) is
    ∙ ap (λ (r : Notes). read (refused_by r (line_refusal trace n.events (line_of n.draft))) (trace_after trace n.events (line_of n.draft))) same
    ∙ sym (ends-right n trace (ap (λ (r : Notes). r.wrong) (sym same) ∙ right))

pub returns-then-next : goal.returns-then-next
returns-then-next c =
    let a = c.args in
    let e : c.after-next.result ≡ next a.notes a.trace.now = c.after-next.ensures ∙ ap (after a.notes) c.line_of-line.ensures in
    let whole = ends-wrong a.notes a.trace.now (ap (λ (m : Notes). m.wrong) (sym e) ∙ c.if-next.true) in
    record { value = e ∙ sym (ap (λ (r : Read). r.notes) whole); trace_after = sym (ap (λ (r : Read). r.trace) whole) }

pub returns-in-Ok : goal.returns-in-Ok
returns-in-Ok c =
    let a = c.args in
    let put = c.put_line in
    let whole = ends a.notes a.trace.now c.line_of-line.result c.after-next.result (Ok tt) put.new.trace c.line_of-line.ensures c.after-next.ensures c.if-next.false c.in-Ok.ensures.value put.ensures.trace_after in
    record { value = ap (λ (r : Read). r.notes) whole; trace_after = ap (λ (r : Read). r.trace) whole }

pub returns-in-Err : goal.returns-in-Err
returns-in-Err c =
    let a = c.args in
    let put = c.put_line in
    let whole = ends a.notes a.trace.now c.line_of-line.result c.after-next.result (Err c.in-Err.refusal) put.new.trace c.line_of-line.ensures c.after-next.ensures c.if-next.false c.in-Err.ensures.value put.ensures.trace_after in
    record { value = ap (λ (r : Read). r.notes) whole; trace_after = ap (λ (r : Read). r.trace) whole }
