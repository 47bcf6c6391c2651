-- `report` has `accepted` alone of a listing that is whole, and else the number and the candidates behind it.
use mathlib.Core.Bool.{Bool}
use mathlib.Core.List.{List}
use mathlib.Core.Path.{◌≡◌, sym, ap, ◌∙◌}
use Prim.Native.Nat.{ℕ}
use Rattle.listing.specs.Line.{rendered, accepted_fields, place_fields, text_of}
use Rattle.logs.specs.Following.{trace_of, nexts, lines_of_nexts, is_whole}
use Rattle.logs.specs.Inner.{only_at}
use Rattle.logs.specs.declared.Follower.{Follower}
use Rattle.logs.proofs.Looking.{line_after, only_line, report_accepted, report_rejected}
use Rattle.logs.proofs.Follower.report.Goals as goal

-- whether the listing is whole, of the events of the file
whole_is : (f : Follower) (trace read left : List ℕ) (whole : Bool) → whole ≡ is_whole f read left → read ≡ trace → is_whole f trace left ≡ whole
whole_is f trace read left whole is same = sym (is ∙ ap (λ (trace : List ℕ). is_whole f trace left) same)

pub returns-then-is_whole : goal.returns-then-is_whole
unfolding text_of
returns-then-is_whole c =
    let a = c.args in
    rw (report_accepted _ _ _ (whole_is _ _ _ _ _ c.is_whole.ensures c.trace_of-trace.ensures ∙ c.if-is_whole.true))
    (c.only.ensures ∙ ap (λ (x : List ℕ). only_at x a.k) c.accepted.ensures ∙ only_line (rendered accepted_fields) a.k)

pub returns-then-k-eq0 : goal.returns-then-k-eq0
unfolding text_of
returns-then-k-eq0 c =
    rw (report_rejected _ _ _ (whole_is _ _ _ _ _ c.is_whole.ensures c.trace_of-trace.ensures ∙ c.if-is_whole.false), c.if-k-eq0.true) c.place.ensures

pub returns : goal.returns
returns c =
    let a = c.args in
    rw (
      report_rejected _ _ _ (whole_is _ _ _ _ _ c.is_whole.ensures c.trace_of-trace.ensures ∙ c.if-is_whole.false),
      line_after (rendered (place_fields a.self.due)) (lines_of_nexts (nexts a.self (trace_of a.file.now))) a.k c.if-k-eq0.false,
    )
    (rw c.trace_of-trace.ensures at c.candidate.ensures)
