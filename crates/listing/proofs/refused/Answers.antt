-- `refused` is the line of its word and the number, and of the amount over where there is one.
use mathlib.Core.Path.{◌≡◌, sym, ap, ◌∙◌}
use Rattle.listing.specs.Line.{ascii, refused_fields, text_of}
use Rattle.listing.proofs.Words.{refused_with}
use Rattle.listing.proofs.refused.Goals as goal

pub returns-then-over-eq0 : goal.returns-then-over-eq0
unfolding ascii refused_fields
returns-then-over-eq0 c =
    let a = c.args in
    let alone : a.over ≡ 0 = c.if-over-eq0.true in
    c.worded.ensures ∙ ap (λ n. text_of (refused_fields a.number n)) (sym alone)

pub returns : goal.returns
unfolding ascii
returns c =
    let a = c.args in
    c.worded-2.ensures ∙ ap text_of (sym (refused_with a.number a.over c.if-over-eq0.false))
