use mathlib.Core.Bool.{◌||◌}
use mathlib.Core.Path.{◌≡◌, refl, ap, ◌∙◌}
use native.Mathlib.Numerals.{add-one}
use native.Mathlib.Omega.{arith}
use lib.Dec.{ltb}
use lib.ListN.{length}
use borrow.Author.Rules.{rules}
use borrow.Author.Tests.{eq-eqb, le-leb, lt-leb}
use Rattle.table.specs.Fold.{all_to}
use Rattle.table.specs.Ranges.{streams_max}
use Rattle.table.specs.Reservations.{record_at}
use Rattle.booking.specs.Book.{empty_cell, sound_cells}
use Rattle.booking.proofs.Desk.is_sound.Goals as goal

pub returns-then-self-gt-STREAMS_MAX : goal.returns-then-self-gt-STREAMS_MAX
unfolding sound_cells
returns-then-self-gt-STREAMS_MAX c =
    let self = c.args.self in
    rw (eq-eqb (length self.streams) streams_max (search rules), lt-leb self.count streams_max c.if-self-gt-STREAMS_MAX.true)

pub loop-i-init : goal.loop-i-init
unfolding all_to
loop-i-init c = refl

pub loop-i-preserved : goal.loop-i-preserved
unfolding all_to empty_cell
loop-i-preserved c =
    let at = c.loop-i in
    rw (add-one at.i, ← at.invariant, c.eq.ensures, c.default.ensures.0, c.default.ensures.1)

pub returns : goal.returns
unfolding sound_cells
returns c =
    let self = c.args.self in
    let at = c.loop-i in
    let past : at.i ≡ streams_max = omega arith in
    let eight : length self.streams ≡ streams_max = search rules in
    rw (eq-eqb (length self.streams) streams_max eight, le-leb self.count streams_max c.if-self-gt-STREAMS_MAX.false) (at.invariant ∙ ap (all_to (λ j. ltb j self.count || empty_cell (record_at self.streams j))) past)
