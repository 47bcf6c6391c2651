use mathlib.Core.Bool.{◌&&◌}
use mathlib.Core.Path.{◌≡◌, refl, ap, ap₂, ◌∙◌}
use native.Mathlib.Omega.{arith}
use lib.ListN.{length}
use borrow.Author.Tests.{lt-leb, eq-eqb}
use Rattle.table.specs.Fold.{all_to}
use Rattle.stream.specs.Stream.{sound_row, sound_queue}
use Rattle.stream.proofs.Orderly.{clear_to, clear_more, past_queued, row_is}
use Rattle.stream.proofs.queue_is_sound.Goals as goal

pub returns-then-queued-gt-QUEUE_MAX : goal.returns-then-queued-gt-QUEUE_MAX
unfolding sound_queue sound_row
returns-then-queued-gt-QUEUE_MAX c =
    rw (eq-eqb (length c.args.places.now) 16 (omega arith), lt-leb c.args.queued 16 c.if-queued-gt-QUEUE_MAX.true)

pub loop-place-init : goal.loop-place-init
unfolding all_to
loop-place-init c = refl

pub loop-place-preserved : goal.loop-place-preserved
loop-place-preserved c = clear_more _ _ _ c.loop-place.invariant

pub loop-tag-init : goal.loop-tag-init
unfolding all_to
loop-tag-init c = refl

pub loop-tag-preserved : goal.loop-tag-preserved
loop-tag-preserved c = clear_more _ _ _ c.loop-tag.invariant

pub returns : goal.returns
unfolding sound_queue
returns c =
    let a = c.args in
    let few = c.if-queued-gt-QUEUE_MAX.false in
    let places : length a.places.now ≡ 16 = omega arith in
    let tags : length a.tags.now ≡ 16 = omega arith in
    let all : c.loop-place.place-index ≡ length (past_queued a.queued a.places.now places few) = omega arith in
    let each : c.loop-tag.tag-index ≡ length (past_queued a.queued a.tags.now tags few) = omega arith in
    ap₂ ◌&&◌
    (c.loop-place.invariant ∙ ap (clear_to (past_queued a.queued a.places.now places few)) all ∙ row_is a.queued a.places.now places few)
    (c.loop-tag.invariant ∙ ap (clear_to (past_queued a.queued a.tags.now tags few)) each ∙ row_is a.queued a.tags.now tags few)
