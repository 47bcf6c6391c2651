-- `queue_is_sound` tests the cells past the requests, in each of the two rows: what it has found is so of those passed.
use mathlib.Core.Path.{◌≡◌}
use Rattle.stream.proofs.Orderly.{clear_to}
use Rattle.stream.proofs.queue_is_sound.Given as goal

abbrev pub invariant-loop-place : goal.invariant-loop-place
invariant-loop-place l = l.places_clear ≡ clear_to l.place-items l.place-index

abbrev pub invariant-loop-tag : goal.invariant-loop-tag
invariant-loop-tag l = l.tags_clear ≡ clear_to l.tag-items l.tag-index
