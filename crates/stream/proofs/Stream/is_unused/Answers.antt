-- An unused stream is the stream of zeros: the derived test is of each cell.
use mathlib.Core.Bool.{true}
use mathlib.Core.Path.{◌≡◌, refl, sym, ap₂, ◌∙◌}
use borrow.Author.Tests.{eqb-true}
use Rattle.std.specs.Cmp.Lexicographic.{same_text}
use Rattle.table.proofs.Tests.{both, same_test}
use Rattle.time.specs.Time.{moment, disk_time}
use Rattle.stream.specs.Stream.{fresh_stream}
use Rattle.stream.specs.declared.Stream.{Stream}
use Rattle.stream.specs.contracts.StreamPartialEq.TheImpl as PartlyEqual
use Rattle.stream.proofs.Unused.{unused_is_zero}
use Rattle.stream.proofs.Stream.is_unused.Goals as goal

same : (x y : Stream) → PartlyEqual.ghosts.eq x y ≡ true → x ≡ y
same x y t =
    let reserved = both _ _ t in
    let period = both _ _ reserved.1 in
    let granted = both _ _ period.1 in
    let release = both _ _ granted.1 in
    let deadline = both _ _ release.1 in
    let charge = both _ _ deadline.1 in
    let expired = both _ _ charge.1 in
    let start = both _ _ expired.1 in
    let queued = both _ _ start.1 in
    let places = both _ _ queued.1 in
    let tags = both _ _ places.1 in
    let had = both _ _ tags.1 in
    let at = both _ _ had.1 in
    let due = both _ _ at.1 in
    let lost = both _ _ due.1 in
    λ i. record {
      reserved = eqb-true x.reserved y.reserved reserved.0 i;
      period = eqb-true x.period y.period period.0 i;
      granted = disk_time (eqb-true x.granted.0 y.granted.0 granted.0 i);
      release = moment (eqb-true x.release.0 y.release.0 release.0 i);
      deadline = moment (eqb-true x.deadline.0 y.deadline.0 deadline.0 i);
      charge = disk_time (eqb-true x.charge.0 y.charge.0 charge.0 i);
      expired = eqb-true x.expired y.expired expired.0 i;
      start = disk_time (eqb-true x.start.0 y.start.0 start.0 i);
      queued = eqb-true x.queued y.queued queued.0 i;
      places = same_text x.places y.places (sym places.0) i;
      tags = same_text x.tags y.tags (sym tags.0) i;
      last =
          record {
            charge = disk_time (eqb-true x.last.charge.0 y.last.charge.0 had.0 i);
            closed = moment (eqb-true x.last.closed.0 y.last.closed.0 at.0 i);
            deadline = moment (eqb-true x.last.deadline.0 y.last.deadline.0 due.0 i);
            expired = eqb-true x.last.expired y.last.expired lost.0 i;
            start = disk_time (eqb-true x.last.start.0 y.last.start.0 lost.1 i);
          };
    }

-- zeros are alike, by computing
zeros_alike : PartlyEqual.ghosts.eq (fresh_stream 0 0 0) (fresh_stream 0 0 0) ≡ true
unfolding fresh_stream
zeros_alike = refl

pub returns : goal.returns
returns c =
    let x = c.args.self.now in
    same_test _ _
    (λ t. (unused_is_zero x).1 (same x c.fresh.result (sym c.eq.ensures ∙ t) ∙ c.fresh.ensures))
    (λ u. c.eq.ensures ∙ ap₂ PartlyEqual.ghosts.eq ((unused_is_zero x).0 u) c.fresh.ensures ∙ zeros_alike)
