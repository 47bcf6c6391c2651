-- An unused stream is the stream of zeros: each of its tests says one cell.
use mathlib.Core.Bool.{true}
use mathlib.Core.List.{List}
use mathlib.Core.Path.{◌≡◌, refl, ap}
use Prim.Native.Nat.{ℕ}
use native.Mathlib.Omega.{arith}
use lib.ListN.{replicate}
use borrow.Author.Tests.{eqb-true}
use Rattle.table.specs.Fold.{list_to, all_to}
use Rattle.table.proofs.Tests.{both}
use Rattle.table.proofs.Lists.{filled_on, filled_all}
use Rattle.time.specs.Time.{moment, disk_time}
use Rattle.stream.specs.Stream.{queue_max, fresh_stream, sound_row, sound_queue, zero_job, unused_stream}
use Rattle.stream.specs.Laws.{UnusedIsZero}
use Rattle.stream.specs.declared.Job.{Job}
use Rattle.stream.specs.declared.Stream.{Stream}
use Rattle.stream.proofs.Orderly.{Row, queue_of}

-- a row of a queue with no request
empty_row : (cells : List ℕ) → Row 0 cells → cells ≡ replicate queue_max 0
unfolding list_to
empty_row cells q =
    filled_all (λ j. 0) cells queue_max
    (filled_on (λ j. 0) cells 0 0 queue_max (omega arith) (λ j low l. q.unused j (omega arith) l)
    (record { cells = q.sixteen; front = refl }))

no_job : (j : Job) → zero_job j ≡ true → j ≡ record { charge = disk_time 0; closed = moment 0; deadline = moment 0; expired = 0; start = disk_time 0 }
unfolding zero_job
no_job j t =
    let start = both _ _ t in
    let expired = both _ _ start.0 in
    let deadline = both _ _ expired.0 in
    let closed = both _ _ deadline.0 in
    λ i. record {
      charge = disk_time (eqb-true j.charge.0 0 closed.0 i);
      closed = moment (eqb-true j.closed.0 0 closed.1 i);
      deadline = moment (eqb-true j.deadline.0 0 deadline.1 i);
      expired = eqb-true j.expired 0 expired.1 i;
      start = disk_time (eqb-true j.start.0 0 start.1 i);
    }

zeros : (x : Stream) → unused_stream x ≡ true → x ≡ fresh_stream 0 0 0
unfolding unused_stream fresh_stream
zeros x t =
    let last = both _ _ t in
    let queue = both _ _ last.0 in
    let queued = both _ _ queue.0 in
    let rows = queue_of 0 x.places x.tags queue.1 in
    let start = both _ _ queued.0 in
    let expired = both _ _ start.0 in
    let charge = both _ _ expired.0 in
    let deadline = both _ _ charge.0 in
    let release = both _ _ deadline.0 in
    let granted = both _ _ release.0 in
    let period = both _ _ granted.0 in
    λ i. record {
      reserved = eqb-true x.reserved 0 period.0 i;
      period = eqb-true x.period 0 period.1 i;
      granted = disk_time (eqb-true x.granted.0 0 granted.1 i);
      release = moment (eqb-true x.release.0 0 release.1 i);
      deadline = moment (eqb-true x.deadline.0 0 deadline.1 i);
      charge = disk_time (eqb-true x.charge.0 0 charge.1 i);
      expired = eqb-true x.expired 0 expired.1 i;
      start = disk_time (eqb-true x.start.0 0 start.1 i);
      queued = eqb-true x.queued 0 queued.1 i;
      places = empty_row x.places rows.places i;
      tags = empty_row x.tags rows.tags i;
      last = no_job x.last last.1 i;
    }

pub unused_is_zero : UnusedIsZero
unfolding unused_stream fresh_stream sound_row sound_queue zero_job all_to
unused_is_zero x = (zeros x, λ e. ap unused_stream e)
