-- A queue stays in order as a request arrives or leaves.
use mathlib.Core.Path.{◌≡◌, ◌∙◌}
use mathlib.Core.Logic.{⊎_elim}
use mathlib.Core.List.{List}
use Prim.Native.Nat.{ℕ, suc, ◌+◌, ◌-◌, ◌≤◌, ◌<◌}
use native.Mathlib.Omega.{arith}
use lib.ListN.{length, get_or, set, length-set, get_or-eq_default}
use lib.Seq.{get_or-set_other}
use Rattle.table.specs.Fold.{closed_up}
use Rattle.table.proofs.Tests.{le_or_lt}
use Rattle.table.proofs.Lists.{length_closed_up, get_d_closed_up}
use Rattle.stream.specs.Stream.{queue_max, arrived, without}
use Rattle.stream.specs.declared.Stream.{Stream}
use Rattle.stream.proofs.Orderly.{Row, Queue}

-- what arrives takes the cell at the end
row_arrives : (value queued : ℕ) (cells : List ℕ) → Row queued cells → queued < queue_max → Row (queued + 1) (set cells queued value)
row_arrives value queued cells q space =
    record {
      queued_high = omega arith;
      sixteen = length-set cells queued value ∙ q.sixteen;
      unused = λ j past l. get_or-set_other cells queued j value 0 (λ e. omega arith) ∙ q.unused j (omega arith) l;
    }

-- past its requests a queue reads 0, also past its cells
past_requests : (queued : ℕ) (cells : List ℕ) → Row queued cells → (j : ℕ) → queued ≤ j → get_or cells j 0 ≡ 0
past_requests queued cells q j past =
    ⊎_elim
    (λ (beyond : queue_max ≤ j). get_or-eq_default cells 0 (omega (arith, q.sixteen)))
    (λ (l : j < queue_max). q.unused j past l)
    (le_or_lt queue_max j)

-- what leaves sets the last cell free
row_closes_up : (j queued : ℕ) (cells : List ℕ) → Row queued cells → j < queued → Row (queued - 1) (closed_up 0 j cells)
row_closes_up j queued cells q l =
    let cell : j < length cells = omega (arith, q.sixteen, q.queued_high) in
    record {
      queued_high = omega (arith, q.queued_high);
      sixteen = length_closed_up cells 0 j cell ∙ q.sixteen;
      unused = λ k past m. get_d_closed_up cells 0 j cell k (omega arith) ∙ past_requests queued cells q (suc k) (omega arith);
    }

-- and so of places and tags
module _ (x : Stream) (q : Queue x.queued x.places x.tags) where
  pub arrived_queue : (place tag : ℕ) → x.queued < queue_max → let y = arrived place tag x in Queue y.queued y.places y.tags
  unfolding arrived
  arrived_queue place tag space =
      record {
        places = row_arrives place x.queued x.places q.places space;
        tags = row_arrives tag x.queued x.tags q.tags space;
      }

  pub without_queue : (j : ℕ) → j < x.queued → let y = without j x in Queue y.queued y.places y.tags
  unfolding without
  without_queue j l =
      record {
        places = row_closes_up j x.queued x.places q.places l;
        tags = row_closes_up j x.queued x.tags q.tags l;
      }
