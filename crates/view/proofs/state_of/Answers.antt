-- `state_of` shows the stream, or the refusal's number beside zeros.
use mathlib.Core.Bool.{Bool, true, false, not}
use mathlib.Core.Path.{◌≡◌, refl, sym, ap, ◌∙◌}
use Prim.Native.Nat.{ℕ, ◌-◌}
use lib.Dec.{eqb}
use Rattle.std.proofs.Common.{Result, Ok, Err}
use Rattle.table.specs.Fold.{if}
use Rattle.table.specs.Refusal.{given, ◌or_next◌}
use Rattle.stream.specs.Stream.{fresh_stream}
use Rattle.stream.specs.declared.Stream.{Stream}
use Rattle.session.specs.Session.{stream_at, sound}
use Rattle.session.specs.Calls.{no_such_stream}
use Rattle.session.specs.declared.Session.{Session}
use Rattle.view.specs.View.{state_refusal, stream_of, state_of}
use Rattle.calls.specs.Refusals.{refusal_number}
use Rattle.calls.specs.declared.refusal.Refusal.{Refusal}
use Rattle.view.specs.declared.State.{State}
use Rattle.view.proofs.state_of.Goals as goal

abbrev as_state : Result Stream Refusal → State
as_state (Ok x) = record { number = 0; stream = x }
as_state (Err r) = record { number = refusal_number r; stream = fresh_stream 0 0 0 }

-- the tests are those of `stream_of`
state_is : (s : Session) (n : ℕ) → as_state (stream_of s n) ≡ state_of s n
unfolding state_of state_refusal stream_of given ◌or_next◌ if
state_is s n = go (sound s) (no_such_stream s n)
  where
    shown : Bool → Bool → Result Stream Refusal
    shown ok none = if ok (if none (Err Refusal.NoStream) (Ok (stream_at s (n - 1)))) (Err Refusal.Unsound)

    number : Bool → Bool → ℕ
    number ok none = given (not ok) 31 or_next given none 8

    go : (ok none : Bool) → as_state (shown ok none) ≡ record { number = number ok none; stream = if (eqb (number ok none) 0) (stream_at s (n - 1)) (fresh_stream 0 0 0) }
    go true true = refl
    go true false = refl
    go false none = refl

pub returns-in-Ok : goal.returns-in-Ok
returns-in-Ok c = ap as_state (sym c.in-Ok.is ∙ c.stream_of.ensures) ∙ state_is c.args.session.now c.args.stream

pub returns-in-Err : goal.returns-in-Err
returns-in-Err c =
    rw (c.number.ensures, c.fresh.ensures)
    (ap as_state (sym c.in-Err.is ∙ c.stream_of.ensures) ∙ state_is c.args.session.now c.args.stream)
