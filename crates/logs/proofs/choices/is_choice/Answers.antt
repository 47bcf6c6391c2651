-- `is_choice` looks at a queued request alone: no other is answered by 21.
use mathlib.Core.Bool.{Bool, true, false, ◌&&◌}
use mathlib.Core.Path.{◌≡◌, refl, sym, ◌∙◌}
use native.Mathlib.Omega.{arith}
use Prim.Native.Nat.{ℕ, ◌+◌, ◌≤◌}
use Rattle.session.specs.Session.{stream_at}
use Rattle.session.specs.declared.Session.{Session}
use Rattle.calls.specs.declared.Call.{Call}
use Rattle.logs.specs.Choices.{sends, is_first, is_choice}
use Rattle.logs.proofs.Choosing.{choice_in_queue}
use Rattle.logs.proofs.choices.is_choice.Goals as goal

-- past the end of its queue there is no choice
past-queue : (s : Session) (i j : ℕ) → (stream_at s i).queued ≤ j → false ≡ is_choice s i j
unfolding is_choice
past-queue s i j past = go (sends s (Call.OwnTurn (i + 1) j)) refl
  where
    go : (b : Bool) → sends s (Call.OwnTurn (i + 1) j) ≡ b → false ≡ (sends s (Call.OwnTurn (i + 1) j) && is_first (stream_at s i) j)
    go true e = absurd (omega (arith, (choice_in_queue s i j e).1))
    go false e = rw e

-- and what is not sent is none
unsent : (s : Session) (i j : ℕ) → sends s (Call.OwnTurn (i + 1) j) ≡ false → false ≡ is_choice s i j
unfolding is_choice
unsent s i j e = rw e

pub returns-then-x-j : goal.returns-then-x-j
returns-then-x-j c =
    let a = c.args in
    past-queue a.session a.i a.j c.if-x-j.true

pub returns-then-sends : goal.returns-then-sends
unfolding is_choice
returns-then-sends c = c.is_first.ensures ∙ rw (sym c.sends.ensures ∙ c.if-sends.true)

pub returns-else-sends : goal.returns-else-sends
returns-else-sends c =
    let a = c.args in
    c.if-sends.false ∙ unsent a.session a.i a.j (sym c.sends.ensures ∙ c.if-sends.false)
