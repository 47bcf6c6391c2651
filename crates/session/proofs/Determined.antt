-- Two outcomes that the contract of a call allows are equal: of a call by value the result, and of a call over a lent session the reply and the session at exit.
-- Each is said of the `ensures` that the function has, and carried by `outcomes_agree`.
use seplogic.Ra.Ura.{Ura}
use mathlib.Core.Path.{◌≡◌, sym, ap, ◌∙◌}
use base.Logic.{SProp, ent}
use contract.Lifetimes.{Lfts}
use contract.Monad.{Fun, conj, fact}
use denote.Triple.Clauses.{AtExit}
use denote.Triple.Entry.{Args, Res}
use types.Logic.{Logic}
use prog.Memory.{Memory}
use prog.Routine.{Routine}
use Rattle.table.proofs.Determined.{Determines, outcomes_agree, both_say}
use Rattle.session.specs.Calls.{answer_to}
use Rattle.session.specs.declared.Answer.{Answer}
use Rattle.session.specs.contracts.Session.turn as turn
use Rattle.session.specs.contracts.Session.call as by_value
use Rattle.session.specs.contracts.Session.call_lent as lent

module _ {M : Type 1} {𝓤 : Ura M} (𝓛 : Logic 𝓤) (mem : Memory → SProp 𝓤) (run : Routine → Fun 𝓤) where
  -- A value: `Session::turn`, whose answer is the session and the reply.
  pub turn_determined : Determines 𝓤 turn.ended (turn.clauses 𝓛 mem run) (λ κs r r' e e'. r ≡ r')
  turn_determined κs a g r r' e e' = both_say 𝓤 _ _ outcomes_agree

  -- A lent session: `Session::call_lent`, whatever the call.
  pub call_lent_determined : Determines 𝓤 lent.ended (lent.clauses 𝓛 mem run) (λ κs r r' e e'. (r ≡ r') × (e.0.now ≡ e'.0.now))
  call_lent_determined κs a g r r' e e' = both_say 𝓤 _ _ (λ one other. (outcomes_agree one.0 other.0, outcomes_agree one.1 other.1))

  -- "the state afterwards is the same as by value": what the one leaves and replies is what the other hands back.
  pub lent_as_by_value : (κs : Lfts 1) (a : Args lent.signature κs) (r : Res lent.signature κs) (e : AtExit lent.ended κs)
      → (answer : Res by_value.signature tt) (e' : AtExit by_value.ended tt)
      → ent 𝓤 (conj 𝓤 ((lent.clauses 𝓛 mem run κs a).ensures tt r e) ((by_value.clauses 𝓛 mem run tt (a.0.now, a.1)).ensures tt answer e'))
      (fact 𝓤 ((r ≡ answer.reply) × (e.0.now ≡ answer.session)))
  lent_as_by_value κs a r e answer e' =
      both_say 𝓤 _ _
      (λ here value.
      let session : e.0.now ≡ (answer_to a.0.now a.1.0).session = here.1 in
      (here.0 ∙ sym (ap (λ (x : Answer). x.reply) value), session ∙ sym (ap (λ (x : Answer). x.session) value)))
