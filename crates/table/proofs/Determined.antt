-- Two outcomes that one contract allows are equal: its equations say what the result is, and what is lent is at exit, and whatever equals one definition is equal.
-- An outcome is a result and the parameters at exit. `Determines` says it of a contract's own `ensures`; the `Determined` of `session` has it of a value and of a lent session, that of `file` of lent bytes.
use mathlib.Core.Path.{◌≡◌, sym, ◌∙◌}
use seplogic.Ra.Ura.{Ura}
use base.Logic.{ent, sep, via}
use contract.Lifetimes.{Lfts}
use contract.Monad.{conj, conj_l, conj_r, sep→conj, fact, fact_i, fact_use}
use denote.Triple.Clauses.{Ended, Clauses, AtExit}
use denote.Triple.Entry.{Args, Res}

pub outcomes_agree : {A : Type 0} {definition one other : A} → one ≡ definition → other ≡ definition → one ≡ other
outcomes_agree p q = p ∙ sym q

module _ {M : Type 1} (𝓤 : Ura M) where
  -- Where the contract's `ensures` hold of two outcomes for the same arguments, the two are the same, in what `Same` compares.
  abbrev pub Determines : (T : Ended) → Clauses 𝓤 T → ((κs : Lfts T.signature.lifetimes) (r r' : Res T.signature κs) (e e' : AtExit T κs) → Type 0) → Type 1
  Determines T contract Same = (κs : Lfts T.signature.lifetimes) (a : Args T.signature κs) (g : (contract κs a).ghost) (r r' : Res T.signature κs) (e e' : AtExit T κs)
      → ent 𝓤 (conj 𝓤 ((contract κs a).ensures g r e) ((contract κs a).ensures g r' e')) (fact 𝓤 (Same κs r r' e e'))

  -- what follows from two facts holds where both do
  pub both_say : (P Q : Type 0) {S : Type 0} → (P → Q → S) → ent 𝓤 (conj 𝓤 (fact 𝓤 P) (fact 𝓤 Q)) (fact 𝓤 S)
  both_say P Q {S} f = fact_use 𝓤 P (conj_l 𝓤 (fact 𝓤 P) (fact 𝓤 Q)) (λ p. fact_use 𝓤 Q (conj_r 𝓤 (fact 𝓤 P) (fact 𝓤 Q)) (λ q. fact_i 𝓤 S _ (f p q)))

  -- two clauses, each a fact, say both facts
  pub in_a_row : (P Q : Type 0) → ent 𝓤 (sep 𝓤 (fact 𝓤 P) (fact 𝓤 Q)) (fact 𝓤 (P × Q))
  in_a_row P Q = via 𝓤 (conj 𝓤 (fact 𝓤 P) (fact 𝓤 Q)) (sep→conj 𝓤 (fact 𝓤 P) (fact 𝓤 Q)) (both_say P Q (λ p q. (p, q)))
