-- Two outcomes that the contract of a call over lent bytes allows are equal: the result, and every byte at exit.
-- It is said of the two `ensures` of `write`, and carried by `outcomes_agree`.
use seplogic.Ra.Ura.{Ura}
use mathlib.Core.Path.{◌≡◌}
use base.Logic.{SProp, via}
use contract.Monad.{Fun, conj_mono}
use types.Logic.{Logic}
use prog.Memory.{Memory}
use prog.Routine.{Routine}
use Rattle.table.proofs.Determined.{Determines, outcomes_agree, both_say, in_a_row}
use Rattle.file.specs.contracts.write as write

pub write_determined : {M : Type 1} {𝓤 : Ura M} (𝓛 : Logic 𝓤) (mem : Memory → SProp 𝓤) (run : Routine → Fun 𝓤)
    → Determines 𝓤 write.ended (write.clauses 𝓛 mem run) (λ κs r r' e e'. (r ≡ r') × (e.1.1.1.1.0.now ≡ e'.1.1.1.1.0.now))
write_determined {𝓤 = 𝓤} 𝓛 mem run κs a g r r' e e' =
    via 𝓤 _ (conj_mono 𝓤 (in_a_row 𝓤 _ _) (in_a_row 𝓤 _ _))
    (both_say 𝓤 _ _ (λ one other. (outcomes_agree one.0 other.0, outcomes_agree one.1 other.1)))
