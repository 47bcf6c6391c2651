-- A job that closes hands on what it was charged above its budget.
use mathlib.Core.Path.{refl}
use native.Mathlib.Omega.{arith}
use Rattle.stream.specs.Stream.{closed}
use Rattle.stream.specs.Laws.{ClosedIsCarriedOn}

pub closed_is_carried_on : ClosedIsCarriedOn
unfolding closed
closed_is_carried_on now x =
    record { overrun = λ above. omega (arith, above); no_credit = λ below. omega (arith, below); charged = refl; recorded = refl }
