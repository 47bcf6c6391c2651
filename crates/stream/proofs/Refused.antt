-- Whether something is refused, by its number: 0 refuses nothing.
use mathlib.Core.Bool.{Bool, true, false, not}
use mathlib.Core.Path.{◌≡◌, refl}
use lib.Dec.{eqb}
use borrow.Author.Tests.{ne_eqb}
use Rattle.std.proofs.Common.{Result, Ok, Err, is_err}
use Rattle.table.specs.Refusal.{refusal_number, refused_by}
use Rattle.table.specs.declared.refusal.Refusal.{Refusal}
use Rattle.table.proofs.Margins.{refusal_some}

-- a number is 0 or it is not
pub by_test : (b : Bool) → b ≡ not (not b)
by_test true = refl
by_test false = refl

pub refused_is : {A : Type 0} (r : Result A Refusal) → is_err r ≡ not (eqb (refused_by r) 0)
refused_is (Ok x) = refl
refused_is (Err e) = rw (ne_eqb (refusal_number e) 0 (refusal_some e))
