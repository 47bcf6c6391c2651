-- What a test hands out: it is there exactly where the test passes.
use mathlib.Core.Bool.{Bool, true, false}
use mathlib.Core.Path.{◌≡◌, refl}
use Rattle.std.proofs.Common.{Some, None}
use Rattle.table.specs.Fold.{if}

pub some_if : {A : Type 0} (b : Bool) {x y : A} → (if b (Some x) None) ≡ Some y → (b ≡ true) × (x ≡ y)
unfolding if
some_if true e = (refl, cc)
some_if false e = cc

pub none_if : {A : Type 0} (b : Bool) (x : A) → (if b (Some x) None) ≡ None → b ≡ false
unfolding if
none_if true x e = cc
none_if false x e = refl
