-- A choice by a test, and refusals in order, as the tactics read them.
use mathlib.Core.Bool.{Bool, true, false, cond}
use mathlib.Core.Path.{◌≡◌, refl}
use Prim.Native.Nat.{ℕ, zero, suc}
use native.Mathlib.Omega.{arith}
use borrow.Author.Tests.{ne_eqb}
use lib.Dec.{eqb}
use Rattle.table.specs.Fold.{if}
use Rattle.table.specs.Refusal.{given, ◌or_next◌}

pub if_is_cond : {A : Type 0} (b : Bool) (x y : A) → if b x y ≡ cond b x y
unfolding if
if_is_cond true x y = refl
if_is_cond false x y = refl

pub given_is_cond : (b : Bool) (n : ℕ) → given b n ≡ cond b n 0
unfolding given
given_is_cond true n = refl
given_is_cond false n = refl

pub next_is_cond : (n m : ℕ) → (n or_next m) ≡ cond (eqb n 0) m n
unfolding ◌or_next◌
next_is_cond zero m = refl
next_is_cond (suc n) m = rw (ne_eqb (suc n) 0 (λ e. omega arith))

pub ruleset choices = (if_is_cond, given_is_cond, next_is_cond)
