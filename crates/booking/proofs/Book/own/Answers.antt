-- `Book::own` gives 31 and 30 in their order, and else the desk.
use mathlib.Core.Bool.{true, ◌||◌}
use mathlib.Core.Path.{◌≡◌, refl}
use Prim.Native.Nat.{ℕ, zero, suc}
use native.Mathlib.Omega.{arith}
use lib.Dec.{ltb}
use borrow.Author.Tests.{lt-ltb, le-ltb}
use borrow.Author.Rules.{rules}
use Rattle.table.specs.Fold.{if}
use Rattle.table.specs.Refusal.{given, ◌or_next◌, outside}
use Rattle.booking.specs.Book.{desk_of}
use Rattle.booking.specs.Bookings.{desk_refusal}
use Rattle.booking.proofs.Book.own.Goals as goal

-- what is neither 1 nor 2 is no desk
neither : (desk : ℕ) → (desk ≡ 1 → ⊥) → (desk ≡ 2 → ⊥) → (ltb desk 1 || ltb 2 desk) ≡ true
neither zero one two = refl
neither (suc zero) one two = absurd (one refl)
neither (suc (suc zero)) one two = absurd (two refl)
neither (suc (suc (suc n))) one two =
    rw (le-ltb (suc (suc (suc n))) 1 (omega arith), lt-ltb 2 (suc (suc (suc n))) (omega arith))

pub returns-then-not-is_sound-clause-number : goal.returns-then-not-is_sound-clause-number
unfolding desk_refusal given ◌or_next◌
returns-then-not-is_sound-clause-number c = rw (← c.if-not-is_sound.ensures)

pub returns-in-1-clause-number : goal.returns-in-1-clause-number
unfolding desk_refusal given ◌or_next◌ outside
returns-in-1-clause-number c = rw (← c.if-not-is_sound.ensures, c.in-1.is)

pub returns-in-1-clause-value : goal.returns-in-1-clause-value
unfolding desk_of if
returns-in-1-clause-value c = rw c.in-1.is

pub returns-in-2-clause-number : goal.returns-in-2-clause-number
unfolding desk_refusal given ◌or_next◌ outside
returns-in-2-clause-number c = rw (← c.if-not-is_sound.ensures, c.in-2.is)

pub returns-in-2-clause-value : goal.returns-in-2-clause-value
unfolding desk_of if
returns-in-2-clause-value c = rw c.in-2.is

pub returns-in_default-clause-number : goal.returns-in_default-clause-number
unfolding desk_refusal given ◌or_next◌ outside
returns-in_default-clause-number c =
    let none : (ltb c.args.desk 1 || ltb 2 c.args.desk) ≡ true = neither c.args.desk (search rules) (search rules) in
    rw (← c.if-not-is_sound.ensures, none)
