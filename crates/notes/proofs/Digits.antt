-- A digit more in a number of 64 bits, and a letter more in a name: what a checked product and a checked sum come to.
use mathlib.Core.Bool.{Bool, true, false}
use mathlib.Core.Path.{◌≡◌, ◌∙◌}
use Prim.Native.Nat.{ℕ, ◌^◌, ◌≤◌, ◌<◌}
use native.Mathlib.Omega.{arith}
use borrow.Author.Tests.{lt-ltb, le-ltb}
use Rattle.std.specs.Prelude.{Option, None, Some}
use Rattle.std.specs.Option.{SomeIff}
use Rattle.table.specs.Fold.{if}
use Rattle.table.proofs.Tests.{by_if}
use Rattle.notes.specs.declared.draft.Place.TheVariants.{Within}
use Rattle.notes.specs.declared.draft.Draft.{Draft}
use Rattle.notes.specs.Draft.{takes_name, drafted, amiss, is_letter, is_digit, longer, lengthens, longer_if, lettered, valued}

-- whether the kind is right for the byte
abbrev belongs : Bool → ℕ → Bool
belongs name byte = if name (is_letter byte) (is_digit byte)

pub wrong_kind : (name : Bool) (n byte : ℕ) → belongs name byte ≡ false → None ≡ longer_if name n byte
unfolding longer_if lengthens if
wrong_kind name n byte h = rw h

module _ (name : Bool) (n byte : ℕ) (right : belongs name byte ≡ true) where
  pub no_room : 2 ^ 64 ≤ longer name n byte → None ≡ longer_if name n byte
  unfolding longer_if lengthens if
  no_room h = rw (right, le-ltb (longer name n byte) (2 ^ 64) h)

  pub with_room : longer name n byte < 2 ^ 64 → Some (longer name n byte) ≡ longer_if name n byte
  unfolding longer_if lengthens if
  with_room h = rw (right, lt-ltb (longer name n byte) (2 ^ 64) h)

  -- what a checked sum comes to
  pub checked : (r : Option ℕ) (sum : ℕ) → sum ≡ longer name n byte → SomeIff r (sum < 2 ^ 64) sum → r ≡ longer_if name n byte
  checked None sum is h = no_room (not_below (rw is at h))
    where
      not_below : (longer name n byte < 2 ^ 64 → ⊥) → 2 ^ 64 ≤ longer name n byte
      not_below none = omega (arith, none)
  checked (Some m) sum is h =
      let same : m ≡ longer name n byte = h.1 ∙ is in
      rw same (with_room (rw is at h.0))

-- ---- and what the line is with it

-- there is a byte more exactly where it lengthens
pub longer_some : (name : Bool) (n byte m : ℕ) → Some m ≡ longer_if name n byte → (lengthens name n byte ≡ true) × (m ≡ longer name n byte)
unfolding longer_if
longer_some name n byte m =
    by_if (λ (o : Option ℕ). Some m ≡ o → (lengthens name n byte ≡ true) × (m ≡ longer name n byte)) (lengthens name n byte) (Some (longer name n byte)) None
    (λ fine is. (fine, cc))
    (λ _ is. cc)

pub longer_none : (name : Bool) (n byte : ℕ) → None ≡ longer_if name n byte → lengthens name n byte ≡ false
unfolding longer_if
longer_none name n byte =
    by_if (λ (o : Option ℕ). None ≡ o → lengthens name n byte ≡ false) (lengthens name n byte) (Some (longer name n byte)) None
    (λ _ is. cc)
    (λ bad _. bad)

module _ (d : Draft) (byte : ℕ) where
  pub lettered_on : (m : ℕ) → Some m ≡ longer_if true d.word byte → drafted Within 1 m d.earlier d.before d.last ≡ lettered d byte
  unfolding lettered if
  lettered_on m is = let h = longer_some true d.word byte m is in rw (h.0, h.1)

  pub lettered_off : None ≡ longer_if true d.word byte → amiss d ≡ lettered d byte
  unfolding lettered if
  lettered_off is = rw (longer_none true d.word byte is)

  pub valued_on : (m : ℕ) → Some m ≡ longer_if (takes_name d.word) d.last byte → drafted Within d.fields d.word d.earlier d.before m ≡ valued d byte
  unfolding valued if
  valued_on m is = let h = longer_some (takes_name d.word) d.last byte m is in rw (h.0, h.1)

  pub valued_off : None ≡ longer_if (takes_name d.word) d.last byte → amiss d ≡ valued d byte
  unfolding valued if
  valued_off is = rw (longer_none (takes_name d.word) d.last byte is)
