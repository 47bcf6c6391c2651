-- What is refused and what is listed of a piece.
use mathlib.Core.Bool.{Bool, true, false, ◌||◌, or-true}
use mathlib.Core.Logic.{◌⊎◌, inl, inr, ⊎_elim}
use mathlib.Core.Path.{◌≡◌, refl}
use mathlib.Core.List.{List}
use Prim.Native.Nat.{ℕ, ◌+◌, ◌-◌, ◌^◌, ◌≤◌, ◌<◌}
use native.Mathlib.Omega.{arith}
use borrow.Author.Tests.{le-leb, lt-leb, le-ltb, ltb-true}
use lib.Dec.{ltb}
use lib.ListN.{length}
use Rattle.std.specs.declared.result.Result.TheVariants.{Ok, Err}
use Rattle.table.specs.Fold.{if}
use Rattle.file.specs.declared.refusal.Refusal.TheVariants.{Room as NoRoom}
use Rattle.repair.specs.Salvage.{put_on}
use Rattle.repair.specs.Pieces.{changes_in, rest_after, is_refused, list_of, list_on}
use Rattle.repair.specs.Laws.{PieceIsListed}
use Rattle.repair.specs.declared.pieces.Rest.{Rest}
use Rattle.repair.proofs.Kept.{changes_few}

-- nothing is refused where there is a place for each change and the end is within 63 bits
not_refused : (rest : Rest) (piece : List ℕ) (places : ℕ) → length (changes_in rest piece) ≤ places → rest.at + length piece < 2 ^ 63
    → is_refused rest piece places ≡ false
unfolding is_refused
not_refused rest piece places few low = rw (le-ltb places (length (changes_in rest piece)) few, lt-leb (2 ^ 63) (rest.at + length piece) low)

pub piece_is_listed : PieceIsListed
unfolding list_of if
piece_is_listed rest piece places few low =
    rw (not_refused rest piece places (omega (arith, changes_few rest.room rest.at piece)) low)

module _ (rest : Rest) (piece : List ℕ) (changes : List (List ℕ)) where
  refused_then : is_refused rest piece (length changes) ≡ true
      → (Err NoRoom ≡ list_of rest piece (length changes)) × (changes ≡ list_on rest piece changes)
  unfolding list_of list_on if
  refused_then h = (rw h, rw h)

  -- a piece that ends past 63 bits is refused
  far_refused : 2 ^ 63 ≤ rest.at + length piece → is_refused rest piece (length changes) ≡ true
  unfolding is_refused
  far_refused l = rw (le-leb (2 ^ 63) (rest.at + length piece) l) (or-true (ltb (length changes) (length (changes_in rest piece))))

  some_test : (a b : Bool) → (a || b) ≡ true → (a ≡ true) ⊎ (b ≡ true)
  some_test true b h = inl refl
  some_test false b h = inr h

  -- the start is past 63 bits, or there are too few places
  pub first_refused : (listed : ℕ) → listed ≡ length (changes_in rest piece) → (ltb 9_223_372_036_854_775_807 rest.at || ltb (length changes) listed) ≡ true
      → (Err NoRoom ≡ list_of rest piece (length changes)) × (changes ≡ list_on rest piece changes)
  unfolding is_refused
  first_refused listed e h = refused_then (⊎_elim far few (some_test _ _ h))
    where
      far : ltb 9_223_372_036_854_775_807 rest.at ≡ true → is_refused rest piece (length changes) ≡ true
      far t = far_refused (omega (arith, ltb-true 9_223_372_036_854_775_807 rest.at t))

      few : ltb (length changes) listed ≡ true → is_refused rest piece (length changes) ≡ true
      few t = rw (← e, t) refl

  -- the end is
  pub then_refused : 9_223_372_036_854_775_807 - rest.at < length piece → rest.at ≤ 9_223_372_036_854_775_807
      → (Err NoRoom ≡ list_of rest piece (length changes)) × (changes ≡ list_on rest piece changes)
  then_refused l low = refused_then (far_refused (omega arith))

  pub then_listed : length (changes_in rest piece) ≤ length changes → rest.at + length piece ≤ 9_223_372_036_854_775_807
      → (Ok (record { changes = length (changes_in rest piece); rest = rest_after rest piece }) ≡ list_of rest piece (length changes))
      × (put_on (changes_in rest piece) changes ≡ list_on rest piece changes)
  unfolding list_of list_on if
  then_listed few low =
      let fits = not_refused rest piece (length changes) few (omega arith) in
      (rw fits, rw fits)
