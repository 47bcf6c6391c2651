-- A table of which one desk is another: its streams, their number and sums over them, whichever desk it is.
use mathlib.Core.Bool.{Bool, true, false}
use mathlib.Core.Path.{◌≡◌, refl}
use Prim.Native.Nat.{ℕ, ◌+◌, ◌≤◌}
use native.Mathlib.Omega.{arith}
use lib.Dec.{eqb}
use borrow.Author.Tests.{eq-eqb, ne_eqb}
use Rattle.table.specs.Fold.{if}
use Rattle.table.specs.Reservations.{no_record}
use Rattle.table.specs.declared.reservations.Reservation.{Reservation}
use Rattle.table.proofs.Elements.{Each, each_append, each_left, each_right, total, total_append}
use Rattle.booking.specs.Book.{desk_of, with_desk, streams_of, streams_in, count_in}
use Rattle.booking.specs.declared.Desk.{Desk}
use Rattle.booking.specs.declared.Book.{Book}

-- what holds whichever way a test comes out
either : (P : Bool → Type 0) → P true → P false → (c : Bool) → P c
either P one two true = one
either P one two false = two

-- a desk, and a table of which it is another, by the test that tells which one it is
abbrev desk_by : Book → Bool → Desk
desk_by b c = if c b.first b.second

abbrev with_by : Book → Bool → Desk → Book
with_by b c d =
    record {
      worst = b.worst;
      span = b.span;
      padding = b.padding;
      unused = b.unused;
      first = if c d b.first;
      second = if c b.second d;
    }

module _ (b : Book) (desk : ℕ) where
  -- what holds of both desks holds of this one, and what holds of them and of another holds of both then
  pub desk_has : (P : Desk → Type 0) → P b.first → P b.second → P (desk_of b desk)
  unfolding desk_of if
  desk_has P one two = either (λ c. P (desk_by b c)) one two (eqb desk 1)

  pub first_has : (P : Desk → Type 0) (d : Desk) → P d → P b.first → P (with_desk b desk d).first
  unfolding with_desk if
  first_has P d this one = either (λ c. P (with_by b c d).first) this one (eqb desk 1)

  pub second_has : (P : Desk → Type 0) (d : Desk) → P d → P b.second → P (with_desk b desk d).second
  unfolding with_desk if
  second_has P d this two = either (λ c. P (with_by b c d).second) two this (eqb desk 1)

  -- the other desk's streams are counted with its own
  pub desk_count : (desk_of b desk).count ≤ count_in b
  desk_count = desk_has (λ d. d.count ≤ count_in b) (omega arith) (omega arith)

  module _ (d : Desk) where
    -- what was another desk is that one, and over it a third; and the same desk again makes the same table
    pub desk_with : desk_of (with_desk b desk d) desk ≡ d
    unfolding desk_of with_desk if
    desk_with = either (λ c. desk_by (with_by b c d) c ≡ d) refl refl (eqb desk 1)

    pub with_with : (x : Desk) → with_desk (with_desk b desk d) desk x ≡ with_desk b desk x
    unfolding with_desk if
    with_with x = either (λ c. with_by (with_by b c d) c x ≡ with_by b c x) refl refl (eqb desk 1)

    -- a desk with the same limit leaves both limits, and the other desk is as it was
    pub with_limits : d.limit ≡ (desk_of b desk).limit → ((with_desk b desk d).first.limit ≡ b.first.limit) × ((with_desk b desk d).second.limit ≡ b.second.limit)
    unfolding desk_of with_desk if
    with_limits =
        either
        (λ c. d.limit ≡ (desk_by b c).limit → ((with_by b c d).first.limit ≡ b.first.limit) × ((with_by b c d).second.limit ≡ b.second.limit))
        (λ e. (e, refl)) (λ e. (refl, e)) (eqb desk 1)

    pub second_stays : desk ≡ 1 → (with_desk b desk d).second ≡ b.second
    unfolding with_desk if
    second_stays e = rw (eq-eqb desk 1 e)

    pub first_stays : desk ≡ 2 → (with_desk b desk d).first ≡ b.first
    unfolding with_desk if
    first_stays e = rw (ne_eqb desk 1 (λ z. omega arith))

    -- how many streams there are then
    pub with_count : count_in (with_desk b desk d) + (desk_of b desk).count ≡ count_in b + d.count
    unfolding desk_of with_desk if
    with_count = either (λ c. count_in (with_by b c d) + (desk_by b c).count ≡ count_in b + d.count) (omega arith) (omega arith) (eqb desk 1)

    -- and what a sum over them is
    pub with_total : (f : Reservation → ℕ)
        → total no_record f (streams_in (with_desk b desk d)) + total no_record f (streams_of (desk_of b desk))
        ≡ total no_record f (streams_in b) + total no_record f (streams_of d)
    unfolding desk_of with_desk if
    with_total f =
        let sum = total_append no_record f in
        let old = sum (streams_of b.first) (streams_of b.second) in
        either
        (λ c. total no_record f (streams_in (with_by b c d)) + total no_record f (streams_of (desk_by b c)) ≡ total no_record f (streams_in b) + total no_record f (streams_of d))
        (omega (arith, sum (streams_of d) (streams_of b.second)))
        (omega (arith, sum (streams_of b.first) (streams_of d)))
        (eqb desk 1)

    -- what each stream passes, before and of the desk, each passes then
    pub with_each : (P : Reservation → Type 0) → Each no_record P (streams_in b) → Each no_record P (streams_of d) → Each no_record P (streams_in (with_desk b desk d))
    unfolding with_desk if
    with_each P all own =
        let one = streams_of b.first in
        let two = streams_of b.second in
        either
        (λ c. Each no_record P (streams_in (with_by b c d)))
        (each_append no_record P (streams_of d) two own (each_right no_record P one two all))
        (each_append no_record P one (streams_of d) (each_left no_record P one two all) own)
        (eqb desk 1)

  pub with_same : with_desk b desk (desk_of b desk) ≡ b
  unfolding desk_of with_desk if
  with_same = either (λ c. with_by b c (desk_by b c) ≡ b) refl refl (eqb desk 1)

  -- what each stream passes, each of the desk passes
  pub desk_each : (P : Reservation → Type 0) → Each no_record P (streams_in b) → Each no_record P (streams_of (desk_of b desk))
  desk_each P all =
      let one = streams_of b.first in
      let two = streams_of b.second in
      desk_has (λ d. Each no_record P (streams_of d)) (each_left no_record P one two all) (each_right no_record P one two all)

-- what the desks of two tables have in common, this one has
pub desk_alike : (f : Desk → ℕ) (a b : Book) (desk : ℕ) → f a.first ≡ f b.first → f a.second ≡ f b.second → f (desk_of a desk) ≡ f (desk_of b desk)
unfolding desk_of if
desk_alike f a b desk one two = either (λ c. f (desk_by a c) ≡ f (desk_by b c)) one two (eqb desk 1)
