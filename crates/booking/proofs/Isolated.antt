-- What a desk is told depends on its own streams, its limit, the number of all streams, the load and the smallest period, and on nothing else of the other desk.
use mathlib.Core.Bool.{true}
use mathlib.Core.List.{List, [], ◌∷◌, ◌++◌}
use mathlib.Core.Path.{◌≡◌, refl, sym, ◌∙◌, ap, ap₂, subst}
use mathlib.Core.Logic.{⊎_elim}
use Prim.Native.Nat.{ℕ, suc, ◌+◌, ◌-◌, ◌*◌, ◌/◌, min, ◌≤◌, ◌<◌}
use native.Mathlib.Omega.{arith}
use lib.ListN.{length}
use lib.Dec.{leb, ltb, eqb}
use borrow.Author.Tests.{leb-false, eq-eqb, ne_eqb}
use Rattle.table.specs.Fold.{if, sum_to}
use Rattle.table.specs.Refusal.{given, ◌or_next◌, outside}
use Rattle.table.specs.Ranges.{streams_max}
use Rattle.table.specs.Admission.{share_of, shares_of, smallest_period, load_of, stream_refusal, judged_load}
use Rattle.table.specs.Reservations.{no_record, record_at, lent_table}
use Rattle.table.specs.declared.reservations.Reservation.{Reservation}
use Rattle.table.proofs.Tests.{le_or_lt, given_none, or_next_agree}
use Rattle.table.proofs.Folds.{smallest_le, smallest_is}
use Rattle.table.proofs.Elements.{Each, each_left, each_right, total, total_cons, total_append}
use Rattle.booking.specs.Book.{desk_of, with_desk, streams_of, streams_in, count_in, table_in, shares_in, is_sound}
use Rattle.booking.specs.Bookings.{with_stream, without_stream, added, accepted, refused, desk_refusal, add_refusal, withdraw_refusal, booking_of}
use Rattle.booking.specs.Laws.{desk_in, Alike, DesksAreIsolated}
use Rattle.booking.specs.declared.Desk.{Desk}
use Rattle.booking.specs.declared.Book.{Book}
use Rattle.booking.specs.declared.Booking.{Booking}
use Rattle.booking.specs.declared.Booking.TheVariants.{Add, Withdraw}
use Rattle.booking.proofs.Streams.{shares, load_judged}
use Rattle.booking.proofs.Loads.{smallest, smallest_are, load_are}
use Rattle.booking.proofs.Desks.{desk_each, desk_with, with_with, with_same, with_total, with_each}
use Rattle.booking.proofs.Sound.{Sound, sound_of, all_long, sound_ranges, sound_fits, own_streams, added_long, added_each}
use Rattle.booking.proofs.Outcomes.{refusal_of, own_after, outcome}

-- what the smallest period is with one more, and the load: `share` is g × (H / p) of the new one
abbrev next_smallest : ℕ → ℕ → ℕ → ℕ
next_smallest count least p = if (eqb count 0) p (min least p)

abbrev next_load : ℕ → ℕ → ℕ → ℕ → ℕ → ℕ → ℕ → ℕ
next_load worst span count load least share p =
    if (eqb count 0) 0 (load - worst * (span / least)) + share + worst * (span / next_smallest count least p)

module _ (b : Book) (s : Sound b) (desk e p : ℕ) (space : count_in b < streams_max) where
  abbrev r : Reservation
  r = record { reserved = e; period = p }

  abbrev own : Desk
  own = with_stream (desk_of b desk) e p

  abbrev all : List Reservation
  all = streams_in b

  abbrev more : List Reservation
  more = streams_in (added b desk e p)

  own_are : streams_of own ≡ streams_of (desk_of b desk) ++ (r ∷ [])
  own_are = own_streams b s desk e p space

  -- a sum has one term more
  more_total : (f : Reservation → ℕ) → total no_record f more ≡ total no_record f all + f r
  unfolding sum_to
  more_total f =
      let before = streams_of (desk_of b desk) in
      let owns = ap (total no_record f) own_are in
      omega (arith, with_total b desk own f, total_append no_record f before (r ∷ []), total_cons no_record f r [], owns)

  -- what each stream passes with the new one, each passes without, and the new one does
  each_own : (P : Reservation → Type 0) → Each no_record P more → Each no_record P (streams_of (desk_of b desk) ++ (r ∷ []))
  each_own P each =
      subst (Each no_record P) own_are
      (subst (λ (d : Desk). Each no_record P (streams_of d)) (desk_with b desk own) (desk_each (added b desk e p) desk P each))

  each_before : (P : Reservation → Type 0) → Each no_record P more → Each no_record P all
  each_before P each =
      let d = desk_of b desk in
      subst (λ (x : Book). Each no_record P (streams_in x)) (with_with b desk own d ∙ with_same b desk)
      (with_each (added b desk e p) desk d P each (each_left no_record P (streams_of d) (r ∷ []) (each_own P each)))

  each_new : (P : Reservation → Type 0) → Each no_record P more → P r
  each_new P each = each_right no_record P (streams_of (desk_of b desk)) (r ∷ []) (each_own P each) 0 (omega arith)

  -- the smallest period: the new one where there was no other, else the smaller of both
  more_long : length more ≡ suc (count_in b)
  more_long = added_long b s desk e p space

  least_alone : count_in b ≡ 0 → smallest more ≡ p
  least_alone none =
      smallest_is (λ q. q ≡ p) (λ i. (record_at more i).period) (length more) (omega (arith, more_long))
      (added_each b s desk e p space (λ x. x.period ≡ p) (λ i l. absurd (omega (arith, all_long b s))) refl)

  least_of_both : 1 ≤ count_in b → smallest more ≡ min (smallest all) p
  least_of_both some =
      let least : Each no_record (λ x. smallest more ≤ x.period) more = smallest_le (λ i. (record_at more i).period) (length more) in
      let before : smallest more ≤ smallest all =
      smallest_is (λ q. smallest more ≤ q) (λ i. (record_at all i).period) (length all) (omega (arith, all_long b s)) (each_before (λ x. smallest more ≤ x.period) least) in
      let new : smallest more ≤ p = each_new (λ x. smallest more ≤ x.period) least in
      let low : min (smallest all) p ≤ smallest more =
      smallest_is (λ q. min (smallest all) p ≤ q) (λ i. (record_at more i).period) (length more) (omega (arith, more_long))
      (added_each b s desk e p space (λ x. min (smallest all) p ≤ x.period) (λ i l. omega (arith, smallest_le (λ j. (record_at all j).period) (length all) i l)) (omega arith)) in
      omega arith

  -- so the load with one more is told by the number of all streams, the load and the smallest period
  load_next : load_of (table_in (added b desk e p))
      ≡ next_load b.worst b.span (count_in b) (judged_load (table_in b)) (smallest_period (table_in b)) (share_of b.worst b.span b.padding e p) p
  unfolding with_desk if sum_to
  load_next =
      let few : length more ≤ streams_max = omega (arith, more_long) in
      let load = load_are b.worst b.span b.padding more (omega (arith, more_long)) few in
      let sum = more_total (λ x. share_of b.worst b.span b.padding x.reserved x.period) in
      let long = all_long b s in
      let term : ℕ → ℕ = λ q. b.worst * (b.span / q) in
      ⊎_elim
      (λ (some : 1 ≤ count_in b).
      let are = smallest_are b.worst b.span b.padding all (omega arith) (omega arith) in
      let judged = load_judged b.worst b.span b.padding all (sound_ranges b s) (omega arith) (omega arith) (sound_fits b s) in
      let before = load_are b.worst b.span b.padding all (omega arith) (omega arith) in
      let new : smallest more ≡ min (smallest_period (table_in b)) p = least_of_both some ∙ ap (λ (q : ℕ). min q p) (sym are) in
      rw (ne_eqb (count_in b) 0 (λ z. omega arith)) (omega (arith, ap term are, ap term new)))
      (λ (none : count_in b < 1).
      let zero-count : count_in b ≡ 0 = omega arith in
      let nothing : shares b.worst b.span b.padding all ≡ 0 = ap (sum_to _) (long ∙ zero-count) in
      rw (eq-eqb (count_in b) 0 zero-count) (omega (arith, ap term (least_alone zero-count))))
      (le_or_lt 1 (count_in b))

-- three numbers that are the same make the same
agree₃ : {A : Type 0} (f : ℕ → ℕ → ℕ → A) {x y z u v w : ℕ} → x ≡ u → y ≡ v → z ≡ w → f x y z ≡ f u v w
agree₃ f {x} {y} {z} {u} {v} {w} p q r = ap₂ (λ (m n : ℕ). f m n z) p q ∙ ap (f u v) r

-- the refusals of two tables that are alike to a desk
module _ (a b : Book) (ha : is_sound a ≡ true) (hb : is_sound b ≡ true) (desk : ℕ) (same : Alike desk a b) where
  numbers_same : {A : Type 0} (f : ℕ → ℕ → ℕ → A) → f a.worst a.span a.padding ≡ f b.worst b.span b.padding
  numbers_same f = agree₃ f same.worst same.span same.padding

  known_same : {A : Type 0} (f : ℕ → ℕ → ℕ → A)
      → f (count_in a) (judged_load (table_in a)) (smallest_period (table_in a)) ≡ f (count_in b) (judged_load (table_in b)) (smallest_period (table_in b))
  known_same f = agree₃ f same.count same.load same.smallest

  desk_same : desk_refusal a desk ≡ desk_refusal b desk
  unfolding desk_refusal
  desk_same = rw (ha, hb)

  withdraw_same : (number : ℕ) → withdraw_refusal a desk number ≡ withdraw_refusal b desk number
  unfolding withdraw_refusal
  withdraw_same number = ap₂ (λ (n : ℕ) (d : Desk). n or_next given (outside 1 d.count number) 19) desk_same same.own

  module _ (e p : ℕ) where
    abbrev own_b : Desk
    own_b = with_stream (desk_of b desk) e p

    limit_same : given (ltb (with_stream (desk_of a desk) e p).limit (shares_in a (with_stream (desk_of a desk) e p))) 18 ≡ given (ltb own_b.limit (shares_in b own_b)) 18
    limit_same =
        ap (λ (d : Desk). let own = with_stream d e p in given (ltb own.limit (shares_in a own)) 18) same.own
        ∙ numbers_same (λ w h k. given (ltb own_b.limit (shares_of (lent_table w h k (streams_of own_b)))) 18)

    load_same : count_in a < streams_max → given (ltb a.span (load_of (table_in (added a desk e p)))) 7 ≡ given (ltb b.span (load_of (table_in (added b desk e p)))) 7
    load_same space =
        let load =
        load_next a (sound_of a ha) desk e p space
        ∙ numbers_same (λ w h k. next_load w h (count_in a) (judged_load (table_in a)) (smallest_period (table_in a)) (share_of w h k e p) p)
        ∙ known_same (λ n l q. next_load b.worst b.span n l q (share_of b.worst b.span b.padding e p) p)
        ∙ sym (load_next b (sound_of b hb) desk e p (omega (arith, same.count))) in
        ap₂ (λ (h l : ℕ). given (ltb h l) 7) same.span load

    add_same : add_refusal a desk e p ≡ add_refusal b desk e p
    unfolding add_refusal
    add_same =
        or_next_agree _ _ _ _ desk_same
        (λ _. or_next_agree _ _ _ _ (ap (λ (n : ℕ). given (leb streams_max n) 1) same.count)
        (λ free. or_next_agree _ _ _ _ (numbers_same (λ w h k. stream_refusal w h k e p))
        (λ _. or_next_agree _ _ _ _ limit_same
        (λ _. load_same (leb-false streams_max (count_in a) (given_none _ 0 free))))))

-- and of any booking
refusal_same : (a b : Book) (x : Booking) → is_sound a ≡ true → is_sound b ≡ true → Alike (desk_in x) a b → refusal_of a x ≡ refusal_of b x
refusal_same a b (Add desk e p) ha hb same = add_same a b ha hb desk same e p
refusal_same a b (Withdraw desk number) ha hb same = withdraw_same a b ha hb desk same number

own_same : (a b : Book) (x : Booking) → desk_of a (desk_in x) ≡ desk_of b (desk_in x) → own_after a x ≡ own_after b x
own_same a b (Add desk e p) same = ap (λ (d : Desk). with_stream d e p) same
own_same a b (Withdraw desk number) same = ap (λ (d : Desk). without_stream d number) same

-- its receipt and its desk afterwards are told by its refusal, and by the desk before and after
receipt_is : (b : Book) (x : Booking) → (booking_of b x).receipt ≡ if (eqb (refusal_of b x) 0) (accepted (own_after b x).count) (refused (refusal_of b x))
unfolding if
receipt_is b x =
    outcome (λ r. r.receipt ≡ if (eqb (refusal_of b x) 0) (accepted (own_after b x).count) (refused (refusal_of b x))) b x
    (λ none. rw (eq-eqb (refusal_of b x) 0 none))
    (λ some. rw (ne_eqb (refusal_of b x) 0 some))

desk_after : (b : Book) (x : Booking) → desk_of (booking_of b x).book (desk_in x) ≡ if (eqb (refusal_of b x) 0) (own_after b x) (desk_of b (desk_in x))
unfolding if
desk_after b x =
    outcome (λ r. desk_of r.book (desk_in x) ≡ if (eqb (refusal_of b x) 0) (own_after b x) (desk_of b (desk_in x))) b x
    (λ none. rw (eq-eqb (refusal_of b x) 0 none) (desk_with b (desk_in x) (own_after b x)))
    (λ some. rw (ne_eqb (refusal_of b x) 0 some))

pub desks_are_isolated : DesksAreIsolated
desks_are_isolated a b x ha hb same =
    let refusal = refusal_same a b x ha hb same in
    let own = own_same a b x same.own in (
      receipt_is a x ∙ ap₂ (λ (n : ℕ) (d : Desk). if (eqb n 0) (accepted d.count) (refused n)) refusal own ∙ sym (receipt_is b x),
      desk_after a x
          ∙ ap₂ (λ (n : ℕ) (d : Desk). if (eqb n 0) d (desk_of a (desk_in x))) refusal own
          ∙ ap (if (eqb (refusal_of b x) 0) (own_after b x)) same.own
          ∙ sym (desk_after b x),
    )
