-- Turns of the loops over the events of a trace: what they have counted, copied and listed.
use mathlib.Core.Bool.{Bool, true, false, ◌&&◌}
use mathlib.Core.Path.{◌≡◌, refl, sym, ◌∙◌}
use mathlib.Core.List.{List, [], ◌∷◌, ◌++◌, map, map-append}
use Prim.Native.Nat.{ℕ, suc, ◌+◌, ◌-◌, ◌*◌, ◌≤◌, ◌<◌}
use native.Mathlib.Numerals.{add-one}
use native.Mathlib.Omega.{arith}
use lib.Dec.{ltb}
use lib.ListN.{length, take, drop, set, get_or, length-map}
use lib.Seq.{sets, drop-cons, set_at, append_snoc}
use Rattle.table.specs.Fold.{if, count_to}
use Rattle.table.proofs.Folds.{count_le, count_split}
use Rattle.cells.proofs.Runs.{sets_next}
use Rattle.file.specs.File.{event_size}
use Rattle.file.specs.Reading.{events_in, event_at, formed}
use Rattle.repair.specs.Salvage.{is_kept, event_bytes, kept_to, dropped_at, pair_of, drops_to}
use Rattle.repair.proofs.Kept.{kept_test, kept_length, kept_more, kept_stays, drops_length, drops_more, drops_stay}

-- so many at most pass a test among those that come after the first n
count_part : (f : ℕ → Bool) (n m : ℕ) → n ≤ m → count_to f m ≤ count_to f n + (m - n)
count_part f n m le =
    let whole : n + (m - n) ≡ m = omega arith in
    omega (arith, rw whole at (count_split f n (m - n)), count_le (λ i. f (n + i)) (m - n))

-- an element more, where a list is written from its start on
pub put_one : {A : Type 0} (front l : List A) (n : ℕ) (x d : A) → length front ≡ n → n < length l
    → set (front ++ drop n l) n x ≡ (front ++ (x ∷ [])) ++ drop (suc n) l
put_one front l n x d e more = rw (drop-cons l n d more) (set_at front (get_or l n d) (drop (suc n) l) x n e ∙ sym (append_snoc front x (drop (suc n) l)))

module _ (room : ℕ) (trace : List ℕ) (i kept : ℕ) (so_far : kept ≡ count_to (is_kept room trace) i) where
  -- what the test of a turn says of its event
  pub turn_test : (b answer : Bool) → answer ≡ (formed (event_at trace i) && ltb kept room) → answer ≡ b → is_kept room trace i ≡ b
  turn_test b answer e h = sym (kept_test room trace i) ∙ rw (← so_far) (sym e ∙ h)

  pub counted_more : is_kept room trace i ≡ true → kept + 1 ≡ count_to (is_kept room trace) (i + 1)
  unfolding count_to if
  counted_more h = rw (add-one, add-one, h, so_far)

  pub counted_same : is_kept room trace i ≡ false → kept ≡ count_to (is_kept room trace) (i + 1)
  unfolding count_to if
  counted_same h = rw (add-one, h) so_far

  pub kept_low : kept ≤ i
  kept_low = rw so_far (count_le (is_kept room trace) i)

  module _ (start out : List ℕ) (copied : out ≡ sets start 0 (kept_to room trace i)) where
    pub copied_more : is_kept room trace i ≡ true → i < events_in trace → (size : ℕ) → size ≡ event_size
        → sets out (event_size * kept) (take size (drop (event_size * i) trace)) ≡ sets start 0 (kept_to room trace (i + 1))
    copied_more h l size e =
        let n : length (kept_to room trace i) ≡ event_size * kept = kept_length room trace i (omega arith) ∙ rw (← so_far) refl in
        let none : 0 + event_size * kept ≡ event_size * kept = omega arith in
        rw (copied, e, add-one, kept_more room trace i h, ← none)
        (sets_next (kept_to room trace i) (event_bytes trace i) start 0 (event_size * kept) n)

    pub copied_same : is_kept room trace i ≡ false → out ≡ sets start 0 (kept_to room trace (i + 1))
    copied_same h = rw (add-one, kept_stays room trace i h) copied

  module _ (at : ℕ) where
    dropped : length (map pair_of (drops_to room at trace i)) ≡ i - kept
    dropped = length-map (drops_to room at trace i) pair_of ∙ drops_length room at trace i ∙ rw (← so_far) refl

    -- there is a place for the next one, where there is one for each
    pub place_left : is_kept room trace i ≡ false → i < events_in trace → (places : ℕ)
        → length (drops_to room at trace (events_in trace)) ≤ places → i - kept < places
    place_left h l places room_for =
        let all = drops_length room at trace (events_in trace) in
        let part = count_part (is_kept room trace) (i + 1) (events_in trace) (omega arith) in
        let same = counted_same h in
        omega (arith, all, part, same, kept_low, room_for)

    module _ (start changes : List (List ℕ)) (listed : changes ≡ map pair_of (drops_to room at trace i) ++ drop (i - kept) start) where
      pub listed_more : is_kept room trace i ≡ false → i - kept < length start
          → set changes (i - kept) (pair_of (dropped_at (at + event_size * i))) ≡ map pair_of (drops_to room at trace (i + 1)) ++ drop (i + 1 - kept) start
      listed_more h more =
          let one : i + 1 - kept ≡ suc (i - kept) = omega (arith, kept_low) in
          let drops = drops_to room at trace i in
          rw (listed, one, add-one, drops_more room at trace i h, map-append pair_of drops (dropped_at (at + event_size * i) ∷ []))
          (put_one (map pair_of drops) start (i - kept) (pair_of (dropped_at (at + event_size * i))) [] dropped more)

      pub listed_same : is_kept room trace i ≡ true → changes ≡ map pair_of (drops_to room at trace (i + 1)) ++ drop (i + 1 - (kept + 1)) start
      listed_same h =
          let same : i + 1 - (kept + 1) ≡ i - kept = omega arith in
          let stay : drops_to room at trace (i + 1) ≡ drops_to room at trace i = rw add-one (drops_stay room at trace i h) in
          rw (stay, same) listed
