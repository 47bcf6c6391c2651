-- The stream served, its request, and the stream that loses a slot each go first.
use mathlib.Core.Bool.{false, false≢true}
use mathlib.Core.Path.{◌≡◌, refl, sym, ◌∙◌, subst}
use mathlib.Core.Logic.{⊎_elim}
use Prim.Native.Nat.{ℕ, ◌≤◌, ◌<◌}
use native.Mathlib.Omega.{arith}
use lib.Dec.{ltb}
use borrow.Author.Tests.{ltb-true, ltb-false, lt-ltb, le-ltb, eq-eqb}
use Rattle.table.proofs.Tests.{neither, le_or_lt}
use Rattle.table.proofs.Folds.{some_positive}
use Rattle.order.specs.Order.{distance, goes_before}
use Rattle.order.specs.declared.Order.{Order}
use Rattle.order.proofs.Orders.{places_are_ordered, nearest_taken, sweep_taken, alike}
use Rattle.time.specs.Exact.{Fraction}
use Rattle.session.specs.Session.{stream_at, place_at, slots_at, filled_at, some_filled, no_slot}
use Rattle.stream.specs.Choice.{expiry_of, expires_first}
use Rattle.session.specs.Choice.{deadline_at, taken_before, leading_at, leading_place, sent_before, chosen, expires_before, expiring}
use Rattle.session.specs.Laws.{ChosenGoesFirst, SentGoesFirst, NearestIsSent, SweepIsSent, ExpiringGoesFirst}
use Rattle.session.specs.declared.Session.{Session}
use Rattle.session.proofs.Sound.{Sound, sound_of, bounded}
use Rattle.stream.proofs.Leading.{leading_in, leading_is_first}
use Rattle.stream.proofs.Ranks.{Ranks, number_ranks, number_ties, place_ranks, fraction_ranks, fraction_ties, then_ranks}
use Rattle.stream.proofs.First.{goes_first}

-- streams are served by deadline, and then by the places of their requests
sent_ranks : (s : Session) (n : ℕ) → Ranks (sent_before s) n
unfolding sent_before
sent_ranks s n =
    then_ranks (number_ranks (deadline_at s) n) (number_ties (deadline_at s) n) (place_ranks s.order s.head (leading_place s) n)

-- the stream served is the first of those with a filled slot
pub chosen_goes_first : ChosenGoesFirst
unfolding some_filled chosen
chosen_goes_first s some = goes_first (filled_at s) (sent_before s) s.count (sent_ranks s s.count) some

-- a stream that does not go before another has no earlier deadline, and with the same one no place that is taken before
not_before : (s : Session) (a b : ℕ) → sent_before s a b ≡ false
    → (deadline_at s b ≤ deadline_at s a) × (deadline_at s a ≡ deadline_at s b → taken_before s (leading_place s a) (leading_place s b) ≡ false)
unfolding sent_before
not_before s a b h =
    let parts = neither (ltb (deadline_at s a) (deadline_at s b)) _ h in
    (ltb-false _ _ parts.0, λ same. rw (eq-eqb _ _ same) at parts.1)

-- and with the same deadline and such a place it does not go before
not_sooner : (s : Session) (a b : ℕ) → deadline_at s a ≡ deadline_at s b → taken_before s (leading_place s a) (leading_place s b) ≡ false
    → sent_before s a b ≡ false
unfolding sent_before
not_sooner s a b same after =
    rw (le-ltb (deadline_at s a) (deadline_at s b) (omega arith), eq-eqb _ _ same, after) refl

-- the stream served and its request together: of the whole set, the request sent goes first
pub sent_goes_first : SentGoesFirst
sent_goes_first s i j some l set =
    let among : j < filled_at s i = ltb-true _ _ set in
    let led = (chosen_goes_first s some).2 i l (omega arith) in
    let own = leading_is_first s.order s.head (stream_at s i).places (filled_at s i) j among in
    let behind = not_before s i (chosen s) led.0 in
    let onward : (a b c : ℕ) → taken_before s a b ≡ false → taken_before s b c ≡ false → taken_before s a c ≡ false = λ a b c. (places_are_ordered s.order s.head a b).1 c in
    record {
      of_the_set = lt-ltb _ _ (leading_in (taken_before s) (stream_at s (chosen s)).places (filled_at s (chosen s)) (chosen_goes_first s some).1);
      earliest = behind.0;
      first_place = λ same. onward (place_at s i j) (leading_place s i) (leading_place s (chosen s)) own.1 (behind.1 same);
      lower = λ same tie. ⊎_elim
          (λ (u : chosen s ≤ i). u)
          (λ (u : i < chosen s).
          let even = onward (leading_place s (chosen s)) (place_at s i j) (leading_place s i) tie own.1 in
          absurd (false≢true (sym (not_sooner s (chosen s) i (sym same) even) ∙ led.1 u)))
          (le_or_lt (chosen s) i);
      earlier = λ here tie.
          let there : j < filled_at s (chosen s) = rw here at among in
          let even : taken_before s (leading_place s (chosen s)) (place_at s (chosen s) j) ≡ false = rw here at tie in
          let first = leading_is_first s.order s.head (stream_at s (chosen s)).places (filled_at s (chosen s)) j there in
          ⊎_elim
          (λ (u : leading_at s (chosen s) ≤ j). u)
          (λ (u : j < leading_at s (chosen s)). absurd (false≢true (sym even ∙ first.2 u)))
          (le_or_lt (leading_at s (chosen s)) j);
    }

-- what that says of either order: a place that is not taken before one is no nearer, or swept no earlier; and one that is alike is not taken before
pub nearest_is_sent : NearestIsSent
nearest_is_sent s i j by some l set same =
    let first = sent_goes_first s i j some l set in
    let taken = leading_place s (chosen s) in
    let other = place_at s i j in
    let tied : distance s.head other ≡ distance s.head taken → taken_before s taken other ≡ false = λ e. subst (λ (o : Order). goes_before o s.head taken other ≡ false) (sym by) (le-ltb (distance s.head taken) (distance s.head other) (omega (arith, e))) in
    record {
      nearest = nearest_taken s.head taken other (subst (λ (o : Order). goes_before o s.head other taken ≡ false) by (first.first_place same));
      tie = λ e. (first.lower same (tied e), λ here. first.earlier here (tied e));
    }

pub sweep_is_sent : SweepIsSent
sweep_is_sent s i j by some l set same =
    let first = sent_goes_first s i j some l set in
    let taken = leading_place s (chosen s) in
    let other = place_at s i j in
    let tied : other ≡ taken → taken_before s taken other ≡ false = λ e. subst (λ (p : ℕ). taken_before s taken p ≡ false) (sym e) (alike s.order s.head taken) in
    record {
      swept = sweep_taken s.head taken other (subst (λ (o : Order). goes_before o s.head other taken ≡ false) by (first.first_place same));
      tie = λ e. (first.lower same (tied e), λ here. first.earlier here (tied e));
    }

-- slots expire by the exact fraction, and then by deadline: a sound session's budgets are 1 or more
expiry_ranks : (s : Session) → Sound s → Ranks (expires_before s) s.count
unfolding expires_first
expiry_ranks s q =
    let due : ℕ → ℕ = λ i. (stream_at s i).deadline.0 in
    let start : ℕ → Fraction = λ i. expiry_of (stream_at s i) in
    let budgets : (i : ℕ) → i < s.count → 1 ≤ (start i).below = λ i l. (bounded s q i l).budget_low in
    then_ranks (fraction_ranks start s.count budgets) (fraction_ties start s.count budgets) (number_ranks due s.count)

-- the stream that loses a slot is the first of those with one
pub expiring_goes_first : ExpiringGoesFirst
unfolding no_slot expiring
expiring_goes_first s t left =
    goes_first (slots_at s) (expires_before s) s.count (expiry_ranks s (sound_of s t)) (some_positive (slots_at s) s.count left)
