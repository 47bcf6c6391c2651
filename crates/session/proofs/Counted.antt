-- A session judged stream by stream: what a census holds of the streams passed, and that it decides as the document's whole test does.
use mathlib.Core.Bool.{Bool, true, false, ◌&&◌, false≢true}
use mathlib.Core.Path.{◌≡◌, refl, sym, ap, subst, ◌∙◌}
use mathlib.Core.Logic.{⊎_elim}
use Prim.Native.Nat.{ℕ, zero, suc, ◌*◌, ◌/◌, ◌≤◌, ◌<◌}
use native.Mathlib.Numerals.{add-one}
use native.Mathlib.Omega.{arith}
use native.Mathlib.Nat.{mul-le-mul}
use lib.ListN.{get_or, get_or-map}
use lib.Dec.{leb, eqb}
use borrow.Author.Tests.{leb-true, eqb-true, eqb-false, le-leb, le-ltb, eq-eqb}
use Rattle.std.proofs.Common.{Option, Some, None}
use Rattle.table.specs.Fold.{sum_to, smallest_to}
use Rattle.table.specs.Refusal.{given, ◌or_next◌}
use Rattle.table.specs.Admission.{period_at, share_of, share_at, stream_refusal_at, numbers_refusal, stream_refusal, streams_refusal, shares_of, smallest_period, load_of, admission_of}
use Rattle.table.specs.declared.numbers.Numbers.{Numbers}
use Rattle.table.specs.Whole.{eq_z}
use Rattle.table.specs.Margin.{less_load, margin_of}
use Rattle.table.proofs.Tests.{both, or_next_none, le_or_lt}
use Rattle.table.proofs.Folds.{at_or_below, first_none, first_all, sum_agree, sum_high, smallest_agree, smallest_is}
use Rattle.table.proofs.Whole.{same_is, is_same}
use Rattle.table.proofs.Judged.{Numbers as InRange, numbers_of, FitsIn, share_high, admits_of}
use Rattle.time.specs.Time.{moment}
use Rattle.time.specs.Latest.{remainders}
use Rattle.stream.specs.Bounds.{Bounded}
use Rattle.session.specs.Session.{no_stream, stream_at, horizon, remainders_of, table_of, sound}
use Rattle.stream.specs.Search.{in_order, first_census, next_census, summed, begun, counted, Countable, load_so, remainders_so, says, Judgeable}
use Rattle.time.specs.declared.Clock.{Clock}
use Rattle.stream.specs.declared.Stream.{Stream}
use Rattle.time.specs.declared.remainders.Remainders.{Remainders}
use Rattle.stream.specs.declared.sums.Sums.{Sums}
use Rattle.stream.specs.declared.census.Census.{Census}
use Rattle.session.specs.Inner.{numbers_kept, counted_on, census_to}
use Rattle.session.specs.declared.Session.{Session}
use Rattle.session.proofs.Options.{some_if, none_if}
use Rattle.stream.proofs.Orderly.{InOrder, of_order, order_none, order_fits, order_cells, order_share, order_bounded}
use Rattle.session.proofs.Sound.{Ahead, Used, Sound, sound_of, bounded}
use Rattle.session.proofs.Remainders.{remainders_split, sums_to, sums_none, sums_more, can_sum}

module _ (s : Session) where
  -- what a sound session rules out, a session that is not sound may be
  pub not_sound : (Sound s → ⊥) → sound s ≡ false
  not_sound never = go (sound s) refl
    where
      go : (b : Bool) → sound s ≡ b → sound s ≡ false
      go true e = absurd (never (sound_of s e))
      go false e = e

  -- a stream's numbers in the table are those in its cells
  reserved_is : (i : ℕ) → get_or (table_of s).reserved i 0 ≡ (stream_at s i).reserved
  reserved_is i = get_or-map (λ (x : Stream). x.reserved) s.streams i no_stream

  period_is : (i : ℕ) → get_or (table_of s).period i 0 ≡ (stream_at s i).period
  period_is i = get_or-map (λ (x : Stream). x.period) s.streams i no_stream

  -- by the horizon that is kept
  abbrev in_order_at : ℕ → Bool
  in_order_at i = in_order s.worst s.span s.padding s.horizon.0 (stream_at s i)

  -- a used stream of a sound session is in order
  in_order_lem : Sound s → (i : ℕ) → i < s.count → in_order_at i ≡ true
  unfolding admission_of streams_refusal
  in_order_lem q i l =
      let streams = (or_next_none _ _ (or_next_none _ _ q.fit.used.admitted).1).0 in
      let none : stream_refusal s.worst s.span s.padding (stream_at s i).reserved (stream_at s i).period ≡ 0 =
      rw (reserved_is i, period_is i) at (first_none _ s.count streams i l) in
      rw q.ahead.horizon_is (of_order s.worst s.span s.padding (horizon s) (stream_at s i) none (q.fit.used.each i l) (bounded s q i l).ahead)

  module _ (i : ℕ) (t : in_order_at i ≡ true) where
    abbrev at_none : stream_refusal s.worst s.span s.padding (stream_at s i).reserved (stream_at s i).period ≡ 0
    at_none = order_none s.worst s.span s.padding s.horizon.0 (stream_at s i) t

    abbrev at_fits : FitsIn s.worst s.span s.padding (stream_at s i).reserved (stream_at s i).period
    at_fits = order_fits s.worst s.span s.padding s.horizon.0 (stream_at s i) t

  abbrev share_in : ℕ → ℕ
  share_in i = (stream_at s i).granted.0 * (s.span / (stream_at s i).period)

  share_in_lem : (i : ℕ) → in_order_at i ≡ true → share_in i ≡ share_of s.worst s.span s.padding (stream_at s i).reserved (stream_at s i).period
  share_in_lem i t = order_share s.worst s.span s.padding s.horizon.0 (stream_at s i) t

  -- the used streams below n are in order, and the census has their numbers
  pub record Numbered (soonest : Clock) (sums : Sums) (sum smallest n : ℕ) : Type 0 where
    pub numbers : numbers_refusal (table_of s) ≡ 0
    pub each : (i : ℕ) → i < n → in_order_at i ≡ true
    pub soonest_is : soonest ≡ moment (smallest_to (λ i. (stream_at s i).deadline.0) n)
    pub sums_are : sums ≡ sums_to s s.horizon.0 n
    pub shares : sum ≡ sum_to share_in n
    pub least : smallest ≡ smallest_to (λ i. (stream_at s i).period) n

  -- the census has the table's numbers
  pub record CountedTo (c : Census) (n : ℕ) : Type 0 where
    pub numbers : c.numbers ≡ numbers_kept s
    pub horizon : c.horizon ≡ s.horizon
    pub passed : Numbered c.soonest c.sums c.shares c.least n

  counted_none : numbers_refusal (table_of s) ≡ 0 → CountedTo (first_census (numbers_kept s) s.horizon (stream_at s 0)) 0
  unfolding smallest_to sum_to
  counted_none none =
      record {
        numbers = refl;
        horizon = refl;
        passed =
            record {
              numbers = none;
              each = λ i l. absurd (omega (arith, l));
              soonest_is = refl;
              sums_are = sums_none s s.horizon.0;
              shares = refl;
              least = refl;
            };
      }

  -- by the census it is in order as it is by the session
  here_is : (c : Census) (n : ℕ) → CountedTo c n → in_order c.numbers.worst c.numbers.span c.numbers.padding c.horizon.0 (stream_at s n) ≡ in_order_at n
  here_is c n m = rw (m.numbers, m.horizon)

  counted_more : (c : Census) (n : ℕ) → CountedTo c n → in_order_at n ≡ true → CountedTo (next_census c (stream_at s n)) (suc n)
  unfolding smallest_to sum_to
  counted_more c n m good =
      let p = m.passed in
      record {
        numbers = m.numbers;
        horizon = m.horizon;
        passed =
            record {
              numbers = p.numbers;
              each = λ i below. at_or_below (λ j. in_order_at j ≡ true) i below good (λ u. p.each i u);
              soonest_is = rw p.soonest_is;
              sums_are = subst (λ (k : ℕ). summed c.sums (stream_at s n) c.numbers.span c.horizon.0 ≡ sums_to s s.horizon.0 k) (add-one n) (sums_more s s.horizon.0 n c.sums _ p.sums_are (rw (m.numbers, m.horizon)));
              shares = rw (p.shares, m.numbers);
              least = rw p.least;
            };
      }

  -- what is kept of the first n streams is so of them
  pub counted_to : (c : Census) (n : ℕ) → census_to s n ≡ Some c → CountedTo c n
  unfolding census_to begun counted numbers_refusal
  counted_to c zero e =
      let begins = some_if _ e in
      subst (λ (d : Census). CountedTo d 0) begins.1 (counted_none (eqb-true _ _ begins.0))
  counted_to c (suc n) e = go (census_to s n) (λ d. counted_to d n) e
    where
      go : (o : Option Census) → ((d : Census) → o ≡ Some d → CountedTo d n) → counted_on o (stream_at s n) ≡ Some c → CountedTo c (suc n)
      go None before e = cc
      go (Some d) before e =
          let m = before d refl in
          let goes_on = some_if (in_order d.numbers.worst d.numbers.span d.numbers.padding d.horizon.0 (stream_at s n)) e in
          subst (λ (d : Census). CountedTo d (suc n)) goes_on.1 (counted_more d n m (sym (here_is d n m) ∙ goes_on.0))

  -- its streams are few where anything is kept
  pub few_counted : (c : Census) → census_to s 0 ≡ Some c → s.count ≤ 8
  few_counted c e = (numbers_of (table_of s) (counted_to c 0 e).passed.numbers).count_high

  -- what is not kept at one is not kept at a later one
  pub none_on : (n m : ℕ) → n ≤ m → census_to s n ≡ None → census_to s m ≡ None
  unfolding census_to
  none_on n zero le e = let same : n ≡ 0 = omega arith in subst (λ (k : ℕ). census_to s k ≡ None) same e
  none_on n (suc m) le e =
      ⊎_elim
      (λ (before : n ≤ m). ap (λ (o : Option Census). counted_on o (stream_at s m)) (none_on n m before e))
      (λ (here : m < n). let same : n ≡ suc m = omega arith in subst (λ (k : ℕ). census_to s k ≡ None) same e)
      (le_or_lt n m)

  -- where nothing is kept the session is not sound
  pub counted_fails : (n : ℕ) → n ≤ s.count → census_to s n ≡ None → Sound s → ⊥
  unfolding census_to begun counted admission_of numbers_refusal
  counted_fails zero le e q = eqb-false _ _ (none_if _ _ e) (or_next_none _ _ q.fit.used.admitted).0
  counted_fails (suc n) le e q = go (census_to s n) (λ d. counted_to d n) (λ none. counted_fails n (omega (arith, le)) none q) e
    where
      go : (o : Option Census) → ((d : Census) → o ≡ Some d → CountedTo d n) → (o ≡ None → ⊥) → counted_on o (stream_at s n) ≡ None → ⊥
      go None before fails e = fails refl
      go (Some d) before fails e =
          let m = before d refl in
          false≢true (sym (none_if (in_order d.numbers.worst d.numbers.span d.numbers.padding d.horizon.0 (stream_at s n)) _ e) ∙ here_is d n m ∙ in_order_lem q n le)

  -- the numbers of a census all of whose streams are in order are small
  pub countable : (c : Census) (n : ℕ) → n ≤ s.count → CountedTo c n → Countable c
  countable c n le m =
      let p = m.passed in
      let numbers = numbers_of (table_of s) p.numbers in
      let high = sum_high s.span share_in n (λ i l. rw (share_in_lem i (p.each i l)) (share_high _ _ _ _ _ (at_fits i (p.each i l)))) in
      let bounds : (i : ℕ) → i < n → Bounded s.worst s.horizon.0 (stream_at s i) =
      λ i l. order_bounded s.worst s.span s.padding s.horizon.0 (stream_at s i) (p.each i l) numbers.worst_low numbers.worst_high in
      record {
        worst_low = rw m.numbers numbers.worst_low;
        worst_high = rw m.numbers numbers.worst_high;
        span_high = rw m.numbers numbers.span_high;
        summable = rw p.sums_are (can_sum s s.horizon.0 n bounds (omega (arith, le, numbers.count_high)) numbers.span_high);
        shares_high = rw p.shares (omega (arith, high, numbers.count_high, numbers.span_high, mul-le-mul le numbers.span_high));
      }

  module _ (c : Census) (m : CountedTo c s.count) where
    abbrev p : Numbered c.soonest c.sums c.shares c.least s.count
    p = m.passed

    abbrev numbers_in : InRange (table_of s)
    numbers_in = numbers_of (table_of s) p.numbers

    load_is : load_of (table_of s) ≡ load_so c
    unfolding load_of shares_of smallest_period
    load_is =
        let shares = sum_agree (share_at (table_of s)) share_in s.count (λ i l. rw (reserved_is i, period_is i) (sym (share_in_lem i (p.each i l)))) in
        let least = smallest_agree (period_at (table_of s)) (λ i. (stream_at s i).period) s.count numbers_in.count_low (λ i l. period_is i) in
        rw (shares, least, p.shares, p.least, m.numbers)

    margin_counted : margin_of (table_of s) ≡ less_load c.numbers.span (load_so c)
    unfolding margin_of
    margin_counted = rw (load_is, m.numbers)

    soonest_is : c.soonest ≡ moment (horizon s)
    unfolding horizon
    soonest_is = p.soonest_is

    -- where the horizon is the smallest deadline, the sum counted is that of the remainders
    sum_counted : s.horizon ≡ moment (horizon s) → remainders_so c.sums c.numbers.span ≡ remainders_of s
    sum_counted is = rw (p.sums_are, m.numbers) (ap (λ (h : Clock). remainders_so (sums_to s h.0 s.count) s.span) is ∙ sym (remainders_split s))

    admitted_of : load_so c ≤ c.numbers.span → admission_of (table_of s) ≡ 0
    unfolding admission_of streams_refusal given ◌or_next◌
    admitted_of fits =
        let streams = first_all (stream_refusal_at (table_of s)) s.count (λ i l. rw (reserved_is i, period_is i) (at_none i (p.each i l))) in
        rw (p.numbers, streams, load_is, le-ltb s.span (load_so c) (rw (ap (λ (n : Numbers). n.span) (sym m.numbers)) fits))

    each_of : s.horizon ≡ moment (horizon s) → (i : ℕ) → i < s.count → InOrder s.worst s.padding (horizon s) (stream_at s i)
    each_of is i l =
        subst (λ (h : Clock). InOrder s.worst s.padding h.0 (stream_at s i)) is
        (order_cells s.worst s.span s.padding s.horizon.0 (stream_at s i) (p.each i l))

    pub judgeable : Judgeable c
    judgeable =
        record {
          countable = countable c s.count (omega arith) m;
          least_low =
              rw p.least (smallest_is (λ (d : ℕ). 0 < d) (λ i. (stream_at s i).period) s.count numbers_in.count_low
              (λ i l. let low = (at_fits i (p.each i l)).period_low in omega arith));
        }

    -- what the census says is what a sound session's used streams are
    pub says_used : says c s.margin.0 s.remainders.0 ≡ true → Used s × Ahead s
    unfolding says
    says_used t =
        let kept = eq_z s.margin.0 (less_load c.numbers.span (load_so c)) in
        let soonest = eqb c.horizon.0 c.soonest.0 in
        let a = both (leb (load_so c) c.numbers.span && kept && soonest) (eq_z s.remainders.0 (remainders_so c.sums c.numbers.span)) t in
        let b = both (leb (load_so c) c.numbers.span && kept) soonest a.0 in
        let d = both (leb (load_so c) c.numbers.span) kept b.0 in
        let is : s.horizon ≡ moment (horizon s) = sym m.horizon ∙ ap moment (eqb-true _ _ b.1) ∙ soonest_is in (
          record { admitted = admitted_of (leb-true _ _ d.0); margin_is = same_is _ _ d.1 ∙ sym margin_counted; each = each_of is },
          record { horizon_is = is; remainders_is = ap remainders (same_is _ _ a.1 ∙ sum_counted is) },
        )

    pub used_says : Used s → Ahead s → says c s.margin.0 s.remainders.0 ≡ true
    unfolding says
    used_says q ahead =
        let fits : load_so c ≤ c.numbers.span = rw (sym load_is, m.numbers) (admits_of (table_of s) q.admitted).fits in
        let is = ahead.horizon_is in
        let soonest : c.horizon.0 ≡ c.soonest.0 = ap (λ (h : Clock). h.0) (m.horizon ∙ is ∙ sym soonest_is) in
        let summed : s.remainders.0 ≡ remainders_so c.sums c.numbers.span = ap (λ (r : Remainders). r.0) ahead.remainders_is ∙ sym (sum_counted is) in
        rw (le-leb _ _ fits, is_same _ _ (q.margin_is ∙ margin_counted), eq-eqb _ _ soonest, is_same _ _ summed)
