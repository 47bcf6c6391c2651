-- What admission answers, and the laws of margins.
use mathlib.Core.Bool.{true, false, false≢true}
use mathlib.Core.Path.{◌≡◌, refl, sym, subst, ◌∙◌, ap}
use mathlib.Core.Logic.{◌⊎◌, inl, inr, ⊎_elim}
use Prim.Native.Nat.{ℕ, zero, suc, ◌-◌, ◌≤◌, ◌<◌}
use native.Mathlib.Omega.{arith}
use lib.Dec.{ltb, le→leb, ltb→lt, lit≤}
use lib.IntN.{ℤ, pos, negsuc, +ℤ_comm, -ℤ-+ℤ_cancel}
use lib.Signed.{◌≤ℤ◌, ◌<ℤ◌}
use borrow.Author.Tests.{lt-ltb, le-ltb, ne_eqb}
use Rattle.std.proofs.Common.{Result, Ok, Err}
use Rattle.std.specs.Result.{is_err}
use Rattle.table.specs.Fold.{if}
use Rattle.table.specs.Refusal.{given, ◌or_next◌, refusal_number, refused_by}
use Rattle.table.specs.Admission.{load_of, ranges_refusal, numbers_refusal, stream_refusal, stream_refusal_at, streams_refusal, parts_refusal, admission_of}
use Rattle.table.specs.Whole.{below_zero}
use Rattle.table.specs.Margin.{margin_of, margin, refusal_of, refusal_margin, answered, answer_by, answer_of, number_in, margin_in}
use Rattle.table.specs.Laws.{MarginIsExact, MarginDecides, OverIsExact, AnswerCarriesMargin}
use Rattle.table.specs.declared.Table.{Table}
use Rattle.table.specs.declared.margin.Margin.{Margin}
use Rattle.table.specs.declared.refusal.Refusal.{Refusal}
use Rattle.table.specs.declared.refusal.Refusal.TheVariants.{Streams, Worst, Span, Padding, Period, Budget, Load}
use Rattle.table.proofs.Tests.{le_or_lt, given_high, or_next_high, or_next_first, or_next_assoc}
use Rattle.table.proofs.Folds.{first_is}
use Rattle.table.proofs.Whole.{less_left, less_over}

pub margin_is_exact : MarginIsExact
unfolding margin_of
margin_is_exact t = +ℤ_comm (pos (load_of t)) (margin_of t) ∙ -ℤ-+ℤ_cancel (pos t.span) (pos (load_of t))

-- 1 to 6, and then 7
in_order : (t : Table) → admission_of t ≡ parts_refusal t or_next given (ltb t.span (load_of t)) 7
unfolding admission_of parts_refusal
in_order t = or_next_assoc _ _ _

-- where 1 to 6 refuse nothing, the load decides
pub past_parts : (t : Table) → parts_refusal t ≡ 0 → admission_of t ≡ given (ltb t.span (load_of t)) 7
unfolding ◌or_next◌
past_parts t z = rw (in_order t, z)

pub load_fits : (t : Table) → parts_refusal t ≡ 0 → load_of t ≤ t.span → admission_of t ≡ 0
unfolding ◌or_next◌ given
load_fits t z l = rw (in_order t, z, le-ltb _ _ l)

pub load_over : (t : Table) → parts_refusal t ≡ 0 → t.span < load_of t → admission_of t ≡ 7
unfolding ◌or_next◌ given
load_over t z l = rw (in_order t, z, lt-ltb _ _ l)

-- and where they refuse, that is the answer
pub parts_first : (t : Table) → (parts_refusal t ≡ 0 → ⊥) → admission_of t ≡ parts_refusal t
parts_first t ne = in_order t ∙ or_next_first (parts_refusal t) _ ne

-- what the load decides, with the margin: the load fits, or it is over
pub record Within (t : Table) : Type 0 where
  pub admits : admission_of t ≡ 0
  pub is : margin_of t ≡ pos (t.span - load_of t)

pub record Beyond (t : Table) : Type 0 where
  pub refuses : admission_of t ≡ 7
  pub is : margin_of t ≡ negsuc (load_of t - suc t.span)

pub within : (t : Table) → parts_refusal t ≡ 0 → load_of t ≤ t.span → Within t
unfolding margin_of
within t z l = record { admits = load_fits t z l; is = less_left t.span (load_of t) l }

pub beyond : (t : Table) → parts_refusal t ≡ 0 → t.span < load_of t → Beyond t
unfolding margin_of
beyond t z l = record { refuses = load_over t z l; is = less_over t.span (load_of t) l }

not_negative : (n : ℕ) → pos 0 ≤ℤ pos n
not_negative n = record { le = le→leb 0 n (omega arith) }

negative_not : (n : ℕ) → pos n <ℤ pos 0 → ⊥
negative_not n h = let l = ltb→lt n 0 h.lt in omega arith

pub margin_decides : MarginDecides
margin_decides t z =
    ⊎_elim
    (λ (l : load_of t ≤ t.span).
    let q = within t z l in (
      (λ (e : admission_of t ≡ 7). absurd (omega (arith, q.admits, e)), λ (n : margin_of t <ℤ pos 0). absurd (negative_not _ (subst (λ (m : ℤ). m <ℤ pos 0) q.is n))),
      (λ _. rw q.is (not_negative _), λ _. q.admits),
    ))
    (λ (l : t.span < load_of t).
    let q = beyond t z l in (
      (λ _. rw q.is (record { lt = tt }), λ _. q.refuses),
      (λ (e : admission_of t ≡ 0). absurd (omega (arith, q.refuses, e)), λ (n : pos 0 ≤ℤ margin_of t). absurd (subst (λ (m : ℤ). pos 0 ≤ℤ m) q.is n).le),
    ))
    (le_or_lt (load_of t) t.span)

-- 1 to 6 are at most 6
parts_high : (t : Table) → parts_refusal t ≤ 6
unfolding parts_refusal numbers_refusal streams_refusal stream_refusal
parts_high t =
    or_next_high (numbers_refusal t) (streams_refusal t) 6
    (search (or_next_high, given_high, lit≤) depth 12)
    (first_is (λ n. n ≤ 6) (omega arith) (stream_refusal_at t) t.count (λ i _. search (or_next_high, given_high, lit≤)))

-- so that 7 is given only where the load is over the span
pub over_load : (t : Table) → admission_of t ≡ 7 → (parts_refusal t ≡ 0) × (t.span < load_of t)
over_load t e =
    ⊎_elim
    (λ (u : parts_refusal t ≤ 0).
    let none : parts_refusal t ≡ 0 = omega arith in
    (none, ⊎_elim (λ (l : load_of t ≤ t.span). absurd (omega (arith, load_fits t none l, e))) (λ l. l) (le_or_lt (load_of t) t.span)))
    (λ (u : 0 < parts_refusal t). absurd (omega (arith, parts_first t (λ z. omega arith), e, parts_high t)))
    (le_or_lt (parts_refusal t) 0)

pub over_is_exact : OverIsExact
unfolding below_zero
over_is_exact t e =
    let h = over_load t e in
    rw (beyond t h.0 h.1).is (omega (arith, h.1), omega arith)

-- the number of a refusal is never 0
pub refusal_some : (r : Refusal) → refusal_number r ≡ 0 → ⊥
refusal_some Streams e = omega arith
refusal_some Worst e = omega arith
refusal_some Span e = omega arith
refusal_some Padding e = omega arith
refusal_some Period e = omega arith
refusal_some Budget e = omega arith
refusal_some (Load m) e = omega arith

-- so what is answered tells whether anything is refused
pub refused_some : {A : Type 0} (r : Result A Refusal) → is_err r ≡ true → refused_by r ≡ 0 → ⊥
refused_some (Ok x) e z = absurd (false≢true e)
refused_some (Err r) e z = refusal_some r z

pub refused_none : {A : Type 0} (r : Result A Refusal) → is_err r ≡ false → refused_by r ≡ 0
refused_none (Ok x) e = refl
refused_none (Err r) e = absurd (false≢true (sym e))

-- the refusals of 1 to 6, and back
pub refusal_is : (r : Refusal) (m : ℤ) → refusal_number r ≤ 6 → refusal_of (refusal_number r) m ≡ r
unfolding refusal_of if
refusal_is Streams m l = refl
refusal_is Worst m l = refl
refusal_is Span m l = refl
refusal_is Padding m l = refl
refusal_is Period m l = refl
refusal_is Budget m l = refl
refusal_is (Load n) m l = absurd (omega arith)

is_refusal : (n : ℕ) (m : ℤ) → (n ≡ 0 → ⊥) → n ≤ 6 → (refusal_number (refusal_of n m) ≡ n) × (refusal_margin (refusal_of n m) ≡ margin (pos 0))
unfolding refusal_of if
is_refusal zero m some l = absurd (some refl)
is_refusal (suc zero) m some l = (refl, refl)
is_refusal (suc (suc zero)) m some l = (refl, refl)
is_refusal (suc (suc (suc zero))) m some l = (refl, refl)
is_refusal (suc (suc (suc (suc zero)))) m some l = (refl, refl)
is_refusal (suc (suc (suc (suc (suc zero))))) m some l = (refl, refl)
is_refusal (suc (suc (suc (suc (suc (suc zero)))))) m some l = (refl, refl)
is_refusal (suc (suc (suc (suc (suc (suc (suc n))))))) m some l = absurd (omega arith)

-- what is answered by one of 1 to 6 tells the number
by_number : (n : ℕ) → n ≤ 6 → refused_by (answer_by n) ≡ n
unfolding answer_by if
by_number zero l = refl
by_number (suc n) l = let some : suc n ≡ 0 → ⊥ = λ z. omega arith in rw (ne_eqb (suc n) 0 some) (is_refusal (suc n) (pos 0) some l).0

told : (n : ℕ) (r : Result Unit Refusal) → n ≤ 6 → r ≡ answer_by n → refused_by r ≡ n
told n r l e = ap refused_by e ∙ by_number n l

-- so do the answers of W, H and k, of the numbers of a whole table, and of a stream
pub ranges_told : (worst span k : ℕ) (r : Result Unit Refusal) → r ≡ answer_by (ranges_refusal worst span k) → refused_by r ≡ ranges_refusal worst span k
ranges_told worst span k r = told _ r (search (or_next_high, given_high, lit≤) depth 12)

pub numbers_told : (t : Table) (r : Result Unit Refusal) → r ≡ answer_by (numbers_refusal t) → refused_by r ≡ numbers_refusal t
unfolding numbers_refusal
numbers_told t r = told _ r (search (or_next_high, given_high, lit≤) depth 12)

pub stream_told : (worst span k e p : ℕ) (r : Result Unit Refusal) → r ≡ answer_by (stream_refusal worst span k e p) → refused_by r ≡ stream_refusal worst span k e p
unfolding stream_refusal
stream_told worst span k e p r = told _ r (search (or_next_high, given_high, lit≤))

-- what is answered where one of 1 to 6 refuses, where nothing does, and by 7
answer_parts : (t : Table) → (parts_refusal t ≡ 0 → ⊥) → answer_of t ≡ Err (refusal_of (parts_refusal t) (margin_of t))
unfolding answer_of answered if
answer_parts t ne = rw (parts_first t ne, ne_eqb (parts_refusal t) 0 ne)

pub answer_first : (t : Table) (r : Refusal) → refusal_number r ≡ parts_refusal t → answer_of t ≡ Err r
answer_first t r e =
    answer_parts t (λ z. refusal_some r (e ∙ z))
    ∙ ap Err (ap (λ n. refusal_of n (margin_of t)) (sym e) ∙ refusal_is r (margin_of t) (omega (arith, e, parts_high t)))

pub answer_admits : (t : Table) → admission_of t ≡ 0 → answer_of t ≡ Ok (margin (margin_of t))
unfolding answer_of answered if
answer_admits t z = rw z

pub answer_over : (t : Table) → admission_of t ≡ 7 → answer_of t ≡ Err (Load (margin (margin_of t)))
unfolding answer_of answered refusal_of if
answer_over t seven = rw seven

pub answer_carries_margin : AnswerCarriesMargin
answer_carries_margin t =
    ⊎_elim
    (λ (u : parts_refusal t ≤ 0).
    let none : parts_refusal t ≡ 0 = omega arith in
    ⊎_elim
    (λ (l : load_of t ≤ t.span). let e = answer_admits t (load_fits t none l) in (ap number_in e ∙ sym (load_fits t none l), λ _. ap margin_in e, λ ne. absurd (ne none)))
    (λ (l : t.span < load_of t). let e = answer_over t (load_over t none l) in (ap number_in e ∙ sym (load_over t none l), λ _. ap margin_in e, λ ne. absurd (ne none)))
    (le_or_lt (load_of t) t.span))
    (λ (u : 0 < parts_refusal t).
    let some : parts_refusal t ≡ 0 → ⊥ = λ z. omega arith in
    let e = answer_parts t some in
    let told = is_refusal (parts_refusal t) (margin_of t) some (parts_high t) in
    (ap number_in e ∙ told.0 ∙ sym (parts_first t some), λ z. absurd (some z), λ _. ap margin_in e ∙ told.1))
    (le_or_lt (parts_refusal t) 0)

-- where 1 to 6 refuse nothing there is no refusal but 7
pub parts_or_load : (t : Table) → parts_refusal t ≡ 0 → (admission_of t ≡ 0) ⊎ (admission_of t ≡ 7)
parts_or_load t z =
    ⊎_elim (λ (l : load_of t ≤ t.span). inl (load_fits t z l)) (λ (l : t.span < load_of t). inr (load_over t z l)) (le_or_lt (load_of t) t.span)

-- so a table is admitted only where it is answered with its margin
pub admitted_only : (t : Table) (m : Margin) → answer_of t ≡ Ok m → (admission_of t ≡ 0) × (m ≡ margin (margin_of t))
admitted_only t m e =
    let z = sym (answer_carries_margin t).0 ∙ ap number_in e in
    (z, ap margin_in (sym e ∙ answer_admits t z))

pub refused_only : (t : Table) (r : Refusal) → answer_of t ≡ Err r → admission_of t ≡ 0 → ⊥
refused_only t r e z = refusal_some r (sym (ap number_in e) ∙ (answer_carries_margin t).0 ∙ z)
