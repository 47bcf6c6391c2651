-- A text is followed to its end exactly if it has the lines that are due, each of which may stand where it does, and nothing else.
use mathlib.Core.Bool.{true, false, not, ◌&&◌, true≢false}
use mathlib.Core.List.{List, [], ◌∷◌, ◌++◌}
use mathlib.Core.Logic.{⊎_elim}
use mathlib.Core.Path.{◌≡◌, refl, sym, ap, subst, ◌∙◌}
use Prim.Native.Nat.{ℕ, zero, suc}
use native.Mathlib.Omega.{arith}
use lib.Dec.{eqb}
use lib.ListN.{length}
use borrow.Author.Tests.{eqb-true, not-true}
use Rattle.table.proofs.Tests.{both}
use Rattle.listing.specs.Line.{rendered}
use Rattle.listing.specs.Laws.{Each}
use Rattle.logs.specs.Follow.{Among}
use Rattle.logs.specs.Lines.{lines_after, lines_of, left_after, left_of}
use Rattle.logs.specs.Following.{awaited, Next, nexts, with_line, with_lines, is_nothing, is_whole}
use Rattle.logs.specs.declared.Follower.{Follower}
use Rattle.listing.proofs.Lines.{NoNewline, OneNewline}
use Rattle.logs.proofs.Splitting.{line_first, no_line, line_or_none}
use Rattle.logs.proofs.Nexts.{lacking, none_due, some_due, nexts_end, some_next, no_next}
use Rattle.logs.proofs.Steps.{IsOf, onto, stopped, step, step_onto, stays_stopped}

-- what follows, by the follower itself: the lines from the one on that is due, so many of them
unfoldable pub FollowsBy : ℕ → Follower → List ℕ → List ℕ → Type 0
FollowsBy zero f trace text = text ≡ []
FollowsBy (suc n) f trace text =
    (x : Next) × (later : List ℕ) × Among x (nexts f trace) × (text ≡ rendered x.fields ++ later) × FollowsBy n (onto f x) trace later

-- a text that is followed to its end
abbrev pub Whole : Follower → List ℕ → List ℕ → Type 0
Whole f trace text = is_whole (with_lines f trace (lines_of text)) trace (left_of text) ≡ true

-- every line is followed, nothing is left behind the last, and none is due
whole_parts : (f : Follower) (trace left : List ℕ) → is_whole f trace left ≡ true
    → (f.failed ≡ false) × (left ≡ []) × (is_nothing (awaited f trace) ≡ true)
unfolding is_whole
whole_parts f trace left h =
    let first = both (not f.failed && eqb (length left) 0) (is_nothing (awaited f trace)) h in
    let others = both (not f.failed) (eqb (length left) 0) first.0 in
    (not-true f.failed others.0, empty left (eqb-true (length left) 0 others.1), first.1)
  where
    empty : (l : List ℕ) → length l ≡ 0 → l ≡ []
    empty [] e = refl
    empty (x ∷ l) e = absurd (omega (arith, e))

parts_whole : (f : Follower) (trace : List ℕ) → f.failed ≡ false → is_nothing (awaited f trace) ≡ true → is_whole f trace [] ≡ true
unfolding is_whole
parts_whole f trace going none = rw (none, going)

-- of a text without a newline
whole_end : (f : Follower) (trace text : List ℕ) → Each NoNewline text → Whole f trace text → (text ≡ []) × (is_nothing (awaited f trace) ≡ true)
unfolding with_lines
whole_end f trace text p h =
    let none = no_line text p in
    let ends = whole_parts f trace text (rw (none.0, none.1) at h) in
    (ends.1, ends.2)

-- of one that begins with a line that may stand there
pub after_line : (f : Follower) (trace line rest : List ℕ) (x : Next) → f.failed ≡ false → IsOf line (nexts f trace) x
    → (with_lines f trace (lines_of (line ++ rest)) ≡ with_lines (onto f x) trace (lines_of rest)) × (left_of (line ++ rest) ≡ left_of rest)
unfolding with_lines
after_line f trace line rest x going is =
    let first = line_first line rest (subst OneNewline (sym is.1) (nexts_end f trace x is.0)) in
    (ap (with_lines f trace) first.0 ∙ ap (λ (g : Follower). with_lines g trace (lines_of rest)) (step_onto f trace line x going is), first.1)

-- and of any that begins with a line
whole_line : (f : Follower) (trace line rest : List ℕ) → OneNewline line → f.failed ≡ false → Whole f trace (line ++ rest)
    → (x : Next) × IsOf line (nexts f trace) x × Whole (onto f x) trace rest
unfolding with_lines
whole_line f trace line rest one going h =
    ⊎_elim
    (λ (found : (x : Next) × IsOf line (nexts f trace) x × (with_line f trace line ≡ onto f x)).
    let after = after_line f trace line rest found.0 going found.1 in
    (found.0, found.1, rw (after.0, after.1) at h))
    (λ (none : ((x : Next) → IsOf line (nexts f trace) x → ⊥) × (with_line f trace line ≡ stopped f)).
    let first = line_first line rest one in
    let there : with_lines f trace (lines_of (line ++ rest)) ≡ stopped f =
    ap (with_lines f trace) first.0 ∙ ap (λ (g : Follower). with_lines g trace (lines_of rest)) none.1 ∙ stays_stopped (stopped f) trace (lines_of rest) refl in
    absurd (true≢false (whole_parts (stopped f) trace (left_of (line ++ rest)) (rw there at h)).0))
    (step f trace line going)

-- with each line there is one less due
lacking_onto : (f : Follower) (trace : List ℕ) (x : Next) (n : ℕ) → lacking f trace ≡ suc n → lacking (onto f x) trace ≡ n
unfolding lacking
lacking_onto f trace x n h = omega arith

-- a text that is followed to its end has the lines that are due, and no more
pub whole_follows : (n : ℕ) (f : Follower) (trace text : List ℕ) → f.failed ≡ false → lacking f trace ≡ n → Whole f trace text → FollowsBy n f trace text
unfolding FollowsBy Among
whole_follows zero f trace text going due h =
    ⊎_elim
    (λ p. (whole_end f trace text p h).0)
    (λ (first : (line : List ℕ) × (rest : List ℕ) × OneNewline line × (text ≡ line ++ rest)).
    let found = whole_line f trace first.0 first.1 first.2 going (subst (Whole f trace) first.3 h) in
    absurd (subst (Among found.0) (no_next f trace (none_due f trace due)) found.1.0))
    (line_or_none text)
whole_follows (suc n) f trace text going due h =
    ⊎_elim
    (λ p. absurd (true≢false (sym (whole_end f trace text p h).1 ∙ some_due f trace n due)))
    (λ (first : (line : List ℕ) × (rest : List ℕ) × OneNewline line × (text ≡ line ++ rest)).
    let found = whole_line f trace first.0 first.1 first.2 going (subst (Whole f trace) first.3 h) in (
      found.0,
      first.1,
      found.1.0,
      first.3 ∙ ap (λ (line : List ℕ). line ++ first.1) found.1.1,
      whole_follows n (onto f found.0) trace first.1 refl (lacking_onto f trace found.0 n due) found.2,
    ))
    (line_or_none text)

-- and so is each that has them
pub follows_whole : (n : ℕ) (f : Follower) (trace text : List ℕ) → f.failed ≡ false → lacking f trace ≡ n → FollowsBy n f trace text → Whole f trace text
unfolding FollowsBy with_lines lines_after left_after
follows_whole zero f trace text going due e =
    subst (Whole f trace) (sym e) (parts_whole f trace going (ap is_nothing (none_due f trace due)))
follows_whole (suc n) f trace text going due (x, later, among, is, q) =
    let after = after_line f trace (rendered x.fields) later x going (among, refl) in
    let rest = follows_whole n (onto f x) trace later refl (lacking_onto f trace x n due) q in
    subst (Whole f trace) (sym is) (rw (after.0, after.1) rest)

-- from any state there is a text that follows
pub some_follows : (n : ℕ) (f : Follower) (trace : List ℕ) → lacking f trace ≡ n → (text : List ℕ) × FollowsBy n f trace text
unfolding FollowsBy
some_follows zero f trace due = ([], refl)
some_follows (suc n) f trace due =
    let next = some_next f trace (some_due f trace n due) in
    let x = next.0 in
    let later = some_follows n (onto f x) trace (lacking_onto f trace x n due) in
    (rendered x.fields ++ later.0, (x, later.0, next.1, refl, later.1))
