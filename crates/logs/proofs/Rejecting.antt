-- A listing that is rejected is so at the first line that does not follow, and what is printed below it could have stood there, and nothing else.
use mathlib.Core.Bool.{Bool, true, false}
use mathlib.Core.List.{List, [], ◌∷◌, ◌++◌, flatten, append_assoc, append-nil, nil≢cons, head-eq_of_cons-eq}
use mathlib.Core.Logic.{◌⊎◌, inl, inr, ◌↔◌, ⊎_elim}
use mathlib.Core.Path.{◌≡◌, refl, sym, ap, subst, ◌∙◌}
use Prim.Native.Nat.{ℕ, zero, suc, ◌+◌}
use native.Mathlib.Omega.{arith}
use lib.ListN.{length}
use Rattle.table.specs.Fold.{if}
use Rattle.listing.specs.Line.{rendered}
use Rattle.listing.specs.Laws.{Each}
use Rattle.logs.specs.Follow.{Among, Follows}
use Rattle.logs.specs.Lines.{lines_of, left_of}
use Rattle.logs.specs.Following.{begun, trace_of, Next, nexts, lines_of_nexts, with_line, with_lines, accepted, rejected, is_whole, checked_by, checked_of}
use Rattle.logs.specs.Laws.{Once, Rejected, RejectedThere}
use Rattle.logs.specs.declared.Follower.{Follower}
use Rattle.logs.proofs.Members.{map_among, among_map, each_parts}
use Rattle.listing.proofs.Lines.{OneNewline}
use Rattle.logs.proofs.Splitting.{line_first, lines_first, lines_only, flatten_append, text_parts, with_more}
use Rattle.logs.proofs.Nexts.{lacking, none_due, some_due, nexts_end, nexts_once, some_next, no_next}
use Rattle.logs.proofs.Steps.{IsOf, onto, stopped, step, stopped_nexts, stays_stopped}
use Rattle.logs.proofs.Whole.{FollowsBy, Whole, after_line, whole_follows, follows_whole, some_follows}
use Rattle.logs.proofs.Follows.{begun_due, begun_going, whole_is_following}

-- ---- where following ends

-- the lines that are followed, and those from there on; what is due stays as it is, and the first of the others is none of what may stand there
record Stop (f : Follower) (trace : List ℕ) (lines : List (List ℕ)) : Type 0 where
  front : List (List ℕ)
  back : List (List ℕ)
  joined : front ++ back ≡ lines
  going : (with_lines f trace front).failed ≡ false
  counted : (with_lines f trace front).due ≡ f.due + length front
  due_stays : (with_lines f trace lines).due ≡ (with_lines f trace front).due
  nexts_stay : nexts (with_lines f trace lines) trace ≡ nexts (with_lines f trace front) trace
  none_next : (line : List ℕ) (rest : List (List ℕ)) (x : Next) → back ≡ line ∷ rest → IsOf line (nexts (with_lines f trace front) trace) x → ⊥

stop_here : (f : Follower) (trace line : List ℕ) (rest : List (List ℕ)) → f.failed ≡ false → ((x : Next) → IsOf line (nexts f trace) x → ⊥)
    → with_line f trace line ≡ stopped f → Stop f trace (line ∷ rest)
unfolding with_lines
stop_here f trace line rest going none is =
    let there : with_lines f trace (line ∷ rest) ≡ stopped f =
    ap (λ (g : Follower). with_lines g trace rest) is ∙ stays_stopped (stopped f) trace rest refl in
    record {
      front = [];
      back = line ∷ rest;
      joined = refl;
      going = going;
      counted = omega arith;
      due_stays = ap (λ (g : Follower). g.due) there;
      nexts_stay = ap (λ (g : Follower). nexts g trace) there ∙ stopped_nexts f trace;
      none_next = λ other later x e o. none x (o.0, head-eq_of_cons-eq e ∙ o.1);
    }

stop : (f : Follower) (trace : List ℕ) (lines : List (List ℕ)) → f.failed ≡ false → Stop f trace lines
unfolding with_lines
stop f trace [] going =
    record {
      front = [];
      back = [];
      joined = refl;
      going = going;
      counted = omega arith;
      due_stays = refl;
      nexts_stay = refl;
      none_next = λ line rest x e o. nil≢cons e;
    }
stop f trace (line ∷ rest) going =
    ⊎_elim
    (λ (found : (x : Next) × IsOf line (nexts f trace) x × (with_line f trace line ≡ onto f x)).
    let p = stop (with_line f trace line) trace rest (ap (λ (g : Follower). g.failed) found.2) in
    record {
      front = line ∷ p.front;
      back = p.back;
      joined = ap (λ (l : List (List ℕ)). line ∷ l) p.joined;
      going = p.going;
      counted = omega (arith, p.counted, ap (λ (g : Follower). g.due) found.2);
      due_stays = p.due_stays;
      nexts_stay = p.nexts_stay;
      none_next = p.none_next;
    })
    (λ none. stop_here f trace line rest going none.0 none.1)
    (step f trace line going)

-- ---- what is said of a listing that is rejected

rejected_is : (f : Follower) (trace left : List ℕ) (number : ℕ) (lines : List (List ℕ)) → checked_by f trace left ≡ rejected number lines
    → (number ≡ f.due) × (lines ≡ lines_of_nexts (nexts f trace))
unfolding checked_by if
rejected_is f trace left number lines = go (is_whole f trace left)
  where
    go : (b : Bool) → if b accepted (rejected f.due (lines_of_nexts (nexts f trace))) ≡ rejected number lines
        → (number ≡ f.due) × (lines ≡ lines_of_nexts (nexts f trace))
    go true h = (cc, cc)
    go false h = (cc, cc)

module _ (file listing : List ℕ) (number : ℕ) (lines : List (List ℕ)) (h : checked_of file listing ≡ rejected number lines) where
  abbrev trace : List ℕ
  trace = trace_of file

  end : Stop (begun file) trace (lines_of listing)
  end = stop (begun file) trace (lines_of listing) (begun_going file)

  -- the follower before the line that does not follow
  here : Follower
  here = with_lines (begun file) trace end.front

  before : List ℕ
  before = flatten end.front

  instead : List ℕ
  instead = flatten end.back ++ left_of listing

  said : (number ≡ here.due) × (lines ≡ lines_of_nexts (nexts here trace))
  unfolding checked_of here
  said =
      let is = rejected_is (with_lines (begun file) trace (lines_of listing)) trace (left_of listing) number lines h in
      (is.0 ∙ end.due_stays, is.1 ∙ ap lines_of_nexts end.nexts_stay)

  ends : Each OneNewline end.front × Each OneNewline end.back
  ends = each_parts OneNewline end.front end.back (subst (Each OneNewline) (sym end.joined) (text_parts listing).0)

  front_lines : (lines_of before ≡ end.front) × (left_of before ≡ [])
  unfolding before Each
  front_lines = rw append-nil at (lines_only end.front [] ends.0 tt)

  parts : before ++ instead ≡ listing
  unfolding before instead
  parts =
      sym (append_assoc (flatten end.front) (flatten end.back) (left_of listing))
      ∙ ap (λ (text : List ℕ). text ++ left_of listing) (sym (flatten_append end.front end.back) ∙ ap flatten end.joined)
      ∙ (text_parts listing).2

  -- a line that is listed is that of what may stand there
  listed : (line : List ℕ) → Among line lines → (x : Next) × IsOf line (nexts here trace) x
  listed line p =
      let (x, among, is) = among_map (λ (y : Next). rendered y.fields) line (nexts here trace) (subst (Among line) said.1 p) in
      (x, (among, is))

  listing_of : (x : Next) → Among x (nexts here trace) → Among (rendered x.fields) lines
  listing_of x p = subst (Among (rendered x.fields)) (sym said.1) (map_among (λ (y : Next). rendered y.fields) x (nexts here trace) p)

  -- what comes after the lines before follows by the follower there
  follows_on : (later : List ℕ) → Whole here trace later ↔ Follows file (before ++ later)
  unfolding here before
  follows_on later =
      let first = lines_first end.front later ends.0 in
      let same : with_lines (begun file) trace (lines_of (before ++ later)) ≡ with_lines here trace (lines_of later) =
      ap (with_lines (begun file) trace) first.0 ∙ with_more (begun file) trace end.front (lines_of later) in
      let on = whole_is_following file (before ++ later) in
      (λ w. on.0 (rw (same, first.1) w), λ q. rw (same, first.1) at (on.1 q))

  going : here.failed ≡ false
  unfolding here
  going = end.going

  none_there : (line later : List ℕ) → Among line lines → instead ≡ line ++ later → ⊥
  unfolding here instead
  none_there line later p e =
      let (x, is) = listed line p in
      let behind = lines_only end.back (left_of listing) ends.1 (text_parts listing).1 in
      let first = line_first line later (subst OneNewline (sym is.1) (nexts_end here trace x is.0)) in
      end.none_next line (lines_of later) x (sym behind.0 ∙ ap lines_of e ∙ first.0) is

  each_could : (line : List ℕ) → Among line lines → (later : List ℕ) × Follows file (before ++ line ++ later)
  each_could line p =
      let (x, is) = listed line p in
      let n = lacking (onto here x) trace in
      let (later, q) = some_follows n (onto here x) trace refl in
      let after = after_line here trace line later x going is in
      let whole : Whole here trace (line ++ later) = rw (after.0, after.1) (follows_whole n (onto here x) trace later refl refl q) in
      (later, subst (Follows file) (sym (append_assoc before line later)) ((follows_on (line ++ later)).0 whole))

  no_other : (later : List ℕ) → Follows file (before ++ later)
      → ((later ≡ []) × (lines ≡ [])) ⊎ ((line : List ℕ) × (rest : List ℕ) × Among line lines × (later ≡ line ++ rest))
  unfolding FollowsBy
  no_other later q = go (lacking here trace) refl (whole_follows (lacking here trace) here trace later going refl ((follows_on later).1 q))
    where
      go : (n : ℕ) → lacking here trace ≡ n → FollowsBy n here trace later
          → ((later ≡ []) × (lines ≡ [])) ⊎ ((line : List ℕ) × (rest : List ℕ) × Among line lines × (later ≡ line ++ rest))
      go zero due none = inl (none, said.1 ∙ ap lines_of_nexts (no_next here trace (none_due here trace due)))
      go (suc n) due (x, rest, among, is, on) = inr (rendered x.fields, rest, listing_of x among, is)

  surplus : lines ≡ [] → Follows file before
  unfolding FollowsBy Among
  surplus none = subst (Follows file) (append-nil before) ((follows_on []).0 (go (lacking here trace) refl))
    where
      go : (n : ℕ) → lacking here trace ≡ n → Whole here trace []
      go zero due = follows_whole 0 here trace [] going due refl
      go (suc n) due =
          let (x, among) = some_next here trace (some_due here trace n due) in
          absurd (subst (Among (rendered x.fields)) none (listing_of x among))

  first_that_does_not : Rejected file listing number lines
  unfolding here
  first_that_does_not =
      record {
        before = before;
        instead = instead;
        parts = parts;
        number_is = omega (arith, said.0, end.counted, begun_due file, ap length front_lines.0);
        all_whole = front_lines.1;
        none_there = none_there;
        each_could = each_could;
        no_other = no_other;
        surplus = surplus;
        each_once = subst Once (sym said.1) (nexts_once here trace);
      }

pub rejected_there : RejectedThere
rejected_there = first_that_does_not
