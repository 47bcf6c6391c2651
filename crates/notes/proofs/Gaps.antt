-- A tab reads as a space, a carriage return before a newline is dropped, and the end of a wrong line changes nothing that is quoted.
use mathlib.Core.Bool.{Bool, true, false, false≢true}
use mathlib.Core.Path.{◌≡◌, refl, sym, ap, subst, ◌∙◌}
use mathlib.Core.List.{List, [], ◌∷◌}
use mathlib.Core.Logic.{◌⊎◌, inl, inr}
use Prim.Native.Nat.{ℕ}
use native.Mathlib.Omega.{arith}
use lib.Dec.{eqb}
use Rattle.table.specs.Fold.{if}
use Rattle.table.proofs.Tests.{by_if}
use Rattle.listing.specs.Line.{space, newline}
use Rattle.notes.specs.declared.Notes.{Notes}
use Rattle.std.specs.Prelude.{Err}
use Rattle.notes.specs.declared.Flaw.TheVariants as flaw
use Rattle.notes.specs.declared.line.Line.{Line}
use Rattle.notes.specs.declared.line.Line.TheVariants.{Blank, Worst, Span, Padding, Ordered, Stream, Call, Wrong}
use Rattle.notes.specs.declared.draft.Place.{Place}
use Rattle.notes.specs.declared.draft.Place.TheVariants.{Between, Within, Comment, Returned, Stray, Amiss}
use Rattle.notes.specs.declared.draft.Draft.{Draft}
use Rattle.notes.specs.declared.heard.Heard.{Heard}
use Rattle.notes.specs.declared.fault.Fault.{Fault}
use Rattle.notes.specs.Draft.{tab, carriage_return, after_gap, after_field, continued, with_byte}
use Rattle.notes.specs.Line.{fields_line, line_of}
use Rattle.notes.specs.Numbers.{fits, first_of, room_at}
use Rattle.notes.specs.Heard.{heard_of, heard_with}
use Rattle.notes.specs.Fault.{field_fault, value_fault, fault_of, fault_by}
use Rattle.notes.specs.Notes.{stopped, after_number, takes_order, after_order, after_stream, began_by, after_event, after, expected_by, Read, read, line_refusal, refused_by, trace_after, line_ended, byte_read, bytes_read, Filed, filed, filed_by}
use Rattle.notes.specs.Laws.{TabIsSpace, ReturnIsDropped, HeardStays, composed_of}
use Rattle.notes.proofs.Grammar.{test}
use Rattle.notes.proofs.Choices.{byte_stopped, byte_ends, byte_lengthens, filed_wrong}

-- ---- tabs

tab_continues : (place : Place) (d : Draft) → continued place d tab ≡ continued place d space
unfolding after_gap after_field if
tab_continues Between d = refl
tab_continues Within d = refl
tab_continues Comment d = refl
tab_continues Returned d = refl
tab_continues Stray d = refl
tab_continues Amiss d = refl

-- the same notes, with another line so far
abbrev with_draft : Notes → Draft → Heard → Notes
with_draft n d h =
    record { line = n.line; numbers = n.numbers; form = n.form; order = n.order; table = n.table; events = n.events; began = n.began; draft = d; heard = h; refused = n.refused; wrong = n.wrong }

tab_read : (n : Notes) (trace : List ℕ) → byte_read (read n trace) tab ≡ byte_read (read n trace) space
unfolding byte_read heard_with if
tab_read n trace =
    ap (λ (d : Draft). if n.wrong (read n trace) (read (with_draft n d (heard_of n.heard.word n.heard.number false)) trace)) (tab_continues n.draft.place n.draft)

pub tab_is_space : TabIsSpace
unfolding bytes_read
tab_is_space r [] b = ap (λ (q : Read). bytes_read q b) (tab_read r.notes r.trace)
tab_is_space r (byte ∷ a) b = tab_is_space (byte_read r byte) a b

-- ---- carriage returns

-- a line is the same after a carriage return
return_line : (place : Place) (d : Draft) → (place ≡ Returned → ⊥) → d.place ≡ place → line_of (with_byte d carriage_return) ≡ line_of d
unfolding after_gap after_field fields_line if
return_line Between d other is = rw is
return_line Within d other is = rw is
return_line Comment d other is = rw is
return_line Returned d other is = absurd (other refl)
return_line Stray d other is = rw is
return_line Amiss d other is = rw is

-- and what is wrong with it
abbrev returned : Notes → Notes
returned n = with_draft n (with_byte n.draft carriage_return) (heard_with n.heard n.draft carriage_return)

return_fault : (place : Place) (n : Notes) → (place ≡ Returned → ⊥) → n.draft.place ≡ place → fault_by (stopped (returned n)) ≡ fault_by (stopped n)
unfolding after_gap after_field fields_line fits first_of room_at heard_with field_fault value_fault fault_of if
return_fault Between n other is = rw is
return_fault Within n other is = rw is
return_fault Comment n other is = rw is
return_fault Returned n other is = absurd (other refl)
return_fault Stray n other is = rw is
return_fault Amiss n other is = rw is

-- notes with another line so far, which is read as the same, end it alike: they go on the same, or stop
module _ (n : Notes) (trace : List ℕ) (d : Draft) (h : Heard) (same : line_of d ≡ line_of n.draft) where
  abbrev other : Notes
  other = with_draft n d h

  Alike : Notes → Notes → Type 0
  Alike a b = (a ≡ b) ⊎ ((a ≡ stopped other) × (b ≡ stopped n))

  either : (t : Bool) (x : Notes) → Alike (if t x (stopped other)) (if t x (stopped n))
  unfolding if Alike
  either true x = inl refl
  either false x = inr (refl, refl)

  alike : (l : Line) → Alike (after other l) (after n l)
  unfolding after_number takes_order after_order after_stream began_by after_event Alike
  alike Blank = inl refl
  alike (Worst x) = either _ _
  alike (Span x) = either _ _
  alike (Padding x) = either _ _
  alike (Ordered o) = either _ _
  alike (Stream e p) = either _ _
  alike (Call event) = either _ _
  alike Wrong = inr (refl, refl)

  abbrev ending : Line → Notes → Read
  ending l next = if next.wrong (read next trace) (read (refused_by next (line_refusal trace n.events l)) (trace_after trace n.events l))

  ends_alike : (line_ended other trace ≡ line_ended n trace) ⊎ ((line_ended other trace ≡ read (stopped other) trace) × (line_ended n trace ≡ read (stopped n) trace))
  unfolding line_ended if Alike
  ends_alike = go (alike (line_of n.draft))
    where
      l : Line
      l = line_of n.draft

      go : Alike (after other l) (after n l)
          → (line_ended other trace ≡ line_ended n trace) ⊎ ((line_ended other trace ≡ read (stopped other) trace) × (line_ended n trace ≡ read (stopped n) trace))
      go (inl e) = inl (ap (λ (k : Line). ending k (after other k)) same ∙ ap (λ (next : Notes). ending l next) e)
      go (inr (e, f)) = inr (ap (λ (k : Line). ending k (after other k)) same ∙ ap (λ (next : Notes). ending l next) e, ap (λ (next : Notes). ending l next) f)

-- what has stopped stays
wrong_stays : (n : Notes) (trace bytes : List ℕ) → n.wrong ≡ true → bytes_read (read n trace) bytes ≡ read n trace
unfolding bytes_read
wrong_stays n trace [] h = refl
wrong_stays n trace (byte ∷ bytes) h = ap (λ (r : Read). bytes_read r bytes) (byte_stopped n trace byte h) ∙ wrong_stays n trace bytes h

module _ (n : Notes) (trace : List ℕ) (h : n.wrong ≡ true) (more out : List ℕ) where
  composed_wrong : composed_of (bytes_read (read n trace) more) out ≡ filed (Err (flaw.Wrong n.line (fault_by n) (expected_by n))) out
  composed_wrong =
      ap (λ (r : Read). composed_of r out) (wrong_stays n trace more h)
      ∙ ap (λ (r : Read). filed_by r.notes r.trace out) (byte_stopped n trace newline h)
      ∙ filed_wrong n trace out h

no_newline : carriage_return ≡ newline → ⊥
no_newline e = omega (arith, e)

module _ (n : Notes) (trace more out : List ℕ) where
  abbrev composed_after : Read → Filed
  composed_after r = composed_of (bytes_read r more) out

  module _ (right : n.wrong ≡ false) (d : Draft) (h : Heard) (same : line_of d ≡ line_of n.draft) (fault : fault_by (stopped (with_draft n d h)) ≡ fault_by (stopped n)) where
    ended_alike : composed_after (byte_read (read (with_draft n d h) trace) newline) ≡ composed_after (byte_read (read n trace) newline)
    unfolding takes_order expected_by
    ended_alike =
        ap composed_after (byte_ends (with_draft n d h) trace newline right refl)
        ∙ go (ends_alike n trace d h same)
        ∙ sym (ap composed_after (byte_ends n trace newline right refl))
      where
        go : (line_ended (with_draft n d h) trace ≡ line_ended n trace)
            ⊎ ((line_ended (with_draft n d h) trace ≡ read (stopped (with_draft n d h)) trace) × (line_ended n trace ≡ read (stopped n) trace))
            → composed_after (line_ended (with_draft n d h) trace) ≡ composed_after (line_ended n trace)
        go (inl e) = ap composed_after e
        go (inr (e, f)) =
            ap composed_after e
            ∙ composed_wrong (stopped (with_draft n d h)) trace refl more out
            ∙ ap (λ (f : Fault). filed (Err (flaw.Wrong n.line f (expected_by n))) out) fault
            ∙ sym (ap composed_after f ∙ composed_wrong (stopped n) trace refl more out)

pub return_is_dropped : ReturnIsDropped
unfolding bytes_read
return_is_dropped r more out other = go (test r.notes.wrong)
  where
    n : Notes
    n = r.notes

    go : (n.wrong ≡ true) ⊎ (n.wrong ≡ false)
        → composed_of (bytes_read r (carriage_return ∷ newline ∷ more)) out ≡ composed_of (bytes_read r (newline ∷ more)) out
    go (inl h) =
        ap (λ (q : Read). composed_of q out) (wrong_stays n r.trace (carriage_return ∷ newline ∷ more) h)
        ∙ sym (ap (λ (q : Read). composed_of q out) (wrong_stays n r.trace (newline ∷ more) h))
    go (inr right) =
        ap (λ (q : Read). composed_of (bytes_read (byte_read q newline) more) out) (byte_lengthens n r.trace carriage_return right no_newline)
        ∙ ended_alike n r.trace more out right (with_byte n.draft carriage_return) (heard_with n.heard n.draft carriage_return)
        (return_line n.draft.place n.draft other refl) (return_fault n.draft.place n other refl)

-- ---- what is quoted

Kept : Notes → Notes → Type 0
Kept n next = next.wrong ≡ true → next.heard ≡ n.heard

kept_or_on : (n : Notes) (t : Bool) (x : Notes) → x.wrong ≡ false → Kept n (if t x (stopped n))
unfolding if Kept
kept_or_on n true x right = λ wrong. absurd (false≢true (sym right ∙ wrong))
kept_or_on n false x right = λ wrong. refl

after_keeps : (n : Notes) (l : Line) → Kept n (after n l)
unfolding after_number takes_order after_order after_stream began_by after_event Kept
after_keeps n Blank = λ wrong. absurd (false≢true wrong)
after_keeps n (Worst x) = kept_or_on n _ _ refl
after_keeps n (Span x) = kept_or_on n _ _ refl
after_keeps n (Padding x) = kept_or_on n _ _ refl
after_keeps n (Ordered o) = kept_or_on n _ _ refl
after_keeps n (Stream e p) = kept_or_on n _ _ refl
after_keeps n (Call event) = kept_or_on n _ _ refl
after_keeps n Wrong = λ wrong. refl

line_keeps : (n : Notes) (trace : List ℕ) → Kept n (line_ended n trace).notes
unfolding line_ended refused_by Kept
line_keeps n trace =
    let l = line_of n.draft in
    let next = after n l in
    let number = line_refusal trace n.events l in
    let P : Read → Type 0 = λ r. Kept n r.notes in
    by_if P next.wrong (read next trace) (read (refused_by next number) (trace_after trace n.events l))
    (λ _. after_keeps n l)
    (λ right. by_if (λ (m : Notes). Kept n m) (eqb number 0) next _ (λ _. after_keeps n l) (λ _ wrong. after_keeps n l wrong))

pub heard_stays : HeardStays
unfolding Kept
heard_stays n trace = go (test n.wrong)
  where
    go : (n.wrong ≡ true) ⊎ (n.wrong ≡ false) → Kept n (byte_read (read n trace) newline).notes
    go (inl h) = λ wrong. ap (λ (r : Read). r.notes.heard) (byte_stopped n trace newline h)
    go (inr right) =
        subst (λ (r : Read). Kept n r.notes) (sym (byte_ends n trace newline right refl)) (line_keeps n trace)
