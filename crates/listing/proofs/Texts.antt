-- Texts: the line at their start, and the room for it.
use mathlib.Core.Path.{◌≡◌, refl, sym, ap, ◌∙◌}
use mathlib.Core.List.{List, [], ◌∷◌, ◌++◌}
use Prim.Native.Nat.{ℕ, ◌+◌, ◌-◌, ◌*◌, ◌≤◌}
use native.Mathlib.Omega.{arith}
use lib.ListN.{length, drop, replicate, length-append}
use borrow.Rule.Slice.PartMut.{put_mid}
use Rattle.std.proofs.lemmas.List.{length-take-le, take-append-drop, drop-drop, drop-replicate, length-replicate}
use Rattle.std.proofs.lemmas.Slice.{take-put_mid, drop-put_mid}
use Rattle.listing.specs.declared.Text.TheInside.{Inside}
use Rattle.listing.specs.Line.{onward, rendered, text_size, text_of}
use Rattle.listing.specs.Text.{used, IsText}
use Rattle.listing.specs.Laws.{Each, Short, TextHoldsLine}

-- ---- room

onward_room : (fields : List (List ℕ)) → Each Short fields → length (onward fields) ≤ 21 * length fields + 1
unfolding Each onward
onward_room [] p = omega arith
onward_room (field ∷ rest) p = rw (length-append field (onward rest)) (omega (arith, p.0, onward_room rest p.1))

-- a line is as long as its first field and what follows that
pub rendered_length : (field : List ℕ) (rest : List (List ℕ)) → length (rendered (field ∷ rest)) ≡ length field + length (onward rest)
unfolding rendered
rendered_length field rest = length-append field (onward rest)

-- up to six short fields have room
pub fields_have_room : (fields : List (List ℕ)) → Each Short fields → length fields ≤ 6 → length (rendered fields) ≤ text_size
unfolding Each rendered
fields_have_room [] p few = omega arith
fields_have_room (field ∷ rest) p few =
    rw (length-append field (onward rest)) (omega (arith, p.0, onward_room rest p.1, few))

-- ---- the line whole

pub text_holds_line : TextHoldsLine
unfolding text_of
text_holds_line fields short few = (fields_have_room fields short few, refl)

-- ---- a run behind the line so far

-- the line is as long as the text says
pub line_length : (text : Inside) → length text.bytes ≡ text_size → IsText text → length (used text) ≡ text.len
line_length text size is = length-take-le text.len text.bytes (omega (arith, is.within))

module _ (text : Inside) (run : List ℕ) (size : length text.bytes ≡ text_size) (room : text.len + length run ≤ text_size) where
  abbrev pub with_run : Inside
  with_run =
      record { bytes = put_mid text.len (text.len + length run - text.len) text.bytes run; len = text.len + length run }

  -- the zeros that are left behind the run
  zeros_left : drop (text.len + length run) with_run.bytes ≡ drop (length run) (drop text.len text.bytes)
  zeros_left =
      drop-put_mid text.len (text.len + length run - text.len) text.bytes run (text.len + length run) (omega arith) (omega arith) (omega arith)
      ∙ sym (drop-drop (length run) text.len text.bytes)

  pub run_added : used with_run ≡ used text ++ run
  run_added =
      take-put_mid text.len (text.len + length run - text.len) text.bytes run (text.len + length run) refl (omega arith)

  zeros_kept : IsText text → drop (text.len + length run) with_run.bytes ≡ replicate (text_size - (text.len + length run)) 0
  zeros_kept is =
      let left : text_size - text.len - length run ≡ text_size - (text.len + length run) = omega arith in
      zeros_left
      ∙ ap (drop (length run)) is.unused
      ∙ drop-replicate (length run) (text_size - text.len) 0
      ∙ ap (λ n. replicate n 0) left

  -- as many bytes as before: the line, the run and the zeros
  as_many : IsText text → length with_run.bytes ≡ text_size
  as_many is =
      let parts = ap length (take-append-drop (text.len + length run) with_run.bytes) in
      let whole = length-append (used with_run) (drop (text.len + length run) with_run.bytes) in
      let line = ap length run_added ∙ length-append (used text) run in
      let rest = ap length (zeros_kept is) ∙ length-replicate (text_size - (text.len + length run)) 0 in
      omega (arith, parts, whole, line, rest, line_length text size is)

  pub run_kept : IsText text → IsText with_run
  run_kept is = record { size = as_many is; within = room; unused = zeros_kept is }
