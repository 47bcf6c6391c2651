-- What is taken of an old file, by the outline of it.
use mathlib.Core.Bool.{true, false, ◌&&◌}
use mathlib.Core.Path.{◌≡◌, refl, sym, ap, ◌∙◌}
use mathlib.Core.List.{List}
use Rattle.std.specs.declared.result.Result.TheVariants.{Ok, Err}
use Prim.Native.Nat.{ℕ}
use Rattle.table.specs.Fold.{if}
use Rattle.file.specs.Reading.{form_in, trace_start, is_outlined, outline_of}
use Rattle.file.specs.declared.form.Form.{Form}
use Rattle.file.specs.declared.form.Form.TheVariants.{Two, Three}
use Rattle.file.specs.declared.outline.Outline.{Outline}
use Rattle.file.specs.declared.refusal.Refusal.{Refusal}
use Rattle.file.specs.declared.refusal.Refusal.TheVariants.{Layout as NotLaidOut}
use Rattle.file.proofs.Accepted.{chosen, unchosen}
use Rattle.file.proofs.Outlines.{outline_is, no_outline}
use Rattle.repair.specs.Salvage.{is_two, is_salvageable, count_in}
use Rattle.repair.specs.Pieces.{taken_of}
use Rattle.repair.specs.declared.Taken.{Taken}

module _ (old : List ℕ) where
  taken_where : is_salvageable old ≡ true → taken_of old ≡ Ok (record { count = count_in old; start = trace_start old })
  unfolding taken_of if
  taken_where h = rw h

  taken_not : is_salvageable old ≡ false → taken_of old ≡ Err NotLaidOut
  unfolding taken_of if
  taken_not h = rw h

  fine_of : (form : Form) → form_in old ≡ form → is_salvageable old ≡ (is_two form && is_outlined old)
  unfolding is_salvageable
  fine_of form e = rw e refl

  module _ (outline : Outline) (h : outline_of old ≡ Ok outline) where
    pub two_taken : outline.form ≡ Two → Ok (record { count = outline.count; start = outline.start }) ≡ taken_of old
    two_taken two =
        let q = outline_is old outline h in
        rw (← q.count_is, ← q.start_is) (sym (taken_where (fine_of Two (q.form_is ∙ two) ∙ q.holds)))

    pub three_untaken : outline.form ≡ Three → Err NotLaidOut ≡ taken_of old
    three_untaken three = let q = outline_is old outline h in sym (taken_not (fine_of Three (q.form_is ∙ three)))

  pub unfit_untaken : (refusal : Refusal) → outline_of old ≡ Err refusal → Err refusal ≡ taken_of old
  unfit_untaken refusal h = let q = no_outline old refusal h in rw q.1 (sym (taken_not (go (form_in old) refl)))
    where
      go : (form : Form) → form_in old ≡ form → is_salvageable old ≡ false
      go Two e = fine_of Two e ∙ (no_outline old refusal h).0
      go Three e = fine_of Three e

  -- and back again: whether there is something to salvage, and where
  pub record Found (taken : Taken) : Type 0 where
    pub fine : is_salvageable old ≡ true
    pub count_is : taken.count ≡ count_in old
    pub start_is : taken.start ≡ trace_start old

  pub refused_is : (refusal : Refusal) → Err refusal ≡ taken_of old → (is_salvageable old ≡ false) × (refusal ≡ NotLaidOut)
  unfolding taken_of
  refused_is refusal e = unchosen (is_salvageable old) _ (sym e)

  pub found_is : (taken : Taken) → Ok taken ≡ taken_of old → Found taken
  unfolding taken_of
  found_is taken e =
      let q = chosen (is_salvageable old) NotLaidOut (sym e) in
      record { fine = q.0; count_is = ap (λ (t : Taken). t.count) (sym q.1); start_is = ap (λ (t : Taken). t.start) (sym q.1) }
