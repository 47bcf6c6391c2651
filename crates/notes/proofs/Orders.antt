-- The form and the order of notes are those of the line of an order, where there is one.
use mathlib.Core.Bool.{Bool, true, false, false≢true}
use mathlib.Core.Path.{◌≡◌, refl, sym}
use Rattle.table.specs.Fold.{if}
use Rattle.order.specs.declared.Order.{Order}
use Rattle.file.specs.declared.form.Form.TheVariants.{Three}
use Rattle.notes.specs.declared.Notes.{Notes}
use Rattle.notes.specs.declared.line.Line.{Line}
use Rattle.notes.specs.declared.line.Line.TheVariants.{Blank, Worst, Span, Padding, Ordered, Stream, Call, Wrong}
use Rattle.notes.specs.Notes.{stopped, ordered, after_number, after_order, after_stream, after_event, after}
use Rattle.notes.specs.Laws.{OrderIsOfItsLine}

-- the same form and order, whether a line is taken or not
Kept : Notes → Notes → Type 0
Kept n next = (next.form ≡ n.form) × (next.order ≡ n.order)

kept : (n x : Notes) (taken : Bool) → Kept n x → Kept n (if taken x (stopped n))
unfolding if Kept
kept n x true same = same
kept n x false same = (refl, refl)

others_keep : (n : Notes) (l : Line) → ((o : Order) → l ≡ Ordered o → ⊥) → Kept n (after n l)
unfolding after_number after_stream after_event Kept
others_keep n Blank other = (refl, refl)
others_keep n (Worst x) other = kept n _ _ (refl, refl)
others_keep n (Span x) other = kept n _ _ (refl, refl)
others_keep n (Padding x) other = kept n _ _ (refl, refl)
others_keep n (Ordered o) other = absurd (other o refl)
others_keep n (Stream e p) other = kept n _ _ (refl, refl)
others_keep n (Call event) other = kept n _ _ (refl, refl)
others_keep n Wrong other = (refl, refl)

taken_gives : (n : Notes) (o : Order) (taken : Bool) → let next = if taken (ordered n o) (stopped n) in
    next.wrong ≡ false → (next.form ≡ Three) × (next.order ≡ o)
unfolding if
taken_gives n o true right = (refl, refl)
taken_gives n o false right = absurd (false≢true (sym right))

pub order_is_of_its_line : OrderIsOfItsLine
unfolding after_order Kept
order_is_of_its_line = (λ n o. taken_gives n o _, others_keep)
