-- `numbered` puts the first number, and then the others behind it.
use native.Mathlib.Omega.{arith}
use mathlib.Core.Path.{◌≡◌, ap, ◌∙◌}
use mathlib.Core.List.{◌++◌, map}
use lib.ListN.{length}
use Rattle.listing.specs.Line.{decimal, onward, rendered, text_of}
use Rattle.listing.proofs.Decimal.{decimal_is_short}
use Rattle.listing.proofs.Texts.{rendered_length}
use Rattle.listing.proofs.Words.{numbered_room}
use Rattle.listing.proofs.numbered.Goals as goal

pub put_decimal-requires : goal.put_decimal-requires
put_decimal-requires c =
    omega (arith, decimal_is_short c.args.first c.ranges.first.fits, ap length c.empty-text.ensures)

pub put_onward-requires : goal.put_onward-requires
put_onward-requires c =
    let a = c.args in
    let first : c.put_decimal.new.self ≡ decimal a.first = c.put_decimal.ensures ∙ ap (λ line. line ++ decimal a.first) c.empty-text.ensures in
    omega (
      arith,
      numbered_room a.first a.others.now c.ranges.first.fits (λ j. (c.type_inv.others j).fits) (omega arith),
      rendered_length (decimal a.first) (map decimal a.others.now),
      ap length first,
    )

pub returns : goal.returns
unfolding rendered text_of
returns c =
    let a = c.args in
    let first : c.put_decimal.new.self ≡ decimal a.first = c.put_decimal.ensures ∙ ap (λ line. line ++ decimal a.first) c.empty-text.ensures in
    c.put_onward.ensures ∙ ap (λ line. line ++ onward (map decimal a.others.now)) first
