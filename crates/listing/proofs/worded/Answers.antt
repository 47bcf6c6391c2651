-- `worded` puts the word, and then the numbers behind it.
use mathlib.Core.Path.{◌≡◌, ◌∙◌}
use lib.ListN.{take}
use Rattle.listing.specs.Line.{rendered, worded_fields, text_of}
use Rattle.listing.proofs.Words.{taken, numbers_room}
use Rattle.listing.proofs.worded.Goals as goal

pub put_onward-requires : goal.put_onward-requires
put_onward-requires c =
    let word = c.args.word.now in
    let numbers = c.args.numbers.now in
    let first : c.put.new.self ≡ take 20 word = c.put.ensures ∙ rw (c.empty-text.ensures) (taken 20 word c.min.ensures) in
    rw (first, taken 5 numbers c.min-2.ensures) (numbers_room word numbers (λ j. (c.type_inv.numbers j).fits))

pub returns : goal.returns
unfolding rendered worded_fields text_of
returns c =
    let word = c.args.word.now in
    let numbers = c.args.numbers.now in
    let first : c.put.new.self ≡ take 20 word = c.put.ensures ∙ rw (c.empty-text.ensures) (taken 20 word c.min.ensures) in
    c.put_onward.ensures ∙ rw (first, taken 5 numbers c.min-2.ensures)
