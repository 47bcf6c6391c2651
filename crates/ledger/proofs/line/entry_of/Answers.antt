-- `entry_of` reads the words of what counts of a line, and they make its entry (`phrase_makes`).
use mathlib.Core.List.{List, []}
use mathlib.Core.Path.{sym, ap, ◌∙◌}
use Prim.Native.Nat.{ℕ}
use Rattle.std.specs.Prelude.{Some}
use Rattle.notes.specs.Words.{uncommented, words_after}
use Rattle.ledger.specs.Phrase.{no_words, with_words, phrase_entry}
use Rattle.ledger.proofs.Phrases.{phrase_makes}
use Rattle.ledger.proofs.line.entry_of.Goals as goal

pub returns-in-Some : goal.returns-in-Some
returns-in-Some c =
    c.entry.ensures
    ∙ ap phrase_entry (sym c.in-Some.is ∙ c.phrase_of.ensures)
    ∙ ap (λ (l : List ℕ). phrase_entry (with_words (Some no_words) (words_after [] l))) (c.uncommented.ensures ∙ ap uncommented c.unreturned.ensures)
    ∙ phrase_makes _

pub returns-in-None : goal.returns-in-None
returns-in-None c =
    ap phrase_entry (sym c.in-None.is ∙ c.phrase_of.ensures)
    ∙ ap (λ (l : List ℕ). phrase_entry (with_words (Some no_words) (words_after [] l))) (c.uncommented.ensures ∙ ap uncommented c.unreturned.ensures)
    ∙ phrase_makes _
