-- `unreturned` strips the last byte, if it is a carriage return.
use mathlib.Core.Path.{◌≡◌, ap, ◌∙◌}
use mathlib.Core.Bool.{true, false}
use mathlib.Core.List.{List, [], ◌∷◌}
use Prim.Native.Nat.{ℕ, ◌-◌, ◌+◌}
use denote.Bor.{Bor}
use lib.Dec.{eqb}
use lib.ListN.{length, take, drop}
use lib.Pointwise.{pointwise}
use Rattle.std.specs.Prelude.{Option, None, Some}
use Rattle.std.specs.Option.{MatchOption, unwrap_or}
use Rattle.notes.specs.Draft.{carriage_return}
use Rattle.notes.specs.Words.{unreturned}
use Rattle.ledger.proofs.Parts.{off_stripped, not_stripped}
use Rattle.ledger.proofs.line.unreturned.Goals as goal

left : (o : Option (Bor (List ℕ))) (line : Bor (List ℕ))
    → MatchOption o (pointwise eqb (drop (length line.now - 1) line.now) (carriage_return ∷ []) ≡ false)
    (λ x. (pointwise eqb (drop (length line.now - 1) line.now) (carriage_return ∷ []) ≡ true) × (x.now ≡ take (length line.now - 1) line.now) × (length x.now + 1 ≡ length line.now))
    → (unwrap_or o line).now ≡ unreturned line.now
left None line h = not_stripped line.now h
left (Some x) line h = h.1 ∙ off_stripped line.now h.0

pub returns : goal.returns
returns c = ap (λ (b : Bor (List ℕ)). b.now) c.unwrap_or.ensures ∙ left c.strip_suffix.result c.args.line c.strip_suffix.ensures.cases
