-- `line_end` looks for the first newline from the start on.
use native.Mathlib.Omega.{arith}
use mathlib.Core.Path.{◌≡◌, sym, ap, ◌∙◌}
use Prim.Native.Nat.{ℕ}
use lib.Dec.{eqb}
use lib.ListN.{length, drop}
use Rattle.std.specs.List.{position_or_len}
use Rattle.std.proofs.lemmas.List.{drop_min}
use Rattle.std.proofs.lemmas.Slice.{between_to_end}
use Rattle.ledger.specs.Ledger.{line_length, line_end}
use Rattle.ledger.proofs.Ends.{length_is}
use Rattle.ledger.proofs.lines.line_end.Goals as goal

pub returns-clause-value : goal.returns-clause-value
unfolding line_end
returns-clause-value c =
    let file = c.args.file.now in
    let start = c.min-start.result in
    let from = c.min-start.ensures in
    let rest = between_to_end file start (length file) (omega arith) in
    let first : c.first_of.result ≡ line_length (drop start file) = c.first_of.ensures.value ∙ ap (position_or_len (λ b. eqb b 10)) rest ∙ sym (length_is (drop start file)) in
    let line : c.first_of.result ≡ line_length (drop c.args.start file) = first ∙ ap line_length (ap (λ (n : ℕ). drop n file) from ∙ drop_min c.args.start file) in
    omega (arith, from, line)
