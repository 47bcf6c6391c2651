-- `first_with` finds the first place before i with its period, or else is i.
use mathlib.Core.List.{List}
use mathlib.Core.Path.{◌≡◌, refl, sym, ◌∙◌}
use Prim.Native.Nat.{ℕ, ◌<◌}
use native.Mathlib.Omega.{arith}
use lib.ListN.{get_or, take}
use lib.Seq.{get_or-take}
use borrow.Author.Rules.{rules}
use Rattle.std.proofs.Common.{Option, Some, None}
use Rattle.std.specs.Option.{MatchOption, unwrap_or}
use Rattle.table.specs.Groups.{first_with}
use Rattle.table.proofs.Grouped.{first_with_at}
use Rattle.table.proofs.groups.first_with.Goals as goal

-- a place before i has i's period
abbrev Same : List ℕ → ℕ → ℕ → Type 0
Same xs i k = get_or (take i xs) k 0 ≡ get_or xs i 0

found : (xs : List ℕ) (i : ℕ) (r : Option ℕ) → MatchOption r ((k : ℕ) → k < i → Same xs i k → ⊥) (λ j. (j < i) × Same xs i j × ((k : ℕ) → k < j → Same xs i k → ⊥))
    → unwrap_or r i ≡ first_with (λ j. get_or xs j 0) i
found xs i None none =
    sym (first_with_at (λ j. get_or xs j 0) i i (omega arith) (λ k l e. none k l (get_or-take i xs k 0 l ∙ e)) refl)
found xs i (Some j) (l, same, none) =
    sym
    (first_with_at (λ j. get_or xs j 0) i j (omega arith) (λ k m e. none k m (get_or-take i xs k 0 (omega arith) ∙ e)) (sym (get_or-take i xs j 0 l) ∙ same))

pub returns : goal.returns
returns c =
    let xs = c.args.period in
    let i = c.args.i in
    let told : MatchOption c.position.result ((k : ℕ) → k < i → Same xs i k → ⊥) (λ j. (j < i) × Same xs i j × ((k : ℕ) → k < j → Same xs i k → ⊥)) = search rules in
    c.unwrap_or.ensures ∙ found xs i c.position.result told
