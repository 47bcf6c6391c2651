-- What inner functions answer. No rule stands here that does not stand in Following.
use Rattle.std.specs.Prelude.{Option, None, Some, List, [], ℕ, eqb}
use Rattle.table.specs.Fold.{if}
use Rattle.session.specs.declared.Session.{Session}
use Rattle.logs.specs.Lines.{same_bytes}

-- a line that is a text was found, with the session after it; any other was not
unfoldable pub found_if : Session → List ℕ → List ℕ → Option Session
found_if after line text = if (same_bytes line text) (Some after) None

-- line k of a single one
unfoldable pub only_at : List ℕ → ℕ → List ℕ
only_at text k = if (eqb k 0) text []
