-- `closing_of` shows the last job of what `state_of` shows.
use Rattle.view.specs.View.{closing_of}
use Rattle.view.proofs.closing_of.Goals as goal

pub returns : goal.returns
unfolding closing_of
returns c = rw c.state_of-state.ensures
