-- `replay::play::event`: code 6, by the test that a step begins with. Assumes nothing.
use Rattle.rules.specs.Step.{step_of}
use Rattle.replay.proofs.play.event.Goals as goal

pub returns : goal.returns
unfolding step_of
returns c = rw (c.refuse_state.ensures, ← c.is_well_formed.ensures, c.if-is_well_formed.false)
