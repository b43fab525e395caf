-- No second answer satisfies a public contract. Assumes nothing.
use mathlib.Core.Path.{sym, ◌∙◌}
use Rattle.rules.specs.Lines.{alert_low}
use Rattle.rules.specs.PowerOn.{made_of}
use Rattle.rules.specs.Step.{step_of}
use Rattle.rules.specs.WellFormed.{well_formed}
use Rattle.rules.specs.Sound.{OneAnswer, OneFresh, OneStep, OneWellFormed, OneAlertLow}

-- whatever the definition, so for every public function whose contract is `r ≡ ..`
pub one : {A : Type 0} (x : A) → OneAnswer x
one x r r' p q = p ∙ sym q

pub one_fresh : OneFresh
one_fresh address = one (made_of address)

pub one_step : OneStep
one_step s e = one (step_of s e)

pub one_well_formed : OneWellFormed
one_well_formed s = one (well_formed s)

pub one_alert_low : OneAlertLow
one_alert_low s = one (alert_low s)
