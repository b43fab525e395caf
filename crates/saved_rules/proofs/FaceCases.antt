-- The cases hold of the layout and of the calls, by computation. Assumes nothing.
use mathlib.Core.Path.{refl}
use Rattle.rules.proofs.Tables.{opened}
use Rattle.saved_rules.specs.Layout.{front_of, is_saved, same_bytes, save_of, state_at}
use Rattle.saved_rules.specs.Face.{event_of, power_on_of}
use Rattle.saved_rules.specs.FaceCases.{EventCases, PlacesHeld, PowerOnCases, event_rows, fresh, powered, powered_wanted}

pub places_held : PlacesHeld
unfolding front_of save_of
places_held s = refl

pub power_on_cases : PowerOnCases
unfolding opened front_of fresh power_on_of powered powered_wanted save_of
power_on_cases = refl

pub event_cases : EventCases
unfolding opened event_of event_rows front_of fresh is_saved same_bytes save_of state_at
event_cases = refl
