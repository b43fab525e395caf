-- Status, ALERT, THERM: the lines. ALERT and pin 6 are two things: ALERT is what an alert response and a board ask; pin 6, which serves
-- ALERT or THERM2, is what an answer reports. Assumes nothing.
use Rattle.std.specs.Prelude.{Bool, cond, not, ◌&&◌}
use Rattle.rules.specs.declared.state.State.{State}
use Rattle.rules.specs.Channels.{any_channel}
use Rattle.rules.specs.Configuration.{masked, chooses_therm2}
use Rattle.rules.specs.State.{channel_at}

-- "ALERT is low exactly if the latch is set and configuration bits 7 and 5 are 0": 02, item 4: "kind 5 is answered only in the ALERT role"
abbrev pub alert_low : State → Bool
alert_low s = s.latch && not (masked s.config) && not (chooses_therm2 s.config)

-- 02, item 4, "The line is low while either mark is set, whatever bit 7 says (house)"
abbrev pub therm2_low : State → Bool
therm2_low s = any_channel (λ ch. (channel_at s ch).therm2)

-- "With configuration bit 5 set, it is a second comparator"; "the answer's alert line then reports pin 6 in either role"
abbrev pub pin_low : State → Bool
pin_low s = cond (chooses_therm2 s.config) (therm2_low s) (alert_low s)

abbrev pub pin_line : State → Bool
pin_line s = not (pin_low s)

-- "THERM is low exactly if flag 1 or 0 is set"
abbrev pub therm_low : State → Bool
therm_low s = any_channel (λ ch. (channel_at s ch).therm)

abbrev pub therm_line : State → Bool
therm_line s = not (therm_low s)
