-- THERM, THERM2 and busy by the history, as the alarms are. The proof is in proofs/Therm.antt. Assumes nothing.
use Rattle.std.specs.Prelude.{◌≡◌, not, true}
use Rattle.rules.specs.declared.event.Numbers.{Numbers}
use Rattle.rules.specs.declared.register.Channel.{Channel}
use Rattle.rules.specs.declared.state.State.{State}
use Rattle.rules.specs.Alarm.{Always}
use Rattle.rules.specs.Bits.{bit}
use Rattle.rules.specs.Channels.{any_channel, traits}
use Rattle.rules.specs.Comparisons.Comparator.{Therm, Therm2}
use Rattle.rules.specs.Event.{check_of}
use Rattle.rules.specs.History.{History, did_of, now, with_event}
use Rattle.rules.specs.Hot.{hot}
use Rattle.rules.specs.State.{channel_at}
use Rattle.rules.specs.Step.{step_of}

pub record ThermShown (s : State) (h : History) : Type 0 where
  pub flags : (ch : Channel) → (channel_at s ch).therm ≡ hot Therm ch h
  -- 02, item 4: each channel's mark, whatever bit 5 says; the line of it is `Alarm.Shows`'s
  pub marks : (ch : Channel) → (channel_at s ch).therm2 ≡ hot Therm2 ch h
  -- "THERM is low exactly if flag 1 or 0 is set": the line that every answer reports, 1 being high
  pub line : (e : Numbers) → let later = with_event s.address h e (step_of s e).reply in (step_of s e).therm ≡ not (any_channel (λ ch. hot Therm ch later))
  -- "7 busy, .. 1 remote THERM, 0 local THERM"
  pub reads : (e : Numbers) → (did_of (now s.address h) (check_of e)).status_read ≡ true → (bit 7 (step_of s e).reply ≡ (now s.address h).running) × ((ch : Channel) → bit (traits ch).therm_bit (step_of s e).reply ≡ hot Therm ch h)

abbrev pub ThermFollows : Type 0
ThermFollows = Always ThermShown
