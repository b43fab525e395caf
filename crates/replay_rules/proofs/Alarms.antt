-- The alarm theorem for a whole replay, which is its events sent one after the other. Assumes nothing.
use Prim.Native.Nat.{ℕ}
use mathlib.Core.Path.{◌≡◌, refl, sym, ap, subst, ◌∙◌}
use mathlib.Core.List.{List, [], ◌∷◌, ◌++◌, append_assoc}
use Rattle.rules.specs.declared.event.Numbers.{Numbers}
use Rattle.rules.specs.declared.state.State.{State}
use Rattle.rules.specs.Alarm.{Demand, Shows}
use Rattle.rules.specs.PowerOn.{made_of}
use Rattle.rules.specs.Step.{after, last_from, step_of}
use Rattle.rules.proofs.Alarm.{after_one, no_alarm_lost}
use Rattle.replay_rules.specs.Play.{text_of}
use Rattle.replay_rules.specs.Consumed.{answers_from, texts_of}
use Rattle.replay_rules.specs.Alarms.{ReplayNoAlarmLost, events_at, history_at}
use Rattle.replay_rules.proofs.Consumed.{replay_told}

-- the answers to two lists of events are those to the first, and those to the second from where it left
split : (es more : List Numbers) (s : State) → texts_of (answers_from s (es ++ more)) ≡ texts_of (answers_from s es) ++ texts_of (answers_from (after s es) more)
unfolding answers_from texts_of last_from
split [] more s = refl
split (e ∷ es) more s =
    let t = (step_of s e).state in
    ap (λ (l : List ℕ). text_of (step_of s e) ++ l) (split es more t)
    ∙ sym (append_assoc (text_of (step_of s e)) (texts_of (answers_from t es)) (texts_of (answers_from (after t es) more)))
    ∙ ap (λ (u : State). (text_of (step_of s e) ++ texts_of (answers_from t es)) ++ texts_of (answers_from u more)) (sym (after_one s e es))

pub replay_no_alarm_lost : ReplayNoAlarmLost
unfolding answers_from texts_of
replay_no_alarm_lost address made trace room =
    let told = replay_told (made_of address).state trace room in
    let h = history_at address trace room in
    let lost = no_alarm_lost address made (events_at address trace room) in
    record {
      demand = subst (λ (s : State). Demand s h) (sym told.state) lost.0;
      shows = subst (λ (s : State). Shows s h) (sym told.state) lost.1;
      each = λ earlier e later events. record {
        text = told.text ∙ ap (λ (es : List Numbers). texts_of (answers_from (made_of address).state es)) events ∙ split earlier (e ∷ later) (made_of address).state;
        shows = (no_alarm_lost address made earlier).1;
      };
    }
