-- What was saved is loaded, and what loads is saved as it was. Assumes nothing.
use Prim.Native.Nat.{ℕ, ◌+◌, ◌*◌, ◌/◌, ◌%◌}
use mathlib.Core.Path.{◌≡◌, refl, ap, subst, sym, ◌∙◌}
use mathlib.Core.Bool.{Bool, true, false, and-false}
use mathlib.Core.List.{List, [], ◌∷◌}
use native.Mathlib.Omega.{arith}
use lib.Dec.{eqb}
use lib.ListN.{length}
use borrow.Author.Tests.{eq-eqb, ne_eqb}
use Rattle.rules.specs.declared.answer.Code.TheVariants.{Done}
use Rattle.rules.specs.declared.event.Numbers.{Numbers}
use Rattle.rules.specs.declared.state.State.{State}
use Rattle.rules.specs.Alarm.{Demand, Shows, history_of, state_of}
use Rattle.rules.specs.Codes.{number_of}
use Rattle.rules.specs.PowerOn.{made_of}
use Rattle.rules.specs.Step.{answer_of, last_from, step_of}
use Rattle.rules.proofs.Alarm.{last_state, no_alarm_lost}
use Rattle.rules.proofs.Kept.{refused_kept}
use Rattle.saved_rules.specs.Face.{Evented, event_of, power_on_of}
use Rattle.saved_rules.specs.Layout.{flag, front_of, is_saved, is_set, same_bytes, save_of, state_at}
use Rattle.saved_rules.specs.Saved.{BytesNoAlarmLost, EventIsStep, EventsAreSteps, LoadedIsSaved, OneEvent, OnePower, PowerOnMeans, PromisesMet, RefusalsMean, RefusedKeepsBytes, SavedIsLoaded, ZerosAreNone, bytes_after}
use Rattle.saved_rules.proofs.Same.{are_same, same_self}

flag_back : (set : Bool) → is_set (flag set) ≡ set
flag_back true = refl
flag_back false = refl

word_back : (v : ℕ) → v % 256 + 256 * (v / 256) ≡ v
word_back v = omega arith

loaded : (s : State) → state_at (save_of s) ≡ s
unfolding front_of save_of state_at
loaded s =
    simp (flag_back s.busy, flag_back s.latch, word_back s.localvalue, word_back s.remotevalue, flag_back s.localconverted, flag_back s.localhighfound, flag_back s.localhighflag, flag_back s.locallowfound, flag_back s.locallowflag, flag_back s.localdiodefound, flag_back s.localdiodeflag, flag_back s.localthermflag, flag_back s.localtherm2mark, flag_back s.remoteconverted, flag_back s.remotehighfound, flag_back s.remotehighflag, flag_back s.remotelowfound, flag_back s.remotelowflag, flag_back s.remotediodefound, flag_back s.remotediodeflag, flag_back s.remotethermflag, flag_back s.remotetherm2mark)

taken : (s : State) → is_saved (save_of s) ≡ true
unfolding is_saved
taken s = rw (loaded s) (same_self (save_of s))

size : (s : State) → length (save_of s) ≡ 128
unfolding front_of save_of
size s = refl

pub saved_is_loaded : SavedIsLoaded
saved_is_loaded s = record { loaded = loaded s; taken = taken s; size = size s }

pub loaded_is_saved : LoadedIsSaved
unfolding is_saved
loaded_is_saved b e = are_same _ _ e

pub power_on_means : PowerOnMeans
unfolding power_on_of
power_on_means address chip =
    record {
      fresh = λ n made. rw (eq-eqb (length chip) 128 n, made);
      bad = λ n made. rw (eq-eqb (length chip) 128 n, made);
      other = λ ne. rw (ne_eqb (length chip) 128 ne);
    }

pub zeros_are_none : ZerosAreNone
unfolding front_of is_saved save_of same_bytes state_at
zeros_are_none = refl

pub event_is_step : EventIsStep
unfolding event_of
event_is_step s e answer n =
    rw (size s, eq-eqb (length answer) 8 n, taken s, loaded s)

pub refusals_mean : RefusalsMean
unfolding event_of
refusals_mean chip e answer =
    record {
      strange = λ n m bad. rw (eq-eqb (length chip) 128 n, eq-eqb (length answer) 8 m, bad);
      other_chip = λ ne. rw (ne_eqb (length chip) 128 ne);
      other_answer = λ ne. rw (ne_eqb (length answer) 8 ne, and-false (eqb (length chip) 128));
    }

-- the state after a refused event is the one before it
module _ (chip : List ℕ) (e : Numbers) (answer : List ℕ) where
  kept : (t u v : Bool) → (eqb (length chip) 128 ≡ t) → (eqb (length answer) 8 ≡ u) → (is_saved chip ≡ v) → ((event_of chip e answer).code ≡ 0 → ⊥) → (event_of chip e answer).chip ≡ chip
  unfolding event_of
  kept false u v a b c h = rw a
  kept true false v a b c h = rw (a, b)
  kept true true false a b c h = rw (a, b, c)
  kept true true true a b c h =
      rw (a, b, c)
      (ap save_of (refused_kept (state_at chip) e (ne_eqb (number_of (step_of (state_at chip) e).code) 0 (rw (a, b, c) at h))).0 ∙ loaded_is_saved chip c)

pub refused_keeps_bytes : RefusedKeepsBytes
refused_keeps_bytes chip e answer h = kept chip e answer (eqb (length chip) 128) (eqb (length answer) 8) (is_saved chip) refl refl refl h

pub events_are_steps : EventsAreSteps
unfolding bytes_after last_from
events_are_steps s [] answer n = refl
events_are_steps s (e ∷ es) answer n =
    rw (event_is_step s e answer n)
    (events_are_steps (step_of s e).state es answer n ∙ ap save_of (last_state es (answer_of Done 0 (step_of s e).state) (step_of s e) refl))

pub bytes_no_alarm_lost : BytesNoAlarmLost
bytes_no_alarm_lost address made chip answer n m es =
    let s = state_of address es in
    let h = history_of address es in
    let lost = no_alarm_lost address made es in
    let bytes : bytes_after (power_on_of address chip).chip es answer ≡ save_of s = rw ((power_on_means address chip).fresh n made) (events_are_steps (made_of address).state es answer m) in
    rw bytes
    (record {
      held = loaded s;
      demand = subst (λ (t : State). Demand t h) (sym (loaded s)) lost.0;
      shows = subst (λ (t : State). Shows t h) (sym (loaded s)) lost.1;
      next = λ e. ap (λ (x : Evented). x.answer) (event_is_step s e answer m);
    })

pub promises_met : PromisesMet
promises_met powered done =
    record { power = record { code = refl; bytes = refl }; event = record { code = refl; bytes = refl; told = refl } }

pub one_power : OnePower
one_power wanted r chip p = (p.code, p.bytes)

pub one_event : OneEvent
one_event wanted r chip answer p = (p.code, p.bytes, p.told)
