-- What the end of a conversion leaves, of a state and of a history. Assumes nothing.
use Prim.Native.Nat.{ℕ, ◌+◌}
use mathlib.Core.Path.{◌≡◌, refl, sym, subst, ap, ◌∙◌}
use mathlib.Core.Bool.{Bool, true, false, cond, ◌||◌, and-true, or-false, or-true}
use lib.Dec.{leb}
use lib.IntN.{ℤ}
use Rattle.rules.specs.declared.answer.Code.TheVariants.{NoEnd}
use Rattle.rules.specs.declared.event.Samples.{Samples}
use Rattle.rules.specs.declared.register.Channel.TheVariants.{Local, Remote}
use Rattle.rules.specs.declared.register.Register.{Register}
use Rattle.rules.specs.declared.state.State.{State}
use Rattle.rules.specs.Alarm.{in_arow, is_fault, latest, or_else, stands}
use Rattle.rules.specs.Comparisons.{compared_of}
use Rattle.rules.specs.Conversion.{code_for, converted, converted_of, taken_of}
use Rattle.rules.specs.Ended.{ClosedTakes, Ends, Held, Idle, OpenHolds, OpenPasses, Taken, one_more, over, under}
use Rattle.rules.specs.History.{Finding, View, now, outcome}
use Rattle.rules.specs.Hot.{hot}
use Rattle.rules.specs.State.{stored_of}
use Rattle.rules.specs.Status.{flag_for}
use Rattle.rules.specs.Status.Fault.{Above, Below}
use Rattle.rules.specs.Step.{apply_of, done, end_of, refused, silent, step_of}
use Rattle.rules.proofs.Alarm.{needs_same}
use Rattle.rules.proofs.Steps.{converted_steps, outcome_fault}
use Rattle.rules.proofs.WellFormed.{Well, well}

module _ (s : State) (w : Well s) (local remote : ℤ) where
  abbrev samples : Bool → Samples
  samples broken = record { local = local; remote = remote; broken = broken }

  abbrev local_code : ℕ
  local_code = code_for (stored_of s) Local local

  abbrev remote_code : ℕ
  remote_code = code_for (stored_of s) Remote remote

  idle : (broken : Bool) → Idle s (converted s (samples broken))
  idle broken =
      let seen = (converted_steps s w (samples broken)).seen in
      record { busy = ap (λ (v : View). v.running) seen; pointer = ap (λ (v : View). v.pointer) seen; registers = λ r. ap (λ (v : View). v.registers r) seen }

  held : Held s (converted s (samples true)) local_code
  unfolding converted converted_of taken_of compared_of
  held =
      record {
        diode = ap (λ (b : Bool). record { found = true; flag = b }) (or-true s.remotediodeflag);
        latch = or-true s.latch;
        local = record { value = refl; converted = refl; high = refl; low = refl; therm = refl; therm2 = refl };
        remote = record { value = refl; therm = refl; therm2 = refl; high = refl; low = refl; converted = refl };
        runs = ap (one_more s.runs) (or-false (over (stored_of s) Local local_code || under (stored_of s) Local local_code));
        rest = idle true;
      }

  taken : Taken s (converted s (samples false)) local_code remote_code
  unfolding converted converted_of taken_of compared_of
  taken =
      record {
        diode = refl;
        local = record { value = refl; converted = refl; high = refl; low = refl; therm = refl; therm2 = refl };
        remote = record { value = refl; converted = refl; high = refl; low = refl; therm = refl; therm2 = refl };
        runs = ap (λ (b : Bool). one_more s.runs (over (stored_of s) Local local_code || under (stored_of s) Local local_code || b)) (or-false (over (stored_of s) Remote remote_code || under (stored_of s) Remote remote_code));
        latch = ap (λ (n : ℕ). s.latch || leb n (converted s (samples false)).runs) (needs_same s.consecutive).0;
        rest = idle false;
      }

-- what holds of a conversion with such a diode holds of the step that ends one
ended : (broken : Bool) (P : State → Samples → State → Type 0) → ((s : State) → Well s → (local remote : ℤ) → P s (record { local = local; remote = remote; broken = broken }) (converted s (record { local = local; remote = remote; broken = broken }))) → Ends broken P
unfolding step_of apply_of end_of
ended broken P h s w busy e t is so =
    subst (P s t) (sym (rw (w, is) (ap (λ (b : Bool). (cond b (done (silent (converted s t))) (refused NoEnd s)).state) busy)))
    (subst (λ (u : Samples). P s u (converted s u)) (λ i. record { local = t.local; remote = t.remote; broken = sym so i }) (h s (well s w) t.local t.remote))

pub open_holds : OpenHolds
open_holds = ended true (λ s t left. Held s left (code_for (stored_of s) Local t.local)) held

pub closed_takes : ClosedTakes
closed_takes =
    ended false (λ s t left. Taken s left (code_for (stored_of s) Local t.local) (code_for (stored_of s) Remote t.remote)) taken

-- what a comparison of the local channel finds
local_found : (f : Register → ℕ) (code : ℕ) → (is_fault (outcome (over f Local code)) || is_fault (outcome (under f Local code))) ≡ (over f Local code || under f Local code)
local_found f code = rw (outcome_fault (over f Local code), outcome_fault (under f Local code))

pub open_passes : OpenPasses
unfolding latest stands in_arow hot
open_passes address h t reply runs broken = rw (runs, broken)
    (record {
      latest_high = refl;
      latest_low = refl;
      latest_open = refl;
      high = and-true _;
      low = and-true _;
      opened = refl;
      therms = λ k. refl;
      latches = refl;
      local_high = by (over (now address h).registers Local (code_for (now address h).registers Local t.local)) (latest (flag_for Local Above) h);
      local_low = by (under (now address h).registers Local (code_for (now address h).registers Local t.local)) (latest (flag_for Local Below) h);
      value = refl;
      converted = refl;
      local_value = refl;
      local_converted = refl;
      in_a_row = ap (λ (b : Bool). cond b (in_arow h + 1) 0) (or-false _ ∙ local_found (now address h).registers (code_for (now address h).registers Local t.local));
    })
  where
    by : (b : Bool) (earlier : Finding) → or_else (outcome b) earlier ≡ outcome b
    by true earlier = refl
    by false earlier = refl
