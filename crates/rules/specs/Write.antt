-- Registers and Comparisons: what a write byte does. Assumes nothing.
use Rattle.std.specs.Prelude.{ℕ, Bool, cond, not, ◌&&◌, ◌||◌, true, false}
use Rattle.rules.specs.declared.register.Register.{Register}
use Rattle.rules.specs.declared.register.Target.{Target}
use Rattle.rules.specs.declared.register.Target.TheVariants.{Stored, OneShot, Nowhere}
use Rattle.rules.specs.declared.state.State.{State}
use Rattle.rules.specs.Commands.{target_of}
use Rattle.rules.specs.Channels.{any_channel}
use Rattle.rules.specs.Comparisons.{fault_of, limits_of, recompared_of}
use Rattle.rules.specs.Configuration.{standby}
use Rattle.rules.specs.Rows.{row_of, trim_of}
use Rattle.rules.specs.State.{channel_at, each_channel, stored_of, with_busy, with_latch, with_pointer, with_stored}

-- "compares each channel converted since power-on, at once"
abbrev pub all_recompared : State → State
all_recompared s = each_channel (λ ch. recompared_of (limits_of (stored_of s) ch)) s

-- a limit fault of any channel
abbrev pub any_fault : State → Bool
any_fault s = any_channel (λ ch. fault_of (channel_at s ch))

-- "by a standby comparison that finds any limit fault (house: whatever the count)"
abbrev pub latched_by_faults : State → State
latched_by_faults s = with_latch s (s.latch || any_fault s)

unfoldable pub standby_compared : State → State
standby_compared s = latched_by_faults (all_recompared s)

-- "In standby", and "No other moment compares"
abbrev pub compared_if : Bool → State → State
compared_if writes s = cond (writes && standby s.config) (standby_compared s) s

-- "When bit 6 goes from 0 to 1 a running conversion ends with no result": was is the configuration before the write
abbrev pub stopped_if : ℕ → State → State
stopped_if was s = cond (not (standby was) && standby s.config) (with_busy s false) s

-- a register written, "with the new byte in place"
unfoldable pub stored : State → Register → ℕ → State
stored s r b = compared_if (row_of r).compares (stopped_if s.config (with_stored s r (trim_of r b)))

-- "A one-shot write in standby with no conversion running starts one; otherwise it does nothing (house)"
abbrev pub one_shot : State → State
one_shot s = cond (standby s.config && not s.busy) (with_busy s true) s

abbrev pub written_to : State → Target → ℕ → State
written_to s (Stored r) b = stored s r b
written_to s OneShot b = one_shot s
written_to s Nowhere b = s

-- "Kinds 1, 2, 3 set the pointer to the command"
unfoldable pub written : State → ℕ → ℕ → State
written s command b = written_to (with_pointer s command) (target_of command) b
