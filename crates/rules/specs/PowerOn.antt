-- Registers, "Power-on"; Answer codes, "A fresh state is made for address 76 or 77; any other address is code 2 with a state of
-- all zeros". Assumes nothing.
use Rattle.std.specs.Prelude.{ℕ, Bool, cond, ◌||◌, false, eqb, ℤ}
use Rattle.std.proofs.Math.IntN.ℤ.{pos, negsuc}
use Rattle.rules.specs.declared.state.Given.{Given}
use Rattle.rules.specs.declared.state.Mark.{Mark}
use Rattle.rules.specs.declared.state.ChannelState.{ChannelState}
use Rattle.rules.specs.declared.state.State.{State}
use Rattle.rules.specs.declared.answer.Code.TheVariants.{Done, BadField}
use Rattle.rules.specs.declared.answer.Made.{Made}
use Rattle.rules.specs.Rows.{row_of}
use Rattle.rules.specs.State.{Rest, state_from}

-- "no comparison made": no fault was found, and no flag stands
abbrev pub no_mark : Mark
no_mark = record { found = false; flag = false }

-- "no channel yet converted, no comparison made"; 02, item 4: the marks "are clear at power-on"
abbrev pub new_channel : ChannelState
new_channel =
    record { value = 0; converted = false; high = no_mark; low = no_mark; diode = no_mark; therm = false; therm2 = false }

-- "pointer 00, .. run count 0"
abbrev pub new_rest : Rest
new_rest = record { pointer = 0; busy = false; runs = 0; latch = false }

-- each register's byte is its row's, at what was given
abbrev pub power_on : Given → State
power_on g = state_from g new_rest (λ r. (row_of r).start) (λ ch. new_channel)

-- "a state of all zeros"
abbrev pub all_zero : State
all_zero = state_from (record { address = 0 }) new_rest (λ r. 0) (λ ch. new_channel)

-- "address 76 or 77"
abbrev pub is_address : ℕ → Bool
is_address a = eqb a 76 || eqb a 77

abbrev pub no_state : Made
no_state = record { code = BadField; state = all_zero }

abbrev pub made_at : ℕ → Made
made_at a = record { code = Done; state = power_on (record { address = a }) }

abbrev pub made_of : ℤ → Made
made_of (pos a) = cond (is_address a) (made_at a) no_state
made_of (negsuc n) = no_state
