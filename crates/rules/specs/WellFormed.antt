-- Answer codes, 6: "state not well formed: address not 76 or 77; remote value over 1023; run count over 4; a bit set that the
-- registers below never store". Assumes nothing.
use Rattle.std.specs.Prelude.{Bool, not, ◌&&◌, ◌||◌, true, map, leb}
use Rattle.rules.specs.declared.register.Channel.{Channel}
use Rattle.rules.specs.declared.register.Register.{Register}
use Rattle.rules.specs.declared.state.State.{State}
use Rattle.rules.specs.Channels.{all, channels, scale_of, traits}
use Rattle.rules.specs.PowerOn.{is_address}
use Rattle.rules.specs.Rows.{kept_in, registers}
use Rattle.rules.specs.State.{channel_at, stored_of}
use Rattle.rules.specs.Values.{top_of}

-- "a bit set that the registers below never store", register by register
abbrev pub register_well : State → Register → Bool
register_well s r = kept_in r (stored_of s r)

-- "remote value over 1023"; the local value register has 8 bits
abbrev pub value_well : State → Channel → Bool
value_well s ch = leb (channel_at s ch).value (top_of (scale_of ch) true)

-- a channel with no diode has no flag of one
abbrev pub diode_well : State → Channel → Bool
diode_well s ch = (traits ch).diode || not ((channel_at s ch).diode.found || (channel_at s ch).diode.flag)

unfoldable pub well_formed : State → Bool
well_formed s =
    is_address s.address && leb s.runs 4 && all (map (register_well s) registers)
    && all (map (value_well s) channels) && all (map (diode_well s) channels)
