-- Registers, "Configuration: bit 7 masks ALERT; bit 6 is standby; bit 5 chooses THERM2; bit 2 the extended range".
-- Assumes nothing.
use Rattle.std.specs.Prelude.{ℕ, Bool}
use Rattle.rules.specs.Bits.{bit}

abbrev pub masked : ℕ → Bool
masked config = bit 7 config

abbrev pub standby : ℕ → Bool
standby config = bit 6 config

abbrev pub chooses_therm2 : ℕ → Bool
chooses_therm2 config = bit 5 config

abbrev pub extended : ℕ → Bool
extended config = bit 2 config
