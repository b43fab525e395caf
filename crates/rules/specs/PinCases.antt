-- Document 02, item 4: pin 6 as THERM2, in the form of the bench cases' table, worked out by hand. Assumes nothing.
use Rattle.std.specs.Prelude.{◌≡◌, true, false, List, [], ◌∷◌, ℕ}
use Rattle.std.proofs.Math.IntN.ℤ.{pos, negsuc}
use Rattle.rules.specs.declared.event.Numbers.{Numbers}
use Rattle.rules.specs.declared.register.Channel.TheVariants.{Remote}
use Rattle.rules.specs.declared.register.Register.TheVariants.{Config}
use Rattle.rules.specs.declared.state.State.{State}
use Rattle.rules.specs.PowerOn.{no_mark, power_on}
use Rattle.rules.specs.State.{with_channel, with_stored}
use Rattle.rules.specs.Trial.{Row, row, four, answered, answered_at, answered_from, gots, wants, reset, send, write, respond, start, end, status, convert}

-- the configuration: both bits clear; bit 5; bits 7 and 5; bits 6 and 5
abbrev as_alert : Numbers
as_alert = write 0x09 0x00

abbrev as_therm2 : Numbers
as_therm2 = write 0x09 0x20

abbrev masked_too : Numbers
masked_too = write 0x09 0xa0

abbrev in_standby : Numbers
in_standby = write 0x09 0x60

-- the THERM limits out of reach, so that THERM stays high; four faults in a row needed, so that the latch waits
abbrev apart : List Numbers → List Numbers
apart later = write 0x19 0x7f ∷ write 0x20 0x7f ∷ later

abbrev patient : List Numbers → List Numbers
patient later = apart (write 0x22 0x0f ∷ later)

-- conversions of 20 °C and this many quarters
abbrev remote : ℕ → List Numbers → List Numbers
remote quarters later = convert (pos 20) (pos quarters) later

-- of this many degrees and 200 quarters
abbrev local : ℕ → List Numbers → List Numbers
local degrees later = convert (pos degrees) (pos 200) later

abbrev opened : ℕ → ℕ → List Numbers → List Numbers
opened degrees quarters later = start ∷ end (pos degrees) (pos quarters) 1 ∷ later

-- pin 6 low, and high, after an event that is done and replies nothing; THERM is high
abbrev low : List Numbers → Row
low es = row (answered es) (0 ∷ 0 ∷ 0 ∷ 1 ∷ [])

abbrev high : List Numbers → Row
high es = row (answered es) (0 ∷ 0 ∷ 1 ∷ 1 ∷ [])

abbrev write77 : ℕ → ℕ → Numbers
write77 command b = four 2 (pos 77) (pos command) (pos b)

abbrev low77 : List Numbers → Row
low77 es = row (answered_at 77 es) (0 ∷ 0 ∷ 0 ∷ 1 ∷ [])

abbrev high77 : List Numbers → Row
high77 es = row (answered_at 77 es) (0 ∷ 0 ∷ 1 ∷ 1 ∷ [])

-- a state with the remote mark set and this configuration
abbrev marked : ℕ → State
marked config =
    with_stored (with_channel (power_on (record { address = 76 })) Remote (record { value = 0; converted = false; high = no_mark; low = no_mark; diode = no_mark; therm = false; therm2 = true })) Config config

unfoldable pub pin_rows : List Row
pin_rows =
    -- "set above the high limit", of either channel; the remote limit by both bytes
    high (apart (as_therm2 ∷ remote 340 [])) ∷ low (apart (as_therm2 ∷ remote 341 [])) ∷
    high (apart (as_therm2 ∷ local 85 [])) ∷ low (apart (as_therm2 ∷ local 86 [])) ∷
    high (apart (write 0x13 0xc0 ∷ as_therm2 ∷ remote 343 [])) ∷ low (apart (write 0x13 0xc0 ∷ as_therm2 ∷ remote 344 [])) ∷
    -- by the high limit, not by THERM's
    high (apart (write 0x0d 49 ∷ as_therm2 ∷ remote 196 [])) ∷ low (apart (write 0x0d 49 ∷ as_therm2 ∷ remote 197 [])) ∷
    -- "cleared at or below that limit less the hysteresis", scaled for the remote channel, "otherwise kept"
    low (apart (as_therm2 ∷ remote 341 (remote 301 []))) ∷ high (apart (as_therm2 ∷ remote 341 (remote 300 []))) ∷
    low (apart (as_therm2 ∷ local 86 (local 76 []))) ∷ high (apart (as_therm2 ∷ local 86 (local 75 []))) ∷
    low (apart (write 0x13 0xc0 ∷ as_therm2 ∷ remote 344 (remote 304 []))) ∷ high (apart (write 0x13 0xc0 ∷ as_therm2 ∷ remote 344 (remote 303 []))) ∷
    high (apart (as_therm2 ∷ remote 310 [])) ∷ low (apart (write 0x21 3 ∷ as_therm2 ∷ remote 341 (remote 329 []))) ∷
    high (apart (write 0x21 3 ∷ as_therm2 ∷ remote 341 (remote 328 []))) ∷
    -- "(not under 0)": a hysteresis over the limit releases only at code 0
    low (apart (write 0x21 90 ∷ as_therm2 ∷ remote 341 (remote 1 []))) ∷ high (apart (write 0x21 90 ∷ as_therm2 ∷ remote 341 (remote 0 []))) ∷
    -- at the ends of the range: a limit of 0, a hysteresis over 127, a value and a limit of 1023
    low (apart (write 0x0b 0 ∷ as_therm2 ∷ local 1 [])) ∷ high (apart (write 0x0b 0 ∷ as_therm2 ∷ local 1 (local 0 []))) ∷
    low (write 0x19 0xff ∷ write 0x20 0xff ∷ write 0x0b 250 ∷ write 0x21 200 ∷ write 0x09 0x24 ∷ convert (pos 187) (pos 0) (convert (negsuc 12) (pos 0) [])) ∷
    high (write 0x19 0xff ∷ write 0x20 0xff ∷ write 0x0b 250 ∷ write 0x21 200 ∷ write 0x09 0x24 ∷ convert (pos 187) (pos 0) (convert (negsuc 13) (pos 0) [])) ∷
    row (answered (write 0x0d 0xff ∷ write 0x13 0x80 ∷ write 0x09 0x24 ∷ convert (pos 20) (pos 767) [])) (0 ∷ 0 ∷ 0 ∷ 0 ∷ []) ∷
    row (answered (write 0x0d 0xff ∷ write 0x13 0xc0 ∷ write 0x09 0x24 ∷ convert (pos 20) (pos 767) [])) (0 ∷ 0 ∷ 1 ∷ 0 ∷ []) ∷
    -- "while either mark is set"
    low (apart (as_therm2 ∷ convert (pos 86) (pos 341) (remote 341 []))) ∷ low (apart (as_therm2 ∷ convert (pos 86) (pos 341) (local 86 []))) ∷
    high (apart (as_therm2 ∷ convert (pos 86) (pos 341) (remote 200 []))) ∷
    -- "whatever bit 7 says"
    low (apart (masked_too ∷ remote 341 [])) ∷ low (apart (as_therm2 ∷ remote 341 (masked_too ∷ []))) ∷ high (apart (masked_too ∷ remote 340 [])) ∷
    -- no low limit sets it, no open diode, and no latch
    high (apart (as_therm2 ∷ remote 0 [])) ∷ high (apart (as_therm2 ∷ opened 20 200 [])) ∷ high (apart (remote 341 (remote 200 (as_therm2 ∷ [])))) ∷
    -- the marks are kept up while bit 5 is 0: set, cleared, kept
    low (patient (remote 341 (as_therm2 ∷ []))) ∷ low (patient (local 86 (as_therm2 ∷ []))) ∷
    high (patient (as_therm2 ∷ remote 341 (as_alert ∷ remote 300 (as_therm2 ∷ [])))) ∷
    low (patient (as_therm2 ∷ remote 341 (as_alert ∷ remote 301 (as_therm2 ∷ [])))) ∷
    low (patient (remote 341 (remote 301 (as_therm2 ∷ [])))) ∷ low (patient (remote 341 (as_therm2 ∷ remote 301 []))) ∷
    -- and while bit 5 goes from 0 to 1 and back
    low (patient (as_therm2 ∷ remote 341 (as_alert ∷ as_therm2 ∷ []))) ∷
    -- in the ALERT role the line is ALERT's, whatever the marks
    high (patient (remote 341 [])) ∷ high (patient (as_therm2 ∷ remote 341 (as_alert ∷ []))) ∷
    high (apart (remote 341 (write 0x09 0x80 ∷ []))) ∷
    -- "worked out at the same comparisons as THERM": in standby at once, by each write that compares, and by no other
    low (remote 200 (in_standby ∷ write 0x0d 40 ∷ [])) ∷ low (remote 200 (in_standby ∷ write 0x0b 19 ∷ [])) ∷
    low (remote 200 (write 0x0d 49 ∷ in_standby ∷ write 0x13 0xc0 ∷ [])) ∷ low (remote 200 (write 0x0d 40 ∷ in_standby ∷ write 0x0c 1 ∷ [])) ∷
    low (remote 200 (write 0x0d 40 ∷ in_standby ∷ write 0x0e 1 ∷ [])) ∷ low (remote 200 (write 0x0d 40 ∷ in_standby ∷ write 0x14 0x40 ∷ [])) ∷
    low (remote 200 (write 0x0d 40 ∷ in_standby ∷ write 0x19 0x7f ∷ [])) ∷ low (remote 200 (write 0x0d 40 ∷ in_standby ∷ write 0x20 0x7f ∷ [])) ∷
    low (remote 200 (write 0x0d 40 ∷ in_standby ∷ write 0x21 1 ∷ [])) ∷
    -- the local mark by each of them too
    low (remote 200 (write 0x0b 15 ∷ in_standby ∷ write 0x0c 1 ∷ [])) ∷ low (remote 200 (write 0x0b 15 ∷ in_standby ∷ write 0x0d 0x7f ∷ [])) ∷
    low (remote 200 (write 0x0b 15 ∷ in_standby ∷ write 0x0e 1 ∷ [])) ∷ low (remote 200 (write 0x0b 15 ∷ in_standby ∷ write 0x13 0x40 ∷ [])) ∷
    low (remote 200 (write 0x0b 15 ∷ in_standby ∷ write 0x14 0x40 ∷ [])) ∷ low (remote 200 (write 0x0b 15 ∷ in_standby ∷ write 0x19 0x7f ∷ [])) ∷
    low (remote 200 (write 0x0b 15 ∷ in_standby ∷ write 0x20 0x7f ∷ [])) ∷ low (remote 200 (write 0x0b 15 ∷ in_standby ∷ write 0x21 1 ∷ [])) ∷
    high (remote 200 (write 0x0d 40 ∷ in_standby ∷ write 0x11 1 ∷ write 0x12 0x40 ∷ write 0x22 1 ∷ write 0x0a 1 ∷ write 0x30 1 ∷ [])) ∷
    high (remote 200 (as_therm2 ∷ write 0x0d 40 ∷ [])) ∷
    -- kept at the limit, and released by the limit, by its low byte or by the hysteresis
    low (remote 200 (in_standby ∷ write 0x0d 40 ∷ write 0x0d 50 ∷ [])) ∷ high (remote 200 (in_standby ∷ write 0x0d 40 ∷ write 0x0d 60 ∷ [])) ∷
    low (remote 201 (in_standby ∷ write 0x0d 40 ∷ write 0x0d 60 ∷ [])) ∷ high (remote 201 (in_standby ∷ write 0x0d 40 ∷ write 0x0d 60 ∷ write 0x13 0x40 ∷ [])) ∷
    high (remote 200 (in_standby ∷ write 0x0d 40 ∷ write 0x0d 50 ∷ write 0x21 0 ∷ [])) ∷
    -- a comparison in standby while bit 5 is 0; the alarm that it raises is not the line's in the other role
    low (remote 200 (write 0x09 0x40 ∷ write 0x0d 40 ∷ in_standby ∷ [])) ∷ high (remote 200 (write 0x09 0x40 ∷ write 0x0e 50 ∷ in_standby ∷ [])) ∷
    -- item 3: an open diode leaves the remote mark, set or not, and the local one is worked out
    low (apart (as_therm2 ∷ remote 341 (opened 20 200 []))) ∷ high (apart (as_therm2 ∷ remote 200 (opened 20 341 []))) ∷
    low (apart (as_therm2 ∷ opened 86 200 [])) ∷ high (apart (as_therm2 ∷ local 86 (opened 75 200 []))) ∷
    low (apart (as_therm2 ∷ remote 341 (write 0x0d 0x7f ∷ opened 20 341 []))) ∷ low (apart (as_therm2 ∷ convert (pos 86) (pos 341) (opened 75 200 []))) ∷
    -- "clear at power-on"
    high (apart (as_therm2 ∷ remote 341 (reset ∷ as_therm2 ∷ []))) ∷ high (apart (local 86 (reset ∷ as_therm2 ∷ []))) ∷ high (as_therm2 ∷ []) ∷
    -- "Status flags 6 and 4 stay latched as before", though the mark is released; a status read leaves the mark
    row (answered (apart (as_therm2 ∷ remote 341 (remote 300 (status ∷ []))))) (0 ∷ 16 ∷ 1 ∷ 1 ∷ []) ∷
    row (answered (apart (as_therm2 ∷ local 86 (local 75 (status ∷ []))))) (0 ∷ 64 ∷ 1 ∷ 1 ∷ []) ∷
    row (answered (apart (as_therm2 ∷ remote 341 (remote 301 (status ∷ status ∷ []))))) (0 ∷ 0 ∷ 0 ∷ 1 ∷ []) ∷
    row (answered (apart (as_therm2 ∷ remote 341 (status ∷ status ∷ [])))) (0 ∷ 16 ∷ 0 ∷ 1 ∷ []) ∷
    -- "kind 5 is answered only in the ALERT role", whatever the line
    row (answered (apart (as_therm2 ∷ remote 341 (respond ∷ [])))) (3 ∷ 0 ∷ 0 ∷ 1 ∷ []) ∷
    row (answered (apart (remote 341 (remote 200 (as_therm2 ∷ respond ∷ []))))) (3 ∷ 0 ∷ 1 ∷ 1 ∷ []) ∷
    row (answered (apart (remote 341 (masked_too ∷ respond ∷ [])))) (3 ∷ 0 ∷ 0 ∷ 1 ∷ []) ∷
    -- the latch is kept, and shows when bit 5 goes back to 0; it is set in that role too
    low (apart (remote 341 (remote 200 (as_therm2 ∷ as_alert ∷ [])))) ∷ low (apart (as_therm2 ∷ remote 341 (remote 200 (as_alert ∷ [])))) ∷
    low (apart (as_therm2 ∷ opened 20 200 (as_alert ∷ []))) ∷ low (apart (as_therm2 ∷ remote 341 (respond ∷ remote 200 (status ∷ respond ∷ as_alert ∷ [])))) ∷
    row (answered (apart (as_therm2 ∷ remote 341 (remote 200 (status ∷ as_alert ∷ respond ∷ []))))) (0 ∷ 153 ∷ 1 ∷ 1 ∷ []) ∷
    row (answered (apart (as_therm2 ∷ remote 341 (remote 301 (status ∷ respond ∷ []))))) (3 ∷ 0 ∷ 0 ∷ 1 ∷ []) ∷
    -- an alert response leaves the mark, one that clears the latch too
    low (apart (remote 341 (respond ∷ as_therm2 ∷ []))) ∷ low (apart (remote 341 (remote 301 (status ∷ respond ∷ as_therm2 ∷ [])))) ∷
    -- so do a one-shot, a write to a hole, a send and a start; the end of that one-shot works it out
    low (apart (remote 341 (in_standby ∷ write 0x0f 0 ∷ []))) ∷ low (apart (as_therm2 ∷ remote 341 (write 0x30 1 ∷ []))) ∷
    low (apart (as_therm2 ∷ remote 341 (send 0x02 ∷ []))) ∷ low (apart (as_therm2 ∷ remote 341 (start ∷ []))) ∷
    high (apart (remote 341 (in_standby ∷ write 0x0f 0 ∷ end (pos 20) (pos 300) 0 ∷ []))) ∷
    -- THERM is its own line: low with pin 6 high, and both
    row (answered (write 0x0d 0x7f ∷ as_therm2 ∷ remote 341 [])) (0 ∷ 0 ∷ 1 ∷ 0 ∷ []) ∷
    row (answered (as_therm2 ∷ remote 341 [])) (0 ∷ 0 ∷ 0 ∷ 0 ∷ []) ∷
    -- the extended range: codes are compared
    low (apart (write 0x09 0x24 ∷ convert (pos 22) (pos 84) [])) ∷ high (apart (write 0x09 0x24 ∷ convert (pos 21) (pos 84) [])) ∷
    low (apart (write 0x09 0xa4 ∷ convert (pos 22) (pos 84) [])) ∷
    -- at address 77
    low77 (remote 200 (write77 0x09 0x60 ∷ write77 0x0d 40 ∷ [])) ∷ high77 (remote 200 (write77 0x09 0x60 ∷ write77 0x0d 40 ∷ write77 0x0d 60 ∷ [])) ∷
    low77 (remote 200 (write77 0x0d 40 ∷ write77 0x09 0x40 ∷ write77 0x14 0x40 ∷ write77 0x09 0x60 ∷ [])) ∷
    high77 (remote 200 (write77 0x0d 40 ∷ write77 0x09 0x40 ∷ write77 0x0a 1 ∷ write77 0x09 0x60 ∷ [])) ∷
    low77 (write77 0x19 0x7f ∷ write77 0x09 0xa0 ∷ remote 341 (opened 20 200 [])) ∷ high77 (write77 0x19 0x7f ∷ write77 0x09 0x20 ∷ remote 341 (remote 300 [])) ∷
    row (answered_at 77 (four 2 (pos 77) (pos 0x09) (pos 0x20) ∷ four 2 (pos 77) (pos 0x19) (pos 0x7f) ∷ remote 341 [])) (0 ∷ 0 ∷ 0 ∷ 1 ∷ []) ∷
    -- a refused event's line is read from the state as it came: codes 1 to 6; it works out no mark
    row (answered (apart (as_therm2 ∷ remote 341 (start ∷ start ∷ [])))) (4 ∷ 0 ∷ 0 ∷ 1 ∷ []) ∷
    row (answered (remote 200 (write 0x0d 40 ∷ in_standby ∷ four 2 (pos 76) (pos 0x0d) (pos 256) ∷ []))) (2 ∷ 0 ∷ 1 ∷ 1 ∷ []) ∷
    row (answered (remote 200 (write 0x0d 40 ∷ in_standby ∷ write77 0x0d 40 ∷ []))) (3 ∷ 0 ∷ 1 ∷ 1 ∷ []) ∷
    row (answered_from (marked 0x20) (four 8 (pos 0) (pos 0) (pos 0) ∷ [])) (1 ∷ 0 ∷ 0 ∷ 1 ∷ []) ∷
    row (answered_from (marked 0x20) (four 0 (pos 1) (pos 0) (pos 0) ∷ [])) (2 ∷ 0 ∷ 0 ∷ 1 ∷ []) ∷
    row (answered_from (marked 0x20) (four 3 (pos 77) (pos 0) (pos 0) ∷ [])) (3 ∷ 0 ∷ 0 ∷ 1 ∷ []) ∷
    row (answered_from (marked 0x20) (end (pos 0) (pos 0) 0 ∷ [])) (5 ∷ 0 ∷ 0 ∷ 1 ∷ []) ∷
    row (answered_from (marked 0x30) (start ∷ [])) (6 ∷ 0 ∷ 0 ∷ 1 ∷ []) ∷
    row (answered_from (marked 0x10) (start ∷ [])) (6 ∷ 0 ∷ 1 ∷ 1 ∷ []) ∷
    []

abbrev pub PinCases : Type 0
PinCases = gots pin_rows ≡ wants pin_rows
