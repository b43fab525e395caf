-- What K1 to K12 do not reach, in the form of the bench cases' table: the cases that decide most, worked out by hand from document 01 and
-- document 02's item 3. Assumes nothing.
use Rattle.std.specs.Prelude.{◌≡◌, true, List, [], ◌∷◌, ℕ, ℤ}
use Rattle.std.proofs.Math.IntN.ℤ.{pos, negsuc}
use Rattle.rules.specs.declared.event.Numbers.{Numbers}
use Rattle.rules.specs.declared.register.Channel.{Channel}
use Rattle.rules.specs.declared.register.Channel.TheVariants.{Local, Remote}
use Rattle.rules.specs.declared.register.Register.TheVariants.{Config, RemoteHighFine, RemoteLowFine, RemoteOffsetFine}
use Rattle.rules.specs.declared.state.State.{State}
use Rattle.rules.specs.Comparisons.{diode_of}
use Rattle.rules.specs.Conversion.{measured_of}
use Rattle.rules.specs.PowerOn.{new_channel, power_on}
use Rattle.rules.specs.State.{with_channel, with_runs, with_stored}
use Rattle.rules.specs.Trial.{Row, row, four, answered, answered_at, answered_from, gots, wants, reset, send, write, read, receive, respond, start, end, status, convert}

-- a conversion with nothing at fault, and one with the remote channel above its limit and below its THERM limit, which is raised
abbrev good : List Numbers → List Numbers
good later = convert (pos 20) (pos 200) later

abbrev hot : List Numbers → List Numbers
hot later = convert (pos 20) (pos 341) later

-- one that ends with the diode open
abbrev opened : ℤ → ℤ → List Numbers → List Numbers
opened local remote later = start ∷ end local remote 1 ∷ later

abbrev high_therm : Numbers
high_therm = write 0x19 0x7f

abbrev high_therm77 : Numbers
high_therm77 = four 2 (pos 77) (pos 0x19) (pos 0x7f)

abbrev ready : State
ready = power_on (record { address = 76 })

-- with a value in one channel
abbrev holding : Channel → ℕ → State
holding ch value = with_channel ready ch (measured_of value new_channel)

-- a register's byte at power-on, and what is read back of 255
abbrev at_power_on : ℕ → ℕ → Row
at_power_on reads byte = row (answered (read reads ∷ [])) (0 ∷ byte ∷ 1 ∷ 1 ∷ [])

abbrev read_back : ℕ → ℕ → ℕ → Row
read_back writes reads byte = row (answered (write writes 0xff ∷ read reads ∷ [])) (0 ∷ byte ∷ 1 ∷ 1 ∷ [])

unfoldable pub rule_rows : List Row
rule_rows =
    -- every register at its addresses
    at_power_on 0x03 0x00 ∷ read_back 0x09 0x03 0xe4 ∷ at_power_on 0x04 0x08 ∷ read_back 0x0a 0x04 0xff ∷
    at_power_on 0x05 0x55 ∷ read_back 0x0b 0x05 0xff ∷ at_power_on 0x06 0x00 ∷ read_back 0x0c 0x06 0xff ∷
    at_power_on 0x07 0x55 ∷ read_back 0x0d 0x07 0xff ∷ at_power_on 0x08 0x00 ∷ read_back 0x0e 0x08 0xff ∷
    at_power_on 0x11 0x00 ∷ read_back 0x11 0x11 0xff ∷ at_power_on 0x12 0x00 ∷ read_back 0x12 0x12 0xc0 ∷
    at_power_on 0x13 0x00 ∷ read_back 0x13 0x13 0xc0 ∷ at_power_on 0x14 0x00 ∷ read_back 0x14 0x14 0xc0 ∷
    at_power_on 0x19 0x55 ∷ read_back 0x19 0x19 0xff ∷ at_power_on 0x20 0x55 ∷ read_back 0x20 0x20 0xff ∷
    at_power_on 0x21 0x0a ∷ read_back 0x21 0x21 0xff ∷ at_power_on 0x22 0x01 ∷ read_back 0x22 0x22 0xff ∷
    -- Errors that look right: in the extended range 55 is 21 °C, local and remote
    row (answered (write 0x09 4 ∷ convert (pos 21) (pos 84) (status ∷ []))) (0 ∷ 0 ∷ 1 ∷ 1 ∷ []) ∷
    row (answered (write 0x09 4 ∷ convert (pos 22) (pos 84) (status ∷ []))) (0 ∷ 65 ∷ 0 ∷ 0 ∷ []) ∷
    row (answered (write 0x09 4 ∷ convert (pos 21) (pos 85) (status ∷ []))) (0 ∷ 18 ∷ 0 ∷ 0 ∷ []) ∷
    -- local limits and THERM: low at or below, THERM kept down to the limit less the hysteresis
    row (answered (convert (pos 0) (pos 200) (status ∷ []))) (0 ∷ 32 ∷ 0 ∷ 1 ∷ []) ∷
    row (answered (convert (pos 86) (pos 200) (convert (pos 76) (pos 200) (status ∷ [])))) (0 ∷ 65 ∷ 0 ∷ 0 ∷ []) ∷
    row (answered (convert (pos 86) (pos 200) (convert (pos 75) (pos 200) (status ∷ [])))) (0 ∷ 64 ∷ 0 ∷ 1 ∷ []) ∷
    -- a limit's low byte counts in 64ths: at 341 the high limit 340 and a quarter is not passed; low at 42 quarters, not at 43
    row (answered (write 0x13 0x40 ∷ convert (pos 20) (pos 341) (status ∷ []))) (0 ∷ 2 ∷ 1 ∷ 0 ∷ []) ∷
    row (answered (write 0x0e 10 ∷ write 0x14 0x80 ∷ convert (pos 20) (pos 42) (status ∷ []))) (0 ∷ 8 ∷ 0 ∷ 1 ∷ []) ∷
    row (answered (write 0x0e 10 ∷ write 0x14 0x80 ∷ convert (pos 20) (pos 43) (status ∷ []))) (0 ∷ 0 ∷ 1 ∷ 1 ∷ []) ∷
    -- so does the offset's
    row (answered (write 0x12 0x40 ∷ good (read 0x10 ∷ []))) (0 ∷ 0x40 ∷ 1 ∷ 1 ∷ []) ∷
    -- local range: clamped to 0..127, or 64 added and clamped to 0..255
    row (answered (convert (pos 200) (pos 200) (read 0x00 ∷ []))) (0 ∷ 127 ∷ 0 ∷ 0 ∷ []) ∷
    row (answered (write 0x09 4 ∷ convert (negsuc 63) (pos 0) (read 0x00 ∷ []))) (0 ∷ 0 ∷ 0 ∷ 1 ∷ []) ∷
    row (answered (write 0x09 4 ∷ convert (pos 200) (pos 0) (read 0x00 ∷ []))) (0 ∷ 255 ∷ 0 ∷ 0 ∷ []) ∷
    -- the clamp comes after the sum: 600 - 100 is 500
    row (answered (write 0x11 0xe7 ∷ convert (pos 20) (pos 600) (read 0x01 ∷ []))) (0 ∷ 125 ∷ 0 ∷ 0 ∷ []) ∷
    -- a range change alters no stored value
    row (answered (good (write 0x09 4 ∷ read 0x01 ∷ []))) (0 ∷ 50 ∷ 1 ∷ 1 ∷ []) ∷
    -- the open diode: its flag and the latch, whatever number is needed; till a conversion finds it closed and the status is read
    row (answered (write 0x22 0x0f ∷ opened (pos 20) (pos 200) (status ∷ []))) (0 ∷ 4 ∷ 0 ∷ 1 ∷ []) ∷
    row (answered (opened (pos 20) (pos 200) (write 0x09 64 ∷ write 0x0d 60 ∷ status ∷ status ∷ []))) (0 ∷ 4 ∷ 0 ∷ 1 ∷ []) ∷
    row (answered (opened (pos 20) (pos 200) (good (status ∷ status ∷ [])))) (0 ∷ 0 ∷ 0 ∷ 1 ∷ []) ∷
    -- the local channel is stored and compared
    row (answered (opened (pos 86) (pos 200) (status ∷ []))) (0 ∷ 69 ∷ 0 ∷ 0 ∷ []) ∷
    row (answered (opened (pos 86) (pos 200) (read 0x00 ∷ []))) (0 ∷ 86 ∷ 0 ∷ 0 ∷ []) ∷
    -- the remote value stands, from power-on too: high byte and low byte
    row (answered (convert (pos 20) (pos 201) (opened (pos 20) (pos 342) (read 0x01 ∷ [])))) (0 ∷ 50 ∷ 0 ∷ 1 ∷ []) ∷
    row (answered (convert (pos 20) (pos 201) (opened (pos 20) (pos 342) (read 0x10 ∷ [])))) (0 ∷ 0x40 ∷ 0 ∷ 1 ∷ []) ∷
    row (answered (opened (pos 20) (pos 341) (read 0x01 ∷ []))) (0 ∷ 0 ∷ 0 ∷ 1 ∷ []) ∷
    row (answered (opened (pos 20) (pos 341) (read 0x10 ∷ []))) (0 ∷ 0 ∷ 0 ∷ 1 ∷ []) ∷
    -- its THERM flag too, neither set nor cleared
    row (answered (good (opened (pos 20) (pos 341) (status ∷ [])))) (0 ∷ 4 ∷ 0 ∷ 1 ∷ []) ∷
    row (answered (convert (pos 20) (pos 341) (opened (pos 20) (pos 100) (status ∷ [])))) (0 ∷ 22 ∷ 0 ∷ 0 ∷ []) ∷
    -- its latest limit verdicts too: one that found the fault keeps the flag at a status read, one that found none clears it
    row (answered (high_therm ∷ hot (opened (pos 20) (pos 200) (status ∷ status ∷ [])))) (0 ∷ 20 ∷ 0 ∷ 1 ∷ []) ∷
    row (answered (convert (pos 20) (pos 0) (opened (pos 20) (pos 200) (status ∷ status ∷ [])))) (0 ∷ 12 ∷ 0 ∷ 1 ∷ []) ∷
    row (answered (high_therm ∷ hot (good (opened (pos 20) (pos 341) (status ∷ status ∷ []))))) (0 ∷ 4 ∷ 0 ∷ 1 ∷ []) ∷
    row (answered (convert (pos 20) (pos 0) (good (opened (pos 20) (pos 0) (status ∷ status ∷ []))))) (0 ∷ 4 ∷ 0 ∷ 1 ∷ []) ∷
    -- what stands is not compared again with a limit that moved since
    row (answered (good (write 0x0d 40 ∷ opened (pos 20) (pos 200) (status ∷ [])))) (0 ∷ 4 ∷ 0 ∷ 1 ∷ []) ∷
    -- it is no conversion of the remote channel, so that a standby write compares none; an earlier one still counts, with its value
    row (answered (opened (pos 20) (pos 200) (write 0x09 64 ∷ write 0x0e 16 ∷ status ∷ []))) (0 ∷ 4 ∷ 0 ∷ 1 ∷ []) ∷
    row (answered (good (opened (pos 20) (pos 100) (write 0x09 64 ∷ write 0x0d 40 ∷ status ∷ [])))) (0 ∷ 20 ∷ 0 ∷ 1 ∷ []) ∷
    row (answered (good (opened (pos 20) (pos 300) (write 0x09 64 ∷ write 0x0d 60 ∷ status ∷ [])))) (0 ∷ 4 ∷ 0 ∷ 1 ∷ []) ∷
    -- the run count: the remote fault of before is not found again, so of three that are needed the last is the second
    row (answered (high_therm ∷ write 0x22 0x07 ∷ hot (opened (pos 20) (pos 341) (hot (write 0x09 64 ∷ write 0x0d 0x7f ∷ status ∷ respond ∷ write 0x09 0 ∷ write 0x0d 0x55 ∷ hot []))))) (0 ∷ 0 ∷ 1 ∷ 1 ∷ []) ∷
    -- a local fault is: here the last is the third
    row (answered (write 0x22 0x07 ∷ write 0x0b 15 ∷ opened (pos 20) (pos 200) (good (write 0x09 64 ∷ write 0x0b 85 ∷ status ∷ respond ∷ write 0x09 0 ∷ write 0x0b 15 ∷ good [])))) (0 ∷ 0 ∷ 0 ∷ 1 ∷ []) ∷
    -- a run of four ends with it; with a local fault it goes on
    row (answered (high_therm ∷ write 0x22 0x07 ∷ hot (hot (hot (hot (opened (pos 20) (pos 341) (hot (write 0x09 64 ∷ write 0x0d 0x7f ∷ status ∷ respond ∷ write 0x09 0 ∷ write 0x0d 0x55 ∷ hot [])))))))) (0 ∷ 0 ∷ 1 ∷ 1 ∷ []) ∷
    row (answered (write 0x22 0x07 ∷ write 0x0b 15 ∷ good (good (good (good (opened (pos 20) (pos 200) (good (write 0x09 64 ∷ write 0x0b 85 ∷ status ∷ respond ∷ write 0x09 0 ∷ write 0x0b 15 ∷ good [])))))))) (0 ∷ 0 ∷ 0 ∷ 1 ∷ []) ∷
    -- it leaves the pointer, and at the end of a one-shot busy is over; THERM stands though its limit moved
    row (answered (send 0x05 ∷ opened (pos 20) (pos 200) (receive ∷ []))) (0 ∷ 0x55 ∷ 0 ∷ 1 ∷ []) ∷
    row (answered (write 0x09 64 ∷ write 0x0f 0 ∷ end (pos 20) (pos 200) 1 ∷ status ∷ [])) (0 ∷ 4 ∷ 0 ∷ 1 ∷ []) ∷
    row (answered (convert (pos 20) (pos 341) (write 0x19 0x7f ∷ write 0x09 64 ∷ write 0x0f 0 ∷ end (pos 20) (pos 200) 1 ∷ status ∷ []))) (0 ∷ 22 ∷ 0 ∷ 0 ∷ []) ∷
    -- a status read clears the other flags as ever, and an alert response keeps the latch while it stands
    row (answered (write 0x0b 15 ∷ good (write 0x0b 85 ∷ opened (pos 20) (pos 200) (status ∷ status ∷ [])))) (0 ∷ 4 ∷ 0 ∷ 1 ∷ []) ∷
    row (answered (opened (pos 20) (pos 200) (respond ∷ respond ∷ []))) (0 ∷ 153 ∷ 0 ∷ 1 ∷ []) ∷
    -- the first good conversion behind it stores, compares and counts for standby
    row (answered (opened (pos 20) (pos 200) (convert (pos 20) (pos 201) (read 0x10 ∷ [])))) (0 ∷ 0x40 ∷ 0 ∷ 1 ∷ []) ∷
    row (answered (opened (pos 20) (pos 200) (convert (pos 20) (pos 341) (status ∷ [])))) (0 ∷ 22 ∷ 0 ∷ 0 ∷ []) ∷
    row (answered (convert (pos 20) (pos 341) (opened (pos 20) (pos 100) (good (status ∷ []))))) (0 ∷ 20 ∷ 0 ∷ 1 ∷ []) ∷
    row (answered (opened (pos 20) (pos 200) (good (write 0x09 64 ∷ write 0x0d 40 ∷ status ∷ [])))) (0 ∷ 20 ∷ 0 ∷ 1 ∷ []) ∷
    -- a standby write compares low limits and THERM too while it stands, and the local channel whatever became of the remote one
    row (answered (good (opened (pos 20) (pos 100) (write 0x09 64 ∷ write 0x0e 50 ∷ status ∷ [])))) (0 ∷ 12 ∷ 0 ∷ 1 ∷ []) ∷
    row (answered (good (opened (pos 20) (pos 100) (write 0x09 64 ∷ write 0x19 49 ∷ status ∷ [])))) (0 ∷ 6 ∷ 0 ∷ 0 ∷ []) ∷
    row (answered (opened (pos 20) (pos 200) (write 0x09 64 ∷ write 0x0b 19 ∷ status ∷ []))) (0 ∷ 68 ∷ 0 ∷ 1 ∷ []) ∷
    row (answered (opened (pos 20) (pos 200) (write 0x09 64 ∷ write 0x20 19 ∷ status ∷ []))) (0 ∷ 5 ∷ 0 ∷ 0 ∷ []) ∷
    -- no sample of a closed diode holds anything back
    row (answered (convert (pos 20) (pos 32767) (read 0x01 ∷ []))) (0 ∷ 127 ∷ 0 ∷ 0 ∷ []) ∷
    row (answered (convert (pos 20) (negsuc 32767) (status ∷ []))) (0 ∷ 8 ∷ 0 ∷ 1 ∷ []) ∷
    -- bits 7 and 5: no alert response is answered, and the latch is kept; with bit 5 pin 6 has the mark
    row (answered (high_therm ∷ hot (write 0x09 128 ∷ []))) (0 ∷ 0 ∷ 1 ∷ 1 ∷ []) ∷
    row (answered (high_therm ∷ hot (write 0x09 32 ∷ respond ∷ []))) (3 ∷ 0 ∷ 0 ∷ 1 ∷ []) ∷
    row (answered (high_therm ∷ hot (write 0x09 32 ∷ write 0x09 0 ∷ []))) (0 ∷ 0 ∷ 0 ∷ 1 ∷ []) ∷
    -- bit 6 from 0 to 1 ends a running conversion with no result
    row (answered (start ∷ write 0x09 64 ∷ status ∷ [])) (0 ∷ 0 ∷ 1 ∷ 1 ∷ []) ∷
    row (answered (start ∷ write 0x09 64 ∷ end (pos 20) (pos 341) 0 ∷ [])) (5 ∷ 0 ∷ 1 ∷ 1 ∷ []) ∷
    -- one-shot in standby starts a conversion, which 1 to 1 leaves running; outside it does nothing
    row (answered (write 0x09 64 ∷ write 0x0f 0 ∷ write 0x09 64 ∷ status ∷ [])) (0 ∷ 128 ∷ 1 ∷ 1 ∷ []) ∷
    row (answered (write 0x09 64 ∷ write 0x0f 0 ∷ end (pos 20) (pos 341) 0 ∷ status ∷ [])) (0 ∷ 18 ∷ 0 ∷ 0 ∷ []) ∷
    row (answered (write 0x0f 0 ∷ status ∷ [])) (0 ∷ 0 ∷ 1 ∷ 1 ∷ []) ∷
    -- holes; identity; the pointer, which a hole's write moves too
    row (answered (read 0x18 ∷ [])) (0 ∷ 0 ∷ 1 ∷ 1 ∷ []) ∷
    row (answered (write 0x05 7 ∷ receive ∷ [])) (0 ∷ 0x55 ∷ 1 ∷ 1 ∷ []) ∷
    row (answered (write 0x05 7 ∷ status ∷ [])) (0 ∷ 0 ∷ 1 ∷ 1 ∷ []) ∷
    row (answered (read 0xfe ∷ [])) (0 ∷ 0x41 ∷ 1 ∷ 1 ∷ []) ∷
    row (answered (send 0xff ∷ receive ∷ [])) (0 ∷ 0x51 ∷ 1 ∷ 1 ∷ []) ∷
    -- a receive byte at 02 clears
    row (answered (high_therm ∷ hot (good (send 0x02 ∷ receive ∷ receive ∷ [])))) (0 ∷ 0 ∷ 0 ∷ 1 ∷ []) ∷
    -- trimmed bits
    row (answered (write 0x12 0xff ∷ receive ∷ [])) (0 ∷ 0xc0 ∷ 1 ∷ 1 ∷ []) ∷
    -- the run count starts anew after a conversion with no fault
    row (answered (high_therm ∷ write 0x22 0x07 ∷ hot (hot (good (hot (hot [])))))) (0 ∷ 0 ∷ 1 ∷ 1 ∷ []) ∷
    row (answered (high_therm ∷ write 0x22 0x07 ∷ hot (hot (good (hot (hot (hot []))))))) (0 ∷ 0 ∷ 0 ∷ 1 ∷ []) ∷
    -- it is held at 4: a fifth fault leaves a state that code 6 does not refuse
    row (answered (high_therm ∷ write 0x22 0x0f ∷ hot (hot (hot (hot (hot (status ∷ []))))))) (0 ∷ 16 ∷ 0 ∷ 1 ∷ []) ∷
    -- a standby comparison latches whatever the count, and leaves the count alone
    row (answered (write 0x22 0x0f ∷ good (write 0x09 64 ∷ write 0x0d 40 ∷ []))) (0 ∷ 0 ∷ 0 ∷ 1 ∷ []) ∷
    row (answered (write 0x22 0x03 ∷ good (write 0x09 64 ∷ write 0x0d 40 ∷ write 0x0d 60 ∷ write 0x09 0 ∷ status ∷ status ∷ respond ∷ write 0x0d 40 ∷ good (status ∷ [])))) (0 ∷ 16 ∷ 1 ∷ 1 ∷ []) ∷
    -- each write that compares in standby: 0B, 0C, 13, 14, 19, 20, 21, and none of 11, 12, 22, 0A
    row (answered (good (write 0x0d 49 ∷ write 0x09 64 ∷ write 0x13 128 ∷ status ∷ []))) (0 ∷ 16 ∷ 0 ∷ 1 ∷ []) ∷
    row (answered (good (write 0x0e 50 ∷ write 0x09 64 ∷ write 0x14 64 ∷ status ∷ []))) (0 ∷ 8 ∷ 0 ∷ 1 ∷ []) ∷
    row (answered (good (write 0x09 64 ∷ write 0x0b 19 ∷ status ∷ []))) (0 ∷ 64 ∷ 0 ∷ 1 ∷ []) ∷
    row (answered (good (write 0x09 64 ∷ write 0x0c 20 ∷ status ∷ []))) (0 ∷ 32 ∷ 0 ∷ 1 ∷ []) ∷
    row (answered (good (write 0x09 64 ∷ write 0x0e 50 ∷ status ∷ []))) (0 ∷ 8 ∷ 0 ∷ 1 ∷ []) ∷
    row (answered (good (write 0x09 64 ∷ write 0x19 49 ∷ status ∷ []))) (0 ∷ 2 ∷ 1 ∷ 0 ∷ []) ∷
    row (answered (good (write 0x09 64 ∷ write 0x20 19 ∷ status ∷ []))) (0 ∷ 1 ∷ 1 ∷ 0 ∷ []) ∷
    row (answered (good (write 0x19 49 ∷ write 0x09 64 ∷ write 0x21 0 ∷ status ∷ []))) (0 ∷ 2 ∷ 1 ∷ 0 ∷ []) ∷
    row (answered (good (write 0x0d 40 ∷ write 0x09 64 ∷ write 0x11 1 ∷ write 0x12 64 ∷ write 0x22 1 ∷ write 0x0a 1 ∷ status ∷ []))) (0 ∷ 0 ∷ 1 ∷ 1 ∷ []) ∷
    -- one that releases THERM
    row (answered (hot (write 0x09 64 ∷ write 0x19 127 ∷ status ∷ []))) (0 ∷ 16 ∷ 0 ∷ 1 ∷ []) ∷
    -- a conversion counts as made after a change of range, a one-shot, and one that standby cut off
    row (answered (good (write 0x09 4 ∷ write 0x09 0x44 ∷ write 0x0d 40 ∷ status ∷ []))) (0 ∷ 16 ∷ 0 ∷ 1 ∷ []) ∷
    row (answered (good (write 0x09 64 ∷ write 0x0f 0 ∷ end (pos 20) (pos 200) 1 ∷ write 0x0d 40 ∷ status ∷ []))) (0 ∷ 20 ∷ 0 ∷ 1 ∷ []) ∷
    row (answered (good (start ∷ write 0x09 64 ∷ write 0x0d 40 ∷ status ∷ []))) (0 ∷ 16 ∷ 0 ∷ 1 ∷ []) ∷
    -- a channel never converted is not compared
    row (answered (write 0x09 64 ∷ write 0x0e 16 ∷ write 0x0c 16 ∷ status ∷ [])) (0 ∷ 0 ∷ 1 ∷ 1 ∷ []) ∷
    -- a write in standby that ends the fault: the flag is shown once more, then cleared; the latch stands
    row (answered (good (write 0x09 64 ∷ write 0x0d 40 ∷ write 0x0d 60 ∷ status ∷ []))) (0 ∷ 16 ∷ 0 ∷ 1 ∷ []) ∷
    row (answered (good (write 0x09 64 ∷ write 0x0d 40 ∷ write 0x0d 60 ∷ status ∷ status ∷ []))) (0 ∷ 0 ∷ 0 ∷ 1 ∷ []) ∷
    -- a status read clears while a conversion runs, and leaves the pointer
    row (answered (high_therm ∷ hot (good (start ∷ status ∷ status ∷ [])))) (0 ∷ 128 ∷ 0 ∷ 1 ∷ []) ∷
    row (answered (high_therm ∷ hot (status ∷ receive ∷ []))) (0 ∷ 16 ∷ 0 ∷ 1 ∷ []) ∷
    -- an alert response leaves THERM
    row (answered (hot (respond ∷ []))) (0 ∷ 153 ∷ 0 ∷ 0 ∷ []) ∷
    -- bit 0 of 22 is none of those that count
    row (answered (high_therm ∷ write 0x22 0x02 ∷ hot [])) (0 ∷ 0 ∷ 1 ∷ 1 ∷ []) ∷
    -- an alert response with a flag standing keeps the latch
    row (answered (high_therm ∷ hot (respond ∷ []))) (0 ∷ 153 ∷ 0 ∷ 1 ∷ []) ∷
    -- of either channel, high or low: the flag was not read since its fault went
    row (answered (convert (pos 0) (pos 200) (good (respond ∷ respond ∷ [])))) (0 ∷ 153 ∷ 0 ∷ 1 ∷ []) ∷
    row (answered (convert (pos 20) (pos 0) (good (respond ∷ respond ∷ [])))) (0 ∷ 153 ∷ 0 ∷ 1 ∷ []) ∷
    row (answered (write 0x0b 30 ∷ convert (pos 31) (pos 200) (good (respond ∷ [])))) (0 ∷ 153 ∷ 0 ∷ 1 ∷ []) ∷
    -- address 77, kept by a reset
    row (answered_at 77 (high_therm77 ∷ hot (respond ∷ []))) (0 ∷ 155 ∷ 0 ∷ 1 ∷ []) ∷
    row (answered_at 77 (reset ∷ four 3 (pos 77) (pos 0x05) (pos 0) ∷ [])) (0 ∷ 0x55 ∷ 1 ∷ 1 ∷ []) ∷
    row (answered_at 77 (read 0x05 ∷ [])) (3 ∷ 0 ∷ 1 ∷ 1 ∷ []) ∷
    -- a reset keeps nothing but the address
    row (answered (high_therm ∷ hot (reset ∷ []))) (0 ∷ 0 ∷ 1 ∷ 1 ∷ []) ∷
    row (answered (write 0x0d 1 ∷ reset ∷ read 0x07 ∷ [])) (0 ∷ 0x55 ∷ 1 ∷ 1 ∷ []) ∷
    row (answered (high_therm ∷ hot (reset ∷ start ∷ status ∷ []))) (0 ∷ 128 ∷ 1 ∷ 1 ∷ []) ∷
    row (answered (send 0x05 ∷ reset ∷ receive ∷ [])) (0 ∷ 0 ∷ 1 ∷ 1 ∷ []) ∷
    -- power-on has both lines high; a send byte sets the pointer and stores nothing, whatever register the command would write
    row (answered []) (0 ∷ 0 ∷ 1 ∷ 1 ∷ []) ∷
    row (answered (send 0x0d ∷ read 0x07 ∷ [])) (0 ∷ 0x55 ∷ 1 ∷ 1 ∷ []) ∷
    -- codes 1 to 5, in their order
    row (answered (four 8 (pos 1) (pos 0) (pos 0) ∷ [])) (1 ∷ 0 ∷ 1 ∷ 1 ∷ []) ∷
    row (answered (four 0 (pos 1) (pos 0) (pos 0) ∷ [])) (2 ∷ 0 ∷ 1 ∷ 1 ∷ []) ∷
    row (answered (four 6 (pos 0) (pos 0) (pos 1) ∷ [])) (2 ∷ 0 ∷ 1 ∷ 1 ∷ []) ∷
    row (answered (four 3 (pos 128) (pos 0) (pos 0) ∷ [])) (2 ∷ 0 ∷ 1 ∷ 1 ∷ []) ∷
    row (answered (four 3 (pos 77) (pos 256) (pos 0) ∷ [])) (2 ∷ 0 ∷ 1 ∷ 1 ∷ []) ∷
    row (answered (four 3 (pos 77) (pos 0x02) (pos 0) ∷ [])) (3 ∷ 0 ∷ 1 ∷ 1 ∷ []) ∷
    row (answered (start ∷ start ∷ [])) (4 ∷ 0 ∷ 1 ∷ 1 ∷ []) ∷
    row (answered (write 0x09 64 ∷ start ∷ [])) (4 ∷ 0 ∷ 1 ∷ 1 ∷ []) ∷
    row (answered (end (pos 0) (pos 0) 0 ∷ [])) (5 ∷ 0 ∷ 1 ∷ 1 ∷ []) ∷
    row (answered (four 7 (negsuc 8192) (pos 0) (pos 0) ∷ [])) (2 ∷ 0 ∷ 1 ∷ 1 ∷ []) ∷
    -- a kind under 0, whatever its fields
    row (answered (record { kind = negsuc 0; a = pos 1; b = pos 1; c = pos 1 } ∷ [])) (1 ∷ 0 ∷ 1 ∷ 1 ∷ []) ∷
    -- code 6 before any other: each of its tests, one beyond and at its end
    row (answered_at 75 (four 8 (pos 0) (pos 0) (pos 0) ∷ [])) (6 ∷ 0 ∷ 1 ∷ 1 ∷ []) ∷
    row (answered_from (power_on (record { address = 78 })) (start ∷ [])) (6 ∷ 0 ∷ 1 ∷ 1 ∷ []) ∷
    row (answered_from (holding Remote 1024) (start ∷ [])) (6 ∷ 0 ∷ 1 ∷ 1 ∷ []) ∷
    row (answered_from (holding Remote 1023) (start ∷ [])) (0 ∷ 0 ∷ 1 ∷ 1 ∷ []) ∷
    row (answered_from (holding Local 256) (start ∷ [])) (6 ∷ 0 ∷ 1 ∷ 1 ∷ []) ∷
    row (answered_from (with_runs ready 5) (start ∷ [])) (6 ∷ 0 ∷ 1 ∷ 1 ∷ []) ∷
    row (answered_from (with_runs ready 4) (start ∷ [])) (0 ∷ 0 ∷ 1 ∷ 1 ∷ []) ∷
    row (answered_from (with_stored ready Config 16) (start ∷ [])) (6 ∷ 0 ∷ 1 ∷ 1 ∷ []) ∷
    row (answered_from (with_stored ready Config 164) (start ∷ [])) (0 ∷ 0 ∷ 1 ∷ 1 ∷ []) ∷
    row (answered_from (with_stored ready RemoteHighFine 32) (start ∷ [])) (6 ∷ 0 ∷ 1 ∷ 1 ∷ []) ∷
    row (answered_from (with_stored ready RemoteLowFine 32) (start ∷ [])) (6 ∷ 0 ∷ 1 ∷ 1 ∷ []) ∷
    row (answered_from (with_stored ready RemoteOffsetFine 32) (start ∷ [])) (6 ∷ 0 ∷ 1 ∷ 1 ∷ []) ∷
    row (answered_from (with_channel ready Local (diode_of true new_channel)) (start ∷ [])) (6 ∷ 0 ∷ 1 ∷ 1 ∷ []) ∷
    -- an open diode without a limit fault ends the run: of three that are needed this is the second
    row (answered (write 0x22 7 ∷ write 0x0b 15 ∷ convert (pos 20) (pos 100) (start ∷ end (pos 10) (pos 100) 1 ∷ convert (pos 20) (pos 100) (write 0x09 64 ∷ write 0x0b 85 ∷ status ∷ respond ∷ write 0x09 0 ∷ write 0x0b 15 ∷ convert (pos 20) (pos 100) [])))) (0 ∷ 0 ∷ 1 ∷ 1 ∷ []) ∷
    -- a read moves the pointer; a status read leaves a limit; one is written while a one-shot runs; a hole's write changes nothing else
    row (answered (read 0x05 ∷ receive ∷ [])) (0 ∷ 0x55 ∷ 1 ∷ 1 ∷ []) ∷
    row (answered (hot (status ∷ read 0x07 ∷ []))) (0 ∷ 0x55 ∷ 0 ∷ 0 ∷ []) ∷
    row (answered (write 0x09 64 ∷ write 0x0f 0 ∷ write 0x0d 40 ∷ read 0x07 ∷ [])) (0 ∷ 40 ∷ 1 ∷ 1 ∷ []) ∷
    row (answered (write 0x30 5 ∷ read 0x04 ∷ [])) (0 ∷ 8 ∷ 1 ∷ 1 ∷ []) ∷
    -- a refused event moves nothing: the pointer is still at 05
    row (answered (send 0x05 ∷ four 3 (pos 77) (pos 0x02) (pos 0) ∷ receive ∷ [])) (0 ∷ 0x55 ∷ 1 ∷ 1 ∷ []) ∷
    []

abbrev pub RuleCases : Type 0
RuleCases = gots rule_rows ≡ wants rule_rows
