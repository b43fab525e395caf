-- The premises of the claims in Alarm.antt, Assured.antt, Kept.antt and Ended.antt are met, and what the history counts, in cases worked out by hand:
-- a claim whose premises nothing meets says nothing. Proved in proofs/Tables.antt. Assumes nothing.
use Rattle.std.specs.Prelude.{ℕ, ◌≡◌, Bool, not, true, false, List, [], ◌∷◌, ◌++◌, map, eqb, Ok}
use Rattle.std.proofs.Math.IntN.ℤ.{pos}
use Rattle.rules.specs.declared.event.Event.TheVariants.{End, Reset, Write}
use Rattle.rules.specs.declared.event.Numbers.{Numbers}
use Rattle.rules.specs.declared.register.Channel.TheVariants.{Local, Remote}
use Rattle.rules.specs.declared.register.Register.TheVariants.{RemoteHigh}
use Rattle.rules.specs.declared.state.State.{State}
use Rattle.rules.specs.Alarm.{count, history_of, in_arow, in_therm2, line_free, clearing_reads_that_showed, spells_opened, stands, state_of, next, reads_next}
use Rattle.rules.specs.Assured.{beyond, finds_now, next_all, sets_now, uncleared, unread}
use Rattle.rules.specs.Channels.{any}
use Rattle.rules.specs.Codes.{is_done, number_of}
use Rattle.rules.specs.Comparisons.Comparator.{Therm, Therm2}
use Rattle.rules.specs.Event.{check_of}
use Rattle.rules.specs.History.{History, compares_at, in_standby, now}
use Rattle.rules.specs.Hot.{hot}
use Rattle.rules.specs.PowerOn.{made_of}
use Rattle.rules.specs.Status.{Flag}
use Rattle.rules.specs.Status.Fault.{Above, Open}
use Rattle.rules.specs.Step.{after, step_of}
use Rattle.rules.specs.Trial.{convert, end, read, reset, respond, start, status, write}
use Rattle.rules.specs.WellFormed.{well_formed}

-- K12: converted, put in standby, the remote high limit lowered under the value; then other events, but no status read
abbrev before : List Numbers
before = convert (pos 20) (pos 200) (write 0x09 0x40 ∷ [])

abbrev lowered : Numbers
lowered = write 0x0d 40

abbrev later : List Numbers
later = read 0x05 ∷ respond ∷ write 0x0d 85 ∷ []

abbrev state : State
state = state_of (pos 76) before

abbrev history : History
history = history_of (pos 76) before

abbrev state_now : State
state_now = (step_of state lowered).state

abbrev history_now : History
history_now = next state history lowered

abbrev remote_high : Flag
remote_high = record { channel = Remote; fault = Above }

abbrev open_flag : Flag
open_flag = record { channel = Remote; fault = Open }

-- the limit raised, a status read, a response: no flag stands, and the latch is cleared
abbrev acknowledged : List Numbers
acknowledged = write 0x0d 85 ∷ status ∷ respond ∷ []

-- document 02, item 3: after a remote fault a conversion with the diode open, whose local value is within its limits, and two status reads:
-- the fault's spell goes on, no read clears it, no fault is in a row, the remote value is the one before; the open flag has a spell of its own
abbrev pulled : List Numbers
pulled = convert (pos 20) (pos 341) (start ∷ end (pos 30) (pos 200) 1 ∷ status ∷ status ∷ [])

-- then one with the diode closed and a status read, which clears both
abbrev mended : List Numbers
mended = pulled ++ convert (pos 20) (pos 200) (status ∷ [])

-- from power-on, with a local value above its limit: that is one in a row; the remote channel has no value yet
abbrev never : List Numbers
never = write 0x0b 15 ∷ start ∷ end (pos 30) (pos 200) 1 ∷ []

-- status reads while nothing stands: no spell, and none that showed 1
abbrev calm : List Numbers
calm = status ∷ convert (pos 20) (pos 200) (status ∷ status ∷ [])

-- document 02, item 4: pin 6 as THERM2, and a conversion that finds the remote channel above its high limit
abbrev fanned : List Numbers
fanned = write 0x09 0x20 ∷ start ∷ []

abbrev fanned_now : History
fanned_now = next (state_of (pos 76) fanned) (history_of (pos 76) fanned) (end (pos 20) (pos 341) 0)

-- both marks set with no THERM flag, in the ALERT role; then the local one released while an open diode keeps the remote one
abbrev tripped : List Numbers
tripped = write 0x0b 15 ∷ write 0x19 0x7f ∷ convert (pos 20) (pos 341) []

abbrev released : List Numbers
released = tripped ++ (start ∷ end (pos 5) (pos 200) 1 ∷ [])

-- a conversion runs
abbrev running : State
running = state_of (pos 76) (start ∷ [])

unfoldable pub met : List Bool
met =
    is_done (made_of (pos 76)).code ∷ is_done (made_of (pos 77)).code ∷ well_formed (made_of (pos 76)).state
    ∷ well_formed (made_of (pos 77)).state ∷ not (well_formed (made_of (pos 78)).state)
    ∷ finds_now remote_high history_now ∷ sets_now history_now
    ∷ unread state_now history_now later ∷ uncleared state_now history_now later
    ∷ reads_next (after state_now later) (next_all state_now history_now later) status
    ∷ line_free (now 76 (next_all state_now history_now later)) ∷ line_free (now 76 history_now)
    ∷ compares_at 0x0d ∷ in_standby (now 76 history) ∷ (now 76 history).converted Remote
    ∷ beyond (now 76 history_now) Remote Above ∷ not (stands open_flag history)
    ∷ not (unread state_now history_now (status ∷ [])) ∷ not (unread state_now history_now (reset ∷ []))
    ∷ not (uncleared state_now history_now acknowledged) ∷ not (uncleared state_now history_now (reset ∷ []))
    ∷ eqb (number_of (step_of state_now start).code) 4 ∷ running.busy ∷ well_formed running ∷ (now 76 (history_of (pos 76) (start ∷ []))).running
    ∷ (now 76 (history_of (pos 76) pulled)).converted Remote ∷ not ((now 76 (history_of (pos 76) never)).converted Remote)
    ∷ finds_now remote_high fanned_now ∷ in_therm2 (now 76 fanned_now) ∷ not (in_therm2 (now 76 history_now)) ∷ []

abbrev pub PremisesMet : Type 0
PremisesMet = any (map not met) ≡ false

abbrev pub FormsMet : Type 0
FormsMet =
    (check_of lowered ≡ Ok (Write 76 0x0d 40)) × (check_of reset ≡ Ok Reset)
    × (check_of (end (pos 30) (pos 200) 1) ≡ Ok (End (record { local = pos 30; remote = pos 200; broken = true })))

-- two conversions above the limit with one below it and a status read between: two spells, one read that closed one, one fault in a row;
-- the values seen are the codes of the samples, and the limit the byte last written
abbrev spells : List Numbers
spells = convert (pos 20) (pos 341) (convert (pos 20) (pos 200) (status ∷ write 0x0d 84 ∷ convert (pos 21) (pos 342) []))

abbrev counts_of : Flag → History → List ℕ
counts_of f h =
    spells_opened f h ∷ clearing_reads_that_showed f h ∷ in_arow h ∷ (now 76 h).value Local ∷ (now 76 h).value Remote ∷ (now 76 h).registers RemoteHigh ∷ []

-- THERM's flags and THERM2's marks, local and remote
abbrev trips_of : History → List ℕ
trips_of h = count (hot Therm Local h) ∷ count (hot Therm Remote h) ∷ count (hot Therm2 Local h) ∷ count (hot Therm2 Remote h) ∷ []

unfoldable pub counted : List (List ℕ)
counted =
    counts_of remote_high (history_of (pos 76) spells) ∷ counts_of remote_high (history_of (pos 76) pulled)
    ∷ counts_of open_flag (history_of (pos 76) pulled) ∷ counts_of remote_high (history_of (pos 76) mended)
    ∷ counts_of open_flag (history_of (pos 76) mended) ∷ counts_of remote_high (history_of (pos 76) never) ∷ counts_of remote_high (history_of (pos 76) calm)
    ∷ trips_of (history_of (pos 76) tripped) ∷ trips_of (history_of (pos 76) released) ∷ trips_of (history_of (pos 76) spells) ∷ []

abbrev pub CountsMet : Type 0
CountsMet =
    counted
    ≡ ((2 ∷ 1 ∷ 1 ∷ 21 ∷ 342 ∷ 84 ∷ []) ∷ (1 ∷ 0 ∷ 0 ∷ 30 ∷ 341 ∷ 85 ∷ []) ∷ (1 ∷ 0 ∷ 0 ∷ 30 ∷ 341 ∷ 85 ∷ [])
    ∷ (1 ∷ 1 ∷ 0 ∷ 20 ∷ 200 ∷ 85 ∷ []) ∷ (1 ∷ 1 ∷ 0 ∷ 20 ∷ 200 ∷ 85 ∷ []) ∷ (0 ∷ 0 ∷ 1 ∷ 30 ∷ 0 ∷ 85 ∷ []) ∷ (0 ∷ 0 ∷ 0 ∷ 20 ∷ 200 ∷ 85 ∷ [])
    ∷ (0 ∷ 0 ∷ 1 ∷ 1 ∷ []) ∷ (0 ∷ 0 ∷ 0 ∷ 1 ∷ []) ∷ (0 ∷ 1 ∷ 0 ∷ 1 ∷ []) ∷ [])
