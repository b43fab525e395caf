-- What happened since the latest power-on, worked out from the address and the events alone, "never from stored flags": no state of the
-- step is looked at, and of its answers only the reply bytes. Read from top to bottom: what is seen of a chip; what an event does to
-- that; what it did that matters to an alarm; the history. (`cond t x y` is x where t holds, otherwise y; `v.pointer` is v's field; `λ ch. ..`
-- is a function of ch; `x ∷ xs` is a list that begins with x. The eight forms of an event are in src/event.rt.) The definitions that it
-- shares with the step stand in its `use` lines; each has a claim in other words, which docs/ALARMS.md names. Assumes nothing.
use Rattle.std.specs.Prelude.{ℕ, Bool, cond, not, ◌||◌, ◌&&◌, true, false, List, [], ◌∷◌, map, eqb, Ok, Err}
use Rattle.rules.specs.declared.event.Event.{Event}
use Rattle.rules.specs.declared.event.Event.TheVariants.{Reset, Send, Write, Read, Receive, Respond, Start, End}
use Rattle.rules.specs.declared.event.Numbers.{Numbers}
use Rattle.rules.specs.declared.event.Samples.{Samples}
use Rattle.rules.specs.declared.register.Channel.{Channel}
use Rattle.rules.specs.declared.register.Register.{Register}
use Rattle.rules.specs.declared.register.Register.TheVariants.{Config}
use Rattle.rules.specs.Bits.{bit}
use Rattle.rules.specs.Channels.{any, broken_at, compared_in, sample_at, traits}
use Rattle.rules.specs.Conversion.{code_for}
use Rattle.rules.specs.Event.{Checked, check_of}
use Rattle.rules.specs.Rows.{row_of, trim_of}

-- ---- What is seen of a chip ----

pub record View : Type 0 where
  pub address : ℕ
  pub pointer : ℕ
  pub running : Bool  -- does a conversion run
  pub registers : Register → ℕ  -- each register's byte
  pub converted : Channel → Bool  -- was it converted since power-on
  pub value : Channel → ℕ  -- the code of its latest conversion

-- these, in this order
abbrev pub view : ℕ → ℕ → Bool → (Register → ℕ) → (Channel → Bool) → (Channel → ℕ) → View
view address pointer running registers converted value =
    record { address = address; pointer = pointer; running = running; registers = registers; converted = converted; value = value }

-- "bit 6 is standby"
abbrev pub standby_in : (Register → ℕ) → Bool
standby_in registers = bit 6 (registers Config)

abbrev pub in_standby : View → Bool
in_standby v = standby_in v.registers

-- "Power-on"
abbrev pub powered : ℕ → View
powered address = view address 0 false (λ r. (row_of r).start) (λ ch. false) (λ ch. 0)

-- ---- What an event does to that ----

-- "Kinds 1, 2, 3 set the pointer to the command"
abbrev pub pointed : View → ℕ → View
pointed v n = view v.address n v.running v.registers v.converted v.value

-- a register is the trimmed byte last written to it
abbrev pub bytes_after : View → ℕ → ℕ → Register → ℕ
bytes_after v n b r = cond (eqb n (row_of r).write) (trim_of r b) (v.registers r)

-- "A one-shot write in standby with no conversion running starts one"; "When bit 6 goes from 0 to 1 a running conversion ends with no
-- result": bytes are the registers after the write
abbrev pub running_after : View → ℕ → (Register → ℕ) → Bool
running_after v n bytes =
    cond (eqb n 0x0f && in_standby v) true (cond (not (in_standby v) && standby_in bytes) false v.running)

abbrev pub written_view : View → ℕ → ℕ → View
written_view v n b =
    view v.address n (running_after v n (bytes_after v n b)) (bytes_after v n b) v.converted v.value

-- "6, conversion starts": outside standby
abbrev pub started_view : View → View
started_view v = view v.address v.pointer (v.running || not (in_standby v)) v.registers v.converted v.value

-- the value of a channel that the conversion compares is the code of its sample, under the offset and range in force; 02, item 3: for one
-- held back "it doesn't count as a conversion; earlier ones still do"
abbrev pub measured_view : View → Samples → View
measured_view v t =
    view v.address v.pointer false v.registers (λ ch. compared_in t ch || v.converted ch)
    (λ ch. cond (compared_in t ch) (code_for v.registers ch (sample_at t ch)) (v.value ch))

-- an event for another address does nothing; nor does the end of a conversion where none runs
abbrev pub view_after : View → Event → View
view_after v Reset = powered v.address
view_after v (Send a n) = cond (eqb a v.address) (pointed v n) v
view_after v (Write a n b) = cond (eqb a v.address) (written_view v n b) v
view_after v (Read a n) = cond (eqb a v.address) (pointed v n) v
view_after v (Receive a) = v
view_after v Respond = v
view_after v Start = started_view v
view_after v (End t) = cond v.running (measured_view v t) v

-- ---- What it did that matters to an alarm ----

-- what a comparison (for the open flag, diode check) found
pub data Finding : Type 0 where
  MadeNone : Finding
  FoundNothing : Finding
  FoundFault : Finding

abbrev pub outcome : Bool → Finding
outcome true = FoundFault
outcome false = FoundNothing

abbrev pub found_if : Bool → Bool → Finding
found_if made fault = cond made (outcome fault) MadeNone

pub record Facts : Type 0 where
  pub reset : Bool  -- the chip was powered on
  pub ended : Bool  -- a conversion ended, with a value of each channel that it compares
  pub compared : Channel → Bool  -- was the channel compared with its limits; what was found is said by what is seen after it
  pub diode : Channel → Finding  -- what the check of its diode found, which nothing that is seen can tell
  pub status_read : Bool  -- register 02 was read
  pub asked : Bool  -- an alert response was asked for

-- in this order: powered on, ended, compared, diode, status read, asked
abbrev pub facts : Bool → Bool → (Channel → Bool) → (Channel → Finding) → Bool → Bool → Facts
facts reset ended compared diode status_read asked =
    record { reset = reset; ended = ended; compared = compared; diode = diode; status_read = status_read; asked = asked }

abbrev pub no_channel : Channel → Bool
no_channel ch = false

abbrev pub no_check : Channel → Finding
no_check ch = MadeNone

abbrev pub no_facts : Facts
no_facts = facts false false no_channel no_check false false

abbrev pub reset_facts : Facts
reset_facts = facts true false no_channel no_check false false

-- "In standby, a write to 0B to 0E, 13, 14, 19, 20 or 21 compares each channel converted since power-on .. it does not check the diode"; none
-- of these writes changes standby (only 09 does)
abbrev pub comparing : List ℕ
comparing = 0x0b ∷ 0x0c ∷ 0x0d ∷ 0x0e ∷ 0x13 ∷ 0x14 ∷ 0x19 ∷ 0x20 ∷ 0x21 ∷ []

abbrev pub compares_at : ℕ → Bool
compares_at n = any (map (eqb n) comparing)

abbrev pub write_facts : View → Bool → Facts
write_facts v compares = facts false false (λ ch. compares && v.converted ch) no_check false false

-- "At kind 7, after both values are stored, both channels are compared and the diode checked"; 02: open, it "compares only the local
-- channel"
abbrev pub end_facts : Bool → Samples → Facts
end_facts ends t =
    facts false ends (λ ch. ends && compared_in t ch) (λ ch. found_if (ends && (traits ch).diode) (broken_at t ch)) false false

-- "Kinds 3 and 4 reply the register at the pointer": a status read is one of register 02
abbrev pub read_facts : Bool → Facts
read_facts status = facts false false no_channel no_check status false

abbrev pub ask_facts : Facts
ask_facts = facts false false no_channel no_check false true

-- "No other moment compares"
abbrev pub facts_of : View → Event → Facts
facts_of v Reset = reset_facts
facts_of v (Send a n) = no_facts
facts_of v (Write a n b) = write_facts v (eqb a v.address && compares_at n && in_standby v)
facts_of v (Read a n) = read_facts (eqb a v.address && eqb n 0x02)
facts_of v (Receive a) = read_facts (eqb a v.address && eqb v.pointer 0x02)
facts_of v Respond = ask_facts
facts_of v Start = no_facts
facts_of v (End t) = end_facts v.running t

-- ---- The history ----

-- what one event did, what is seen after it, and the reply that the chip gave
pub record Entry : Type 0 where
  pub facts : Facts
  pub seen : View
  pub reply : ℕ

-- a refused event does nothing
abbrev pub did_of : View → Checked → Facts
did_of v (Ok e) = facts_of v e
did_of v (Err code) = no_facts

abbrev pub seen_after : View → Checked → View
seen_after v (Ok e) = view_after v e
seen_after v (Err code) = v

abbrev pub entry_of : View → Checked → ℕ → Entry
entry_of v k reply = record { facts = did_of v k; seen = seen_after v k; reply = reply }

-- since the latest power-on, the latest first
abbrev pub History : Type 0
History = List Entry

-- what is seen now, of a chip at an address
abbrev pub now : ℕ → History → View
now address [] = powered address
now address (x ∷ earlier) = x.seen

-- with one event more; a power-on begins anew
abbrev pub begun : Entry → History → History
begun x earlier = cond x.facts.reset [] (x ∷ earlier)

abbrev pub with_event : ℕ → History → Numbers → ℕ → History
with_event address h e reply = begun (entry_of (now address h) (check_of e) reply) h
