-- Events: "An event is four signed 32-bit numbers: a kind, a, b and c. A field that a kind doesn't use must be 0."
-- Answer codes: 1, "kind outside 0..7"; 2, "a field out of its range, or an unused field not 0"; 1 is tested before 2.
-- Assumes nothing.
use Rattle.std.specs.Prelude.{ℕ, Bool, cond, ◌&&◌, List, [], ◌∷◌, Result, Ok, Err, eqb, leb, ℤ}
use Rattle.std.proofs.Math.IntN.ℤ.{pos, negsuc}
use Rattle.std.specs.Int.Signed.{le_z}
use Rattle.rules.specs.declared.answer.Code.{Code}
use Rattle.rules.specs.declared.answer.Code.TheVariants.{Done, BadKind, BadField}
use Rattle.rules.specs.declared.event.Numbers.{Numbers}
use Rattle.rules.specs.declared.event.Samples.{Samples}
use Rattle.rules.specs.declared.event.Event.{Event}
use Rattle.rules.specs.declared.event.Event.TheVariants.{Reset, Send, Write, Read, Receive, Respond, Start, End}
use Rattle.rules.specs.Codes.{number_of}
use Rattle.rules.specs.Table.{look_up}

-- the number is one of lo..hi
abbrev pub within : ℤ → ℤ → ℤ → Bool
within lo hi x = le_z lo x && le_z x hi

-- "A field that a kind doesn't use must be 0"
abbrev pub unused : ℤ → Bool
unused x = within (pos 0) (pos 0) x

-- "bus address 0..127"
abbrev pub is_bus_address : ℤ → Bool
is_bus_address x = within (pos 0) (pos 127) x

-- "command 0..255", "data 0..255"
abbrev pub is_byte : ℤ → Bool
is_byte x = within (pos 0) (pos 255) x

-- "local, whole °C, -8192..8191"
abbrev pub is_local_sample : ℤ → Bool
is_local_sample x = within (negsuc 8191) (pos 8191) x

-- "remote, quarter °C, -32768..32767"
abbrev pub is_remote_sample : ℤ → Bool
is_remote_sample x = within (negsuc 32767) (pos 32767) x

-- "diode open 0..1"
abbrev pub is_mark : ℤ → Bool
is_mark x = within (pos 0) (pos 1) x

-- a number of 0..255 as a byte; every other one, which is never kept, as 0
abbrev pub byte_of : ℤ → ℕ
byte_of (pos n) = cond (leb n 255) n 0
byte_of (negsuc n) = 0

-- a number of -32768..32767 as a sample; every other one, which is never kept, as 0
abbrev pub sample_of : ℤ → ℤ
sample_of x = cond (is_remote_sample x) x (pos 0)

-- what a conversion measured
abbrev pub samples_of : ℤ → ℤ → ℤ → Samples
samples_of a b c = record { local = sample_of a; remote = sample_of b; broken = eqb (byte_of c) 1 }

-- what checking an event's numbers gives: the event, or the code that refuses them
abbrev pub Checked : Type 0
Checked = Result Event Code

-- document 01's number for each case
abbrev pub checked_number : Checked → ℕ
checked_number (Ok e) = number_of Done
checked_number (Err code) = number_of code

-- the event where its fields are in range, otherwise code 2
abbrev pub good_if : Bool → Event → Checked
good_if fields e = cond fields (Ok e) (Err BadField)

-- the table of kinds
abbrev pub kinds : ℤ → ℤ → ℤ → List (ℕ × Checked)
kinds a b c =
    (0, good_if (unused a && unused b && unused c) Reset) ∷
    (1, good_if (is_bus_address a && is_byte b && unused c) (Send (byte_of a) (byte_of b))) ∷
    (2, good_if (is_bus_address a && is_byte b && is_byte c) (Write (byte_of a) (byte_of b) (byte_of c))) ∷
    (3, good_if (is_bus_address a && is_byte b && unused c) (Read (byte_of a) (byte_of b))) ∷
    (4, good_if (is_bus_address a && unused b && unused c) (Receive (byte_of a))) ∷
    (5, good_if (unused a && unused b && unused c) Respond) ∷
    (6, good_if (unused a && unused b && unused c) Start) ∷
    (7, good_if (is_local_sample a && is_remote_sample b && is_mark c) (End (samples_of a b c))) ∷
    []

-- "kind outside 0..7" is code 1, whatever the fields
abbrev pub kind_from : ℤ → ℤ → ℤ → ℤ → Checked
kind_from (pos kind) a b c = look_up kind (kinds a b c) (Err BadKind)
kind_from (negsuc k) a b c = Err BadKind

-- the event that the numbers are, or the code that refuses them
abbrev pub check_of : Numbers → Checked
check_of e = kind_from e.kind e.a e.b e.c
