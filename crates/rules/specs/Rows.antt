-- Registers: a register is a row. Where it is read and written, which bits of a byte it keeps, its byte at power-on, and whether a
-- write of it compares in standby. The commands, the trimming, power-on, code 6 and the standby comparison all follow from the rows.
-- Assumes nothing.
use Rattle.std.specs.Prelude.{ℕ, ◌+◌, ◌*◌, ◌/◌, ◌%◌, Bool, true, false, List, [], ◌∷◌, eqb}
use Rattle.rules.specs.declared.register.Register.{Register}
use Rattle.rules.specs.declared.register.Register.TheVariants.{Config, Rate, Hysteresis, Consecutive, LocalHigh, LocalLow, LocalTherm, RemoteHigh, RemoteHighFine, RemoteLow, RemoteLowFine, RemoteOffset, RemoteOffsetFine, RemoteTherm}

-- "House: configuration keeps only bits 7, 6, 5, 2; registers 12, 13, 14 keep only bits 7 and 6; others keep all bits"
pub data Keeps : Type 0 where
  All : Keeps
  Bits7652 : Keeps
  Bits76 : Keeps

abbrev pub kept_bits : Keeps → ℕ → ℕ
kept_bits All b = b
kept_bits Bits7652 b = b / 32 * 32 + b / 4 % 2 * 4
kept_bits Bits76 b = b / 64 * 64

pub record Row : Type 0 where
  pub read : ℕ
  pub write : ℕ
  pub keeps : Keeps
  pub start : ℕ
  pub compares : Bool

abbrev row : ℕ → ℕ → Keeps → ℕ → Bool → Row
row read write keeps start compares =
    record { read = read; write = write; keeps = keeps; start = start; compares = compares }

-- "Read addresses", "Write addresses"; the kept bits; "limits 05, 07, 19, 20 are 55; 06, 08 are 00; rate 08; hysteresis 0A;
-- consecutive 01; .. all else 00"; "a write to 0B to 0E, 13, 14, 19, 20 or 21 compares"
abbrev pub row_of : Register → Row
row_of Config = row 0x03 0x09 Bits7652 0x00 false
row_of Rate = row 0x04 0x0a All 0x08 false
row_of LocalHigh = row 0x05 0x0b All 0x55 true
row_of LocalLow = row 0x06 0x0c All 0x00 true
row_of RemoteHigh = row 0x07 0x0d All 0x55 true
row_of RemoteLow = row 0x08 0x0e All 0x00 true
row_of RemoteOffset = row 0x11 0x11 All 0x00 false
row_of RemoteOffsetFine = row 0x12 0x12 Bits76 0x00 false
row_of RemoteHighFine = row 0x13 0x13 Bits76 0x00 true
row_of RemoteLowFine = row 0x14 0x14 Bits76 0x00 true
row_of RemoteTherm = row 0x19 0x19 All 0x55 true
row_of LocalTherm = row 0x20 0x20 All 0x55 true
row_of Hysteresis = row 0x21 0x21 All 0x0a true
row_of Consecutive = row 0x22 0x22 All 0x01 false

-- the list of them; that none is missing and no two have one address is shown in proofs/Rows.antt
abbrev pub registers : List Register
registers =
    Config ∷ Rate ∷ LocalHigh ∷ LocalLow ∷ RemoteHigh ∷ RemoteLow ∷ RemoteOffset ∷ RemoteOffsetFine ∷
    RemoteHighFine ∷ RemoteLowFine ∷ RemoteTherm ∷ LocalTherm ∷ Hysteresis ∷ Consecutive ∷ []

-- two registers are one where they are read at one address
abbrev pub same : Register → Register → Bool
same r q = eqb (row_of r).read (row_of q).read

-- what a register keeps of a byte; and that no bit of b is set that it never stores
abbrev pub trim_of : Register → ℕ → ℕ
trim_of r b = kept_bits (row_of r).keeps b

abbrev pub kept_in : Register → ℕ → Bool
kept_in r b = eqb (trim_of r b) b
