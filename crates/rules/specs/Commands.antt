-- Registers, "Decoding falls into ranges and gaps, and every one of the 256 commands has a stated meaning"; "House: a read of any other
-- address replies 0; a write to any other address changes only the pointer". Assumes nothing.
use Rattle.std.specs.Prelude.{ℕ, List, [], ◌∷◌, ◌++◌, map}
use Rattle.rules.specs.declared.register.Channel.TheVariants.{Local, Remote}
use Rattle.rules.specs.declared.register.Register.{Register}
use Rattle.rules.specs.declared.register.Source.{Source}
use Rattle.rules.specs.declared.register.Source.TheVariants.{Stored as From, Value, ValueFine, Status, Maker, Revision, Hole}
use Rattle.rules.specs.declared.register.Target.{Target}
use Rattle.rules.specs.declared.register.Target.TheVariants.{Stored as Into, OneShot, Nowhere}
use Rattle.rules.specs.Rows.{registers, row_of}
use Rattle.rules.specs.Table.{look_up}

abbrev pub read_row : Register → ℕ × Source
read_row r = ((row_of r).read, From r)

-- what is read and never written
abbrev pub read_only : List (ℕ × Source)
read_only =
    (0x00, Value Local) ∷
    (0x01, Value Remote) ∷
    (0x02, Status) ∷
    (0x10, ValueFine Remote) ∷
    (0xfe, Maker) ∷
    (0xff, Revision) ∷
    []

abbrev pub read_table : List (ℕ × Source)
read_table = map read_row registers ++ read_only

abbrev pub write_row : Register → ℕ × Target
write_row r = ((row_of r).write, Into r)

-- what is written and never read
abbrev pub write_only : List (ℕ × Target)
write_only = (0x0f, OneShot) ∷ []

abbrev pub write_table : List (ℕ × Target)
write_table = map write_row registers ++ write_only

unfoldable pub source_of : ℕ → Source
source_of command = look_up command read_table Hole

unfoldable pub target_of : ℕ → Target
target_of command = look_up command write_table Nowhere
