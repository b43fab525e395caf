-- Document 02, "carry a partial record of bounded length over": what is kept between two portions, and which sessions there are. Assumes
-- nothing.
use Rattle.std.specs.Prelude.{Ok, Err}
use Rattle.std.specs.Prelude.{ℕ, ◌+◌, ◌*◌, Bool, cond, true, false, ◌&&◌, List, eqb, leb, ltb, replicate, take, ℤ}
use Rattle.blocks.specs.Blocks.{filled}
use Rattle.rules.specs.declared.state.State.{State}
use Rattle.rules.specs.PowerOn.{made_of}
use Rattle.rules.specs.WellFormed.{well_formed}
use Rattle.text_rules.specs.Record.{Parsed}
use Rattle.text_rules.specs.declared.record.Unread.TheVariants.{Part, Malformed}
use Rattle.text_rules.specs.Record.{record_of}
use Rattle.text_rules.specs.Sizes.{longest_answer, longest_record, shortest_answer, shortest_record}
use Rattle.saved_rules.specs.Layout.{same_bytes}
use Rattle.session_rules.specs.declared.session.Opened.{Opened}
use Rattle.session_rules.specs.declared.session.Session.{Session}

-- "A partial record, one that more bytes could complete"; no bytes are one too
abbrev pub is_part : Parsed → Bool
is_part (Ok (r, n)) = false
is_part (Err Part) = true
is_part (Err Malformed) = false

unfoldable pub partial : List ℕ → Bool
partial bytes = is_part (record_of bytes)

-- the carried bytes, and the 38 that hold them: 0 behind them
abbrev pub carried_of : Session → List ℕ
carried_of s = take s.count s.carried

abbrev pub padded : List ℕ → List ℕ
padded = filled 38

-- "A fresh state is made for address 76 or 77"; nothing was taken
abbrev pub opened_from : State → Session
opened_from chip =
    record { chip = chip; records = 0; used = 0; written = 0; ended = false; stopped = false; count = 0; carried = replicate 38 0 }

unfoldable pub opened_of : ℤ → Opened
opened_of address = record { code = (made_of address).code; session = opened_from (made_of address).state }

-- as many records as the bytes used and written can be; "the total" is at most 16 MiB
abbrev pub counts_fit : Session → Bool
counts_fit s =
    leb (shortest_record * s.records) s.used && leb s.used (longest_record * s.records)
    && (leb (shortest_answer * s.records) s.written && leb s.written (longest_answer * s.records))
    && leb (s.used + s.count) 16777216

abbrev pub carried_fits : Session → Bool
carried_fits s = leb s.count 38 && same_bytes (padded (carried_of s)) s.carried && partial (carried_of s)

-- once the end was declared, code 7 is for a partial record and for nothing else
abbrev pub end_fits : Session → Bool
end_fits s = cond s.ended (cond s.stopped (ltb 0 s.count) (eqb s.count 0)) true

unfoldable pub is_session : Session → Bool
is_session s = well_formed s.chip && counts_fit s && carried_fits s && end_fits s
