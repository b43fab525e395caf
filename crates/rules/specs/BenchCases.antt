-- Bench cases: K1 to K12 and the whole case, as one table. A row sends events to a fresh chip at address 76; what is wanted is the
-- last answer's code, reply, alert and therm. Assumes nothing.
use Rattle.std.specs.Prelude.{ℕ, suc, ◌≡◌, List, [], ◌∷◌, map, ℤ}
use Rattle.std.proofs.Math.IntN.ℤ.{pos, negsuc}
use Rattle.rules.specs.declared.event.Numbers.{Numbers}
use Rattle.rules.specs.Values.{offset_of}
use Rattle.rules.specs.Runs.{needed_of}
use Rattle.rules.specs.Trial.{Row, row, answered, gots, wants, write, read, respond, start, end, status, convert}

-- a signed number as two: 0 and n for n, 1 and n for -n
abbrev signed : ℤ → List ℕ
signed (pos n) = 0 ∷ n ∷ []
signed (negsuc n) = 1 ∷ suc n ∷ []

-- "A whole case at address 76", and K11's events, which go on from it
abbrev whole : List Numbers → List Numbers
whole later = start ∷ end (pos 20) (pos 341) 0 ∷ status ∷ later

-- K12's conversion, and its limit write
abbrev warm : List Numbers → List Numbers
warm later = convert (pos 20) (pos 200) later

unfoldable pub bench_rows : List Row
bench_rows =
    row (answered (start ∷ [])) (0 ∷ 0 ∷ 1 ∷ 1 ∷ []) ∷
    row (answered (start ∷ end (pos 20) (pos 341) 0 ∷ [])) (0 ∷ 0 ∷ 0 ∷ 0 ∷ []) ∷
    row (answered (whole [])) (0 ∷ 18 ∷ 0 ∷ 0 ∷ []) ∷
    -- K1
    row (answered (convert (pos 20) (pos 340) (status ∷ []))) (0 ∷ 0 ∷ 1 ∷ 1 ∷ []) ∷
    row (answered (convert (pos 20) (pos 341) (status ∷ []))) (0 ∷ 18 ∷ 0 ∷ 0 ∷ []) ∷
    -- K2
    row (answered (convert (pos 20) (pos 0) (status ∷ []))) (0 ∷ 8 ∷ 0 ∷ 1 ∷ []) ∷
    -- K3: bytes 01 and 10, first at defaults, then in the extended range
    row (answered (convert (pos 20) (negsuc 9) (read 0x01 ∷ []))) (0 ∷ 0 ∷ 0 ∷ 1 ∷ []) ∷
    row (answered (convert (pos 20) (negsuc 9) (read 0x10 ∷ []))) (0 ∷ 0 ∷ 0 ∷ 1 ∷ []) ∷
    row (answered (write 0x09 4 ∷ convert (pos 20) (negsuc 9) (read 0x01 ∷ []))) (0 ∷ 0x3d ∷ 1 ∷ 1 ∷ []) ∷
    row (answered (write 0x09 4 ∷ convert (pos 20) (negsuc 9) (read 0x10 ∷ []))) (0 ∷ 0x80 ∷ 1 ∷ 1 ∷ []) ∷
    -- K4
    row (answered (write 0x09 4 ∷ convert (pos 20) (pos 600) (read 0x01 ∷ []))) (0 ∷ 0xd6 ∷ 0 ∷ 0 ∷ []) ∷
    row (answered (write 0x09 4 ∷ convert (pos 20) (pos 600) (read 0x10 ∷ []))) (0 ∷ 0x00 ∷ 0 ∷ 0 ∷ []) ∷
    -- K5
    row (answered (convert (pos 20) (pos 512) (read 0x01 ∷ []))) (0 ∷ 0x7f ∷ 0 ∷ 0 ∷ []) ∷
    row (answered (convert (pos 20) (pos 512) (read 0x10 ∷ []))) (0 ∷ 0xc0 ∷ 0 ∷ 0 ∷ []) ∷
    row (answered (write 0x09 4 ∷ convert (pos 20) (pos 768) (read 0x01 ∷ []))) (0 ∷ 0xff ∷ 0 ∷ 0 ∷ []) ∷
    row (answered (write 0x09 4 ∷ convert (pos 20) (pos 768) (read 0x10 ∷ []))) (0 ∷ 0xc0 ∷ 0 ∷ 0 ∷ []) ∷
    -- K6
    row (answered (write 0x11 0xff ∷ convert (pos 20) (pos 341) (read 0x01 ∷ []))) (0 ∷ 0x54 ∷ 1 ∷ 1 ∷ []) ∷
    row (answered (write 0x11 0xff ∷ convert (pos 20) (pos 341) (read 0x10 ∷ []))) (0 ∷ 0x40 ∷ 1 ∷ 1 ∷ []) ∷
    -- K7
    row (signed (offset_of 0x80 0x00)) (1 ∷ 512 ∷ []) ∷
    row (signed (offset_of 0x7f 0xc0)) (0 ∷ 511 ∷ []) ∷
    -- K8
    row (answered (convert (pos 20) (pos 341) (convert (pos 20) (pos 301) (status ∷ [])))) (0 ∷ 18 ∷ 0 ∷ 0 ∷ []) ∷
    row (answered (convert (pos 20) (pos 341) (convert (pos 20) (pos 300) (status ∷ [])))) (0 ∷ 16 ∷ 0 ∷ 1 ∷ []) ∷
    -- K9
    row (answered (write 0x21 90 ∷ convert (pos 20) (pos 341) (convert (pos 20) (pos 1) (status ∷ [])))) (0 ∷ 18 ∷ 0 ∷ 0 ∷ []) ∷
    row (answered (write 0x21 90 ∷ convert (pos 20) (pos 341) (convert (pos 20) (pos 0) (status ∷ [])))) (0 ∷ 24 ∷ 0 ∷ 1 ∷ []) ∷
    -- K10
    row (map needed_of (0x01 ∷ 0x03 ∷ 0x07 ∷ 0x0f ∷ 0x05 ∷ 0x0b ∷ [])) (1 ∷ 2 ∷ 3 ∷ 4 ∷ 1 ∷ 2 ∷ []) ∷
    -- K11
    row (answered (whole (status ∷ []))) (0 ∷ 18 ∷ 0 ∷ 0 ∷ []) ∷
    row (answered (whole (status ∷ convert (pos 20) (pos 300) (status ∷ [])))) (0 ∷ 16 ∷ 0 ∷ 1 ∷ []) ∷
    row (answered (whole (status ∷ convert (pos 20) (pos 300) (status ∷ status ∷ [])))) (0 ∷ 0 ∷ 0 ∷ 1 ∷ []) ∷
    row (answered (whole (status ∷ convert (pos 20) (pos 300) (status ∷ status ∷ respond ∷ [])))) (0 ∷ 153 ∷ 1 ∷ 1 ∷ []) ∷
    row (answered (whole (status ∷ convert (pos 20) (pos 300) (status ∷ status ∷ respond ∷ respond ∷ [])))) (3 ∷ 0 ∷ 1 ∷ 1 ∷ []) ∷
    -- K12: in standby at once, outside it at the next conversion
    row (answered (warm (write 0x09 64 ∷ write 0x0d 40 ∷ []))) (0 ∷ 0 ∷ 0 ∷ 1 ∷ []) ∷
    row (answered (warm (write 0x09 64 ∷ write 0x0d 40 ∷ status ∷ []))) (0 ∷ 16 ∷ 0 ∷ 1 ∷ []) ∷
    row (answered (warm (write 0x0d 40 ∷ status ∷ []))) (0 ∷ 0 ∷ 1 ∷ 1 ∷ []) ∷
    row (answered (warm (write 0x0d 40 ∷ warm (status ∷ [])))) (0 ∷ 16 ∷ 0 ∷ 1 ∷ []) ∷
    []

-- "K1 to K12 are shown to hold of the rules themselves as a single table under one claim"
abbrev pub BenchCases : Type 0
BenchCases = gots bench_rows ≡ wants bench_rows
