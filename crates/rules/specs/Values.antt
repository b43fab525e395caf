-- Values: what a measurement becomes in a channel's value register, once for every channel over its scale, the codes to a degree.
-- Assumes nothing.
use Rattle.std.specs.Prelude.{ℕ, ◌*◌, ◌-◌, ◌/◌, ◌%◌, Bool, cond, ltb, ℤ, ◌+ℤ◌, ◌-ℤ◌, ◌*ℤ◌}
use Rattle.std.proofs.Math.IntN.ℤ.{pos, negsuc}

-- "high byte as signed"
abbrev pub signed_of : ℕ → ℤ
signed_of b = cond (ltb b 128) (pos b) (pos b -ℤ pos 256)

-- "Offset in quarters: high byte as signed, times 4, plus low byte over 64"
unfoldable pub offset_of : ℕ → ℕ → ℤ
offset_of high fine = signed_of high *ℤ pos 4 +ℤ pos (fine / 64)

-- the largest code of a range: "0..511", "0..1023"; "0..127", "0..255"
abbrev pub top_of : ℕ → Bool → ℕ
top_of scale wide = scale * cond wide 256 128 - 1

-- "extended adds 256"; of the local channel, "add 64"
abbrev pub shift_of : ℕ → Bool → ℕ
shift_of scale wide = scale * cond wide 64 0

-- "clamps to 0..top"
abbrev pub clamp_of : ℕ → ℤ → ℕ
clamp_of top (pos n) = cond (ltb n top) n top
clamp_of top (negsuc n) = 0

-- "measured quarters plus offset, exactly; then" the range: the clamp comes after the sum
unfoldable pub code_of : ℕ → Bool → ℤ → ℤ → ℕ
code_of scale wide offset sample = clamp_of (top_of scale wide) (sample +ℤ offset +ℤ pos (shift_of scale wide))

-- "High byte is code / 4, low byte (code mod 4) times 64"; a code of its range has no more than these two bytes
abbrev pub high_byte_of : ℕ → ℕ → ℕ
high_byte_of scale code = code / scale % 256

abbrev pub low_byte_of : ℕ → ℕ → ℕ
low_byte_of scale code = code % scale * 64
