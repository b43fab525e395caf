-- "kin" stands in front, and each line is read from where the one before it ended.
use Rattle.std.proofs.Common.{ℕ, ◌+◌, ◌*◌, ◌<◌, ◌≡◌, [], ◌∷◌, get_or, sym, ◌∙◌, arith}
use Rattle.text_rules.specs.Names.{a_name, b_name, c_name}
use Rattle.text_rules.specs.Record.{record_of}
use Rattle.text.proofs.Read.{here, kind_line}
use Rattle.text.proofs.quick.read_lines.Goals as goal

-- four bytes side by side are those of the name
bytes : (a b c d : ℕ) → a < 256 → b < 256 → c < 256 → d < 256 → a + b * 256 + c * 65536 + d * 16777216 ≡ 107 + 105 * 256 + 110 * 65536 + 100 * 16777216
    → (a ≡ 107) × (b ≡ 105) × (c ≡ 110)
bytes a b c d p q r s e = (omega arith, omega arith, omega arith)

pub returns : goal.returns
unfolding record_of
returns c =
    let s = c.args.s.now in
    let g = c.type_inv.s in
    let b = bytes (get_or s 0 0) (get_or s 1 0) (get_or s 2 0) (get_or s 3 0) (omega (arith, g 0)) (omega (arith, g 1)) (omega (arith, g 2)) (omega (arith, g 3)) (sym c.from_le_bytes.ensures ∙ c.if-from_le_bytes.false ∙ c.from_le_bytes-2.ensures) in
    let v = here (100 ∷ 61 ∷ []) s 3 (omega arith) c.in_ok-kind.ensures.0 in
    let x = kind_line s (omega arith) b.0 b.1 b.2 v.is in
    let y = here a_name s (3 + c.in_ok-kind.n) v.room c.in_ok-a.ensures.0 in
    let z = here b_name s (3 + c.in_ok-kind.n + c.in_ok-a.m) y.room c.in_ok-b.ensures.0 in
    let w = here c_name s (3 + c.in_ok-kind.n + c.in_ok-a.m + c.in_ok-b.m) z.room c.in_ok-c.ensures.0 in
    rw (x, y.is, z.is, w.is, v.same, y.same, z.same, w.same)
