-- A whole record lies within its part, has at least as many bytes as the shortest, and its four numbers are small: line by line. Assumes nothing.
use Prim.Native.Nat.{ℕ, ◌+◌, ◌≤◌, ◌<◌}
use native.Mathlib.Omega.{arith}
use mathlib.Core.Path.{◌≡◌, refl}
use mathlib.Core.List.{List}
use lib.IntN.{ℤ}
use lib.ListN.{length, drop}
use lib.Signed.{mag}
use Rattle.text_rules.specs.declared.record.Unread.TheVariants.{Part, Malformed}
use Rattle.std.specs.Prelude.{Ok, Err}
use Rattle.text_rules.specs.Number.{Line}
use Rattle.text_rules.specs.declared.record.Record.{Record}
use Rattle.text_rules.specs.Record.{Parsed}
use Rattle.text_rules.specs.Names.{kind_name, a_name, b_name, c_name}
use Rattle.text_rules.specs.Line.{line_of}
use Rattle.text_rules.specs.Record.{next, record_of}
use Rattle.text_rules.specs.Sizes.{shortest_record}
use Rattle.text_rules.proofs.Lines.{read_between, read_from}

pub record Small (r : Record) : Type 0 where
  pub kind : mag r.kind < 100000
  pub a : mag r.a < 100000
  pub b : mag r.b < 100000
  pub c : mag r.c < 100000

abbrev pub Sized : ℕ → Parsed → Type 0
Sized most (Ok (r, n)) = (shortest_record ≤ n) × (n ≤ most) × Small r
Sized most (Err e) = Unit

-- what holds of every way on from a line
pub onward : (P : Parsed → Type 0) (l : Line) {f : ℤ → ℕ → Parsed} → P (Err Part) → P (Err Malformed) → ((v : ℤ) (n : ℕ) → l ≡ Ok (v, n) → P (f v n)) → P (next l f)
onward P (Ok (v, n)) p m h = h v n refl
onward P (Err Part) p m h = p
onward P (Err Malformed) p m h = m

pub record_sized : (s : List ℕ) → Sized (length s) (record_of s)
unfolding record_of
record_sized s =
    onward (Sized (length s)) (line_of kind_name s) tt tt
    (λ kind n e. let x = read_between kind_name s e in
    onward (Sized (length s)) (line_of a_name (drop n s)) tt tt
    (λ a m f. let y = read_from a_name s n x.1 f in
    onward (Sized (length s)) (line_of b_name (drop (n + m) s)) tt tt
    (λ b k g. let z = read_from b_name s (n + m) y.1 g in
    onward (Sized (length s)) (line_of c_name (drop (n + m + k) s)) tt tt
    (λ c j h. let w = read_from c_name s (n + m + k) z.1 h in
    (omega arith, w.1, record { kind = x.2; a = y.2; b = z.2; c = w.2 })))))

pub record_fits : (s : List ℕ) {r : Record} {n : ℕ} → record_of s ≡ Ok (r, n) → (shortest_record ≤ n) × (n ≤ length s)
record_fits s e = let h = rw e at (record_sized s) in (h.0, h.1)

pub record_small : (s : List ℕ) {r : Record} {n : ℕ} → record_of s ≡ Ok (r, n) → Small r
record_small s e = (rw e at (record_sized s)).2
