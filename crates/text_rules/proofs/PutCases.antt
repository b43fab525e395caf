-- What a writer promises, by the two ways that it can go. Assumes nothing.
use Prim.Native.Nat.{ℕ, ◌≤◌}
use native.Mathlib.Omega.{arith}
use mathlib.Core.Path.{◌≡◌}
use mathlib.Core.List.{List, ◌++◌}
use lib.ListN.{drop, length}
use lib.Seq.{drop-append_seam}
use lib.ListN.{length-append}
use borrow.Author.Tests.{le-leb, lt-leb}
use Rattle.text_rules.specs.PutCases.{PutMeans}

fitting : (text over rest : List ℕ) → length over ≡ length text → length text ≤ length (over ++ rest)
fitting text over rest e = omega (arith, length-append over rest)

behind : (text over rest : List ℕ) → length over ≡ length text → drop (length text) (over ++ rest) ≡ rest
behind text over rest e = rw (← e) (drop-append_seam over rest)

pub put_means : PutMeans
put_means text =
    record {
      fits = λ over rest e. record { said = rw (le-leb _ _ (fitting text over rest e)); bytes = rw (le-leb _ _ (fitting text over rest e), behind text over rest e) };
      full = λ before h. record { said = rw (lt-leb _ _ h); bytes = rw (lt-leb _ _ h) };
    }
