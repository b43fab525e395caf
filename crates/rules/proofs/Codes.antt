-- The numbers of the codes, for the crates above. Assumes nothing.
use Prim.Native.Nat.{◌<◌}
use native.Mathlib.Omega.{arith}
use mathlib.Core.Path.{◌≡◌, refl}
use mathlib.Core.Bool.{true}
use Rattle.rules.specs.declared.answer.Code.{Code}
use Rattle.rules.specs.declared.answer.Code.TheVariants.{Done, BadKind, BadField, Unheard, NoStart, NoEnd, IllFormed}
use Rattle.rules.specs.Codes.{is_done, number_of}
use Rattle.rules.proofs.Lists.{no}

pub number_small : (code : Code) → number_of code < 7
number_small Done = omega arith
number_small BadKind = omega arith
number_small BadField = omega arith
number_small Unheard = omega arith
number_small NoStart = omega arith
number_small NoEnd = omega arith
number_small IllFormed = omega arith

pub done_is : (code : Code) → is_done code ≡ true → code ≡ Done
done_is Done e = refl
done_is BadKind e = no e
done_is BadField e = no e
done_is Unheard e = no e
done_is NoStart e = no e
done_is NoEnd e = no e
done_is IllFormed e = no e
