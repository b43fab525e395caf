-- A saved chip: 128 bytes, the layout's number first, and 0 where a byte has no meaning. Assumes nothing.
use Rattle.std.specs.Prelude.{ℕ, ◌+◌, ◌*◌, ◌/◌, ◌%◌, Bool, cond, true, false, ◌&&◌, List, [], ◌∷◌, ◌++◌, map, eqb, get_or, replicate}
use Rattle.blocks.specs.Blocks.{over}
use Rattle.rules.specs.declared.register.Channel.TheVariants.{Local, Remote}
use Rattle.rules.specs.declared.register.Register.{Register}
use Rattle.rules.specs.declared.state.ChannelState.{ChannelState}
use Rattle.rules.specs.declared.state.Mark.{Mark}
use Rattle.rules.specs.declared.state.State.{State}
use Rattle.rules.specs.Rows.{registers, same}
use Rattle.rules.specs.State.{channel_at, given_of, number_of, rest_of, state_from, stored_of}

-- ---- A state saved ----

abbrev pub flag : Bool → ℕ
flag set = cond set 1 0

-- the layout's number; what was given; what is no register and belongs to no channel
abbrev pub head_of : State → List ℕ
head_of s =
    2 ∷ (given_of s).address ∷ (rest_of s).pointer ∷ flag (rest_of s).busy ∷ (rest_of s).runs ∷ flag (rest_of s).latch ∷ []

abbrev pub mark_of : Mark → List ℕ
mark_of m = flag m.found ∷ flag m.flag ∷ []

-- its value, low byte first, its flags, and its THERM2 mark
abbrev pub channel_of : ChannelState → List ℕ
channel_of c =
    c.value % 256 ∷ c.value / 256 ∷ flag c.converted ∷ (mark_of c.high ++ mark_of c.low ++ mark_of c.diode ++ (flag c.therm ∷ flag c.therm2 ∷ []))

-- the 42 bytes that have a meaning: the registers stand in the order of their rows
unfoldable pub front_of : State → List ℕ
front_of s = head_of s ++ map (stored_of s) registers ++ channel_of (channel_at s Local) ++ channel_of (channel_at s Remote)

unfoldable pub save_of : State → List ℕ
save_of s = front_of s ++ replicate 86 0

-- a saved chip, where there are 128 bytes for it; any other length is left as it is
abbrev pub saved_over : List ℕ → List ℕ → List ℕ
saved_over = over 128

-- ---- The state that bytes hold ----

abbrev pub is_set : ℕ → Bool
is_set b = eqb b 1

-- where a register stands among the others
abbrev pub place_in : Register → List Register → ℕ
place_in r [] = 0
place_in r (q ∷ qs) = cond (same r q) 0 (1 + place_in r qs)

abbrev pub mark_at : List ℕ → ℕ → ℕ → Mark
mark_at b n m = record { found = is_set (get_or b n 0); flag = is_set (get_or b m 0) }

abbrev pub channel_from : List ℕ → ℕ → ChannelState
channel_from b n =
    record {
      value = get_or b n 0 + 256 * get_or b (n + 1) 0;
      converted = is_set (get_or b (n + 2) 0);
      high = mark_at b (n + 3) (n + 4);
      low = mark_at b (n + 5) (n + 6);
      diode = mark_at b (n + 7) (n + 8);
      therm = is_set (get_or b (n + 9) 0);
      therm2 = is_set (get_or b (n + 10) 0);
    }

unfoldable pub state_at : List ℕ → State
state_at b =
    state_from (record { address = get_or b 1 0 })
    (record { pointer = get_or b 2 0; busy = is_set (get_or b 3 0); runs = get_or b 4 0; latch = is_set (get_or b 5 0) })
    (λ r. get_or b (6 + place_in r registers) 0)
    (λ ch. channel_from b (20 + 11 * number_of ch))

-- bytes are a saved state if they are what the state that they hold is saved as
unfoldable pub same_bytes : List ℕ → List ℕ → Bool
same_bytes [] [] = true
same_bytes [] (y ∷ ys) = false
same_bytes (x ∷ xs) [] = false
same_bytes (x ∷ xs) (y ∷ ys) = eqb x y && same_bytes xs ys

unfoldable pub is_saved : List ℕ → Bool
is_saved b = same_bytes (save_of (state_at b)) b
