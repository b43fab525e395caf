-- Every register is where its row says; a state that is put together has its parts back. Assumes nothing.
use Prim.Native.Nat.{ℕ}
use mathlib.Core.Path.{◌≡◌, refl, sym, subst, ap, ◌∙◌}
use mathlib.Core.Bool.{Bool, true, or-true}
use mathlib.Core.List.{List, [], ◌∷◌, ◌++◌, map}
use borrow.Author.Tests.{eqb-true}
use Rattle.rules.specs.declared.register.Channel.{Channel}
use Rattle.rules.specs.declared.register.Channel.TheVariants.{Local, Remote}
use Rattle.rules.specs.declared.register.Register.{Register}
use Rattle.rules.specs.declared.register.Register.TheVariants.{Config, Rate, Hysteresis, Consecutive, LocalHigh, LocalLow, LocalTherm, RemoteHigh, RemoteHighFine, RemoteLow, RemoteLowFine, RemoteOffset, RemoteOffsetFine, RemoteTherm}
use Rattle.rules.specs.declared.register.Source.{Source}
use Rattle.rules.specs.declared.register.Source.TheVariants.{Stored as From, Value, ValueFine, Status, Maker, Revision, Hole}
use Rattle.rules.specs.declared.state.ChannelState.{ChannelState}
use Rattle.rules.specs.declared.state.Given.{Given}
use Rattle.rules.specs.Channels.{any_channel, channels}
use Rattle.rules.specs.Commands.{read_only, read_row, read_table, source_of, target_of}
use Rattle.rules.specs.Rows.{registers, row_of, same}
use Rattle.rules.specs.Sound.{EachIsRead, EachIsWritten}
use Rattle.rules.specs.State.{Rest, channel_at, state_from, stored_of}
use Rattle.rules.proofs.Lists.{Each, looked}

pub each_is_read : EachIsRead
unfolding source_of
each_is_read Config = refl
each_is_read Rate = refl
each_is_read Hysteresis = refl
each_is_read Consecutive = refl
each_is_read LocalHigh = refl
each_is_read LocalLow = refl
each_is_read LocalTherm = refl
each_is_read RemoteHigh = refl
each_is_read RemoteHighFine = refl
each_is_read RemoteLow = refl
each_is_read RemoteLowFine = refl
each_is_read RemoteOffset = refl
each_is_read RemoteOffsetFine = refl
each_is_read RemoteTherm = refl

pub each_is_written : EachIsWritten
unfolding target_of
each_is_written Config = refl
each_is_written Rate = refl
each_is_written Hysteresis = refl
each_is_written Consecutive = refl
each_is_written LocalHigh = refl
each_is_written LocalLow = refl
each_is_written LocalTherm = refl
each_is_written RemoteHigh = refl
each_is_written RemoteHighFine = refl
each_is_written RemoteLow = refl
each_is_written RemoteLowFine = refl
each_is_written RemoteOffset = refl
each_is_written RemoteOffsetFine = refl
each_is_written RemoteTherm = refl

-- one read address, one register
pub same_one : (r q : Register) → same r q ≡ true → r ≡ q
same_one r q e =
    let n : (row_of r).read ≡ (row_of q).read = eqb-true (row_of r).read (row_of q).read e in
    let p : From r ≡ From q = sym (each_is_read r) ∙ ap source_of n ∙ each_is_read q in
    cc

-- what holds of every row of the list holds of every register
module _ (P : Register → Type 0) where
  abbrev Of : Source → Type 0
  Of (From r) = P r
  Of (Value ch) = Unit {0}
  Of (ValueFine ch) = Unit {0}
  Of Status = Unit {0}
  Of Maker = Unit {0}
  Of Revision = Unit {0}
  Of Hole = Unit {0}

  rows : (rs : List Register) → Each P rs → Each (λ (row : ℕ × Source). Of row.1) (map read_row rs ++ read_only)
  rows [] h = (tt, (tt, (tt, (tt, (tt, (tt, tt))))))
  rows (r ∷ rs) h = (h.0, rows rs h.1)

  pub every : Each P registers → (r : Register) → P r
  unfolding source_of
  every h r = subst Of (each_is_read r) (looked Of (row_of r).read read_table Hole (rows registers h) tt)

pub every_channel : (P : Channel → Type 0) → Each P channels → (ch : Channel) → P ch
every_channel P h Local = h.0
every_channel P h Remote = h.1.0

-- and what holds of one holds of some
pub any_channel_lem : (p : Channel → Bool) (ch : Channel) → p ch ≡ true → any_channel p ≡ true
any_channel_lem p Local e = rw e
any_channel_lem p Remote e = rw e (or-true (p Local))

-- ---- A state put together ----

module _ (g : Given) (p : Rest) (f : Register → ℕ) (c : Channel → ChannelState) where
  register_back : (r : Register) → stored_of (state_from g p f c) r ≡ f r
  register_back Config = refl
  register_back Rate = refl
  register_back Hysteresis = refl
  register_back Consecutive = refl
  register_back LocalHigh = refl
  register_back LocalLow = refl
  register_back LocalTherm = refl
  register_back RemoteHigh = refl
  register_back RemoteHighFine = refl
  register_back RemoteLow = refl
  register_back RemoteLowFine = refl
  register_back RemoteOffset = refl
  register_back RemoteOffsetFine = refl
  register_back RemoteTherm = refl

  pub stored_back : stored_of (state_from g p f c) ≡ f
  stored_back = λ i r. register_back r i

  channel_back : (ch : Channel) → channel_at (state_from g p f c) ch ≡ c ch
  channel_back Local = refl
  channel_back Remote = refl

  pub channels_back : channel_at (state_from g p f c) ≡ c
  channels_back = λ i ch. channel_back ch i
