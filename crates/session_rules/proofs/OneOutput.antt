-- A session into one output: by the invariant of a session that calls have reached, and by its bytes. Assumes nothing.
use Rattle.rules.proofs.Codes.{done_is}
use Rattle.rules.specs.Codes.{is_done}
use Rattle.rules.specs.declared.answer.Code.TheVariants.{Done}
use Prim.Native.Nat.{ℕ, ◌+◌, ◌/◌, ◌≤◌, ◌<◌}
use native.Mathlib.Nat.{zero-add}
use native.Mathlib.Omega.{arith}
use mathlib.Core.Path.{◌≡◌, refl, sym, ap, subst, ◌∙◌}
use mathlib.Core.Logic.{inl, inr}
use mathlib.Core.Bool.{Bool, cond, true, false, ◌&&◌}
use mathlib.Core.List.{List, [], ◌∷◌, ◌++◌, flat_map}
use lib.Dec.{eqb}
use lib.IntN.{ℤ, nat_abs}
use lib.ListN.{drop, length, replicate, take, length-append, length-drop, length-take}
use lib.Seq.{drop-append_seam}
use borrow.Author.Tests.{eq-eqb}
use Rattle.rules.specs.declared.state.State.{State}
use Rattle.rules.specs.PowerOn.{made_of}
use Rattle.rules.proofs.Lists.{no}
use Rattle.text_rules.specs.Sizes.{shortest_record}
use Rattle.saved_rules.specs.Layout.{front_of, same_bytes, save_of, state_at}
use Rattle.replay_rules.specs.Best.{found_open, started}
use Rattle.replay_rules.specs.Play.{run_from, run_of}
use Rattle.blocks.specs.Blocks.{word, word_at}
use Rattle.replay_rules.specs.Room.{room_of}
use Rattle.replay_rules.proofs.Examples as examples
use Rattle.replay_rules.proofs.Words.{word_back, word_below}
use Rattle.session_rules.specs.declared.session.Session.{Session}
use Rattle.session_rules.specs.Session.{carried_of, is_session, opened_of, partial}
use Rattle.session_rules.specs.Portion.{Feed, feed_of, refused_with, report_after}
use Rattle.session_rules.specs.Bytes.{bytes_of, head_of, held_in, is_held}
use Rattle.session_rules.specs.Calls.{Call, fed, taken_after}
use Rattle.session_rules.specs.Face.{Feeding, fed_into, feed_into, is_end, is_flag, nothing, open_of}
use Rattle.session_rules.specs.OneOutput.{Brought, FeedNoEight, FewRecords, Hand, HandsMean, IntoOne, NextCall, StillEnough, behind_it, four_calls, hand_after, hand_at, handed}
use Rattle.session_rules.proofs.Calls.{eight, room_enough}
use Rattle.session_rules.proofs.Course.{course}
use Rattle.session_rules.proofs.Courses.{sizes}
use Rattle.session_rules.proofs.Held.{size_bytes}
use Rattle.session_rules.proofs.InBytes.{held_is_saved, session_is_held, zeros_are_none}
use Rattle.session_rules.proofs.Reached.{Reached, fed_reached, opened_reached, reached, taken_size}
use Rattle.session_rules.proofs.Sessions.{Given, Held, carried_size, given, held, is_held as was_held}
use Rattle.session_rules.proofs.Sessions.Given.{Refused, Looked}
use Rattle.session_rules.proofs.Ways.{moved}

-- ---- By value ----

-- each record that was answered took a shortest one's bytes and gave a longest answer's at most
pub still_enough : StillEnough
still_enough s c h e =
    let k = held s (eight s c.portion c.end c.room (given s c.portion c.end c.room) e).0.is in
    room_enough s c (omega (arith, h, k.least, k.long)) e

-- no more is taken than was offered
taken_few : (cs : List Call) (s : Session) → length (taken_after s cs) ≤ length (flat_map (λ (c : Call). c.portion) cs)
unfolding taken_after flat_map
taken_few [] s = omega arith
taken_few (c ∷ cs) s =
    let f = fed s c in
    omega (arith, length-append (take f.taken c.portion) (taken_after f.session cs), length-take f.taken c.portion, length-append c.portion (flat_map (λ (x : Call). x.portion) cs), taken_few cs f.session)

pub few_records : FewRecords
few_records address made cs =
    let k = reached address made cs in
    omega (arith, k.held.least, taken_size k, taken_few cs (opened_of address).session)

-- ---- Of the call that C makes ----

-- no answers but such as fit
text_fits : (s : Session) (c : Call) → length (fed s c).text ≤ c.room
text_fits s c = by (given s c.portion c.end c.room)
  where
    by : {f : Feed} → Given s c.portion c.end c.room f → length f.text ≤ c.room
    by (Refused code w n) = omega arith
    by (Looked o w) =
        let h = held s o.is in
        let k = course s.chip (carried_of s ++ c.portion) c.room in
        let m = moved s c.portion c.end c.room (run_of s.chip (carried_of s ++ c.portion) c.room) k (carried_size s h) h.part w in
        omega (arith, ap length m.text, (sizes k).fits)

-- what a call on a session's bytes comes to: refused before they are looked at, refused by the session, or fed
data Came (s : Session) (session portion : List ℕ) (end : ℤ) (output report progress : List ℕ) : Feeding → Type 0 where
  Unfit : (code : ℕ) → (code ≡ 8 → ⊥) → Came s session portion end output report progress (nothing code session output report progress)
  Refuses : (code : ℕ) → is_held session ≡ true → (feed_of s portion (is_end end) (length output)).code ≡ code → Came s session portion end output report progress (nothing code session output report progress)
  Feeds : is_held session ≡ true → Came s session portion end output report progress (fed_into (feed_of s portion (is_end end) (length output)) output)

module _ (session portion : List ℕ) (end : ℤ) (output report progress : List ℕ) where
  abbrev s : Session
  s = held_in session

  abbrev f : Feed
  f = feed_of s portion (is_end end) (length output)

  abbrev Ends : Feeding → Type 0
  Ends = Came s session portion end output report progress

  code_of : (t : Bool) → eqb (refused_with s (length portion)) 0 ≡ t → t ≡ false → f.code ≡ refused_with s (length portion)
  unfolding feed_of
  code_of t q e = rw (q ∙ e)

  came : Ends (feed_into session portion end output report progress)
  unfolding feed_into
  came = by (eqb (length session) 256 && eqb (length report) 16 && eqb (length progress) 8 && is_flag end) (is_held session) refl (eqb (refused_with s (length portion)) 0) refl
    where
      by : (fits is : Bool) → is_held session ≡ is → (taken : Bool) → eqb (refused_with s (length portion)) 0 ≡ taken
          → Ends (cond fits (cond is (cond taken (fed_into f output) (nothing (refused_with s (length portion)) session output report progress)) (nothing 6 session output report progress)) (nothing 2 session output report progress))
      by false is p taken q = Unfit 2 (λ e. omega (arith, e))
      by true false p taken q = Unfit 6 (λ e. omega (arith, e))
      by true true p false q = Refuses (refused_with s (length portion)) p (code_of false q refl)
      by true true p true q = Feeds p

pub feed_no_eight : FeedNoEight
feed_no_eight session portion end output report progress r session' output' report' progress' done h e = by (came session portion end output report progress) (ap nat_abs (sym done.code ∙ e))
  where
    never : (feed_of (held_in session) portion (is_end end) (length output)).code ≡ 8 → ⊥
    never = still_enough (held_in session) (record { portion = portion; end = is_end end; room = length output }) h

    by : {x : Feeding} → Came (held_in session) session portion end output report progress x → x.code ≡ 8 → ⊥
    by (Unfit code n) z = n z
    by (Refuses code p is) z = never (is ∙ z)
    by (Feeds p) z = never z

-- ---- Any calls into one output ----

-- a session that calls have reached, whose answers and what is left make up the output
record Standing (from : State) (all room : ℕ) (h : Hand) : Type 0 where
  session : Session
  taken : List ℕ
  answers : List ℕ
  reached : Reached from session taken answers
  bytes : h.session ≡ bytes_of session
  few : length taken ≤ all
  size : length answers + length h.left ≡ room

-- no session has so many answers that 4 bytes do not hold their length
text_small : {from : State} {s : Session} {taken answers : List ℕ} (k : Reached from s taken answers) (c : Call) → length (fed s c).text < 4294967296
text_small {s = s} {answers = answers} k c =
    let k' = fed_reached k c in
    omega (arith, k'.held.least, k'.held.long, k'.held.total, k'.written, length-append answers (fed s c).text)

module _ (from : State) (all room : ℕ) (h : Hand) (b : Brought) where
  abbrev more : ℕ
  more = all + length b.portion

  -- the call that is made
  made_of_it : Came (held_in h.session) h.session b.portion b.end h.left b.report (replicate 8 0) (handed h b)
  made_of_it = came h.session b.portion b.end h.left b.report (replicate 8 0)

  module _ (st : Standing from all room h) where
    abbrev its : Session
    its = st.session

    abbrev call : Call
    call = record { portion = b.portion; end = is_end b.end; room = length h.left }

    never : room_of more ≤ room → (fed its call).code ≡ 8 → ⊥
    never fits = still_enough its call (omega (arith, fits, taken_size st.reached, st.reached.written, st.few, st.size))

    grown : length (st.taken ++ take (fed its call).taken b.portion) ≤ more
    grown = omega (arith, length-append st.taken (take (fed its call).taken b.portion), length-take (fed its call).taken b.portion, st.few)

    told : word_at (report_after (fed its call)) 4 ≤ more / shortest_record
    unfolding report_after
    told = let k' = fed_reached st.reached call in omega (arith, word_below (fed its call).session.records, k'.held.least, taken_size k', grown)

    left : length (st.answers ++ (fed its call).text) + length (behind_it (fed_into (fed its call) h.left)).left ≡ room
    left =
        let text = (fed its call).text in
        let count : word_at (word (fed its call).taken ++ word (length text)) 4 ≡ length text = word_back (length text) (text_small st.reached call) in
        let rest : drop (word_at (word (fed its call).taken ++ word (length text)) 4) (text ++ drop (length text) h.left) ≡ drop (length text) h.left =
        ap (λ (n : ℕ). drop n (text ++ drop (length text) h.left)) count ∙ drop-append_seam text (drop (length text) h.left) in
        omega (arith, length-append st.answers text, ap length rest, length-drop (length text) h.left, text_fits its call, st.size)

    -- as it was, with more offered
    same : Standing from more room h
    same = record { session = its; taken = st.taken; answers = st.answers; reached = st.reached; bytes = st.bytes; few = omega (arith, st.few); size = st.size }

    live : {x : Feeding} → Came its h.session b.portion b.end h.left b.report (replicate 8 0) x → NextCall more room h b x × Standing from more room (behind_it x)
    live (Unfit code n) = (record { never = λ fits z. n z; few = inl refl }, same)
    live (Refuses code held is) = (record { never = λ fits z. never fits (is ∙ z); few = inl refl }, same)
    live (Feeds held) =
        (record { never = never; few = inr told }, record { session = (fed its call).session; taken = _; answers = _; reached = fed_reached st.reached call; bytes = refl; few = grown; size = left })

    next_live : NextCall more room h b (handed h b) × Standing from more room (behind_it (handed h b))
    next_live =
        let is : held_in h.session ≡ its = ap held_in st.bytes ∙ (session_is_held its (was_held its st.reached.held)).loaded in
        live (subst (λ (x : Session). Came x h.session b.portion b.end h.left b.report (replicate 8 0) (handed h b)) is made_of_it)

  -- bytes that are no session stay so
  dead : is_held h.session ≡ false → {x : Feeding} → Came (held_in h.session) h.session b.portion b.end h.left b.report (replicate 8 0) x
      → NextCall more room h b x × (is_held x.session ≡ false)
  dead none (Unfit code n) = (record { never = λ fits z. n z; few = inl refl }, none)
  dead none (Refuses code held is) = no (sym none ∙ held)
  dead none (Feeds held) = no (sym none ∙ held)

  next_dead : is_held h.session ≡ false → NextCall more room h b (handed h b) × (is_held (handed h b).session ≡ false)
  next_dead none = dead none made_of_it

live_after : (bs : List Brought) {from : State} {all room : ℕ} {h : Hand} → Standing from all room h → Standing from (all + length (flat_map (λ (x : Brought). x.portion) bs)) room (hand_after h bs)
unfolding hand_after flat_map
live_after [] {from} {all} {room} {h} st = subst (λ (n : ℕ). Standing from n room h) (omega arith) st
live_after (b ∷ bs) {from} {all} {room} {h} st =
    let later = live_after bs (next_live from all room h b st).1 in
    subst (λ (n : ℕ). Standing from n room (hand_after (behind_it (handed h b)) bs)) (omega (arith, length-append b.portion (flat_map (λ (x : Brought). x.portion) bs))) later

dead_after : (bs : List Brought) (h : Hand) → State → is_held h.session ≡ false → is_held (hand_after h bs).session ≡ false
unfolding hand_after
dead_after [] h from none = none
dead_after (b ∷ bs) h from none = dead_after bs (behind_it (handed h b)) from (next_dead from 0 0 h b none).1

-- ---- Opened ----

-- what a session's bytes count as written
counted : (s : Session) → Held s → word_at (bytes_of s) 12 ≡ s.written
unfolding bytes_of head_of
counted s h = word_back s.written (omega (arith, h.long, h.least, h.total))

-- bytes of another length are no session
other_length : (b : List ℕ) → eqb (length b) 256 ≡ false → is_held b ≡ false
other_length b n = by (is_held b) refl
  where
    by : (t : Bool) → is_held b ≡ t → t ≡ false
    by true e = let l : length b ≡ 256 = sym (ap length (held_is_saved b e)) ∙ size_bytes (held_in b) in no (sym n ∙ eq-eqb (length b) 256 l)
    by false e = refl

made_so : (address : ℤ) → (opened_of address).code ≡ (made_of address).code
unfolding opened_of
made_so address = refl

module _ (address : ℤ) (session output : List ℕ) where
  abbrev hand : Hand
  hand = hand_at address session output

  -- an address that is taken, and 256 bytes
  opens_live : eqb (length session) 256 ≡ true → is_done (opened_of address).code ≡ true → Standing (made_of address).state 0 (length output) hand
  unfolding open_of
  opens_live n q =
      let made : (made_of address).code ≡ Done = sym (made_so address) ∙ done_is (opened_of address).code q in
      record { session = (opened_of address).session; taken = []; answers = []; reached = opened_reached address made; bytes = rw (n, q); few = omega arith; size = omega arith }

  opens_dead : (fits made : Bool) → eqb (length session) 256 ≡ fits → is_done (opened_of address).code ≡ made → (fits && made) ≡ false → is_held hand.session ≡ false
  unfolding open_of
  opens_dead false made n q e = rw n (other_length session n)
  opens_dead true false n q e = rw (n, q) zeros_are_none
  opens_dead true true n q e = no (sym e)

  module _ (bs : List Brought) where
    abbrev all : ℕ
    all = length (flat_map (λ (x : Brought). x.portion) bs)

    abbrev now : Hand
    now = hand_after hand bs

    standing : eqb (length session) 256 ≡ true → is_done (opened_of address).code ≡ true → Standing (made_of address).state all (length output) now
    standing n q = subst (λ (k : ℕ). Standing (made_of address).state k (length output) now) (zero-add all) (live_after bs (opens_live n q))

    after : (b : Brought) (fits made : Bool) → eqb (length session) 256 ≡ fits → is_done (opened_of address).code ≡ made → NextCall (all + length b.portion) (length output) now b (handed now b)
    after b true true n q = (next_live (made_of address).state all (length output) now b (standing n q)).0
    after b true false n q = (next_dead (made_of address).state all (length output) now b (dead_after bs hand (made_of address).state (opens_dead true false n q refl))).0
    after b false made n q = (next_dead (made_of address).state all (length output) now b (dead_after bs hand (made_of address).state (opens_dead false made n q refl))).0

    -- what the session's bytes count as written
    whole : length session ≡ 256 → (made_of address).code ≡ Done → word_at now.session 12 + length now.left ≡ length output
    whole n made =
        let st = standing (eq-eqb (length session) 256 n) (ap is_done (made_so address ∙ made)) in
        let c : word_at now.session 12 ≡ st.session.written = ap (λ (x : List ℕ). word_at x 12) st.bytes ∙ counted st.session st.reached.held in
        omega (arith, c, st.reached.written, st.size)

pub into_one : IntoOne
into_one address session output bs =
    record { next = λ b. after address session output bs b (eqb (length session) 256) (is_done (opened_of address).code) refl refl; whole = whole address session output bs }

pub hands_mean : HandsMean
unfolding examples.opened bytes_of feed_into feed_of found_open four_calls front_of hand_after head_of held_in is_held is_session open_of opened_of partial refused_with report_after run_from run_of same_bytes save_of started state_at
hands_mean = record { left = refl }
