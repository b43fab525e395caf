-- What a portion gives, in other words: each refusal, each way that a portion ends, and which bytes are a partial record. An error made in
-- the definitions and in the code alike is refused here. Proofs in proofs/Portions.antt. Assumes nothing.
use Rattle.std.specs.Prelude.{Option}
use Rattle.session_rules.specs.declared.session.Stop.{Stop}
use Rattle.std.specs.Prelude.{Ok, Err}
use Rattle.rules.specs.declared.answer.Code.TheVariants.{Done, BadField}
use Rattle.std.specs.Prelude.{ℕ, ◌+◌, ◌*◌, ◌-◌, ◌<◌, ◌≤◌, ◌≡◌, Bool, false, true, List, [], ◌∷◌, ◌++◌, map, ℤ, drop, length, replicate, take}
use Rattle.rules.specs.PowerOn.{made_of}
use Rattle.rules.specs.WellFormed.{well_formed}
use Rattle.text_rules.specs.declared.record.Record.{Record}
use Rattle.text_rules.specs.declared.record.Unread.TheVariants.{Part, Malformed}
use Rattle.text_rules.specs.Record.{record_of}
use Rattle.text_rules.specs.Sizes.{longest_answer, longest_record, shortest_answer, shortest_record}
use Rattle.replay_rules.specs.Play.{Run, run_of}
use Rattle.session_rules.specs.declared.session.Fed.{Fed}
use Rattle.session_rules.specs.declared.session.Session.{Session}
use Rattle.session_rules.specs.Session.{is_session, opened_of, partial}
use Rattle.session_rules.specs.Portion.{Feed, FedBy, fed_code, feed_of, refusal_of, refused_with}

-- ---- Sessions ----

-- "A fresh state is made for address 76 or 77; any other address is code 2 with a state of all zeros, which code 6 refuses": nothing was taken,
-- nothing is carried, no end was declared and nothing stopped it
pub record Opens (address : ℤ) : Type 0 where
  pub fresh : (made_of address).code ≡ Done
      → opened_of address ≡ record { code = Done; session = record { chip = (made_of address).state; records = 0; used = 0; written = 0; ended = false; stopped = false; count = 0; carried = replicate 38 0 } }
  pub none : (made_of address).code ≡ BadField → ((opened_of address).code ≡ BadField) × ((opened_of address).session.chip ≡ (made_of address).state) × (is_session (opened_of address).session ≡ false)

abbrev pub OpeningMeans : Type 0
OpeningMeans = (address : ℤ) → Opens address

-- which sessions there are: a chip that code 6 takes; records and answers as long as they can be; a partial record of 38 bytes at most, with
-- zeros behind it; 16 MiB at most in all; after the end something is carried exactly if it stopped
pub record Fits (s : Session) : Type 0 where
  pub chip : well_formed s.chip ≡ true
  pub least : shortest_record * s.records ≤ s.used
  pub most : s.used ≤ longest_record * s.records
  pub short : shortest_answer * s.records ≤ s.written
  pub long : s.written ≤ longest_answer * s.records
  pub total : s.used + s.count ≤ 16777216
  pub few : s.count ≤ 38
  pub zeros : s.carried ≡ take s.count s.carried ++ replicate (38 - s.count) 0
  pub size : length s.carried ≡ 38
  pub part : record_of (take s.count s.carried) ≡ Err Part
  pub cut : s.ended ≡ true → s.stopped ≡ true → 0 < s.count
  pub whole : s.ended ≡ true → s.stopped ≡ false → s.count ≡ 0

pub record Exactly (s : Session) : Type 0 where
  pub only : is_session s ≡ true → Fits s
  pub all : Fits s → is_session s ≡ true

abbrev pub SessionsAre : Type 0
SessionsAre = (s : Session) → Exactly s

-- ---- Refusals ----

-- "Refusals, changing nothing, in this order"
pub record Refuses (s : Session) (portion : List ℕ) (end : Bool) (room : ℕ) : Type 0 where
  pub strange : is_session s ≡ false → feed_of s portion end room ≡ record { code = 6; taken = 0; text = []; session = s }
  pub late : is_session s ≡ true → s.ended ≡ true → 0 < length portion → feed_of s portion end room ≡ record { code = 9; taken = 0; text = []; session = s }
  -- after a partial record at the end an empty portion, and after a bad one any portion
  pub again : is_session s ≡ true → s.stopped ≡ true → (s.ended ≡ true → length portion ≡ 0) → feed_of s portion end room ≡ record { code = 7; taken = 0; text = []; session = s }
  -- the bytes taken, the carried ones too, and those offered
  pub over : is_session s ≡ true → s.stopped ≡ false → (s.ended ≡ true → length portion ≡ 0) → 16777216 < s.used + s.count + length portion
      → feed_of s portion end room ≡ record { code = 2; taken = 0; text = []; session = s }

abbrev pub RefusalsMean : Type 0
RefusalsMean = (s : Session) (portion : List ℕ) (end : Bool) (room : ℕ) → Refuses s portion end room

-- what refuses a portion has the number that the definition of a feed asks for; nothing refuses exactly where that is 0
abbrev pub RefusalNumbers : Type 0
RefusalNumbers = (s : Session) (size : ℕ) → fed_code (refusal_of s size) ≡ refused_with s size

-- ---- A portion that is looked at ----

-- it is a session that did not stop, before its end unless nothing is offered, and the total is 16 MiB at most
pub record Ready (s : Session) (portion : List ℕ) : Type 0 where
  pub is : is_session s ≡ true
  pub before : s.ended ≡ true → length portion ≡ 0
  pub going : s.stopped ≡ false
  pub total : s.used + s.count + length portion ≤ 16777216

-- with so much carried, of the 38 that can be
abbrev pub carrying : List ℕ → List ℕ
carrying bytes = bytes ++ replicate (38 - length bytes) 0

-- r is the run over what is carried and the portion, and left what it did not use
pub record Looks (s : Session) (portion : List ℕ) (end : Bool) (room : ℕ) (r : Run) (left : List ℕ) : Type 0 where
  -- nothing is left: all is taken, and an end counts
  pub through : left ≡ [] → (ended : Bool) → (s.ended ≡ false → ended ≡ end) → (s.ended ≡ true → ended ≡ true)
      → feed_of s portion end room
      ≡ record {
        code = 0;
        taken = length portion;
        text = r.text;
        session = record { chip = r.state; records = s.records + r.records; used = s.used + r.used; written = s.written + length r.text; ended = ended; stopped = false; count = 0; carried = replicate 38 0 };
      }
  -- a partial record is left: all is taken, and it is carried
  pub carries : 0 < length left → record_of left ≡ Err Part → end ≡ false
      → feed_of s portion end room
      ≡ record {
        code = 0;
        taken = length portion;
        text = r.text;
        session = record { chip = r.state; records = s.records + r.records; used = s.used + r.used; written = s.written + length r.text; ended = false; stopped = false; count = length left; carried = carrying left };
      }
  -- at the end it is code 7, and the end counts
  pub cut : 0 < length left → record_of left ≡ Err Part → end ≡ true
      → feed_of s portion end room
      ≡ record {
        code = 7;
        taken = length portion;
        text = r.text;
        session = record { chip = r.state; records = s.records + r.records; used = s.used + r.used; written = s.written + length r.text; ended = true; stopped = true; count = length left; carried = carrying left };
      }
  -- a bad record behind what was carried: all before it is taken, and an end does not count
  pub bad : record_of left ≡ Err Malformed → 0 < r.used
      → feed_of s portion end room
      ≡ record {
        code = 7;
        taken = r.used - s.count;
        text = r.text;
        session = record { chip = r.state; records = s.records + r.records; used = s.used + r.used; written = s.written + length r.text; ended = false; stopped = true; count = 0; carried = replicate 38 0 };
      }
  -- one that began in what was carried: none of the portion is taken, and the carried bytes stay
  pub bad_seam : record_of left ≡ Err Malformed → r.used ≡ 0
      → feed_of s portion end room
      ≡ record {
        code = 7;
        taken = 0;
        text = [];
        session = record { chip = s.chip; records = s.records; used = s.used; written = s.written; ended = false; stopped = true; count = s.count; carried = s.carried };
      }
  -- an answer that does not fit: the same, and it may come again
  pub full : (q : Record) (n : ℕ) → record_of left ≡ Ok (q, n) → 0 < r.used
      → feed_of s portion end room
      ≡ record {
        code = 8;
        taken = r.used - s.count;
        text = r.text;
        session = record { chip = r.state; records = s.records + r.records; used = s.used + r.used; written = s.written + length r.text; ended = false; stopped = false; count = 0; carried = replicate 38 0 };
      }
  pub full_seam : (q : Record) (n : ℕ) → record_of left ≡ Ok (q, n) → r.used ≡ 0 → feed_of s portion end room ≡ record { code = 8; taken = 0; text = []; session = s }

abbrev pub LooksMean : Type 0
LooksMean =
    (s : Session) (portion : List ℕ) (end : Bool) (room : ℕ) → Ready s portion → (r : Run) → run_of s.chip (take s.count s.carried ++ portion) room ≡ r
    → Looks s portion end room r (drop r.used (take s.count s.carried ++ portion))

-- "an empty portion after a good end changes nothing"
abbrev pub EmptyChangesNothing : Type 0
EmptyChangesNothing =
    (s : Session) (end : Bool) (room : ℕ) → is_session s ≡ true → s.ended ≡ true → s.stopped ≡ false
    → feed_of s [] end room ≡ record { code = 0; taken = 0; text = []; session = s }

-- ---- Partial records ----

-- no bytes; "kind=-" and "kind=12345" are partial; "kind=-0", "kind=00" and "kind=123456" are not, nor is a byte of no name, or a whole line
-- of another one
unfoldable pub partial_rows : List (List ℕ)
partial_rows =
    [] ∷ (107 ∷ 105 ∷ 110 ∷ 100 ∷ 61 ∷ 45 ∷ []) ∷ (107 ∷ 105 ∷ 110 ∷ 100 ∷ 61 ∷ 49 ∷ 50 ∷ 51 ∷ 52 ∷ 53 ∷ [])
    ∷ (107 ∷ 105 ∷ 110 ∷ 100 ∷ 61 ∷ 48 ∷ []) ∷ (107 ∷ 105 ∷ 110 ∷ 100 ∷ 61 ∷ 54 ∷ 10 ∷ 97 ∷ 61 ∷ 48 ∷ 10 ∷ 98 ∷ []) ∷ []

unfoldable pub bad_rows : List (List ℕ)
bad_rows =
    (107 ∷ 105 ∷ 110 ∷ 100 ∷ 61 ∷ 45 ∷ 48 ∷ []) ∷ (107 ∷ 105 ∷ 110 ∷ 100 ∷ 61 ∷ 48 ∷ 48 ∷ [])
    ∷ (107 ∷ 105 ∷ 110 ∷ 100 ∷ 61 ∷ 49 ∷ 50 ∷ 51 ∷ 52 ∷ 53 ∷ 54 ∷ []) ∷ (120 ∷ []) ∷ (107 ∷ 105 ∷ 110 ∷ 100 ∷ 61 ∷ 10 ∷ [])
    ∷ (107 ∷ 105 ∷ 110 ∷ 100 ∷ 61 ∷ 54 ∷ 10 ∷ 98 ∷ []) ∷ (107 ∷ 105 ∷ 110 ∷ 100 ∷ 61 ∷ 54 ∷ 10 ∷ 97 ∷ 61 ∷ 48 ∷ 10 ∷ 98 ∷ 61 ∷ 48 ∷ 10 ∷ 99 ∷ 61 ∷ 48 ∷ 10 ∷ []) ∷ []

abbrev pub PartialMeans : Type 0
PartialMeans = (map partial partial_rows ≡ (true ∷ true ∷ true ∷ true ∷ true ∷ [])) × (map partial bad_rows ≡ (false ∷ false ∷ false ∷ false ∷ false ∷ false ∷ false ∷ []))

-- ---- The promise ----

-- it asks for what the definition gives with the room that is lent, and no second answer meets it
pub record OneFed (s : Session) (portion : List ℕ) (end : Bool) (before : List ℕ) (wanted : Feed) : Type 0 where
  pub stop : Option Stop
  pub met : FedBy s portion end before (wanted.text ++ drop (length wanted.text) before) (record { stop = stop; taken = wanted.taken; written = length wanted.text; session = wanted.session })
  pub one : (after : List ℕ) (r : Fed) → FedBy s portion end before after r
      → (r ≡ record { stop = stop; taken = wanted.taken; written = length wanted.text; session = wanted.session }) × (after ≡ wanted.text ++ drop (length wanted.text) before)

abbrev pub PortionPromise : Type 0
PortionPromise =
    (s : Session) (portion : List ℕ) (end : Bool) (before : List ℕ) → OneFed s portion end before (feed_of s portion end (length before))
