-- "output room enough that code 8 is never given": how much that is, and what so much room gives; and document 02, item 5, from any state:
-- Enough.antt has it of the entry that C calls. The proofs are in proofs/Room.antt. Assumes nothing.
use Rattle.std.specs.Prelude.{ℕ, ◌*◌, ◌/◌, ◌≤◌, ◌≡◌, List, length}
use Rattle.rules.specs.declared.state.State.{State}
use Rattle.text_rules.specs.Sizes.{longest_answer, shortest_record}
use Rattle.replay_rules.specs.Play.{run_of}

-- "33 output bytes for each full 19 bytes of trace": the longest answer for each shortest record
abbrev pub room_of : ℕ → ℕ
room_of n = longest_answer * (n / shortest_record)

-- from any state, with so much room or more: code 8 is not given,
abbrev pub NoEight : Type 0
NoEight =
    (s : State) (trace : List ℕ) (room : ℕ) → room_of (length trace) ≤ room → (run_of s trace room).code ≡ 8 → ⊥

-- the answers take no more than that,
abbrev pub AnswersFit : Type 0
AnswersFit =
    (s : State) (trace : List ℕ) (room : ℕ) → room_of (length trace) ≤ room → length (run_of s trace room).text ≤ room_of (length trace)

-- and still more room changes nothing
abbrev pub SameRun : Type 0
SameRun =
    (s : State) (trace : List ℕ) (room : ℕ) → room_of (length trace) ≤ room → run_of s trace room ≡ run_of s trace (room_of (length trace))

-- whatever the room: "the number of records answered is at most the trace length divided by 19"
abbrev pub FewRecords : Type 0
FewRecords = (s : State) (trace : List ℕ) (room : ℕ) → (run_of s trace room).records ≤ length trace / shortest_record
