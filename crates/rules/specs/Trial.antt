-- Trials of the rules: events sent to a fresh chip one after the other, and what the last is answered. Assumes nothing.
use Rattle.std.specs.Prelude.{ℕ, List, [], ◌∷◌, ℤ}
use Rattle.std.proofs.Math.IntN.ℤ.{pos}
use Rattle.rules.specs.declared.answer.Code.TheVariants.{Done}
use Rattle.rules.specs.declared.event.Numbers.{Numbers}
use Rattle.rules.specs.declared.state.State.{State}
use Rattle.rules.specs.declared.answer.Answer.{Answer}
use Rattle.rules.specs.Bits.{weight}
use Rattle.rules.specs.Codes.{number_of}
use Rattle.rules.specs.PowerOn.{made_of}
use Rattle.rules.specs.Step.{answer_of, last_from}

-- an event of which no number is under 0 but a sample
abbrev pub four : ℕ → ℤ → ℤ → ℤ → Numbers
four kind a b c = record { kind = pos kind; a = a; b = b; c = c }

-- the events, at address 76
abbrev pub reset : Numbers
reset = four 0 (pos 0) (pos 0) (pos 0)

abbrev pub send : ℕ → Numbers
send command = four 1 (pos 76) (pos command) (pos 0)

abbrev pub write : ℕ → ℕ → Numbers
write command b = four 2 (pos 76) (pos command) (pos b)

abbrev pub read : ℕ → Numbers
read command = four 3 (pos 76) (pos command) (pos 0)

abbrev pub receive : Numbers
receive = four 4 (pos 76) (pos 0) (pos 0)

abbrev pub respond : Numbers
respond = four 5 (pos 0) (pos 0) (pos 0)

abbrev pub start : Numbers
start = four 6 (pos 0) (pos 0) (pos 0)

abbrev pub end : ℤ → ℤ → ℕ → Numbers
end local remote broken = four 7 local remote (pos broken)

abbrev pub status : Numbers
status = read 0x02

-- "to convert is kind 6, then kind 7 with diode 0"
abbrev pub convert : ℤ → ℤ → List Numbers → List Numbers
convert local remote later = start ∷ end local remote 0 ∷ later

-- what an answer shows: code, reply, alert, therm; a line that is high is 1
abbrev pub shows : Answer → List ℕ
shows a = number_of a.code ∷ a.reply ∷ weight a.alert 1 ∷ weight a.therm 1 ∷ []

-- what the last of the events is answered, from a state: before any, nothing was asked, so code and reply are 0
unfoldable pub answered_from : State → List Numbers → List ℕ
answered_from s es = shows (last_from (answer_of Done 0 s) es)

-- from a fresh state of an address
unfoldable pub answered_at : ℕ → List Numbers → List ℕ
answered_at address es = answered_from (made_of (pos address)).state es

abbrev pub answered : List Numbers → List ℕ
answered es = answered_at 76 es

-- a row: what the rules give, and what document 01 wants
pub record Row : Type 0 where
  pub got : List ℕ
  pub want : List ℕ

abbrev pub row : List ℕ → List ℕ → Row
row got want = record { got = got; want = want }

-- the two columns of a table
unfoldable pub gots : List Row → List (List ℕ)
gots [] = []
gots (r ∷ rs) = r.got ∷ gots rs

unfoldable pub wants : List Row → List (List ℕ)
wants [] = []
wants (r ∷ rs) = r.want ∷ wants rs
