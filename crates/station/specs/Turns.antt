-- A call past its test of fitness is told as a turn: its answer, and all that it leaves of the station but the set. How many
-- instructions there were and are says what becomes of the set. Assumes nothing.
use Rattle.std.specs.Prelude.{ℕ, cond, ◌&&◌, List, replicate, ◌==◌, nat_lt}
use Rattle.answers.specs.Answers.{number_of}
use Rattle.engine.specs.Judged.{code_next}
use Rattle.station.specs.declared.Station.{Station}
use Rattle.station.specs.declared.Outcome.{Outcome}
use Rattle.station.specs.declared.Turn.{Turn}
use Rattle.station.specs.declared.Report.{Report}
use Rattle.station.specs.Held.{code_at}
use Rattle.station.specs.Calls.{resulted}

-- the turn of an outcome
abbrev pub turn_of : Outcome → Turn
turn_of o = record { answer = o.answer; bits = o.station.bits; count = o.station.count; answered = o.station.answered; next = o.station.next; apart = o.station.apart }

-- the same turn with another record
abbrev pub with_record : ℕ → Turn → Turn
with_record r t = record { answer = t.answer; bits = r; count = t.count; answered = t.answered; next = t.next; apart = t.apart }

-- the turn of a result of instruction i where nothing is judged: after a success the record is the next one, whether it was allowed or not
abbrev pub unjudged : Station → ℕ → ℕ → Outcome → Turn
unjudged s i ending o =
    cond (ending == 1 && number_of o.answer == 0) (with_record (code_next (code_at s.set i) s.bits) (turn_of o)) (turn_of o)

-- a result past the test of fitness where nothing is judged; on a fit station it is `resulted`, since what waits is allowed
unfoldable pub settled : Station → Report → Turn
settled s r = unjudged s r.number r.ending (resulted s r)

-- the set after a call: where instructions came, the new one; where the last was answered, none; else the one that was held
unfoldable pub kept_set : List ℕ → ℕ → ℕ → List ℕ → List ℕ
kept_set held before after fresh = cond (nat_lt before after) fresh (cond (nat_lt after before) (replicate 40 0) held)

-- the outcome of a turn, with the set that would be new
abbrev pub after_turn : Station → Turn → List ℕ → Outcome
after_turn s t fresh =
    record {
      station = record {
        bits = t.bits;
        count = t.count;
        answered = t.answered;
        set = kept_set s.set s.count t.count fresh;
        next = t.next;
        apart = t.apart;
      };
      answer = t.answer;
    }
