-- The plain station, how it stands for a station, and what its calls hand back. Assumes nothing.
use Rattle.std.specs.Prelude.{ℕ, false, cond, List, length, ◌==◌, slice_index_or}
use Rattle.bits.specs.Bits.{Bits, bit, packed, image}
use Rattle.answers.specs.declared.Answer.{Answer}
use Rattle.answers.specs.declared.Answer.TheVariants.{Taken, BadField, SetOutstanding, EventImpossible, OutOfTurn, SetApart, KeptOpen}
use Rattle.answers.specs.Answers.{nowhere}
use Rattle.rules.specs.declared.Event.{Event}
use Rattle.rules.specs.declared.Event.TheVariants.{BeginIn, BeginOut, EndDone, EndNotDone}
use Rattle.rules.specs.Events.{in_turn, possible}
use Rattle.station.specs.declared.Station.{Station}
use Rattle.station.specs.declared.Outcome.{Outcome}
use Rattle.station.specs.declared.Report.{Report}
use Rattle.station.specs.Held.{lift_in}
use Rattle.station.specs.Calls.{requested, resulted}
use Rattle.plain.specs.declared.Floor.{Floor}
use Rattle.plain.specs.Plain.{listed, plain_bits, floor_of}
use Rattle.plain.specs.Walks.{walked}
use Rattle.plain_moves.specs.Moves.{driven_floor, opens_with, parts_bits, parts_of}
use Rattle.plain_station.specs.declared.Plain.{Plain}
use Rattle.plain_station.specs.declared.PlainOutcome.{PlainOutcome}

-- ---- a plain station and a packed one

-- whether each of eight is answered
abbrev pub answered_marks : Plain → Bits
answered_marks p j = slice_index_or p.answered j false

-- the station that a plain one stands for; the plain one of a station
unfoldable pub packed_of : Plain → Station
packed_of p =
    record {
      bits = image (plain_bits p.floor);
      count = p.count;
      answered = packed 8 0 (answered_marks p);
      set = p.set;
      next = p.next;
      apart = image (parts_bits p.apart);
    }

unfoldable pub plain_of : Station → Plain
plain_of s =
    record {
      floor = floor_of (bit s.bits);
      apart = parts_of (bit s.apart);
      count = s.count;
      answered = listed 8 (bit s.answered);
      set = s.set;
      next = s.next;
    }

-- what a call hands back, from the one to the other
abbrev pub plain_outcome : Outcome → PlainOutcome
plain_outcome o = record { station = plain_of o.station; answer = o.answer }

abbrev pub packed_outcome : PlainOutcome → Outcome
packed_outcome o = record { station = packed_of o.station; answer = o.answer }

-- ---- its calls, past the test of fitness

-- a request and a result are those of the station that it stands for
abbrev pub plain_requested : Plain → ℕ → List ℕ → PlainOutcome
plain_requested p n set = plain_outcome (requested (packed_of p) n set)

abbrev pub plain_resulted : Plain → Report → PlainOutcome
plain_resulted p r = plain_outcome (resulted (packed_of p) r)

-- the station as it was, and why; another floor, taken
abbrev pub refused_plain : Plain → Answer → PlainOutcome
refused_plain p a = record { station = p; answer = a }

abbrev pub on_floor : Plain → Floor → PlainOutcome
on_floor p f =
    record {
      station = record { floor = f; apart = p.apart; count = p.count; answered = p.answered; set = p.set; next = p.next };
      answer = Taken;
    }

-- the end of a car event, as the station's, but that cars are counted by walking
unfoldable pub plain_occurred : Plain → Event → PlainOutcome
plain_occurred p e =
    let f = plain_bits p.floor in
    cond (in_turn e f)
    (cond p.apart.lift (refused_plain p (SetApart nowhere))
    (cond (possible e f)
    (cond (opens_with e (length (walked f))) (on_floor p (driven_floor e p.floor)) (refused_plain p KeptOpen))
    (refused_plain p EventImpossible)))
    (refused_plain p OutOfTurn)

-- no set is outstanding with the lift in any of its areas
unfoldable pub plain_driven : Plain → Event → PlainOutcome
plain_driven p e = cond (lift_in p.set p.count) (refused_plain p SetOutstanding) (plain_occurred p e)

-- a car event by its number
unfoldable pub plain_evented : Plain → ℕ → PlainOutcome
plain_evented p e =
    cond (e == 1) (plain_driven p BeginIn)
    (cond (e == 2) (plain_driven p BeginOut)
    (cond (e == 3) (plain_driven p EndDone)
    (cond (e == 4) (plain_driven p EndNotDone)
    (refused_plain p (BadField nowhere)))))
