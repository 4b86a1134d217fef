-- The five calls, each a chain of tests in the documents' order of refusals, in parts, the last of them first. What stands past the test
-- of fitness is said of unfit stations too. Assumes nothing.
use Rattle.std.specs.Prelude.{ℕ, Bool, cond, not, ◌&&◌, List, ◌==◌, nat_lt}
use Rattle.bits.specs.Bits.{bit, image}
use Rattle.bits.specs.Search.{least}
use Rattle.floor.specs.Sound.{sound}
use Rattle.rules.specs.declared.Event.{Event}
use Rattle.rules.specs.declared.Event.TheVariants.{BeginIn, BeginOut, EndDone, EndNotDone}
use Rattle.rules.specs.Events.{in_turn, possible, places_open, after_event}
use Rattle.rules.specs.Codes.{most_in_set}
use Rattle.answers.specs.declared.Answer.{Answer}
use Rattle.answers.specs.declared.Answer.TheVariants.{Taken, Opened, BadField, TooMany, SetOutstanding, EmptySet, Overlap, EventImpossible, NoSet, NotInSet, AlreadyAnswered, Unsound, Unfit, Late, NotIssued, OutOfTurn, SetApart, KeptOpen}
use Rattle.answers.specs.Answers.{nowhere}
use Rattle.station.specs.declared.Station.{Station}
use Rattle.station.specs.declared.Outcome.{Outcome}
use Rattle.station.specs.declared.Report.{Report}
use Rattle.station.specs.declared.Picture.{Picture}
use Rattle.station.specs.Held.{code_at, held_after, bad, overlaps_earlier, barred, why_not, lift_in, touches, lift_apart, crosses_drive}
use Rattle.station.specs.Station.{in_set, marked, present_issue, late, fit, holding, seeing, opened, answering, apart_with}

-- the station as it was, and why; the next station, taken
abbrev pub refused : Station → Answer → Outcome
refused s a = record { station = s; answer = a }

abbrev pub taken : Station → Outcome
taken s = record { station = s; answer = Taken }

-- a call on a station that isn't fit is refused before all else
abbrev pub on_fit : Station → Outcome → Outcome
on_fit s o = cond (fit s) o (refused s Unfit)

-- an answer that names the least instruction of n that is at fault, if there is one
abbrev pub unless_any : ℕ → (ℕ → Bool) → Station → (ℕ → Answer) → Outcome → Outcome
unless_any n fault s a o = cond (nat_lt (least n fault) n) (refused s (a (least n fault))) o

-- the set is outstanding, and the answer carries its issue
abbrev pub opening : Station → ℕ → List ℕ → Outcome
opening s n set = record { station = opened s n set; answer = Opened s.next }

-- the end of a request: no two of its n instructions overlap and each is allowed on the present record
unfoldable pub accepted : Station → ℕ → List ℕ → Outcome
accepted s n set =
    unless_any n (overlaps_earlier set) s Overlap
    (unless_any n (barred set s.bits) s (why_not set s.bits)
    (opening s n set))

-- before it: none of the n touches a part that is set apart
unfoldable pub spared : Station → ℕ → List ℕ → Outcome
spared s n set = unless_any n (touches set s.apart) s SetApart (accepted s n set)

-- a request of n well-formed instructions: while a drive is under way, none has the lift in its area
unfoldable pub cleared : Station → ℕ → List ℕ → Outcome
cleared s n set = cond (crosses_drive s.bits set n) (refused s OutOfTurn) (spared s n set)

-- a request past the test of fitness: no set is outstanding, and 1 to 8 instructions, five bytes each, are well formed
unfoldable pub requested : Station → ℕ → List ℕ → Outcome
requested s n set =
    cond (nat_lt 0 s.count) (refused s SetOutstanding)
    (cond (nat_lt most_in_set n) (refused s TooMany)
    (cond (n == 0) (refused s EmptySet)
    (unless_any n (bad set) s BadField
    (cleared s n set))))

-- a request
unfoldable pub request : Station → ℕ → List ℕ → Outcome
request s n set = on_fit s (requested s n set)

-- the end of a car event: it comes in turn, no part of the lift is set apart, it is possible on the present record and leaves the places
-- open that are kept so; the record becomes the one after it
unfoldable pub occurred : Station → Event → Outcome
occurred s e =
    cond (in_turn e (bit s.bits))
    (cond (lift_apart s.apart) (refused s (SetApart nowhere))
    (cond (possible e (bit s.bits))
    (cond (places_open e (bit s.bits)) (taken (holding s (image (after_event e (bit s.bits))))) (refused s KeptOpen))
    (refused s EventImpossible)))
    (refused s OutOfTurn)

-- a car event that is known: no set is outstanding with the lift in any of its areas
unfoldable pub driven : Station → Event → Outcome
driven s e = cond (lift_in s.set s.count) (refused s SetOutstanding) (occurred s e)

-- a car event past the test of fitness, by its number: a drive begins, 1 in, 2 out; the one under way ends, 3 done, 4 not done
unfoldable pub evented : Station → ℕ → Outcome
evented s e =
    cond (e == 1) (driven s BeginIn)
    (cond (e == 2) (driven s BeginOut)
    (cond (e == 3) (driven s EndDone)
    (cond (e == 4) (driven s EndNotDone)
    (refused s (BadField nowhere)))))

-- a car event
unfoldable pub event : Station → ℕ → Outcome
event s e = on_fit s (evented s e)

-- the end of a result: instruction i failed, which changes nothing but the mark, or is done, and its rule is applied to the record at that
-- moment, or is stuck, and everything in its area is set apart
unfoldable pub ended : Station → ℕ → ℕ → Outcome
ended s i ending =
    taken (answering s i (cond (ending == 1) (held_after (code_at s.set i) s.bits) s.bits) (cond (ending == 2) (apart_with s i) s.apart))

-- a result by its instruction's number: it is in the set, and not answered yet
unfoldable pub numbered : Station → ℕ → ℕ → Outcome
numbered s i ending =
    cond (not (in_set s i)) (refused s NotInSet)
    (cond (marked s i) (refused s AlreadyAnswered)
    (ended s i ending))

-- a result by the issue of its set: it isn't late, and is the present one
unfoldable pub timely : Station → Report → Outcome
timely s r =
    cond (late s r.issue) (refused s Late)
    (cond (r.issue == present_issue s) (numbered s r.number r.ending)
    (refused s NotIssued))

-- a result past the test of fitness: 0 failed, 1 done or 2 stuck, and a set is outstanding
unfoldable pub resulted : Station → Report → Outcome
resulted s r =
    cond (nat_lt 2 r.ending) (refused s (BadField nowhere))
    (cond (s.count == 0) (refused s NoSet)
    (timely s r))

-- a result
unfoldable pub result : Station → Report → Outcome
result s r = on_fit s (resulted s r)

-- an image past the test of fitness: no set is outstanding, and it is sound and sets nothing apart; it becomes the record
unfoldable pub imaged : Station → Picture → Outcome
imaged s p =
    cond (nat_lt 0 s.count) (refused s SetOutstanding)
    (cond (sound p.bits && p.apart == 0) (taken (seeing s p.bits)) (refused s Unsound))

-- an image
unfoldable pub take_image : Station → Picture → Outcome
take_image s p = on_fit s (imaged s p)

-- the record is asked for
unfoldable pub ask : Station → Outcome
ask s = on_fit s (taken s)
