-- The order of rejections: for each call one table, a line for each number in the documents' order, with the test on which it is returned.
-- A call returns the number of the first line whose test holds, and is accepted if none does. 1 to 3 and 17 are in no table: they are about
-- messages and lent room, before a call is made. Proved in proofs/Rejections.antt. Assumes nothing.
use Rattle.std.specs.Prelude.{◌≡◌, ◌↔◌, ◌⊎◌, Bool, false, not, ◌&&◌, ◌||◌, List, [], ◌∷◌, map, ℕ, ◌<◌, eqb, leb, ltb, length, get_or}
use Rattle.bits.specs.Bits.{bit}
use Rattle.bits.specs.Search.{some, least, IsLeast}
use Rattle.floor.specs.Sound.{sound}
use Rattle.rules.specs.declared.Event.{Event}
use Rattle.std.specs.declared.option.Option.{Option}
use Rattle.rules.specs.declared.Refusal.{Refusal}
use Rattle.std.specs.declared.result.Result.TheVariants.{Ok, Err}
use Rattle.rules.specs.Events.{in_turn, possible, places_open}
use Rattle.rules.specs.Verdicts.{Verdict, code_verdict}
use Rattle.rules.specs.Codes.{read_event, most_in_set}
use Rattle.answers.specs.declared.Reason.{Reason}
use Rattle.answers.specs.declared.Reason.TheVariants.{NothingNamed, Gap, NotAvailable, NotFree, OddCount, HalfMove, SameHeight, NotAtRotation, CellsNotFree}
use Rattle.answers.specs.declared.Answer.{Answer}
use Rattle.answers.specs.declared.Answer.TheVariants.{Taken, BadField, TooMany, SetOutstanding, EmptySet, Overlap, NotAllowed, EventImpossible, NoSet, NotInSet, AlreadyAnswered, Unsound, Unfit, Late, NotIssued, OutOfTurn, SetApart, KeptOpen}
use Rattle.answers.specs.Answers.{reason_number, number_of, place_of, nowhere}
use Rattle.station.specs.declared.Station.{Station}
use Rattle.station.specs.declared.Report.{Report}
use Rattle.station.specs.declared.Picture.{Picture}
use Rattle.station.specs.Held.{code_at, bad, overlaps_earlier, barred, lift_in, touches, lift_apart, crosses_drive}
use Rattle.station.specs.Station.{marked, present_issue, late, fit}
use Rattle.station_laws.specs.Runs.{Call, request, reports, event, pictures, ask, answer_number, fault_index}

-- ---- a table

-- a line: an answer, and the test on which it is given
pub data Line : Type 0 where
  ◌if◌ : Answer → Bool → Line

infix 70 ◌if◌
abbrev pub line_answer : Line → Answer
line_answer (a if t) = a

abbrev pub line_test : Line → Bool
line_test (a if t) = t

-- a line by its number, from 0
abbrev pub rejection_at : List Line → ℕ → Line
rejection_at table i = get_or table i (Taken if false)

-- a line's test holds, and that of no earlier line does
abbrev pub FirstToHold : List Line → ℕ → Type 0
FirstToHold table i = IsLeast (length table) (λ j. line_test (rejection_at table j)) i

-- a call goes by a table: it returns a line's number exactly if that line is the first whose test holds, with that line's place; it is
-- accepted exactly if no line's test holds; and it returns no other number
pub record GoesBy (table : List Line) (s : Station) (c : Call) : Type 0 where
  pub number : (i : ℕ) → i < length table → (answer_number s c ≡ number_of (line_answer (rejection_at table i))) ↔ FirstToHold table i
  pub place : (i : ℕ) → FirstToHold table i → fault_index s c ≡ place_of (line_answer (rejection_at table i))
  pub accepted : (answer_number s c ≡ number_of Taken) ↔ ((i : ℕ) → i < length table → line_test (rejection_at table i) ≡ false)
  pub listed : (answer_number s c ≡ number_of Taken) ⊎ ((i : ℕ) × (i < length table) × (answer_number s c ≡ number_of (line_answer (rejection_at table i))))

-- ---- a request

-- the answer that names the least of n instructions that is at fault, if there is one
abbrev pub for_least : (ℕ → Answer) → ℕ → (ℕ → Bool) → Line
for_least a n fault = a (least n fault) if some n fault

-- why an instruction may not be allowed, by rising number
abbrev pub reasons : List Reason
reasons = NothingNamed ∷ Gap ∷ NotAvailable ∷ NotFree ∷ OddCount ∷ HalfMove ∷ SameHeight ∷ NotAtRotation ∷ CellsNotFree ∷ []

-- a verdict is "not allowed" for this reason: that of the first condition that fails
abbrev pub is_for : Reason → Verdict → Bool
is_for why (Ok done) = false
is_for why (Err (Refusal.NotAllowed first)) = eqb (reason_number first) (reason_number why)
is_for why (Err Refusal.IllFormed) = false

-- some instruction is not allowed on the present record, and the least such one is not for this reason
abbrev pub not_allowed_for : Station → ℕ → List ℕ → Reason → Line
not_allowed_for s n set why =
    let p = least n (barred set s.bits) in
    NotAllowed why p if (some n (barred set s.bits) && is_for why (code_verdict (code_at set p) s.bits))

abbrev pub request_table : Station → ℕ → List ℕ → List Line
request_table s n set =
    -- 16 the station isn't fit
    Unfit if not (fit s)
    -- 6 a set is outstanding
    ∷ SetOutstanding if ltb 0 s.count
    -- 5 more than eight instructions
    ∷ TooMany if ltb most_in_set n
    -- 7 none
    ∷ EmptySet if eqb n 0
    -- 4 a field out of range
    ∷ for_least BadField n (bad set)
    -- 31 the lift is in an area while a drive is under way
    ∷ OutOfTurn if crosses_drive s.bits set n
    -- 32 a part that is set apart is touched
    ∷ for_least SetApart n (touches set s.apart)
    -- 8 an overlap
    ∷ for_least Overlap n (overlaps_earlier set)
    -- 20 to 28 an instruction isn't allowed
    ∷ map (not_allowed_for s n set) reasons

-- a request returns what its table of rejections says
abbrev pub RequestExactly : Type 0
RequestExactly = (s : Station) (n : ℕ) (set : List ℕ) → GoesBy (request_table s n set) s (request n set)

-- ---- a car event

-- a byte says an event of which this holds
abbrev pub says : (Event → Bool) → (Option Event) → Bool
says p (Option.Some e) = p e
says p Option.None = false

abbrev pub event_table : Station → ℕ → List Line
event_table s e =
    -- 16 the station isn't fit
    Unfit if not (fit s)
    -- 4 neither a begin, 1 in, 2 out, nor an end, 3 done, 4 not done
    ∷ BadField nowhere if (eqb e 0 || ltb 4 e)
    -- 6 a set is outstanding with the lift in an area
    ∷ SetOutstanding if lift_in s.set s.count
    -- 31 a second begin, or an end with no begin
    ∷ OutOfTurn if says (λ x. not (in_turn x (bit s.bits))) (read_event e)
    -- 32 a part of the lift is set apart
    ∷ SetApart nowhere if lift_apart s.apart
    -- 10 its own conditions fail
    ∷ EventImpossible if says (λ x. not (possible x (bit s.bits))) (read_event e)
    -- 33 it would fill a place that is kept open
    ∷ KeptOpen if says (λ x. not (places_open x (bit s.bits))) (read_event e)
    ∷ []

-- a car event returns what its table of rejections says
abbrev pub EventExactly : Type 0
EventExactly = (s : Station) (e : ℕ) → GoesBy (event_table s e) s (event e)

-- ---- a result

abbrev pub result_table : Station → Report → List Line
result_table s r =
    -- 16 the station isn't fit
    Unfit if not (fit s)
    -- 4 it says neither 0 failed, 1 done nor 2 stuck
    ∷ BadField nowhere if ltb 2 r.ending
    -- 11 no set is outstanding
    ∷ NoSet if eqb s.count 0
    -- 29 its issue is 1 to 32767 behind the present one
    ∷ Late if late s r.issue
    -- 30 it is not the present one
    ∷ NotIssued if not (eqb r.issue (present_issue s))
    -- 12 its number isn't in the set
    ∷ NotInSet if leb s.count r.number
    -- 13 its instruction is answered
    ∷ AlreadyAnswered if marked s r.number
    ∷ []

-- a result returns what its table of rejections says
abbrev pub ResultExactly : Type 0
ResultExactly = (s : Station) (r : Report) → GoesBy (result_table s r) s (reports r)

-- ---- an image

abbrev pub image_table : Station → Picture → List Line
image_table s p =
    -- 16 the station isn't fit
    Unfit if not (fit s)
    -- 6 a set is outstanding
    ∷ SetOutstanding if ltb 0 s.count
    -- 15 it isn't sound, or sets something apart
    ∷ Unsound if (not (sound p.bits) || not (eqb p.apart 0))
    ∷ []

-- an image returns what its table of rejections says
abbrev pub ImageExactly : Type 0
ImageExactly = (s : Station) (p : Picture) → GoesBy (image_table s p) s (pictures p)

-- ---- the record asked for

abbrev pub ask_table : Station → List Line
ask_table s =
    -- 16 the station isn't fit
    Unfit if not (fit s)
    ∷ []

-- an ask returns what its table of rejections says
abbrev pub AskExactly : Type 0
AskExactly = (s : Station) → GoesBy (ask_table s) s ask
