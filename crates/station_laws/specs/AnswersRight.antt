-- Demand 2, it answers right: when each call is accepted, what it leaves, and what it is answered. Proved in proofs/Demands.antt.
-- Assumes nothing.
use Rattle.std.specs.Prelude.{◌≡◌, ◌↔◌, ◌⊎◌, true, false, cond, List, [], ◌∷◌, ℕ, ◌%◌, ◌≤◌, ◌<◌}
use Rattle.bits.specs.Bits.{Bits, bit, image}
use Rattle.bits.specs.Places.{elem, share}
use Rattle.bits.specs.Search.{IsLeast}
use Rattle.floor.specs.Floor.{lift, drives}
use Rattle.floor.specs.Tests.{holds, under_way}
use Rattle.floor.specs.Sound.{Sound}
use Rattle.rules.specs.declared.Instruction.{Instruction}
use Rattle.std.specs.declared.option.Option.TheVariants.{Some}
use Rattle.rules.specs.declared.Event.{Event}
use Rattle.rules.specs.declared.Event.TheVariants.{EndDone, EndNotDone}
use Rattle.rules.specs.Events.{in_turn, possible, places_open, after_event}
use Rattle.rules.specs.Rules.{clauses}
use Rattle.rules.specs.Codes.{read_code, event_code, most_in_set}
use Rattle.rules.specs.Promises.{FirstFails}
use Rattle.answers.specs.declared.Reason.{Reason}
use Rattle.answers.specs.declared.Answer.TheVariants.{BadField, Overlap, EventImpossible, Late, NotIssued, OutOfTurn, SetApart, KeptOpen}
use Rattle.answers.specs.Answers.{number_of, reason_number, nowhere}
use Rattle.station.specs.declared.Station.{Station}
use Rattle.station.specs.declared.Report.{Report}
use Rattle.station.specs.Held.{code_at, is_good, held_area, held_allowed, held_next, bad, overlaps_earlier, barred, lift_in, touches, lift_apart}
use Rattle.station.specs.Station.{start_of, issue_after, present_issue, behind, late, fit, marked, holding, seeing, opened, answering, apart_with}
use Rattle.station_laws.specs.Runs as run
use Rattle.station_laws.specs.Orders.{fails, succeeds, sticks, fate_number}
use Rattle.station_laws.specs.Runs.{Call, answer_number, station_after, fault_index, issue_carried, opens, calls, sets_opened, Begins, NoImages, drive_at}

-- no drive is under way, or the lift is in no area of these instructions
abbrev pub ClearOfDrives : Station → ℕ → List ℕ → Type 0
ClearOfDrives s n set = (holds under_way (bit s.bits) ≡ false) ⊎ (lift_in set n ≡ false)

-- what a request must have to be looked at as a whole: no set outstanding, 1 to 8 instructions, all well formed
pub record Readable (s : Station) (n : ℕ) (set : List ℕ) : Type 0 where
  pub fits : fit s ≡ true
  pub idle : s.count ≡ 0
  pub some : 1 ≤ n
  pub few : n ≤ most_in_set
  pub good : (i : ℕ) → i < n → is_good (code_at set i) ≡ true

-- for its instructions to be judged: besides, no drive under way or the lift in no area, none touching a part set apart, no two overlapping
pub record Orderly (s : Station) (n : ℕ) (set : List ℕ) : Type 0 where
  pub readable : Readable s n set
  pub clear : ClearOfDrives s n set
  pub spared : (i : ℕ) → i < n → touches set s.apart i ≡ false
  pub apart : (i j : ℕ) → i < n → j < i → share (held_area (code_at set i)) (held_area (code_at set j)) ≡ false

-- to be accepted: besides, each allowed on the present record
pub record Acceptable (s : Station) (n : ℕ) (set : List ℕ) : Type 0 where
  pub orderly : Orderly s n set
  pub allowed : (i : ℕ) → i < n → held_allowed (code_at set i) (bit s.bits) ≡ true

-- a request is taken exactly if it is acceptable; then the set is outstanding with no mark, and the record as it was
abbrev pub AcceptedExactly : Type 0
AcceptedExactly =
    (s : Station) (n : ℕ) (set : List ℕ)
    → ((answer_number s (run.request n set) ≡ 0) ↔ Acceptable s n set) × (Acceptable s n set → station_after s (run.request n set) ≡ opened s n set)

-- of the conditions of the instruction at p the first that fails has this reason
abbrev pub ReasonAt : List ℕ → ℕ → Bits → Reason → Type 0
ReasonAt set p f why = (i : Instruction) × (read_code (code_at set p) ≡ Some i) × FirstFails (clauses i) f why

-- a request is refused with a reason and a place exactly if it is orderly, the place is the least not allowed, and the reason belongs to
-- the first condition that fails there
abbrev pub ReasonExactly : Type 0
ReasonExactly =
    (s : Station) (n : ℕ) (set : List ℕ) (why : Reason) (p : ℕ)
    → ((answer_number s (run.request n set) ≡ reason_number why) × (fault_index s (run.request n set) ≡ p))
    ↔ (Orderly s n set × IsLeast n (barred set s.bits) p × ReasonAt set p (bit s.bits) why)

-- an instruction of the outstanding set that has no result yet
abbrev pub Waiting : Station → ℕ → Type 0
Waiting s i = (fit s ≡ true) × (i < s.count) × (marked s i ≡ false)

-- a success is taken exactly if it is of the present set and its instruction waits; the record is then what its rule makes of the present one
abbrev pub ResultRecord : Type 0
ResultRecord =
    (s : Station) (k i : ℕ)
    → ((answer_number s (run.result_call k i (fate_number succeeds)) ≡ 0) ↔ ((k ≡ present_issue s) × Waiting s i))
    × (answer_number s (run.result_call k i (fate_number succeeds)) ≡ 0
    → (station_after s (run.result_call k i (fate_number succeeds)) ≡ answering s i (image (held_next (code_at s.set i) (bit s.bits))) s.apart)
    × ((station_after s (run.result_call k i (fate_number succeeds))).bits ≡ image (held_next (code_at s.set i) (bit s.bits))))

-- a failure is taken exactly if it is of the present set and its instruction waits; the record stays, and what is set apart
abbrev pub FailureKeeps : Type 0
FailureKeeps =
    (s : Station) (k i : ℕ)
    → ((answer_number s (run.result_call k i (fate_number fails)) ≡ 0) ↔ ((k ≡ present_issue s) × Waiting s i))
    × (answer_number s (run.result_call k i (fate_number fails)) ≡ 0
    → (station_after s (run.result_call k i (fate_number fails)) ≡ answering s i s.bits s.apart) × ((station_after s (run.result_call k i (fate_number fails))).bits ≡ s.bits))

-- a stuck result is taken exactly if it is of the present set and its instruction waits; the record stays, and everything in the
-- instruction's area is set apart with what was, also where its set is closed
abbrev pub StuckSetsApart : Type 0
StuckSetsApart =
    (s : Station) (k i : ℕ)
    → ((answer_number s (run.result_call k i (fate_number sticks)) ≡ 0) ↔ ((k ≡ present_issue s) × Waiting s i))
    × (answer_number s (run.result_call k i (fate_number sticks)) ≡ 0
    → (station_after s (run.result_call k i (fate_number sticks)) ≡ answering s i s.bits (apart_with s i))
    × ((station_after s (run.result_call k i (fate_number sticks))).bits ≡ s.bits)
    × ((station_after s (run.result_call k i (fate_number sticks))).apart ≡ apart_with s i))

-- a result that could be of a set: the station is fit, it says 0 to 2, and a set is outstanding
abbrev pub ResultHeard : Station → Report → Type 0
ResultHeard s r = (fit s ≡ true) × (r.ending ≤ 2) × (0 < s.count)

-- on a fit station with a set outstanding, a result that says 0 to 2 is answered 29 exactly if its issue is 1 to 32767 behind the present
-- one, and 30 exactly if its issue is neither so nor the present one
abbrev pub LateExactly : Type 0
LateExactly =
    (s : Station) (r : Report)
    → ((answer_number s (run.reports r) ≡ number_of Late) ↔ (ResultHeard s r × (late s r.issue ≡ true)))
    × ((answer_number s (run.reports r) ≡ number_of NotIssued) ↔ (ResultHeard s r × (late s r.issue ≡ false) × (r.issue ≡ present_issue s → ⊥)))

-- a request that is taken carries the next issue, which moves on by one, round the end; every other call carries 0 and keeps it
abbrev pub IssuesInTurn : Type 0
IssuesInTurn =
    (s : Station) (c : Call)
    → (issue_carried s c ≡ cond (opens s c) s.next 0) × ((station_after s c).next ≡ cond (opens s c) (issue_after s.next) s.next)

-- the first set from the start record has issue 0, whatever calls come before it
abbrev pub FirstIsZero : Type 0
FirstIsZero =
    (l : List Call) → sets_opened start_of l ≡ 0
    → (n : ℕ) (set : List ℕ) → answer_number (calls start_of l) (run.request n set) ≡ 0
    → (issue_carried (calls start_of l) (run.request n set) ≡ 0) × (present_issue (station_after (calls start_of l) (run.request n set)) ≡ 0)

-- an image keeps the count, taken or not
abbrev pub ImageKeepsCount : Type 0
ImageKeepsCount = (s : Station) (r apart : ℕ) → (station_after s (run.image_call r apart)).next ≡ s.next

-- after calls that open m sets, the issue that was the present one is m behind, counted round the end
abbrev pub BehindCounts : Type 0
BehindCounts = (s : Station) (l : List Call) → behind (calls s l) (present_issue s) ≡ sets_opened s l % 65536

-- a car event is taken exactly if no outstanding set has the lift in an area, no part of the lift is set apart, the event is possible, its
-- turn included, and it leaves the places open that are kept so; only the record changes
abbrev pub EventRecord : Type 0
EventRecord =
    (s : Station) (e : Event)
    → ((answer_number s (run.event (event_code e)) ≡ 0)
    ↔ ((fit s ≡ true) × (lift_in s.set s.count ≡ false) × (lift_apart s.apart ≡ false) × (possible e (bit s.bits) ≡ true)
    × (places_open e (bit s.bits) ≡ true)))
    × (answer_number s (run.event (event_code e)) ≡ 0 → station_after s (run.event (event_code e)) ≡ holding s (image (after_event e (bit s.bits))))

-- an image is taken exactly if no set is outstanding, it is sound and says that nothing is set apart; it becomes the record, and then
-- nothing is
abbrev pub ImageTaken : Type 0
ImageTaken =
    (s : Station) (r apart : ℕ)
    → ((answer_number s (run.image_call r apart) ≡ 0) ↔ ((fit s ≡ true) × (s.count ≡ 0) × Sound (bit r) × (apart ≡ 0)))
    × (answer_number s (run.image_call r apart) ≡ 0 → (station_after s (run.image_call r apart) ≡ seeing s r) × ((station_after s (run.image_call r apart)).apart ≡ 0))

-- an ask is taken exactly on a fit station; it changes nothing at all
abbrev pub AskKeeps : Type 0
AskKeeps = (s : Station) → ((answer_number s run.ask ≡ 0) ↔ (fit s ≡ true)) × (station_after s run.ask ≡ s)

-- a result that is taken says 0, failed, 1, done, or 2, stuck
abbrev pub ResultTaken : Type 0
ResultTaken = (s : Station) (k i ending : ℕ) → answer_number s (run.result_call k i ending) ≡ 0 → (ending ≡ 0) ⊎ ((ending ≡ 1) ⊎ (ending ≡ 2))

-- an event that is taken says 1 to 4: a drive begins, in or out, or ends, done or not done
abbrev pub EventTaken : Type 0
EventTaken = (s : Station) (e : ℕ) → answer_number s (run.event e) ≡ 0 → (1 ≤ e) × (e ≤ 4)

-- an event is answered 31 exactly if no outstanding set has the lift in an area and it is a second begin or an end with no begin, 32
-- exactly if it comes in turn there and a part of the lift is set apart, 10 exactly if none is and its own conditions fail, and 33 exactly
-- if none is, they hold, and it would fill a place that is kept open
abbrev pub EventRefused : Type 0
EventRefused =
    (s : Station) (e : Event)
    → ((answer_number s (run.event (event_code e)) ≡ number_of OutOfTurn) ↔ ((fit s ≡ true) × (lift_in s.set s.count ≡ false) × (in_turn e (bit s.bits) ≡ false)))
    × ((answer_number s (run.event (event_code e)) ≡ number_of (SetApart nowhere))
    ↔ ((fit s ≡ true) × (lift_in s.set s.count ≡ false) × (in_turn e (bit s.bits) ≡ true) × (lift_apart s.apart ≡ true)))
    × ((answer_number s (run.event (event_code e)) ≡ number_of EventImpossible)
    ↔ ((fit s ≡ true) × (lift_in s.set s.count ≡ false) × (in_turn e (bit s.bits) ≡ true) × (lift_apart s.apart ≡ false)
    × (possible e (bit s.bits) ≡ false)))
    × ((answer_number s (run.event (event_code e)) ≡ number_of KeptOpen)
    ↔ ((fit s ≡ true) × (lift_in s.set s.count ≡ false) × (lift_apart s.apart ≡ false) × (possible e (bit s.bits) ≡ true)
    × (places_open e (bit s.bits) ≡ false)))

-- a request is answered 31 exactly if it is readable, a drive is under way and any of its instructions has the lift in its area
abbrev pub LiftRefused : Type 0
LiftRefused =
    (s : Station) (n : ℕ) (set : List ℕ)
    → (answer_number s (run.request n set) ≡ number_of OutOfTurn) ↔ (Readable s n set × (holds under_way (bit s.bits) ≡ true) × (lift_in set n ≡ true))

-- a request is answered 32 with a place exactly if it is readable and clear of drives, and the place is the least that touches a part set
-- apart
abbrev pub ApartRefused : Type 0
ApartRefused =
    (s : Station) (n : ℕ) (set : List ℕ) (p : ℕ)
    → ((answer_number s (run.request n set) ≡ number_of (SetApart p)) × (fault_index s (run.request n set) ≡ p))
    ↔ (Readable s n set × ClearOfDrives s n set × IsLeast n (touches set s.apart) p)

-- whatever calls came before, images too: while a drive is under way, an end is taken, done or not
abbrev pub EndTaken : Type 0
EndTaken =
    (s : Station) → Begins s → (l : List Call) → holds under_way (bit (calls s l).bits) ≡ true
    → (answer_number (calls s l) (run.event (event_code EndDone)) ≡ 0) × (answer_number (calls s l) (run.event (event_code EndNotDone)) ≡ 0)

-- none of these calls is an end that is taken
abbrev pub Unended : Station → List Call → Type 0
Unended s [] = Unit {0}
Unended s (c ∷ l) = ((c ≡ run.event (event_code EndDone)) ⊎ (c ≡ run.event (event_code EndNotDone)) → answer_number s c ≡ 0 → ⊥) × Unended (station_after s c) l

-- while a drive is under way, begun here or brought by an image, nobody moves the lift: over any calls but an image, and until an end is
-- accepted, its height and the car on it stay what they are, and that drive stays under way
abbrev pub NobodyMovesTheLift : Type 0
NobodyMovesTheLift =
    (s : Station) → holds under_way (bit s.bits) ≡ true
    → (l : List Call) → NoImages l → Unended s l
    → ((k : ℕ) → elem k lift ≡ true → bit (calls s l).bits k ≡ bit s.bits k)
    × ((k : ℕ) → elem k drives ≡ true → bit (calls s l).bits k ≡ bit s.bits k)
    × (holds under_way (bit (calls s l).bits) ≡ true)

-- from a begin that is accepted, over any calls but an image and until an end is accepted, the lift's height and the car on it stay what
-- they were before the begin, and the drive is under way
abbrev pub LiftHeldSinceBegin : Type 0
LiftHeldSinceBegin =
    (s : Station) (way : ℕ) → (way ≡ 1) ⊎ (way ≡ 2) → answer_number s (run.event way) ≡ 0
    → (l : List Call) → NoImages l → Unended (station_after s (run.event way)) l
    → ((k : ℕ) → elem k lift ≡ true → bit (calls (station_after s (run.event way)) l).bits k ≡ bit s.bits k)
    × (bit (calls (station_after s (run.event way)) l).bits (drive_at way) ≡ true)

-- the calls that may change the record: a success, an event, an image
abbrev pub ChangesRecord : Call → Type 0
ChangesRecord (run.request n set) = ⊥
ChangesRecord (run.reports r) = r.ending ≡ fate_number succeeds
ChangesRecord (run.event e) = Unit {0}
ChangesRecord (run.pictures p) = Unit {0}
ChangesRecord run.ask = ⊥

-- whatever the call, the record stays, or the call is a success, a car event or an image, and was taken
abbrev pub OnlySuccessChanges : Type 0
OnlySuccessChanges = (s : Station) (c : Call) → ((station_after s c).bits ≡ s.bits) ⊎ ((answer_number s c ≡ 0) × ChangesRecord c)

-- the calls that may change what is set apart: a stuck result, an image
abbrev pub ChangesApart : Call → Type 0
ChangesApart (run.request n set) = ⊥
ChangesApart (run.reports r) = r.ending ≡ fate_number sticks
ChangesApart (run.event e) = ⊥
ChangesApart (run.pictures p) = Unit {0}
ChangesApart run.ask = ⊥

-- whatever the call, what is set apart stays, or the call is a stuck result or an image, and was taken
abbrev pub OnlyStuckSetsApart : Type 0
OnlyStuckSetsApart = (s : Station) (c : Call) → ((station_after s c).apart ≡ s.apart) ⊎ ((answer_number s c ≡ 0) × ChangesApart c)

-- a request that is answered 4 names the least bad instruction, with 32 the least touching a part set apart, with 8 the least overlapping
-- an earlier one, with a reason the least not allowed
abbrev pub PlacesRight : Type 0
PlacesRight =
    (s : Station) (n : ℕ) (set : List ℕ)
    → (answer_number s (run.request n set) ≡ number_of (BadField nowhere) → IsLeast n (bad set) (fault_index s (run.request n set)))
    × (answer_number s (run.request n set) ≡ number_of (SetApart nowhere) → IsLeast n (touches set s.apart) (fault_index s (run.request n set)))
    × (answer_number s (run.request n set) ≡ number_of (Overlap nowhere) → IsLeast n (overlaps_earlier set) (fault_index s (run.request n set)))
    × ((why : Reason) → answer_number s (run.request n set) ≡ reason_number why → IsLeast n (barred set s.bits) (fault_index s (run.request n set)))

-- the answers that name an instruction: 4, 32, 8 and 20 to 28 to a request
abbrev pub Names : Call → ℕ → Type 0
Names (run.request n set) k =
    (k ≡ number_of (BadField nowhere)) ⊎ ((k ≡ number_of (SetApart nowhere)) ⊎ ((k ≡ number_of (Overlap nowhere)) ⊎ ((why : Reason) × (k ≡ reason_number why))))
Names (run.reports r) k = ⊥
Names (run.event e) k = ⊥
Names (run.pictures p) k = ⊥
Names run.ask k = ⊥

-- with every answer that names no instruction the place is 255
abbrev pub PlacesElse : Type 0
PlacesElse = (s : Station) (c : Call) → (Names c (answer_number s c) → ⊥) → fault_index s c ≡ nowhere

-- the place of a call is 0 to 7, or 255
abbrev pub PlacesInRange : Type 0
PlacesInRange = (s : Station) (c : Call) → (fault_index s c < most_in_set) ⊎ (fault_index s c ≡ nowhere)
