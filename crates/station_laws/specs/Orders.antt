-- What "in every order" says of a set: results and car events in two lists, with other calls between or not, and when the two come to
-- the same. Assumes nothing.
use Rattle.std.specs.Prelude.{◌≡◌, Bool, true, false, cond, List, [], ◌∷◌, ◌++◌, ℕ, ◌+◌, ◌≤◌, ◌<◌, eqb}
use Rattle.bits.specs.Bits.{bit}
use Rattle.station.specs.declared.Station.{Station}
use Rattle.station.specs.declared.Report.{Report}
use Rattle.station.specs.Held.{code_at, held_allowed}
use Rattle.station_laws.specs.Runs.{Call, request, reports, event, pictures, ask, answer_number, station_after, calls}

-- how many results of instruction i a list has
abbrev pub results_of : ℕ → List Call → ℕ
results_of i [] = 0
results_of i (request n set ∷ l) = results_of i l
results_of i (reports r ∷ l) = cond (eqb r.number i) 1 0 + results_of i l
results_of i (event e ∷ l) = results_of i l
results_of i (pictures p ∷ l) = results_of i l
results_of i (ask ∷ l) = results_of i l

-- its car events, in their order
abbrev pub events_of : List Call → List ℕ
events_of [] = []
events_of (request n set ∷ l) = events_of l
events_of (reports r ∷ l) = events_of l
events_of (event e ∷ l) = e ∷ events_of l
events_of (pictures p ∷ l) = events_of l
events_of (ask ∷ l) = events_of l

-- what becomes of an instruction, and how that is told
pub data Fate : Type 0 where
  fails : Fate
  succeeds : Fate
  sticks : Fate

abbrev pub fate_number : Fate → ℕ
fate_number fails = 0
fate_number succeeds = 1
fate_number sticks = 2

-- it has only results of the set with issue k and car events, and each result tells the instruction's fate
abbrev pub AsChosen : ℕ → (ℕ → Fate) → List Call → Type 0
AsChosen k fate [] = Unit {0}
AsChosen k fate (request n set ∷ l) = ⊥
AsChosen k fate (reports r ∷ l) = (r.issue ≡ k) × (r.ending ≡ fate_number (fate r.number)) × AsChosen k fate l
AsChosen k fate (event e ∷ l) = AsChosen k fate l
AsChosen k fate (pictures p ∷ l) = ⊥
AsChosen k fate (ask ∷ l) = ⊥

-- an order of the results of the n instructions of the set with issue k, with these car events: one result for each as chosen, no other, the
-- events in this order, a result last
pub record Order (k n : ℕ) (fate : ℕ → Fate) (events : List ℕ) (l : List Call) : Type 0 where
  pub once : (i : ℕ) → i < n → results_of i l ≡ 1
  pub only : (i : ℕ) → n ≤ i → results_of i l ≡ 0
  pub chosen : AsChosen k fate l
  pub those : events_of l ≡ events
  pub last : (front : List Call) × (r : Report) × (l ≡ front ++ (reports r ∷ []))

-- each result is taken, and each success was allowed on the record at its turn
abbrev pub Fair : Station → List Call → Type 0
Fair s [] = Unit {0}
Fair s (request n set ∷ l) = Fair (station_after s (request n set)) l
Fair s (reports r ∷ l) =
    (answer_number s (reports r) ≡ 0)
    × (r.ending ≡ 1 → held_allowed (code_at s.set r.number) (bit s.bits) ≡ true)
    × Fair (station_after s (reports r)) l
Fair s (event e ∷ l) = Fair (station_after s (event e)) l
Fair s (pictures p ∷ l) = Fair (station_after s (pictures p)) l
Fair s (ask ∷ l) = Fair (station_after s ask) l

-- the numbers that the car events are answered with, in their order
abbrev pub replies : Station → List Call → List ℕ
replies s [] = []
replies s (request n set ∷ l) = replies (station_after s (request n set)) l
replies s (reports r ∷ l) = replies (station_after s (reports r)) l
replies s (event e ∷ l) = answer_number s (event e) ∷ replies (station_after s (event e)) l
replies s (pictures p ∷ l) = replies (station_after s (pictures p)) l
replies s (ask ∷ l) = replies (station_after s ask) l

-- two lists come to the same: both fair, each event answered alike, the set closed, and the stations at the end equal, their records with them
pub record Alike (s : Station) (l m : List Call) : Type 0 where
  pub fair : Fair s l × Fair s m
  pub answered : replies s l ≡ replies s m
  pub closed : ((calls s l).count ≡ 0) × ((calls s m).count ≡ 0)
  pub same : calls s l ≡ calls s m

-- on calls from this station on, the second list is the first with asks, and calls that are refused at their turn, put in anywhere
pub data Amid : Station → List Call → List Call → Type 0 where
  ends : {s : Station} → Amid s [] []
  kept : {s : Station} {l m : List Call} (c : Call) → Amid (station_after s c) l m → Amid s (c ∷ l) (c ∷ m)
  asked : {s : Station} {l m : List Call} → Amid (station_after s ask) l m → Amid s l (ask ∷ m)
  refused : {s : Station} {l m : List Call} (c : Call) → (answer_number s c ≡ 0 → ⊥) → Amid (station_after s c) l m → Amid s l (c ∷ m)

-- such a list: an ask, and an event that says neither in nor out, before every call
abbrev pub interrupted : List Call → List Call
interrupted [] = []
interrupted (c ∷ l) = ask ∷ event 0 ∷ c ∷ interrupted l

-- a call is taken and no ask
abbrev pub takes : Station → Call → Bool
takes s (request n set) = eqb (answer_number s (request n set)) 0
takes s (reports r) = eqb (answer_number s (reports r)) 0
takes s (event e) = eqb (answer_number s (event e)) 0
takes s (pictures p) = eqb (answer_number s (pictures p)) 0
takes s ask = false

-- the calls of a list that are taken, asks apart
abbrev pub taken_of : Station → List Call → List Call
taken_of s [] = []
taken_of s (c ∷ l) = let rest = taken_of (station_after s c) l in cond (takes s c) (c ∷ rest) rest

-- the stations that the calls of a list meet at their turns
abbrev pub turns : Station → List Call → List Station
turns s [] = []
turns s (c ∷ l) = s ∷ turns (station_after s c) l

-- those that the calls of the shorter list meet within the longer one
abbrev pub turns_amid : {s : Station} {l m : List Call} → Amid s l m → List Station
turns_amid ends = []
turns_amid (kept {s} c a) = s ∷ turns_amid a
turns_amid (asked a) = turns_amid a
turns_amid (refused c r a) = turns_amid a

-- two lists, each with such calls put in: the calls of both meet the stations that they meet without, the ends are the same, the set closed
abbrev pub AlikeAmid : {s : Station} {l m x y : List Call} → Amid s l x → Amid s m y → Type 0
AlikeAmid {s} {l} {m} {x} {y} a b = (turns_amid a ≡ turns s l) × (turns_amid b ≡ turns s m) × (calls s x ≡ calls s y) × ((calls s x).count ≡ 0)
