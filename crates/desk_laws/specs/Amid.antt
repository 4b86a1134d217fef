-- What follows for the numbers: asks and rejected calls between the results of a set make no difference to them, and neither does the
-- order in which stuck instructions finished. Proved in proofs/Amid.antt. Assumes nothing.
use Rattle.std.specs.Prelude.{◌≡◌, List, [], ◌∷◌, ℕ, length}
use Rattle.station.specs.Station.{present_issue}
use Rattle.station_laws.specs.Jams.{has, Picks}
use Rattle.station_laws.specs.Orders.{Fate}
use Rattle.desk.specs.declared.Desk.{Desk}
use Rattle.desk_laws.specs.Runs as desk
use Rattle.desk_laws.specs.Runs.{DeskCall, desk_answer_number, desk_after, calls_desk, DeskBegins, stuck_at, finished_cards}
use Rattle.desk_laws.specs.Orders.{DeskOrder}

-- on calls from this desk on, the second list is the first with asks, and calls that are rejected at their turn, put in anywhere
pub data DeskAmid : Desk → List DeskCall → List DeskCall → Type 0 where
  ends : {d : Desk} → DeskAmid d [] []
  kept : {d : Desk} {l m : List DeskCall} (c : DeskCall) → DeskAmid (desk_after d c) l m → DeskAmid d (c ∷ l) (c ∷ m)
  asked : {d : Desk} {l m : List DeskCall} → DeskAmid (desk_after d desk.ask) l m → DeskAmid d l (desk.ask ∷ m)
  rejected : {d : Desk} {l m : List DeskCall} (c : DeskCall) → (desk_answer_number d c ≡ 0 → ⊥) → DeskAmid (desk_after d c) l m → DeskAmid d l (c ∷ m)

-- such a list: an ask, and an event that says neither in nor out, before every call
abbrev pub desk_interrupted : List DeskCall → List DeskCall
desk_interrupted [] = []
desk_interrupted (c ∷ l) = desk.ask ∷ desk.event 0 0 ∷ c ∷ desk_interrupted l

-- for every desk and every list of calls there is one with an ask and a rejected call put in before each
abbrev pub DeskAmidExists : Type 0
DeskAmidExists = (d : Desk) (l : List DeskCall) → DeskAmid d l (desk_interrupted l)

-- on any desk asks and rejected calls that are put in move no number, and nothing else
abbrev pub DeskAmidUnmoved : Type 0
DeskAmidUnmoved = (d : Desk) (l m : List DeskCall) → DeskAmid d l m → calls_desk d m ≡ calls_desk d l

-- of an accepted set: two orders of its results, as in `DeskAnyOrder`, each with such calls put in, leave the same desk, and on it the same
-- number at each place; the set is closed
abbrev pub DeskAnyOrderAmid : Type 0
DeskAnyOrderAmid =
    (d : Desk) → DeskBegins d → (before : List DeskCall) (n : ℕ) (set : List ℕ) → desk_answer_number (calls_desk d before) (desk.request n set) ≡ 0
    → (fate : ℕ → Fate) (drives : List (ℕ × ℕ)) (l m : List DeskCall)
    → let s = desk_after (calls_desk d before) (desk.request n set) in
    DeskOrder (present_issue s.station) n fate drives l → DeskOrder (present_issue s.station) n fate drives m
    → (x y : List DeskCall) → DeskAmid s l x → DeskAmid s m y
    → (calls_desk s x ≡ calls_desk s y) × ((calls_desk s x).station.count ≡ 0)

-- the order in which the stuck ones finished makes no difference to where each number is
abbrev pub NumbersAnyOrder : Type 0
NumbersAnyOrder =
    (d : Desk) → DeskBegins d → (l : List DeskCall) (p q : List ℕ) → Picks (length (stuck_at d l)) p → Picks (length (stuck_at d l)) q
    → ((j : ℕ) → has p j ≡ has q j) → finished_cards d l p ≡ finished_cards d l q
