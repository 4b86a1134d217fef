-- What "in every order" says of a set at the desk: the station's orders, with car events that bring numbers. Assumes nothing.
use Rattle.std.specs.Prelude.{◌≡◌, true, List, [], ◌∷◌, map, ℕ}
use Rattle.bits.specs.Bits.{bit}
use Rattle.station.specs.Held.{code_at, held_allowed}
use Rattle.station_laws.specs.Orders.{Fate, Order}
use Rattle.desk.specs.declared.Desk.{Desk}
use Rattle.desk_laws.specs.Runs.{DeskCall, request, reports, event, pictures, ask, desk_answer_number, desk_after, calls_desk, under}

-- the car events of a list with their numbers, in their order
abbrev pub drives_of : List DeskCall → List (ℕ × ℕ)
drives_of [] = []
drives_of (request n set ∷ l) = drives_of l
drives_of (reports r ∷ l) = drives_of l
drives_of (event e c ∷ l) = (e, c) ∷ drives_of l
drives_of (pictures p n ns ∷ l) = drives_of l
drives_of (ask ∷ l) = drives_of l

-- an order of the results of the n instructions of the set with issue k, with these car events and their numbers
pub record DeskOrder (k n : ℕ) (fate : ℕ → Fate) (drives : List (ℕ × ℕ)) (l : List DeskCall) : Type 0 where
  pub order : Order k n fate (map (λ d. d.0) drives) (map under l)
  pub those : drives_of l ≡ drives

-- each result is taken, and each success was allowed on the record at its turn
abbrev pub DeskFair : Desk → List DeskCall → Type 0
DeskFair d [] = Unit {0}
DeskFair d (request n set ∷ l) = DeskFair (desk_after d (request n set)) l
DeskFair d (reports r ∷ l) =
    (desk_answer_number d (reports r) ≡ 0)
    × (r.ending ≡ 1 → held_allowed (code_at d.station.set r.number) (bit d.station.bits) ≡ true)
    × DeskFair (desk_after d (reports r)) l
DeskFair d (event e c ∷ l) = DeskFair (desk_after d (event e c)) l
DeskFair d (pictures p n ns ∷ l) = DeskFair (desk_after d (pictures p n ns)) l
DeskFair d (ask ∷ l) = DeskFair (desk_after d ask) l

-- the numbers that the car events are answered with, in their order
abbrev pub desk_replies : Desk → List DeskCall → List ℕ
desk_replies d [] = []
desk_replies d (request n set ∷ l) = desk_replies (desk_after d (request n set)) l
desk_replies d (reports r ∷ l) = desk_replies (desk_after d (reports r)) l
desk_replies d (event e c ∷ l) = desk_answer_number d (event e c) ∷ desk_replies (desk_after d (event e c)) l
desk_replies d (pictures p n ns ∷ l) = desk_replies (desk_after d (pictures p n ns)) l
desk_replies d (ask ∷ l) = desk_replies (desk_after d ask) l

-- two lists come to the same: both fair, each event answered alike, the set closed, and the desks at the end equal, numbers and all
pub record DeskAlike (d : Desk) (l m : List DeskCall) : Type 0 where
  pub fair : DeskFair d l × DeskFair d m
  pub answered : desk_replies d l ≡ desk_replies d m
  pub closed : ((calls_desk d l).station.count ≡ 0) × ((calls_desk d m).station.count ≡ 0)
  pub same : calls_desk d l ≡ calls_desk d m
