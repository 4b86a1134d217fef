-- The theorems of this crate, as types. There is a proof of each for all rules that are framed (`Framed R view glance`).
-- What they speak of stands in the files beside it. Assumes nothing.
use Prim.Native.Nat.{ℕ, ◌<◌}
use mathlib.Core.Path.{◌≡◌}
use mathlib.Core.List.{List, [], ◌∷◌, ◌++◌}
use mathlib.Core.Bool.{Bool, true}
use Rattle.any_order.proofs.Rules.{Rules}
use Rattle.any_order.proofs.Machine.{Batch, Station, Outcome, Act, result, Call, opened, empty, idle, accepted, calls}
use Rattle.any_order.proofs.Orders.{Order, Alike}
use Rattle.any_order.proofs.GoodOrder.{Good}
use Rattle.any_order.proofs.Jams.{jams, Picks, Whichever}

module _ {W C I E : Type 0} (R : Rules W C I E) where
  -- ---- a set is safe in any order

  -- of an accepted set: in any order of the results each success is allowed when it comes, each event is answered alike, and the record at the end and what is set apart are the same
  abbrev pub AnyOrder : Type 0
  AnyOrder = (b : Batch I) (f : W) (away : ℕ → Bool) → R.sound f ≡ true → accepted R b f away ≡ true
      → (choice : ℕ → Outcome) (es : List E) (l m : List (Act E))
      → Order b.size choice es l → Order b.size choice es m
      → Alike R (opened b f away) l m

  -- ---- any calls

  -- with a sound record, no set and nothing stuck a station is in good order
  abbrev pub GoodAtStart : Type 0
  GoodAtStart = (f : W) (away : ℕ → Bool) → R.sound f ≡ true → Good R (empty R) (idle R f away)

  -- every call keeps it so
  abbrev pub CallsGood : Type 0
  CallsGood = (js : Batch I) (s : Station W I) → Good R js s → (l : List (Call W I E)) → Good R (jams R s l js) (calls R s l)

  -- after any calls, for every choice of which stuck instructions did in fact finish
  abbrev pub StuckOrNot : Type 0
  StuckOrNot = (js : Batch I) (s : Station W I) → Good R js s → (l : List (Call W I E)) (p : List ℕ) → Picks (jams R s l js).size p
      → Whichever R (jams R s l js) (calls R s l) p

-- the orders spoken of exist, for a set of any size n and any events: for each instruction j one in which j is answered last
abbrev pub OrdersExist : Type 0 → Type 0
OrdersExist E = (n j : ℕ) → j < n → (choice : ℕ → Outcome) (es : List E)
    → (front : List (Act E)) × Order n choice es (front ++ (result j (choice j) ∷ []))
