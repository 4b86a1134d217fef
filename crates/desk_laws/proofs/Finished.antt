-- What is told of a place and where a number is; what a list of instructions that have finished leaves at a place; and that none of them
-- tears a car. Assumes nothing.
use mathlib.Core.Path.{◌≡◌, refl, sym, ap, ◌∙◌}
use mathlib.Core.Logic.{◌⊎◌, inl, inr, ⊎_elim}
use mathlib.Core.Bool.{Bool, true, false, or-true}
use mathlib.Core.List.{List, [], ◌∷◌}
use Prim.Native.Nat.{ℕ, suc, ◌<◌}
use native.Mathlib.Omega.{arith}
use lib.Dec.{eqb, ltb}
use lib.ListN.{get_or}
use borrow.Author.Tests.{eqb-true, eqb-false, ltb-true, ltb-false, eq-eqb}
use Rattle.rules.specs.declared.Instruction.{Instruction}
use Rattle.bits.specs.Bits.{bit, image}
use Rattle.bits.specs.Places.{elem}
use Rattle.bits.proofs.Cases.{split, clash, off, one_of}
use Rattle.bits.proofs.Digits.{bit_image}
use Rattle.bits.proofs.Least.{found_least, least_below}
use Rattle.floor.specs.Floor.{raised_car, drive_in}
use Rattle.floor.specs.Cars.{Car, pair, single, raised, Layout}
use Rattle.floor.specs.Sound.{Sound}
use Rattle.cars.specs.Lists.{anchor, Among}
use Rattle.rules.specs.declared.Code.{Code}
use Rattle.std.specs.declared.option.Option.{Option}
use Rattle.std.specs.declared.option.Option.TheVariants.{Some, None}
use Rattle.rules.specs.Rules.{area_of, area, allowed}
use Rattle.rules.specs.Codes.{read_code}
use Rattle.rules.specs.Verdicts.{on_code}
use Rattle.station.specs.Held.{held_area, held_allowed, held_next}
use Rattle.station.proofs.Areas.{held_small}
use Rattle.station_laws.specs.Motion as run-motion
use Rattle.station_laws.specs.Motion.{of_set, of_stuck, is_among, moving_code}
use Rattle.station_laws.proofs.Reach.{held_outside}
use Rattle.station_laws.proofs.MotionFloor.{among_none, among_first, Once}
use Rattle.cards.specs.Following.{no_source}
use Rattle.cards.specs.Held.{place_of_element, numbers_in, code_cards, element_of, where_is}
use Rattle.cards_laws.proofs.Anchors.{stands}
use Rattle.cards_laws.proofs.Elements.{element_number}
use Rattle.cards_laws.proofs.Torn.{none_torn}
use Rattle.desk.specs.declared.Desk.{Desk}
use Rattle.desk.specs.declared.Whereabouts.{Whereabouts}
use Rattle.desk.specs.declared.Whereabouts.TheVariants.{At, LastKnown, Moving, NotHere}
use Rattle.desk.specs.Questions.{is_under, mover_of, place_after, place_known}
use Rattle.desk_laws.specs.Motion.{cards_moved_on}
use Rattle.desk_laws.proofs.Carrying.{code_outside, code_inside}

-- ---- what is told of a place

-- the kind of an answer, and the two places in it
abbrev kind : Whereabouts → ℕ
kind (At k) = 0
kind (LastKnown k) = 1
kind (Moving k j) = 2
kind NotHere = 3

abbrev place_in : Whereabouts → ℕ
place_in (At k) = k
place_in (LastKnown k) = k
place_in (Moving k j) = k
place_in NotHere = no_source

abbrev to_in : Whereabouts → ℕ
to_in (At k) = k
to_in (LastKnown k) = k
to_in (Moving k j) = j
to_in NotHere = no_source

-- the number is at a place, of which nothing is set apart; and whether an instruction moves its car
pub record Placed (d : Desk) (q : ℕ) (moved : Bool) : Type 0 where
  pub here : q ≡ no_source → ⊥
  pub clear : is_under (bit d.station.apart) q ≡ false
  pub moves : ltb (mover_of d.station q) d.station.count ≡ moved

module _ (d : Desk) (c q k : ℕ) where
  pub placed_sure : place_known d c q ≡ At k → (q ≡ k) × Placed d q false
  unfolding place_known
  placed_sure e = split (eqb q no_source)
      (λ t. let z = ap kind (rw t at e) in absurd (omega arith))
      (λ t. split (is_under (bit d.station.apart) q)
      (λ u. let z = ap kind (rw (t, u) at e) in absurd (omega arith))
      (λ u. split (ltb (mover_of d.station q) d.station.count)
      (λ v. let z = ap kind (rw (t, u, v) at e) in absurd (omega arith))
      (λ v. (ap place_in (rw (t, u, v) at e), record { here = eqb-false q no_source t; clear = u; moves = v }))))

  pub placed_moving : (j : ℕ) → place_known d c q ≡ Moving k j → (q ≡ k) × (place_after d (mover_of d.station q) c ≡ j) × Placed d q true
  unfolding place_known
  placed_moving j e = split (eqb q no_source)
      (λ t. let z = ap kind (rw t at e) in absurd (omega arith))
      (λ t. split (is_under (bit d.station.apart) q)
      (λ u. let z = ap kind (rw (t, u) at e) in absurd (omega arith))
      (λ u. split (ltb (mover_of d.station q) d.station.count)
      (λ v. (ap place_in (rw (t, u, v) at e), ap to_in (rw (t, u, v) at e), record { here = eqb-false q no_source t; clear = u; moves = v }))
      (λ v. let z = ap kind (rw (t, u, v) at e) in absurd (omega arith))))

-- ---- the place of a number

car_place : (j : ℕ) → j < 41 → place_of_element j < 53
car_place j h = split (ltb j 40)
    (λ t. rw t (omega arith))
    (λ t. let l = ltb-false j 40 t in let q : j ≡ 40 = omega arith in rw q (omega arith))

-- a number that has a place stands there
pub stands_there : (a : List ℕ) (c : ℕ) → (where_is a c ≡ no_source → ⊥) → (where_is a c < 53) × (numbers_in a (where_is a c) ≡ c)
unfolding where_is
stands_there a c o = split (eqb c 0)
    (λ t. absurd (o (rw t)))
    (λ t. split (ltb (element_of a c) 41)
    (λ u. let h = ltb-true (element_of a c) 41 u in
    rw (t, u) (
      car_place (element_of a c) h,
      element_number a (element_of a c) (omega arith)
          ∙ eqb-true _ c (found_least 41 (λ j. eqb (get_or a j 0) c) h).passes,
    ))
    (λ u. absurd (o (rw (t, u)))))

-- and is not 0
pub place_card : (a : List ℕ) (c : ℕ) → (where_is a c ≡ no_source → ⊥) → c ≡ 0 → ⊥
unfolding where_is
place_card a c o z = o (rw z)

-- a number at a place of a car has a place
pub place_found : (a : List ℕ) (c k : ℕ) → (c ≡ 0 → ⊥) → numbers_in a k ≡ c → (k ≡ drive_in → ⊥) → where_is a c ≡ no_source → ⊥
unfolding where_is numbers_in
place_found a c k o e w z = split (ltb (element_of a c) 41)
    (λ u. let h = ltb-true (element_of a c) 41 u in
    let l = car_place (element_of a c) h in
    let y : place_of_element (element_of a c) ≡ no_source = rw (nonzero, u) at z in omega arith)
    (λ u. let h = ltb-false (element_of a c) 41 u in
    let none : (i : ℕ) → i < 41 → get_or a i 0 ≡ c → ⊥ =
    λ i l q. clash (eq-eqb (get_or a i 0) c q) (least_below 41 (λ j. eqb (get_or a j 0) c) i (omega arith)) in
    split (ltb k 40)
    (λ t. let l = ltb-true k 40 t in none k (omega arith) (rw t at e))
    (λ t. split (eqb raised_car k)
    (λ v. none 40 (omega arith) (rw (t, v) at e))
    (λ v. split (eqb drive_in k)
    (λ x. w (sym (eqb-true drive_in k x)))
    (λ x. o (sym (rw (t, v, x) at e))))))
  where
    nonzero : eqb c 0 ≡ false
    nonzero = off _ (λ t. o (eqb-true c 0 t))

-- ---- lists of instructions that have finished

among_later : (m : run-motion.Moving) (p : List run-motion.Moving) (n : run-motion.Moving) → is_among p n ≡ true → is_among (m ∷ p) n ≡ true
among_later (of_set i) p (of_set j) e = rw e (or-true (eqb i j))
among_later (of_set i) p (of_stuck j) e = e
among_later (of_stuck i) p (of_set j) e = e
among_later (of_stuck i) p (of_stuck j) e = rw e (or-true (eqb i j))

-- one of a list is its first or one of the others
among_cases : (m : run-motion.Moving) (p : List run-motion.Moving) (n : run-motion.Moving) → is_among (m ∷ p) n ≡ true
    → (m ≡ n) ⊎ (is_among p n ≡ true)
among_cases (of_set i) p (of_set j) e = ⊎_elim (λ t. inl (ap of_set (eqb-true i j t))) inr (one_of (eqb i j) _ e)
among_cases (of_set i) p (of_stuck j) e = inr e
among_cases (of_stuck i) p (of_set j) e = inr e
among_cases (of_stuck i) p (of_stuck j) e = ⊎_elim (λ t. inl (ap of_stuck (eqb-true i j t))) inr (one_of (eqb i j) _ e)

module _ (set : List ℕ) (js : List Code) where
  abbrev pub code : run-motion.Moving → Code
  code m = moving_code set js m

  -- instructions with other areas leave a number where it is
  pub cards_out : (k : ℕ) (p : List run-motion.Moving) → ((m : run-motion.Moving) → is_among p m ≡ true → elem k (held_area (code m)) ≡ false)
      → (r : ℕ) (a : List ℕ) → numbers_in (cards_moved_on set js p r a) k ≡ numbers_in a k
  cards_out k [] out r a = refl
  cards_out k (m ∷ p) out r a =
      cards_out k p (λ n e. out n (among_later m p n e)) (image (held_next (code m) (bit r))) (code_cards (code m) r a)
      ∙ code_outside (code m) r a k (out m (among_first m p))

  -- in the area of one of them the numbers are those that it makes alone, if the others have other areas
  pub cards_in : (n : run-motion.Moving)
      → (p : List run-motion.Moving) → Once p → is_among p n ≡ true
      → ((m : run-motion.Moving) → is_among p m ≡ true → (m ≡ n → ⊥) → (k : ℕ) → elem k (held_area (code n)) ≡ true → elem k (held_area (code m)) ≡ false)
      → (r : ℕ) (a : List ℕ) (k : ℕ) → elem k (held_area (code n)) ≡ true
      → numbers_in (cards_moved_on set js p r a) k ≡ numbers_in (code_cards (code n) r a) k
  cards_in n [] o e beside r a k h = clash e (among_none n)
  cards_in n (m ∷ p) o e beside r a k h = ⊎_elim first (λ y. later y (cards_in n p o.1 y (λ x v. beside x (among_later m p x v)) r' a' k h)) (among_cases m p n e)
    where
      r' : ℕ
      r' = image (held_next (code m) (bit r))

      a' : List ℕ
      a' = code_cards (code m) r a

      first : m ≡ n → numbers_in (cards_moved_on set js p r' a') k ≡ numbers_in (code_cards (code n) r a) k
      first q =
          cards_out k p (λ x y. beside x (among_later m p x y) (λ z. clash y (ap (is_among p) (z ∙ sym q) ∙ o.0)) k h) r' a'
          ∙ ap (λ (x : run-motion.Moving). numbers_in (code_cards (code x) r a) k) q

      others : is_among p n ≡ true → (i : ℕ) → elem i (held_area (code n)) ≡ true → elem i (held_area (code m)) ≡ false
      others y i v = beside m (among_first m p) (λ z. clash y (ap (is_among p) (sym z) ∙ o.0)) i v

      later : is_among p n ≡ true → numbers_in (cards_moved_on set js p r' a') k ≡ numbers_in (code_cards (code n) r' a') k
          → numbers_in (cards_moved_on set js p r' a') k ≡ numbers_in (code_cards (code n) r a) k
      later y q =
          q ∙ code_inside (code n) r' r a' a
          (λ i v. bit_image (held_next (code m) (bit r)) i (held_small (code n) i v) ∙ held_outside (code m) r i (others y i v))
          (λ i v. code_outside (code m) r a i (others y i v)) k h

-- ---- no car is torn

-- of a car of row 1 both cells are in the area of what is allowed, or none is
pub held_torn : (x : Code) (r : ℕ) → Sound (bit r) → held_allowed x (bit r) ≡ true → (u : List Car) → Layout (bit r) u
    → (c : ℕ) → Among (pair c) u → elem c (held_area x) ≡ elem (suc c) (held_area x)
unfolding held_allowed held_area area
held_torn x r S ok u y c m = go (read_code x) ok
  where
    go : (v : (Option Instruction)) → on_code (λ i. allowed i (bit r)) false v ≡ true → elem c (on_code area_of [] v) ≡ elem (suc c) (on_code area_of [] v)
    go (Some i) t = none_torn i (bit r) S t u (inl y) c m
    go None t = clash t refl

-- so the lower cell of a car in row 1 is in it if the upper is
pub torn_at : (x : Code) (r : ℕ) → Sound (bit r) → held_allowed x (bit r) ≡ true → (u : List Car) → Layout (bit r) u
    → (k : ℕ) (z : Car) → Among z u → anchor z ≡ k → k < 20 → elem (suc k) (held_area x) ≡ true → elem k (held_area x) ≡ true
torn_at x r S ok u y k (pair c) m q h e = ap (λ n. elem n (held_area x)) (sym q) ∙ held_torn x r S ok u y c m ∙ ap (λ n. elem (suc n) (held_area x)) q ∙ e
torn_at x r S ok u y k (single c) m q h e = let s = stands u (single c) y.stand m in absurd (omega (arith, s.0))
torn_at x r S ok u y k raised m q h e = absurd (omega arith)
