-- The place that is told for a number is the anchor of its car. Assumes nothing.
use mathlib.Core.Path.{◌≡◌, refl, sym, ap, ◌∙◌}
use Prim.Native.Nat.{ℕ, ◌<◌}
use native.Mathlib.Omega.{arith}
use lib.Dec.{eqb}
use lib.ListN.{get_or}
use borrow.Author.Tests.{eq-eqb, ne_eqb, lt-ltb}
use Rattle.bits.proofs.Cases.{split}
use Rattle.bits.proofs.Least.{least_is, least_none}
use Rattle.floor.specs.Floor.{drive_in}
use Rattle.floor.specs.Cars.{Car, pair, single, raised, Stands}
use Rattle.cars.specs.Lists.{anchor, Among}
use Rattle.cards.specs.Given.{bears}
use Rattle.cards.specs.Following.{no_source}
use Rattle.cards.specs.Held.{place_of_element, numbers_in, element_of, where_is}
use Rattle.cards_laws.specs.Statements.{WhereRight}
use Rattle.cards_laws.proofs.Anchors.{stands, car_bears, bears_car, Marked, cards_marked}
use Rattle.cards_laws.proofs.Elements.{element_number, one_place}

-- a car's element is not the one that waits
car_element : (x : Car) → Stands x → (j : ℕ) × (j < 41) × (place_of_element j ≡ anchor x)
car_element (pair c) s = (c, omega (arith, s), rw (lt-ltb c 40 (omega (arith, s))))
car_element (single c) s = (c, omega (arith, s.1), rw (lt-ltb c 40 s.1))
car_element raised s = (40, omega arith, refl)

pub where_right : WhereRight
unfolding where_is
where_right f a l y cards c o = (here, none)
  where
    M : Marked (bears f) (numbers_in a)
    M = cards_marked f (numbers_in a) l y cards

    here : (x : Car) → Among x l → numbers_in a (anchor x) ≡ c → where_is a c ≡ anchor x
    here x m e =
        let b = car_bears f l y x m in
        let (j, h, p) = car_element x (stands l x y.stand m) in
        let found : element_of a c ≡ j =
        least_is 41 j (λ i. eqb (get_or a i 0) c) h
        (λ i l. ne_eqb (get_or a i 0) c (λ q.
        let s : anchor x ≡ place_of_element i = M.once (anchor x) (place_of_element i) (e ∙ sym (element_number a i (omega arith) ∙ q)) b in
        let z : j ≡ i = one_place j i (omega arith) (omega arith) (p ∙ s) in
        omega arith))
        (eq-eqb (get_or a j 0) c (sym (element_number a j (omega arith)) ∙ ap (numbers_in a) p ∙ e)) in
        rw (ne_eqb c 0 o, found, lt-ltb j 41 h) p

    not_waiting : (i : ℕ) → i < 41 → place_of_element i ≡ drive_in → ⊥
    not_waiting i h e = let z : i ≡ 41 = one_place i 41 (omega arith) (omega arith) e in omega arith

    none : ((x : Car) → Among x l → numbers_in a (anchor x) ≡ c → ⊥) → where_is a c ≡ no_source
    none n =
        let absent : element_of a c ≡ 41 =
        least_none 41 (λ i. eqb (get_or a i 0) c) (λ i h. ne_eqb (get_or a i 0) c (λ q.
        let number = element_number a i (omega arith) in
        split (bears f (place_of_element i))
        (λ b. let (x, m, s) = bears_car f l y (place_of_element i) (not_waiting i h) b in n x m (ap (numbers_in a) s ∙ number ∙ q))
        (λ b. o (sym q ∙ sym number ∙ M.none (place_of_element i) b)))) in
        rw (ne_eqb c 0 o, absent)
