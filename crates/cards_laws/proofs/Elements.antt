-- Places and elements: each place where a number may stand has one element of an array of 42, and what is held there is its number.
-- Assumes nothing.
use mathlib.Core.Path.{◌≡◌, refl, sym, ap, ◌∙◌, fun_ext}
use mathlib.Core.Bool.{Bool, true, cond}
use mathlib.Core.List.{List}
use Prim.Native.Nat.{ℕ, zero, suc, ◌<◌}
use native.Mathlib.Omega.{arith}
use lib.Dec.{eqb, ltb}
use lib.ListN.{length, get_or}
use lib.Seq.{ext_get_or}
use borrow.Author.Tests.{eqb-true, lt-ltb, ltb-true}
use Rattle.bits.proofs.Cases.{split, clash}
use Rattle.floor.specs.Floor.{raised_car, drive_in}
use Rattle.cards.specs.Cards.{Numbers}
use Rattle.cards.specs.Held.{listed_numbers, place_of_element, held_numbers, numbers_in}
use Rattle.cards.proofs.Listing.{in_held, none_in, cell_place, by_place}
use Rattle.cards_laws.proofs.Anchors.{is_place}

-- ---- the place of an element

pub element_number : (a : List ℕ) (j : ℕ) → j < 42 → numbers_in a (place_of_element j) ≡ get_or a j 0
unfolding numbers_in
element_number a = by_place (λ j. numbers_in a (place_of_element j) ≡ get_or a j 0) (λ j h. ap (numbers_in a) (cell_place j h) ∙ rw (lt-ltb j 40 h)) refl refl

-- and the reverse
abbrev element_at : ℕ → ℕ
element_at k = cond (ltb k 40) k (cond (eqb raised_car k) 40 41)

element_back : (j : ℕ) → j < 42 → element_at (place_of_element j) ≡ j
element_back = by_place (λ j. element_at (place_of_element j) ≡ j) (λ j h. ap element_at (cell_place j h) ∙ rw (lt-ltb j 40 h)) refl refl

-- no two elements have one place
pub one_place : (i j : ℕ) → i < 42 → j < 42 → place_of_element i ≡ place_of_element j → i ≡ j
one_place i j h l e = sym (element_back i h) ∙ ap element_at e ∙ element_back j l

-- a place where a number may stand has an element
pub has_element : (k : ℕ) → is_place k ≡ true → (j : ℕ) × (j < 42) × (place_of_element j ≡ k)
has_element k e = split (ltb k 40)
    (λ t. let h = ltb-true k 40 t in (k, (omega arith), rw t))
    (λ t. split (eqb raised_car k)
    (λ u. (40, (omega arith), eqb-true raised_car k u))
    (λ u. split (eqb drive_in k)
    (λ v. (41, (omega arith), eqb-true drive_in k v))
    (λ v. clash e (rw (t, u, v)))))

-- ---- what is held

pub held_length : (n : Numbers) → length (held_numbers n) ≡ 42
unfolding held_numbers listed_numbers
held_length n = listed_length 42 (λ j. n (place_of_element j))
  where
    listed_length : (m : ℕ) (n : Numbers) → length (listed_numbers m n) ≡ m
    listed_length zero n = refl
    listed_length (suc m) n = ap suc (listed_length m (λ j. n (suc j)))

-- where two numberings agree, so does what is held of them; where one is an array's, it is that
pub held_agree : (n m : Numbers) (k : ℕ) → n k ≡ m k → numbers_in (held_numbers n) k ≡ numbers_in (held_numbers m) k
held_agree n m k e = in_held n k ∙ ap (λ (x : ℕ). cond (is_place k) x 0) e ∙ sym (in_held m k)

pub held_kept : (n : Numbers) (a : List ℕ) (k : ℕ) → n k ≡ numbers_in a k → numbers_in (held_numbers n) k ≡ numbers_in a k
held_kept n a k e = in_held n k ∙ split (is_place k)
    (λ t. ap (λ (b : Bool). cond b (n k) 0) t ∙ e)
    (λ t. ap (λ (b : Bool). cond b (n k) 0) t ∙ sym (none_in a k t))

-- an array of 42 is told by its numbers
pub held_in : (a : List ℕ) → length a ≡ 42 → held_numbers (numbers_in a) ≡ a
held_in a e = ext_get_or 0 (held_numbers (numbers_in a)) a (held_length (numbers_in a) ∙ sym e) (λ j h.
    let l : j < 42 = omega (arith, held_length (numbers_in a)) in
    sym (element_number (held_numbers (numbers_in a)) j l) ∙ held_kept (numbers_in a) a (place_of_element j) refl ∙ element_number a j l)

pub same_array : (a b : List ℕ) → length a ≡ 42 → length b ≡ 42 → ((k : ℕ) → numbers_in a k ≡ numbers_in b k) → a ≡ b
same_array a b p q e = sym (held_in a p) ∙ ap held_numbers (fun_ext e) ∙ held_in b q
