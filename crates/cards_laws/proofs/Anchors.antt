-- The places of a record that bear a number: every layout of it has its cars at the same places, which are told by the record alone. In row
-- 1 a car starts at an occupied cell with an even number of occupied cells below it. Assumes nothing.
use mathlib.Core.Path.{◌≡◌, refl, sym, ap, ap₂, subst, ◌∙◌}
use mathlib.Core.Logic.{inl, inr, ⊎_elim}
use mathlib.Core.Bool.{Bool, true, false, cond, ◌&&◌, ◌||◌, and-false}
use mathlib.Core.List.{List, [], ◌∷◌}
use Prim.Native.Nat.{ℕ, zero, suc, ◌+◌, ◌%◌, ◌≤◌, ◌<◌}
use native.Mathlib.Omega.{arith}
use lib.Dec.{eqb, ltb, eqb-suc-suc}
use borrow.Author.Tests.{eqb-true, eqb-false, ne_eqb, lt-ltb, ltb-true, ltb-false}
use Rattle.bits.specs.Bits.{Bits, digit}
use Rattle.bits.proofs.Cases.{split, clash, off}
use Rattle.bits.proofs.Digits.{digit_lt, digit_one}
use Rattle.floor.specs.Floor.{raised_car, drive_in}
use Rattle.floor.specs.Cars.{Car, pair, single, raised, Stands, at, covered, AllStand, Layout}
use Rattle.floor.proofs.Layouts.{at_same, at_other}
use Rattle.floor.proofs.Rows.{below}
use Rattle.cars.specs.Lists.{anchor, Among}
use Rattle.rules_laws.proofs.Moves.{row_count}
use Rattle.cards.specs.Cards.{Numbers, Cards, Has}
use Rattle.cards.specs.Given.{bears}
use Rattle.cards.specs.Following.{no_source, number_at}
use Rattle.cards_laws.specs.Statements.{BearsExactly}

-- ---- the places that bear a number: in row 1, and elsewhere

pub bears_row : (f : Bits) (k : ℕ) → ltb k 20 ≡ true → bears f k ≡ f k && eqb (below f k % 2) 0
bears_row f k e = rw (e, row_count f k)

-- the places where a number may stand: the cells, the raised lift, and where one waits
abbrev pub is_place : ℕ → Bool
is_place k = ltb k 40 || (eqb raised_car k || eqb drive_in k)

pub bears_place : (f : Bits) (k : ℕ) → ltb k 20 ≡ false → bears f k ≡ is_place k && f k
bears_place f k e = rw e

-- what is alike in both of them
pub bears_same : (f g : Bits) (k : ℕ) → g k ≡ f k → (k < 20 → below g k % 2 ≡ below f k % 2) → bears g k ≡ bears f k
bears_same f g k e p = split (ltb k 20)
    (λ t. bears_row g k t ∙ ap₂ (λ (b : Bool) (x : ℕ). b && eqb x 0) e (p (ltb-true k 20 t)) ∙ sym (bears_row f k t))
    (λ t. bears_place g k t ∙ ap (λ (b : Bool). is_place k && b) e ∙ sym (bears_place f k t))

-- a free place bears none, nor does one where none may stand
pub free_none : (f : Bits) (k : ℕ) → f k ≡ false → bears f k ≡ false
free_none f k e = split (ltb k 20) (λ t. rw (t, e)) (λ t. bears_place f k t ∙ rw e (and-false (is_place k)))

pub no_place : (f : Bits) (k : ℕ) → is_place k ≡ false → bears f k ≡ false
no_place f k e = split (ltb k 20)
    (λ t. let h = ltb-true k 20 t in clash (ap (λ (b : Bool). b || (eqb raised_car k || eqb drive_in k)) (lt-ltb k 40 (omega arith))) e)
    (λ t. bears_place f k t ∙ ap (λ (b : Bool). b && f k) e)

-- ---- how many cars of a list have their anchor at a place

unfoldable pub anchors_at : List Car → ℕ → ℕ
anchors_at [] k = 0
anchors_at (x ∷ l) k = at (anchor x) k + anchors_at l k

at_suc : (b k : ℕ) → at (suc b) (suc k) ≡ at b k
at_suc b k = ap digit (eqb-suc-suc b k)

-- a cell of row 1 is covered by the cars with their anchor there and those with it at the cell before
row_zero : (l : List Car) → AllStand l → covered l 0 ≡ anchors_at l 0
unfolding covered AllStand anchors_at
row_zero [] s = refl
row_zero (pair b ∷ l) s = omega (arith, row_zero l s.1, at_other (suc b) 0 (omega arith))
row_zero (single b ∷ l) s = omega (arith, row_zero l s.1)
row_zero (raised ∷ l) s = omega (arith, row_zero l s.1)

row_suc : (l : List Car) (k : ℕ) → AllStand l → k < 19 → covered l (suc k) ≡ anchors_at l (suc k) + anchors_at l k
unfolding covered AllStand anchors_at
row_suc [] k s h = refl
row_suc (pair b ∷ l) k s h = omega (arith, row_suc l k s.1 h, at_suc b k)
row_suc (single b ∷ l) k s h = omega (arith, row_suc l k s.1 h, at_other b k (omega arith))
row_suc (raised ∷ l) k s h = omega (arith, row_suc l k s.1 h, at_other raised_car k (omega arith))

-- any other place by those with their anchor there
others : (l : List Car) (k : ℕ) → AllStand l → 20 ≤ k → covered l k ≡ anchors_at l k
unfolding covered AllStand anchors_at
others [] k s h = refl
others (pair b ∷ l) k s h = omega (arith, others l k s.1 h, at_other (suc b) k (omega arith))
others (single b ∷ l) k s h = omega (arith, others l k s.1 h)
others (raised ∷ l) k s h = omega (arith, others l k s.1 h)

-- none has it where cars can't be
none_there : (l : List Car) (k : ℕ) → AllStand l → 40 ≤ k → (raised_car ≡ k → ⊥) → anchors_at l k ≡ 0
unfolding AllStand anchors_at
none_there [] k s h n = refl
none_there (pair b ∷ l) k s h n = omega (arith, none_there l k s.1 h n, at_other b k (omega arith))
none_there (single b ∷ l) k s h n = omega (arith, none_there l k s.1 h n, at_other b k (omega arith))
none_there (raised ∷ l) k s h n = omega (arith, none_there l k s.1 h n, at_other raised_car k n)

-- ---- they are told by the record

half : (b : Bool) (x y : ℕ) → y + x % 2 ≡ digit b → y ≡ digit (b && eqb (x % 2) 0)
half false x y e = omega arith
half true x y e = split (eqb (x % 2) 0)
    (λ t. rw t (let z = eqb-true (x % 2) 0 t in omega arith))
    (λ t. rw t (let z : x % 2 ≡ 0 → ⊥ = eqb-false (x % 2) 0 t in omega arith))

module _ (f : Bits) (l : List Car) (y : Layout f l) where
  -- of the occupied cells of row 1, those with an odd number below them are second halves
  row_one : (k : ℕ) → k < 20 → anchors_at l k + below f k % 2 ≡ digit (f k)
  row_one zero h = omega (arith, y.cover 0 (inl (omega arith)), row_zero l y.stand)
  row_one (suc k) h =
      omega (arith, row_one k (omega arith), y.cover (suc k) (inl (omega arith)), row_suc l k y.stand (omega arith), digit_lt (f k))

  -- a place bears as many numbers as cars have their anchor there, and the one that waits
  pub told : (k : ℕ) → anchors_at l k + digit (eqb drive_in k && f k) ≡ digit (bears f k)
  told k = split (ltb k 20)
      (λ a.
      let h = ltb-true k 20 a in
      omega (arith, half (f k) (below f k) (anchors_at l k) (row_one k h), ap digit (bears_row f k a), not_there (omega arith)))
      (λ a. let h = ltb-false k 20 a in split (ltb k 40)
      (λ b.
      let j = ltb-true k 40 b in
      let e : bears f k ≡ f k = rw (a, b) in
      omega (arith, others l k y.stand h, y.cover k (inl j), ap digit e, not_there (omega arith)))
      (λ b. split (eqb raised_car k)
      (λ c.
      let i = eqb-true raised_car k c in
      let e : bears f k ≡ f k = rw (a, b, c) in
      omega (arith, others l k y.stand h, y.cover k (inr (sym i)), ap digit e, not_there (omega arith)))
      (λ c.
      let e : bears f k ≡ eqb drive_in k && f k = rw (a, b, c) in
      omega (arith, none_there l k y.stand (ltb-false k 40 b) (eqb-false raised_car k c), ap digit e))))
    where
      not_there : k < drive_in → digit (eqb drive_in k && f k) ≡ 0
      not_there h = rw (ne_eqb drive_in k (λ e. omega arith))

-- ---- a car of a layout stands where a number is borne, and there is no other such place but where one waits

pub stands : (l : List Car) (x : Car) → AllStand l → Among x l → Stands x
unfolding AllStand Among
stands [] x s m = absurd m
stands (y ∷ l) x s m = ⊎_elim (λ (e : x ≡ y). subst Stands (sym e) s.0) (λ (r : Among x l). stands l x s.1 r) m

among_at : (l : List Car) (x : Car) → Among x l → 0 < anchors_at l (anchor x)
unfolding Among anchors_at
among_at [] x m = absurd m
among_at (z ∷ l) x m = ⊎_elim
    (λ (e : x ≡ z). omega (arith, at_same (anchor z) (anchor x) (ap anchor (sym e))))
    (λ (r : Among x l). omega (arith, among_at l x r)) m

at_among : (l : List Car) (k : ℕ) → 0 < anchors_at l k → (x : Car) × Among x l × (anchor x ≡ k)
unfolding Among anchors_at
at_among [] k h = absurd (omega arith)
at_among (z ∷ l) k h = split (eqb (anchor z) k)
    (λ e. (z, inl refl, eqb-true (anchor z) k e))
    (λ e. let r = at_among l k (omega (arith, ap digit e)) in (r.0, inr r.1, r.2))

module _ (f : Bits) (l : List Car) (y : Layout f l) where
  pub car_bears : (x : Car) → Among x l → bears f (anchor x) ≡ true
  car_bears x m = digit_one (bears f (anchor x)) (omega (arith, among_at l x m, told f l y (anchor x), digit_lt (bears f (anchor x))))

  pub bears_car : (k : ℕ) → (k ≡ drive_in → ⊥) → bears f k ≡ true → (x : Car) × Among x l × (anchor x ≡ k)
  bears_car k o e =
      let none : digit (eqb drive_in k && f k) ≡ 0 = rw (ne_eqb drive_in k (λ q. o (sym q))) in
      at_among l k (omega (arith, told f l y k, ap digit e))

pub bears_exactly : BearsExactly
bears_exactly f l y k = (
  λ e. split (eqb drive_in k)
      (λ t. let i = eqb-true drive_in k t in inr (sym i, ap (bears f) i ∙ e))
      (λ t. inl (bears_car f l y k (λ q. eqb-false drive_in k t (sym q)) e)),
  λ s. ⊎_elim
      (λ (c : (x : Car) × Among x l × (anchor x ≡ k)). ap (bears f) (sym c.2) ∙ car_bears f l y c.0 c.1)
      (λ (w : (k ≡ drive_in) × (f drive_in ≡ true)). ap (bears f) w.0 ∙ w.1) s,
)

-- ---- the numbers of the cars, by places

-- the places with a number are those that A says, and no number is there twice
pub record Marked (A : Bits) (n : Numbers) : Type 0 where
  pub none : (k : ℕ) → A k ≡ false → n k ≡ 0
  pub some : (k : ℕ) → A k ≡ true → n k ≡ 0 → ⊥
  pub once : (j k : ℕ) → n j ≡ n k → A j ≡ true → j ≡ k

pub cards_marked : (f : Bits) (n : Numbers) (l : List Car) → Layout f l → Cards f n → Marked (bears f) n
cards_marked f n l y c =
    let N = c l y in
    let some : (k : ℕ) → bears f k ≡ true → n k ≡ 0 → ⊥ = λ k e z. split (eqb drive_in k)
    (λ t. let i = eqb-true drive_in k t in clash (ap (bears f) i ∙ e) (N.coming.0 (ap n i ∙ z)))
    (λ t. let (x, m, a) = bears_car f l y k (λ q. eqb-false drive_in k t (sym q)) e in N.each x m (ap n a ∙ z)) in
    record {
      none = λ k e. split (eqb drive_in k)
          (λ t. let i = eqb-true drive_in k t in ap n (sym i) ∙ N.coming.1 (ap (bears f) i ∙ e))
          (λ t. N.other k (λ x m a. clash (ap (bears f) (sym a) ∙ car_bears f l y x m) e) (λ q. eqb-false drive_in k t (sym q)));
      some = some;
      once = λ j k e a. N.once j k e (some j a);
    }

pub marked_cards : (f : Bits) (n : Numbers) → Marked (bears f) n → Cards f n
marked_cards f n M l y = record {
  each = λ x m. M.some (anchor x) (car_bears f l y x m);
  coming = (λ z. off (f drive_in) (λ e. M.some drive_in e z), λ e. M.none drive_in e);
  other = λ k none o. M.none k (off (bears f k) (λ e. (let (x, m, a) = bears_car f l y k o e in none x m a)));
  once = λ j k e z. split (bears f j) (λ a. M.once j k e a) (λ a. absurd (z (M.none j a)));
}

-- ---- numbers that are taken from other places

-- a place's bit in a record, none nowhere
abbrev pub comes : Bits → ℕ → Bool
comes f k = cond (eqb k no_source) false (f k)

-- the places of B are those of A, each from its source, and no two have one source
pub record Carried (A B : Bits) (s : ℕ → ℕ) : Type 0 where
  pub there : (k : ℕ) → B k ≡ comes A (s k)
  pub one : (j k : ℕ) → s j ≡ s k → (s j ≡ no_source → ⊥) → j ≡ k
  pub goes : (k : ℕ) → A k ≡ true → (j : ℕ) × (s j ≡ k)

module _ (A B : Bits) (s : ℕ → ℕ) (n : Numbers) (outside : A no_source ≡ false) (K : Carried A B s) (M : Marked A n) where
  -- a place of B takes the number of a place of A
  from : (k : ℕ) → B k ≡ true → (s k ≡ no_source → ⊥) × (A (s k) ≡ true) × (number_at n (s k) ≡ n (s k))
  from k e = split (eqb (s k) no_source)
      (λ t. clash (rw t at (sym (K.there k) ∙ e)) refl)
      (λ t. (eqb-false (s k) no_source t, rw t at (sym (K.there k) ∙ e), rw t))

  pub carried_marked : Marked B (λ k. number_at n (s k))
  carried_marked = record {
    none = λ k e. split (eqb (s k) no_source)
        (λ t. rw t)
        (λ t. rw t (M.none (s k) (rw t at (sym (K.there k) ∙ e))));
    some = λ k e z. (let (a, b, c) = from k e in M.some (s k) b (sym c ∙ z));
    once = λ j k q e.
        let (a, b, c) = from j e in
        split (eqb (s k) no_source)
        (λ t. absurd (M.some (s j) b (sym c ∙ q ∙ rw t)))
        (λ t. K.one j k (M.once (s j) (s k) (sym c ∙ q ∙ rw t) b) a);
  }

  pub carried_numbers : (c : ℕ) → (c ≡ 0 → ⊥) → (Has (λ k. number_at n (s k)) c → Has n c) × (Has n c → Has (λ k. number_at n (s k)) c)
  carried_numbers c z = (
    λ h. split (eqb (s h.0) no_source)
        (λ t. absurd (z (sym h.1 ∙ rw t)))
        (λ t. (s h.0, rw t at h.1)),
    λ h. split (A h.0)
        (λ e.
        let (j, q) = K.goes h.0 e in
        (j, ap (number_at n) q ∙ number_at_at h.0 e ∙ h.1))
        (λ e. absurd (z (sym h.1 ∙ M.none h.0 e))),
  )
    where
      number_at_at : (k : ℕ) → A k ≡ true → number_at n k ≡ n k
      number_at_at k e = split (eqb k no_source)
          (λ t. clash e (ap A (eqb-true k no_source t) ∙ outside))
          (λ t. rw t)
