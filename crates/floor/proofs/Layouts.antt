-- A layout of cars exists exactly if the test of row 1 passes: a layout is built from the left where it does, and where there is one
-- the test is followed along it. Rows 2 and 3 and the raised lift always have their cars. Assumes nothing.
use mathlib.Core.Path.{◌≡◌, refl, sym, ap, ◌∙◌, subst}
use mathlib.Core.Logic.{◌↔◌, inl, ⊎_elim}
use mathlib.Core.Bool.{Bool, true, false, not}
use mathlib.Core.List.{List, [], ◌∷◌, ◌++◌}
use Prim.Native.Nat.{ℕ, zero, suc, ◌+◌, ◌≤◌, ◌<◌}
use native.Mathlib.Nat.{eq-or-lt_of_le}
use native.Mathlib.Omega.{arith}
use lib.Dec.{eqb-suc-suc}
use borrow.Author.Tests.{eq-eqb, ne_eqb}
use Rattle.bits.specs.Bits.{Bits, bit, digit}
use Rattle.bits.proofs.Cases.{split, both, clash, and_intro}
use Rattle.bits.proofs.Digits.{digit_lt, digit_one, digit_zero}
use Rattle.bits.proofs.Search.{lt_or_ge}
use Rattle.floor.specs.Floor.{raised_car}
use Rattle.floor.specs.Cars.{Car, pair, single, raised, Stands, at, covers, covered, AllStand, Layout}
use Rattle.floor.specs.Tests.{all_hold}
use Rattle.floor.specs.Sound.{Sound, sound_rules, paired, sound}

pub at_same : (c k : ℕ) → c ≡ k → at c k ≡ 1
at_same c k e = ap digit (eq-eqb c k e)

pub at_other : (c k : ℕ) → (c ≡ k → ⊥) → at c k ≡ 0
at_other c k h = ap digit (ne_eqb c k h)

at_suc : (b k : ℕ) → at (suc b) (suc k) ≡ at b k
at_suc b k = ap digit (eqb-suc-suc b k)

-- ---- along a layout the test passes

-- how many cars start at cell c of row 1
starts : List Car → ℕ → ℕ
starts [] c = 0
starts (pair b ∷ l) c = at b c + starts l c
starts (single b ∷ l) c = starts l c
starts (raised ∷ l) c = starts l c

-- a cell of row 1 is covered by the cars that start there and those that start at the cell before
covered_zero : (l : List Car) → AllStand l → covered l 0 ≡ starts l 0
unfolding covered AllStand starts
covered_zero [] s = refl
covered_zero (pair b ∷ l) s = omega (arith, covered_zero l s.1, at_other (suc b) 0 (omega arith))
covered_zero (single b ∷ l) s = omega (arith, covered_zero l s.1, at_other b 0 (omega arith))
covered_zero (raised ∷ l) s = omega (arith, covered_zero l s.1, at_other raised_car 0 (omega arith))

covered_suc : (l : List Car) (k : ℕ) → AllStand l → k < 19 → covered l (suc k) ≡ starts l (suc k) + starts l k
unfolding covered AllStand starts
covered_suc [] k s h = refl
covered_suc (pair b ∷ l) k s h = omega (arith, covered_suc l k s.1 h, at_suc b k)
covered_suc (single b ∷ l) k s h = omega (arith, covered_suc l k s.1 h, at_other b (suc k) (omega arith))
covered_suc (raised ∷ l) k s h = omega (arith, covered_suc l k s.1 h, at_other raised_car (suc k) (omega arith))

-- none starts at the last
no_start : (l : List Car) → AllStand l → starts l 19 ≡ 0
unfolding AllStand starts
no_start [] s = refl
no_start (pair b ∷ l) s = omega (arith, no_start l s.1, at_other b 19 (omega arith))
no_start (single b ∷ l) s = no_start l s.1
no_start (raised ∷ l) s = no_start l s.1

module _ (f : Bits) (l : List Car) (y : Layout f l) where
  -- cell k + 1 is next, and half says whether a car starts at k
  follow : (n k : ℕ) (half : Bool) → n + k ≡ 19 → digit half ≡ starts l k → paired n (suc k) half f ≡ true
  unfolding paired
  follow zero k half e s =
      let i : k ≡ 19 = omega arith in
      ap not (digit_zero half (s ∙ ap (starts l) i ∙ no_start l y.stand))
  follow (suc n) k false e s = follow n (suc k) (f (suc k)) (omega arith)
      (omega (arith, y.cover (suc k) (inl (omega arith)), covered_suc l k y.stand (omega arith)))
  follow (suc n) k true e s =
      let i : digit (f (suc k)) ≡ starts l (suc k) + starts l k = sym (y.cover (suc k) (inl (omega arith))) ∙ covered_suc l k y.stand (omega arith) in
      and_intro (digit_one (f (suc k)) (omega arith)) (follow n (suc k) false (omega arith) (omega (arith, digit_lt (f (suc k)))))

  paired_of_layout : paired 20 0 false f ≡ true
  unfolding paired
  paired_of_layout = follow 19 0 (f 0) (omega arith) (sym (y.cover 0 (inl (omega arith))) ∙ covered_zero l y.stand)

-- ---- where the test passes there is a layout

-- cars that cover the occupied places of f from k up to e once, and no other place
record Part (f : Bits) (k e : ℕ) : Type 0 where
  list : List Car
  stand : AllStand list
  inside : (j : ℕ) → k ≤ j → j < e → covered list j ≡ digit (f j)
  below : (j : ℕ) → j < k → covered list j ≡ 0
  above : (j : ℕ) → e ≤ j → covered list j ≡ 0

module _ (f : Bits) (e : ℕ) where
  nothing : Part f e e
  unfolding covered AllStand
  nothing = record { list = []; stand = tt; inside = λ j l h. absurd (omega arith); below = λ j h. refl; above = λ j h. refl }

  -- a free place before the part
  skip : (k : ℕ) → k < e → f k ≡ false → Part f (suc k) e → Part f k e
  skip k l q p = record {
    list = p.list;
    stand = p.stand;
    inside = λ j a h. ⊎_elim
        (λ i. omega (arith, p.below j (omega arith), ap (λ (x : ℕ). digit (f x)) i, ap digit q))
        (λ b. p.inside j b h) (eq-or-lt_of_le a);
    below = λ j h. p.below j (omega arith);
    above = λ j h. p.above j h;
  }

  -- a car on the places from k to m, which are occupied
  module _ (x : Car) (k m : ℕ) (stands : Stands x) (fits : (k ≤ m) × (m ≤ e))
      (on : (j : ℕ) → k ≤ j → j < m → covers x j ≡ digit (f j))
      (before : (j : ℕ) → j < k → covers x j ≡ 0)
      (after : (j : ℕ) → m ≤ j → covers x j ≡ 0)
    where
      add : Part f m e → Part f k e
      unfolding covered AllStand
      add p = record {
        list = x ∷ p.list;
        stand = (stands, p.stand);
        inside = λ j a h. ⊎_elim
            (λ (b : j < m). omega (arith, on j a b, p.below j b))
            (λ (b : m ≤ j). omega (arith, after j b, p.inside j b h)) (lt_or_ge j m);
        below = λ j h. omega (arith, before j h, p.below j (omega arith));
        above = λ j h. omega (arith, after j (omega arith), p.above j h);
      }

  add_single : (k : ℕ) → k < e → (20 ≤ k) × (k < 40) → f k ≡ true → Part f (suc k) e → Part f k e
  add_single k l r q = add (single k) k (suc k) r ((omega arith), (omega arith))
      (λ j a b. let i : k ≡ j = omega arith in at_same k j i ∙ ap digit (sym q ∙ ap f i))
      (λ j b. at_other k j (omega arith))
      (λ j b. at_other k j (omega arith))

  add_pair : (k : ℕ) → suc k < e → k < 19 → f k ≡ true → f (suc k) ≡ true → Part f (suc (suc k)) e → Part f k e
  add_pair k l r q q' = add (pair k) k (suc (suc k)) r ((omega arith), (omega arith))
      (λ j a b. ⊎_elim
      (λ (i : k ≡ j). omega (arith, at_same k j i, at_other (suc k) j (omega arith), ap digit (sym q ∙ ap f i)))
      (λ (c : k < j). let i : suc k ≡ j = omega arith in omega (arith, at_other k j (omega arith), at_same (suc k) j i, ap digit (sym q' ∙ ap f i)))
      (eq-or-lt_of_le a))
      (λ j b. omega (arith, at_other k j (omega arith), at_other (suc k) j (omega arith)))
      (λ j b. omega (arith, at_other k j (omega arith), at_other (suc k) j (omega arith)))

-- the cars of row 1 from k on
pairs_from : (f : Bits) (n k : ℕ) → n + k ≡ 20 → paired n k false f ≡ true → Part f k 20
unfolding paired
pairs_from f zero k i s = let z : 20 ≡ k = omega arith in subst (λ (x : ℕ). Part f x 20) z (nothing f 20)
pairs_from f (suc zero) k i s = split (f k)
    (λ q. clash s (ap not q))
    (λ q. skip f 20 k (omega arith) q (pairs_from f zero (suc k) (omega arith) refl))
pairs_from f (suc (suc n)) k i s =
    go (f k) refl s (λ s'. pairs_from f (suc n) (suc k) (omega arith) s') (λ s'. pairs_from f n (suc (suc k)) (omega arith) s')
  where
    go : (b : Bool) → f k ≡ b → paired (suc n) (suc k) b f ≡ true → (paired (suc n) (suc k) false f ≡ true → Part f (suc k) 20)
        → (paired n (suc (suc k)) false f ≡ true → Part f (suc (suc k)) 20) → Part f k 20
    go true q s one two =
        let (q', rest) = both (f (suc k)) (paired n (suc (suc k)) false f) s in
        add_pair f 20 k (omega arith) (omega arith) q q' (two rest)
    go false q s one two = skip f 20 k (omega arith) q (one s)

-- the cars of rows 2 and 3 from k on
singles_from : (f : Bits) (n k : ℕ) → n + k ≡ 40 → 20 ≤ k → Part f k 40
singles_from f zero k i l = let z : 40 ≡ k = omega arith in subst (λ (x : ℕ). Part f x 40) z (nothing f 40)
singles_from f (suc n) k i l =
    let rest = singles_from f n (suc k) (omega arith) (omega arith) in
    split (f k)
    (λ q. add_single f 40 k (omega arith) (l, omega arith) q rest)
    (λ q. skip f 40 k (omega arith) q rest)

-- the car on the raised lift
on_lift : (f : Bits) → Part f raised_car (suc raised_car)
on_lift f =
    let none = nothing f (suc raised_car) in
    split (f raised_car)
    (λ q. add f (suc raised_car) raised raised_car (suc raised_car) tt ((omega arith), (omega arith))
    (λ j a b. let i : raised_car ≡ j = omega arith in at_same raised_car j i ∙ ap digit (sym q ∙ ap f i))
    (λ j b. at_other raised_car j (omega arith))
    (λ j b. at_other raised_car j (omega arith)) none)
    (λ q. skip f (suc raised_car) raised_car (omega arith) q none)

covered_append : (l m : List Car) (k : ℕ) → covered (l ++ m) k ≡ covered l k + covered m k
unfolding covered
covered_append [] m k = omega arith
covered_append (x ∷ l) m k = omega (arith, covered_append l m k)

stand_append : (l m : List Car) → AllStand l → AllStand m → AllStand (l ++ m)
unfolding AllStand
stand_append [] m s t = t
stand_append (x ∷ l) m s t = (s.0, stand_append l m s.1 t)

layout_of_paired : (f : Bits) → paired 20 0 false f ≡ true → (l : List Car) × Layout f l
layout_of_paired f s =
    let p : Part f 0 20 = pairs_from f 20 0 (omega arith) s in
    let q : Part f 20 40 = singles_from f 20 20 (omega arith) (omega arith) in
    let r : Part f 52 53 = on_lift f in
    let sum : (k : ℕ) → covered (p.list ++ (q.list ++ r.list)) k ≡ covered p.list k + (covered q.list k + covered r.list k) =
    λ k. covered_append p.list (q.list ++ r.list) k ∙ ap (λ (x : ℕ). covered p.list k + x) (covered_append q.list r.list k) in (
      p.list ++ (q.list ++ r.list),
      record {
        stand = stand_append p.list (q.list ++ r.list) p.stand (stand_append q.list r.list q.stand r.stand);
        cover = λ k h. ⊎_elim
            (λ (a : k < 40). ⊎_elim
            (λ (b : k < 20). omega (arith, sum k, p.inside k (omega arith) b, q.below k b, r.below k (omega arith)))
            (λ (b : 20 ≤ k). omega (arith, sum k, p.above k b, q.inside k b a, r.below k (omega arith)))
            (lt_or_ge k 20))
            (λ (i : k ≡ raised_car). omega (arith, sum k, p.above k (omega arith), q.above k (omega arith), r.inside k (omega arith) (omega arith))) h;
      },
    )

pub layout_iff_paired : (f : Bits) → (paired 20 0 false f ≡ true) ↔ ((l : List Car) × Layout f l)
layout_iff_paired f = (layout_of_paired f, λ y. paired_of_layout f y.0 y.1)

-- the two halves of the test decide the two halves of the definition
pub sound_iff : (r : ℕ) → (sound r ≡ true) ↔ Sound (bit r)
unfolding sound
sound_iff r = (
  λ e.
      let (p, q) = both (paired 20 0 false (bit r)) (all_hold sound_rules (bit r)) e in
      record { layout = (layout_iff_paired (bit r)).0 p; rules = q },
  λ s. and_intro ((layout_iff_paired (bit r)).1 s.layout) s.rules,
)
