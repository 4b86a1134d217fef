-- Where row 1 has at most two cars on one side of the lift, one of the records of proofs/Ways.antt has a car wherever row 1 has one. All ways
-- to place so many cars are tried, on the left and then on the right: with each car the records without it are left out, and some remain.
-- Assumes nothing.
use mathlib.Core.Path.{◌≡◌, refl, sym, ap, ◌∙◌}
use mathlib.Core.Logic.{◌⊎◌, inl, inr}
use mathlib.Core.Bool.{Bool, true, false, cond, not, ◌&&◌, ◌||◌}
use mathlib.Core.List.{List, [], ◌∷◌}
use Prim.Native.Nat.{ℕ, zero, suc, ◌+◌, ◌-◌, ◌*◌, ◌%◌, ◌≤◌, ◌<◌}
use native.Mathlib.Omega.{arith}
use lib.Dec.{T, eqb, ltb}
use borrow.Author.Tests.{eqb-true, eqb-false, lt-ltb, ltb-true, ltb-false}
use Rattle.bits.specs.Bits.{Bits, bit, digit, count}
use Rattle.bits.specs.Places.{from, elem, is_empty}
use Rattle.bits.proofs.Cases.{split, clash, both, and_intro, and_l, and_r, under}
use Rattle.bits.proofs.Counts.{count_le, elem_here}
use Rattle.floor.specs.Floor.{left_of_lift, right_of_lift}
use Rattle.floor.proofs.Rows.{below, Whole, count_from}
use Rattle.cards.specs.Given.{bears}
use Rattle.cards_laws.proofs.Anchors.{bears_row}
use Rattle.fetch_laws.proofs.Ways.{good_records, linked}

-- those of a list that pass
abbrev those : (ℕ → Bool) → List ℕ → List ℕ
those p [] = []
those p (r ∷ rs) = let q = those p rs in cond (p r) (r ∷ q) q

those_at : (p : ℕ → Bool) (rs : List ℕ) (r : ℕ) → T (elem r (those p rs)) → T (elem r rs) × (p r ≡ true)
those_at p [] r m = absurd m
those_at p (x ∷ rs) r m = go (p x) refl m (those_at p rs r)
  where
    right : (a b : Bool) → T b → T (a || b)
    right true b t = tt
    right false b t = t

    here : (b : Bool) → eqb x r ≡ b → p x ≡ true → T (b || elem r (those p rs)) → (T (elem r (those p rs)) → T (elem r rs) × (p r ≡ true))
        → T (b || elem r rs) × (p r ≡ true)
    here true e q m later = (tt, ap p (sym (eqb-true x r e)) ∙ q)
    here false e q m later = later m

    go : (b : Bool) → p x ≡ b → T (elem r (cond b (x ∷ those p rs) (those p rs))) → (T (elem r (those p rs)) → T (elem r rs) × (p r ≡ true))
        → T (elem r (x ∷ rs)) × (p r ≡ true)
    go true q m later = here (eqb x r) refl q m later
    go false q m later = let (a, b) = later m in (right (eqb x r) (elem r rs) a, b)

-- a car can begin at a cell of row 1, the lift's and what is half on the lift's left out
abbrev may_begin : ℕ → Bool
may_begin k = not (elem k (10 ∷ 11 ∷ 12 ∷ 19 ∷ []))

-- however up to b cars are placed on n cells from k on, the records that have them pass; half says that the cell before k is the lower of a car
unfoldable covers : ℕ → ℕ → Bool → ℕ → List ℕ → (List ℕ → Bool) → Bool
covers zero k half b rs p = p rs
covers (suc n) k true b rs p = covers n (suc k) false b rs p
covers (suc n) k false b rs p =
    covers n (suc k) false b rs p
    && cond (may_begin k && ltb 0 b) (covers n (suc k) true (b - 1) (those (λ r. bears (bit r) k) rs) p) true

-- some of the records rs pass, and each of them has the cars of f from k to e
record Over (f : Bits) (k e : ℕ) (rs : List ℕ) (p : List ℕ → Bool) : Type 0 where
  some : List ℕ
  passes : T (p some)
  among : (r : ℕ) → T (elem r some) → T (elem r rs)
  has : (r : ℕ) → T (elem r some) → (j : ℕ) → k ≤ j → j < e → bears f j ≡ true → bears (bit r) j ≡ true

module _ (f : Bits) (w : Whole 20 f) (no11 : f 11 ≡ false) (no12 : f 12 ≡ false) where
  begins : (k : ℕ) → k < 20 → below f k % 2 ≡ 0 → f k ≡ true → may_begin k ≡ true
  begins k h ev on = ap not (none (10 ∷ 11 ∷ 12 ∷ 19 ∷ []) (λ j m e. other j m e))
    where
      none : (js : List ℕ) → ((j : ℕ) → T (elem j js) → j ≡ k → ⊥) → elem k js ≡ false
      none [] n = refl
      none (j ∷ js) n = go (eqb j k) refl (none js (λ i m. n i (later (eqb j i) (elem i js) m)))
        where
          later : (a b : Bool) → T b → T (a || b)
          later true b t = tt
          later false b t = t

          go : (b : Bool) → eqb j k ≡ b → elem k js ≡ false → b || elem k js ≡ false
          go true e r = absurd (n j (elem_here j js) (eqb-true j k e))
          go false e r = r

      other : (j : ℕ) → T (elem j (10 ∷ 11 ∷ 12 ∷ 19 ∷ [])) → j ≡ k → ⊥
      other j m e = split (eqb k 10)
          (λ t. let z = eqb-true k 10 t in clash (ten k z on ev) no11)
          (λ t. split (eqb k 11)
          (λ u. clash (ap f (sym (eqb-true k 11 u)) ∙ on) no11)
          (λ u. split (eqb k 12)
          (λ v. clash (ap f (sym (eqb-true k 12 v)) ∙ on) no12)
          (λ v. split (eqb k 19)
          (λ x. let z = eqb-true k 19 x in last k z on ev)
          (λ x. rest (eqb-false k 10 t) (eqb-false k 11 u) (eqb-false k 12 v) (eqb-false k 19 x)))))
        where
          ten : (k : ℕ) → k ≡ 10 → f k ≡ true → below f k % 2 ≡ 0 → f 11 ≡ true
          ten k z on ev =
              ap f (ap suc (sym z)) ∙ (w (suc k) (omega arith) (omega (arith, ap digit on))).1

          last : (k : ℕ) → k ≡ 19 → f k ≡ true → below f k % 2 ≡ 0 → ⊥
          last k z on ev = let q = (w (suc k) (omega arith) (omega (arith, ap digit on))).0 in omega arith

          rest : (k ≡ 10 → ⊥) → (k ≡ 11 → ⊥) → (k ≡ 12 → ⊥) → (k ≡ 19 → ⊥) → ⊥
          rest a b c d = go m
            where
              step : (i : ℕ) (js : List ℕ) → (k ≡ i → ⊥) → T (elem j (i ∷ js)) → T (elem j js)
              step i js n m = pass (eqb i j) refl m
                where
                  pass : (b : Bool) → eqb i j ≡ b → T (b || elem j js) → T (elem j js)
                  pass true q m = absurd (n (sym e ∙ sym (eqb-true i j q)))
                  pass false q m = m

              go : T (elem j (10 ∷ 11 ∷ 12 ∷ 19 ∷ [])) → ⊥
              go m = absurd (step 19 [] d (step 12 (19 ∷ []) c (step 11 (12 ∷ 19 ∷ []) b (step 10 (11 ∷ 12 ∷ 19 ∷ []) a m))))

  module _ (p : List ℕ → Bool) (e all : ℕ) (within : e ≤ 20) (few : below f e ≤ all) where
    -- those before the end are no more than all
    at_most : (n k : ℕ) → n + k ≡ e → below f k ≤ all
    at_most n k q = let c = count_from f n k in let z : k + n ≡ e = omega arith in omega (arith, c, ap (below f) z)

    over : (n k : ℕ) (half : Bool) (b : ℕ) (rs : List ℕ) → n + k ≡ e → digit half ≡ below f k % 2 → below f k + digit half + 2 * b ≡ all
        → T (covers n k half b rs p) → Over f k e rs p
    unfolding covers
    over zero k half b rs q h c t =
        record { some = rs; passes = t; among = λ r m. m; has = λ r m j a l o. absurd (omega arith) }
    over (suc n) k true b rs q h c t =
        let on = (w k (omega arith) (omega arith)).1 in
        let O = over n (suc k) false b rs (omega arith) (omega (arith, ap digit on)) (omega (arith, ap digit on)) t in
        record {
          some = O.some;
          passes = O.passes;
          among = O.among;
          has = λ r m j a l o. split (eqb j k)
              (λ x.
              let z = eqb-true j k x in
              let ev = eqb-true (below f j % 2) 0 (both (f j) (eqb (below f j % 2) 0) (sym (bears_row f j (lt-ltb j 20 (omega arith))) ∙ o)).1 in
              absurd (omega (arith, ap (below f) z)))
              (λ x. let z : (j ≡ k → ⊥) = eqb-false j k x in O.has r m j (omega arith) l o);
        }
    over (suc n) k false b rs q h c t = go (f k) refl
        (λ (z : f k ≡ false).
        over n (suc k) false b rs (omega arith) (omega (arith, ap digit z)) (omega (arith, ap digit z)) (and_l (covers n (suc k) false b rs p) _ t))
        (λ (z : f k ≡ true) (y : 0 < b) (u : T (covers n (suc k) true (b - 1) (those (λ r. bears (bit r) k) rs) p)).
        over n (suc k) true (b - 1) (those (λ r. bears (bit r) k) rs) (omega arith) (omega (arith, ap digit z)) (omega (arith, ap digit z)) u)
      where
        go : (x : Bool) → f k ≡ x → (f k ≡ false → Over f (suc k) e rs p)
            → (f k ≡ true → 0 < b → T (covers n (suc k) true (b - 1) (those (λ r. bears (bit r) k) rs) p)
            → Over f (suc k) e (those (λ r. bears (bit r) k) rs) p)
            → Over f k e rs p
        go false z O P =
            let N = O z in
            record {
              some = N.some;
              passes = N.passes;
              among = N.among;
              has = λ r m j a l o. split (eqb j k)
                  (λ x. clash (ap f (sym (eqb-true j k x)) ∙ (both (f j) (eqb (below f j % 2) 0) (sym (bears_row f j (lt-ltb j 20 (omega arith))) ∙ o)).0) z)
                  (λ x. let y : (j ≡ k → ⊥) = eqb-false j k x in N.has r m j (omega arith) l o);
            }
        go true z O P =
            let room : 0 < b = omega (arith, at_most n (suc k) (omega arith), ap digit z) in
            let N = P z room
            (under (may_begin k && ltb 0 b) _ (and_intro (begins k (omega arith) (omega arith) z) (lt-ltb 0 b room))
            (and_r (covers n (suc k) false b rs p) _ t)) in
            let those-here : (r : ℕ) → T (elem r N.some) → T (elem r rs) × (bears (bit r) k ≡ true) =
            λ r m. those_at (λ r. bears (bit r) k) rs r (N.among r m) in
            record {
              some = N.some;
              passes = N.passes;
              among = λ r m. (those-here r m).0;
              has = λ r m j a l o. split (eqb j k)
                  (λ x. ap (bears (bit r)) (eqb-true j k x) ∙ (those-here r m).1)
                  (λ x. let y : (j ≡ k → ⊥) = eqb-false j k x in N.has r m j (omega arith) l o);
            }

-- ---- both sides

abbrev any_left : List ℕ → Bool
any_left rs = not (is_empty rs)

-- up to c cars right of the lift
abbrev right_covered : ℕ → List ℕ → Bool
right_covered c rs = covers 7 13 false c rs any_left

few_left : T (covers 11 0 false 2 good_records (right_covered 3))
unfolding covers linked
few_left = tt

few_right : T (covers 11 0 false 5 good_records (right_covered 2))
unfolding covers linked
few_right = tt

-- at most two cars on one side
abbrev pub OneSideFew : Bits → Type 0
OneSideFew f = (count left_of_lift f ≤ 4) ⊎ (count right_of_lift f ≤ 4)

-- one of the records has the cars of row 1
pub record Covered (f : Bits) : Type 0 where
  pub one : ℕ
  pub among : T (elem one good_records)
  pub has : (j : ℕ) → j < 20 → bears f j ≡ true → bears (bit one) j ≡ true

module _ (f : Bits) (w : Whole 20 f) (no11 : f 11 ≡ false) (no12 : f 12 ≡ false) where
  even_at : (k : ℕ) → k ≤ 20 → ((k < 20) × (f k ≡ true) → ⊥) → below f k % 2 ≡ 0
  even_at k h n = go (below f k) (λ o. n (w k h o))
    where
      go : (x : ℕ) → (x % 2 ≡ 1 → ⊥) → x % 2 ≡ 0
      go x n = omega arith

  pub left_even : below f 11 % 2 ≡ 0
  left_even = even_at 11 (omega arith) (λ q. clash q.1 no11)

  pub all_even : below f 20 % 2 ≡ 0
  all_even = even_at 20 (omega arith) (λ q. omega (arith, q.0))

  pub right_from : below f 13 ≡ below f 11
  right_from = omega (arith, ap digit no11, ap digit no12)

  both_sides : (b c : ℕ) → below f 11 ≤ 2 * b → below f 20 ≤ below f 13 + 2 * c → T (covers 11 0 false b good_records (right_covered c)) → Covered f
  both_sides b c l r t =
      let L = over f w no11 no12 (right_covered c) 11 (2 * b) (omega arith) l 11 0 false b good_records refl refl (omega arith) t in
      let R = over f w no11 no12 any_left 20 (below f 13 + 2 * c) (omega arith) r 7 13 false c L.some refl
      (omega (arith, right_from, left_even)) (omega arith) L.passes in
      first R.some R.passes (λ q m. record {
        one = q;
        among = L.among q (R.among q m);
        has = λ j h o. split (ltb j 11)
            (λ x. L.has q (R.among q m) j (omega arith) (ltb-true j 11 x) o)
            (λ x. split (ltb j 13)
            (λ y. clash (occupied j h o) (between j (ltb-false j 11 x) (ltb-true j 13 y)))
            (λ y. R.has q m j (ltb-false j 13 y) h o));
      })
    where
      occupied : (j : ℕ) → j < 20 → bears f j ≡ true → f j ≡ true
      occupied j h o = (both (f j) (eqb (below f j % 2) 0) (sym (bears_row f j (lt-ltb j 20 h)) ∙ o)).0

      between : (j : ℕ) → 11 ≤ j → j < 13 → f j ≡ false
      between j a b = split (eqb j 11)
          (λ x. ap f (eqb-true j 11 x) ∙ no11)
          (λ x. let z : (j ≡ 11 → ⊥) = eqb-false j 11 x in let y : j ≡ 12 = omega arith in ap f y ∙ no12)

      first : {C : Type 0} (rs : List ℕ) → T (any_left rs) → ((q : ℕ) → T (elem q rs) → C) → C
      first [] t g = absurd t
      first (q ∷ rs) t g = g q (elem_here q rs)

  pub covered_row : OneSideFew f → Covered f
  covered_row (inl few) =
      both_sides 2 3 (omega (arith, few, count_from f 11 0))
      (omega (arith, count_from f 7 13, count_le (from 13 7) f, right_from, left_even, all_even)) few_left
  covered_row (inr few) =
      both_sides 5 2 (omega (arith, count_from f 11 0, count_le (from 0 11) f, left_even))
      (omega (arith, few, count_from f 7 13)) few_right
