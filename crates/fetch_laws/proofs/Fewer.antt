-- Cars that are taken away hinder nobody. What an instruction asks of a record, it asks of shuttles and heights, that places are free, or that
-- a count is even whose ends are borders of its area: there no car is torn, and so none of fewer cars. Assumes nothing.
use mathlib.Core.Path.{◌≡◌, refl, sym, ap, subst, ◌∙◌}
use mathlib.Core.Logic.{inl, inr, ⊎_elim, ◌⊎◌}
use mathlib.Core.Bool.{Bool, true, false, cond, not, ◌&&◌, ◌||◌, beq}
use mathlib.Core.List.{List, [], ◌∷◌}
use Prim.Native.Nat.{ℕ, zero, suc, ◌+◌, ◌%◌, ◌≤◌, ◌<◌}
use native.Mathlib.Omega.{arith}
use lib.Dec.{T, eqb, ltb, leb, leb→le}
use lib.ListN.{length, get_or}
use borrow.Author.Tests.{eqb-true, eqb-false, eq-eqb, lt-ltb, ltb-true}
use Rattle.bits.specs.Bits.{Bits, digit, count}
use Rattle.bits.specs.Places.{from, elem}
use Rattle.bits.specs.Search.{every}
use Rattle.bits.proofs.Cases.{split, clash, both, and_intro, one_of, and_l, and_r, under, T→true, true→T}
use Rattle.bits.proofs.Counts.{set_agree, count_agree}
use Rattle.bits.proofs.Lists.{same, same_eq}
use Rattle.bits.proofs.Sharing.{all_pass, pass_at}
use Rattle.floor.specs.Floor.{raised_car, drive_in}
use Rattle.floor.specs.Tests.{Test, fact, set, exactly, even, no, both as bothTests, either, holds, all_hold, under_way, at_basement}
use Rattle.floor.specs.Cars.{Car, pair, single, raised, Stands}
use Rattle.floor.specs.Sound.{Sound}
use Rattle.floor.proofs.Reading.{inside, inside_at, reads_in, holds_agree, found, found_law}
use Rattle.floor.proofs.Rows.{below, Whole, count_from, whole_iff_paired}
use Rattle.floor.proofs.Promises.{layout_exactly}
use Rattle.rules.specs.declared.Instruction.{Instruction}
use Rattle.rules.specs.Rules.{area_of, area, conditions, changes, allowed, next_record}
use Rattle.rules.proofs.Every.{everywhere, each}
use Rattle.rules_laws.specs.Laws.{Clear}
use Rattle.rules_laws.specs.Undoing.{record_after, Moves}
use Rattle.rules_laws.proofs.Laws.{stays_sound}
use Rattle.cars.specs.Lists.{anchor, Among}
use Rattle.cards.specs.Given.{bears}
use Rattle.cards.specs.Following.{no_source, takings}
use Rattle.cards.specs.Private.{source}
use Rattle.cards_laws.proofs.Anchors.{bears_row, bears_place, stands, bears_car, comes}
use Rattle.cards_laws.proofs.Others.{gapless, is_gapless}
use Rattle.cards_laws.proofs.Laws.{fine, follows}
use Rattle.cards_laws.proofs.Torn.{none_torn}
use Rattle.fetch_laws.specs.Fetching.{fixed_parts}

pub whole : (f : Bits) → Sound f → Whole 20 f
whole f s = (whole_iff_paired f).0 ((layout_exactly f).1 s.layout)

-- the same by places that bear a number
pub record Fewer (f g : Bits) : Type 0 where
  pub cars : (k : ℕ) → bears f k ≡ true → bears g k ≡ true
  pub parts : (k : ℕ) → T (elem k fixed_parts) → f k ≡ g k

-- ---- cars of row 1 and the counts below their cells

-- below the second half of a car the number of occupied cells is odd, and nowhere else
pub odd_bears : (f : Bits) → Whole 20 f → (c : ℕ) → c < 20 → below f (suc c) % 2 ≡ 1 → bears f c ≡ true
odd_bears f w c h o = split (f c)
    (λ t. bears_row f c (lt-ltb c 20 h) ∙ and_intro t (eq-eqb (below f c % 2) 0 (omega (arith, ap digit t))))
    (λ t. clash (w c (omega arith) (omega (arith, ap digit t))).1 t)

pub bears_odd : (f : Bits) (c : ℕ) → c < 20 → bears f c ≡ true → below f (suc c) % 2 ≡ 1
bears_odd f c h b =
    let (on, ev) = both (f c) (eqb (below f c % 2) 0) (sym (bears_row f c (lt-ltb c 20 h)) ∙ b) in
    let z = eqb-true (below f c % 2) 0 ev in
    omega (arith, ap digit on)

-- ---- what is asked of a record

-- cells, the raised lift, and the parts that are the same
abbrev known : ℕ → Bool
known k = ltb k 40 || (eqb raised_car k || elem k fixed_parts)

-- at b no car can stand half in the area: an end of the row, or a border of the area
abbrev cut : Instruction → ℕ → Bool
cut i zero = true
cut i (suc b) = eqb b 19 || not (beq (elem b (area_of i)) (elem (suc b) (area_of i)))

abbrev whole_in : Instruction → List ℕ → Bool
whole_in i ks =
    let a = get_or ks 0 0 in
    let n = length ks in
    same ks (from a n) && (leb (a + n) 20 && (cut i a && cut i (a + n)))

-- fewer cars pass the test too
abbrev falls : Instruction → Test → Bool
falls i (fact b) = true
falls i (set ks) = inside fixed_parts ks
falls i (exactly zero ks) = all_pass known ks
falls i (exactly (suc n) ks) = inside fixed_parts ks
falls i (even ks) = whole_in i ks
falls i (no t) = reads_in fixed_parts t
falls i (bothTests t u) = falls i t && falls i u
falls i (either t u) = falls i t && falls i u

abbrev all_fall : Instruction → List Test → Bool
all_fall i [] = true
all_fall i (t ∷ ts) = falls i t && all_fall i ts

abbrev falls_gapless : Instruction → Bool
falls_gapless i = cond (gapless i) (all_fall i (conditions i)) true

all_fall_lem : T (everywhere falls_gapless)
unfolding everywhere every
all_fall_lem = tt

-- the parts after an instruction rest on those before it
abbrev parts_alone : Instruction → Bool
parts_alone i = all_pass (λ k. reads_in fixed_parts (found (changes i) k)) fixed_parts

all_alone : T (everywhere parts_alone)
unfolding everywhere every
all_alone = tt

or_cases : {C : Type 0} (a b : Bool) → T (a || b) → (a ≡ true → C) → (a ≡ false → T b → C) → C
or_cases true b t x y = x refl
or_cases false b t x y = y refl t

module _ (f g : Bits) (w : Whole 20 f) (v : Whole 20 g) (F : Fewer f g) where
  -- where fewer cars stand, cars stand
  occupied : (k : ℕ) → T (known k) → f k ≡ true → g k ≡ true
  occupied k t on = split (ltb k 20)
      (λ e. row k (ltb-true k 20 e) on)
      (λ e. or_cases (ltb k 40) (eqb raised_car k || elem k fixed_parts) t
      (λ b. place k e (ap (λ (x : Bool). x || (eqb raised_car k || eqb drive_in k)) b) on)
      (λ b u. or_cases (eqb raised_car k) (elem k fixed_parts) u
      (λ c. place k e (ap (λ (x : Bool). ltb k 40 || (x || eqb drive_in k)) c ∙ or_true (ltb k 40)) on)
      (λ c m. sym (F.parts k m) ∙ on)))
    where
      or_true : (a : Bool) → a || true ≡ true
      or_true true = refl
      or_true false = refl

      place : (k : ℕ) → ltb k 20 ≡ false → ltb k 40 || (eqb raised_car k || eqb drive_in k) ≡ true → f k ≡ true → g k ≡ true
      place k e p on =
          (both (ltb k 40 || (eqb raised_car k || eqb drive_in k)) (g k)
          (sym (bears_place g k e) ∙ F.cars k (bears_place f k e ∙ and_intro p on))).1

      row : (k : ℕ) → k < 20 → f k ≡ true → g k ≡ true
      row k h on = split (eqb (below f k % 2) 0)
          (λ e. (both (g k) (eqb (below g k % 2) 0)
          (sym (bears_row g k (lt-ltb k 20 h)) ∙ F.cars k (bears_row f k (lt-ltb k 20 h) ∙ and_intro on e))).0)
          (λ e. second k h (odd (below f k) (eqb-false (below f k % 2) 0 e)))
        where
          odd : (x : ℕ) → (x % 2 ≡ 0 → ⊥) → x % 2 ≡ 1
          odd x n = omega arith

          second : (k : ℕ) → k < 20 → below f k % 2 ≡ 1 → g k ≡ true
          second zero h o = absurd (omega arith)
          second (suc j) h o =
              (v (suc j) (omega arith) (bears_odd g j (omega arith) (F.cars j (odd_bears f w j (omega arith) o)))).1

  fewer_counted : (ks : List ℕ) → T (all_pass known ks) → count ks f ≤ count ks g
  fewer_counted [] t = omega arith
  fewer_counted (k ∷ ks) t =
      omega (arith, fewer_counted ks (and_r (known k) _ t), digits (f k) (g k) (occupied k (and_l (known k) _ t)))
    where
      digits : (a b : Bool) → (a ≡ true → b ≡ true) → digit a ≤ digit b
      digits true b h = omega (arith, ap digit (h refl))
      digits false b h = omega arith

  module _ (i : Instruction) (s : Sound g) (ok : allowed i g ≡ true) where
    -- no car of g stands half in the area, so none of f does
    not_torn : (c : ℕ) → c < 20 → bears f c ≡ true → elem c (area_of i) ≡ elem (suc c) (area_of i)
    unfolding area
    not_torn c h b =
        let (x, m, a) = bears_car g s.layout.0 s.layout.1 c (λ e. omega arith) (F.cars c b) in
        none_torn i g s ok s.layout.0 (inl s.layout.1) c (is_pair x a (stands s.layout.0 x s.layout.1.stand m) m)
      where
        is_pair : (x : Car) → anchor x ≡ c → Stands x → Among x s.layout.0 → Among (pair c) s.layout.0
        is_pair (pair d) a z m = subst (λ (d : ℕ). Among (pair d) s.layout.0) a m
        is_pair (single d) a z m = absurd (omega (arith, z.0))
        is_pair raised a z m = absurd (omega arith)

    even_at : (b : ℕ) → b ≤ 20 → T (cut i b) → below f b % 2 ≡ 0
    even_at zero h t = refl
    even_at (suc c) h t = even (below f (suc c)) (λ o. or_cases (eqb c 19) (not (beq (elem c (area_of i)) (elem (suc c) (area_of i)))) t
        (λ e. let z = eqb-true c 19 e in omega (arith, (w (suc c) h o).0))
        (λ e u. differ (elem c (area_of i)) (elem (suc c) (area_of i)) (not_torn c (omega arith) (odd_bears f w c (omega arith) o)) u))
      where
        even : (x : ℕ) → (x % 2 ≡ 1 → ⊥) → x % 2 ≡ 0
        even x n = omega arith

        differ : (a b : Bool) → a ≡ b → T (not (beq a b)) → ⊥
        differ true true e t = absurd t
        differ true false e t = clash refl e
        differ false true e t = clash e refl
        differ false false e t = absurd t

    even_in : (ks : List ℕ) → T (whole_in i ks) → count ks f % 2 ≡ 0
    even_in ks t =
        let a = get_or ks 0 0 in
        let n = length ks in
        let u = and_r (same ks (from a n)) _ t in
        let b = leb→le (a + n) 20 (and_l (leb (a + n) 20) _ u) in
        let c = and_r (leb (a + n) 20) _ u in
        let e = same_eq ks (from a n) (and_l (same ks (from a n)) _ t) in
        ap (λ (l : List ℕ). count l f % 2) e
        ∙ omega (arith, count_from f n a, even_at a (omega arith) (and_l (cut i a) _ c), even_at (a + n) b (and_r (cut i a) _ c))

    holds_down : (t : Test) → T (falls i t) → holds t g ≡ true → holds t f ≡ true
    holds_down (fact b) t h = h
    holds_down (set ks) t h = set_agree ks f g (λ k m. F.parts k (inside_at fixed_parts ks t k m)) ∙ h
    holds_down (exactly zero ks) t h =
        eq-eqb (count ks f) 0 (omega (arith, fewer_counted ks t, eqb-true (count ks g) 0 h))
    holds_down (exactly (suc n) ks) t h =
        ap (λ (x : ℕ). eqb x (suc n)) (count_agree ks f g (λ k m. F.parts k (inside_at fixed_parts ks t k m))) ∙ h
    holds_down (even ks) t h = eq-eqb (count ks f % 2) 0 (even_in ks t)
    holds_down (no u) t h = ap not (holds_agree fixed_parts f g F.parts u t) ∙ h
    holds_down (bothTests u r) t h =
        let (a, b) = both (holds u g) (holds r g) h in
        and_intro (holds_down u (and_l (falls i u) _ t) a) (holds_down r (and_r (falls i u) _ t) b)
    holds_down (either u r) t h = ⊎_elim
        (λ (a : holds u g ≡ true). left (holds u f) (holds r f) (holds_down u (and_l (falls i u) _ t) a))
        (λ (a : holds r g ≡ true). right (holds u f) (holds r f) (holds_down r (and_r (falls i u) _ t) a))
        (one_of (holds u g) (holds r g) h)
      where
        left : (a b : Bool) → a ≡ true → a || b ≡ true
        left true b e = refl
        left false b e = clash e refl

        right : (a b : Bool) → b ≡ true → a || b ≡ true
        right true b e = refl
        right false b e = e

    all_down : (ts : List Test) → T (all_fall i ts) → all_hold ts g ≡ true → all_hold ts f ≡ true
    all_down [] t h = refl
    all_down (u ∷ ts) t h =
        let (a, b) = both (holds u g) (all_hold ts g) h in
        and_intro (holds_down u (and_l (falls i u) _ t) a) (all_down ts (and_r (falls i u) _ t) b)

    -- so it is allowed with fewer cars
    allowed_down : allowed i f ≡ true
    unfolding allowed
    allowed_down =
        let (well, hold) = fine i g s ok in
        and_intro well (all_down (conditions i)
        (under (gapless i) (all_fall i (conditions i)) (T→true (gapless i) (is_gapless i g (true→T hold)))
        (each falls_gapless all_fall_lem i (true→T well))) hold)

-- ---- one instruction, and several

module _ (i : Instruction) (f g : Bits) (r : Sound f) (s : Sound g) (F : Fewer f g) (ok : allowed i g ≡ true) where
  abbrev ok_f : allowed i f ≡ true
  ok_f = allowed_down f g (whole f r) (whole g s) F i s ok

  next_parts : (k : ℕ) → T (elem k fixed_parts) → next_record i f k ≡ next_record i g k
  unfolding next_record
  next_parts k m =
      found_law (changes i) f k
      ∙ holds_agree fixed_parts f g F.parts (found (changes i) k)
      (pass_at (λ k. reads_in fixed_parts (found (changes i) k)) fixed_parts (each parts_alone all_alone i (true→T (fine i g s ok).0)) k m)
      ∙ sym (found_law (changes i) g k)

  next_cars : (k : ℕ) → bears (next_record i f) k ≡ true → bears (next_record i g) k ≡ true
  next_cars k b =
      let low = holds_agree fixed_parts f g F.parts at_basement tt in
      (follows i g s ok).there k
      ∙ rise (source (takings i (holds at_basement g)) k)
      (ap (λ (x : Bool). comes (bears f) (source (takings i x) k)) (sym low) ∙ sym ((follows i f r ok_f).there k) ∙ b)
    where
      rise : (j : ℕ) → comes (bears f) j ≡ true → comes (bears g) j ≡ true
      rise j = go (eqb j no_source)
        where
          go : (x : Bool) → cond x false (bears f j) ≡ true → cond x false (bears g j) ≡ true
          go true e = e
          go false e = F.cars j e

  pub next_fewer : Fewer (next_record i f) (next_record i g)
  next_fewer = record { cars = next_cars; parts = next_parts }

  clear_down : Clear i g → Clear i f
  clear_down (inl e) = inl (holds_agree fixed_parts f g F.parts under_way tt ∙ e)
  clear_down (inr e) = inr e

-- moves go as they are with fewer cars
pub moves_down : (is : List Instruction) (f g : Bits) → Sound f → Sound g → Fewer f g → Moves is g
    → Moves is f × Fewer (record_after is f) (record_after is g)
unfolding Moves record_after
moves_down [] f g r s F m = (tt, F)
moves_down (i ∷ is) f g r s F m =
    let ok = allowed_down f g (whole f r) (whole g s) F i s m.0 in
    let c = clear_down i f g r s F m.0 m.1 in
    let (n, G) = moves_down is (next_record i f) (next_record i g) (stays_sound i f r c ok) (stays_sound i g s m.1 m.0)
    (next_fewer i f g r s F m.0) m.2 in
    ((ok, c, n), G)
