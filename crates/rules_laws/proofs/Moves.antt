-- An allowed instruction keeps row 1 of a sound record whole, and the number of cars. Assumes nothing.
use mathlib.Core.Path.{◌≡◌, refl, sym, ap, ap₂, subst, ◌∙◌}
use mathlib.Core.Bool.{Bool, true, false, cond, not, ◌&&◌, ◌||◌}
use mathlib.Core.List.{[], ◌∷◌, ◌++◌}
use Prim.Native.Nat.{ℕ, zero, suc, ◌+◌, ◌*◌, ◌/◌, ◌%◌, ◌<◌}
use native.Mathlib.Omega.{arith}
use lib.Dec.{T, eqb, leb, eqb→eq, leb→le}
use borrow.Author.Tests.{eq-eqb, ne_eqb}
use Rattle.bits.specs.Bits.{Bits, digit, count}
use Rattle.bits.specs.Places.{from, elem}
use Rattle.bits.proofs.Cases.{split, clash, and_l, and_r, and_T, true→T}
use Rattle.bits.proofs.Counts.{count_append, count_zero}
use Rattle.floor.specs.Floor.{row_cells, raised_car, lift_cells, left_of_lift, right_of_lift}
use Rattle.floor.specs.Tests.{Test, free, even, both, holds, all_hold, at_basement, changed}
use Rattle.floor.specs.Cars.{cars}
use Rattle.floor.specs.Sound.{sound_rules}
use Rattle.floor.proofs.Reading.{nth_holds}
use Rattle.floor.proofs.Rows.{below, Whole, count_from}
use Rattle.rules.specs.declared.Instruction.{Instruction}
use Rattle.rules.specs.declared.Instruction.TheVariants.{Belts, Shuttles, Tilt, Lift, Rotate}
use Rattle.rules.specs.Named.{cells}
use Rattle.rules.specs.Rules.{belts_named, well_formed, conditions, changes}
use Rattle.rules_laws.proofs.BeltMove.{Carried, belts_carried}
use Rattle.rules_laws.proofs.Pair.{same_digit, whole_even, PairKept, pair_kept, row_kept}
use Rattle.rules_laws.proofs.Tried.{targets, not_target}
use Rattle.rules_laws.proofs.CarsKept.{singles, other, pair_at, known, touches, pair, in_row_lem, left_alone, pair_before, pair_after, same_weight}

-- what an instruction keeps
pub record Safe (f g : Bits) : Type 0 where
  pub whole : Whole 20 g
  pub same : cars g ≡ cars f

-- ---- the number of cars by counts

-- two records with the same count of row 1, of rows 2 and 3, and the same on the raised lift
pub cars_same : (f g : Bits) → count (row_cells 1) g ≡ count (row_cells 1) f → count (row_cells 2 ++ row_cells 3) g ≡ count (row_cells 2 ++ row_cells 3) f → g raised_car ≡ f raised_car → cars g ≡ cars f
unfolding cars
cars_same f g a b c = ap₂ ◌+◌ (ap₂ (λ (x y : ℕ). x / 2 + y) a b) (ap digit c)

-- the count of a row from its start
pub row_count : (h : Bits) (n : ℕ) → count (from 0 n) h ≡ below h n
row_count h n = let e : 0 + n ≡ n = omega arith in omega (arith, count_from h n 0, ap (below h) e)

-- whole rows with the same weight
cars_weight : (f g : Bits) → Whole 20 f → Whole 20 g → count (row_cells 1) g + 2 * count singles g ≡ count (row_cells 1) f + 2 * count singles f → cars g ≡ cars f
unfolding cars
cars_weight f g w v e =
    halves (count (row_cells 1) g) (count (row_cells 2 ++ row_cells 3) g) (digit (g raised_car)) (count (row_cells 1) f) (count (row_cells 2 ++ row_cells 3) f) (digit (f raised_car))
    (row_even g v) (row_even f w)
    (ap (λ (x : ℕ). count (row_cells 1) g + 2 * x) (sym (parts g)) ∙ e ∙ ap (λ (x : ℕ). count (row_cells 1) f + 2 * x) (parts f))
  where
    parts : (h : Bits) → count singles h ≡ count (row_cells 2 ++ row_cells 3) h + digit (h raised_car)
    parts h = count_append (row_cells 2 ++ row_cells 3) (raised_car ∷ []) h ∙ ap (λ (x : ℕ). count (row_cells 2 ++ row_cells 3) h + x) (omega arith)

    row_even : (h : Bits) → Whole 20 h → count (row_cells 1) h % 2 ≡ 0
    row_even h u = ap (λ (x : ℕ). x % 2) (row_count h 20) ∙ whole_even 20 h u

    halves : (x y z a b c : ℕ) → x % 2 ≡ 0 → a % 2 ≡ 0 → x + 2 * (y + z) ≡ a + 2 * (b + c) → x / 2 + y + z ≡ a / 2 + b + c
    halves x y z a b c p q s = omega arith

-- ---- belts

-- the row and the mask of a well-formed belt move
pub belts_named_lem : (row mask toward size : ℕ) → T (well_formed (Belts row mask toward size)) → T (belts_named row mask)
belts_named_lem row mask toward size w = and_l (belts_named row mask) (leb toward 1) (and_l (belts_named row mask && leb toward 1) (leb size 1) w)

-- an allowed belt move
belts_safe : (row mask toward size : ℕ) (f : Bits) → T (well_formed (Belts row mask toward size)) → T
    (all_hold (conditions (Belts row mask toward size)) f) → Whole 20 f → Safe f (changed (changes (Belts row mask toward size)) f)
belts_safe row mask toward size f w c whole =
    let k = belts_carried row mask toward size f (belts_named_lem row mask toward size w) c in
    record { whole = k.whole whole; same = counted f (changed (changes (Belts row mask toward size)) f) k }
  where
    span : (f g : Bits) (a m : ℕ) → below g a ≡ below f a → below g (a + m) ≡ below f (a + m) → count (from a m) g ≡ count (from a m) f
    span f g a m p q = omega (arith, count_from f m a, count_from g m a)

    counted : (f g : Bits) → Carried (cells row mask) f g → cars g ≡ cars f
    counted f g k = cars_same f g (span f g 0 20 refl k.same20) (span f g 20 20 k.same20 k.same40) k.raised

-- ---- the others

-- the side of a well-formed shuttle move
pub shuttles_side : (side mask orientation toward : ℕ) → T (well_formed (Shuttles side mask orientation toward)) → T (leb side 1)
shuttles_side side mask orientation toward w =
    and_l (leb side 1) (leb mask 7)
    (and_l (leb side 1 && leb mask 7) (leb orientation 1) (and_l (leb side 1 && leb mask 7 && leb orientation 1) (leb toward 1) w))

-- the lift's conditions and the rule that away from the basement its cells are free: they are free, or both sides hold an even number
free_or_even : (b x e : Bool) → T (not b || (x || e)) → T (x || b) → T (x || e)
free_or_even true x e c r = c
free_or_even false true e c r = tt
free_or_even false false e c r = absurd r

module _ (f : Bits) (w : Whole 20 f) where
  -- the lift's cells hold a whole car or none
  abbrev LiftWhole : Type 0
  LiftWhole = (count lift_cells f % 2 ≡ 0) × (below f 11 % 2 ≡ 0)

  -- they are free
  lift_free : count lift_cells f ≡ 0 → LiftWhole
  lift_free z = (ap (λ (x : ℕ). x % 2) z, go (below f 11) (λ o. clash (w 11 (omega arith) o).1 (count_zero lift_cells f z 11 tt)))
    where
      go : (x : ℕ) → (x % 2 ≡ 1 → ⊥) → x % 2 ≡ 0
      go x h = omega arith

  -- the cells on both sides are even in number
  lift_even : count left_of_lift f % 2 ≡ 0 → count right_of_lift f % 2 ≡ 0 → LiftWhole
  lift_even l r = let e = whole_even 20 f w in (omega arith, omega arith)

  -- the lift is allowed to move on one of these grounds
  pub lift_whole : (height : ℕ) → T (all_hold (conditions (Lift height)) f) → T (all_hold sound_rules f) → LiftWhole
  lift_whole height c r =
      go (holds (free lift_cells) f) refl
      (free_or_even (holds at_basement f) (holds (free lift_cells) f) (holds sides f) (nth_holds f (conditions (Lift height)) c 1) (nth_holds f sound_rules r 6))
    where
      sides : Test
      sides = both (even left_of_lift) (even right_of_lift)

      go : (b : Bool) → holds (free lift_cells) f ≡ b → T (b || holds sides f) → LiftWhole
      go true e t = lift_free (eqb→eq (count lift_cells f) 0 (true→T e))
      go false e t =
          lift_even (eqb→eq (count left_of_lift f % 2) 0 (and_l (holds (even left_of_lift) f) (holds (even right_of_lift) f) t))
          (eqb→eq (count right_of_lift f % 2) 0 (and_r (holds (even left_of_lift) f) (holds (even right_of_lift) f) t))

  -- below a shuttle's pair the number of occupied cells is even
  shuttle_even : (side : ℕ) → T (leb side 1) → f (side * 18) ≡ f (suc (side * 18)) → below f (side * 18) % 2 ≡ 0
  shuttle_even zero t p = refl
  shuttle_even (suc zero) t p = let e = whole_even 20 f w in omega (arith, ap digit p)
  shuttle_even (suc (suc side)) t p = absurd (omega (arith, leb→le (suc (suc side)) 1 t))

  -- what the trial asks for, and an even number below a whole pair
  abbrev pub Ready : Instruction → Type 0
  Ready i = T (all_hold (known i) f) × (f (pair_at i) ≡ f (suc (pair_at i)) → below f (pair_at i) % 2 ≡ 0)

  pub ready : (i : Instruction) → T (well_formed i) → T (all_hold (conditions i) f) → T (all_hold sound_rules f) → Ready i
  ready (Belts row mask toward size) v c r = (tt, λ p. refl)
  ready (Shuttles side mask orientation toward) v c r = (tt, shuttle_even side (shuttles_side side mask orientation toward v))
  ready (Tilt side row orientation) v c r = (tt, λ p. refl)
  ready (Lift height) v c r =
      let l = lift_whole height c r in
      (and_T (holds (even lift_cells) f) true (true→T (eq-eqb (count lift_cells f % 2) 0 l.0)) tt, λ p. l.1)
  ready Rotate v c r = (tt, λ p. refl)

-- the two cells of the pair, where it is changed
pub pair_cells : (i : Instruction) (f : Bits) → touches i ≡ true → T (all_hold (pair i) f) → f (pair_at i) ≡ f (suc (pair_at i))
pair_cells i f e t = go (touches i) e t
  where
    a : ℕ
    a = pair_at i

    go : (b : Bool) → b ≡ true → T (all_hold (cond b (even (a ∷ suc a ∷ []) ∷ []) []) f) → f a ≡ f (suc a)
    go true e t =
        same_digit (f a) (f (suc a)) (omega (arith, eqb→eq (count (a ∷ suc a ∷ []) f % 2) 0 (and_l (holds (even (a ∷ suc a ∷ [])) f) true t)))
    go false e t = clash e refl

-- a cell that is neither of the pair's is not changed, nor any where the pair isn't
pub alone : (e t x : Bool) → T (not e || (t && x)) → (t ≡ true → x ≡ false) → e ≡ false
alone false t x l h = refl
alone true true x l h = absurd (subst T (h refl) l)
alone true false x l h = absurd l

-- an allowed instruction other than belts
pub other_kept : (i : Instruction) → other i ≡ true
    → (f : Bits) → T (well_formed i) → T (all_hold (conditions i) f) → T (all_hold sound_rules f) → Whole 20 f → PairKept 20 (pair_at i) f (changed (changes i) f)
other_kept i o f v c r w = split (touches i)
    (λ e.
    let p = pair_cells i f e (pair_before i v o f known_holds.0 c r) in
    pair_kept 20 a f g
    (λ k l x y. unchanged k l (λ t. ap₂ ◌||◌ (ne_eqb a k (λ q. x (sym q))) (ne_eqb (suc a) k (λ q. y (sym q)))))
    p (pair_cells i g e (pair_after i v o f known_holds.0 c r)) (in_row_lem i v o) (known_holds.1 p) w)
    (λ e. row_kept 20 a f g (λ k l. unchanged k l (λ t. clash t e)) w)
  where
    g : Bits
    g = changed (changes i) f

    a : ℕ
    a = pair_at i

    known_holds : Ready f w i
    known_holds = ready f w i v c r

    unchanged : (k : ℕ) → k < 20 → (touches i ≡ true → eqb a k || eqb (suc a) k ≡ false) → g k ≡ f k
    unchanged k l h = not_target (changes i) f k (alone (elem k (targets (changes i))) (touches i) (eqb a k || eqb (suc a) k) (left_alone i v o k l) h)

other_safe : (i : Instruction) → other i ≡ true → (f : Bits) → T (well_formed i) → T (all_hold (conditions i) f) → T (all_hold sound_rules f) → Whole 20 f → Safe f (changed (changes i) f)
other_safe i o f v c r w =
    let whole = (other_kept i o f v c r w).whole in
    record { whole = whole; same = cars_weight f (changed (changes i) f) w whole (same_weight i v o f (ready f w i v c r).0 c r) }

-- every allowed instruction
pub safe : (i : Instruction) (f : Bits) → T (well_formed i) → T (all_hold (conditions i) f) → T (all_hold sound_rules f) → Whole 20 f → Safe f (changed (changes i) f)
safe (Belts row mask toward size) f v c r w = belts_safe row mask toward size f v c w
safe (Shuttles side mask orientation toward) f v c r w = other_safe (Shuttles side mask orientation toward) refl f v c r w
safe (Tilt side row orientation) f v c r w = other_safe (Tilt side row orientation) refl f v c r w
safe (Lift height) f v c r w = other_safe (Lift height) refl f v c r w
safe Rotate f v c r w = other_safe Rotate refl f v c r w
