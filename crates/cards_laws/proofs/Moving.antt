-- Each car goes where the instruction takes it, with its number: the place to which a car's number goes is the car's new anchor, computed
-- at every well-formed instruction and every car. Assumes nothing.
use mathlib.Core.Path.{◌≡◌, refl, sym, ap, subst, ◌∙◌}
use mathlib.Core.Bool.{Bool, true, false, cond, not, ◌&&◌, ◌||◌}
use mathlib.Core.List.{List, []}
use Prim.Native.Nat.{ℕ, ◌+◌, ◌-◌}
use native.Mathlib.Omega.{arith}
use lib.Dec.{T, eqb, ltb, leb, eqb→eq, ltb→lt, leb→le}
use borrow.Author.Tests.{eqb-true, eqb-false, eq-eqb, lt-ltb, le-leb}
use Rattle.bits.specs.Bits.{Bits, count}
use Rattle.bits.specs.Search.{every}
use Rattle.bits.proofs.Cases.{split, clash, off, and_l, and_r, and_T, and_intro, under, T→true, true→T}
use Rattle.bits.proofs.Counts.{count_zero}
use Rattle.bits.proofs.Search.{each as each_below}
use Rattle.floor.specs.Floor.{lift_cells, drive_in}
use Rattle.floor.specs.Tests.{holds, free, all_hold, at_basement}
use Rattle.floor.specs.Cars.{Car, pair, single, raised, Stands}
use Rattle.floor.specs.Sound.{Sound, sound_rules}
use Rattle.floor.proofs.Reading.{nth_holds}
use Rattle.cars.specs.Lists.{anchor, Among}
use Rattle.rules.specs.declared.Instruction.{Instruction}
use Rattle.rules.specs.declared.Instruction.TheVariants.{Belts, Shuttles, Tilt, Lift, Rotate}
use Rattle.rules.specs.Rules.{well_formed, allowed, next_record}
use Rattle.rules.proofs.Every.{everywhere, each}
use Rattle.cards.specs.Given.{bears}
use Rattle.cards.specs.Following.{no_source, lift_number_at, Taking, takings, number_at, numbers_after, car_moved}
use Rattle.cards.specs.Private.{source}
use Rattle.cards.proofs.Takings.{taken_source}
use Rattle.cards_laws.specs.Statements.{OneLayout, EmptyGarage, NumbersFollowed, Brought, OnlyThese}
use Rattle.cards_laws.proofs.Anchors.{comes, free_none, stands, car_bears, bears_car, cards_marked}
use Rattle.cards_laws.proofs.Sources.{back, way_back_lem, one_source, one_to_one_lem, drive_stays, drive_kept}
use Rattle.cards_laws.proofs.Others.{gapless, is_gapless}
use Rattle.cards_laws.proofs.Laws.{fine, follows, next_layout, next_marked}

-- ---- a car by its anchor

-- an anchor in row 1 is a pair's, one in rows 2 and 3 a single's
abbrev kind : Car → Bool
kind (pair c) = ltb c 20
kind (single c) = leb 20 c && ltb c 40
kind raised = true

same_car : (y x : Car) → Stands y → T (kind x) → anchor y ≡ anchor x → y ≡ x
same_car (pair b) (pair c) s k e = ap pair e
same_car (pair b) (single c) s k e = absurd (omega (arith, leb→le 20 c (and_l (leb 20 c) (ltb c 40) k)))
same_car (pair b) raised s k e = absurd (omega arith)
same_car (single b) (pair c) s k e = absurd (omega (arith, s.0, ltb→lt c 20 k))
same_car (single b) (single c) s k e = ap single e
same_car (single b) raised s k e = absurd (omega (arith, s.1))
same_car raised (pair c) s k e = absurd (omega (arith, ltb→lt c 20 k))
same_car raised (single c) s k e = absurd (omega (arith, ltb→lt c 40 (and_r (leb 20 c) (ltb c 40) k)))
same_car raised raised s k e = refl

stands_kind : (x : Car) → Stands x → T (kind x)
stands_kind (pair c) s = true→T (lt-ltb c 20 (omega arith))
stands_kind (single c) s = and_T (leb 20 c) (ltb c 40) (true→T (le-leb 20 c s.0)) (true→T (lt-ltb c 40 s.1))
stands_kind raised s = tt

-- no car has its anchor where a number waits
not_waiting : (x : Car) → T (kind x) → anchor x ≡ drive_in → ⊥
not_waiting (pair c) k e = omega (arith, ltb→lt c 20 k)
not_waiting (single c) k e = omega (arith, ltb→lt c 40 (and_r (leb 20 c) (ltb c 40) k))
not_waiting raised k e = omega arith

pub one_layout : OneLayout
one_layout f l m y z x a =
    let k = stands_kind x (stands l x y.stand a) in
    let (b, c, e) = bears_car f m z (anchor x) (not_waiting x k) (car_bears f l y x a) in
    subst (λ (v : Car). Among v m) (same_car b x (stands m b z.stand c) k e) c

pub empty_garage : EmptyGarage
unfolding Among
empty_garage f y idle l z =
    let none_comes : f drive_in ≡ false = idle in
    record {
      each = λ x a. absurd (one_layout f l [] z y x a);
      coming = (λ e. none_comes, λ e. refl);
      other = λ k n o. refl;
      once = λ j k e n. absurd (n refl);
    }

-- ---- computed at every car

-- no car is on the lift's cells of a raised lift
abbrev away : Instruction → Bool → ℕ → Bool
away (Belts row mask toward size) low k = false
away (Shuttles side mask orientation toward) low k = false
away (Tilt side row orientation) low k = false
away (Lift height) low k = not low && eqb lift_number_at k
away Rotate low k = false

-- a place whose number goes somewhere: the car there goes to that place
abbrev goes_right : Instruction → Bool → Car → Bool
goes_right i low x =
    let ts = takings i low in
    let to = source (back ts) (anchor x) in
    cond (eqb (source ts to) (anchor x) && not (away i low (anchor x))) (eqb (anchor (car_moved i x)) to && kind (car_moved i x)) true

abbrev cars_right : Instruction → Bool → Bool
cars_right i low = every 19 (λ c. goes_right i low (pair c)) && (every 20 (λ c. goes_right i low (single (20 + c))) && goes_right i low raised)

abbrev all_right : Instruction → Bool
all_right i = cond (gapless i) (cars_right i true && cars_right i false) true

all_right_lem : T (everywhere all_right)
unfolding everywhere every source
all_right_lem = tt

module _ (i : Instruction) (w : T (well_formed i)) (p : T (gapless i)) (low : Bool) where
  cars_right_lem : T (cars_right i low)
  cars_right_lem = go low (under (gapless i) _ (T→true (gapless i) p) (each all_right all_right_lem i w))
    where
      go : (low : Bool) → T (cars_right i true && cars_right i false) → T (cars_right i low)
      go true t = and_l (cars_right i true) (cars_right i false) t
      go false t = and_r (cars_right i true) (cars_right i false) t

  abbrev singles_right : Bool
  singles_right = every 20 (λ c. goes_right i low (single (20 + c)))

  others_right : T (singles_right && goes_right i low raised)
  others_right = and_r (every 19 (λ c. goes_right i low (pair c))) _ cars_right_lem

  car_right : (x : Car) → Stands x → T (goes_right i low x)
  car_right (pair c) s = each_below 19 (λ c. goes_right i low (pair c)) (and_l (every 19 (λ c. goes_right i low (pair c))) _ cars_right_lem) c s
  car_right (single c) s =
      let e : 20 + (c - 20) ≡ c = omega (arith, s.0) in
      subst (λ (x : ℕ). T (goes_right i low (single x))) e
      (each_below 20 (λ c. goes_right i low (single (20 + c)))
      (and_l singles_right (goes_right i low raised) others_right) (c - 20) (omega (arith, s.0, s.1)))
  car_right raised s = and_r singles_right (goes_right i low raised) others_right

-- ---- what the rules of a sound record say

module _ (f : Bits) (r : T (all_hold sound_rules f)) (k : ℕ) (e : bears f k ≡ true) where
  lift_away : (low : Bool) → holds at_basement f ≡ low → not low && eqb lift_number_at k ≡ false
  lift_away true q = refl
  lift_away false q = off (eqb lift_number_at k) (λ t.
      let z : holds (free lift_cells) f ≡ true = one_of (holds (free lift_cells) f) (holds at_basement f) q (nth_holds f sound_rules r 6) in
      clash (ap (bears f) (eqb-true lift_number_at k t) ∙ e) (free_none f lift_number_at (count_zero lift_cells f (eqb-true (count lift_cells f) 0 z) lift_number_at tt)))
    where
      one_of : (a b : Bool) → b ≡ false → T (a || b) → a ≡ true
      one_of true b o t = refl
      one_of false b o t = clash (T→true b t) o

  not_away : (i : Instruction) → away i (holds at_basement f) k ≡ false
  not_away (Belts row mask toward size) = refl
  not_away (Shuttles side mask orientation toward) = refl
  not_away (Tilt side row orientation) = refl
  not_away (Lift height) = lift_away (holds at_basement f) refl
  not_away Rotate = refl

-- ---- each number follows its car

module _ (i : Instruction) (f : Bits) (s : Sound f) (ok : allowed i f ≡ true) where
  abbrev low : Bool
  low = holds at_basement f

  abbrev ts : List Taking
  ts = takings i low

  well : T (well_formed i)
  well = true→T (fine i f s ok).0

  -- the way back leads from a car's anchor to its new one
  leads : (x : Car) → Stands x → bears f (anchor x) ≡ true → (source ts (anchor (car_moved i x)) ≡ anchor x) × T (kind (car_moved i x))
  leads x t e =
      let (j, q) = (follows i f s ok).goes (anchor x) e in
      let there : (anchor x ≡ no_source → ⊥) = λ z. clash e (ap (bears f) z) in
      let back_to : source (back ts) (anchor x) ≡ j = ap (source (back ts)) (sym q) ∙ way_back_lem ts (one_to_one_lem i well low) j (λ z. there (sym q ∙ z)) in
      let comes_from : source ts (source (back ts) (anchor x)) ≡ anchor x = ap (source ts) back_to ∙ q in
      let test : T (eqb (anchor (car_moved i x)) (source (back ts) (anchor x)) && kind (car_moved i x)) =
      under (eqb (source ts (source (back ts) (anchor x))) (anchor x) && not (away i low (anchor x))) _
      (and_intro (eq-eqb _ (anchor x) comes_from) (ap not (not_away f (true→T s.rules) (anchor x) e i)))
      (car_right i well (is_gapless i f (true→T (fine i f s ok).1)) low x t) in (
        ap (source ts) (eqb→eq _ _ (and_l (eqb (anchor (car_moved i x)) (source (back ts) (anchor x))) (kind (car_moved i x)) test)) ∙ comes_from,
        and_r (eqb (anchor (car_moved i x)) (source (back ts) (anchor x))) (kind (car_moved i x)) test,
      )

pub followed : NumbersFollowed
unfolding numbers_after
followed i f n s ok l m y z x a =
    let e = car_bears f l y x a in
    let ts = takings i (holds at_basement f) in
    let (from, right) = leads i f s ok x (stands l x y.stand a) e in
    let new : bears (next_record i f) (anchor (car_moved i x)) ≡ true =
    (follows i f s ok).there (anchor (car_moved i x)) ∙ ap (comes (bears f)) from ∙ there (bears f) (anchor x) false e ∙ e in
    let (b, c, d) = bears_car (next_record i f) m z (anchor (car_moved i x)) (not_waiting (car_moved i x) right) new in (
      subst (λ (v : Car). Among v m) (same_car b (car_moved i x) (stands m b z.stand c) right d) c,
      taken_source ts n (anchor (car_moved i x)) (λ q. clash new (ap (bears (next_record i f)) q)) ∙ ap (number_at n) from ∙ there n (anchor x) 0 e,
    )
  where
    -- an anchor is a place
    there : {A : Type 0} (h : ℕ → A) (k : ℕ) (none : A) → bears f k ≡ true → cond (eqb k no_source) none (h k) ≡ h k
    there h k none e = split (eqb k no_source) (λ t. clash e (ap (bears f) (eqb-true k no_source t))) (λ t. rw t)

-- every car came from one
pub brought : Brought
brought i f s ok l m y z b a =
    let ts = takings i (holds at_basement f) in
    let new = car_bears (next_record i f) m z b a in
    let old : comes (bears f) (source ts (anchor b)) ≡ true = sym ((follows i f s ok).there (anchor b)) ∙ new in
    split (eqb (source ts (anchor b)) no_source)
    (λ t. clash (rw t at old) refl)
    (λ t.
    let e : bears f (source ts (anchor b)) ≡ true = rw t at old in
    let w = (fine i f s ok).0 in
    let one = one_source ts (one_to_one_lem i (true→T w) (holds at_basement f)) in
    let come = eqb-false (source ts (anchor b)) no_source t in
    let away : source ts (anchor b) ≡ drive_in → ⊥ = λ q.
    not_waiting b (stands_kind b (stands m b z.stand a)) (one (anchor b) drive_in (q ∙ sym (drive_stays i w (holds at_basement f))) come) in
    let (x, among, at) = bears_car f l y (source ts (anchor b)) away e in
    let (from, right) = leads i f s ok x (stands l x y.stand among) (ap (bears f) at ∙ e) in
    let same : anchor b ≡ anchor (car_moved i x) = one (anchor b) (anchor (car_moved i x)) (sym (from ∙ at)) come in
    (x, among, sym (same_car b (car_moved i x) (stands m b z.stand a) right same)))

pub only_these : OnlyThese
only_these i f n m s ok cards after same waits k =
    let (l, y) = s.layout in
    let (u, z) = next_layout i f s ok in
    let M = cards_marked (next_record i f) m u z after in
    let N = next_marked i f s ok n cards in
    split (eqb drive_in k)
    (λ t.
    let here = eqb-true drive_in k t in
    ap m (sym here) ∙ waits ∙ sym (drive_kept i f n (fine i f s ok).0) ∙ ap (numbers_after i f n) here)
    (λ t. split (bears (next_record i f) k)
    (λ e.
    let (b, a, p) = bears_car (next_record i f) u z k (λ q. eqb-false drive_in k t (sym q)) e in
    let (x, q, r) = brought i f s ok l u y z b a in
    let there : anchor (car_moved i x) ≡ k = ap anchor r ∙ p in
    ap m (sym there) ∙ same l y x q ∙ sym (followed i f n s ok l u y z x q).1 ∙ ap (numbers_after i f n) there)
    (λ e. M.none k e ∙ sym (N.none k e)))
