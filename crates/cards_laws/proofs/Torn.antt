-- No car stands half in the area of an allowed instruction: at each border of the area in row 1 the number of occupied cells below is even,
-- before and after. For belts that is their even count and their free end, for the lift and for shuttles the pair that they change, else a
-- free cell. Assumes nothing.
use mathlib.Core.Path.{◌≡◌, refl, sym, ap, subst, ◌∙◌}
use mathlib.Core.Logic.{⊎_elim}
use mathlib.Core.Bool.{Bool, true, false, cond, not, ◌&&◌, ◌||◌, beq}
use mathlib.Core.List.{List, [], ◌∷◌, ◌++◌}
use Prim.Native.Nat.{ℕ, suc, ◌+◌, ◌-◌, ◌%◌, ◌≤◌, ◌<◌}
use native.Mathlib.Omega.{arith}
use lib.Dec.{T, eqb, leb, eqb→eq, leb→le}
use lib.ListN.{length}
use borrow.Author.Tests.{lt-ltb, eqb-true, eq-eqb, not-true, not-false}
use Rattle.bits.specs.Bits.{Bits, digit, count}
use Rattle.bits.specs.Places.{from, elem, is_empty, adjacent}
use Rattle.bits.specs.Search.{every}
use Rattle.bits.proofs.Cases.{split, clash, both, and_l, and_r, and_intro, under, T→true, true→T, beq→eq}
use Rattle.bits.proofs.Counts.{count_zero}
use Rattle.bits.proofs.Fills.{On}
use Rattle.bits.proofs.Lists.{same, same_eq}
use Rattle.bits.proofs.Search.{each as each_below}
use Rattle.bits.proofs.Sharing.{all_pass, pass_at}
use Rattle.floor.specs.Floor.{lowered, slot, place, turning_cells}
use Rattle.floor.specs.Tests.{even, when, holds, all_hold, changed}
use Rattle.floor.specs.Cars.{Car, pair, Layout}
use Rattle.floor.specs.Sound.{Sound, sound_rules}
use Rattle.floor.proofs.Reading.{inside, inside_at, nth_holds}
use Rattle.floor.proofs.Rows.{below, Whole, count_from, whole_iff_paired}
use Rattle.floor.proofs.Promises.{layout_exactly}
use Rattle.cars.specs.Lists.{Among}
use Rattle.rules.specs.declared.Instruction.{Instruction}
use Rattle.rules.specs.declared.Instruction.TheVariants.{Belts, Shuttles, Tilt, Lift, Rotate}
use Rattle.rules.specs.Named.{higher, cells, step, end}
use Rattle.rules.specs.Rules.{well_formed, area_of, area, conditions, changes, allowed, next_record}
use Rattle.rules.proofs.Every.{everywhere, each}
use Rattle.rules_laws.proofs.BeltMove.{besides, belts_carried}
use Rattle.rules_laws.proofs.CarsKept.{other, pair_at, touches}
use Rattle.rules_laws.proofs.Moves.{belts_named_lem, other_kept}
use Rattle.rules_laws.proofs.RulesKept.{both_lists}
use Rattle.rules_laws.proofs.Tried.{tried, tried_law}
use Rattle.cards.specs.Following.{first_place}
use Rattle.cards_laws.specs.Statements.{NoneTorn}
use Rattle.cards_laws.proofs.Anchors.{bears_row, stands, car_bears}
use Rattle.cards_laws.proofs.Sources.{or_else}
use Rattle.cards_laws.proofs.Others.{gapless, is_gapless, all_same, pf, ev_f}
use Rattle.cards_laws.proofs.Laws.{fine}

-- of cell b and the next one is in the area, the other isn't
abbrev border : Instruction → ℕ → Bool
border i b = not (beq (elem b (area_of i)) (elem (suc b) (area_of i)))

-- an even number of occupied cells is below a free cell, and below the one after it
module _ (f : Bits) (w : Whole 20 f) (k : ℕ) (h : k ≤ 20) (e : f k ≡ false) where
  even_at : below f k % 2 ≡ 0
  even_at = go (below f k) (λ o. clash (w k h o).1 e)
    where
      go : (x : ℕ) → (x % 2 ≡ 1 → ⊥) → x % 2 ≡ 0
      go x n = omega arith

  even_past : below f (suc k) % 2 ≡ 0
  even_past = omega (arith, even_at, ap digit e)

-- ---- belts

module _ (row mask toward size : ℕ) where
  abbrev i : Instruction
  i = Belts row mask toward size

  abbrev cs : List ℕ
  cs = cells row mask

  abbrev n : ℕ
  n = length cs

  abbrev a : ℕ
  a = first_place cs

  -- the last cell toward d
  abbrev head : ℕ
  head = cond (higher toward) (a + n - 1) a

  -- in row 1 the cells are a span whose head is to be free; a border is at one of its ends
  abbrev spanned : Bool
  spanned = same cs (from a n) && (elem head (end toward (step row size) cs) && (leb 1 n && leb (a + n) 20))

  abbrev at_end : ℕ → Bool
  at_end b = eqb row 1 && ((eqb a (suc b) || eqb (a + n) (suc b)) && besides (suc b) cs)

  abbrev span_test : Bool
  span_test = cond (eqb row 1) spanned true

  abbrev border_test : ℕ → Bool
  border_test b = cond (border i b) (at_end b) true

  abbrev belt_right : Bool
  belt_right = cond (not (is_empty cs) && adjacent cs) (span_test && every 19 border_test) true

abbrev right : Instruction → Bool
right (Belts row mask toward size) = belt_right row mask toward size
right (Shuttles side mask orientation toward) = true
right (Tilt side row orientation) = true
right (Lift height) = true
right Rotate = true

all_right_lem : T (everywhere right)
unfolding everywhere every
all_right_lem = tt

module _ (row mask toward size : ℕ) (f : Bits)
    (v : T (well_formed (Belts row mask toward size))) (t : T (all_hold (conditions (Belts row mask toward size)) f)) (w : Whole 20 f)
    (b : ℕ) (h : b < 19) (o : border (Belts row mask toward size) b ≡ true) where
  tests : T (span_test row mask toward size && every 19 (border_test row mask toward size))
  tests =
      let c = nth_holds f (conditions (Belts row mask toward size)) t in
      under (not (is_empty (cells row mask)) && adjacent (cells row mask)) _
      (and_intro (T→true (not (is_empty (cells row mask))) (c 1)) (T→true (adjacent (cells row mask)) (c 2)))
      (each right all_right_lem (Belts row mask toward size) v)

  ends : T (at_end row mask toward size b)
  ends = under (border (Belts row mask toward size) b) (at_end row mask toward size b) o
      (each_below 19 (border_test row mask toward size) (and_r (span_test row mask toward size) _ tests) b h)

  belts_even : below f (suc b) % 2 ≡ 0
  belts_even = at_end_lem (eqb A (suc b)) refl (and_l (eqb A (suc b) || eqb (A + N) (suc b)) (besides (suc b) C) (and_r (eqb row 1) _ ends))
    where
      C : List ℕ
      C = cells row mask

      A : ℕ
      A = first_place C

      N : ℕ
      N = length C

      one : eqb row 1 ≡ true
      one = T→true (eqb row 1) (and_l (eqb row 1) _ ends)

      span : T (spanned row mask toward size)
      span = under (eqb row 1) (spanned row mask toward size) one (and_l (span_test row mask toward size) _ tests)

      rest : T (elem (head row mask toward size) (end toward (step row size) C) && (leb 1 N && leb (A + N) 20))
      rest = and_r (same C (from A N)) _ span

      bounds : (1 ≤ N) × (A + N ≤ 20)
      bounds =
          let l = and_r (elem (head row mask toward size) (end toward (step row size) C)) _ rest in
          (leb→le 1 N (and_l (leb 1 N) (leb (A + N) 20) l), leb→le (A + N) 20 (and_r (leb 1 N) (leb (A + N) 20) l))

      -- the count of the span is even
      counted : count (from A N) f % 2 ≡ 0
      counted =
          ap (λ (l : List ℕ). count l f % 2) (sym (same_eq C (from A N) (and_l (same C (from A N)) _ span)))
          ∙ eqb→eq (count C f % 2) 0
          (subst (λ (x : Bool). T (holds (when x (even C)) f)) one (nth_holds f (conditions (Belts row mask toward size)) t 5))

      free_head : f (head row mask toward size) ≡ false
      free_head =
          count_zero (end toward (step row size) C) f
          (eqb→eq (count (end toward (step row size) C) f) 0 (nth_holds f (conditions (Belts row mask toward size)) t 4))
          (head row mask toward size) (and_l (elem (head row mask toward size) (end toward (step row size) C)) _ rest)

      both_even : (below f A % 2 ≡ 0) × (below f (A + N) % 2 ≡ 0)
      both_even = go (higher toward) free_head
        where
          go : (up : Bool) → f (cond up (A + N - 1) A) ≡ false → (below f A % 2 ≡ 0) × (below f (A + N) % 2 ≡ 0)
          go true e =
              let q : suc (A + N - 1) ≡ A + N = omega (arith, bounds.0) in
              let z : below f (A + N) % 2 ≡ 0 =
              ap (λ (k : ℕ). below f k % 2) (sym q) ∙ even_past f w (A + N - 1) (omega (arith, bounds.1)) e in
              (omega (arith, count_from f N A, counted), z)
          go false e =
              let z = even_at f w A (omega (arith, bounds.1)) e in
              (z, omega (arith, count_from f N A, counted))

      at_end_lem : (x : Bool) → eqb A (suc b) ≡ x → T (x || eqb (A + N) (suc b)) → below f (suc b) % 2 ≡ 0
      at_end_lem true e t = ap (λ (k : ℕ). below f k % 2) (sym (eqb-true A (suc b) e)) ∙ both_even.0
      at_end_lem false e t = ap (λ (k : ℕ). below f k % 2) (sym (eqb→eq (A + N) (suc b) t)) ∙ both_even.1

  belts_same : below (changed (changes (Belts row mask toward size)) f) (suc b) ≡ below f (suc b)
  belts_same =
      (belts_carried row mask toward size f (belts_named_lem row mask toward size v) t).same (suc b)
      (and_r (eqb (first_place (cells row mask)) (suc b) || eqb (first_place (cells row mask) + length (cells row mask)) (suc b)) _
      (and_r (eqb row 1) _ ends))

-- ---- the others

-- cells of the area that are free, and what tells it
abbrev clear : Instruction → List ℕ
clear (Belts row mask toward size) = []
clear (Shuttles side mask orientation toward) = []
clear (Tilt side row orientation) = place side row
clear (Lift height) = []
clear Rotate = turning_cells

abbrev teller : Instruction → List ℕ
teller (Belts row mask toward size) = []
teller (Shuttles side mask orientation toward) = []
teller (Tilt side row orientation) = slot side lowered row ∷ place side row
teller (Lift height) = []
teller Rotate = turning_cells

abbrev all_free : Instruction → Bits → Bits → Bool
all_free i f g = all_pass (λ k. not (f k)) (clear i)

-- a border is at an end of the pair that changes, or a cell beside it is free
abbrev beside_pair : Instruction → ℕ → Bool
beside_pair i b = touches i && (eqb (pair_at i) (suc b) || eqb (suc (suc (pair_at i))) (suc b))

abbrev settled : Instruction → ℕ → Bool
settled i b = not (eqb (suc b) (suc (pair_at i))) && (beside_pair i b || (elem b (clear i) || elem (suc b) (clear i)))

abbrev free_test : Instruction → Bool
free_test i = tried (teller i) [] (conditions i ++ sound_rules) (changes i) (all_free i)

abbrev settled_test : Instruction → ℕ → Bool
settled_test i b = cond (border i b) (settled i b) true

abbrev other_right : Instruction → Bool
other_right i = cond (other i && gapless i) (inside (teller i) (clear i) && (free_test i && every 19 (settled_test i))) true

all_other : T (everywhere other_right)
unfolding everywhere every
all_other = tt

module _ (i : Instruction) (o : other i ≡ true) (f : Bits) (v : T (well_formed i))
    (c : T (all_hold (conditions i) f)) (r : T (all_hold sound_rules f)) (w : Whole 20 f) where
  tested : T (inside (teller i) (clear i) && (free_test i && every 19 (settled_test i)))
  tested = under (other i && gapless i) _ (and_intro o (T→true (gapless i) (is_gapless i f c))) (each other_right all_other i v)

  more : T (free_test i && every 19 (settled_test i))
  more = and_r (inside (teller i) (clear i)) _ tested

  is_clear : (k : ℕ) → T (elem k (clear i)) → f k ≡ false
  is_clear k m = not-true (f k) (T→true (not (f k)) (pass_at (λ k. not (f k)) (clear i)
      (tried_law (teller i) [] (conditions i ++ sound_rules) (changes i) (all_free i) local
      (and_l (free_test i) _ more) f (both_lists f (conditions i) sound_rules c r)) k m))
    where
      local : (f f' g g' : Bits) → On (teller i) f f' → On [] g g' → all_free i f g ≡ all_free i f' g'
      local f f' g g' a b = all_same (λ k. not (f k)) (λ k. not (f' k)) (clear i) (λ k m.
          ap not (a k (inside_at (teller i) (clear i) (and_l (inside (teller i) (clear i)) _ tested) k m)))

  module _ (b : ℕ) (h : b < 19) (e : border i b ≡ true) where
    at : T (settled i b)
    at = under (border i b) (settled i b) e
        (each_below 19 (settled_test i) (and_r (free_test i) _ more) b h)

    other_even : below f (suc b) % 2 ≡ 0
    other_even = split (beside_pair i b)
        (λ t.
        let (u, s) = both (touches i) (eqb (pair_at i) (suc b) || eqb (suc (suc (pair_at i))) (suc b)) t in
        let z = ev_f i o f v c r w u in
        split (eqb (pair_at i) (suc b))
        (λ x. ap (λ (k : ℕ). below f k % 2) (sym (eqb-true (pair_at i) (suc b) x)) ∙ z)
        (λ x.
        let q = eqb→eq (suc (suc (pair_at i))) (suc b) (or_else (eqb (pair_at i) (suc b)) (eqb (suc (suc (pair_at i))) (suc b)) x (true→T s)) in
        ap (λ (k : ℕ). below f k % 2) (sym q) ∙ omega (arith, z, ap digit (pf i o f v c r w u))))
        (λ t.
        let d = or_else (beside_pair i b) (elem b (clear i) || elem (suc b) (clear i)) t (and_r (not (eqb (suc b) (suc (pair_at i)))) _ at) in
        split (elem b (clear i))
        (λ x. even_past f w b (omega arith) (is_clear b (true→T x)))
        (λ x. even_at f w (suc b) (omega arith) (is_clear (suc b) (or_else (elem b (clear i)) (elem (suc b) (clear i)) x d))))

    other_same : below (changed (changes i) f) (suc b) % 2 ≡ below f (suc b) % 2
    other_same = (other_kept i o f v c r w).parity (suc b) (omega arith) (λ q.
        clash (eq-eqb (suc b) (suc (pair_at i)) q)
        (not-true (eqb (suc b) (suc (pair_at i))) (T→true _ (and_l (not (eqb (suc b) (suc (pair_at i)))) _ at))))

-- ---- all

module _ (i : Instruction) (f : Bits) (s : Sound f) (ok : allowed i f ≡ true) (b : ℕ) (h : b < 19) where
  abbrev Even : Instruction → Type 0
  Even i = (below f (suc b) % 2 ≡ 0) × (below (changed (changes i) f) (suc b) % 2 ≡ 0)

  borders : border i b ≡ true → (below f (suc b) % 2 ≡ 0) × (below (next_record i f) (suc b) % 2 ≡ 0)
  unfolding next_record
  borders = go i (true→T (fine i f s ok).0) (true→T (fine i f s ok).1)
    where
      r : T (all_hold sound_rules f)
      r = true→T s.rules

      w : Whole 20 f
      w = (whole_iff_paired f).0 ((layout_exactly f).1 s.layout)

      others : (i : Instruction) → other i ≡ true → T (well_formed i) → T (all_hold (conditions i) f) → border i b ≡ true → Even i
      others i o v c e = let z = other_even i o f v c r w b h e in (z, other_same i o f v c r w b h e ∙ z)

      go : (i : Instruction) → T (well_formed i) → T (all_hold (conditions i) f) → border i b ≡ true → Even i
      go (Belts row mask toward size) v c e =
          let z = belts_even row mask toward size f v c w b h e in
          (z, ap (λ (x : ℕ). x % 2) (belts_same row mask toward size f v c w b h e) ∙ z)
      go (Shuttles side mask orientation toward) v c e = others (Shuttles side mask orientation toward) refl v c e
      go (Tilt side row orientation) v c e = others (Tilt side row orientation) refl v c e
      go (Lift height) v c e = others (Lift height) refl v c e
      go Rotate v c e = others Rotate refl v c e

-- below the second half of a car the number of occupied cells is odd
half_odd : (g : Bits) (l : List Car) (y : Layout g l) (c : ℕ) → Among (pair c) l → below g (suc c) % 2 ≡ 1
half_odd g l y c m =
    let s : c < 19 = stands l (pair c) y.stand m in
    let (on, ev) = both (g c) (eqb (below g c % 2) 0) (sym (bears_row g c (lt-ltb c 20 (omega arith))) ∙ car_bears g l y (pair c) m) in
    let z = eqb-true (below g c % 2) 0 ev in
    omega (arith, ap digit on)

pub none_torn : NoneTorn
unfolding area
none_torn i f s ok l y c m = split (border i c)
    (λ e.
    let even = borders i f s ok c low e in
    ⊎_elim
    (λ (z : Layout f l). let q = half_odd f l z c m in absurd (omega (arith, even.0)))
    (λ (z : Layout (next_record i f) l). let q = half_odd (next_record i f) l z c m in absurd (omega (arith, even.1))) y)
    (λ e.
    beq→eq (elem c (area_of i)) (elem (suc c) (area_of i)) (true→T (not-false (beq (elem c (area_of i)) (elem (suc c) (area_of i))) e)))
  where
    low : c < 19
    low = ⊎_elim (λ (z : Layout f l). stands l (pair c) z.stand m) (λ (z : Layout (next_record i f) l). stands l (pair c) z.stand m) y
