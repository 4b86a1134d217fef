-- Instructions other than belts carry along the numbers at the few places that they change: tried at every setting of those places.
-- In row 1 they change one pair of cells, which holds a whole car or none before and after. Assumes nothing.
use mathlib.Core.Path.{◌≡◌, refl, sym, ap, ap₂, subst, ◌∙◌}
use mathlib.Core.Logic.{⊎_elim}
use mathlib.Core.Bool.{Bool, true, false, cond, not, ◌&&◌, ◌||◌, and-true, beq}
use mathlib.Core.List.{List, [], ◌∷◌, ◌++◌, map}
use Prim.Native.Nat.{ℕ, suc, ◌+◌, ◌%◌, ◌≤◌, ◌<◌}
use native.Mathlib.Omega.{arith}
use lib.Dec.{T, eqb, ltb, leb, eqb→eq, leb→le}
use borrow.Author.Tests.{eqb-true, eqb-false, eq-eqb, ne_eqb, lt-ltb, le-ltb, ltb-true}
use Rattle.bits.specs.Bits.{Bits, digit}
use Rattle.bits.specs.Places.{elem, is_empty, adjacent}
use Rattle.bits.specs.Search.{every}
use Rattle.bits.proofs.Cases.{split, clash, off, and_l, and_r, and_T, and_intro, under, T→true, true→T, beq→eq}
use Rattle.bits.proofs.Counts.{elem_here, elem_there}
use Rattle.bits.proofs.Fills.{On}
use Rattle.bits.proofs.Search.{lt_or_ge}
use Rattle.bits.proofs.Sharing.{all_pass, pass_at}
use Rattle.floor.specs.Floor.{lowered, raised_car}
use Rattle.floor.specs.Tests.{Test, no, holds, all_hold, at_basement, changed}
use Rattle.floor.specs.Sound.{sound_rules}
use Rattle.floor.proofs.Reading.{nth_holds}
use Rattle.floor.proofs.Rows.{below, Whole}
use Rattle.rules.specs.declared.Instruction.{Instruction}
use Rattle.rules.specs.declared.Instruction.TheVariants.{Belts, Shuttles, Tilt, Lift, Rotate}
use Rattle.rules.specs.Named.{cells, rows_of, ahead}
use Rattle.rules.specs.Rules.{well_formed, conditions, changes}
use Rattle.rules.proofs.Every.{everywhere, each}
use Rattle.rules_laws.proofs.Tried.{tried, tried_law, sources, targets, not_target}
use Rattle.rules_laws.proofs.RulesKept.{both_lists}
use Rattle.rules_laws.proofs.CarsKept.{other, pair_at, known, touches, in_row_lem, left_alone, pair_before, pair_after}
use Rattle.rules_laws.proofs.Pair.{low, high}
use Rattle.rules_laws.proofs.Moves.{Ready, ready, pair_cells, alone}
use Rattle.rules_laws.proofs.Shift.{below_same}
use Rattle.cards.specs.Given.{bears}
use Rattle.cards.specs.Following.{no_source, lift_number_at, on_shuttle, rows_touched, Taking, takings}
use Rattle.cards.specs.Private.{source}
use Rattle.cards_laws.proofs.Anchors.{bears_row, is_place, bears_place, bears_same, no_place, comes}
use Rattle.cards_laws.proofs.Sources.{takers, back, source_same, or_else}
use Rattle.cards_laws.proofs.Belts.{Follows}

-- belts and rows without a gap, and a row to go to
abbrev pub gapless : Instruction → Bool
gapless (Belts row mask toward size) = adjacent (cells row mask)
gapless (Shuttles side mask orientation toward) = adjacent (rows_of mask) && not (is_empty (ahead toward mask))
gapless (Tilt side row orientation) = true
gapless (Lift height) = true
gapless Rotate = true

pub is_gapless : (i : Instruction) (f : Bits) → T (all_hold (conditions i) f) → T (gapless i)
is_gapless (Belts row mask toward size) f c = nth_holds f (conditions (Belts row mask toward size)) c 2
is_gapless (Shuttles side mask orientation toward) f c =
    let cs = conditions (Shuttles side mask orientation toward) in
    and_T (adjacent (rows_of mask)) (not (is_empty (ahead toward mask))) (nth_holds f cs c 1)
    (and_l (not (is_empty (ahead toward mask))) _ (nth_holds f cs c 4))
is_gapless (Tilt side row orientation) f c = tt
is_gapless (Lift height) f c = tt
is_gapless Rotate f c = tt

-- ---- the trial

-- the places where an instruction other than belts can change numbers
abbrev spots : Instruction → List ℕ
spots (Belts row mask toward size) = []
spots (Shuttles side mask orientation toward) = cond (eqb orientation lowered) (map (on_shuttle side) (rows_touched toward mask)) []
spots (Tilt side row orientation) = []
spots (Lift height) = raised_car ∷ lift_number_at ∷ []
spots Rotate = []

-- the lift is in the basement or not
abbrev height_at : Bool → Test
height_at true = at_basement
height_at false = no at_basement

-- place k has after what its source had before, and what it had goes somewhere
abbrev follows : List Taking → Bits → Bits → ℕ → Bool
follows ts f g k = beq (g k) (comes f (source ts k)) && (not (f k) || eqb (source ts (source (back ts) k)) k)

abbrev all_follow : Instruction → Bool → Bits → Bits → Bool
all_follow i at f g = all_pass (follows (takings i at) f g) (spots i)

abbrev trial : Instruction → Bool → Bool
trial i at =
    let js = targets (changes i) in
    tried (sources (changes i) js) js (height_at at ∷ (known i ++ (conditions i ++ sound_rules))) (changes i) (all_follow i at)

-- what the trial reads
abbrev placed : Instruction → List Taking → ℕ → Bool
placed i ts k =
    let js = targets (changes i) in
    let ks = sources (changes i) js in
    elem k js && (elem k ks && (eqb (source ts k) no_source || elem (source ts k) ks))

-- a spot is a place outside row 1 or the pair's lower cell, and takes from a spot
abbrev spot_right : Instruction → List Taking → ℕ → Bool
spot_right i ts k =
    ((leb 20 k && is_place k) || (touches i && eqb (pair_at i) k))
    && (eqb (source ts k) no_source || elem (source ts k) (spots i))

-- a place that changes is of row 1, a spot, or one where no number may stand
abbrev change_right : Instruction → ℕ → Bool
change_right i k = ltb k 20 || (elem k (spots i) || not (is_place k))

abbrev settled : Instruction → Bool → Bool
settled i at =
    all_pass (placed i (takings i at)) (spots i)
    && (all_pass (spot_right i (takings i at)) (spots i)
    && (all_pass (λ k. elem k (spots i)) (takers (takings i at))
    && (all_pass (change_right i) (targets (changes i))
    && ((not (touches i) || elem (pair_at i) (spots i))
    && trial i at))))

abbrev settled_other : Instruction → Bool
settled_other i = cond (other i && gapless i) (settled i true && settled i false) true

all_settled : T (everywhere settled_other)
unfolding everywhere every source
all_settled = tt

-- ---- what the tests say

pub all_same : (p q : ℕ → Bool) (ks : List ℕ) → ((k : ℕ) → T (elem k ks) → p k ≡ q k) → all_pass p ks ≡ all_pass q ks
all_same p q [] e = refl
all_same p q (k ∷ ks) e = ap₂ ◌&&◌ (e k (elem_here k ks)) (all_same p q ks (λ j m. e j (elem_there k j ks m)))

module _ (i : Instruction) (w : T (well_formed i)) (o : other i && gapless i ≡ true) (at : Bool) where
  abbrev js : List ℕ
  js = targets (changes i)

  abbrev ks : List ℕ
  ks = sources (changes i) js

  abbrev ts : List Taking
  ts = takings i at

  abbrev takers_right : Bool
  takers_right = all_pass (λ k. elem k (spots i)) (takers ts)

  abbrev changes_right : Bool
  changes_right = all_pass (change_right i) js

  abbrev pair_right : Bool
  pair_right = not (touches i) || elem (pair_at i) (spots i)

  tested : T (settled i at)
  tested = go at (under (other i && gapless i) _ o (each settled_other all_settled i w))
    where
      go : (at : Bool) → T (settled i true && settled i false) → T (settled i at)
      go true t = and_l (settled i true) (settled i false) t
      go false t = and_r (settled i true) (settled i false) t

  rest : T (all_pass (spot_right i ts) (spots i) && (takers_right && (changes_right && (pair_right && trial i at))))
  rest = and_r (all_pass (placed i ts) (spots i)) _ tested

  rest₂ : T (takers_right && (changes_right && (pair_right && trial i at)))
  rest₂ = and_r (all_pass (spot_right i ts) (spots i)) _ rest

  rest₃ : T (changes_right && (pair_right && trial i at))
  rest₃ = and_r takers_right _ rest₂

  rest₄ : T (pair_right && trial i at)
  rest₄ = and_r changes_right _ rest₃

  is_placed : (k : ℕ) → T (elem k (spots i)) → T (placed i ts k)
  is_placed = pass_at (placed i ts) (spots i) (and_l (all_pass (placed i ts) (spots i)) _ tested)

  is_spot : (k : ℕ) → T (elem k (spots i)) → T (spot_right i ts k)
  is_spot = pass_at (spot_right i ts) (spots i) (and_l (all_pass (spot_right i ts) (spots i)) _ rest)

  -- a spot takes from a spot
  spot_source : (k : ℕ) → T (elem k (spots i)) → eqb (source ts k) no_source ≡ false → T (elem (source ts k) (spots i))
  spot_source k m n =
      or_else (eqb (source ts k) no_source) (elem (source ts k) (spots i)) n
      (and_r ((leb 20 k && is_place k) || (touches i && eqb (pair_at i) k)) _ (is_spot k m))

  -- any other place keeps its number
  not_spot : (k : ℕ) → elem k (spots i) ≡ false → source ts k ≡ k
  not_spot k n = source_same ts k (off (elem k (takers ts)) (λ m.
      clash (T→true (elem k (spots i)) (pass_at (λ k. elem k (spots i)) (takers ts) (and_l takers_right _ rest₂) k (true→T m))) n))

  pair_spot : touches i ≡ true → T (elem (pair_at i) (spots i))
  pair_spot t = or_else (not (touches i)) (elem (pair_at i) (spots i)) (rw t) (and_l pair_right (trial i at) rest₄)

  -- a place outside row 1 that is no spot doesn't change
  place_kept : (f : Bits) (k : ℕ) → ltb k 20 ≡ false → is_place k ≡ true → elem k (spots i) ≡ false → changed (changes i) f k ≡ f k
  place_kept f k a b n = not_target (changes i) f k (off (elem k js) (λ m.
      let t = pass_at (change_right i) js (and_l changes_right _ rest₃) k (true→T m) in
      absurd (subst (λ (x : Bool). T (not x)) b (or_else (elem k (spots i)) (not (is_place k)) n (or_else (ltb k 20) _ a t)))))

  local : (f f' g g' : Bits) → On ks f f' → On js g g' → all_follow i at f g ≡ all_follow i at f' g'
  local f f' g g' a b = all_same (follows ts f g) (follows ts f' g') (spots i) (λ k m.
      let p = is_placed k m in
      let q = and_r (elem k js) _ p in
      let come : comes f (source ts k) ≡ comes f' (source ts k) = split (eqb (source ts k) no_source)
      (λ z. rw z)
      (λ z. rw z (a (source ts k) (or_else (eqb (source ts k) no_source) (elem (source ts k) ks) z (and_r (elem k ks) _ q)))) in
      let here : f k ≡ f' k = a k (and_l (elem k ks) _ q) in
      ap₂ ◌&&◌ (ap₂ beq (b k (and_l (elem k js) _ p)) come) (ap (λ (x : Bool). not x || eqb (source ts (source (back ts) k)) k) here))

  module _ (f : Bits) (h : holds at_basement f ≡ at) (k : T (all_hold (known i) f)) (c : T (all_hold (conditions i) f)) (r : T (all_hold sound_rules f)) where
    height_holds : (at : Bool) → holds at_basement f ≡ at → T (holds (height_at at) f)
    height_holds true e = true→T e
    height_holds false e = true→T (ap not e)

    all_follow_lem : T (all_follow i at f (changed (changes i) f))
    all_follow_lem =
        tried_law ks js (height_at at ∷ (known i ++ (conditions i ++ sound_rules))) (changes i) (all_follow i at) local
        (and_r pair_right (trial i at) rest₄) f
        (and_T (holds (height_at at) f) _ (height_holds at h)
        (both_lists f (known i) (conditions i ++ sound_rules) k (both_lists f (conditions i) sound_rules c r)))

    at_spot : (j : ℕ) → T (elem j (spots i)) → T (follows ts f (changed (changes i) f) j)
    at_spot = pass_at (follows ts f (changed (changes i) f)) (spots i) all_follow_lem

    -- a spot has after what its source had before
    spot_new : (j : ℕ) → T (elem j (spots i)) → changed (changes i) f j ≡ comes f (source ts j)
    spot_new j m = beq→eq _ _ (and_l (beq (changed (changes i) f j) (comes f (source ts j))) _ (at_spot j m))

    -- and what it had goes somewhere
    spot_goes : (j : ℕ) → T (elem j (spots i)) → f j ≡ true → source ts (source (back ts) j) ≡ j
    spot_goes j m e = eqb→eq _ j (or_else (not (f j)) _ (rw e) (and_r (beq (changed (changes i) f j) (comes f (source ts j))) _ (at_spot j m)))

-- ---- the places that bear a number

-- a pair of cells that hold a whole car or none, with an even number below
module _ (h : Bits) (a : ℕ) (l : suc a < 20) (e : h a ≡ h (suc a)) (ev : below h a % 2 ≡ 0) where
  pair_low : bears h a ≡ h a
  pair_low = bears_row h a (lt-ltb a 20 (omega arith)) ∙ ap (λ (b : Bool). h a && b) (eq-eqb (below h a % 2) 0 ev) ∙ and-true (h a)

  pair_high : bears h (suc a) ≡ false
  pair_high = bears_row h (suc a) (lt-ltb (suc a) 20 l) ∙ go (h a) refl
    where
      go : (b : Bool) → h a ≡ b → h (suc a) && eqb ((below h a + digit (h a)) % 2) 0 ≡ false
      go true q = rw (← e, q) (ne_eqb ((below h a + 1) % 2) 0 (omega arith))
      go false q = rw (← e, q)

place_bears : (h : Bits) (k : ℕ) → 20 ≤ k → is_place k ≡ true → bears h k ≡ h k
place_bears h k l s = bears_place h k (le-ltb k 20 l) ∙ ap (λ (b : Bool). b && h k) s

module _ (i : Instruction) (o : other i ≡ true) (f : Bits) (v : T (well_formed i))
    (c : T (all_hold (conditions i) f)) (r : T (all_hold sound_rules f)) (w : Whole 20 f) where
  abbrev g : Bits
  g = changed (changes i) f

  abbrev a : ℕ
  a = pair_at i

  abbrev at : Bool
  at = holds at_basement f

  abbrev s : ℕ → ℕ
  s = source (takings i at)

  og : other i && gapless i ≡ true
  og = and_intro o (T→true (gapless i) (is_gapless i f c))

  known_holds : Ready f w i
  known_holds = ready f w i v c r

  unchanged : (k : ℕ) → k < 20 → (touches i ≡ true → eqb a k || eqb (suc a) k ≡ false) → g k ≡ f k
  unchanged k l h = not_target (changes i) f k (alone (elem k (targets (changes i))) (touches i) (eqb a k || eqb (suc a) k) (left_alone i v o k l) h)

  -- row 1 where the pair changes
  module _ (t : touches i ≡ true) where
    pub pf : f a ≡ f (suc a)
    pf = pair_cells i f t (pair_before i v o f known_holds.0 c r)

    pg : g a ≡ g (suc a)
    pg = pair_cells i g t (pair_after i v o f known_holds.0 c r)

    out : (k : ℕ) → k < 20 → (k ≡ a → ⊥) → (k ≡ suc a → ⊥) → g k ≡ f k
    out k l x y = unchanged k l (λ t. ap₂ ◌||◌ (ne_eqb a k (λ q. x (sym q))) (ne_eqb (suc a) k (λ q. y (sym q))))

    pub ev_f : below f a % 2 ≡ 0
    ev_f = known_holds.1 pf

    lower : (k : ℕ) → k ≤ a → below g k ≡ below f k
    lower = low 20 a f g out pf pg (in_row_lem i v o) ev_f w

    ev_g : below g a % 2 ≡ 0
    ev_g = omega (arith, ev_f, lower a (omega arith))

    row_kept : (k : ℕ) → k < 20 → (k ≡ a → ⊥) → (k ≡ suc a → ⊥) → bears g k ≡ bears f k
    row_kept k l x y =
        let parity : below g k % 2 ≡ below f k % 2 = ⊎_elim
        (λ (h : k < suc a). ap (λ (z : ℕ). z % 2) (lower k (omega arith)))
        (λ (h : suc a ≤ k). omega (arith, high 20 a f g out pf pg (in_row_lem i v o) ev_f w k (omega (arith, y)) (omega arith)))
        (lt_or_ge k (suc a)) in
        bears_same f g k (out k l x y) (λ h. parity)

  -- a spot bears a number where it is occupied, before and after
  spot_bears : (k : ℕ) → T (elem k (spots i)) → (bears f k ≡ f k) × (bears g k ≡ g k)
  spot_bears k m = go (leb 20 k && is_place k) refl (and_l ((leb 20 k && is_place k) || (touches i && eqb a k)) _ (is_spot i v og at k m))
    where
      go : (b : Bool) → leb 20 k && is_place k ≡ b → T (b || (touches i && eqb a k)) → (bears f k ≡ f k) × (bears g k ≡ g k)
      go true e t =
          let l = leb→le 20 k (and_l (leb 20 k) (is_place k) (true→T e)) in
          let z = T→true (is_place k) (and_r (leb 20 k) (is_place k) (true→T e)) in
          (place_bears f k l z, place_bears g k l z)
      go false e t =
          let u = T→true (touches i) (and_l (touches i) (eqb a k) t) in
          let q = eqb→eq a k (and_r (touches i) (eqb a k) t) in
          subst (λ (x : ℕ). (bears f x ≡ f x) × (bears g x ≡ g x)) q
          (pair_low f a (in_row_lem i v o) (pf u) (ev_f u), pair_low g a (in_row_lem i v o) (pg u) (ev_g u))

  -- any other place bears one after if it did before
  other_bears : (k : ℕ) → elem k (spots i) ≡ false → bears g k ≡ bears f k
  other_bears k n = split (ltb k 20)
      (λ l. split (touches i)
      (λ t. split (eqb (suc a) k)
      (λ e.
      let q = eqb-true (suc a) k e in
      subst (λ (x : ℕ). bears g x ≡ bears f x) q
      (pair_high g a (in_row_lem i v o) (pg t) (ev_g t) ∙ sym (pair_high f a (in_row_lem i v o) (pf t) (ev_f t))))
      (λ e. row_kept t k (ltb-true k 20 l)
      (λ q. clash (T→true (elem k (spots i)) (subst (λ (x : ℕ). T (elem x (spots i))) (sym q) (pair_spot i v og at t))) n)
      (λ q. eqb-false (suc a) k e (sym q))))
      (λ t.
      let same : (j : ℕ) → j < 20 → g j ≡ f j = λ j h. unchanged j h (λ u. clash u t) in
      bears_same f g k (same k (ltb-true k 20 l)) (λ h. ap (λ (x : ℕ). x % 2) (below_same f g 20 same k (omega arith)))))
      (λ l. split (is_place k)
      (λ z. bears_same f g k (place_kept i v og at f k l z n) (λ h. clash (lt-ltb k 20 h) l))
      (λ z. no_place g k z ∙ sym (no_place f k z)))

  pub others_follow : Follows f g s
  others_follow = record {
    there = λ k. split (elem k (spots i))
        (λ m. (spot_bears k (true→T m)).1 ∙ spot_new i v og at f refl known_holds.0 c r k (true→T m) ∙ taken k (true→T m))
        (λ m. other_bears k m ∙ sym (stays k m));
    goes = λ k e. split (elem k (spots i))
        (λ m. (source (back (takings i at)) k, spot_goes i v og at f refl known_holds.0 c r k (true→T m) (sym (spot_bears k (true→T m)).0 ∙ e)))
        (λ m. (k, not_spot i v og at k m));
  }
    where
      taken : (k : ℕ) → T (elem k (spots i)) → comes f (s k) ≡ comes (bears f) (s k)
      taken k m = split (eqb (s k) no_source)
          (λ z. rw z)
          (λ z. rw z (sym (spot_bears (s k) (spot_source i v og at k m z)).0))

      stays : (k : ℕ) → elem k (spots i) ≡ false → comes (bears f) (s k) ≡ bears f k
      stays k m = ap (comes (bears f)) (not_spot i v og at k m) ∙ split (eqb k no_source)
          (λ z. rw z (sym (ap (bears f) (eqb-true k no_source z))))
          (λ z. rw z)
