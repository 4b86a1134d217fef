-- From where places take their numbers: what a list of takings says of a place in it and of one that is not, and that an instruction's
-- takings stand in its area. Tests are computed at every well-formed instruction. Assumes nothing.
use mathlib.Core.Path.{◌≡◌, refl, sym, ap, subst, ◌∙◌, fun_ext}
use mathlib.Core.Bool.{Bool, true, false, cond, not, ◌&&◌, ◌||◌}
use mathlib.Core.List.{List, [], ◌∷◌}
use Prim.Native.Nat.{ℕ, ◌<◌}
use native.Mathlib.Omega.{arith}
use lib.Dec.{T, eqb, eqb→eq}
use borrow.Author.Tests.{eqb-true, eqb-false, eq-eqb, ne_eqb, not-true}
use Rattle.bits.specs.Bits.{Bits}
use Rattle.bits.specs.Places.{elem}
use Rattle.bits.specs.Search.{every}
use Rattle.bits.proofs.Cases.{split, clash, off, and_l, and_r, T→true, true→T}
use Rattle.bits.proofs.Sharing.{all_pass, pass_at}
use Rattle.floor.specs.Floor.{drive_in, drives}
use Rattle.floor.specs.Tests.{holds, at_basement}
use Rattle.floor.proofs.Reading.{reads_in, holds_agree}
use Rattle.rules.specs.declared.Instruction.{Instruction}
use Rattle.rules.specs.declared.Instruction.TheVariants.{Belts, Shuttles, Tilt, Lift, Rotate}
use Rattle.rules.specs.Rules.{well_formed, area_of, area}
use Rattle.rules.proofs.Every.{everywhere, each}
use Rattle.rules.proofs.Frame.{area_small}
use Rattle.cards.specs.Cards.{Numbers}
use Rattle.cards.specs.Following.{no_source, Taking, ◌⟵◌, takings, number_at, numbers_taken, numbers_after}
use Rattle.cards.specs.Private.{source}
use Rattle.cards.proofs.Takings.{taken_source}
use Rattle.cards_laws.specs.Statements.{NumbersOutside, NumbersInside, WaitsOn}

-- the places that take, and those that they take from
abbrev pub takers : List Taking → List ℕ
takers [] = []
takers (k ⟵ s ∷ ts) = k ∷ takers ts

abbrev givers : List Taking → List ℕ
givers [] = []
givers (k ⟵ s ∷ ts) = s ∷ givers ts

-- a place that takes nothing keeps its number
pub source_same : (ts : List Taking) (k : ℕ) → elem k (takers ts) ≡ false → source ts k ≡ k
unfolding source
source_same [] k o = refl
source_same (j ⟵ s ∷ ts) k o = go (eqb j k) o (source_same ts k)
  where
    go : (b : Bool) → b || elem k (takers ts) ≡ false → (elem k (takers ts) ≡ false → source ts k ≡ k) → cond b s (source ts k) ≡ k
    go true o r = clash refl o
    go false o r = r o

-- one that takes takes from a giver
source_giver : (ts : List Taking) (k : ℕ) → T (elem k (takers ts)) → T (elem (source ts k) (givers ts))
unfolding source
source_giver [] k m = absurd m
source_giver (j ⟵ s ∷ ts) k m = go (eqb j k) m (source_giver ts k)
  where
    go : (b : Bool) → T (b || elem k (takers ts)) → (T (elem k (takers ts)) → T (elem (source ts k) (givers ts)))
        → T (elem (cond b s (source ts k)) (s ∷ givers ts))
    go true m r = rw (eq-eqb s s refl) tt
    go false m r = or_r (eqb s (source ts k)) (r m)
      where
        or_r : (a : Bool) → T (elem (source ts k) (givers ts)) → T (a || elem (source ts k) (givers ts))
        or_r true t = tt
        or_r false t = t

-- ---- takings are one to one

-- the other way round
abbrev pub back : List Taking → List Taking
back [] = []
back (k ⟵ s ∷ ts) = s ⟵ k ∷ back ts

-- who takes takes from nowhere or from one that takes, and the way back leads to it
abbrev leads_back : List Taking → ℕ → Bool
leads_back ts k = eqb (source ts k) no_source || eqb (source (back ts) (source ts k)) k

-- nowhere, or one of some places
abbrev nowhere_or : List ℕ → ℕ → Bool
nowhere_or ks k = eqb k no_source || elem k ks

abbrev one_to_one : List Taking → Bool
one_to_one ts = all_pass (leads_back ts) (takers ts) && all_pass (nowhere_or (takers ts)) (givers ts)

pub or_else : (a b : Bool) → a ≡ false → T (a || b) → T b
or_else true b n t = clash refl n
or_else false b n t = t

takers_back : (ts : List Taking) (k : ℕ) → elem k (takers (back ts)) ≡ elem k (givers ts)
takers_back [] k = refl
takers_back (j ⟵ s ∷ ts) k = ap (λ (b : Bool). eqb s k || b) (takers_back ts k)

module _ (ts : List Taking) (t : T (one_to_one ts)) where
  giver_takes : (k : ℕ) → (k ≡ no_source → ⊥) → T (elem k (givers ts)) → T (elem k (takers ts))
  giver_takes k n m =
      or_else (eqb k no_source) (elem k (takers ts)) (ne_eqb k no_source n)
      (pass_at (nowhere_or (takers ts)) (givers ts) (and_r (all_pass (leads_back ts) (takers ts)) _ t) k m)

  -- the way back from a source
  pub way_back_lem : (k : ℕ) → (source ts k ≡ no_source → ⊥) → source (back ts) (source ts k) ≡ k
  way_back_lem k n = split (elem k (takers ts))
      (λ m. eqb→eq _ k (or_else (eqb (source ts k) no_source) _ (ne_eqb (source ts k) no_source n)
      (pass_at (leads_back ts) (takers ts) (and_l (all_pass (leads_back ts) (takers ts)) (all_pass (nowhere_or (takers ts)) (givers ts)) t) k (true→T m))))
      (λ m.
      let e = source_same ts k m in
      let o : elem k (givers ts) ≡ false = off (elem k (givers ts)) (λ g.
      clash (T→true (elem k (takers ts)) (giver_takes k (λ z. n (e ∙ z)) (true→T g))) m) in
      ap (source (back ts)) e ∙ source_same (back ts) k (takers_back ts k ∙ o))

  pub one_source : (j k : ℕ) → source ts j ≡ source ts k → (source ts j ≡ no_source → ⊥) → j ≡ k
  one_source j k e n = sym (way_back_lem j n) ∙ ap (source (back ts)) e ∙ way_back_lem k (λ z. n (e ∙ z))

-- ---- an instruction's takings, with the lift in the basement or not

abbrev in_area : List ℕ → List Taking → Bool
in_area a ts = all_pass (λ k. elem k a) (takers ts) && all_pass (nowhere_or a) (givers ts)

-- for the lift the height is in the area
abbrev reader : Instruction → Bool
reader (Belts row mask toward size) = true
reader (Shuttles side mask orientation toward) = true
reader (Tilt side row orientation) = true
reader (Lift height) = reads_in (area_of (Lift height)) at_basement
reader Rotate = true

abbrev right : Instruction → Bool → Bool
right i low = one_to_one (takings i low) && in_area (area_of i) (takings i low)

abbrev all_right : Instruction → Bool
all_right i = right i true && (right i false && reader i)

all_right_lem : T (everywhere all_right)
unfolding everywhere every source
all_right_lem = tt

module _ (i : Instruction) (w : T (well_formed i)) where
  is_right : (low : Bool) → T (right i low)
  is_right true = and_l (right i true) (right i false && reader i) (each all_right all_right_lem i w)
  is_right false = and_l (right i false) (reader i) (and_r (right i true) (right i false && reader i) (each all_right all_right_lem i w))

  pub one_to_one_lem : (low : Bool) → T (one_to_one (takings i low))
  one_to_one_lem low = and_l (one_to_one (takings i low)) (in_area (area_of i) (takings i low)) (is_right low)

  in_area_lem : (low : Bool) → T (in_area (area_of i) (takings i low))
  in_area_lem low = and_r (one_to_one (takings i low)) (in_area (area_of i) (takings i low)) (is_right low)

  pub taker_in : (low : Bool) (k : ℕ) → elem k (area_of i) ≡ false → elem k (takers (takings i low)) ≡ false
  taker_in low k o = off (elem k (takers (takings i low))) (λ m.
      clash (T→true (elem k (area_of i)) (pass_at (λ k. elem k (area_of i)) (takers (takings i low))
      (and_l (all_pass (λ k. elem k (area_of i)) (takers (takings i low))) (all_pass (nowhere_or (area_of i)) (givers (takings i low))) (in_area_lem low)) k (true→T m))) o)

  giver_in : (low : Bool) (k : ℕ) → (k ≡ no_source → ⊥) → T (elem k (givers (takings i low))) → T (elem k (area_of i))
  giver_in low k n m = or_else (eqb k no_source) (elem k (area_of i)) (ne_eqb k no_source n)
      (pass_at (nowhere_or (area_of i)) (givers (takings i low)) (and_r (all_pass (λ k. elem k (area_of i)) (takers (takings i low))) _ (in_area_lem low)) k m)

  -- a place of the area takes from the area
  source_in : (low : Bool) (k : ℕ) → T (elem k (area_of i)) → (source (takings i low) k ≡ no_source → ⊥) → T (elem (source (takings i low) k) (area_of i))
  source_in low k a n = split (elem k (takers (takings i low)))
      (λ m. giver_in low (source (takings i low) k) n (source_giver (takings i low) k (true→T m)))
      (λ m. subst (λ (x : ℕ). T (elem x (area_of i))) (sym (source_same (takings i low) k m)) a)

-- what is taken rests on the height only for the lift
same_takings : (i : Instruction) → T (well_formed i) → (f g : Bits) → ((k : ℕ) → T (elem k (area_of i)) → f k ≡ g k)
    → takings i (holds at_basement f) ≡ takings i (holds at_basement g)
same_takings (Belts row mask toward size) w f g e = refl
same_takings (Shuttles side mask orientation toward) w f g e = refl
same_takings (Tilt side row orientation) w f g e = refl
same_takings (Lift height) w f g e =
    ap (takings (Lift height))
    (holds_agree (area_of (Lift height)) f g e at_basement
    (and_r (right (Lift height) false) (reader (Lift height))
    (and_r (right (Lift height) true) (right (Lift height) false && reader (Lift height)) (each all_right all_right_lem (Lift height) w))))
same_takings Rotate w f g e = refl

-- ---- the numbers outside an area and in it

-- a place that takes nothing keeps its number
taken_same : (ts : List Taking) (n : Numbers) (k : ℕ) → elem k (takers ts) ≡ false → numbers_taken ts n k ≡ n k
unfolding numbers_taken
taken_same [] n k o = refl
taken_same (j ⟵ s ∷ ts) n k o = go (eqb j k) o (taken_same ts n k)
  where
    go : (b : Bool) → b || elem k (takers ts) ≡ false → (elem k (takers ts) ≡ false → numbers_taken ts n k ≡ n k) → cond b (number_at n s) (numbers_taken ts n k) ≡ n k
    go true o r = clash refl o
    go false o r = r o

-- a place of the area is not nowhere
in_not_nowhere : (i : Instruction) → well_formed i ≡ true → (k : ℕ) → elem k (area_of i) ≡ true → k ≡ no_source → ⊥
in_not_nowhere i w k a e = let l : k < 64 = area_small i w k a in omega arith

pub numbers_outside : NumbersOutside
unfolding numbers_after area
numbers_outside i w f n k o =
    let low = holds at_basement f in
    taken_same (takings i low) n k (taker_in i (true→T w) low k o)

pub numbers_inside : NumbersInside
unfolding numbers_after area
numbers_inside i w f g n m a e k h =
    let ts = takings i (holds at_basement f) in
    let us = takings i (holds at_basement g) in
    let o = in_not_nowhere i w k h in
    let same : ts ≡ us = same_takings i (true→T w) f g (λ j t. a j (T→true (elem j (area_of i)) t)) in
    taken_source ts n k o
    ∙ split (eqb (source ts k) no_source)
    (λ z. rw z)
    (λ z. rw z (e (source ts k) (T→true (elem (source ts k) (area_of i))
    (source_in i (true→T w) (holds at_basement f) k (true→T h) (eqb-false (source ts k) no_source z)))))
    ∙ ap (λ (v : List Taking). number_at m (source v k)) same
    ∙ sym (taken_source us m k o)

-- where nowhere has no number, the numbers after are those of the sources
pub taken_all : (i : Instruction) → well_formed i ≡ true → (low : Bool) (n : Numbers) → n no_source ≡ 0
    → numbers_taken (takings i low) n ≡ (λ k. number_at n (source (takings i low) k))
taken_all i w low n z = fun_ext (λ k. split (eqb k no_source)
    (λ e. let q = eqb-true k no_source e in
    let out : elem no_source (area_of i) ≡ false = off (elem no_source (area_of i)) (λ m. in_not_nowhere i w no_source m refl) in
    let o = taker_in i (true→T w) low no_source out in
    subst (λ (x : ℕ). numbers_taken (takings i low) n x ≡ number_at n (source (takings i low) x)) (sym q)
    (taken_same (takings i low) n no_source o ∙ z ∙ sym (ap (number_at n) (source_same (takings i low) no_source o))))
    (λ e. taken_source (takings i low) n k (eqb-false k no_source e)))

-- ---- no instruction has a drive in its area

abbrev undriven : Instruction → Bool
undriven i = all_pass (λ k. not (elem k (area_of i))) drives

all_undriven : T (everywhere undriven)
unfolding everywhere every
all_undriven = tt

pub drive_outside : (i : Instruction) → well_formed i ≡ true → (k : ℕ) → T (elem k drives) → area i k ≡ false
unfolding area
drive_outside i w k m =
    not-true (elem k (area_of i)) (T→true _ (pass_at (λ k. not (elem k (area_of i))) drives (each undriven all_undriven i (true→T w)) k m))

pub drive_stays : (i : Instruction) → well_formed i ≡ true → (low : Bool) → source (takings i low) drive_in ≡ drive_in
unfolding area
drive_stays i w low = source_same (takings i low) drive_in (taker_in i (true→T w) low drive_in (drive_outside i w drive_in tt))

pub drive_kept : (i : Instruction) (f : Bits) (n : Numbers) → well_formed i ≡ true → numbers_after i f n drive_in ≡ n drive_in
unfolding numbers_after area
drive_kept i f n w =
    let low = holds at_basement f in
    taken_same (takings i low) n drive_in (taker_in i (true→T w) low drive_in (drive_outside i w drive_in tt))

pub waits_on : WaitsOn
waits_on = drive_kept
