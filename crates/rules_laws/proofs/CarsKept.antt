-- Instructions other than belts change few places. That they keep pairs of row-1 cells, and that as many cars are at the changed places
-- after as before, is tried at every setting of those places. Assumes nothing.
use mathlib.Core.Path.{◌≡◌, refl, ap, ap₂, subst}
use mathlib.Core.Bool.{Bool, true, false, cond, not, ◌&&◌, ◌||◌}
use mathlib.Core.List.{List, [], ◌∷◌, ◌++◌}
use Prim.Native.Nat.{ℕ, suc, ◌+◌, ◌*◌, ◌<◌}
use native.Mathlib.Omega.{arith}
use lib.Dec.{T, eqb, ltb, eqb→eq, ltb→lt}
use borrow.Author.Tests.{eqb-true}
use Rattle.bits.specs.Bits.{Bits, digit, count}
use Rattle.bits.specs.Places.{elem}
use Rattle.bits.specs.Search.{every}
use Rattle.bits.proofs.Cases.{and_l, and_r, under, split, true→T}
use Rattle.bits.proofs.Search.{each as each_below}
use Rattle.bits.proofs.Counts.{count_agree}
use Rattle.floor.specs.Floor.{row_cells, raised_car, lift_cells}
use Rattle.floor.specs.Tests.{Test, even, all_hold, Change, changed}
use Rattle.floor.specs.Sound.{sound_rules}
use Rattle.floor.proofs.Reading.{inside, inside_at, all_read_in, all_agree}
use Rattle.rules.specs.declared.Instruction.{Instruction}
use Rattle.rules.specs.declared.Instruction.TheVariants.{Belts, Shuttles, Tilt, Lift, Rotate}
use Rattle.rules.specs.Rules.{well_formed, conditions, changes}
use Rattle.rules.proofs.Every.{everywhere, each}
use Rattle.bits.proofs.Fills.{On}
use Rattle.rules_laws.proofs.Tried.{those, tried, tried_law, sources, targets, not_target}
use Rattle.rules_laws.proofs.RulesKept.{both_lists}

-- ---- the places that are counted

-- one cell a car: rows 2 and 3, and the raised lift
abbrev pub singles : List ℕ
singles = (row_cells 2 ++ row_cells 3) ++ raised_car ∷ []

-- twice the number of cars at the places js
abbrev weight : List ℕ → Bits → ℕ
weight js f = count (those js (row_cells 1)) f + 2 * count (those js singles) f

-- those are among js
those_in : (js l : List ℕ) (k : ℕ) → T (elem k (those js l)) → T (elem k js)
those_in js [] k m = absurd m
those_in js (j ∷ l) k m = go (elem j js) refl m (those_in js l k)
  where
    go : (b : Bool) → elem j js ≡ b → T (elem k (cond b (j ∷ those js l) (those js l))) → (T (elem k (those js l)) → T (elem k js)) → T (elem k js)
    go true e m r = split (eqb j k)
        (λ i. subst (λ (x : ℕ). T (elem x js)) (eqb-true j k i) (true→T e))
        (λ i. r (subst (λ (c : Bool). T (c || elem k (those js l))) i m))
    go false e m r = r m

-- the weight rests on js alone
weight_agree : (js : List ℕ) (f g : Bits) → On js f g → weight js f ≡ weight js g
weight_agree js f g e =
    ap₂ (λ (x y : ℕ). x + 2 * y)
    (count_agree (those js (row_cells 1)) f g (λ k m. e k (those_in js (row_cells 1) k m)))
    (count_agree (those js singles) f g (λ k m. e k (those_in js singles k m)))

-- what a count gains is what its changed places gain
pub count_gain : (cs : List Change) (f : Bits) (l : List ℕ) → count l (changed cs f) + count (those (targets cs) l) f ≡ count l f + count (those (targets cs) l) (changed cs f)
count_gain cs f [] = refl
count_gain cs f (j ∷ l) = go (elem j (targets cs)) refl (count_gain cs f l)
  where
    js : List ℕ
    js = those (targets cs) l

    g : Bits
    g = changed cs f

    go : (b : Bool) → elem j (targets cs) ≡ b → count l g + count js f ≡ count l f + count js g
        → digit (g j) + count l g + count (cond b (j ∷ js) js) f ≡ digit (f j) + count l f + count (cond b (j ∷ js) js) g
    go true e r = omega arith
    go false e r = omega (arith, ap digit (not_target cs f j e))

-- so what the changed places keep is kept
weight_gain : (cs : List Change) (f : Bits) (l m : List ℕ)
    → count (those (targets cs) l) (changed cs f) + 2 * count (those (targets cs) m) (changed cs f) ≡ count (those (targets cs) l) f + 2 * count (those (targets cs) m) f
    → count l (changed cs f) + 2 * count m (changed cs f) ≡ count l f + 2 * count m f
weight_gain cs f l m e = omega (arith, count_gain cs f l, count_gain cs f m)

-- ---- the trial

-- an instruction other than belts
abbrev pub other : Instruction → Bool
other (Belts row mask toward size) = false
other (Shuttles side mask orientation toward) = true
other (Tilt side row orientation) = true
other (Lift height) = true
other Rotate = true

-- the lower of the two cells of row 1 that an instruction other than belts can change
abbrev pub pair_at : Instruction → ℕ
pair_at (Belts row mask toward size) = 0
pair_at (Shuttles side mask orientation toward) = side * 18
pair_at (Tilt side row orientation) = 0
pair_at (Lift height) = 11
pair_at Rotate = 0

-- what is known besides the conditions and the rules of a sound record
abbrev pub known : Instruction → List Test
known (Belts row mask toward size) = []
known (Shuttles side mask orientation toward) = []
known (Tilt side row orientation) = []
known (Lift height) = even lift_cells ∷ []
known Rotate = []

-- it changes the pair
abbrev pub touches : Instruction → Bool
touches i = elem (pair_at i) (targets (changes i))

-- then the pair is to hold a whole car or none
abbrev pub pair : Instruction → List Test
pair i = cond (touches i) (even (pair_at i ∷ suc (pair_at i) ∷ []) ∷ []) []

-- a cell of row 1 that it leaves alone
abbrev pub leaves : Instruction → ℕ → Bool
leaves i k = not (elem k (targets (changes i))) || (touches i && (eqb (pair_at i) k || eqb (suc (pair_at i)) k))

-- the tests ps hold before and after, with as many cars at js
abbrev balanced : List Test → List ℕ → Bits → Bits → Bool
balanced ps js f g = all_hold ps f && (all_hold ps g && eqb (weight js g) (weight js f))

-- where what is known holds, the changes are balanced
abbrev trial : Instruction → Bool
trial i =
    let js = targets (changes i) in
    tried (sources (changes i) js) js (known i ++ (conditions i ++ sound_rules)) (changes i) (balanced (pair i) js)

-- what it reads: the places of a balance are those changed
abbrev placed : Instruction → Bool
placed i =
    let js = targets (changes i) in
    let ks = sources (changes i) js in
    inside ks js && (all_read_in ks (pair i) && all_read_in js (pair i))

-- the pair is in the row, no other cell of the row changes, and the changes are balanced
abbrev settled : Instruction → Bool
settled i = ltb (suc (pair_at i)) 20 && (every 20 (leaves i) && (placed i && trial i))

abbrev settled_other : Instruction → Bool
settled_other i = cond (other i) (settled i) true

-- every well-formed instruction other than belts
all_settled : T (everywhere settled_other)
unfolding everywhere every
all_settled = tt

module _ (i : Instruction) (w : T (well_formed i)) (o : other i ≡ true) where
  abbrev js : List ℕ
  js = targets (changes i)

  abbrev ks : List ℕ
  ks = sources (changes i) js

  all : T (settled i)
  all = under (other i) (settled i) o (each settled_other all_settled i w)

  pub in_row_lem : suc (pair_at i) < 20
  in_row_lem = ltb→lt (suc (pair_at i)) 20 (and_l (ltb (suc (pair_at i)) 20) (every 20 (leaves i) && (placed i && trial i)) all)

  rest : T (every 20 (leaves i) && (placed i && trial i))
  rest = and_r (ltb (suc (pair_at i)) 20) (every 20 (leaves i) && (placed i && trial i)) all

  pub left_alone : (k : ℕ) → k < 20 → T (leaves i k)
  left_alone = each_below 20 (leaves i) (and_l (every 20 (leaves i)) (placed i && trial i) rest)

  reading : T (placed i)
  reading = and_l (placed i) (trial i) (and_r (every 20 (leaves i)) (placed i && trial i) rest)

  reads_pair : T (all_read_in ks (pair i) && all_read_in js (pair i))
  reads_pair = and_r (inside ks js) (all_read_in ks (pair i) && all_read_in js (pair i)) reading

  local : (f f' g g' : Bits) → On ks f f' → On js g g' → balanced (pair i) js f g ≡ balanced (pair i) js f' g'
  local f f' g g' a b =
      ap₂ ◌&&◌ (all_agree ks f f' a (pair i) (and_l (all_read_in ks (pair i)) (all_read_in js (pair i)) reads_pair))
      (ap₂ ◌&&◌ (all_agree js g g' b (pair i) (and_r (all_read_in ks (pair i)) (all_read_in js (pair i)) reads_pair))
      (ap₂ eqb (weight_agree js g g' b)
      (weight_agree js f f' (λ k m. a k (inside_at ks js (and_l (inside ks js) (all_read_in ks (pair i) && all_read_in js (pair i)) reading) k m)))))

  -- the pair before and after, and the cars
  module _ (f : Bits) (k : T (all_hold (known i) f)) (c : T (all_hold (conditions i) f)) (r : T (all_hold sound_rules f)) where
    abbrev g : Bits
    g = changed (changes i) f

    balance : T (balanced (pair i) js f g)
    balance =
        tried_law ks js (known i ++ (conditions i ++ sound_rules)) (changes i) (balanced (pair i) js) local
        (and_r (placed i) (trial i) (and_r (every 20 (leaves i)) (placed i && trial i) rest))
        f (both_lists f (known i) (conditions i ++ sound_rules) k (both_lists f (conditions i) sound_rules c r))

    pub pair_before : T (all_hold (pair i) f)
    pair_before = and_l (all_hold (pair i) f) (all_hold (pair i) g && eqb (weight js g) (weight js f)) balance

    after : T (all_hold (pair i) g && eqb (weight js g) (weight js f))
    after = and_r (all_hold (pair i) f) (all_hold (pair i) g && eqb (weight js g) (weight js f)) balance

    pub pair_after : T (all_hold (pair i) g)
    pair_after = and_l (all_hold (pair i) g) (eqb (weight js g) (weight js f)) after

    pub same_weight : count (row_cells 1) g + 2 * count singles g ≡ count (row_cells 1) f + 2 * count singles f
    same_weight =
        weight_gain (changes i) f (row_cells 1) singles
        (eqb→eq (weight js g) (weight js f) (and_r (all_hold (pair i) g) (eqb (weight js g) (weight js f)) after))
