-- Which instructions overlap a lift run; and the others, allowed on a sound record, keep whether each side's count is even: belts move
-- cells of one side, and a shuttle brings two half cells or takes two. Assumes nothing.
use mathlib.Core.Path.{◌≡◌, refl, sym, ap, ap₂, ◌∙◌}
use mathlib.Core.Bool.{Bool, true, false, cond, not, ◌&&◌, beq}
use mathlib.Core.List.{[], ◌∷◌}
use Prim.Native.Nat.{ℕ, suc, ◌+◌, ◌*◌, ◌%◌, ◌≤◌}
use native.Mathlib.Omega.{arith}
use lib.Dec.{T, eqb, leb→le}
use Rattle.bits.specs.Bits.{Bits, count}
use Rattle.bits.specs.Places.{from, adjacent}
use Rattle.bits.specs.Search.{every}
use Rattle.bits.proofs.Cases.{clash, and_l, and_r, under, beq→eq, true→T, T→true, and_intro}
use Rattle.floor.specs.Tests.{all_hold, changed}
use Rattle.floor.specs.Sound.{sound_rules}
use Rattle.floor.proofs.Reading.{nth_holds}
use Rattle.floor.proofs.Rows.{below, Whole, count_from}
use Rattle.rules.specs.declared.Instruction.{Instruction}
use Rattle.rules.specs.declared.Instruction.TheVariants.{Belts, Shuttles, Tilt, Lift, Rotate}
use Rattle.rules.specs.Named.{cells, lift_named}
use Rattle.rules.specs.Rules.{belts_named, well_formed, overlap, sides, conditions, changes}
use Rattle.rules.proofs.Every.{everywhere, each, rows, each_row}
use Rattle.rules_laws.specs.Laws.{with_lift, LiftOverlaps}
use Rattle.rules_laws.proofs.BeltMove.{Carried, besides, belts_carried}
use Rattle.rules_laws.proofs.Pair.{PairKept}
use Rattle.rules_laws.proofs.Moves.{belts_named_lem, shuttles_side, other_kept}

-- ---- which overlap a lift run

abbrev told : Instruction → Bool
told i = beq (overlap i (Lift 0)) (with_lift i)

all_told : T (everywhere told)
unfolding everywhere every overlap
all_told = tt

pub which_overlap : LiftOverlaps
unfolding overlap
which_overlap i height w = beq→eq (overlap i (Lift 0)) (with_lift i) (each told all_told i (true→T w))

-- ---- the two sides by the numbers of occupied cells below 11, 13 and 20

-- the number below a place stays even or odd
abbrev Parity : Bits → Bits → ℕ → Type 0
Parity f g k = below g k % 2 ≡ below f k % 2

-- then so does the count of a span
span_parity : (f g : Bits) (a m : ℕ) → Parity f g a → Parity f g (a + m) → count (from a m) g % 2 ≡ count (from a m) f % 2
span_parity f g a m p q =
    sum (below g a) (count (from a m) g) (below g (a + m)) (count_from g m a)
    ∙ alike (below g a) (below g (a + m)) (below f a) (below f (a + m)) p q
    ∙ sym (sum (below f a) (count (from a m) f) (below f (a + m)) (count_from f m a))
  where
    sum : (x n y : ℕ) → x + n ≡ y → n % 2 ≡ (x + y) % 2
    sum x n y e = omega arith

    alike : (x y z w : ℕ) → x % 2 ≡ z % 2 → y % 2 ≡ w % 2 → (x + y) % 2 ≡ (z + w) % 2
    alike x y z w p q = omega arith

sides_by : (f g : Bits) → Parity f g 11 → Parity f g 13 → Parity f g 20 → sides g ≡ sides f
sides_by f g p q r = ap₂ (λ (x y : ℕ). eqb x 0 ∷ eqb y 0 ∷ []) (span_parity f g 0 11 refl p) (span_parity f g 13 7 q r)

-- ---- belts

-- a span without the lift's cells goes across neither end of them
abbrev one_side : ℕ → ℕ → Bool
one_side row mask = cond (not (lift_named row mask) && adjacent (cells row mask)) (besides 11 (cells row mask) && besides 13 (cells row mask)) true

all_one_side : T (rows one_side)
unfolding rows every
all_one_side = tt

belts_sides : (row mask toward size : ℕ) (f : Bits) → lift_named row mask ≡ false
    → T (well_formed (Belts row mask toward size)) → T (all_hold (conditions (Belts row mask toward size)) f)
    → sides (changed (changes (Belts row mask toward size)) f) ≡ sides f
belts_sides row mask toward size f o v c =
    sides_by f (changed (changes (Belts row mask toward size)) f)
    (ap odd (moved.same 11 (and_l (besides 11 (cells row mask)) (besides 13 (cells row mask)) clear)))
    (ap odd (moved.same 13 (and_r (besides 11 (cells row mask)) (besides 13 (cells row mask)) clear)))
    (ap odd moved.same20)
  where
    odd : ℕ → ℕ
    odd n = n % 2

    named : T (belts_named row mask)
    named = belts_named_lem row mask toward size v

    moved : Carried (cells row mask) f (changed (changes (Belts row mask toward size)) f)
    moved = belts_carried row mask toward size f named c

    clear : T (besides 11 (cells row mask) && besides 13 (cells row mask))
    clear = under (not (lift_named row mask) && adjacent (cells row mask)) (besides 11 (cells row mask) && besides 13 (cells row mask))
        (and_intro (ap not o) (T→true (adjacent (cells row mask)) (nth_holds f (conditions (Belts row mask toward size)) c 2)))
        (each_row one_side all_one_side row mask named)

-- ---- shuttles and tilts

-- an instruction whose pair is at neither end of the lift's cells
pair_sides : (f g : Bits) (a : ℕ) → (11 ≡ suc a → ⊥) → (13 ≡ suc a → ⊥) → (20 ≡ suc a → ⊥) → PairKept 20 a f g → sides g ≡ sides f
pair_sides f g a x y z k = sides_by f g (k.parity 11 (omega arith) x) (k.parity 13 (omega arith) y) (k.parity 20 (omega arith) z)

pub kept_sides : (i : Instruction) → with_lift i ≡ false
    → (f : Bits) → T (well_formed i) → T (all_hold (conditions i) f) → T (all_hold sound_rules f) → Whole 20 f → sides (changed (changes i) f) ≡ sides f
kept_sides (Belts row mask toward size) o f v c r w = belts_sides row mask toward size f o v c
kept_sides (Shuttles side mask orientation toward) o f v c r w =
    let i = Shuttles side mask orientation toward in
    let s : side ≤ 1 = leb→le side 1 (shuttles_side side mask orientation toward v) in
    pair_sides f (changed (changes i) f) (side * 18) (λ e. omega arith) (λ e. omega arith) (λ e. omega arith) (other_kept i refl f v c r w)
kept_sides (Tilt side row orientation) o f v c r w =
    let i = Tilt side row orientation in
    pair_sides f (changed (changes i) f) 0 (λ e. omega arith) (λ e. omega arith) (λ e. omega arith) (other_kept i refl f v c r w)
kept_sides (Lift height) o f v c r w = clash refl o
kept_sides Rotate o f v c r w = clash refl o
