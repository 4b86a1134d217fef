-- A test that is computed at every well-formed instruction, 272 of them, holds at each. Assumes nothing.
use mathlib.Core.Bool.{Bool, true, false, cond, ◌&&◌}
use Prim.Native.Nat.{ℕ, suc, ◌<◌}
use native.Mathlib.Omega.{arith}
use lib.Dec.{T, eqb, leb, leb→le}
use Rattle.bits.specs.Search.{every}
use Rattle.bits.proofs.Cases.{and_l, and_r}
use Rattle.bits.proofs.Search.{each as each_below}
use Rattle.rules.specs.declared.Instruction.{Instruction}
use Rattle.rules.specs.declared.Instruction.TheVariants.{Belts, Shuttles, Tilt, Lift, Rotate}
use Rattle.rules.specs.Rules.{belts_named, well_formed}

and3 : (a b c : Bool) → T (a && b && c) → T a × T b × T c
and3 true b c t = (tt, and_l b c t, and_r b c t)
and3 false b c t = absurd t

and4 : (a b c d : Bool) → T (a && b && c && d) → T a × T b × T c × T d
and4 true b c d t = let h = and3 b c d t in (tt, h.0, h.1, h.2)
and4 false b c d t = absurd t

and5 : (a b c d e : Bool) → T (a && b && c && d && e) → T a × T b × T c × T d × T e
and5 true b c d e t = let h = and4 b c d e t in (tt, h.0, h.1, h.2, h.3)
and5 false b c d e t = absurd t

-- where it is well formed, the instruction passes the test
abbrev if_well : (Instruction → Bool) → Instruction → Bool
if_well p i = cond (well_formed i) (p i) true

well : (p : Instruction → Bool) (i : Instruction) → T (if_well p i) → T (well_formed i) → T (p i)
well p i t w = go (well_formed i) t w
  where
    go : (b : Bool) → T (cond b (p i) true) → T b → T (p i)
    go true t w = t
    go false t w = absurd w

abbrev on_belts : (Instruction → Bool) → Bool
on_belts p = every 4 λ row. every 32 λ mask. every 2 λ toward. every 2 λ size. if_well p (Belts row mask toward size)

abbrev on_shuttles : (Instruction → Bool) → Bool
on_shuttles p = every 2 λ side. every 8 λ mask. every 2 λ orientation. every 2 λ toward. if_well p (Shuttles side mask orientation toward)

abbrev on_tilt : (Instruction → Bool) → Bool
on_tilt p = every 2 λ side. every 4 λ row. every 2 λ orientation. if_well p (Tilt side row orientation)

abbrev on_lift : (Instruction → Bool) → Bool
on_lift p = every 3 λ height. if_well p (Lift height)

-- say 'unfolding everywhere every' to compute it
unfoldable pub everywhere : (Instruction → Bool) → Bool
everywhere p = on_belts p && on_shuttles p && on_tilt p && on_lift p && p Rotate

le : (k n : ℕ) → T (leb k n) → k < suc n
le k n t = omega (arith, leb→le k n t)

mask_below : (row mask : ℕ) → T (leb mask (cond (eqb row 1) 31 7)) → mask < 32
mask_below row mask t = go (eqb row 1) t
  where
    go : (b : Bool) → T (leb mask (cond b 31 7)) → mask < 32
    go true h = omega (arith, leb→le mask 31 h)
    go false h = omega (arith, leb→le mask 7 h)

pub each : (p : Instruction → Bool) → T (everywhere p) → (i : Instruction) → T (well_formed i) → T (p i)
unfolding everywhere
each p t i w = go i w
  where
    parts : T (on_belts p) × T (on_shuttles p) × T (on_tilt p) × T (on_lift p) × T (p Rotate)
    parts = and5 (on_belts p) (on_shuttles p) (on_tilt p) (on_lift p) (p Rotate) t

    go : (i : Instruction) → T (well_formed i) → T (p i)
    go (Belts row mask toward size) w =
        let h = and5 (leb 1 row) (leb row 3) (leb mask (cond (eqb row 1) 31 7)) (leb toward 1) (leb size 1) w in
        well p (Belts row mask toward size)
        (each_below 2 _ (each_below 2 _ (each_below 32 _ (each_below 4 _ parts.0
        row (le row 3 h.1)) mask (mask_below row mask h.2)) toward (le toward 1 h.3)) size (le size 1 h.4))
        w
    go (Shuttles side mask orientation toward) w =
        let h = and4 (leb side 1) (leb mask 7) (leb orientation 1) (leb toward 1) w in
        well p (Shuttles side mask orientation toward)
        (each_below 2 _ (each_below 2 _ (each_below 8 _ (each_below 2 _ parts.1
        side (le side 1 h.0)) mask (le mask 7 h.1)) orientation (le orientation 1 h.2)) toward (le toward 1 h.3))
        w
    go (Tilt side row orientation) w =
        let h = and3 (leb side 1) (leb 1 row && leb row 3) (leb orientation 1) w in
        well p (Tilt side row orientation)
        (each_below 2 _ (each_below 4 _ (each_below 2 _ parts.2
        side (le side 1 h.0)) row (le row 3 (and_r (leb 1 row) (leb row 3) h.1))) orientation (le orientation 1 h.2))
        w
    go (Lift height) w = well p (Lift height) (each_below 3 _ parts.3 height (le height 2 w)) w
    go Rotate w = parts.4

-- the same for a row and a mask of its belts
unfoldable pub rows : (ℕ → ℕ → Bool) → Bool
rows p = every 4 λ row. every 32 λ mask. cond (belts_named row mask) (p row mask) true

pub named_bounds : (row mask : ℕ) → T (belts_named row mask) → (row < 4) × (mask < 32)
named_bounds row mask w =
    let h = and3 (leb 1 row) (leb row 3) (leb mask (cond (eqb row 1) 31 7)) w in
    (le row 3 h.1, mask_below row mask h.2)

pub each_row : (p : ℕ → ℕ → Bool) → T (rows p) → (row mask : ℕ) → T (belts_named row mask) → T (p row mask)
unfolding rows
each_row p t row mask w = go (belts_named row mask) (each_below 32 _ (each_below 4 _ t row b.0) mask b.1) w
  where
    b : (row < 4) × (mask < 32)
    b = named_bounds row mask w

    go : (b : Bool) → T (cond b (p row mask) true) → T b → T (p row mask)
    go true t w = t
    go false t w = absurd w
