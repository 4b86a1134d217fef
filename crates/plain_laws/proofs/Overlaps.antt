-- Two areas as parts of the garage meet exactly if the instructions overlap: an area has the whole lift or none of it. Assumes nothing.
use mathlib.Core.Path.{◌≡◌, sym, ap, ◌∙◌}
use mathlib.Core.Bool.{Bool, true, cond, ◌&&◌, beq}
use Prim.Native.Nat.{ℕ, ◌≤◌, ◌<◌}
use native.Mathlib.Omega.{arith}
use lib.Dec.{T, eqb, ltb, ltb→lt}
use borrow.Author.Tests.{eqb-true, eqb-false, ltb-true, ltb-false}
use Rattle.bits.specs.Places.{elem, share}
use Rattle.bits.specs.Search.{every}
use Rattle.bits.proofs.Cases.{split, both, alike, and_intro, and_l, and_r, beq→eq, true→T}
use Rattle.bits.proofs.Search.{some_at, some_is}
use Rattle.bits.proofs.Sharing.{all_pass, pass_at, share_at, share_is}
use Rattle.floor.specs.Floor.{raised_car, height_low, height_high, drive_in, lift}
use Rattle.rules.specs.declared.Instruction.{Instruction}
use Rattle.rules.specs.Rules.{well_formed, area_of, overlap}
use Rattle.rules.proofs.Every.{everywhere, each}
use Rattle.plain_moves.specs.Moves.{parts_bits, parts_at, area_parts, meeting}
use Rattle.plain_laws.proofs.Crossing.{parts_at_lem}

-- an area is of cells, slots and the lift
abbrev low : Instruction → Bool
low i = all_pass (λ k. ltb k drive_in) (area_of i)

-- of the lift it has all three places, or none
abbrev lifts : Instruction → ℕ → Bool
lifts i k = beq (elem k (area_of i)) (elem raised_car (area_of i))

abbrev whole : Instruction → Bool
whole i = low i && (beq (share (area_of i) lift) (elem raised_car (area_of i)) && (lifts i height_low && lifts i height_high))

all_whole : T (everywhere whole)
unfolding everywhere every
all_whole = tt

-- what this says of an area
record Whole (i : Instruction) : Type 0 where
  low : T (low i)
  any : share (area_of i) lift ≡ elem raised_car (area_of i)
  first : elem height_low (area_of i) ≡ elem raised_car (area_of i)
  second : elem height_high (area_of i) ≡ elem raised_car (area_of i)

whole_is : (i : Instruction) → well_formed i ≡ true → Whole i
whole_is i w =
    let t = each whole all_whole i (true→T w) in
    let (a, b, c, d) = and_four (low i) (beq (share (area_of i) lift) (elem raised_car (area_of i))) (lifts i height_low) (lifts i height_high) t in
    record { low = a; any = beq→eq _ _ b; first = beq→eq _ _ c; second = beq→eq _ _ d }
  where
    and_four : (a b c d : Bool) → T (a && (b && (c && d))) → T a × T b × T c × T d
    and_four a b c d t =
        let u = and_r a (b && (c && d)) t in
        let v = and_r b (c && d) u in
        (and_l a (b && (c && d)) t, and_l b (c && d) u, and_l c d v, and_r c d v)

module _ (i : Instruction) (w : well_formed i ≡ true) where
  -- as parts it has the places that it has
  part_at : (k : ℕ) → k < 53 → parts_bits (area_parts i) k ≡ elem k (area_of i)
  unfolding parts_bits area_parts parts_at
  part_at k h = rw w (parts_at_lem (λ k. elem k (area_of i)) k upper)
    where
      upper : 52 ≤ k → eqb k raised_car && share (area_of i) lift ≡ elem k (area_of i)
      upper l = let e : k ≡ raised_car = omega arith in rw e (whole_is i w).any

  -- and a place of it is among them, but for the height's, which stand with the raised lift's
  abbrev shown_at : ℕ → ℕ
  shown_at k = cond (ltb k 53) k raised_car

  shown_at_lem : (k : ℕ) → elem k (area_of i) ≡ true → (shown_at k < 53) × (parts_bits (area_parts i) (shown_at k) ≡ true)
  shown_at_lem k m = split (ltb k 53)
      (λ t. let h = ltb-true k 53 t in rw t (h, part_at k h ∙ m))
      (λ t.
      let h = ltb-false k 53 t in
      let l = ltb→lt k drive_in (pass_at (λ k. ltb k drive_in) (area_of i) (whole_is i w).low k (true→T m)) in
      rw t (
        (omega arith),
        part_at raised_car (omega arith) ∙ split (eqb k height_low)
            (λ u. sym (whole_is i w).first ∙ ap (λ (k : ℕ). elem k (area_of i)) (sym (eqb-true k height_low u)) ∙ m)
            (λ u.
            let n : k ≡ height_low → ⊥ = eqb-false k height_low u in
            let e : height_high ≡ k = omega arith in
            sym (whole_is i w).second ∙ ap (λ (k : ℕ). elem k (area_of i)) e ∙ m),
      ))

pub same_areas : (i j : Instruction) → well_formed i ≡ true → well_formed j ≡ true → meeting (area_parts i) (area_parts j) ≡ overlap i j
unfolding meeting overlap
same_areas i j w v = alike _ _
    (λ e.
    let (k, h, m) = some_is 53 _ e in
    let (p, q) = both (parts_bits (area_parts i) k) (parts_bits (area_parts j) k) m in
    share_is (area_of i) (area_of j) k (sym (part_at i w k h) ∙ p) (sym (part_at j v k h) ∙ q))
    (λ e.
    let (k, p, q) = share_at (area_of i) (area_of j) e in
    let (h, a) = shown_at_lem i w k p in
    some_at 53 _ (cond (ltb k 53) k raised_car) h (and_intro a (shown_at_lem j v k q).1))
