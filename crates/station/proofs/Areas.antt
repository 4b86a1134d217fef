-- The code gathers areas as one mask: an area meets one of several exactly if it meets all of them taken together. Assumes nothing.
use Rattle.std.proofs.Common.{◌≡◌, ℕ, zero, suc, ◌+◌, ◌^◌, ◌<◌, Bool, true, false, cond, not, ◌&&◌, ◌||◌, T, eqb, ltb, List, [], sym, refl, ap, ◌∙◌, ap₂, add-one, arith, ltb-false, ltb-true, le-ltb, lt-ltb, eq-eqb, eqb-true}
use mathlib.Core.Bool.{and-true, and-false, or_comm, and-or_distrib_left}
use lib.Bits.{bit_and, bit_or, and_zero_r, and_comm, and_le_l, and_le_r}
use borrow.Author.Tests.{eqb-false, not-true}
use Rattle.bits.specs.Bits.{bit, packed}
use Rattle.bits.specs.Places.{elem, share}
use Rattle.bits.specs.Search.{some, every}
use Rattle.bits.proofs.Search.{some_at, some_same, every_at}
use Rattle.bits.proofs.Digits.{packed_lt, bit_ext, bit_past, bit_ones, bit_image}
use Rattle.bits.proofs.Operations.{bit_or_lem, bit_and_lem}
use Rattle.bits.proofs.Meeting.{meet}
use Rattle.floor.specs.Floor.{lift}
use Rattle.rules.specs.declared.Code.{Code}
use Rattle.rules.specs.declared.Instruction.{Instruction}
use Rattle.std.specs.declared.option.Option.{Option}
use Rattle.std.specs.declared.option.Option.TheVariants.{Some, None}
use Rattle.rules.specs.Rules.{area_of}
use Rattle.rules.specs.Codes.{read_code}
use Rattle.rules.specs.Verdicts.{on_code}
use Rattle.rules.proofs.CodeLaws.{one_form_lem}
use Rattle.rules.proofs.Every.{everywhere, each}
use Rattle.bits.proofs.Cases.{clash, split, neither, T→true, true→T}
use Rattle.bits.proofs.Sharing.{Small, share_masks}
use Rattle.rules.proofs.Frame.{area_small}
use Rattle.station.specs.Held.{code_at, held_area, overlaps_earlier, lift_in, parts_in, held_parts, touches}
use Rattle.station.specs.Private.{held_mask, areas, lifts_in}

-- each place of an area is a bit of a record
pub held_small : (x : Code) → Small (held_area x)
unfolding held_area
held_small x = read (read_code x) refl
  where
    read : (g : (Option Instruction)) → read_code x ≡ g → Small (on_code area_of [] g)
    read (Some i) e = area_small i (one_form_lem x i e).1
    read None e = λ k m. clash m refl

-- ---- several areas as one

some_or : (n : ℕ) (p q r : ℕ → Bool) → ((k : ℕ) → p k ≡ q k || r k) → some n p ≡ some n q || some n r
unfolding some
some_or zero p q r e = refl
some_or (suc n) p q r e = rw (e n, some_or n p q r e) (swap (q n) (r n) (some n q) (some n r))
  where
    swap : (a b c d : Bool) → (a || b) || (c || d) ≡ (a || c) || (b || d)
    swap true b c d = refl
    swap false true true d = refl
    swap false true false d = refl
    swap false false true d = refl
    swap false false false d = refl

and_or : (a b c : Bool) → a && (b || c) ≡ (a && c) || (a && b)
and_or a b c = and-or_distrib_left a b c ∙ or_comm (a && b) (a && c)

-- a mask meets two taken together, exactly if it meets one of them
meets_or : (m x y : ℕ) → m < 2 ^ 64
    → not (eqb (bit_and m (bit_or x y)) 0) ≡ not (eqb (bit_and m y) 0) || not (eqb (bit_and m x) 0)
meets_or m x y h =
    rw (← meet 64 m (bit_or x y) h, ← meet 64 m x h, ← meet 64 m y h)
    (some_or 64 _ _ _ (λ k. rw (bit_or_lem x y k) (and_or (bit m k) (bit x k) (bit y k))))

-- a mask meets one of the first n areas, exactly if it meets all of them taken together
meets_areas : (m : ℕ) (set : List ℕ) (n : ℕ) → m < 2 ^ 64
    → some n (λ j. not (eqb (bit_and m (held_mask (code_at set j))) 0)) ≡ not (eqb (bit_and m (areas set n)) 0)
unfolding some areas
meets_areas m set zero h = rw and_zero_r
meets_areas m set (suc n) h = rw (meets_areas m set n h, meets_or m (areas set n) (held_mask (code_at set n)) h)

-- ---- the loops that gather them

pub areas_start : (set : List ℕ) → 0 ≡ areas set 0
unfolding areas
areas_start set = refl

pub areas_turn : (set : List ℕ) (i : ℕ) {seen m : ℕ} {x : Code} → seen ≡ areas set i → x ≡ code_at set i → m ≡ held_mask x
    → bit_or seen m ≡ areas set (i + 1)
unfolding areas
areas_turn set i e d a = rw (add-one i, e, a, d)

-- the code's test of instruction i
pub overlapping : (set : List ℕ) (i : ℕ) {seen m : ℕ} {x : Code} → seen ≡ areas set i → x ≡ code_at set i → m ≡ held_mask x
    → overlaps_earlier set i ≡ not (eqb (bit_and m seen) 0)
unfolding overlaps_earlier held_mask
overlapping set i {seen} {m} {x} e d a =
    some_same i _ _ (λ j l. share_masks (held_area (code_at set i)) (held_area (code_at set j)) (held_small (code_at set i)))
    ∙ meets_areas (held_mask (code_at set i)) set i (packed_lt 64 0 (λ k. elem k (held_area (code_at set i))))
    ∙ rw (a, d, e)

-- the lift's bits, 52 to 54
abbrev pub lift_mask : ℕ
lift_mask = 0x70000000000000

pub held_lift : (x : Code) → share (held_area x) lift ≡ not (eqb (bit_and (held_mask x) lift_mask) 0)
unfolding held_mask packed
held_lift x = share_masks (held_area x) lift (held_small x)

-- the code's test of all areas
pub lift_in_lem : (set : List ℕ) (n : ℕ) {m : ℕ} → m ≡ areas set n → not (eqb (bit_and m lift_mask) 0) ≡ lift_in set n
unfolding lift_in
lift_in_lem set n {m} e = sym
    (some_same n (λ j. share (held_area (code_at set j)) lift) (λ j. not (eqb (bit_and lift_mask (held_mask (code_at set j))) 0))
    (λ j l. held_lift (code_at set j) ∙ rw (and_comm (held_mask (code_at set j)) lift_mask))
    ∙ meets_areas lift_mask set n (omega arith)
    ∙ rw (and_comm lift_mask (areas set n), e))

-- ---- the lift is whole in an area, and the parts of an area

-- two tests that are found alike by computation
pub same_as : (a b : Bool) → cond a b (not b) ≡ true → b ≡ a
same_as true b e = e
same_as false b e = not-true b e

-- an instruction has it in its area, by its own numbers
lifts_right : Instruction → Bool
lifts_right i = cond (lifts_in i) (share (area_of i) lift) (not (share (area_of i) lift))

every_lifts : T (everywhere lifts_right)
unfolding everywhere every lifts_right
every_lifts = tt

pub held_lifts : (x : Code) (i : Instruction) {b : Bool} → b ≡ lifts_in i → read_code x ≡ Some i → b ≡ share (held_area x) lift
unfolding held_area lifts_right
held_lifts x i e g =
    e ∙ sym (same_as (lifts_in i) (share (area_of i) lift) (T→true (lifts_right i) (each lifts_right every_lifts i (true→T (one_form_lem x i g).1))))
    ∙ ap (λ (y : (Option Instruction)). share (on_code area_of [] y) lift) (sym g)

pub none_lifts : (x : Code) → read_code x ≡ None → false ≡ share (held_area x) lift
unfolding held_area
none_lifts x g = ap (λ (y : (Option Instruction)). share (on_code area_of [] y) lift) (sym g)

-- one of a set has it: none so far, this one, or not this one either
pub lift_none : (set : List ℕ) → lift_in set 0 ≡ false
unfolding lift_in some
lift_none set = refl

module _ (set : List ℕ) (i : ℕ) {b : Bool} {x : Code} (e : x ≡ code_at set i) (h : b ≡ share (held_area x) lift) where
  pub lift_here : (n : ℕ) → i < n → b ≡ true → true ≡ lift_in set n
  unfolding lift_in
  lift_here n l t =
      sym (some_at n (λ j. share (held_area (code_at set j)) lift) i l (ap (λ (y : Code). share (held_area y) lift) (sym e) ∙ sym h ∙ t))

  pub lift_past : b ≡ false → lift_in set i ≡ false → lift_in set (i + 1) ≡ false
  unfolding lift_in some
  lift_past f g = rw (add-one i, ← e, ← h, f, g)

-- from place 52 on an area has the lift whole, or nothing
abbrev whole_or_none : Instruction → Bool
whole_or_none i = every 12 (λ j. cond (ltb j 3 && share (area_of i) lift) (elem (52 + j) (area_of i)) (not (elem (52 + j) (area_of i))))

every_whole : T (everywhere whole_or_none)
unfolding everywhere every
every_whole = tt

pub held_upper : (x : Code) (j : ℕ) → j < 12 → elem (52 + j) (held_area x) ≡ ltb j 3 && share (held_area x) lift
unfolding held_area
held_upper x j h = read (read_code x) refl
  where
    read : (g : (Option Instruction)) → read_code x ≡ g → elem (52 + j) (on_code area_of [] g) ≡ ltb j 3 && share (on_code area_of [] g) lift
    read (Some i) e = same_as _ _ (every_at 12 _ (T→true _ (each whole_or_none every_whole i (true→T (one_form_lem x i e).1))) j h)
    read None e = sym (and-false (ltb j 3))

-- the bits 0 to 52
abbrev pub parts_mask : ℕ
parts_mask = 0x1FFFFFFFFFFFFF

parts_bit : (k : ℕ) → bit parts_mask k ≡ ltb k 53
parts_bit k = split (ltb k 53)
    (λ t. rw t (bit_ones 53 k (ltb-true k 53 t)))
    (λ t. rw t (bit_past parts_mask 53 k (omega arith) (ltb-false k 53 t)))

-- a place of an area that is below 53 is a part of it
part_at : (x : Code) (k : ℕ) → elem k (held_area x) && ltb k 53 ≡ parts_in (held_area x) k
unfolding parts_in
part_at x k = split (ltb k 52)
    (λ t. let l = ltb-true k 52 t in rw (t, lt-ltb k 53 (omega arith)) (and-true (elem k (held_area x))))
    (λ t. rw t (split (eqb k 52)
    (λ u. rw (u, eqb-true k 52 u) (and-true (elem 52 (held_area x)) ∙ held_upper x 0 (omega arith)))
    (λ u. let l = ltb-false k 52 t in
    let ne : k ≡ 52 → ⊥ = eqb-false k 52 u in
    rw (u, le-ltb k 53 (omega arith)) (and-false (elem k (held_area x))))))

-- the code's number
pub parts_is : (x : Code) {m : ℕ} → m ≡ held_mask x → bit_and m parts_mask ≡ held_parts x
unfolding held_mask held_parts
parts_is x {m} e = bit_ext 64 (bit_and m parts_mask) _ (omega (arith, and_le_r m parts_mask)) (packed_lt 64 0 _)
    (λ k h. bit_and_lem m parts_mask k
    ∙ ap₂ ◌&&◌ (ap (λ (y : ℕ). bit y k) e ∙ bit_image (λ j. elem j (held_area x)) k h) (parts_bit k)
    ∙ part_at x k ∙ sym (bit_image (parts_in (held_area x)) k h))

held_mask_lem : (x : Code) {m : ℕ} → m ≡ held_mask x → m < 2 ^ 64
unfolding held_mask
held_mask_lem x e = omega (arith, e, packed_lt 64 0 (λ k. elem k (held_area x)))

-- a mask meets the parts of what is apart, exactly if its own parts meet what is apart
meets_parts : (m apart : ℕ) → m < 2 ^ 64 → not (eqb (bit_and (bit_and m parts_mask) apart) 0) ≡ not (eqb (bit_and m (bit_and apart parts_mask)) 0)
meets_parts m apart h =
    sym (meet 64 (bit_and m parts_mask) apart (omega (arith, and_le_l m parts_mask, h)))
    ∙ some_same 64 _ _ (λ k l. rw (bit_and_lem m parts_mask k, bit_and_lem apart parts_mask k) (turned (bit m k) (bit parts_mask k) (bit apart k)))
    ∙ meet 64 m (bit_and apart parts_mask) h
  where
    turned : (a b c : Bool) → (a && b) && c ≡ a && (c && b)
    turned true true true = refl
    turned true true false = refl
    turned true false true = refl
    turned true false false = refl
    turned false b c = refl

-- the code's test of what is set apart
pub touching : (set : List ℕ) (apart i : ℕ) {m : ℕ} {x : Code} → x ≡ code_at set i → m ≡ held_mask x
    → touches set apart i ≡ not (eqb (bit_and m (bit_and apart parts_mask)) 0)
unfolding touches held_parts
touching set apart i {m} {x} d e =
    meet 64 (held_parts (code_at set i)) apart (packed_lt 64 0 _)
    ∙ ap (λ (y : ℕ). not (eqb (bit_and y apart) 0)) (sym (parts_is (code_at set i) (e ∙ ap held_mask d)))
    ∙ meets_parts m apart (held_mask_lem x e)

-- a mask that meets neither what was gathered nor what is apart
pub clear_of : (x : Code) (seen held : ℕ) {m : ℕ} → m ≡ held_mask x → bit_and m (bit_or seen held) ≡ 0
    → (not (eqb (bit_and m held) 0) ≡ false) × (not (eqb (bit_and m seen) 0) ≡ false)
clear_of x seen held {m} e z =
    neither (not (eqb (bit_and m held) 0)) (not (eqb (bit_and m seen) 0))
    (sym (meets_or m seen held (held_mask_lem x e)) ∙ ap not (eq-eqb (bit_and m (bit_or seen held)) 0 z))
