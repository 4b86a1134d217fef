-- Instructions of a set by their parts: two overlap exactly if they take a part in common. Assumes nothing.
use Rattle.std.proofs.Common.{◌≡◌, ℕ, ◌+◌, ◌-◌, ◌*◌, ◌^◌, ◌<◌, ◌≤◌, Bool, true, false, cond, not, ◌&&◌, eqb, ltb, List, [], get_or, sym, refl, ap, ◌∙◌, ap₂, arith, ltb-false, ltb-true, lt-ltb, eq-eqb, ne_eqb}
use lib.Bits.{bit_and}
use Rattle.bits.specs.Bits.{bit, packed, image}
use Rattle.bits.specs.Places.{elem, share}
use Rattle.bits.specs.Search.{some}
use Rattle.bits.proofs.Cases.{split, both, alike, and_intro}
use Rattle.bits.proofs.Search.{some_at, some_is}
use Rattle.bits.proofs.Digits.{packed_lt, bit_image, bit_ones}
use Rattle.bits.proofs.Operations.{bit_and_lem}
use Rattle.bits.proofs.Meeting.{meet}
use Rattle.bits.proofs.Sharing.{share_masks}
use Rattle.floor.specs.Floor.{lift}
use Rattle.rules.specs.declared.Instruction.{Instruction}
use Rattle.rules.specs.declared.Code.{Code}
use Rattle.rules.specs.declared.Instruction.{Instruction}
use Rattle.std.specs.declared.option.Option.{Option}
use Rattle.std.specs.declared.option.Option.TheVariants.{Some, None}
use Rattle.rules.specs.Rules.{area_of, area}
use Rattle.rules.specs.Codes.{read_code}
use Rattle.std.specs.Prelude.{unwrap_or}
use Rattle.rules.specs.Verdicts.{on_code, mask_of, code_mask}
use Rattle.rules.proofs.CodeLaws.{one_form_lem}
use Rattle.answers.specs.declared.Answer.{Answer}
use Rattle.answers.specs.declared.Answer.TheVariants.{Overlap}
use Rattle.answers.specs.Answers.{number_of, place_of, nowhere}
use Rattle.station.specs.Held.{code_at, held_area, held_parts}
use Rattle.station.specs.Private.{held_mask}
use Rattle.station.proofs.Areas.{held_small, held_upper, parts_mask, parts_is}
use Rattle.station.proofs.Padding.{five_at}
use Rattle.plan.specs.declared.Grounds.{Grounds}
use Rattle.plan.specs.Plans.{overlaps_that, first_overlapped, shared_parts, refused_set}

-- ---- what five bytes take

-- five bytes, each read by itself
pub code_so : (set : List ℕ) (i : ℕ) {o a b c d : ℕ}
    → o ≡ get_or set (5 * i) 0 → a ≡ get_or set (5 * i + 1) 0 → b ≡ get_or set (5 * i + 2) 0 → c ≡ get_or set (5 * i + 3) 0 → d ≡ get_or set (5 * i + 4) 0
    → ◌≡◌ {A = Code} (record { op = o; a = a; b = b; c = c; d = d }) (code_at set i)
code_so set i e f g h k = rw (e, f, g, h, k) (sym (five_at set i))

-- an area is its mask, and that of bytes that say nothing is empty
area_mask_lem : (x : Code) → unwrap_or (code_mask x) 0 ≡ held_mask x
unfolding code_mask mask_of held_mask held_area area packed
area_mask_lem x = read (read_code x) refl
  where
    read : (g : (Option Instruction)) → read_code x ≡ g → unwrap_or (on_code mask_of None g) 0 ≡ image (λ k. elem k (on_code area_of [] g))
    read (Some i) e = rw (one_form_lem x i e).1
    read None e = refl

pub parts_so : (set : List ℕ) (i : ℕ) {x : Code} {m : Option ℕ} {a : ℕ} → x ≡ code_at set i → m ≡ code_mask x → a ≡ unwrap_or m 0
    → bit_and a parts_mask ≡ held_parts (code_at set i)
parts_so set i {x} d e f =
    parts_is (code_at set i) (f ∙ ap (λ (o : Option ℕ). unwrap_or o 0) e ∙ area_mask_lem x ∙ ap held_mask d)

-- ---- two instructions

-- a place of an area is one of its bits
mask_bit : (x : Code) (k : ℕ) → k < 64 → bit (held_mask x) k ≡ elem k (held_area x)
unfolding held_mask
mask_bit x k h = bit_image (λ j. elem j (held_area x)) k h

-- a part of an area below 53 is a place of it
part_bit : (x : Code) (k : ℕ) → k < 53 → bit (held_parts x) k ≡ bit (held_mask x) k
part_bit x k h =
    ap (λ (y : ℕ). bit y k) (sym (parts_is x refl)) ∙ bit_and_lem (held_mask x) parts_mask k
    ∙ ap (λ (b : Bool). bit (held_mask x) k && b) (bit_ones 53 k h) ∙ same (bit (held_mask x) k)
  where
    same : (b : Bool) → b && true ≡ b
    same true = refl
    same false = refl

-- from the lift's first place on an area has the lift whole, or nothing
lift_first : (x : Code) (k : ℕ) → k < 64 → 52 ≤ k → bit (held_mask x) k ≡ true → bit (held_parts x) 52 ≡ true
lift_first x k h l e =
    let j = k - 52 in
    let z : 52 + (k - 52) ≡ k = omega arith in
    let at : elem (52 + (k - 52)) (held_area x) ≡ true = ap (λ (m : ℕ). elem m (held_area x)) z ∙ sym (mask_bit x k h) ∙ e in
    let w : share (held_area x) lift ≡ true = (both (ltb (k - 52) 3) (share (held_area x) lift) (sym (held_upper x (k - 52) (omega arith)) ∙ at)).1 in
    part_bit x 52 (omega arith) ∙ mask_bit x 52 (omega arith) ∙ held_upper x 0 (omega arith) ∙ w

-- what two masks have in common at a place; two instructions have a part in common where their areas have a place
module _ (x y : Code) where
  abbrev in_areas : ℕ → Bool
  in_areas k = bit (held_mask x) k && bit (held_mask y) k

  abbrev in_parts : ℕ → Bool
  in_parts k = bit (held_parts x) k && bit (held_parts y) k

  to_parts : some 64 in_areas ≡ true → some 64 in_parts ≡ true
  to_parts e =
      let (k, h, t) = some_is 64 in_areas e in
      let (p, q) = both (bit (held_mask x) k) (bit (held_mask y) k) t in
      split (ltb k 52)
      (λ u. let l = ltb-true k 52 u in
      some_at 64 in_parts k h (and_intro (part_bit x k (omega arith) ∙ p) (part_bit y k (omega arith) ∙ q)))
      (λ u. let l = ltb-false k 52 u in
      some_at 64 in_parts 52 (omega arith) (and_intro (lift_first x k h l p) (lift_first y k h l q)))

  masked : (z : Code) (k : ℕ) → bit (held_parts z) k ≡ true → bit (held_mask z) k ≡ true
  masked z k e = (both (bit (held_mask z) k) (bit parts_mask k) (sym (bit_and_lem (held_mask z) parts_mask k) ∙ ap (λ (m : ℕ). bit m k) (parts_is z refl) ∙ e)).0

  to_areas : some 64 in_parts ≡ true → some 64 in_areas ≡ true
  to_areas e =
      let (k, h, t) = some_is 64 in_parts e in
      let (p, q) = both (bit (held_parts x) k) (bit (held_parts y) k) t in
      some_at 64 in_areas k h (and_intro (masked x k p) (masked y k q))

  -- they overlap exactly if they have a part in common
  pub share_parts : share (held_area x) (held_area y) ≡ not (eqb (bit_and (held_parts x) (held_parts y)) 0)
  unfolding held_mask held_parts
  share_parts =
      share_masks (held_area x) (held_area y) (held_small x)
      ∙ sym (meet 64 (held_mask x) (held_mask y) (packed_lt 64 0 (λ k. elem k (held_area x))))
      ∙ alike (some 64 in_areas) (some 64 in_parts) to_parts to_areas
      ∙ meet 64 (held_parts x) (held_parts y) (packed_lt 64 0 _)

-- the code's test of instructions i and j
pub overlap_so : (set : List ℕ) (i j : ℕ) {own other : ℕ} → own ≡ held_parts (code_at set i) → other ≡ held_parts (code_at set j)
    → not (eqb (bit_and own other) 0) ≡ overlaps_that set i j
overlap_so set i j e f = rw (e, f) (sym (share_parts (code_at set i) (code_at set j)))

pub meets_not : (m : ℕ) → m ≡ 0 → not (eqb m 0) ≡ false
meets_not m e = ap not (eq-eqb m 0 e)

pub meets_so : (m : ℕ) → (m ≡ 0 → ⊥) → not (eqb m 0) ≡ true
meets_so m h = ap not (ne_eqb m 0 h)

-- ---- the grounds of a refusal

module _ (k bits : ℕ) (set : List ℕ) (a : Answer) {number place : ℕ} (e : number ≡ number_of a) (f : place ≡ place_of a) where
  pub refused_overlap : {i earlier p q : ℕ} → a ≡ Overlap i → earlier ≡ first_overlapped set i
      → p ≡ held_parts (code_at set i) → q ≡ held_parts (code_at set earlier)
      → ◌≡◌ {A = Grounds} (record { number = number; set = k; place = place; earlier = earlier; parts = bit_and p q; bits = bits }) (refused_set k bits set a)
  unfolding refused_set
  refused_overlap {i} h g m n =
      let x : number ≡ 8 = e ∙ ap number_of h in
      let y : place ≡ i = f ∙ ap place_of h in
      rw (m, n, g, ← y, ← e, ← f, eq-eqb number 8 x)

  pub refused_other : {p : ℕ} → (number_of a ≡ 8 → ⊥) → p ≡ cond (eqb (number_of a) 31) (2 ^ 52) 0
      → ◌≡◌ {A = Grounds} (record { number = number; set = k; place = place; earlier = nowhere; parts = p; bits = bits }) (refused_set k bits set a)
  unfolding refused_set
  refused_other h g = rw (g, ← e, ← f, ne_eqb number 8 (λ z. h (sym e ∙ z)))
