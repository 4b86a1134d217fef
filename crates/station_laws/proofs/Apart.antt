-- What is set apart, as the machine of the crate `sets` has it: the number's bits for cells and slots, and its bit of the lift for the lift's
-- places and the drives. A stuck instruction adds its reach, and an instruction or an event meets it exactly where the station says so.
-- Assumes nothing.
use mathlib.Core.Path.{◌≡◌, refl, sym, ap, ap₂, fun_ext, ◌∙◌}
use mathlib.Core.Bool.{Bool, true, false, not, cond, ◌&&◌, ◌||◌, and-false, or-false, or_comm}
use mathlib.Core.List.{[], ◌++◌}
use Prim.Native.Nat.{ℕ, ◌+◌, ◌-◌, ◌^◌, ◌≤◌, ◌<◌}
use native.Mathlib.Omega.{arith}
use lib.Bits.{bit_or}
use lib.Dec.{eqb, ltb}
use borrow.Author.Tests.{ltb-true, ltb-false, lt-ltb, le-ltb, eqb-true, not-true}
use Rattle.bits.specs.Bits.{bit}
use Rattle.bits.specs.Places.{elem, share}
use Rattle.bits.specs.Search.{some, every}
use Rattle.bits.proofs.Cases.{split, off, both, alike, and_intro}
use Rattle.bits.proofs.Digits.{bit_image, bit_none, bit_ext}
use Rattle.bits.proofs.Lists.{elem_append}
use Rattle.bits.proofs.Operations.{bit_or_lem}
use Rattle.bits.proofs.Sharing.{are_small}
use Rattle.bits.proofs.Search.{every_at, some_at, some_is}
use Rattle.floor.specs.Floor.{lift, drives}
use Rattle.rules.specs.declared.Code.{Code}
use Rattle.any_order.proofs.Machine.{meets, lost}
use Rattle.station.specs.Held.{held_area, parts_in, held_parts}
use Rattle.station.proofs.Areas.{same_as, held_small, held_upper}
use Rattle.station_laws.proofs.Reach.{reach}
use Rattle.station_laws.proofs.Instance.{rules}

-- the places that a number sets apart: below 52 its own bits, the lift and the drives by bit 52
abbrev pub away_of : ℕ → ℕ → Bool
away_of a k = cond (ltb k 52) (bit a k) (ltb k 57 && bit a 52)

-- ---- a reach, place by place

-- the lift and the drives are the places 52 to 56
abbrev lift_place : ℕ → Bool
lift_place k = not (ltb k 52) && ltb k 57

lift_places : (k : ℕ) → k < 64 → elem k (lift ++ drives) ≡ lift_place k
unfolding every
lift_places k h = same_as _ _ (every_at 64 (λ j. cond (lift_place j) (elem j (lift ++ drives)) (not (elem j (lift ++ drives)))) all k h)
  where
    all : every 64 (λ j. cond (lift_place j) (elem j (lift ++ drives)) (not (elem j (lift ++ drives)))) ≡ true
    all = refl

-- and the drives 55 and 56
drive_places : (k : ℕ) → k < 64 → elem k drives ≡ not (ltb k 55) && ltb k 57
unfolding every
drive_places k h = same_as _ _ (every_at 64 (λ j. cond (not (ltb j 55) && ltb j 57) (elem j drives) (not (elem j drives))) all k h)
  where
    all : every 64 (λ j. cond (not (ltb j 55) && ltb j 57) (elem j drives) (not (elem j drives))) ≡ true
    all = refl

module _ (x : Code) where
  abbrev lifts : Bool
  lifts = share (held_area x) lift

  -- above 51, an area has the lift whole or nothing
  upper : (k : ℕ) → k < 64 → ltb k 52 ≡ false → elem k (held_area x) ≡ ltb k 55 && lifts
  upper k h t =
      let l = ltb-false k 52 t in
      let e : 52 + (k - 52) ≡ k = omega arith in
      ap (λ (j : ℕ). elem j (held_area x)) (sym e) ∙ held_upper x (k - 52) (omega arith) ∙ ap (λ (b : Bool). b && lifts) (shifted k l)
    where
      shifted : (k : ℕ) → 52 ≤ k → ltb (k - 52) 3 ≡ ltb k 55
      shifted k l = split (ltb k 55)
          (λ u. let m = ltb-true k 55 u in rw u (lt-ltb (k - 52) 3 (omega arith)))
          (λ u. let m = ltb-false k 55 u in rw u (le-ltb (k - 52) 3 (omega arith)))

  pub reach_at : (k : ℕ) → k < 64 → elem k (reach x) ≡ cond (ltb k 52) (elem k (held_area x)) (ltb k 57 && lifts)
  reach_at k h = elem_append k (held_area x) (cond lifts drives []) ∙ split (ltb k 52)
      (λ t. rw t (split lifts (λ u. rw (u, drive_places k h) (low k (ltb-true k 52 t))) (λ u. rw u (or-false (elem k (held_area x))))))
      (λ t. rw (t, upper k h t) (split lifts (λ u. rw (u, drive_places k h) (high k)) (λ u. rw u (none k))))
    where
      low : (k : ℕ) → k < 52 → elem k (held_area x) || (not (ltb k 55) && ltb k 57) ≡ elem k (held_area x)
      low k l = rw (lt-ltb k 55 (omega arith)) (or-false (elem k (held_area x)))

      high : (k : ℕ) → (ltb k 55 && true) || (not (ltb k 55) && ltb k 57) ≡ ltb k 57 && true
      high k = split (ltb k 55)
          (λ u. let m = ltb-true k 55 u in rw (u, lt-ltb k 57 (omega arith)))
          (λ u. rw u (split (ltb k 57) (λ v. rw v) (λ v. rw v)))

      none : (k : ℕ) → (ltb k 55 && false) || false ≡ ltb k 57 && false
      none k = or-false (ltb k 55 && false) ∙ and-false (ltb k 55) ∙ sym (and-false (ltb k 57))

  -- ---- a stuck instruction

  part_low : (k : ℕ) → ltb k 52 ≡ true → bit (held_parts x) k ≡ elem k (held_area x)
  unfolding held_parts parts_in
  part_low k t = let l = ltb-true k 52 t in bit_image (parts_in (held_area x)) k (omega arith) ∙ rw t

  pub part_lift : bit (held_parts x) 52 ≡ lifts
  unfolding held_parts parts_in
  part_lift = bit_image (parts_in (held_area x)) 52 (omega arith)

  -- its parts are its reach
  parts_away : (k : ℕ) → k < 64 → away_of (held_parts x) k ≡ elem k (reach x)
  parts_away k h = sym (reach_at k h ∙ split (ltb k 52)
      (λ t. rw (t, part_low k t))
      (λ t. rw (t, part_lift)))

  away_or : (a b k : ℕ) → away_of (bit_or a b) k ≡ away_of b k || away_of a k
  away_or a b k = split (ltb k 52)
      (λ t. rw (t, bit_or_lem a b k) (or_comm (bit a k) (bit b k)))
      (λ t. rw (t, bit_or_lem a b 52) (split (ltb k 57) (λ u. rw u (or_comm (bit a 52) (bit b 52))) (λ u. rw u)))

  -- past the record's bits there is nothing
  none_past : (k : ℕ) → 64 ≤ k → (a : ℕ) → away_of a k ≡ false
  none_past k h a = rw (le-ltb k 52 (omega arith), le-ltb k 57 (omega arith))

  reach_past : (k : ℕ) → 64 ≤ k → elem k (reach x) ≡ false
  reach_past k h = elem_append k (held_area x) (cond lifts drives [])
      ∙ rw (off (elem k (held_area x)) (λ e. absurd (let l = held_small x k e in omega arith)))
      (split lifts (λ u. rw u (drive_past k h)) (λ u. rw u))
    where
      drive_past : (k : ℕ) → 64 ≤ k → elem k drives ≡ false
      drive_past k h = off (elem k drives) (λ e. absurd (let l = are_small drives tt k e in omega arith))

  pub stuck_away : (a k : ℕ) → away_of (bit_or a (held_parts x)) k ≡ elem k (reach x) || away_of a k
  stuck_away a k = split (ltb k 64)
      (λ t. away_or a (held_parts x) k ∙ ap (λ (b : Bool). b || away_of a k) (parts_away k (ltb-true k 64 t)))
      (λ t. let h = ltb-false k 64 t in none_past k h (bit_or a (held_parts x)) ∙ sym (ap₂ ◌||◌ (reach_past k h) (none_past k h a)))

  -- ---- what meets it

  abbrev touched : ℕ → Bool
  touched a = some 64 (λ k. bit (held_parts x) k && bit a k)

  -- a part above 51 is the lift's
  part_high : (k : ℕ) → k < 64 → ltb k 52 ≡ false → bit (held_parts x) k ≡ true → (k ≡ 52) × (lifts ≡ true)
  unfolding held_parts parts_in
  part_high k h t p =
      let e : eqb k 52 && lifts ≡ true = rw t at (sym (bit_image (parts_in (held_area x)) k h) ∙ p) in
      let (m, c) = both (eqb k 52) lifts e in
      (eqb-true k 52 m, c)

  pub meets_touched : (a : ℕ) → meets rules (rules.area x) (away_of a) ≡ touched a
  meets_touched a = alike (meets rules (rules.area x) (away_of a)) (touched a) there back
    where
      there : meets rules (rules.area x) (away_of a) ≡ true → touched a ≡ true
      there e =
          let (k, h, u) = some_is 64 _ e in
          let (p, q) = both (elem k (reach x)) (away_of a k) u in
          split (ltb k 52)
          (λ t. some_at 64 _ k h (and_intro (part_low k t ∙ (rw t at (sym (reach_at k h) ∙ p))) (rw t at q)))
          (λ t. let (m, b) = both (ltb k 57) (bit a 52) (rw t at q) in
          let (n, c) = both (ltb k 57) lifts (rw t at (sym (reach_at k h) ∙ p)) in
          some_at 64 _ 52 (omega arith) (and_intro (part_lift ∙ c) b))

      back : touched a ≡ true → meets rules (rules.area x) (away_of a) ≡ true
      back e =
          let (k, h, u) = some_is 64 _ e in
          let (p, q) = both (bit (held_parts x) k) (bit a k) u in
          split (ltb k 52)
          (λ t. some_at 64 _ k h (and_intro (reach_at k h ∙ rw t (sym (part_low k t) ∙ p)) (rw t q)))
          (λ t. let (m, c) = part_high k h t p in
          some_at 64 _ 52 (omega arith) (and_intro (reach_at 52 (omega arith) ∙ c) (ap (λ (j : ℕ). bit a j) (sym m) ∙ q)))

-- of the lift a part is set apart exactly if its bit is
pub lost_lift : (a : ℕ) → lost rules (away_of a) ≡ bit a 52
lost_lift a = alike (lost rules (away_of a)) (bit a 52)
    (λ e.
    let (k, h, u) = some_is 64 _ e in
    let (p, q) = both (elem k (lift ++ drives)) (away_of a k) u in
    let (m, n) = both (not (ltb k 52)) (ltb k 57) (sym (lift_places k h) ∙ p) in
    (both (ltb k 57) (bit a 52) (rw (not-true (ltb k 52) m) at q)).1)
    (λ e. some_at 64 _ 52 (omega arith) (and_intro refl e))

-- nothing is
pub none_away : away_of 0 ≡ (λ k. false)
none_away = fun_ext (λ k. split (ltb k 52) (λ t. rw (t, bit_none k)) (λ t. rw (t, bit_none 52) (and-false (ltb k 57))))

-- two numbers that set the same places apart are the same
pub away_same : (a b : ℕ) → a < 2 ^ 53 → b < 2 ^ 53 → ((k : ℕ) → away_of a k ≡ away_of b k) → a ≡ b
away_same a b p q e = bit_ext 53 a b p q (λ k h. split (ltb k 52)
    (λ t. rw t at (e k))
    (λ t. let l = ltb-false k 52 t in
    let is : k ≡ 52 = omega arith in
    ap (bit a) is ∙ e 52 ∙ ap (bit b) (sym is)))
