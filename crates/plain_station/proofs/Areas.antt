-- The parts that instructions take, as lists of places and as parts: they meet exactly where the places are shared, and what is set apart
-- grows by them. Assumes nothing.
use Rattle.std.proofs.Common.{◌≡◌, ℕ, ◌+◌, ◌-◌, ◌<◌, ◌≤◌, Bool, true, false, ◌&&◌, ◌||◌, ltb, List, sym, ap, ◌∙◌, ap₂, arith, ltb-false, ltb-true, le-ltb, lt-ltb, ne_eqb}
use mathlib.Core.Path.{fun_ext}
use lib.Bits.{bit_or}
use Rattle.bits.specs.Bits.{Bits, bit, image}
use Rattle.bits.specs.Places.{elem, share}
use Rattle.bits.specs.Search.{some}
use Rattle.bits.proofs.Cases.{split, clash, both, and_intro, alike}
use Rattle.bits.proofs.Search.{some_at, some_is}
use Rattle.bits.proofs.Sharing.{share_at, share_is}
use Rattle.bits.proofs.Operations.{bit_or_lem}
use Rattle.floor.specs.Floor.{lift}
use Rattle.rules.specs.declared.Code.{Code}
use Rattle.station.specs.Held.{code_at, held_area, parts_in, held_parts, touches}
use Rattle.station.proofs.Areas.{held_small, held_upper}
use Rattle.plain.proofs.Listing.{listed_at}
use Rattle.plain_moves.specs.declared.Parts.{Parts}
use Rattle.plain_moves.specs.Moves.{parts_bits, parts_of, parts_at, meeting, together}
use Rattle.plain_station.proofs.Standing.{none_past, parts_bits_lem}

-- ---- parts of places

-- the bits of the parts are those that a number for what is set apart has
parts_in_lem : (ks : List ℕ) → parts_bits (parts_at ks) ≡ parts_in ks
unfolding parts_bits parts_at parts_in
parts_in_lem ks = fun_ext (λ k. split (ltb k 40)
    (λ t. let h = ltb-true k 40 t in rw (t, lt-ltb k 52 (omega arith)) (listed_at 40 k (λ j. elem j ks) h))
    (λ t. let h = ltb-false k 40 t in split (ltb k 52)
    (λ u. let l = ltb-true k 52 u in
    let e : 40 + (k - 40) ≡ k = omega arith in
    rw (t, u) (listed_at 12 (k - 40) (λ j. elem (40 + j) ks) (omega arith) ∙ ap (λ (j : ℕ). elem j ks) e))
    (λ u. rw (t, u))))

-- so the bits of that number
stuck_bits : (x : Code) → bit (held_parts x) ≡ parts_bits (parts_at (held_area x))
unfolding held_parts parts_in
stuck_bits x = none_past (parts_in (held_area x)) (λ k h. rw (le-ltb k 52 (omega arith), ne_eqb k 52 (λ e. omega arith))) ∙ sym (parts_in_lem (held_area x))

-- what is set apart with an instruction's area
pub apart_with : (a : Parts) (x : Code) → parts_of (bit (bit_or (image (parts_bits a)) (held_parts x))) ≡ together a (parts_at (held_area x))
unfolding together
apart_with a x = ap parts_of (fun_ext (λ k. bit_or_lem (image (parts_bits a)) (held_parts x) k
    ∙ ap₂ ◌||◌ (ap (λ (f : Bits). f k) (parts_bits_lem a)) (ap (λ (f : Bits). f k) (stuck_bits x))))

-- ---- meeting

-- where nothing passes from n on, it is enough to look below n
some_less : (n m : ℕ) (p : ℕ → Bool) → n ≤ m → ((j : ℕ) → n ≤ j → p j ≡ false) → some n p ≡ some m p
some_less n m p h none = alike (some n p) (some m p)
    (λ e. let (j, l, t) = some_is n p e in some_at m p j (omega arith) t)
    (λ e. let (j, l, t) = some_is m p e in split (ltb j n) (λ u. some_at n p j (ltb-true j n u) t) (λ u. clash t (none j (ltb-false j n u))))

past : (ks : List ℕ) (j : ℕ) → 53 ≤ j → parts_in ks j ≡ false
unfolding parts_in
past ks j h = rw (le-ltb j 52 (omega arith), ne_eqb j 52 (λ e. omega arith))

-- an instruction's area meets what is set apart
pub meets_apart : (set : List ℕ) (i : ℕ) (a : Parts) → meeting (parts_at (held_area (code_at set i))) a ≡ touches set (image (parts_bits a)) i
unfolding meeting touches
meets_apart set i a =
    let x = code_at set i in
    some_less 53 64 (λ k. parts_bits (parts_at (held_area x)) k && parts_bits a k) (omega arith) (λ j h. rw (parts_in_lem (held_area x), past (held_area x) j h))
    ∙ ap₂ (λ (f g : Bits). some 64 (λ k. f k && g k)) (sym (stuck_bits x)) (sym (parts_bits_lem a))

-- an area is of places of the record, and has the lift whole or not at all
module _ (x : Code) where
  -- a part below 53 is a place
  part_place : (k : ℕ) → k < 53 → parts_in (held_area x) k ≡ elem k (held_area x)
  unfolding parts_in
  part_place k h = split (ltb k 52)
      (λ t. rw t)
      (λ t. let l = ltb-false k 52 t in let e : k ≡ 52 = omega arith in rw e (sym (held_upper x 0 (omega arith))))

  -- a place from 53 on is the lift's
  lift_place : (k : ℕ) → 53 ≤ k → elem k (held_area x) ≡ true → parts_in (held_area x) 52 ≡ true
  unfolding parts_in
  lift_place k h m =
      let l = held_small x k m in
      let e : 52 + (k - 52) ≡ k = omega arith in
      (both (ltb (k - 52) 3) (share (held_area x) lift) (sym (held_upper x (k - 52) (omega arith)) ∙ ap (λ (j : ℕ). elem j (held_area x)) e ∙ m)).1

-- two instructions' parts meet exactly where their areas share a place
pub meets_area : (x y : Code) → meeting (parts_at (held_area x)) (parts_at (held_area y)) ≡ share (held_area x) (held_area y)
unfolding meeting
meets_area x y = alike _ _ found shared
  where
    meet : ℕ → Bool
    meet k = parts_bits (parts_at (held_area x)) k && parts_bits (parts_at (held_area y)) k

    at : (k : ℕ) → meet k ≡ parts_in (held_area x) k && parts_in (held_area y) k
    at k = rw (parts_in_lem (held_area x), parts_in_lem (held_area y))

    found : some 53 meet ≡ true → share (held_area x) (held_area y) ≡ true
    found e =
        let (k, l, t) = some_is 53 meet e in
        let (p, q) = both (parts_in (held_area x) k) (parts_in (held_area y) k) (sym (at k) ∙ t) in
        share_is (held_area x) (held_area y) k (sym (part_place x k l) ∙ p) (sym (part_place y k l) ∙ q)

    shared : share (held_area x) (held_area y) ≡ true → some 53 meet ≡ true
    shared e =
        let (k, p, q) = share_at (held_area x) (held_area y) e in
        split (ltb k 53)
        (λ t. let h = ltb-true k 53 t in some_at 53 meet k h (at k ∙ and_intro (part_place x k h ∙ p) (part_place y k h ∙ q)))
        (λ t. let h = ltb-false k 53 t in some_at 53 meet 52 (omega arith) (at 52 ∙ and_intro (lift_place x k h p) (lift_place y k h q)))
