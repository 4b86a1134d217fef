-- What one look at instruction i of a set tells a search, and what the searches for one that has the lift, or overlaps, end with. Assumes
-- nothing.
use Rattle.std.proofs.lemmas.List.FromFn.{length-range_with_len, get_or-range_with_len}
use Rattle.std.specs.List.{range_with_len, AllWithin, HoldsAt}
use Rattle.std.proofs.Common.{MatchBool, length, get_or, refl, ◌≡◌, ℕ, ◌<◌, ◌≤◌, Bool, true, false, not, List, sym, ap, ◌∙◌, ap₂, arith, lt-ltb, le-ltb, MatchOption}
use Rattle.std.specs.declared.option.Option.{Option}
use Rattle.std.specs.declared.option.Option.TheVariants.{Some, None}
use Rattle.plain_station.specs.Private.{first}
use Rattle.bits.specs.Bits.{image}
use Rattle.bits.specs.Places.{share}
use Rattle.bits.proofs.Search.{some_at, none_is}
use Rattle.bits.specs.Search.{least, some}
use Rattle.bits.proofs.Least.{least_is, least_none}
use Rattle.floor.specs.Floor.{lift}
use Rattle.rules.specs.Verdicts.{Verdict, is_allowed, code_verdict}
use Rattle.station.specs.Held.{code_at, held_area, touches, overlaps_earlier, barred, lift_in}
use Rattle.station.proofs.Moves.{held_verdict}
use Rattle.plain_moves.specs.declared.Parts.{Parts}
use Rattle.plain_moves.specs.Moves.{parts_bits, parts_at, meeting}
use Rattle.plain_station.proofs.Areas.{meets_apart, meets_area}

-- ---- one look

module _ (set : List ℕ) (i : ℕ) where
  -- it has the lift
  abbrev pub has_lift : Bool
  has_lift = share (held_area (code_at set i)) lift

  pub lift_seen : {a : Parts} {b : Bool} → a ≡ parts_at (held_area (code_at set i)) → a.lift ≡ b → has_lift ≡ b
  unfolding parts_at
  lift_seen e t = sym (ap (λ (p : Parts). p.lift) e) ∙ t

  pub touch_seen : (apart : Parts) {a : Parts} {m b : Bool} → a ≡ parts_at (held_area (code_at set i)) → m ≡ meeting a apart → m ≡ b
      → touches set (image (parts_bits apart)) i ≡ b
  touch_seen apart e f t = sym (meets_apart set i apart) ∙ ap (λ (p : Parts). meeting p apart) (sym e) ∙ sym f ∙ t

  -- it overlaps instruction j
  abbrev pub overlaps_one : ℕ → Bool
  overlaps_one j = share (held_area (code_at set i)) (held_area (code_at set j))

  pub overlap_seen : (j : ℕ) {a q : Parts} {m b : Bool} → a ≡ parts_at (held_area (code_at set i)) → q ≡ parts_at (held_area (code_at set j)) → m ≡ meeting a q → m ≡ b
      → overlaps_one j ≡ b
  overlap_seen j e d f t = sym (meets_area (code_at set i) (code_at set j)) ∙ ap₂ meeting (sym e) (sym d) ∙ sym f ∙ t

  pub verdict_seen : (r : ℕ) {v : Verdict} {m b : Bool} → v ≡ code_verdict (code_at set i) r → m ≡ is_allowed v → not m ≡ b → barred set r i ≡ b
  verdict_seen r e f t = ap not (sym (held_verdict (code_at set i) r e) ∙ sym f) ∙ t

-- ---- found or not

-- what a search over the first n numbers gives is the least that passes
pub first_found : (n : ℕ) (p : ℕ → Bool) (r : Option ℕ) → MatchOption r ((k : ℕ) → 0 ≤ k → k < n → p k ≡ false)
    (λ i. (0 ≤ i) × (i < n) × (p i ≡ true) × ((k : ℕ) → 0 ≤ k → k < i → p k ≡ false)) → r ≡ first n p
first_found n p None m =
    let l : least n p ≡ n = least_none n p (λ j h. m j (omega arith) h) in
    rw (l, le-ltb n n (omega arith))
first_found n p (Some i) m =
    let l : least n p ≡ i = least_is n i p m.1 (λ j h. m.3 j (omega arith) h) m.2 in
    rw (l, lt-ltb i n m.1)

-- and whether any of the first n numbers passes
pub any_found : (n : ℕ) (p : ℕ → Bool) (r : Bool)
    → MatchBool r ((k : ℕ) × (k < length (range_with_len 0 n)) × HoldsAt (λ i. p i ≡ true) (range_with_len 0 n) k)
    (AllWithin (λ i. p i ≡ false) (range_with_len 0 n) 0 (length (range_with_len 0 n)))
    → r ≡ some n p
any_found n p true m =
    let l = length-range_with_len 0 n in
    let e : get_or (range_with_len 0 n) m.0 0 ≡ m.0 = get_or-range_with_len 0 n m.0 0 (omega (arith, l, m.1)) ∙ omega arith in
    sym (some_at n p m.0 (omega (arith, l, m.1)) (rw e at (m.2 0)))
any_found n p false m = sym (none_is n p (λ j h. none j h))
  where
    none : (j : ℕ) → j < n → p j ≡ false
    none j h =
        let e : get_or (range_with_len 0 n) j 0 ≡ j = get_or-range_with_len 0 n j 0 h ∙ omega arith in
        rw e at (m j 0 (omega arith) (omega (arith, length-range_with_len 0 n)))

-- said of the lift, and of the earlier ones
pub lift_is : (set : List ℕ) (n : ℕ) → some n (has_lift set) ≡ lift_in set n
unfolding lift_in
lift_is set n = refl

pub overlap_is : (set : List ℕ) (i : ℕ) → some i (overlaps_one set i) ≡ overlaps_earlier set i
unfolding overlaps_earlier
overlap_is set i = refl
