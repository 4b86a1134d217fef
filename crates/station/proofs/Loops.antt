-- The loops over a set's forty bytes. Assumes nothing.
use Rattle.std.proofs.Common.{◌≡◌, ℕ, suc, ◌+◌, ◌-◌, ◌*◌, ◌<◌, ◌≤◌, Bool, true, false, cond, not, ◌&&◌, ◌||◌, eqb, ltb, List, [], ◌∷◌, ◌++◌, length, get_or, take, set, replicate, sym, refl, ap, ◌∙◌, ap₂, append-nil, add-one, arith, length-take-le, take_all, take-suc, ltb-false, ltb-true, le-ltb, lt-ltb, eq-eqb, eqb-true}
use mathlib.Core.Path.{fun_ext}
use mathlib.Core.Bool.{and-false}
use lib.Bits.{bit_and, bit_or, or_self, or_add_and, and_le_l, and_le_r}
use lib.ListN.{get_or-eq_default}
use lib.Seq.{set_at, append_snoc}
use borrow.Author.Tests.{not-true}
use Rattle.bits.specs.Bits.{bit}
use Rattle.bits.specs.Search.{every, least}
use Rattle.bits.proofs.Cases.{split, alike, both, and_intro}
use Rattle.bits.proofs.Search.{every_is}
use Rattle.bits.proofs.Digits.{bit_none}
use Rattle.bits.proofs.Least.{Sought, sought_start, sought_turn, sought_end}
use Rattle.rules.specs.declared.Code.{Code}
use Rattle.station.specs.Held.{code_at, is_good, held_allowed, bad, touches, overlaps_earlier, barred, stranded, lift_in}
use Rattle.station.specs.Private.{held_mask, areas, first_of}
use Rattle.station.proofs.Areas.{areas_start, areas_turn, overlapping, parts_mask, touching, clear_of, lift_mask, lift_in_lem}
use Rattle.station.proofs.Moves.{allowed_good}
use Rattle.station.proofs.Padding.{five_at}

-- ---- four searches in one

-- a test picks what stands for its answer
pub where_true : (b : Bool) (x y : ℕ) → b ≡ true → x ≡ cond b x y
where_true b x y e = rw e

pub where_false : (b : Bool) (x y : ℕ) → b ≡ false → y ≡ cond b x y
where_false b x y e = rw e

-- the areas of the instructions below i, and of these the least that is bad, that touches what is apart, that overlaps an earlier one, that
-- has no mark and is not allowed
pub record Searched (set : List ℕ) (n marks r apart seen worst touched overlap closed i : ℕ) : Type 0 where
  pub gathered : seen ≡ areas set i
  pub worse : Sought (bad set) n i worst
  pub met : Sought (touches set apart) n i touched
  pub over : Sought (overlaps_earlier set) n i overlap
  pub shut : Sought (stranded marks set r) n i closed

pub search_starts : (set : List ℕ) (n marks r apart : ℕ) → Searched set n marks r apart 0 n n n n 0
search_starts set n marks r apart = record {
  gathered = areas_start set;
  worse = sought_start _ n;
  met = sought_start _ n;
  over = sought_start _ n;
  shut = sought_start _ n;
}

pub searches : {set : List ℕ} {n marks r apart seen worst touched overlap closed i m p t q u : ℕ} {x : Code} {good ok mark : Bool}
    → Searched set n marks r apart seen worst touched overlap closed i → i < n
    → x ≡ code_at set i → good ≡ is_good x → m ≡ held_mask x → ok ≡ held_allowed x (bit r) → mark ≡ bit marks i
    → p ≡ first_of worst n (not good) i → t ≡ first_of touched n (not (eqb (bit_and m (bit_and apart parts_mask)) 0)) i
    → q ≡ first_of overlap n (not (eqb (bit_and m seen) 0)) i → u ≡ first_of closed n (not mark && not ok) i
    → Searched set n marks r apart (bit_or seen m) p t q u (i + 1)
searches {set} {n} {marks} {r} {apart} {i = i} v h e g a o b d₁ d₄ d₂ d₃ = record {
  gathered = areas_turn set i v.gathered e a;
  worse = rw d₁ (sought_turn v.worse h (ap not (g ∙ ap is_good e)));
  met = rw d₄ (sought_turn v.met h (sym (touching set apart i e a)));
  over = rw d₂ (sought_turn v.over h (sym (overlapping set i v.gathered e a)));
  shut = rw d₃ (sought_turn v.shut h (ap₂ (λ (y b : Bool). not y && not b) b (o ∙ ap (λ (y : Code). held_allowed y (bit r)) e)));
}

-- one that has no fault leaves what was found
still : (found n i : ℕ) {b : Bool} → b ≡ false → found ≡ first_of found n b i
still found n i e = rw e

pub passes : {set : List ℕ} {n marks r apart seen worst touched overlap closed i m : ℕ} {x : Code} {good ok : Bool}
    → Searched set n marks r apart seen worst touched overlap closed i → i < n
    → x ≡ code_at set i → good ≡ is_good x → m ≡ held_mask x → ok ≡ held_allowed x (bit r)
    → ok ≡ true → bit_and m (bit_or seen (bit_and apart parts_mask)) ≡ 0
    → Searched set n marks r apart (bit_or seen m) worst touched overlap closed (i + 1)
passes {marks = marks} {r} {apart} {seen} {worst} {touched} {overlap} {closed} {i} {x = x} v h e g a o y z =
    let (t, w) = clear_of x seen (bit_and apart parts_mask) a z in
    searches v h e g a o refl (still worst _ i (ap not (g ∙ allowed_good x (bit r) (sym o ∙ y)))) (still touched _ i t) (still overlap _ i w)
    (still closed _ i (ap (λ (b : Bool). not (bit marks i) && not b) y ∙ and-false (not (bit marks i))))

pub search_ends : {set : List ℕ} {n marks r apart seen worst touched overlap closed i : ℕ}
    → Searched set n marks r apart seen worst touched overlap closed i → n ≤ i
    → (worst ≡ least n (bad set)) × (touched ≡ least n (touches set apart)) × (overlap ≡ least n (overlaps_earlier set)) × (closed ≡ least n (stranded marks set r))
    × (not (eqb (bit_and seen lift_mask) 0) ≡ lift_in set n)
search_ends {set} {n} {seen = seen} {i = i} v h =
    let end : i ≡ n = omega (arith, v.worse.within) in
    (sought_end v.worse h, sought_end v.met h, sought_end v.over h, sought_end v.shut h, lift_in_lem set n (v.gathered ∙ ap (areas set) end))

-- with no marks, each instruction is asked for
pub none_marked : (set : List ℕ) (n r : ℕ) → least n (stranded 0 set r) ≡ least n (barred set r)
none_marked set n r = ap (λ (p : ℕ → Bool). least n p) (fun_ext (λ i. rw (bit_none i)))

-- ---- the places past the first n instructions

-- a place is used, or zero
abbrev zero_at : List ℕ → ℕ → ℕ → Bool
zero_at set n k = ltb k (5 * n) || eqb (get_or set k 0) 0

-- each place below k is used or zero exactly if all that was seen is zero
pub record Zero (set : List ℕ) (n k seen : ℕ) : Type 0 where
  pub past : 5 * n ≤ k
  pub over : 40 < k → k ≡ 5 * n
  pub all : every k (zero_at set n) ≡ eqb seen 0

used_all : (set : List ℕ) (n m : ℕ) → m ≤ 5 * n → every m (zero_at set n) ≡ true
used_all set n m h = every_is m (zero_at set n) (λ j l. rw (lt-ltb j (5 * n) (omega arith)))

pub zero_start : (set : List ℕ) (n : ℕ) → Zero set n (5 * n) 0
zero_start set n = record { past = omega arith; over = λ l. refl; all = used_all set n (5 * n) (omega arith) }

-- two numbers are zero if all their bits together are
or_none : (a b : ℕ) → eqb b 0 && eqb a 0 ≡ eqb (bit_or a b) 0
or_none a b = alike (eqb b 0 && eqb a 0) (eqb (bit_or a b) 0)
    (λ e. let (p, q) = both (eqb b 0) (eqb a 0) e in eq-eqb _ 0 (ap₂ bit_or (eqb-true a 0 q) (eqb-true b 0 p) ∙ or_self 0))
    (λ e. let z = eqb-true (bit_or a b) 0 e in
    and_intro (eq-eqb b 0 (omega (arith, z, or_add_and a b, and_le_l a b))) (eq-eqb a 0 (omega (arith, z, or_add_and a b, and_le_r a b))))

pub zero_turn : {set : List ℕ} {n k seen : ℕ} → Zero set n k seen → k < 40 → Zero set n (k + 1) (bit_or seen (get_or set k 0))
unfolding every
zero_turn {set} {n} {k} {seen} v h = record {
  past = let w = v.past in omega arith;
  over = λ l. absurd (omega arith);
  all = rw (add-one k, le-ltb k (5 * n) v.past, v.all) (or_none seen (get_or set k 0));
}

-- a set of more than eight instructions has no place left
pub zero_all : {set : List ℕ} {n k seen : ℕ} → Zero set n k seen → 40 ≤ k → eqb seen 0 ≡ every 40 (zero_at set n)
zero_all {set} {n} {k} v h = split (ltb 40 k)
    (λ t. let l = ltb-true 40 k t in
    let e = v.over l in
    sym v.all ∙ used_all set n k (omega arith) ∙ sym (used_all set n 40 (omega arith)))
    (λ t. let l = ltb-false 40 k t in
    let e : k ≡ 40 = omega arith in sym v.all ∙ ap (λ (j : ℕ). every j (zero_at set n)) e)

-- ---- a copy of the first bytes

-- the first k are copied, the rest is zero
pub record Copied (from kept : List ℕ) (n k : ℕ) : Type 0 where
  pub within : k ≤ 5 * n
  pub holds : kept ≡ take k from ++ replicate (40 - k) 0

pub copy_start : (from : List ℕ) (n : ℕ) → Copied from (replicate 40 0) n 0
copy_start from n = record { within = omega arith; holds = refl }

pub copy_turn : {from kept : List ℕ} {n k : ℕ} → length from ≡ 40 → Copied from kept n k → k < 5 * n → k < 40
    → Copied from (set kept k (get_or from k 0)) n (k + 1)
copy_turn {from} {kept} {n} {k} e v h l = record {
  within = omega arith;
  holds =
      let s : set kept k (get_or from k 0) ≡ take k from ++ get_or from k 0 ∷ replicate (40 - (k + 1)) 0 =
      (rw (v.holds, room) (set_at (take k from) 0 (replicate (40 - (k + 1)) 0) (get_or from k 0) k (length-take-le k from (omega arith)))) in
      let t : take (k + 1) from ≡ take k from ++ (get_or from k 0 ∷ []) = (rw add-one (take-suc from k 0 (omega arith))) in
      s ∙ rw t (sym (append_snoc (take k from) (get_or from k 0) (replicate (40 - (k + 1)) 0)));
}
  where
    room : ◌≡◌ {A = List ℕ} (replicate (40 - k) 0) (0 ∷ replicate (40 - (k + 1)) 0)
    room = let z : 40 - k ≡ suc (40 - (k + 1)) = omega arith in rw z

pub copy_end : {from kept : List ℕ} {n k : ℕ} → Copied from kept n k → 5 * n ≤ k → kept ≡ take (5 * n) from ++ replicate (40 - 5 * n) 0
copy_end {from} {kept} {n} {k} v h = let z : k ≡ 5 * n = (let w = v.within in omega arith) in v.holds ∙ rw z

-- eight instructions or more take all places
pub all_used : (from : List ℕ) (n : ℕ) → length from ≡ 40 → 8 ≤ n → from ≡ take (5 * n) from ++ replicate (40 - 5 * n) 0
all_used from n e h = let z : 40 - 5 * n ≡ 0 = omega arith in rw (z, take_all (5 * n) from (omega arith)) (sym (append-nil from))

-- past the eighth instruction there are only zeros
pub past_eighth : (set : List ℕ) (i : ℕ) → length set ≡ 40 → 8 ≤ i → ◌≡◌ {A = Code} (record { op = 0; a = 0; b = 0; c = 0; d = 0 }) (code_at set i)
past_eighth set i e h =
    rw (
      five_at set i,
      zero (5 * i) (omega arith),
      zero (5 * i + 1) (omega arith),
      zero (5 * i + 2) (omega arith),
      zero (5 * i + 3) (omega arith),
      zero (5 * i + 4) (omega arith),
    )
  where
    zero : (k : ℕ) → 40 ≤ k → get_or set k 0 ≡ 0
    zero k l = get_or-eq_default set 0 (omega arith)
