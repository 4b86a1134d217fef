-- What a fit station has, and that every call that is taken leaves one: the start, another record, a set opened, a result noted.
-- Assumes nothing.
use mathlib.Core.Path.{◌≡◌, refl, ap, subst, ◌∙◌}
use mathlib.Core.Bool.{Bool, true, false, not, ◌&&◌, ◌||◌, and-false, or-true}
use mathlib.Core.List.{List}
use Prim.Native.Nat.{ℕ, zero, suc, ◌*◌, ◌-◌, ◌^◌, ◌≤◌, ◌<◌}
use native.Mathlib.Omega.{arith}
use lib.Bits.{bit_or, or_lt, and_le_r}
use lib.Dec.{eqb, ltb}
use lib.ListN.{get_or}
use borrow.Author.Tests.{leb-true, le-leb, lt-ltb, ltb-true, ltb-false, eqb-true, not-true, not-false}
use Rattle.bits.specs.Bits.{bit}
use Rattle.bits.specs.Places.{share}
use Rattle.bits.specs.Search.{some, every}
use Rattle.bits.proofs.Cases.{split, both}
use Rattle.bits.proofs.Digits.{bit_none}
use Rattle.bits.proofs.Search.{every_at, every_is, none_is, some_at, some_same}
use Rattle.floor.specs.Floor.{lift}
use Rattle.floor.specs.Tests.{holds, under_way}
use Rattle.floor.specs.Sound.{paired, sound}
use Rattle.rules.specs.declared.Code.{Code}
use Rattle.rules.specs.Codes.{most_in_set}
use Rattle.station.specs.declared.Station.{Station}
use Rattle.station.specs.Held.{code_at, held_parts, held_area, held_allowed, bad, overlaps_earlier, stranded, lift_in, crosses_drive}
use Rattle.station.specs.Station.{fit, marked, place_used, closed, start_of, noting, opened, answering, apart_with}
use Rattle.any_order.proofs.Marks.{marks}
use Rattle.station_laws.specs.AnswersRight.{Acceptable, Waiting}
use Rattle.station.specs.Private.{held_mask}
use Rattle.station.proofs.Areas.{parts_mask, parts_is}
use Rattle.station.proofs.Padding.{kept_code, zero_past}
use Rattle.station_laws.proofs.Reach.{clear_is}

-- each unanswered instruction of its set is allowed
abbrev pub Ready : Station → Type 0
Ready s = every s.count (λ i. not (stranded s.answered s.set s.bits i)) ≡ true

pub record Fit (s : Station) : Type 0 where
  pub sound : sound s.bits ≡ true
  pub few : s.count ≤ most_in_set
  pub good : every s.count (λ i. not (bad s.set i)) ≡ true
  pub marks : every 8 (λ i. not (marked s i) || ltb i s.count) ≡ true
  pub blank : every 40 (λ k. place_used s k || eqb (get_or s.set k 0) 0) ≡ true
  pub owed : eqb s.count 0 || some s.count (λ i. not (marked s i)) ≡ true
  pub clear : crosses_drive s.bits s.set s.count ≡ false
  pub apart : every s.count (λ i. not (overlaps_earlier s.set i)) ≡ true
  pub ready : Ready s
  pub within : s.apart < 2 ^ 53

pub fit_has : (s : Station) → fit s ≡ true → Fit s
unfolding fit
fit_has s e =
    let (a, e₁) = both _ _ e in
    let (b, e₂) = both _ _ e₁ in
    let (c, e₃) = both _ _ e₂ in
    let (d, e₄) = both _ _ e₃ in
    let (f, e₅) = both _ _ e₄ in
    let (g, e₆) = both _ _ e₅ in
    let (h, e₇) = both _ _ e₆ in
    let (x, e₈) = both _ _ e₇ in
    let (y, z) = both _ _ e₈ in
    record { sound = a; few = leb-true s.count most_in_set b; good = c; marks = d; blank = f; owed = g; clear = not-true _ h; apart = x; ready = y; within = ltb-true s.apart (2 ^ 53) z }

has_fit : (s : Station) → Fit s → fit s ≡ true
unfolding fit
has_fit s F = rw (F.sound, le-leb s.count most_in_set F.few, F.good, F.marks, F.blank, F.owed, F.clear, F.apart, F.ready, lt-ltb s.apart (2 ^ 53) F.within)

-- ---- no set

pub fit_closed : (r next apart : ℕ) → sound r ≡ true → apart < 2 ^ 53 → fit (closed r next apart) ≡ true
unfolding fit every some lift_in crosses_drive
fit_closed r next apart e h = rw (e, and-false (holds under_way (bit r)), lt-ltb apart (2 ^ 53) h)

pub fit_start : fit start_of ≡ true
unfolding sound paired
fit_start = fit_closed start_of.bits 0 0 refl (omega arith)

-- ---- another record

pub fit_holding : (s : Station) (r apart : ℕ) → fit s ≡ true → sound r ≡ true → crosses_drive r s.set s.count ≡ false
    → Ready (noting s s.answered r apart) → apart < 2 ^ 53 → fit (noting s s.answered r apart) ≡ true
fit_holding s r apart f e c q h =
    let F = fit_has s f in
    has_fit (noting s s.answered r apart) (record {
      sound = e;
      few = F.few;
      good = F.good;
      marks = F.marks;
      blank = F.blank;
      owed = F.owed;
      clear = c;
      apart = F.apart;
      ready = q;
      within = h;
    })

-- ---- a set

-- the set as it is kept crosses a drive exactly if it did
kept_clear : (s : Station) (n : ℕ) (set : List ℕ) → crosses_drive s.bits set n ≡ false → crosses_drive s.bits (opened s n set).set n ≡ false
unfolding crosses_drive lift_in
kept_clear s n set o =
    ap (λ (b : Bool). holds under_way (bit s.bits) && b)
    (some_same n _ _ (λ i h. ap (λ (x : Code). share (held_area x) lift) (kept_code n (40 - 5 * n) set i h)))
    ∙ o

-- and overlaps where it did
kept_apart : (s : Station) (n : ℕ) (set : List ℕ) → Acceptable s n set → (i : ℕ) → i < n → overlaps_earlier (opened s n set).set i ≡ false
unfolding overlaps_earlier
kept_apart s n set A i h =
    none_is i _ (λ j l. rw (kept_code n (40 - 5 * n) set i h, kept_code n (40 - 5 * n) set j (omega arith)) (A.orderly.apart i j h l))

pub fit_opened : (s : Station) (n : ℕ) (set : List ℕ) → Acceptable s n set → fit (opened s n set) ≡ true
fit_opened s n set A = has_fit (opened s n set) (record {
  sound = (fit_has s A.orderly.readable.fits).sound;
  few = A.orderly.readable.few;
  good = every_is n _ (λ i h. rw (kept_code n (40 - 5 * n) set i h, A.orderly.readable.good i h));
  marks = every_is 8 _ (λ i h. rw (bit_none i));
  blank = every_is 40 _ (λ k h. split (ltb k (5 * n)) (λ t. rw t) (λ t. rw (t, zero_past (5 * n) (40 - 5 * n) set k (ltb-false k (5 * n) t))));
  owed = rw (some_at n (λ i. not (bit 0 i)) 0 A.orderly.readable.some refl) (or-true (eqb n 0));
  clear = kept_clear s n set (clear_is s.bits set n A.orderly.clear);
  apart = every_is n _ (λ i h. rw (kept_apart s n set A i h));
  ready = every_is n _ (λ i h. rw (bit_none i, kept_code n (40 - 5 * n) set i h, A.allowed i h));
  within = (fit_has s A.orderly.readable.fits).within;
})

-- ---- a result

-- one is missing, or each is there
pub some_every : (n : ℕ) (p : ℕ → Bool) → some n (λ j. not (p j)) ≡ not (every n p)
unfolding some every
some_every zero p = refl
some_every (suc n) p = split (p n) (λ t. rw t (some_every n p)) (λ t. rw t)

-- the marks with that of instruction i, and a station that has them
abbrev pub marks_with : Station → ℕ → ℕ
marks_with s i = bit_or s.answered (2 ^ i)

abbrev pub noted : Station → ℕ → ℕ → ℕ → Station
noted s i r apart = noting s (marks_with s i) r apart

-- what holds of it, and of a station with no set, holds after a result
pub after_result : (P : Station → Type 0) (s : Station) (i r apart : ℕ)
    → (every s.count (bit (marks_with s i)) ≡ true → P (closed r s.next apart)) → (every s.count (bit (marks_with s i)) ≡ false → P (noted s i r apart))
    → P (answering s i r apart)
unfolding answering
after_result P s i r apart last more = split (every s.count (bit (marks_with s i))) (λ t. rw t (last t)) (λ t. rw t (more t))

pub fit_answering : (s : Station) (i r apart : ℕ) → fit s ≡ true → i < s.count → sound r ≡ true → crosses_drive r s.set s.count ≡ false
    → apart < 2 ^ 53 → Ready (answering s i r apart) → fit (answering s i r apart) ≡ true
fit_answering s i r apart f h e c small = after_result (λ t. Ready t → fit t ≡ true) s i r apart (λ t q. fit_closed r s.next apart e small) more
  where
    F : Fit s
    F = fit_has s f

    -- a mark is the new one or was there
    within : (j : ℕ) → j < 8 → not (bit (marks_with s i) j) || ltb j s.count ≡ true
    within j l = rw (ap (λ (g : ℕ → Bool). g j) (marks s.answered i)) (split (eqb i j)
        (λ t. rw (t, ← eqb-true i j t, lt-ltb i s.count h))
        (λ t. rw t (every_at 8 _ F.marks j l)))

    more : every s.count (bit (marks_with s i)) ≡ false → Ready (noted s i r apart) → fit (noted s i r apart) ≡ true
    more t q = has_fit _ (record {
      sound = e;
      few = F.few;
      good = F.good;
      marks = every_is 8 _ within;
      blank = F.blank;
      owed = rw (some_every s.count (bit (marks_with s i)), t) (or-true (eqb s.count 0));
      clear = c;
      apart = F.apart;
      ready = q;
      within = small;
    })

-- ---- what is set apart stays within its bits

pub parts_small : (x : Code) → held_parts x < 2 ^ 53
parts_small x = subst (λ (n : ℕ). n < 2 ^ 53) (parts_is x refl) (omega (arith, and_le_r (held_mask x) parts_mask))

pub with_small : (s : Station) (i : ℕ) → fit s ≡ true → apart_with s i < 2 ^ 53
with_small s i f = or_lt 53 s.apart (held_parts (code_at s.set i)) (fit_has s f).within (parts_small (code_at s.set i))

-- ---- what waits is allowed

pub waits_allowed : (s : Station) (i : ℕ) → Waiting s i → held_allowed (code_at s.set i) (bit s.bits) ≡ true
waits_allowed s i w =
    let e : stranded s.answered s.set s.bits i ≡ false = not-true _ (every_at s.count _ (fit_has s w.0).ready i w.1) in
    not-false _ (rw w.2 at e)
