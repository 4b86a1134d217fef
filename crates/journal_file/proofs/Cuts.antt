-- An append that was cut off anywhere, or zeroed from a sector on, is never taken for damage. Assumes nothing.
use mathlib.Core.Path.{◌≡◌, refl, sym, ap, ap₂, subst, ◌∙◌}
use mathlib.Core.Logic.{◌⊎◌, inl, inr}
use mathlib.Core.Bool.{Bool, true, false, cond, not, ◌&&◌}
use mathlib.Core.List.{List, [], ◌∷◌, ◌++◌, append-nil}
use Prim.Native.Nat.{ℕ, zero, suc, ◌+◌, ◌-◌, ◌%◌, ◌^◌, ◌≤◌, ◌<◌}
use native.Mathlib.Omega.{arith}
use borrow.Author.Tests.{le-leb, le-ltb, lt-ltb, ltb-true, ltb-false, eq-eqb, eqb-true, eqb-false}
use lib.Dec.{eqb, leb, ltb}
use lib.ListN.{length, get_or, take, drop, replicate, length-append, length-replicate}
use lib.Seq.{take-take, get_or-take, take-append-le, length-take-le}
use Rattle.bits.proofs.Cases.{split, off, both}
use Rattle.codec.specs.Fours.{four_at}
use Rattle.checksum.specs.Checksum.{crc_over}
use Rattle.journal_file.specs.Appends.{Over, most_carried, around, end_mark, append_of, carried_of, payload_of, titled, payload_right, no_front, front_of, written, lost_from, zeroed}
use Rattle.journal_file.specs.Promises.{CutAppend, zeros_from, ZeroedAppend}
use Rattle.journal_file.proofs.Fronts.{Whole, whole}
use Rattle.journal_file.proofs.Zeros.{written_most, in_opening, with_title}
use Rattle.journal_file.proofs.Forms.{append_titled, append_long}

-- ---- the opening decides over the title

carried_by_opening : (m : List ℕ) → carried_of (take 8 m) ≡ carried_of m
carried_by_opening m = rw (get_or-take 8 m 1 0 (omega arith), get_or-take 8 m 2 0 (omega arith), get_or-take 8 m 3 0 (omega arith))

said_by_opening : (m : List ℕ) → 8 ≤ length m → four_at 4 (take 8 m) ≡ four_at 4 m
unfolding four_at
said_by_opening m h =
    rw (length-take-le 8 m h, le-leb 8 (length m) h, get_or-take 8 m 4 0 (omega arith), get_or-take 8 m 5 0 (omega arith), get_or-take 8 m 6 0 (omega arith), get_or-take 8 m 7 0 (omega arith))

titled_by_opening : (over : Over) (sum : ℕ) (m : List ℕ) → 8 ≤ length m → titled over sum (take 8 m) ≡ titled over sum m
titled_by_opening over sum m h =
    ap₂ ◌&&◌ (ap₂ eqb (said_by_opening m h) (ap (over sum) (take-take 4 8 m (omega arith)))) (ap (λ (k : ℕ). leb k most_carried) (carried_by_opening m))

-- bytes that begin with the opening of an append
module _ (sum kind : ℕ) (bytes : List ℕ) (small : sum < 2 ^ 32) (fits : length bytes ≤ 65536) where
  abbrev m : List ℕ
  m = append_of crc_over sum kind bytes

  long : length m ≡ length bytes + 13
  long = append_long sum kind bytes small fits

  module _ (k : List ℕ) (same : take 8 k ≡ take 8 m) (has : 8 ≤ length k) where
    title : titled crc_over sum k ≡ true
    title =
        sym (titled_by_opening crc_over sum k has) ∙ ap (titled crc_over sum) same ∙ titled_by_opening crc_over sum m (omega (arith, long))
        ∙ (append_titled sum kind bytes small fits).0

    carries : carried_of k ≡ length bytes
    carries = sym (carried_by_opening k) ∙ ap carried_of same ∙ carried_by_opening m ∙ (append_titled sum kind bytes small fits).1

  cut : (n : ℕ) → n < length m → front_of crc_over sum (take n m) ≡ no_front true
  unfolding front_of
  cut n h =
      let l : length (take n m) ≡ n = length-take-le n m (omega arith) in
      split (ltb n 8) (λ t. rw (l, t))
      (λ t.
      let e = ltb-false n 8 t in
      let same = take-take 8 n m e in
      let has : 8 ≤ length (take n m) = omega (arith, l, e) in
      let c = carries (take n m) same has in
      rw (le-ltb (length (take n m)) 8 has, title (take n m) same has, lt-ltb (length (take n m)) (carried_of (take n m) + around) (omega (arith, l, c, long, h))))

pub cut_append : CutAppend
cut_append sum kind n bytes small fits h = cut sum kind bytes small fits n h

-- ---- zeros behind some bytes

zeros_written : (k : ℕ) → written (replicate k 0) ≡ 0
zeros_written zero = refl
zeros_written (suc k) = rw (zeros_written k)

written_past : (l : List ℕ) (k : ℕ) → written (l ++ replicate k 0) ≡ written l
written_past [] k = zeros_written k
written_past (x ∷ l) k = rw (written_past l k)

zeros_at : (k i : ℕ) → ◌≡◌ {A = ℕ} (get_or (replicate k 0) i 0) 0
zeros_at zero i = refl
zeros_at (suc k) zero = refl
zeros_at (suc k) (suc i) = zeros_at k i

past_at : (l : List ℕ) (k i : ℕ) → length l ≤ i → get_or (l ++ replicate k 0) i 0 ≡ 0
past_at [] k i h = zeros_at k i
past_at (x ∷ l) k zero h = absurd (omega arith)
past_at (x ∷ l) k (suc i) h = past_at l k i (omega arith)

-- the first sector behind the written bytes is not past one from which there are only zeros
lost_most : (at w n : ℕ) → w ≤ n → (n ≡ 0) ⊎ ((at + n) % 512 ≡ 0) → lost_from at w ≤ n
lost_most at w n h a =
    split (eqb w 0) (λ t. rw t (omega arith))
    (λ t.
    rw t (by a (λ (z : w ≡ 0). eqb-false w 0 t z)))
  where
    by : (n ≡ 0) ⊎ ((at + n) % 512 ≡ 0) → (w ≡ 0 → ⊥) → w + (512 - (at + w) % 512) % 512 ≤ n
    by (inl z) f = let e : w ≡ 0 = omega (arith, h, z) in absurd (f e)
    by (inr z) f = omega (arith, h, z)

-- ---- zeroed from a sector on

module _ (sum kind at n : ℕ) (bytes : List ℕ) (small : sum < 2 ^ 32) (fits : length bytes ≤ 65536)
    (inside : n < length (append_of crc_over sum kind bytes)) (aligned : (n ≡ 0) ⊎ ((at + n) % 512 ≡ 0)) where
  abbrev whole_append : List ℕ
  whole_append = append_of crc_over sum kind bytes

  abbrev z : List ℕ
  z = zeros_from n whole_append

  size : length whole_append ≡ length bytes + 13
  size = append_long sum kind bytes small fits

  front_long : length (take n whole_append) ≡ n
  front_long = length-take-le n whole_append (omega (arith, inside))

  as_long : length z ≡ length bytes + 13
  as_long =
      let l = length-append (take n whole_append) (replicate (length whole_append - n) 0) in
      let k = length-replicate {A = ℕ} (length whole_append - n) 0 in
      omega (arith, l, k, front_long, size, inside)

  few_written : written z ≤ n
  few_written =
      let e = written_past (take n whole_append) (length whole_append - n) in
      let k = written_most (take n whole_append) in
      omega (arith, e, k, front_long)

  lost : lost_from at (written z) ≤ n
  lost = lost_most at (written z) n few_written aligned

  same_opening : 8 ≤ n → take 8 z ≡ take 8 whole_append
  same_opening h =
      take-append-le 8 (take n whole_append) (replicate (length whole_append - n) 0) (omega (arith, front_long, h)) ∙ take-take 8 n whole_append h

  has : 8 ≤ length z
  has = omega (arith, as_long)

  mark_zero : get_or z (carried_of z + 12) 0 ≡ 0
  mark_zero =
      past_at (take n whole_append) (length whole_append - n) (carried_of z + 12)
      (split (ltb n 8) (λ t. let h = ltb-true n 8 t in omega (arith, h, front_long))
      (λ t.
      let h = ltb-false n 8 t in
      let c = carries sum kind bytes small fits z (same_opening h) has in
      omega (arith, c, front_long, size, inside)))

  not_whole : (front_of crc_over sum z).whole ≡ false
  not_whole =
      off (front_of crc_over sum z).whole
      (λ (e : (front_of crc_over sum z).whole ≡ true).
      let r = (both (eqb (four_at (carried_of z + 8) z) (crc_over (four_at 4 z) (payload_of z))) (eqb (get_or z (carried_of z + 12) 0) end_mark) (whole crc_over sum z e).right).1 in
      let q : get_or z (carried_of z + 12) 0 ≡ 10 = eqb-true (get_or z (carried_of z + 12) 0) 10 r in
      omega (arith, q, mark_zero))

  cut_off : zeroed crc_over sum at z ≡ true
  cut_off =
      let short : length z ≤ 65549 = omega (arith, as_long, fits) in
      let before : lost_from at (written z) < length z = omega (arith, lost, as_long, size, inside) in
      split (ltb (lost_from at (written z)) 8)
      (λ t. sym (in_opening crc_over sum at z short refl refl before (ltb-true (lost_from at (written z)) 8 t)))
      (λ t.
      let h = ltb-false (lost_from at (written z)) 8 t in
      let o = same_opening (omega (arith, h, lost)) in
      sym (with_title crc_over sum at z short refl refl before h refl (title sum kind bytes small fits z o has) refl)
      ∙ eq-eqb (length z) (carried_of z + 13) (as_long ∙ ap (λ (k : ℕ). k + 13) (sym (carries sum kind bytes small fits z o has))))

pub zeroed_append : ZeroedAppend
zeroed_append sum kind at n bytes small fits inside aligned =
    (not_whole sum kind at n bytes small fits inside aligned, cut_off sum kind at n bytes small fits inside aligned)
