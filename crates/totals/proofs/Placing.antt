-- A message's marks: in which part of the totals each lies, and that together they name the totals under which the message counts.
-- Assumes nothing.
use mathlib.Core.Path.{◌≡◌, refl, sym, ap, ◌∙◌}
use mathlib.Core.Bool.{Bool, true, false, not, ◌&&◌, ◌||◌, and-false, or-false}
use mathlib.Core.Logic.{◌⊎◌, inl, inr}
use Prim.Native.Nat.{ℕ, ◌+◌, ◌-◌, ◌≤◌, ◌<◌}
use native.Mathlib.Omega.{arith}
use lib.Dec.{eqb, leb, ltb}
use borrow.Author.Tests.{eqb-true, eq-eqb, ne_eqb, leb-true, ltb-true, le-leb, lt-ltb}
use Rattle.bits.proofs.Cases.{split, clash, both, and_intro, alike}
use Rattle.bits.proofs.Search.{lt_or_ge}
use Rattle.totals.specs.declared.Mark.{Mark}
use Rattle.totals.specs.declared.Happened.{Happened}
use Rattle.totals.specs.Totals.{name_at, counts}
use Rattle.totals.specs.Private.{count_mark, results_from, count_marks, MarksWithin}
use Rattle.totals.proofs.Order.{kind_at, number_at, done_at, failed_at, cars_in_at, cars_out_at, most_cars_at}

-- a mark adds one at a place
abbrev pub hits : Mark → ℕ → Bool
hits m p = eqb m.at p && eqb m.more 1

-- a mark lies among n places from p on, and adds one or nothing
pub record Among (p n : ℕ) (m : Mark) : Type 0 where
  pub low : p ≤ m.at
  pub high : m.at < p + n
  pub small : m.more ≤ 1

module _ (p n a x : ℕ) (some : 0 < n) where
  pub among : Among p n (count_mark p n a x)
  unfolding count_mark
  among = split (leb a x && ltb x (a + n))
      (λ t.
      let (l, r) = both (leb a x) (ltb x (a + n)) t in
      let l' = leb-true a x l in
      let r' = ltb-true x (a + n) r in
      rw t (record { low = omega arith; high = omega arith; small = omega arith }))
      (λ t. rw t (record { low = omega arith; high = omega arith; small = omega arith }))

  -- it adds one exactly at the place of x
  pub hits_at : (i q : ℕ) → i < n → q ≡ p + i → eqb x (a + i) ≡ hits (count_mark p n a x) q
  unfolding count_mark
  hits_at i q h at = rw at (split (leb a x && ltb x (a + n)) (λ t. rw t (inside t)) (λ t. rw t (outside t)))
    where
      inside : leb a x && ltb x (a + n) ≡ true → eqb x (a + i) ≡ (eqb (p + (x - a)) (p + i) && true)
      inside t =
          let (l, r) = both (leb a x) (ltb x (a + n)) t in
          let l' = leb-true a x l in
          alike (eqb x (a + i)) (eqb (p + (x - a)) (p + i) && true)
          (λ e. let e' = eqb-true x (a + i) e in and_intro (eq-eqb (p + (x - a)) (p + i) (omega arith)) refl)
          (λ e. let e' = eqb-true (p + (x - a)) (p + i) (both (eqb (p + (x - a)) (p + i)) true e).0 in eq-eqb x (a + i) (omega arith))

      outside : leb a x && ltb x (a + n) ≡ false → eqb x (a + i) ≡ (eqb p (p + i) && false)
      outside t =
          split (eqb x (a + i))
          (λ e. let e' = eqb-true x (a + i) e in clash (and_intro (le-leb a x (omega arith)) (lt-ltb x (a + n) (omega arith))) t)
          (λ e. e ∙ sym (and-false (eqb p (p + i))))

-- a mark adds nothing where it is not
pub misses : {p n : ℕ} {m : Mark} (q : ℕ) → Among p n m → (m.at ≡ q → ⊥) → hits m q ≡ false
misses {p} {n} {m} q r h = rw (ne_eqb m.at q h)

-- ten places are left where results begin
pub from_results : (b : Bool) (p : ℕ) → p ≡ results_from b → p + 5 < 53
from_results true p e = omega arith
from_results false p e = omega arith

-- results count among the done or among the failed
done_hits : (b : Bool) (x i q : ℕ) → i < 5 → q ≡ 39 + i → (b && eqb x (1 + i)) ≡ hits (count_mark (results_from b) 5 1 x) q
done_hits true x i q l e = hits_at 39 5 1 x (omega arith) i q l e
done_hits false x i q l e = sym (misses q (among 44 5 1 x (omega arith)) (λ z. omega (arith, (among 44 5 1 x (omega arith)).low)))

failed_hits : (b : Bool) (x i q : ℕ) → i < 5 → q ≡ 44 + i → (not b && eqb x (1 + i)) ≡ hits (count_mark (results_from b) 5 1 x) q
failed_hits false x i q l e = hits_at 44 5 1 x (omega arith) i q l e
failed_hits true x i q l e = sym (misses q (among 39 5 1 x (omega arith)) (λ z. omega (arith, (among 39 5 1 x (omega arith)).high)))

module _ (h : Happened) where
  pub in_kinds : Among 0 5 (count_marks h).kind
  unfolding count_marks
  in_kinds = among 0 5 1 h.kind (omega arith)

  pub in_answers : Among 5 34 (count_marks h).answer
  unfolding count_marks
  in_answers = among 5 34 0 h.answer (omega arith)

  pub in_results : Among (results_from h.done) 5 (count_marks h).result
  unfolding count_marks
  in_results = among (results_from h.done) 5 1 h.op (omega arith)

  pub results_low : 39 ≤ (count_marks h).result.at
  results_low = omega (arith, in_results.low, from39 h.done)
    where
      from39 : (b : Bool) → 39 ≤ results_from b
      from39 true = omega arith
      from39 false = omega arith

  pub results_high : (count_marks h).result.at < 49
  results_high = omega (arith, in_results.high, to44 h.done)
    where
      to44 : (b : Bool) → results_from b ≤ 44
      to44 true = omega arith
      to44 false = omega arith

  pub in_drives : Among 49 2 (count_marks h).drive
  unfolding count_marks
  in_drives = among 49 2 1 h.drive (omega arith)

  pub marks_within : MarksWithin (count_marks h)
  marks_within = record {
    kind = omega (arith, in_kinds.high);
    answer = omega (arith, in_answers.high);
    result = omega (arith, results_high);
    drive = omega (arith, in_drives.high);
  }

  -- whether some mark adds one at a place
  abbrev pub hit : ℕ → Bool
  hit p = hits (count_marks h).kind p || (hits (count_marks h).answer p || (hits (count_marks h).result p || hits (count_marks h).drive p))

  abbrev Hit : ℕ → Type 0
  Hit p = counts (name_at p) h ≡ hit p

  kind_misses : (p : ℕ) → 5 ≤ p → hits (count_marks h).kind p ≡ false
  kind_misses p l = misses p in_kinds (λ e. omega (arith, in_kinds.high))

  answer_misses : (p : ℕ) → ((count_marks h).answer.at ≡ p → ⊥) → hits (count_marks h).answer p ≡ false
  answer_misses p l = misses p in_answers l

  result_misses : (p : ℕ) → ((count_marks h).result.at ≡ p → ⊥) → hits (count_marks h).result p ≡ false
  result_misses p l = misses p in_results l

  drive_misses : (p : ℕ) → p < 49 → hits (count_marks h).drive p ≡ false
  drive_misses p l = misses p in_drives (λ e. omega (arith, in_drives.low))

  by_kind : (i : ℕ) → i < 5 → Hit i
  unfolding count_marks
  by_kind i l =
      rw (
        kind_at i l,
        answer_misses i (λ e. omega (arith, in_answers.low)),
        result_misses i (λ e. omega (arith, results_low)),
        drive_misses i (omega arith),
        or-false,
      )
      (hits_at 0 5 1 h.kind (omega arith) i i l (omega arith))

  by_number : (i q : ℕ) → i < 34 → q ≡ 5 + i → Hit q
  unfolding count_marks
  by_number i q l e =
      rw (
        e,
        number_at i l,
        kind_misses (5 + i) (omega arith),
        result_misses (5 + i) (λ e. omega (arith, results_low)),
        drive_misses (5 + i) (omega arith),
        or-false,
      )
      (hits_at 5 34 0 h.answer (omega arith) i (5 + i) l refl)

  by_done : (i q : ℕ) → i < 5 → q ≡ 39 + i → Hit q
  unfolding count_marks
  by_done i q l e =
      rw (
        e,
        done_at i l,
        kind_misses (39 + i) (omega arith),
        answer_misses (39 + i) (λ e. omega (arith, in_answers.high)),
        drive_misses (39 + i) (omega arith),
        or-false,
      )
      (done_hits h.done h.op i (39 + i) l refl)

  by_failed : (i q : ℕ) → i < 5 → q ≡ 44 + i → Hit q
  unfolding count_marks
  by_failed i q l e =
      rw (
        e,
        failed_at i l,
        kind_misses (44 + i) (omega arith),
        answer_misses (44 + i) (λ e. omega (arith, in_answers.high)),
        drive_misses (44 + i) (omega arith),
        or-false,
      )
      (failed_hits h.done h.op i (44 + i) l refl)

  by_drive : (i q : ℕ) → i < 2 → q ≡ 49 + i → counts (name_at q) h ≡ eqb h.drive (1 + i) → Hit q
  unfolding count_marks
  by_drive i q l e n =
      rw (
        n,
        e,
        kind_misses (49 + i) (omega arith),
        answer_misses (49 + i) (λ e. omega (arith, in_answers.high)),
        result_misses (49 + i) (λ e. omega (arith, results_high)),
      )
      (hits_at 49 2 1 h.drive (omega arith) i (49 + i) l refl)

  -- a message counts exactly where a mark adds one
  pub counts_hit : (p : ℕ) → p < 52 → Hit p
  counts_hit p l = kinds (lt_or_ge p 5)
    where
      last : p ≡ 51 → Hit p
      last e =
          rw (
            e,
            most_cars_at,
            kind_misses 51 (omega arith),
            answer_misses 51 (λ z. omega (arith, in_answers.high)),
            result_misses 51 (λ z. omega (arith, results_high)),
          )
          (sym (misses 51 in_drives (λ z. omega (arith, in_drives.high))))

      out : (p < 51) ⊎ (51 ≤ p) → 50 ≤ p → Hit p
      out (inl a) b = by_drive 1 p (omega arith) (omega arith) (ap (λ (q : ℕ). counts (name_at q) h) (omega arith) ∙ ap (λ n. counts n h) cars_out_at)
      out (inr a) b = last (omega arith)

      drives : (p < 50) ⊎ (50 ≤ p) → 49 ≤ p → Hit p
      drives (inl a) b = by_drive 0 p (omega arith) (omega arith) (ap (λ (q : ℕ). counts (name_at q) h) (omega arith)
          ∙ ap (λ n. counts n h) cars_in_at)
      drives (inr a) b = out (lt_or_ge p 51) a

      failures : (p < 49) ⊎ (49 ≤ p) → 44 ≤ p → Hit p
      failures (inl a) b = by_failed (p - 44) p (omega arith) (omega arith)
      failures (inr a) b = drives (lt_or_ge p 50) a

      dones : (p < 44) ⊎ (44 ≤ p) → 39 ≤ p → Hit p
      dones (inl a) b = by_done (p - 39) p (omega arith) (omega arith)
      dones (inr a) b = failures (lt_or_ge p 49) a

      numbers : (p < 39) ⊎ (39 ≤ p) → 5 ≤ p → Hit p
      numbers (inl a) b = by_number (p - 5) p (omega arith) (omega arith)
      numbers (inr a) b = dones (lt_or_ge p 44) a

      kinds : (p < 5) ⊎ (5 ≤ p) → Hit p
      kinds (inl a) = by_kind p a
      kinds (inr a) = numbers (lt_or_ge p 39) a
