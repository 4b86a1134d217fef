-- The numbers of cards in the append that stands in the buffer. Assumes nothing.
use Rattle.std.proofs.Common.{◌≡◌, ℕ, ◌+◌, ◌-◌, ◌<◌, ◌≤◌, Bool, true, false, cond, not, eqb, ltb, List, [], ◌∷◌, ◌++◌, length, get_or, take, drop, replicate, sym, refl, ap, ◌∙◌, ap₂, append-nil, arith, length-drop, drop_of_length-le, length-take, length-take-le, get_or-drop, get_or-take, take-take, drop-drop, le-ltb, lt-ltb, eqb-true}
use borrow.Author.Tests.{not-true, not-false}
use lib.Seq.{take-length}
use Rattle.bits.proofs.Cases.{split}
use Rattle.checksum.specs.Checksum.{crc_over}
use Rattle.journal_file.specs.declared.Replay.{Replay}
use Rattle.journal_file.specs.Appends.{carried_of, payload_of, carries_messages, lead_of}
use Rattle.journal_file.specs.Replaying.{step_of}
use Rattle.journal_file.specs.Cards.{has_cards, numbers_by}
use Rattle.journal_file.proofs.Files.{lead_within}
use Rattle.journal_reader.specs.declared.Reading.{Reading}
use Rattle.journal_reader.specs.Reading.{last_in, numbers_found}
use Rattle.journal_reader.specs.Statements.{FoundNumbers}
use Rattle.journal_reader.proofs.Filling.{cut_inside}

positive : (k : ℕ) → (k ≡ 0 → ⊥) → 0 < k
positive k f = omega (arith, f)

-- ---- how long it is

module _ (q : Reading) (buf : List ℕ) where
  abbrev Sized : ℕ → Type 0
  Sized n = (n ≡ length (last_in q buf)) × (0 < n → q.from + n ≤ length buf)

  pub sized_none : q.at ≤ q.from → Sized 0
  sized_none h = let t = length-take (q.at - q.from) (drop q.from buf) in let d = length-drop q.from buf in (omega (arith, t, d, h), λ z. absurd (omega (arith, z)))

  pub sized_past : length buf ≤ q.from → Sized 0
  sized_past h = let t = length-take (q.at - q.from) (drop q.from buf) in let d = length-drop q.from buf in (omega (arith, t, d, h), λ z. absurd (omega (arith, z)))

  pub sized_rest : q.from < length buf → length buf - q.from < q.at - q.from → Sized (length buf - q.from)
  sized_rest h k = let t = length-take (q.at - q.from) (drop q.from buf) in let d = length-drop q.from buf in (omega (arith, t, d, h, k), λ z. omega (arith, h))

  pub sized_all : q.from < length buf → q.at - q.from ≤ length buf - q.from → Sized (q.at - q.from)
  sized_all h k = let t = length-take (q.at - q.from) (drop q.from buf) in let d = length-drop q.from buf in (omega (arith, t, d, h, k), λ z. omega (arith, z, h, k))

  -- ---- whether it has cards

  pub none_has : {n : ℕ} → Sized n → n ≡ 0 → false ≡ has_cards (last_in q buf)
  none_has s e = empty (last_in q buf) (omega (arith, s.0, e))
    where
      empty : (a : List ℕ) → length a ≡ 0 → false ≡ has_cards a
      empty [] z = refl
      empty (x ∷ a) z = absurd (omega (arith, z))

  first_is : {n : ℕ} → Sized n → 0 < n → get_or (last_in q buf) 0 0 ≡ get_or buf q.from 0
  first_is s h =
      let t = length-take (q.at - q.from) (drop q.from buf) in
      get_or-take (q.at - q.from) (drop q.from buf) 0 0 (omega (arith, t, s.0, h)) ∙ get_or-drop q.from buf 0 0
      ∙ ap (λ (i : ℕ). get_or buf i 0) (let z : q.from + 0 ≡ q.from = omega arith in z)

  pub first_within : {n : ℕ} → Sized n → (n ≡ 0 → ⊥) → q.from < length buf
  first_within {n} s h = let i = s.1 (positive n h) in let p = positive n h in omega (arith, i, p)

  pub has_by : {n : ℕ} → Sized n → (n ≡ 0 → ⊥) → eqb (get_or buf q.from 0) 5 ≡ has_cards (last_in q buf)
  has_by {n} s h = ap (λ (k : ℕ). eqb k 5) (sym (first_is s (positive n h)))

  pub numbers_within : {n : ℕ} → Sized n → 176 ≤ n → q.from + 176 ≤ length buf
  numbers_within s h = let i = s.1 (omega (arith, h)) in omega (arith, i, h)

  pub source_long : {n : ℕ} → Sized n → 176 ≤ n → length (take (q.from + 176 - (q.from + 8)) (drop (q.from + 8) buf)) ≡ 168
  source_long s h =
      let size : q.from + 176 - (q.from + 8) ≡ 168 = omega arith in
      let d = length-drop (q.from + 8) buf in
      let i = numbers_within s h in
      length-take-le (q.from + 176 - (q.from + 8)) (drop (q.from + 8) buf) (omega (arith, size, d, i)) ∙ size

  -- ---- its numbers

  pub too_few : {n : ℕ} (before : List ℕ) → Sized n → n < 176 → before ≡ numbers_found before (last_in q buf)
  too_few before s h =
      let a = last_in q buf in
      sym (ap (λ (b : Bool). cond b before (cond (has_cards a) (take 168 (drop 8 a)) before)) (lt-ltb (length a) 176 (omega (arith, s.0, h))))

  module _ {n : ℕ} {b : Bool} (before : List ℕ) (s : Sized n) (h : 176 ≤ n) (e : b ≡ has_cards (last_in q buf)) where
    enough : ltb (length (last_in q buf)) 176 ≡ false
    enough = le-ltb (length (last_in q buf)) 176 (omega (arith, s.0, h))

    found_by : {v : Bool} → has_cards (last_in q buf) ≡ v → cond v (take 168 (drop 8 (last_in q buf))) before ≡ numbers_found before (last_in q buf)
    found_by t =
        sym (ap₂ (λ (x y : Bool). cond x before (cond y (take 168 (drop 8 (last_in q buf))) before)) enough t)

    pub other_kind : not b ≡ true → before ≡ numbers_found before (last_in q buf)
    other_kind t = found_by (sym e ∙ not-true b t)

    pub copied : {numbers : List ℕ} → not b ≡ false
        → (let src = take (q.from + 176 - (q.from + 8)) (drop (q.from + 8) buf) in numbers ≡ take (length src) src ++ drop (length src) (replicate 168 0))
        → numbers ≡ numbers_found before (last_in q buf)
    copied t c =
        let l = drop (q.from + 8) buf in
        let src = take (q.from + 176 - (q.from + 8)) l in
        let size : q.from + 176 - (q.from + 8) ≡ 168 = omega arith in
        let long : length src ≡ 168 = source_long s h in
        let t2 = length-take (q.at - q.from) (drop q.from buf) in
        c ∙ ap₂ ◌++◌ (take-length src) (drop_of_length-le (replicate {A = ℕ} 168 0) {i = length src} (omega (arith, long))) ∙ append-nil src
        ∙ ap (λ (k : ℕ). take k l) size
        ∙ ap (take 168) (sym (drop-drop 8 q.from buf))
        ∙ sym (cut_inside 8 168 (q.at - q.from) (drop q.from buf) (omega (arith, t2, s.0, h)))
        ∙ found_by (sym e ∙ not-false b t)

-- ---- as the journal has them

pub found_numbers : FoundNumbers
found_numbers r before a some took = split (has_cards a) own others
  where
    either : (x : Bool) → cond x before before ≡ before
    either true = refl
    either false = refl

    others : has_cards a ≡ false → numbers_found before a ≡ numbers_by before a
    others t =
        ap (λ (b : Bool). cond (ltb (length a) 176) before (cond b (take 168 (drop 8 a)) before)) t ∙ either (ltb (length a) 176)
        ∙ sym (ap (λ (b : Bool). cond b (take 168 (payload_of a)) before) t)

    own : has_cards a ≡ true → numbers_found before a ≡ numbers_by before a
    own t =
        let k : get_or a 0 0 ≡ 5 = eqb-true (get_or a 0 0) 5 t in
        let lead : lead_of (get_or a 0 0) ≡ 168 = ap lead_of k in
        let enough = lead_within r a (omega (arith, some, took)) (ap carries_messages k) in
        let p = length-take (carried_of a) (drop 8 a) in
        let d = length-drop 8 a in
        ap₂ (λ (x y : Bool). cond x before (cond y (take 168 (drop 8 a)) before)) (le-ltb (length a) 176 (omega (arith, enough, lead, p, d))) t
        ∙ sym (take-take 168 (carried_of a) (drop 8 a) (omega (arith, enough, lead, p)))
        ∙ sym (ap (λ (b : Bool). cond b (take 168 (payload_of a)) before) t)
