-- An append that is whole is the one that is written for what it carries. Assumes nothing.
use mathlib.Core.Path.{◌≡◌, refl, sym, ap, ap₂, subst, ◌∙◌}
use mathlib.Core.Bool.{true, ◌&&◌}
use mathlib.Core.List.{List, [], ◌∷◌, ◌++◌, append_assoc}
use Prim.Native.Nat.{ℕ, suc, ◌+◌, ◌≤◌, ◌<◌}
use native.Mathlib.Omega.{arith}
use borrow.Author.Tests.{le-leb, eqb-true}
use lib.Dec.{eqb, leb}
use lib.ListN.{length, get_or, take, drop, length-drop, take-append-drop}
use lib.Seq.{take-add, drop-drop, drop-cons, length-take-le}
use Rattle.bits.proofs.Cases.{both}
use Rattle.codec.specs.Bytes.{little_endian, from_little_endian, Bytes}
use Rattle.codec.proofs.Numbers.{read_tail, number_form}
use Rattle.codec.specs.Fours.{four_at}
use Rattle.checksum.specs.Checksum.{crc_over}
use Rattle.journal_file.specs.Appends.{most_carried, end_mark, title_of, closing_of, sum_after, append_of, carried_of, payload_of, front_of}
use Rattle.journal_file.specs.Promises.{AppendOneForm}
use Rattle.journal_file.proofs.Fronts.{Whole, whole}
use Rattle.journal_file.proofs.Forms.{behind, bytes_drop}

-- four bytes from a place on are those of the number there
four_form : (m : List ℕ) (k : ℕ) → Bytes m → k + 4 ≤ length m → take 4 (drop k m) ≡ little_endian 4 (four_at k m)
unfolding four_at
four_form m k b h =
    let l : length (take k m) ≡ k = length-take-le k m (omega arith) in
    let d = length-drop k m in
    let at : from_little_endian 4 k m ≡ from_little_endian 4 0 (drop k m) =
    subst (λ (i : ℕ). from_little_endian 4 i m ≡ from_little_endian 4 0 (drop k m)) l
    (ap (from_little_endian 4 (length (take k m))) (sym (take-append-drop k m)) ∙ behind 4 (take k m) (drop k m)) in
    rw (le-leb (k + 4) (length m) h) (sym (number_form 4 (drop k m) (bytes_drop m k b) (omega arith)) ∙ ap (little_endian 4) (sym at))

-- the first four are the title
title_form : (m : List ℕ) → Bytes m → 4 ≤ length m → take 4 m ≡ title_of (get_or m 0 0) (carried_of m)
title_form [] b h = absurd (omega arith)
title_form (x ∷ m) b h =
    ap (◌∷◌ x) (sym (number_form 3 m (λ i. b (suc i)) (omega arith)) ∙ ap (little_endian 3) (sym (read_tail 3 0 x m)))

module _ (sum : ℕ) (m : List ℕ) (b : Bytes m) (e : (front_of crc_over sum m).whole ≡ true) where
  abbrev c : ℕ
  c = carried_of m

  w : Whole crc_over sum m
  w = whole crc_over sum m e

  first : four_at 4 m ≡ crc_over sum (take 4 m)
  first = eqb-true (four_at 4 m) (crc_over sum (take 4 m)) (both (eqb (four_at 4 m) (crc_over sum (take 4 m))) (leb c most_carried) w.title).0

  right : (eqb (four_at (c + 8) m) (crc_over (four_at 4 m) (payload_of m)) ≡ true) × (eqb (get_or m (c + 12) 0) end_mark ≡ true)
  right = both (eqb (four_at (c + 8) m) (crc_over (four_at 4 m) (payload_of m))) (eqb (get_or m (c + 12) 0) end_mark) w.right

  second : four_at (c + 8) m ≡ crc_over (four_at 4 m) (payload_of m)
  second = eqb-true (four_at (c + 8) m) (crc_over (four_at 4 m) (payload_of m)) right.0

  mark : get_or m (c + 12) 0 ≡ end_mark
  mark = eqb-true (get_or m (c + 12) 0) end_mark right.1

  -- as many as it carries
  size : length (payload_of m) ≡ c
  size = length-take-le c (drop 8 m) (let d = length-drop 8 m in let h = w.within in omega arith)

  title : take 4 m ≡ title_of (get_or m 0 0) (length (payload_of m))
  title = title_form m b (let h = w.within in omega arith) ∙ ap (title_of (get_or m 0 0)) (sym size)

  title_sum : take 4 (drop 4 m) ≡ little_endian 4 (crc_over sum (title_of (get_or m 0 0) (length (payload_of m))))
  title_sum = four_form m 4 b (let h = w.within in omega arith) ∙ ap (little_endian 4) (first ∙ ap (crc_over sum) title)

  last_sum : take 4 (drop (8 + c) m) ≡ little_endian 4 (sum_after crc_over sum (get_or m 0 0) (payload_of m))
  last_sum =
      let p : 8 + c ≡ c + 8 = omega arith in
      ap (λ (k : ℕ). take 4 (drop k m)) p ∙ four_form m (c + 8) b (let h = w.within in omega arith)
      ∙ ap (little_endian 4) (second ∙ ap (λ (k : ℕ). crc_over k (payload_of m)) (first ∙ ap (crc_over sum) title))

  end : take 1 (drop (12 + c) m) ≡ end_mark ∷ []
  end =
      let p : 12 + c ≡ c + 12 = omega arith in
      ap (λ (k : ℕ). take 1 (drop k m)) p ∙ ap (take 1) (drop-cons m (c + 12) 0 (let h = w.within in omega arith)) ∙ ap (λ (x : ℕ). x ∷ []) mark

  behind_it : take 5 (drop c (drop 8 m)) ≡ closing_of (sum_after crc_over sum (get_or m 0 0) (payload_of m))
  behind_it =
      ap (take 5) (drop-drop c 8 m) ∙ take-add 4 1 (drop (8 + c) m)
      ∙ ap₂ ◌++◌ last_sum (ap (take 1) (drop-drop 4 (8 + c) m ∙ (let p : 8 + c + 4 ≡ 12 + c = omega arith in ap (λ (k : ℕ). drop k m) p)) ∙ end)

  form : take (c + 13) m ≡ append_of crc_over sum (get_or m 0 0) (payload_of m)
  unfolding append_of
  form =
      let p : c + 13 ≡ 8 + (c + 5) = omega arith in
      ap (λ (k : ℕ). take k m) p ∙ take-add 8 (c + 5) m
      ∙ ap₂ ◌++◌ (take-add 4 4 m ∙ ap₂ ◌++◌ title title_sum) (take-add c 5 (drop 8 m) ∙ ap (◌++◌ (payload_of m)) behind_it)

pub append_one_form : AppendOneForm
append_one_form sum m b e = form sum m b e
