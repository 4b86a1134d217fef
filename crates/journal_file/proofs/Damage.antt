-- A burst in a journal's head or in an append is found: in what a checksum covers, in the checksum, or in the end mark. An append tells what it
-- goes on from. Assumes nothing.
use mathlib.Core.Path.{◌≡◌, refl, sym, ap, ap₂, ◌∙◌}
use mathlib.Core.Bool.{Bool, true, false, cond, not}
use mathlib.Core.Logic.{◌⊎◌, inl, inr, ⊎_elim}
use mathlib.Core.List.{List}
use Prim.Native.Nat.{ℕ, ◌+◌, ◌-◌, ◌^◌, ◌≤◌, ◌<◌}
use native.Mathlib.Omega.{arith}
use lib.Dec.{eqb, leb, ltb}
use lib.ListN.{length, get_or, take, drop, length-take, length-drop}
use lib.Seq.{get_or-take, get_or-drop, ext_get_or, take-take, drop-drop}
use borrow.Author.Tests.{le-ltb, eqb-true, ltb-false}
use Rattle.bits.proofs.Cases.{split, both}
use Rattle.bits.proofs.Search.{lt_or_ge}
use Rattle.codec.specs.Bytes.{from_little_endian}
use Rattle.codec.specs.Fours.{four_at}
use Rattle.checksum.specs.Checksum.{crc_over}
use Rattle.checksum.specs.Bursts.{Burst}
use Rattle.checksum.proofs.Bursts.{start_found}
use Rattle.checksum.proofs.Promises.{crc_lt}
use Rattle.checksum.proofs.Running.{four_at_lem}
use Rattle.checksum.proofs.Stored.{burst_drop, stored_burst_found}
use Rattle.station.specs.declared.Station.{Station}
use Rattle.station.specs.Station.{fit}
use Rattle.rooms.specs.Rooms.{lent_station}
use Rattle.commands.specs.Words.{is_text}
use Rattle.journal_file.specs.declared.Kind.{Kind}
use Rattle.journal_file.specs.declared.Kind.TheVariants.{NoJournal, OtherFormat, Damaged, Unfit, Good}
use Rattle.journal_file.specs.Appends.{most_carried, end_mark, carried_of, payload_of, titled, payload_right}
use Rattle.journal_file.specs.Heads.{magic, format, head_size, head_kind, head_of}
use Rattle.journal_file.specs.Damage.{AppendBurstFound, HeadBurstFound, AppendInPlace}
use Rattle.journal_file.proofs.Fronts.{Whole, whole, untitled, wrong_at}

-- ---- an append and what a burst makes of it

-- the checksums that a right title, and what is rightly carried, have
pub title_sum : (sum : ℕ) (m : List ℕ) → titled crc_over sum m ≡ true → four_at 4 m ≡ crc_over sum (take 4 m)
title_sum sum m e = eqb-true (four_at 4 m) (crc_over sum (take 4 m)) (both (eqb (four_at 4 m) (crc_over sum (take 4 m))) (leb (carried_of m) most_carried) e).0

pub carried_sum : (m : List ℕ) → payload_right crc_over m ≡ true → (four_at (carried_of m + 8) m ≡ crc_over (four_at 4 m) (payload_of m)) × (get_or m (carried_of m + 12) 0 ≡ 10)
carried_sum m e =
    let (sums, ends) = both (eqb (four_at (carried_of m + 8) m) (crc_over (four_at 4 m) (payload_of m))) (eqb (get_or m (carried_of m + 12) 0) end_mark) e in
    (eqb-true (four_at (carried_of m + 8) m) (crc_over (four_at 4 m) (payload_of m)) sums, eqb-true (get_or m (carried_of m + 12) 0) end_mark ends)

-- a number behind the first eight bytes
four_behind : (n : ℕ) (m : List ℕ) → n + 12 ≤ length m → four_at n (drop 8 m) ≡ four_at (n + 8) m
four_behind n m h =
    let p : 8 + n ≡ n + 8 = omega arith in
    four_at_lem (drop 8 m) n (omega (arith, length-drop 8 m)) ∙ ap (from_little_endian 4 0) (drop-drop n 8 m ∙ ap (λ (x : ℕ). drop x m) p)
    ∙ sym (four_at_lem m (n + 8) (omega arith))

module _ (sum k : ℕ) (m c : List ℕ) (l : sum < 2 ^ 32) (u : Burst k m c) (w : Whole crc_over sum m) where
  same_title : titled crc_over sum c ≡ true → take 8 c ≡ take 8 m
  same_title t = stored_burst_found sum 4 k m c l u (omega (arith, w.within)) (title_sum sum m w.title) (title_sum sum c t)

  -- what the title says
  title_byte : titled crc_over sum c ≡ true → (i : ℕ) → i < 8 → get_or c i 0 ≡ get_or m i 0
  title_byte t i h = sym (get_or-take 8 c i 0 h) ∙ ap (λ (x : List ℕ). get_or x i 0) (same_title t) ∙ get_or-take 8 m i 0 h

  pub same_carried : titled crc_over sum c ≡ true → carried_of c ≡ carried_of m
  same_carried t = omega (arith, title_byte t 1 (omega arith), title_byte t 2 (omega arith), title_byte t 3 (omega arith))

  same_state : titled crc_over sum c ≡ true → four_at 4 c ≡ four_at 4 m
  same_state t =
      title_sum sum c t ∙ ap (crc_over sum) (sym (take-take 4 8 c (omega arith)) ∙ ap (take 4) (same_title t) ∙ take-take 4 8 m (omega arith))
      ∙ sym (title_sum sum m w.title)

  module _ (t : titled crc_over sum c ≡ true) (r : payload_right crc_over c ≡ true) where
    same_payload : take (carried_of m + 4) (drop 8 c) ≡ take (carried_of m + 4) (drop 8 m)
    same_payload =
        let n = carried_of m in
        let s = four_at 4 m in
        let inside : n + 12 ≤ length m = omega (arith, w.within) in
        let inside' : n + 12 ≤ length c = omega (arith, w.within, u.long) in
        let small : s < 2 ^ 32 = rw (title_sum sum m w.title) (crc_lt sum (take 4 m) l) in
        stored_burst_found s n (k - 64) (drop 8 m) (drop 8 c) small (burst_drop 8 u) (omega (arith, length-drop 8 m))
        (four_behind n m inside ∙ (carried_sum m w.right).0)
        (four_behind n c inside' ∙ ap (λ (x : ℕ). four_at (x + 8) c) (sym (same_carried t)) ∙ (carried_sum c r).0
        ∙ ap₂ (λ (x y : ℕ). crc_over x (take y (drop 8 c))) (same_state t) (same_carried t))

    same_byte : (i : ℕ) → i < carried_of m + 13 → get_or c i 0 ≡ get_or m i 0
    same_byte i h = ⊎_elim (title_byte t i)
        (λ (e : 8 ≤ i). ⊎_elim (λ (f : i < carried_of m + 12). inner e f) (λ (f : carried_of m + 12 ≤ i). last f) (lt_or_ge i (carried_of m + 12)))
        (lt_or_ge i 8)
      where
        behind : (x : List ℕ) → 8 ≤ i → get_or (drop 8 x) (i - 8) 0 ≡ get_or x i 0
        behind x e = let p : 8 + (i - 8) ≡ i = omega arith in get_or-drop 8 x (i - 8) 0 ∙ ap (λ (j : ℕ). get_or x j 0) p

        inner : 8 ≤ i → i < carried_of m + 12 → get_or c i 0 ≡ get_or m i 0
        inner e f =
            let j : i - 8 < carried_of m + 4 = omega arith in
            sym (get_or-take (carried_of m + 4) (drop 8 c) (i - 8) 0 j ∙ behind c e) ∙ ap (λ (x : List ℕ). get_or x (i - 8) 0) same_payload
            ∙ get_or-take (carried_of m + 4) (drop 8 m) (i - 8) 0 j ∙ behind m e

        last : carried_of m + 12 ≤ i → get_or c i 0 ≡ get_or m i 0
        last f =
            let p : i ≡ carried_of c + 12 = omega (arith, same_carried t) in
            let q : carried_of m + 12 ≡ i = omega arith in
            ap (λ (j : ℕ). get_or c j 0) p ∙ (carried_sum c r).1 ∙ sym (carried_sum m w.right).1 ∙ ap (λ (j : ℕ). get_or m j 0) q

    pub same_append : take (carried_of m + 13) c ≡ take (carried_of m + 13) m
    same_append =
        let n = carried_of m + 13 in
        ext_get_or 0 (take n c) (take n m) (omega (arith, length-take n c, length-take n m, u.long))
        (λ i h. let j : i < n = omega (arith, length-take n c) in get_or-take n c i 0 j ∙ same_byte i j ∙ sym (get_or-take n m i 0 j))

pub append_burst_found : AppendBurstFound
append_burst_found sum k m c l u e differ =
    let w = whole crc_over sum m e in
    let long : 8 ≤ length c = omega (arith, w.within, u.long) in
    split (titled crc_over sum c)
    (λ t. split (payload_right crc_over c)
    (λ r. absurd (differ (same_append sum k m c l u w t r)))
    (λ r. sym (wrong_at crc_over sum c long (sym t) refl refl (omega (arith, w.within, u.long, same_carried sum k m c l u w t)) (sym r) refl)))
    (λ t. sym (untitled crc_over sum c long (sym t) refl))

-- ---- a head

-- whatever the tests say, a good head has passed all of them
good_case : (a b c d : Bool) → cond (not a) NoJournal (cond (not b) OtherFormat (cond (not c) Damaged (cond (not d) Unfit Good))) ≡ Good → c ≡ true
good_case false b c d e = let z : ◌≡◌ {A = ℕ} 0 1 = cc in absurd (omega arith)
good_case true false c d e = let z : ◌≡◌ {A = ℕ} 0 1 = cc in absurd (omega arith)
good_case true true false d e = let z : ◌≡◌ {A = ℕ} 0 1 = cc in absurd (omega arith)
good_case true true true d e = refl

-- and one whose checksum is wrong is one of three
abbrev Refused : Kind → Type 0
Refused k = (k ≡ NoJournal) ⊎ ((k ≡ OtherFormat) ⊎ (k ≡ Damaged))

refused_case : (a b c d : Bool) → c ≡ false → Refused (cond (not a) NoJournal (cond (not b) OtherFormat (cond (not c) Damaged (cond (not d) Unfit Good))))
refused_case false b c d e = inl refl
refused_case true false c d e = inr (inl refl)
refused_case true true c d e = rw e (inr (inr refl))

-- its checksum is right, as the test says
summed : List ℕ → Bool
summed m = eqb (four_at 124 m) (crc_over 0 (take 124 m))

-- bytes that are enough for a head
enough : (m : List ℕ) → head_size ≤ length m → (head_of crc_over m).kind ≡ head_kind crc_over m
unfolding head_of
enough m h = rw (le-ltb (length m) head_size h)

too_short : (m : List ℕ) → ltb (length m) head_size ≡ true → (head_of crc_over m).kind ≡ NoJournal
unfolding head_of
too_short m t = rw t

head_long : (m : List ℕ) → (head_of crc_over m).kind ≡ Good → head_size ≤ length m
head_long m e = split (ltb (length m) head_size)
    (λ t. let f = sym (too_short m t) ∙ e in let z : ◌≡◌ {A = ℕ} 0 1 = cc in absurd (omega arith))
    (λ t. ltb-false (length m) head_size t)

head_summed : (m : List ℕ) → head_kind crc_over m ≡ Good → summed m ≡ true
unfolding head_kind summed
head_summed m e = good_case (is_text magic (take 20 m)) (eqb (get_or m 20 0) format) (summed m) (fit (lent_station (take 60 (drop 64 m)))) e

not_summed : (m : List ℕ) → summed m ≡ false → Refused (head_kind crc_over m)
unfolding head_kind summed
not_summed m e = refused_case (is_text magic (take 20 m)) (eqb (get_or m 20 0) format) (summed m) (fit (lent_station (take 60 (drop 64 m)))) e

head_sum : (m : List ℕ) → summed m ≡ true → four_at 124 m ≡ crc_over 0 (take 124 m)
unfolding summed
head_sum m e = eqb-true (four_at 124 m) (crc_over 0 (take 124 m)) e

-- a good head's checksum is the one behind it
pub good_sum : (m : List ℕ) → (head_of crc_over m).kind ≡ Good → four_at 124 m ≡ crc_over 0 (take 124 m)
good_sum m e = head_sum m (head_summed m (sym (enough m (head_long m e)) ∙ e))

-- and what the first append goes on from
pub head_sum_is : (m : List ℕ) → length m ≡ head_size → (head_of crc_over m).sum ≡ four_at 124 m
unfolding head_of
head_sum_is m h = rw (le-ltb (length m) head_size (omega arith))

pub head_burst_found : HeadBurstFound
head_burst_found k m c u e differ =
    let long = head_long m e in
    rw (enough c (omega (arith, u.long))) (split (summed c)
    (λ t. absurd (differ (stored_burst_found 0 124 k m c (omega arith) u (omega arith) (good_sum m e) (head_sum c t))))
    (not_summed c))

-- ---- what an append goes on from

pub append_in_place : AppendInPlace
append_in_place sum other m h l e f =
    start_found sum other (take 4 m) h l
    (sym (title_sum sum m (whole crc_over sum m e).title) ∙ title_sum other m (whole crc_over other m f).title)
