-- An append that was written reads back; by the tables the same is found. Assumes nothing.
use mathlib.Core.Path.{◌≡◌, refl, sym, ap, ap₂, ◌∙◌}
use mathlib.Core.Bool.{Bool, true, false, cond, not, ◌&&◌}
use mathlib.Core.List.{List, [], ◌∷◌, ◌++◌, append_assoc, append-nil}
use Prim.Native.Nat.{ℕ, suc, ◌+◌, ◌^◌, ◌≤◌, ◌<◌}
use native.Mathlib.Omega.{arith}
use borrow.Author.Tests.{le-leb, le-ltb, eq-eqb, ltb-true, ltb-false}
use lib.Dec.{eqb, leb, ltb}
use lib.ListN.{length, get_or, take, drop, length-append, length-take, get_or-eq_default}
use lib.Seq.{take_at, get_or_at, get_or-take, get_or-drop}
use Rattle.bits.proofs.Cases.{split}
use Rattle.codec.specs.Bytes.{little_endian, from_little_endian, Bytes}
use Rattle.codec.proofs.Numbers.{read_tail, number_back}
use Rattle.codec.specs.Fours.{four_at}
use Rattle.checksum.specs.Checksum.{crc_over}
use Rattle.checksum.specs.Slices.{slices, crc_by}
use Rattle.checksum.proofs.Promises.{in_range, by_slices}
use Rattle.journal_file.specs.Appends.{Over, most_carried, around, end_mark, title_of, opening_of, sum_after, closing_of, append_of, carried_of, payload_of, titled, payload_right, no_front, whole_front, front_of}
use Rattle.journal_file.specs.Promises.{AppendReadsBack, FrontByTables}

-- ---- numbers behind other bytes

pub behind : (n : ℕ) (before s : List ℕ) → from_little_endian n (length before) (before ++ s) ≡ from_little_endian n 0 s
behind n [] s = refl
behind n (b ∷ before) s = read_tail n (length before) b (before ++ s) ∙ behind n before s

-- a number of four bytes that stands behind other bytes
pub four_behind : (before : List ℕ) (x : ℕ) (past : List ℕ) (k : ℕ) → x < 2 ^ 32 → length before ≡ k → four_at k (before ++ (little_endian 4 x ++ past)) ≡ x
unfolding four_at
four_behind before x past k h e =
    let l = length-append before (little_endian 4 x ++ past) in
    rw (← e, le-leb (length before + 4) (length (before ++ (little_endian 4 x ++ past))) (omega (arith, l)))
    (behind 4 before (little_endian 4 x ++ past) ∙ number_back 4 x past (omega arith))

-- ---- what was written reads back

module _ (sum kind : ℕ) (bytes past : List ℕ) (small : sum < 2 ^ 32) (fits : length bytes ≤ 65536) where
  abbrev n : ℕ
  n = length bytes

  abbrev title : List ℕ
  title = title_of kind n

  abbrev first : ℕ
  first = crc_over sum title

  abbrev second : ℕ
  second = crc_over first bytes

  -- behind the opening
  abbrev rest : List ℕ
  rest = bytes ++ (little_endian 4 second ++ (end_mark ∷ past))

  abbrev m : List ℕ
  m = opening_of crc_over sum kind n ++ rest

  first_small : first < 2 ^ 32
  first_small = in_range sum title small

  second_small : second < 2 ^ 32
  second_small = in_range first bytes first_small

  laid : append_of crc_over sum kind bytes ++ past ≡ m
  unfolding append_of
  laid =
      append_assoc (opening_of crc_over sum kind n) (bytes ++ closing_of second) past
      ∙ ap (◌++◌ (opening_of crc_over sum kind n)) (append_assoc bytes (closing_of second) past)

  long : length m ≡ n + 13 + length past
  long = let l = length-append bytes (little_endian 4 second ++ (end_mark ∷ past)) in omega arith

  carries : carried_of m ≡ n
  carries = read_tail 3 0 kind (little_endian 3 n ++ (little_endian 4 first ++ rest)) ∙ number_back 3 n (little_endian 4 first ++ rest) (omega arith)

  said : four_at 4 m ≡ first
  said = four_behind title first rest 4 first_small refl

  payload : payload_of m ≡ bytes
  payload = ap (λ (k : ℕ). take k rest) carries ∙ take_at bytes (little_endian 4 second ++ (end_mark ∷ past)) n refl

  -- what stands before the last checksum
  abbrev front : List ℕ
  front = opening_of crc_over sum kind n ++ bytes

  last : four_at (carried_of m + 8) m ≡ second
  last =
      let e : carried_of m + 8 ≡ 8 + n = omega (arith, carries) in
      ap (λ (k : ℕ). four_at k m) e
      ∙ ap (four_at (8 + n)) (sym (append_assoc (opening_of crc_over sum kind n) bytes (little_endian 4 second ++ (end_mark ∷ past))))
      ∙ four_behind front second (end_mark ∷ past) (8 + n) second_small (length-append (opening_of crc_over sum kind n) bytes)

  ended : get_or m (carried_of m + 12) 0 ≡ end_mark
  ended =
      let e : carried_of m + 12 ≡ length (front ++ little_endian 4 second) =
      omega (arith, carries, length-append front (little_endian 4 second), length-append (opening_of crc_over sum kind n) bytes) in
      ap (λ (k : ℕ). get_or m k 0) e
      ∙ ap (λ (l : List ℕ). get_or l (length (front ++ little_endian 4 second)) 0)
      (sym (append_assoc (opening_of crc_over sum kind n) bytes (little_endian 4 second ++ (end_mark ∷ past))) ∙ sym (append_assoc front (little_endian 4 second) (end_mark ∷ past)))
      ∙ get_or_at (front ++ little_endian 4 second) end_mark past 0 (length (front ++ little_endian 4 second)) refl

  is_titled : titled crc_over sum m ≡ true
  is_titled =
      ap₂ ◌&&◌ (eq-eqb (four_at 4 m) (crc_over sum (take 4 m)) said) (le-leb (carried_of m) most_carried (omega (arith, carries)))

  is_carried : payload_right crc_over m ≡ true
  is_carried =
      ap₂ ◌&&◌ (eq-eqb (four_at (carried_of m + 8) m) (crc_over (four_at 4 m) (payload_of m)) (last ∙ sym (ap₂ crc_over said payload)))
      (eq-eqb (get_or m (carried_of m + 12) 0) end_mark ended)

  read : front_of crc_over sum m ≡ record { whole = true; short = false; kind = kind; carries = n; sum = second }
  unfolding front_of
  read =
      rw (le-ltb (length m) 8 (omega (arith, long)), is_titled, le-ltb (length m) (carried_of m + around) (omega (arith, long, carries)), is_carried)
      (ap₂ (λ (c s : ℕ). record { whole = true; short = false; kind = kind; carries = c; sum = s }) carries last)

pub append_reads_back : AppendReadsBack
append_reads_back sum kind bytes past small fits =
    ap (front_of crc_over sum) (laid sum kind bytes past small fits) ∙ read sum kind bytes past small fits

-- its title is right, and says how much is carried
pub append_titled : (sum kind : ℕ) (bytes : List ℕ) → sum < 2 ^ 32 → length bytes ≤ 65536
    → (titled crc_over sum (append_of crc_over sum kind bytes) ≡ true) × (carried_of (append_of crc_over sum kind bytes) ≡ length bytes)
append_titled sum kind bytes small fits =
    let e = sym (append-nil (append_of crc_over sum kind bytes)) ∙ laid sum kind bytes [] small fits in
    (ap (titled crc_over sum) e ∙ is_titled sum kind bytes [] small fits, ap carried_of e ∙ carries sum kind bytes [] small fits)

-- its kind, what is carried, and how long it is
pub kind_back : (over : Over) (sum kind : ℕ) (bytes : List ℕ) → get_or (append_of over sum kind bytes) 0 0 ≡ kind
unfolding append_of
kind_back over sum kind bytes = refl

pub payload_back : (sum kind : ℕ) (bytes : List ℕ) → sum < 2 ^ 32 → length bytes ≤ 65536 → payload_of (append_of crc_over sum kind bytes) ≡ bytes
payload_back sum kind bytes small fits =
    ap payload_of (sym (append-nil (append_of crc_over sum kind bytes)) ∙ laid sum kind bytes [] small fits) ∙ payload sum kind bytes [] small fits

pub append_long : (sum kind : ℕ) (bytes : List ℕ) → sum < 2 ^ 32 → length bytes ≤ 65536 → length (append_of crc_over sum kind bytes) ≡ length bytes + 13
append_long sum kind bytes small fits =
    let e = ap length (sym (append-nil (append_of crc_over sum kind bytes)) ∙ laid sum kind bytes [] small fits) in
    let l = long sum kind bytes [] small fits in
    omega arith

-- ---- by the tables

pub bytes_drop : (m : List ℕ) (k : ℕ) → Bytes m → Bytes (drop k m)
bytes_drop m k e i = rw (get_or-drop k m i 0) (e (k + i))

bytes_take : (m : List ℕ) (k : ℕ) → Bytes m → Bytes (take k m)
bytes_take m k e i =
    split (ltb i k) (λ t. rw (get_or-take k m i 0 (ltb-true i k t)) (e i))
    (λ t.
    let h = ltb-false i k t in
    let l = length-take k m in
    rw (get_or-eq_default (take k m) 0 {n = i} (omega arith)) (omega arith))

four_small : (m : List ℕ) (k : ℕ) → Bytes m → four_at k m < 2 ^ 32
unfolding four_at
four_small m k e =
    let b0 = e k in
    let b1 = e (suc k) in
    let b2 = e (suc (suc k)) in
    let b3 = e (suc (suc (suc k))) in
    split (leb (k + 4) (length m)) (λ t. rw t (omega arith)) (λ t. rw t (omega arith))

pub front_by_tables : FrontByTables
unfolding front_of
front_by_tables sum m small e =
    ap₂
    (λ (a b : Bool).
    cond (ltb (length m) 8) (no_front true) (cond (not a) (no_front false) (cond (ltb (length m) (carried_of m + around)) (no_front true) (cond b (whole_front m) (no_front false)))))
    (ap (λ (x : ℕ). eqb (four_at 4 m) x && leb (carried_of m) most_carried) (by_slices sum (take 4 m) small (bytes_take m 4 e)))
    (ap (λ (x : ℕ). eqb (four_at (carried_of m + 8) m) x && eqb (get_or m (carried_of m + 12) 0) end_mark)
    (by_slices (four_at 4 m) (payload_of m) (four_small m 4 e) (bytes_take (drop 8 m) (carried_of m) (bytes_drop m 8 e))))
