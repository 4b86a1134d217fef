-- Marks of up to eight instructions as one byte: which marks stand, and when all of them do; and a fit station. Assumes nothing.
use Rattle.std.proofs.Common.{◌≡◌, ℕ, zero, suc, ◌-◌, ◌*◌, ◌%◌, ◌^◌, ◌<◌, ◌≤◌, Bool, true, false, not, ◌&&◌, ◌||◌, eqb, ltb, leb, get_or, sym, refl, ap, ◌∙◌, lt_of_le_of_lt, mod-lt, arith, pow_pos, pow_mono, ltb-false, ltb-true, eq-eqb, ne_eqb, eqb-true, le-leb, leb-true}
use native.Mathlib.Nat.{mod-le}
use mathlib.Core.Path.{fun_ext}
use mathlib.Core.Bool.{and_assoc, and-false, or-true, not-not}
use lib.Pow.{pow-lt}
use lib.Bits.{bit_and, bit_or, and_le_r}
use borrow.Author.Tests.{lt-leb}
use Rattle.bits.specs.Bits.{bit}
use Rattle.bits.specs.Search.{some, every, least}
use Rattle.bits.proofs.Cases.{split, clash, both, alike}
use Rattle.bits.proofs.Search.{every_at, every_is}
use Rattle.bits.proofs.Digits.{bit_ext, bit_past, bit_ones}
use Rattle.bits.proofs.Operations.{bit_and_lem, bit_low}
use Rattle.bits.proofs.Least.{every_least}
use Rattle.floor.specs.Tests.{holds, under_way}
use Rattle.floor.specs.Sound.{sound}
use Rattle.rules.specs.Codes.{most_in_set}
use Rattle.station.specs.declared.Station.{Station}
use Rattle.station.specs.Held.{code_at, held_allowed, bad, touches, overlaps_earlier, stranded, lift_in, crosses_drive}
use Rattle.station.specs.Station.{closed, in_set, marked, place_used, fit, noting, answering}

-- n marks are a byte
pub pow_small : (n : ℕ) → n ≤ 8 → (0 < 2 ^ n) × (2 ^ n ≤ 256)
pow_small n h = (pow_pos n, pow_mono h)

-- 1 << i in a byte
pub mark_of : (i : ℕ) → i < 8 → 1 * 2 ^ i % 256 ≡ 2 ^ i
mark_of i h = let l : 2 ^ i < 2 ^ 8 = pow-lt h in omega arith

-- of n marks each stands, exactly if the low n bits are all ones
all_marked : (n a : ℕ) → every n (bit a) ≡ eqb (bit_and a (2 ^ n - 1)) (2 ^ n - 1)
all_marked n a = alike (every n (bit a)) (eqb (bit_and a (2 ^ n - 1)) (2 ^ n - 1))
    (λ t. eq-eqb _ _
    (bit_ext n (bit_and a (2 ^ n - 1)) (2 ^ n - 1) (omega (arith, and_le_r a (2 ^ n - 1), pow_pos n)) (omega (arith, pow_pos n))
    (λ k l. rw (bit_and_lem a (2 ^ n - 1) k, every_at n (bit a) t k l))))
    (λ t. every_is n (bit a) (λ k l. (both (bit a k) (bit (2 ^ n - 1) k) (ones t k l)).0))
  where
    ones : eqb (bit_and a (2 ^ n - 1)) (2 ^ n - 1) ≡ true → (k : ℕ) → k < n → bit a k && bit (2 ^ n - 1) k ≡ true
    ones t k l = sym (bit_and_lem a (2 ^ n - 1) k) ∙ ap (λ (x : ℕ). bit x k) (eqb-true _ _ t) ∙ bit_ones n k l

-- a mark that stands is one of the first n
abbrev inside : ℕ → ℕ → ℕ → Bool
inside n a i = not (bit a i) || ltb i n

-- of eight marks only the first n stand, exactly if the number is at most n ones
only_marked : (n a : ℕ) → a < 2 ^ 8 → every 8 (inside n a) ≡ leb a (2 ^ n - 1)
only_marked n a l = alike (every 8 (inside n a)) (leb a (2 ^ n - 1))
    (λ t. le-leb a (2 ^ n - 1) (low t))
    (λ t. every_is 8 (inside n a) (λ i m. split (ltb i n)
    (λ e. rw e (or-true (not (bit a i))))
    (λ e. rw (bit_past a n i (let z = leb-true a (2 ^ n - 1) t in omega (arith, pow_pos n)) (ltb-false i n e)))))
  where
    same : every 8 (inside n a) ≡ true → (k : ℕ) → k < 8 → bit a k ≡ ltb k n && bit a k
    same t k m = let e = every_at 8 (inside n a) t k m in split (ltb k n)
        (λ u. rw u)
        (λ u. split (bit a k) (λ v. clash (rw (u, v) at e) refl) (λ v. rw (u, v)))

    low : every 8 (inside n a) ≡ true → a ≤ 2 ^ n - 1
    low t =
        let e : a ≡ a % 2 ^ n = bit_ext 8 a (a % 2 ^ n) l (lt_of_le_of_lt (mod-le a (2 ^ n)) l) (λ k m. same t k m ∙ sym (bit_low a n k)) in
        omega (arith, mod-lt a (pow_pos n))

-- one is missing, exactly if not every one stands
some_not : (n : ℕ) (p : ℕ → Bool) → some n (λ i. not (p i)) ≡ not (every n p)
unfolding some every
some_not zero p = refl
some_not (suc n) p = rw (some_not n p) (de_morgan (p n) (every n p))
  where
    de_morgan : (a b : Bool) → not a || not b ≡ not (a && b)
    de_morgan true b = refl
    de_morgan false b = refl

-- ---- instruction i answered

-- a number of the set is small
pub in_set_lem : (s : Station) (i : ℕ) → in_set s i ≡ true → (s.count ≤ 8) × (i < s.count)
in_set_lem s i e = let (a, b) = both (leb s.count 8) (ltb i s.count) e in (leb-true _ _ a, ltb-true _ _ b)

-- all marks stand: the set is closed
pub last_answer : (s : Station) (i r apart : ℕ) {mark all : ℕ} → mark ≡ 2 ^ i → all ≡ 2 ^ s.count - 1 → bit_and (bit_or s.answered mark) all ≡ all
    → closed r s.next apart ≡ answering s i r apart
unfolding answering
last_answer s i r apart m a e = rw (all_marked s.count (bit_or s.answered (2 ^ i)), ← m, ← a, eq-eqb _ _ e)

-- one is missing
pub one_answer : (s : Station) (i r apart : ℕ) {mark all : ℕ} → mark ≡ 2 ^ i → all ≡ 2 ^ s.count - 1
    → (bit_and (bit_or s.answered mark) all ≡ all → ⊥)
    → noting s (bit_or s.answered mark) r apart ≡ answering s i r apart
unfolding answering
one_answer s i r apart m a e = rw (all_marked s.count (bit_or s.answered (2 ^ i)), ← m, ← a, ne_eqb _ _ e)

-- ---- a fit station

-- the code's conjunction, grouped as the definition's
and_assoc_9 : (a b c d e f g h i : Bool) → a && b && c && d && e && f && g && h && i ≡ a && (b && (c && (d && (e && (f && (g && (h && i)))))))
and_assoc_9 false b c d e f g h i = refl
and_assoc_9 true false c d e f g h i = refl
and_assoc_9 true true false d e f g h i = refl
and_assoc_9 true true true false e f g h i = refl
and_assoc_9 true true true true false f g h i = refl
and_assoc_9 true true true true true false g h i = refl
and_assoc_9 true true true true true true g h i = and_assoc g h i

-- none below n is bad
all_good : (n : ℕ) (p : ℕ → Bool) → eqb (least n p) n ≡ every n (λ i. not (p i))
all_good n p = rw (← ap (λ (q : ℕ → Bool). least n q) (fun_ext (λ i. not-not (p i)))) (every_least n (λ i. not (p i)))

-- what the code tests
pub fit_is : (s : Station) {fine rest driving lifts : Bool} {worst touched over shut all : ℕ} → s.count ≤ 8 → s.answered < 2 ^ 8
    → fine ≡ sound s.bits → all ≡ 2 ^ s.count - 1 → rest ≡ every 40 (λ k. place_used s k || eqb (get_or s.set k 0) 0)
    → driving ≡ holds under_way (bit s.bits)
    → (worst ≡ least s.count (bad s.set)) × (touched ≡ least s.count (touches s.set 0)) × (over ≡ least s.count (overlaps_earlier s.set))
    × (shut ≡ least s.count (stranded s.answered s.set s.bits)) × (lifts ≡ lift_in s.set s.count)
    → fine && eqb worst s.count && leb s.answered all && rest && (eqb s.count 0 || not (eqb (bit_and s.answered all) all))
    && not (driving && lifts) && eqb over s.count && eqb shut s.count && ltb s.apart (2 ^ 53) ≡ fit s
unfolding fit crosses_drive
fit_is s {fine} {rest} {driving} {lifts} {worst} {touched} {over} {shut} {all} h l e₁ e₂ e₃ e₄ found =
    and_assoc_9 fine (eqb worst s.count) (leb s.answered all) rest (eqb s.count 0 || not (eqb (bit_and s.answered all) all))
    (not (driving && lifts)) (eqb over s.count) (eqb shut s.count) (ltb s.apart (2 ^ 53))
    ∙ rw (
      e₁,
      e₂,
      e₃,
      e₄,
      found.0,
      found.2,
      found.3,
      found.4,
      all_good s.count (bad s.set),
      all_good s.count (overlaps_earlier s.set),
      all_good s.count (stranded s.answered s.set s.bits),
      le-leb _ _ h,
      only_marked s.count s.answered l,
      some_not s.count (bit s.answered),
      all_marked s.count s.answered,
    )

-- more than eight instructions
pub unfit_is : (s : Station) → 8 < s.count → false ≡ fit s
unfolding fit
unfit_is s h = rw (lt-leb _ _ h) (sym (and-false (sound s.bits)))

-- on a fit station an instruction of its set without a mark is allowed
pub waiting_allowed : (s : Station) (i : ℕ) → fit s ≡ true → i < s.count → marked s i ≡ false → held_allowed (code_at s.set i) (bit s.bits) ≡ true
unfolding fit
waiting_allowed s i e l m =
    let ready : Bool = every s.count (λ i. not (stranded s.answered s.set s.bits i)) in
    let apart : Bool = every s.count (λ i. not (overlaps_earlier s.set i)) in
    let clear : Bool = not (crosses_drive s.bits s.set s.count) in
    let owed : Bool = eqb s.count 0 || some s.count (λ i. not (marked s i)) in
    let blank : Bool = every 40 (λ k. place_used s k || eqb (get_or s.set k 0) 0) in
    let marks : Bool = every 8 (λ i. not (marked s i) || ltb i s.count) in
    let good : Bool = every s.count (λ i. not (bad s.set i)) in
    let t₉ : Bool = ready && ltb s.apart (2 ^ 53) in
    let t₈ : Bool = apart && t₉ in
    let t₇ : Bool = clear && t₈ in
    let t₆ : Bool = owed && t₇ in
    let t₅ : Bool = blank && t₆ in
    let t₄ : Bool = marks && t₅ in
    let t₃ : Bool = good && t₄ in
    let a = (both (sound s.bits) (leb s.count most_in_set && t₃) e).1 in
    let b = (both marks t₅ (both good t₄ (both (leb s.count most_in_set) t₃ a).1).1).1 in
    let c = (both clear t₈ (both owed t₇ (both blank t₆ b).1).1).1 in
    let y = (both ready (ltb s.apart (2 ^ 53)) (both apart t₉ c).1).0 in
    go (bit s.answered i) (held_allowed (code_at s.set i) (bit s.bits)) (every_at s.count (λ i. not (stranded s.answered s.set s.bits i)) y i l) m
  where
    go : (m h : Bool) → not (not m && not h) ≡ true → m ≡ false → h ≡ true
    go true h t e = clash refl e
    go false true t e = refl
    go false false t e = clash t refl
