-- Hex digits: their values, those gathered from a text and as a number, and an image's line byte by byte. Assumes nothing.
use mathlib.Core.Path.{◌≡◌, refl, sym, ap, ap₂, ◌∙◌}
use mathlib.Core.Logic.{◌⊎◌, inl, inr, ⊎_elim}
use mathlib.Core.Bool.{Bool, true, false, not, cond}
use mathlib.Core.List.{List, [], ◌∷◌, ◌++◌, append_assoc, append-nil}
use Prim.Native.Nat.{ℕ, zero, suc, ◌+◌, ◌*◌, ◌-◌, ◌^◌, ◌≤◌, ◌<◌}
use native.Mathlib.Nat.{pow-suc, pow-le-pow_right}
use native.Mathlib.Omega.{arith}
use native.Mathlib.Numerals.{add-one}
use lib.Dec.{eqb, ltb}
use lib.ListN.{length, get_or, set, take, drop, replicate, length-append, length-set, drop_of_length-le}
use lib.Seq.{drop-cons, take-suc-set, length-take-le, get_or-take}
use borrow.Author.Tests.{lt-ltb, eq-eqb, ne_eqb, eqb-true, ltb-true, not-false}
use Rattle.bits.proofs.Cases.{split, alike}
use Rattle.bits.proofs.Search.{every_at, every_is}
use Rattle.bits.proofs.Least.{Passed, every_not}
use Rattle.std.specs.declared.option.Option.{Option}
use Rattle.std.specs.declared.option.Option.TheVariants.{Some, None}
use Rattle.drawing.specs.declared.Gathered.{Gathered}
use Rattle.drawing.specs.declared.Hex.{Hex}
use Rattle.drawing.specs.declared.Hex.TheVariants.{Image, Asked}
use Rattle.std.specs.Option.{is_some, IsSome}
use Rattle.drawing.proofs.Told.{below_is}
use Rattle.drawing.specs.Hex.{digit_of, all_digits, is_blank, unblanked, hex_number, is_count, hex_said, hex_in, hex_line}
use Rattle.drawing.specs.Private.{table, hex_at, if_under, KeepsDigits}

-- ---- gathered from a text

-- so many bytes of the text's first i are no blanks, and these are held
pub record Gathering (s bytes : List ℕ) (count i : ℕ) : Type 0 where
  pub within : i ≤ length s
  pub few : count ≤ 32
  pub room : length bytes ≡ 32
  pub held : unblanked s ≡ take count bytes ++ unblanked (drop i s)

module _ (s : List ℕ) where
  pub gather_starts : Gathering s (replicate 32 0) 0 0
  gather_starts = record { within = omega arith; few = omega arith; room = refl; held = refl }

  module _ {bytes : List ℕ} {count i : ℕ} (v : Gathering s bytes count i) where
    next : i < length s → unblanked (drop i s) ≡ cond (is_blank (get_or s i 0)) (unblanked (drop (suc i) s)) (get_or s i 0 ∷ unblanked (drop (suc i) s))
    unfolding unblanked
    next h = ap unblanked (drop-cons s i 0 h)

    module _ {t : Bool} (h : i < length s) (p : t ≡ is_blank (get_or s i 0)) where
      skipped : t ≡ true → unblanked (drop i s) ≡ unblanked (drop (suc i) s)
      skipped e = next h ∙ ap (λ (x : Bool). cond x (unblanked (drop (suc i) s)) (get_or s i 0 ∷ unblanked (drop (suc i) s))) (sym p ∙ e)

      taken : t ≡ false → unblanked (drop i s) ≡ get_or s i 0 ∷ unblanked (drop (suc i) s)
      taken e = next h ∙ ap (λ (x : Bool). cond x (unblanked (drop (suc i) s)) (get_or s i 0 ∷ unblanked (drop (suc i) s))) (sym p ∙ e)

      pub gather_skips : t ≡ true → Gathering s bytes count (i + 1)
      gather_skips e =
          record {
            within = omega arith;
            few = v.few;
            room = v.room;
            held = rw add-one (v.held ∙ ap (λ (x : List ℕ). take count bytes ++ x) (skipped e));
          }

      pub gather_keeps : t ≡ false → (count ≡ 32 → ⊥) → Gathering s (set bytes count (get_or s i 0)) (count + 1) (i + 1)
      gather_keeps e n =
          let few = v.few in
          let k : count < length bytes = omega (arith, v.room) in
          let b = get_or s i 0 in
          record {
            within = omega arith;
            few = omega arith;
            room = length-set bytes count b ∙ v.room;
            held = rw (add-one i, add-one count, take-suc-set bytes count b k)
                (v.held ∙ ap (λ (x : List ℕ). take count bytes ++ x) (taken e) ∙ sym (append_assoc (take count bytes) (b ∷ []) (unblanked (drop (suc i) s))));
          }

      pub gather_past : t ≡ false → count ≡ 32 → 32 < length (unblanked s)
      gather_past e c =
          let few = v.few in
          let k = length-take-le count bytes (omega (arith, v.room)) in
          let l = ap length (v.held ∙ ap (λ (x : List ℕ). take count bytes ++ x) (taken e))
          ∙ length-append (take count bytes) (get_or s i 0 ∷ unblanked (drop (suc i) s)) in
          omega arith

    pub gather_ends : length s ≤ i → KeepsDigits (unblanked s) (record { count = count; bytes = bytes })
    unfolding unblanked
    gather_ends h =
        let few = v.few in
        let k = length-take-le count bytes (omega (arith, v.room)) in
        let all : unblanked s ≡ take count bytes = v.held ∙ ap (λ (x : List ℕ). take count bytes ++ unblanked x) (drop_of_length-le s h) ∙ append-nil (take count bytes) in
        record {
          many = omega (arith, ap length all);
          few = few;
          held = λ j h. sym (ap (λ (l : List ℕ). get_or l j 0) all ∙ get_or-take count bytes j 0 h);
        }

-- ---- each of them a digit

abbrev pub no_digit : List ℕ → ℕ → Bool
no_digit d j = not (ltb (digit_of (get_or d j 0)) 16)

module _ (n : ℕ) (d : List ℕ) (j : ℕ) {o : Option ℕ} (p : o ≡ if_under 16 (digit_of (get_or d j 0))) where
  some_is : is_some o ≡ ltb (digit_of (get_or d j 0)) 16
  some_is = ap is_some p ∙ split (ltb (digit_of (get_or d j 0)) 16) (λ t. rw t refl) (λ t. rw t refl)

  pub not_all : j < n → is_some o ≡ false → false ≡ all_digits n d
  not_all h e = sym (every_not n (λ j. ltb (digit_of (get_or d j 0)) 16) j h (sym some_is ∙ e))

  pub one_more : is_some o ≡ true → no_digit d j ≡ false
  one_more e = ap not (sym some_is ∙ e)

pub all_are : (n : ℕ) (d : List ℕ) {j : ℕ} → Passed (no_digit d) n j → n ≤ j → true ≡ all_digits n d
all_are n d v h = sym (every_is n (λ j. ltb (digit_of (get_or d j 0)) 16) (λ j l. not-false (ltb (digit_of (get_or d j 0)) 16) (v.none j (omega arith))))

pub digit_small : (n : ℕ) (d : List ℕ) → all_digits n d ≡ true → (j : ℕ) → j < n → digit_of (get_or d j 0) < 16
digit_small n d e j h = ltb-true (digit_of (get_or d j 0)) 16 (every_at n (λ j. ltb (digit_of (get_or d j 0)) 16) e j h)

-- so are fewer
pub fewer : (m n : ℕ) (d : List ℕ) → m ≤ n → all_digits n d ≡ true → all_digits m d ≡ true
fewer m n d h e = every_is m (λ j. ltb (digit_of (get_or d j 0)) 16) (λ j l. every_at n (λ j. ltb (digit_of (get_or d j 0)) 16) e j (omega arith))

-- a digit that is there is unwrapped
pub there : (first : ℕ) (d : List ℕ) → first ≤ 8 → all_digits (2 * first + 16) d ≡ true
    → {j : ℕ} → j < 2 * first + 16 → {o : Option ℕ} → o ≡ if_under 16 (digit_of (get_or d j 0)) → IsSome o
there first d h e {j} l {o} p = rw (p, lt-ltb (digit_of (get_or d j 0)) 16 (digit_small (2 * first + 16) d e j l)) refl

pub is_digit : {n v : ℕ} {o : Option ℕ} → o ≡ if_under 16 n → o ≡ Some v → v ≡ n
is_digit {n} {v} p q = below_is 16 n (sym q ∙ p)

-- ---- their number

-- n bytes from k on, each below 256
number_lt : (m : ℕ) (d : List ℕ) → all_digits m d ≡ true → (n k : ℕ) → 2 * (n + k) ≤ m → hex_number n k d < 256 ^ n
unfolding hex_number
number_lt m d e zero k h = omega arith
number_lt m d e (suc n) k h =
    omega (arith, pow-suc 256 n, number_lt m d e n (suc k) (omega arith), digit_small m d e (2 * k) (omega arith), digit_small m d e (2 * k + 1) (omega arith))

-- number holds the bytes from the first and k on
pub record Numbering (first : ℕ) (d : List ℕ) (k number : ℕ) : Type 0 where
  pub low : k ≤ 8
  pub fits : number < 2 ^ 64
  pub held : number ≡ hex_number (8 - k) (first + k) d

module _ (first : ℕ) (d : List ℕ) where
  pub numbering_starts : Numbering first d 8 0
  unfolding hex_number
  numbering_starts = record { low = omega arith; fits = omega arith; held = refl }

  pub numbers : {k number high low : ℕ} → all_digits (2 * first + 16) d ≡ true → Numbering first d k number → 0 < k
      → high ≡ digit_of (get_or d (2 * (first + (k - 1))) 0) → low ≡ digit_of (get_or d (2 * (first + (k - 1)) + 1) 0)
      → Numbering first d (k - 1) (number * 256 + 16 * high + low)
  unfolding hex_number
  numbers {k} {number} {high} {low} e v p q r =
      let l = v.low in
      let b = first + (k - 1) in
      let n : 8 - (k - 1) ≡ suc (8 - k) = omega arith in
      let m : suc (first + (k - 1)) ≡ first + k = omega arith in
      let step : hex_number (8 - (k - 1)) b d ≡ digit_of (get_or d (2 * b) 0) * 16 + digit_of (get_or d (2 * b + 1) 0) + 256 * hex_number (8 - k) (first + k) d =
      ap (λ (x : ℕ). hex_number x b d) n
      ∙ ap (λ (x : ℕ). digit_of (get_or d (2 * b) 0) * 16 + digit_of (get_or d (2 * b + 1) 0) + 256 * hex_number (8 - k) x d) m in
      let is : number * 256 + 16 * high + low ≡ hex_number (8 - (k - 1)) b d = omega (arith, v.held) in
      let bound : 256 ^ (8 - (k - 1)) ≤ 256 ^ 8 = pow-le-pow_right {n = 256} (omega arith) {i = 8 - (k - 1)} {j = 8} (omega arith) in
      record { low = omega arith; fits = omega (arith, number_lt (2 * first + 16) d e (8 - (k - 1)) b (omega arith)); held = is }

  pub numbering_ends : {k number : ℕ} → Numbering first d k number → k ≤ 0 → number ≡ hex_number 8 first d
  numbering_ends {k} v h =
      let z : k ≡ 0 = omega arith in
      let e : first + 0 ≡ first = omega arith in
      v.held ∙ ap (λ (x : ℕ). hex_number (8 - x) (first + x) d) z ∙ ap (λ (x : ℕ). hex_number 8 x d) e

-- a number rests on its own digits
number_same : (d c : List ℕ) (m : ℕ) → ((j : ℕ) → j < m → get_or d j 0 ≡ get_or c j 0) → (n k : ℕ) → 2 * (n + k) ≤ m → hex_number n k d ≡ hex_number n k c
unfolding hex_number
number_same d c m e zero k h = refl
number_same d c m e (suc n) k h =
    ap₂ (λ (x y : ℕ). x + 256 * y)
    (ap₂ (λ (x y : ℕ). digit_of x * 16 + digit_of y) (e (2 * k) (omega arith)) (e (2 * k + 1) (omega arith)))
    (number_same d c m e n (suc k) (omega arith))

digits_same : (d c : List ℕ) (m : ℕ) → ((j : ℕ) → j < m → get_or d j 0 ≡ get_or c j 0) → all_digits m d ≡ all_digits m c
digits_same d c m e = alike _ _
    (λ a. every_is m (λ j. ltb (digit_of (get_or c j 0)) 16) (λ j h. sym (is j h) ∙ every_at m (λ j. ltb (digit_of (get_or d j 0)) 16) a j h))
    (λ a. every_is m (λ j. ltb (digit_of (get_or d j 0)) 16) (λ j h. is j h ∙ every_at m (λ j. ltb (digit_of (get_or c j 0)) 16) a j h))
  where
    is : (j : ℕ) → j < m → ltb (digit_of (get_or d j 0)) 16 ≡ ltb (digit_of (get_or c j 0)) 16
    is j h = ap (λ (b : ℕ). ltb (digit_of b) 16) (e j h)

-- ---- what a text in hex says

pub which_count : (n : ℕ) → is_count n ≡ true → (n ≡ 16) ⊎ (n ≡ 32)
which_count n e = split (eqb n 16) (λ t. inl (eqb-true n 16 t)) (λ t. inr (eqb-true n 32 (rw t at e)))

pub few_digits : (n : ℕ) → is_count n ≡ true → n ≤ 32
few_digits n c = ⊎_elim (λ (x : n ≡ 16). omega arith) (λ (x : n ≡ 32). omega arith) (which_count n c)

pub too_many : (s : List ℕ) → 32 < length (unblanked s) → None ≡ hex_in s
unfolding hex_in
too_many s h = rw (ne_eqb (length (unblanked s)) 16 (λ e. omega arith), ne_eqb (length (unblanked s)) 32 (λ e. omega arith))

module _ (s : List ℕ) {r : Gathered} (g : KeepsDigits (unblanked s) r) where
  abbrev d : List ℕ
  d = unblanked s

  same_count : is_count r.count ≡ is_count (length d)
  same_count = ap is_count g.many

  pub not_count : is_count r.count ≡ false → None ≡ hex_in s
  unfolding hex_in
  not_count e = rw (sym same_count ∙ e)

  module _ (e : is_count r.count ≡ true) {t : Bool} (p : t ≡ all_digits r.count r.bytes) where
    asked : t ≡ all_digits (length d) d
    asked = p ∙ digits_same r.bytes d r.count g.held ∙ ap (λ (n : ℕ). all_digits n d) g.many

    pub not_digits : t ≡ false → None ≡ hex_in s
    unfolding hex_in
    not_digits y = rw (sym same_count ∙ e, sym asked ∙ y)

    said_alike : hex_said r.count r.bytes ≡ hex_said (length d) d
    said_alike = go (which_count r.count e)
      where
        first : 16 ≤ r.count → hex_number 8 0 r.bytes ≡ hex_number 8 0 d
        first h = number_same r.bytes d r.count g.held 8 0 h

        go : (r.count ≡ 16) ⊎ (r.count ≡ 32) → hex_said r.count r.bytes ≡ hex_said (length d) d
        go (inl x) = let y : length d ≡ 16 = sym g.many ∙ x in rw (x, y) (ap Image (first (omega arith)))
        go (inr x) =
            let y : length d ≡ 32 = sym g.many ∙ x in
            rw (x, y) (ap₂ Asked (first (omega arith)) (number_same r.bytes d r.count g.held 8 8 (omega arith)))

    pub all_said : {x : Hex} → t ≡ true → x ≡ hex_said r.count r.bytes → Some x ≡ hex_in s
    unfolding hex_in
    all_said {x} y q = rw (sym same_count ∙ e, sym asked ∙ y) (ap Some (q ∙ said_alike))

-- what so many digits say, case by case
module _ (n : ℕ) (d : List ℕ) (c : is_count n ≡ true) where
  module _ (e : all_digits n d ≡ true) where
    pub first_digits : all_digits 16 d ≡ true
    first_digits = fewer 16 n d (⊎_elim (λ (x : n ≡ 16). omega arith) (λ (x : n ≡ 32). omega arith) (which_count n c)) e

    pub more_digits : (n ≡ 16 → ⊥) → all_digits 32 d ≡ true
    more_digits m = fewer 32 n d (⊎_elim (λ (x : n ≡ 16). absurd (m x)) (λ (x : n ≡ 32). omega arith) (which_count n c)) e

  pub said_image : {x : ℕ} → n ≡ 16 → x ≡ hex_number 8 0 d → Image x ≡ hex_said n d
  said_image {x} z p = rw (eq-eqb n 16 z) (ap Image p)

  pub said_asked : {x y : ℕ} → (n ≡ 16 → ⊥) → x ≡ hex_number 8 0 d → y ≡ hex_number 8 8 d → Asked x y ≡ hex_said n d
  said_asked {x} {y} m p q = rw (ne_eqb n 16 m) (ap₂ Asked p q)

-- ---- an image's line

pub line_is : (r : ℕ) → table 24 (hex_at r) ≡ hex_line 8 r
unfolding table hex_at hex_line
line_is r = refl
