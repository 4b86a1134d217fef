-- Lines of a drawing: each that a record has is of its form and tells what is there, and a line of its form is the line of every record that
-- has what it tells. Assumes nothing.
use mathlib.Core.Path.{◌≡◌, refl, sym, ap, ap₂, ◌∙◌}
use mathlib.Core.Bool.{Bool, true, false, ◌&&◌, ◌||◌, beq}
use mathlib.Core.List.{List, map}
use Prim.Native.Nat.{ℕ, zero, suc, ◌+◌, ◌<◌}
use native.Mathlib.Omega.{arith}
use lib.Dec.{T, eqb, ltb}
use lib.ListN.{length}
use lib.Seq.{ext_get_or}
use borrow.Author.Tests.{eqb-true, eq-eqb, ltb-true, ltb-false}
use Rattle.bits.specs.Places.{from}
use Rattle.bits.specs.Search.{every}
use Rattle.bits.proofs.Cases.{split, both, and_intro, and_l, and_r, T→true, beq→eq}
use Rattle.bits.proofs.Search as tests
use Rattle.bits.proofs.Search.{every_at, every_is}
use Rattle.codec.specs.Text.{ascii}
use Rattle.drawing.specs.Drawing.{mark, letter, ended_line, lift_words}
use Rattle.drawing.specs.Reading.{byte_at, each, is_mark, is_letter, same, height_told, car_told, drive_told}
use Rattle.drawing.proofs.FirstLines.{is_word}

-- ---- a line of n bytes, one for each place from a on

module _ (g : ℕ → ℕ) where
  -- the line
  abbrev pub lined : ℕ → ℕ → List ℕ
  lined a n = ended_line (map g (from a n))

  pub lined_length : (a n : ℕ) → length (lined a n) ≡ suc n
  lined_length a zero = refl
  lined_length a (suc n) = ap suc (lined_length (suc a) n)

  pub lined_at : (a n j : ℕ) → j < n → byte_at j (lined a n) ≡ g (a + j)
  lined_at a zero j h = absurd (omega arith)
  lined_at a (suc n) zero h = let e : a ≡ a + 0 = omega arith in ap g e
  lined_at a (suc n) (suc j) h =
      let e : suc a + j ≡ a + suc j = omega arith in
      lined_at (suc a) n j (omega arith) ∙ ap g e

  pub lined_end : (a n : ℕ) → byte_at n (lined a n) ≡ 10
  lined_end a zero = refl
  lined_end a (suc n) = lined_end (suc a) n

  -- it has no line feed but its last byte
  pub lined_word : ((k : ℕ) → eqb (g k) 10 ≡ false) → (a n : ℕ) → T (is_word (map g (from a n)))
  lined_word h a zero = tt
  lined_word h a (suc n) = rw (h a) (lined_word h (suc a) n)

  module _ (good : ℕ → Bool) where
    -- it is of a form that its bytes pass
    pub lined_each : (a n : ℕ) → ((k : ℕ) → good (g k) ≡ true) → each n good (lined a n) ≡ true
    unfolding each
    lined_each a n h =
        and_intro (and_intro (eq-eqb (length (lined a n)) (suc n) (lined_length a n))
        (every_is n (λ j. good (byte_at j (lined a n))) (λ j l. ap good (lined_at a n j l) ∙ h (a + j))))
        (eq-eqb (byte_at n (lined a n)) 10 (lined_end a n))

    -- and a line of that form is it, if its bytes are
    pub each_lined : (a n : ℕ) (l : List ℕ) → each n good l ≡ true → ((j : ℕ) → j < n → good (byte_at j l) ≡ true → byte_at j l ≡ g (a + j)) → l ≡ lined a n
    unfolding each
    each_lined a n l e h =
        let (p, q) = both (eqb (length l) (suc n) && every n (λ j. good (byte_at j l))) (eqb (byte_at n l) 10) e in
        let (r, t) = both (eqb (length l) (suc n)) (every n (λ j. good (byte_at j l))) p in
        let size : length l ≡ suc n = eqb-true (length l) (suc n) r in
        ext_get_or 0 l (lined a n) (size ∙ sym (lined_length a n)) (λ i k. split (ltb i n)
        (λ x.
        let b : i < n = ltb-true i n x in
        h i b (every_at n (λ j. good (byte_at j l)) t i b) ∙ sym (lined_at a n i b))
        (λ x.
        let z : i ≡ n = omega (arith, ltb-false i n x) in
        ap (λ (j : ℕ). byte_at j l) z ∙ eqb-true (byte_at n l) 10 q ∙ sym (lined_end a n) ∙ ap (λ (j : ℕ). byte_at j (lined a n)) (sym z)))

-- ---- marks

pub mark_word : (w b : Bool) → eqb (mark w b) 10 ≡ false
mark_word true true = refl
mark_word true false = refl
mark_word false true = refl
mark_word false false = refl

pub mark_good : (w b : Bool) → is_mark w (mark w b) ≡ true
mark_good true true = refl
mark_good true false = refl
mark_good false true = refl
mark_good false false = refl

pub mark_tells : (w b : Bool) → eqb (mark w b) (mark w true) ≡ b
mark_tells true true = refl
mark_tells true false = refl
mark_tells false true = refl
mark_tells false false = refl

-- a byte that is a mark is that of what it tells
pub mark_told : (w : Bool) (b : ℕ) (x : Bool) → is_mark w b ≡ true → x ≡ eqb b (mark w true) → b ≡ mark w x
mark_told w b x h e = split (eqb b (mark w true))
    (λ t. eqb-true b (mark w true) t ∙ ap (mark w) (sym (e ∙ t)))
    (λ t. eqb-true b 46 (rw t at h) ∙ ap (mark w) (sym (e ∙ t)))

-- ---- letters

-- what a letter tells: a lowered shuttle, a tilted one
abbrev pub is_lowered : ℕ → Bool
is_lowered b = eqb b 66 || eqb b 76

abbrev pub is_tilted : ℕ → Bool
is_tilted b = eqb b 66 || eqb b 84

pub letter_word : (x y : Bool) → eqb (letter x y) 10 ≡ false
letter_word true true = refl
letter_word true false = refl
letter_word false true = refl
letter_word false false = refl

pub letter_good : (x y : Bool) → is_letter (letter x y) ≡ true
letter_good true true = refl
letter_good true false = refl
letter_good false true = refl
letter_good false false = refl

pub letter_lowered : (x y : Bool) → is_lowered (letter x y) ≡ x
letter_lowered true true = refl
letter_lowered true false = refl
letter_lowered false true = refl
letter_lowered false false = refl

pub letter_tilted : (x y : Bool) → is_tilted (letter x y) ≡ y
letter_tilted true true = refl
letter_tilted true false = refl
letter_tilted false true = refl
letter_tilted false false = refl

-- a byte that is a letter is that of what it tells
pub letter_told : (b : ℕ) (x y : Bool) → is_letter b ≡ true → x ≡ is_lowered b → y ≡ is_tilted b → b ≡ letter x y
letter_told b x y h p q = split (eqb b 66)
    (λ t. is 66 t refl)
    (λ t. split (eqb b 76)
    (λ u. is 76 u refl)
    (λ u. split (eqb b 84)
    (λ v. is 84 v refl)
    (λ v. is 45 (rw (t, u, v) at h) refl)))
  where
    is : (n : ℕ) → eqb b n ≡ true → n ≡ letter (is_lowered n) (is_tilted n) → b ≡ letter x y
    is n t e =
        let z : b ≡ n = eqb-true b n t in
        z ∙ e ∙ ap₂ letter (ap is_lowered (sym z) ∙ sym p) (ap is_tilted (sym z) ∙ sym q)

-- ---- the lift's words

-- what is told of the words of a height, a car and a drive
pub record Told (h : ℕ) (car : Bool) (d : ℕ) : Type 0 where
  pub height : height_told (lift_words h car d) ≡ h
  pub car_there : car_told (lift_words h car d) ≡ car
  pub drive : drive_told (lift_words h car d) ≡ d

-- a test of all of them
abbrev tells : Bool → ℕ → ℕ → Bool
tells car h d = let w = lift_words h car d in eqb (height_told w) h && (beq (car_told w) car && eqb (drive_told w) d)

all_tell : (car : Bool) → T (every 3 (λ h. every 3 (λ d. tells car h d)))
unfolding every height_told car_told drive_told same ascii
all_tell true = tt
all_tell false = tt

pub words_tell : (h d : ℕ) (car : Bool) → h < 3 → d < 3 → Told h car d
words_tell h d car p q =
    let w = lift_words h car d in
    let t = tests.each 3 (tells car h) (tests.each 3 (λ n. every 3 (tells car n)) (all_tell car) h p) d q in
    let b = and_r (eqb (height_told w) h) (beq (car_told w) car && eqb (drive_told w) d) t in
    record {
      height = eqb-true (height_told w) h (T→true _ (and_l (eqb (height_told w) h) (beq (car_told w) car && eqb (drive_told w) d) t));
      car_there = beq→eq (car_told w) car (and_l (beq (car_told w) car) (eqb (drive_told w) d) b);
      drive = eqb-true (drive_told w) d (T→true _ (and_r (beq (car_told w) car) (eqb (drive_told w) d) b));
    }
