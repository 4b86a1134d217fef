-- The last line of either drawing: a line that is of its form is the words of what it tells, and what a text tells is what its first line
-- does. Assumes nothing.
use mathlib.Core.Path.{◌≡◌, refl, sym, ap, ap₂, ◌∙◌}
use mathlib.Core.Bool.{Bool, true, false, cond, ◌&&◌, ◌||◌}
use mathlib.Core.List.{List}
use Prim.Native.Nat.{ℕ}
use lib.Dec.{T, eqb, ltb}
use Rattle.bits.proofs.Cases.{split}
use Rattle.codec.specs.Text.{ascii}
use Rattle.floor.specs.Floor.{raised_car, height_low, height_high, drive_in, drive_out}
use Rattle.drawing.specs.Drawing.{apart_words}
use Rattle.drawing.specs.Reading.{first_line, same, begins, is_last, is_line, apart_drawn, last_drawn}
use Rattle.drawing.specs.Private.{apart_lift, words_of, apart_told, last_told, lift_bit}
use Rattle.drawing.proofs.Begun.{same_eq}
use Rattle.drawing.proofs.FirstLines.{is_word, same_line}
use Rattle.drawing.proofs.LiftLines.{lift_line, lift_words_lem, lift_bits}

-- ---- of what is set apart

-- its words have no line feed
pub apart_word : (b : Bool) → T (is_word (cond b (ascii "lift") (ascii "-")))
unfolding ascii
apart_word true = tt
apart_word false = tt

-- the lift's bit is the only one
apart_bit : (b : Bool) (k : ℕ) → eqb k raised_car && b ≡ lift_bit (apart_lift b) k
unfolding lift_bit
apart_bit b k = split (eqb k raised_car) (λ x. rw x refl) (λ x. rw x (split (eqb k height_low) (λ y. rw y refl) (λ y. rw y (split (eqb k height_high) (λ z. rw z refl)
    (λ z. rw z (split (eqb k drive_in) (λ u. rw u refl) (λ u. rw u (split (eqb k drive_out) (λ v. rw v refl) (λ v. rw v refl)))))))))

module _ (r : List ℕ) where
  -- whether the first line is one of the two is seen from the text
  apart_same : (b : Bool) → same (first_line r) (apart_words b) ≡ begins (apart_words b) r
  apart_same b = same_line (cond b (ascii "lift") (ascii "-")) (apart_word b) r

  apart_line : is_last true (first_line r) ≡ ltb (apart_told r).height 3 && ltb (apart_told r).drive 3
  unfolding is_last apart_told
  apart_line = ap₂ (λ (x y : Bool). x || y) (apart_same true) (apart_same false) ∙ shown (begins (apart_words true) r || begins (apart_words false) r)
    where
      shown : (b : Bool) → b ≡ ltb (cond b 0 3) 3 && ltb 0 3
      shown true = refl
      shown false = refl

  apart_words_lem : is_last true (first_line r) ≡ true → first_line r ≡ apart_words (apart_told r).car
  unfolding is_last apart_told
  apart_words_lem e = split (same (first_line r) (apart_words true))
      (λ t. same_eq (first_line r) (apart_words true) t ∙ ap apart_words (sym (sym (apart_same true) ∙ t)))
      (λ t. same_eq (first_line r) (apart_words false) (rw t at e) ∙ ap apart_words (sym (sym (apart_same true) ∙ t)))

  apart_bits : is_last true (first_line r) ≡ true → (k : ℕ) → apart_drawn (first_line r) k ≡ lift_bit (apart_told r) k
  unfolding is_last apart_drawn apart_told
  apart_bits e k =
      let one : begins (apart_words true) r || begins (apart_words false) r ≡ true = sym (ap₂ (λ (x y : Bool). x || y) (apart_same true) (apart_same false)) ∙ e in
      ap (λ (b : Bool). eqb k raised_car && b) (apart_same true) ∙ rw one (apart_bit (begins (apart_words true) r) k)

-- ---- of either

-- it is of the form of the last exactly if a height and a drive are told
pub last_line_lem : (w : Bool) (r : List ℕ) → is_line w 5 (first_line r) ≡ ltb (last_told w r).height 3 && ltb (last_told w r).drive 3
unfolding is_line last_told
last_line_lem true r = apart_line r
last_line_lem false r = lift_line r

pub last_words : (w : Bool) (r : List ℕ) → is_line w 5 (first_line r) ≡ true → first_line r ≡ words_of w (last_told w r)
unfolding is_line last_told words_of
last_words true r e = apart_words_lem r e
last_words false r e = lift_words_lem r e

pub last_bits : (w : Bool) (r : List ℕ) → is_line w 5 (first_line r) ≡ true → (k : ℕ) → last_drawn w (first_line r) k ≡ lift_bit (last_told w r) k
unfolding is_line last_told
last_bits true r e = apart_bits r e
last_bits false r e = lift_bits r e
