-- The lift's line: a line that is of its form is the words of what it tells, and what a text tells of the lift is what its first line does.
-- Assumes nothing.
use mathlib.Core.Path.{◌≡◌, refl, sym, ap, ap₂, ◌∙◌}
use mathlib.Core.Bool.{Bool, true, false, ◌&&◌}
use mathlib.Core.List.{List, ◌++◌}
use Prim.Native.Nat.{ℕ, ◌<◌}
use native.Mathlib.Omega.{arith}
use lib.Dec.{T, eqb, ltb}
use borrow.Author.Tests.{ltb-true}
use Rattle.bits.proofs.Cases.{split, both}
use Rattle.codec.specs.Text.{ascii}
use Rattle.drawing.specs.declared.Lift.{Lift}
use Rattle.drawing.specs.Drawing.{ended_line, height_name, car_word, drive_word, lift_words}
use Rattle.drawing.specs.Reading.{first_line, same, begins, text_after, height_told, car_told, drive_told, is_last, lift_drawn}
use Rattle.drawing.specs.Private.{drive_begun, lift_told, lifts_words, lift_bit}
use Rattle.drawing.proofs.Words.{words_parts, lift_alike}
use Rattle.drawing.proofs.Begun.{same_eq, begins_eq}
use Rattle.drawing.proofs.Telling.{of_three_lem}
use Rattle.drawing.proofs.FirstLines.{is_word, begins_line, after_line, same_line}

-- ---- the words have no line feed

pub name_word : (h : ℕ) → T (is_word (height_name h))
unfolding ascii
name_word h = split (eqb h 0) (λ e. rw e tt) (λ e. rw e (split (eqb h 1) (λ d. rw d tt) (λ d. rw d tt)))

pub car_word_lem : (car : Bool) → T (is_word (car_word car))
unfolding ascii
car_word_lem true = tt
car_word_lem false = tt

pub drive_word_lem : (d : ℕ) → T (is_word (drive_word d))
unfolding ascii
drive_word_lem d = split (eqb d 1) (λ e. rw e tt) (λ e. rw e (split (eqb d 2) (λ f. rw f tt) (λ f. rw f tt)))

-- ---- the first of three tests that passes

-- what holds of its number, where that is below 3
of_three : (P : ℕ → Type 0) (t u v : Bool) → (t ≡ true → P 0) → (u ≡ true → P 1) → (v ≡ true → P 2) → of_three_lem t u v < 3 → P (of_three_lem t u v)
of_three P true u v x y z l = x refl
of_three P false true v x y z l = y refl
of_three P false false true x y z l = z refl
of_three P false false false x y z l = absurd (omega arith)

three_alike : {t u v a b c : Bool} → t ≡ a → u ≡ b → v ≡ c → of_three_lem t u v ≡ of_three_lem a b c
three_alike p q r = rw (p, q, r)

-- ---- a line of this form is the words of what it tells

height_begins : (l : List ℕ) → height_told l < 3 → begins (height_name (height_told l)) l ≡ true
unfolding height_told
height_begins l =
    of_three (λ h. begins (height_name h) l ≡ true) (begins (height_name 0) l) (begins (height_name 1) l) (begins (height_name 2) l) (λ e. e) (λ e. e) (λ e. e)

-- whether a car is told or not, the rest begins with the word for it
car_begins : (x : List ℕ) → begins (car_word (begins (car_word true) x)) x ≡ true
unfolding same
car_begins x = split (begins (car_word true) x) (λ e. rw e e) (λ e. rw e refl)

drive_ends : (l : List ℕ) → drive_told l < 3 → text_after (car_word (car_told l)) (text_after (height_name (height_told l)) l) ≡ ended_line (drive_word (drive_told l))
unfolding drive_told
drive_ends l =
    let y = text_after (car_word (car_told l)) (text_after (height_name (height_told l)) l) in
    of_three (λ d. y ≡ ended_line (drive_word d)) (same y (ended_line (drive_word 0))) (same y (ended_line (drive_word 1))) (same y (ended_line (drive_word 2)))
    (same_eq y (ended_line (drive_word 0))) (same_eq y (ended_line (drive_word 1))) (same_eq y (ended_line (drive_word 2)))

pub told_both : (l : List ℕ) → is_last false l ≡ true → (height_told l < 3) × (drive_told l < 3)
unfolding is_last
told_both l e =
    let (p, q) = both (ltb (height_told l) 3) (ltb (drive_told l) 3) e in
    (ltb-true (height_told l) 3 p, ltb-true (drive_told l) 3 q)

pub words_told : (l : List ℕ) → is_last false l ≡ true → l ≡ lift_words (height_told l) (car_told l) (drive_told l)
unfolding car_told
words_told l e =
    let (p, q) = told_both l e in
    let name = height_name (height_told l) in
    let x = text_after name l in
    begins_eq name l (height_begins l p)
    ∙ ap (λ (y : List ℕ). name ++ y) (begins_eq (car_word (car_told l)) x (car_begins x) ∙ ap (λ (y : List ℕ). car_word (car_told l) ++ y) (drive_ends l q))
    ∙ sym (words_parts (height_told l) (car_told l) (drive_told l))

-- ---- what the first line of a text tells

module _ (r : List ℕ) where
  height_line : height_told (first_line r) ≡ height_told r
  unfolding height_told
  height_line =
      three_alike (begins_line (height_name 0) (name_word 0) r) (begins_line (height_name 1) (name_word 1) r) (begins_line (height_name 2) (name_word 2) r)

  module _ (h : height_told r < 3) where
    after_name : text_after (height_name (height_told (first_line r))) (first_line r) ≡ first_line (text_after (height_name (height_told r)) r)
    after_name =
        ap (λ (n : ℕ). text_after (height_name n) (first_line r)) height_line
        ∙ after_line (height_name (height_told r)) (name_word (height_told r)) r (height_begins r h)

    car_line : car_told (first_line r) ≡ car_told r
    unfolding car_told
    car_line = ap (begins (car_word true)) after_name ∙ begins_line (car_word true) (car_word_lem true) (text_after (height_name (height_told r)) r)

    drive_line : drive_told (first_line r) ≡ (lift_told r).drive
    unfolding drive_told lift_told drive_begun car_told
    drive_line =
        let x = text_after (height_name (height_told r)) r in
        let y = text_after (car_word (car_told r)) x in
        let rest : text_after (car_word (car_told (first_line r))) (text_after (height_name (height_told (first_line r))) (first_line r)) ≡ first_line y =
        ap₂ (λ (c : Bool) (z : List ℕ). text_after (car_word c) z) car_line after_name ∙ after_line (car_word (car_told r)) (car_word_lem (car_told r)) x (car_begins x) in
        three_alike
        (ap (λ (z : List ℕ). same z (ended_line (drive_word 0))) rest ∙ same_line (drive_word 0) (drive_word_lem 0) y)
        (ap (λ (z : List ℕ). same z (ended_line (drive_word 1))) rest ∙ same_line (drive_word 1) (drive_word_lem 1) y)
        (ap (λ (z : List ℕ). same z (ended_line (drive_word 2))) rest ∙ same_line (drive_word 2) (drive_word_lem 2) y)

    told_line : lift_told r ≡ record { height = height_told (first_line r); car = car_told (first_line r); drive = drive_told (first_line r) }
    unfolding lift_told
    told_line = lift_alike (sym height_line) (sym car_line) (sym drive_line)

  -- it is of the form of the last exactly if a height and a drive are told
  pub lift_line : is_last false (first_line r) ≡ ltb (lift_told r).height 3 && ltb (lift_told r).drive 3
  unfolding is_last lift_told
  lift_line = split (ltb (height_told r) 3)
      (λ e. ap₂ (λ (m n : ℕ). ltb m 3 && ltb n 3) height_line (drive_line (ltb-true (height_told r) 3 e)))
      (λ e. rw (height_line, e))

  module _ (e : is_last false (first_line r) ≡ true) where
    height_told_lem : height_told r < 3
    height_told_lem = let h = (told_both (first_line r) e).0 in omega (arith, height_line)

    pub lift_words_lem : first_line r ≡ lifts_words (lift_told r)
    lift_words_lem = words_told (first_line r) e ∙ ap lifts_words (sym (told_line height_told_lem))

    pub lift_bits : (k : ℕ) → lift_drawn (first_line r) k ≡ lift_bit (lift_told r) k
    unfolding lift_drawn lift_bit
    lift_bits k = ap (λ (x : Lift). lift_bit x k) (sym (told_line height_told_lem))
