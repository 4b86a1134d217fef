-- The six lines of a drawing: each is of its form and ends in its one line feed; and the lines of a text that are of their form are those of
-- every number that has what they tell. Assumes nothing.
use mathlib.Core.Path.{◌≡◌, refl, sym, ap, ap₂, ◌∙◌}
use mathlib.Core.Bool.{Bool, true, false, cond, not, ◌&&◌, ◌||◌}
use mathlib.Core.List.{List, [], ◌∷◌, ◌++◌, map}
use Prim.Native.Nat.{ℕ, zero, suc, ◌+◌, ◌-◌, ◌*◌, ◌≤◌, ◌<◌}
use native.Mathlib.Omega.{arith}
use native.Mathlib.Nat.{zero-add}
use lib.Dec.{T, eqb, ltb}
use lib.ListN.{get_or}
use borrow.Author.Tests.{lt-ltb, le-ltb}
use Rattle.bits.specs.Bits.{Bits, bit, digit}
use Rattle.bits.specs.Places.{from}
use Rattle.bits.proofs.Cases.{split, clash, and_intro}
use Rattle.floor.specs.Floor.{lowered, tilted, slot, raised_car, height_low, height_high, drive_in, drive_out}
use Rattle.drawing.specs.Drawing.{mark, letter, floor_line, shuttle_line, height_name, car_word, drive_word, drawn_height, drive_of, lift_words, lift_line, apart_words, last_line, drawing_lines}
use Rattle.drawing.specs.Reading.{byte_at, line_at, is_mark, is_letter, same, height_told, drive_told, is_last, is_line, cell_in, slot_in, lift_drawn, apart_drawn, last_drawn, bits_in}
use Rattle.codec.specs.Text.{ascii}
use Rattle.drawing.proofs.Begun.{same_eq}
use Rattle.drawing.proofs.FirstLines.{is_word}
use Rattle.drawing.proofs.LastLines.{apart_word}
use Rattle.drawing.proofs.LiftLines.{name_word, car_word_lem, drive_word_lem, told_both, words_told}
use Rattle.drawing_laws.specs.Promises.{Drawable, Shown}
use Rattle.drawing_laws.proofs.Lines.{lined_word, lined_each, each_lined, mark_word, mark_good, mark_told, is_lowered, is_tilted, letter_word, letter_good, letter_told, Told, words_tell}

-- ---- what each line is made of

-- the mark of a cell, the letter of a row
abbrev pub marks : Bool → Bits → ℕ → ℕ
marks w f k = mark w (f k)

abbrev pub letters : ℕ → Bits → ℕ → ℕ
letters side f row = letter (f (slot side lowered row)) (f (slot side tilted row))

-- line j
abbrev pub line_of : Bool → ℕ → Bits → List ℕ
line_of w j f = get_or (drawing_lines w f) j []

-- ---- a word and its line feed

pub record Ended (l : List ℕ) : Type 0 where
  pub word : List ℕ
  pub plain : T (is_word word)
  pub whole : l ≡ word ++ (10 ∷ [])

word_append : (s t : List ℕ) → T (is_word s) → T (is_word t) → T (is_word (s ++ t))
word_append [] t p q = q
word_append (b ∷ s) t p q = split (eqb b 10) (λ e. absurd (rw e at p)) (λ e. rw e (word_append s t (rw e at p) q))

marks_ended : (w : Bool) (f : Bits) (a n : ℕ) → T (is_word (map (marks w f) (from a n)))
marks_ended w f a n = lined_word (marks w f) (λ k. mark_word w (f k)) a n

letters_ended : (side : ℕ) (f : Bits) → T (is_word (map (letters side f) (from 1 3)))
letters_ended side f = lined_word (letters side f) (λ row. letter_word (f (slot side lowered row)) (f (slot side tilted row))) 1 3

-- the last one
last_ended : (w : Bool) (f : Bits) → Ended (last_line w f)
unfolding last_line lift_line
last_ended true f = record { word = cond (f raised_car) (ascii "lift") (ascii "-"); plain = apart_word (f raised_car); whole = refl }
last_ended false f =
    let words = car_word (f raised_car) ++ drive_word (drive_of f) in
    record {
      word = height_name (drawn_height f) ++ words;
      plain =
          word_append (height_name (drawn_height f)) words (name_word (drawn_height f))
          (word_append (car_word (f raised_car)) (drive_word (drive_of f)) (car_word_lem (f raised_car)) (drive_word_lem (drive_of f)));
      whole = refl;
    }

pub line_ended : (w : Bool) (f : Bits) (j : ℕ) → j < 6 → Ended (line_of w j f)
unfolding floor_line shuttle_line
line_ended w f zero h = record { word = map (marks w f) (from 0 20); plain = marks_ended w f 0 20; whole = refl }
line_ended w f (suc zero) h = record { word = map (marks w f) (from 20 10); plain = marks_ended w f 20 10; whole = refl }
line_ended w f (suc (suc zero)) h = record { word = map (marks w f) (from 30 10); plain = marks_ended w f 30 10; whole = refl }
line_ended w f (suc (suc (suc zero))) h = record { word = map (letters 0 f) (from 1 3); plain = letters_ended 0 f; whole = refl }
line_ended w f (suc (suc (suc (suc zero)))) h = record { word = map (letters 1 f) (from 1 3); plain = letters_ended 1 f; whole = refl }
line_ended w f (suc (suc (suc (suc (suc zero))))) h = last_ended w f
line_ended w f (suc (suc (suc (suc (suc (suc j)))))) h = absurd (omega arith)

-- ---- each is of its form

-- a record that can be shown has a height and at most one drive
height_is : (low high : Bool) → not ((low && true) && (high && true)) ≡ true → digit low + 2 * digit high < 3
height_is true true e = clash e refl
height_is true false e = omega arith
height_is false true e = omega arith
height_is false false e = omega arith

drive_is : (in' out : Bool) → cond in' 1 (cond out 2 0) < 3
drive_is true out = omega arith
drive_is false true = omega arith
drive_is false false = omega arith

-- the words of the lift that is set apart are of their form, and tell it
pub apart_tells : (b : Bool) → same (apart_words b) (apart_words true) ≡ b
unfolding same ascii
apart_tells true = refl
apart_tells false = refl

apart_good : (b : Bool) → same (apart_words b) (apart_words true) || same (apart_words b) (apart_words false) ≡ true
unfolding same ascii
apart_good true = refl
apart_good false = refl

module _ (f : Bits) (d : Drawable f) where
  pub lift_tells : Told (drawn_height f) (f raised_car) (drive_of f)
  lift_tells = words_tell (drawn_height f) (drive_of f) (f raised_car) (height_is (f height_low) (f height_high) d.height) (drive_is (f drive_in) (f drive_out))

-- the last one
last_good : (w : Bool) (f : Bits) → Shown w f → is_last w (last_line w f) ≡ true
unfolding is_last last_line lift_line
last_good true f d = apart_good (f raised_car)
last_good false f d =
    let w = lift_words (drawn_height f) (f raised_car) (drive_of f) in
    let p : height_told w < 3 = omega (arith, (lift_tells f d).height, height_is (f height_low) (f height_high) d.height) in
    let q : drive_told w < 3 = omega (arith, (lift_tells f d).drive, drive_is (f drive_in) (f drive_out)) in
    and_intro (lt-ltb (height_told w) 3 p) (lt-ltb (drive_told w) 3 q)

pub line_good : (w : Bool) (f : Bits) → Shown w f → (j : ℕ) → j < 6 → is_line w j (line_of w j f) ≡ true
unfolding is_line floor_line shuttle_line
line_good w f d zero h = lined_each (marks w f) (is_mark w) 0 20 (λ k. mark_good w (f k))
line_good w f d (suc zero) h = lined_each (marks w f) (is_mark w) 20 10 (λ k. mark_good w (f k))
line_good w f d (suc (suc zero)) h = lined_each (marks w f) (is_mark w) 30 10 (λ k. mark_good w (f k))
line_good w f d (suc (suc (suc zero))) h = lined_each (letters 0 f) is_letter 1 3 (λ row. letter_good (f (slot 0 lowered row)) (f (slot 0 tilted row)))
line_good w f d (suc (suc (suc (suc zero)))) h = lined_each (letters 1 f) is_letter 1 3 (λ row. letter_good (f (slot 1 lowered row)) (f (slot 1 tilted row)))
line_good w f d (suc (suc (suc (suc (suc zero))))) h = last_good w f d
line_good w f d (suc (suc (suc (suc (suc (suc j)))))) h = absurd (omega arith)

-- ---- what the lines of a text tell, as bits

module _ (w : Bool) (s : List ℕ) where
  pub row_one : (j : ℕ) → j < 20 → bits_in w s j ≡ eqb (byte_at j (line_at 0 s)) (mark w true)
  unfolding bits_in cell_in
  row_one j h = rw (lt-ltb j 40 (omega arith), lt-ltb j 20 h) refl

  pub row_two : (j : ℕ) → j < 10 → bits_in w s (20 + j) ≡ eqb (byte_at j (line_at 1 s)) (mark w true)
  unfolding bits_in cell_in
  row_two j h =
      let e : 20 + j - 20 ≡ j = omega arith in
      rw (lt-ltb (20 + j) 40 (omega arith), le-ltb (20 + j) 20 (omega arith), lt-ltb (20 + j) 30 (omega arith), e) refl

  pub row_three : (j : ℕ) → j < 10 → bits_in w s (30 + j) ≡ eqb (byte_at j (line_at 2 s)) (mark w true)
  unfolding bits_in cell_in
  row_three j h =
      let e : 30 + j - 30 ≡ j = omega arith in
      rw (lt-ltb (30 + j) 40 (omega arith), le-ltb (30 + j) 20 (omega arith), le-ltb (30 + j) 30 (omega arith), e) refl

  -- the shuttles of a side, lowered and tilted
  pub side_left : (j : ℕ) → j < 3 → (bits_in w s (slot 0 lowered (1 + j)) ≡ is_lowered (byte_at j (line_at 3 s))) × (bits_in w s (slot 0 tilted (1 + j)) ≡ is_tilted (byte_at j (line_at 3 s)))
  unfolding bits_in slot_in
  side_left zero h = (refl, refl)
  side_left (suc zero) h = (refl, refl)
  side_left (suc (suc zero)) h = (refl, refl)
  side_left (suc (suc (suc j))) h = absurd (omega arith)

  pub side_right : (j : ℕ) → j < 3 → (bits_in w s (slot 1 lowered (1 + j)) ≡ is_lowered (byte_at j (line_at 4 s))) × (bits_in w s (slot 1 tilted (1 + j)) ≡ is_tilted (byte_at j (line_at 4 s)))
  unfolding bits_in slot_in
  side_right zero h = (refl, refl)
  side_right (suc zero) h = (refl, refl)
  side_right (suc (suc zero)) h = (refl, refl)
  side_right (suc (suc (suc j))) h = absurd (omega arith)

  -- the first five lines, of a record that has what they tell
  module _ (f : Bits) (has : (k : ℕ) → k < 52 → f k ≡ bits_in w s k) where
    letters_told : (side j : ℕ) (l : List ℕ) → side < 2 → j < 3
        → (bits_in w s (slot side lowered (1 + j)) ≡ is_lowered (byte_at j l)) × (bits_in w s (slot side tilted (1 + j)) ≡ is_tilted (byte_at j l))
        → is_letter (byte_at j l) ≡ true → byte_at j l ≡ letters side f (1 + j)
    letters_told side j l p h (e, d) g =
        letter_told (byte_at j l) (f (slot side lowered (1 + j))) (f (slot side tilted (1 + j))) g
        (has (slot side lowered (1 + j)) (omega arith) ∙ e) (has (slot side tilted (1 + j)) (omega arith) ∙ d)

    pub upper_line : (j : ℕ) → j < 5 → is_line w j (line_at j s) ≡ true → line_at j s ≡ line_of w j f
    unfolding is_line floor_line shuttle_line
    upper_line zero h e =
        each_lined (marks w f) (is_mark w) 0 20 (line_at 0 s) e
        (λ j l g. mark_told w (byte_at j (line_at 0 s)) (f (0 + j)) g (has (0 + j) (omega arith) ∙ row_one (0 + j) (omega arith) ∙ ap (λ (n : ℕ). eqb (byte_at n (line_at 0 s)) (mark w true)) (zero-add j)))
    upper_line (suc zero) h e =
        each_lined (marks w f) (is_mark w) 20 10 (line_at 1 s) e (λ j l g. mark_told w (byte_at j (line_at 1 s)) (f (20 + j)) g (has (20 + j) (omega arith) ∙ row_two j l))
    upper_line (suc (suc zero)) h e =
        each_lined (marks w f) (is_mark w) 30 10 (line_at 2 s) e (λ j l g. mark_told w (byte_at j (line_at 2 s)) (f (30 + j)) g (has (30 + j) (omega arith) ∙ row_three j l))
    upper_line (suc (suc (suc zero))) h e =
        each_lined (letters 0 f) is_letter 1 3 (line_at 3 s) e (λ j l g. letters_told 0 j (line_at 3 s) (omega arith) l (side_left j l) g)
    upper_line (suc (suc (suc (suc zero)))) h e =
        each_lined (letters 1 f) is_letter 1 3 (line_at 4 s) e (λ j l g. letters_told 1 j (line_at 4 s) (omega arith) l (side_right j l) g)
    upper_line (suc (suc (suc (suc (suc j))))) h e = absurd (omega arith)

-- ---- the last line

height_back : (h : ℕ) → h < 3 → digit (bit h 0) + 2 * digit (bit h 1) ≡ h
height_back zero p = refl
height_back (suc zero) p = refl
height_back (suc (suc zero)) p = refl
height_back (suc (suc (suc h))) p = absurd (omega arith)

drive_back : (d : ℕ) → d < 3 → cond (eqb d 1) 1 (cond (eqb d 2) 2 0) ≡ d
drive_back zero p = refl
drive_back (suc zero) p = refl
drive_back (suc (suc zero)) p = refl
drive_back (suc (suc (suc d))) p = absurd (omega arith)

module _ (s : List ℕ) (f : Bits) where
  lift_last : ((k : ℕ) → 52 ≤ k → k < 57 → f k ≡ lift_drawn (line_at 5 s) k) → is_last false (line_at 5 s) ≡ true → line_at 5 s ≡ lift_line f
  unfolding lift_drawn lift_line
  lift_last has e =
      let l = line_at 5 s in
      let (p, q) = told_both l e in
      let h : drawn_height f ≡ height_told l =
      ap₂ (λ (x y : Bool). digit x + 2 * digit y) (has 53 (omega arith) (omega arith)) (has 54 (omega arith) (omega arith)) ∙ height_back (height_told l) p in
      let d : drive_of f ≡ drive_told l =
      ap₂ (λ (x y : Bool). cond x 1 (cond y 2 0)) (has 55 (omega arith) (omega arith)) (has 56 (omega arith) (omega arith)) ∙ drive_back (drive_told l) q in
      words_told l e ∙ ap₂ (λ (n : ℕ) (b : Bool). lift_words n b (drive_told l)) (sym h) (sym (has 52 (omega arith) (omega arith)))
      ∙ ap (λ (n : ℕ). lift_words (drawn_height f) (f raised_car) n) (sym d)

  apart_last : f raised_car ≡ apart_drawn (line_at 5 s) raised_car → is_last true (line_at 5 s) ≡ true → line_at 5 s ≡ apart_words (f raised_car)
  unfolding apart_drawn is_last
  apart_last has e =
      let l = line_at 5 s in
      split (same l (apart_words true))
      (λ t. same_eq l (apart_words true) t ∙ ap apart_words (sym (has ∙ t)))
      (λ t. same_eq l (apart_words false) (rw t at e) ∙ ap apart_words (sym (has ∙ t)))

-- past the slots, the last line tells
pub last_of : (w : Bool) (s : List ℕ) (k : ℕ) → ltb k 40 ≡ false → ltb k 52 ≡ false → bits_in w s k ≡ last_drawn w (line_at 5 s) k
unfolding bits_in
last_of w s k e u = rw (e, u) refl

past_slots : (w : Bool) (s : List ℕ) (k : ℕ) → 52 ≤ k → bits_in w s k ≡ last_drawn w (line_at 5 s) k
past_slots w s k h = last_of w s k (le-ltb k 40 (omega arith)) (le-ltb k 52 h)

pub last_line_lem : (w : Bool) (s : List ℕ) (f : Bits) → ((k : ℕ) → 52 ≤ k → k < 57 → f k ≡ bits_in w s k) → is_line w 5 (line_at 5 s) ≡ true → line_at 5 s ≡ line_of w 5 f
unfolding is_line last_line
last_line_lem true s f has e = apart_last s f (has 52 (omega arith) (omega arith) ∙ past_slots true s 52 (omega arith)) e
last_line_lem false s f has e = lift_last s f (λ k p q. has k p q ∙ past_slots false s k p) e
