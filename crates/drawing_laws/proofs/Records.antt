-- Which records a drawing can show: sound ones, and what any text of this form tells. Assumes nothing.
use mathlib.Core.Path.{◌≡◌, refl, sym, ◌∙◌, subst}
use mathlib.Core.Bool.{Bool, true, false, cond, not, ◌&&◌, ◌||◌}
use mathlib.Core.Logic.{⊎_elim}
use mathlib.Core.List.{List}
use Prim.Native.Nat.{ℕ, zero, suc, ◌+◌, ◌*◌, ◌≤◌, ◌<◌, ◌^◌}
use native.Mathlib.Omega.{arith}
use lib.Dec.{T, eqb, ltb, leb, eqb→eq, leb→le}
use lib.ListN.{length, get_or}
use borrow.Author.Tests.{ltb-true, ltb-false, lt-ltb, le-ltb, ne_eqb}
use Rattle.bits.specs.Bits.{Bits, bit, digit, count}
use Rattle.bits.proofs.Cases.{split, true→T, T→true, and_l, and_r, and_T, under}
use Rattle.bits.proofs.Counts.{count_zero, elem_from}
use Rattle.bits.proofs.Digits.{bit_past}
use Rattle.bits.proofs.Search.{lt_or_ge}
use Rattle.floor.specs.Floor.{raised_car, height_low, height_high, drive_in, drive_out, spare}
use Rattle.floor.specs.Tests.{fact, holds}
use Rattle.floor.specs.Sound.{sound_rules, sound}
use Rattle.floor.proofs.Promises.{sound_exactly}
use Rattle.floor.proofs.Reading.{nth_holds}
use Rattle.codec.specs.Text.{ascii}
use Rattle.drawing.specs.Drawing.{lift_words, apart_words, drawn, has_drawing}
use Rattle.drawing.specs.Reading.{line_at, height_told, drive_told, is_last, is_line, lift_drawn, apart_drawn, bits_in}
use Rattle.drawing.specs.Private.{lift_of, last_shown, lifts_words, words_of}
use Rattle.drawing.proofs.LiftLines.{told_both}
use Rattle.drawing.proofs.Drawn as drawing
use Rattle.drawing_laws.specs.Promises.{Drawable, Shown, Formed, DrawnLength, ApartLength}
use Rattle.drawing_laws.proofs.Forms.{upper_line, last_of, last_line_lem}

-- ---- sound records

-- rule j of soundness
sound_rule : (r : ℕ) → sound r ≡ true → (j : ℕ) → T (holds (get_or sound_rules j (fact true)) (bit r))
sound_rule r s = nth_holds (bit r) sound_rules (true→T ((sound_exactly r).0 s).rules)

sound_drawable : (r : ℕ) → r < 2 ^ 64 → sound r ≡ true → Drawable (bit r)
sound_drawable r h s = record {
  height = T→true _ (sound_rule r s 10);
  drive = T→true _ (sound_rule r s 12);
  rest = λ k l. ⊎_elim
      (λ (u : k < 64). count_zero spare (bit r) (eqb→eq (count spare (bit r)) 0 (sound_rule r s 11)) k (elem_from k 57 7 l (omega arith)))
      (λ (u : 64 ≤ k). bit_past r 64 k h u) (lt_or_ge k 64);
}

-- whatever has a drawing can be shown
pub has_shown : (w : Bool) (r : ℕ) → r < 2 ^ 64 → has_drawing w r ≡ true → Shown w (bit r)
has_shown true r h s = λ k l. bit_past r 53 k (ltb-true r (2 ^ 53) s) l
has_shown false r h s = sound_drawable r h s

-- ---- what a text of this form tells

one_height : (h : ℕ) → h < 3 → not ((bit h 0 && true) && (bit h 1 && true)) ≡ true
one_height zero p = refl
one_height (suc zero) p = refl
one_height (suc (suc zero)) p = refl
one_height (suc (suc (suc h))) p = absurd (omega arith)

one_drive : (d : ℕ) → d < 3 → not (eqb d 1 && (eqb d 2 && true)) ≡ true
one_drive zero p = refl
one_drive (suc zero) p = refl
one_drive (suc (suc zero)) p = refl
one_drive (suc (suc (suc d))) p = absurd (omega arith)

-- nothing is told past the drives
nothing_past : (l : List ℕ) (k : ℕ) → 57 ≤ k → lift_drawn l k ≡ false
unfolding lift_drawn
nothing_past l k h =
    rw (ne_eqb k 52 (λ z. omega arith), ne_eqb k 53 (λ z. omega arith), ne_eqb k 54 (λ z. omega arith), ne_eqb k 55 (λ z. omega arith), ne_eqb k 56 (λ z. omega arith)) refl

nothing_apart : (l : List ℕ) (k : ℕ) → 53 ≤ k → apart_drawn l k ≡ false
unfolding apart_drawn
nothing_apart l k h = rw (ne_eqb k 52 (λ z. omega arith)) refl

told_drawable : (s : List ℕ) → is_last false (line_at 5 s) ≡ true → Drawable (bits_in false s)
unfolding bits_in lift_drawn
told_drawable s e = record {
  height = one_height (height_told (line_at 5 s)) (told_both (line_at 5 s) e).0;
  drive = one_drive (drive_told (line_at 5 s)) (told_both (line_at 5 s) e).1;
  rest = λ k h. last_of false s k (le-ltb k 40 (omega arith)) (le-ltb k 52 (omega arith)) ∙ nothing_past (line_at 5 s) k h;
}

pub told_shown : (w : Bool) (s : List ℕ) → is_line w 5 (line_at 5 s) ≡ true → Shown w (bits_in w s)
unfolding is_line
told_shown true s e = λ k h. last_of true s k (le-ltb k 40 (omega arith)) (le-ltb k 52 (omega arith)) ∙ nothing_apart (line_at 5 s) k h
told_shown false s e = told_drawable s e

module _ (w : Bool) (s : List ℕ) where
  -- what the first five lines tell, with the lift at street and empty
  abbrev upper : Bits
  upper k = cond (ltb k 52) (bits_in w s k) false

  upper_shown : (v : Bool) → Shown v upper
  upper_shown true = λ k h. rw (le-ltb k 52 (omega arith)) refl
  upper_shown false = record { height = refl; drive = refl; rest = λ k h. rw (le-ltb k 52 (omega arith)) refl }

  -- a line that is of its form is something's
  pub line_formed : (j : ℕ) → j < 6 → is_line w j (line_at j s) ≡ true → Formed w j (line_at j s)
  line_formed j h e = split (ltb j 5)
      (λ t. (upper, upper_shown w, upper_line w s upper (λ k l. rw (lt-ltb k 52 l) refl) j (ltb-true j 5 t) e))
      (λ t.
      let z : j ≡ 5 = omega (arith, ltb-false j 5 t) in
      let g : is_line w 5 (line_at 5 s) ≡ true = subst (λ (n : ℕ). is_line w n (line_at n s) ≡ true) z e in
      subst (λ (n : ℕ). Formed w n (line_at n s)) (sym z) (bits_in w s, told_shown w s g, last_line_lem w s (bits_in w s) (λ k p q. refl) g))

-- ---- how long a sound record's drawing is

-- a test of both answers
abbrev each : (Bool → Bool) → Bool
each p = p true && p false

each_at : (p : Bool → Bool) → T (each p) → (b : Bool) → T (p b)
each_at p t true = and_l (p true) (p false) t
each_at p t false = and_r (p true) (p false) t

-- what the rules say of the lift's digits, the drives and the car
abbrev height_kept : Bool → Bool → Bool
height_kept low high = not ((low && true) && (high && true))

abbrev drives_kept : Bool → Bool → Bool → Bool → Bool
drives_kept low high coming going = eqb (digit coming + (digit going + 0)) 0 || (eqb (digit low + 0) 0 && eqb (digit high + 0) 0)

abbrev car_kept : Bool → Bool → Bool → Bool
car_kept low high car = eqb (digit car + 0) 0 || not (eqb (digit low + 0) 0 && (high && true))

abbrev kept : Bool → Bool → Bool → Bool → Bool → Bool
kept low high coming going car = height_kept low high && (drives_kept low high coming going && car_kept low high car)

abbrev short : ℕ → Bool
short n = leb 7 n && leb n 15

abbrev fitting : Bool → Bool → Bool → Bool → Bool → Bool
fitting low high coming going car =
    cond (kept low high coming going car) (short (length (lift_words (digit low + 2 * digit high) car (cond coming 1 (cond going 2 0))))) true

all_fit : T (each (λ low. each (λ high. each (λ coming. each (λ going. each (λ car. fitting low high coming going car))))))
unfolding ascii
all_fit = tt

fits : (low high coming going car : Bool) → T (fitting low high coming going car)
fits low high coming going =
    each_at (fitting low high coming going) (each_at (λ g. each (fitting low high coming g))
    (each_at (λ c. each (λ g. each (fitting low high c g))) (each_at (λ h. each (λ c. each (λ g. each (fitting low h c g))))
    (each_at (λ l. each (λ h. each (λ c. each (λ g. each (fitting l h c g))))) all_fit low) high) coming) going)

pub drawn_length : DrawnLength
unfolding lift_of last_shown words_of
drawn_length r s =
    let f = bit r in
    let n = length (lifts_words (lift_of f)) in
    let rules : T (kept (f height_low) (f height_high) (f drive_in) (f drive_out) (f raised_car)) =
    and_T (height_kept (f height_low) (f height_high)) (drives_kept (f height_low) (f height_high) (f drive_in) (f drive_out) && car_kept (f height_low) (f height_high) (f raised_car)) (sound_rule r s 10)
    (and_T (drives_kept (f height_low) (f height_high) (f drive_in) (f drive_out)) (car_kept (f height_low) (f height_high) (f raised_car)) (sound_rule r s 13) (sound_rule r s 7)) in
    let t : T (short n) = under (kept (f height_low) (f height_high) (f drive_in) (f drive_out) (f raised_car)) (short n)
    (T→true (kept (f height_low) (f height_high) (f drive_in) (f drive_out) (f raised_car)) rules)
    (fits (f height_low) (f height_high) (f drive_in) (f drive_out) (f raised_car)) in
    let a : 7 ≤ n = leb→le 7 n (and_l (leb 7 n) (leb n 15) t) in
    let b : n ≤ 15 = leb→le n 15 (and_r (leb 7 n) (leb n 15) t) in
    let e : length (drawn false f) ≡ 51 + n = drawing.drawn_length false f in
    (omega arith, omega arith)

pub apart_length : ApartLength
unfolding last_shown words_of ascii
apart_length a = drawing.drawn_length true (bit a) ∙ words (bit a raised_car)
  where
    words : (b : Bool) → 51 + length (apart_words b) ≡ cond b 56 53
    words true = refl
    words false = refl
