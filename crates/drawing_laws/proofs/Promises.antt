-- What specs/Promises.antt states of drawings. Assumes nothing.
use mathlib.Core.Path.{◌≡◌, refl, sym, ap, ap₂, ◌∙◌, subst}
use mathlib.Core.Logic.{inl, inr, ⊎_elim}
use mathlib.Core.Bool.{Bool, true, false}
use mathlib.Core.List.{List, [], ◌∷◌, ◌++◌, append-nil}
use Prim.Native.Nat.{ℕ, ◌≤◌, ◌<◌, ◌^◌}
use native.Mathlib.Omega.{arith}
use lib.Dec.{ltb}
use lib.ListN.{length, get_or, drop, drop_of_length-le}
use lib.Seq.{ext_get_or}
use borrow.Author.Tests.{ltb-true, ltb-false, lt-ltb, not-true, not-false}
use Rattle.bits.specs.Bits.{Bits, bit, packed, image}
use Rattle.bits.specs.Places.{join}
use Rattle.bits.specs.Search.{IsLeast}
use Rattle.bits.proofs.Cases.{split, clash, off}
use Rattle.bits.proofs.Digits.{bit_image, image_bit, image_ext, packed_lt, bit_packed, bit_past, by_bits}
use Rattle.bits.proofs.Least.{least_is, least_below, found_least}
use Rattle.std.specs.declared.result.Result.{Result}
use Rattle.std.specs.declared.result.Result.TheVariants.{Ok, Err}
use Rattle.drawing.specs.declared.Unread.{Unread}
use Rattle.drawing.specs.declared.Unread.TheVariants.{BadLine, Unsound}
use Rattle.drawing.specs.Drawing.{apart_words, drawing_lines, drawn, has_drawing}
use Rattle.drawing.specs.Reading.{first_line, from_line, line_at, same, height_told, is_last, is_line, bad_line, first_bad, bits_in, reading}
use Rattle.codec.specs.Text.{ascii}
use Rattle.drawing.proofs.Begun.{same_eq}
use Rattle.drawing.proofs.FirstLines.{line_rest}
use Rattle.drawing_laws.specs.Promises.{DrawnReadsBack, OneDrawing, DrawingsApart, DrawingsDiffer, Shown, UnsoundExactly, ApartNeverUnsound, Formed, FirstBad, FirstBadLine, ReadNumbers}
use Rattle.drawing_laws.proofs.Forms.{line_of, Ended, line_ended, line_good, upper_line, last_line_lem}
use Rattle.drawing_laws.proofs.Texts.{line_here, from_join, line_join, firsts, firsts_length, firsts_at, stands, drawn_good, bits_back}
use Rattle.drawing_laws.proofs.Records.{has_shown, told_shown, line_formed}

-- ---- reading, case by case

module _ (w : Bool) (s : List ℕ) where
  reading_bad : ltb (first_bad w s) 7 ≡ true → reading w s ≡ Err (BadLine (first_bad w s))
  unfolding reading
  reading_bad t = rw t refl

  reading_unsound : ltb (first_bad w s) 7 ≡ false → has_drawing w (image (bits_in w s)) ≡ false → reading w s ≡ Err Unsound
  unfolding reading
  reading_unsound t u = rw (t, u) refl

  reading_sound : ltb (first_bad w s) 7 ≡ false → has_drawing w (image (bits_in w s)) ≡ true → reading w s ≡ Ok (image (bits_in w s))
  unfolding reading
  reading_sound t u = rw (t, u) refl

  -- one of the three
  pub cases : {C : Type 0} → (ltb (first_bad w s) 7 ≡ true → reading w s ≡ Err (BadLine (first_bad w s)) → C)
      → (ltb (first_bad w s) 7 ≡ false → has_drawing w (image (bits_in w s)) ≡ false → reading w s ≡ Err Unsound → C)
      → (ltb (first_bad w s) 7 ≡ false → has_drawing w (image (bits_in w s)) ≡ true → reading w s ≡ Ok (image (bits_in w s)) → C) → C
  cases x y z = split (ltb (first_bad w s) 7)
      (λ t. x t (reading_bad t))
      (λ t. split (has_drawing w (image (bits_in w s))) (λ u. z t u (reading_sound t u)) (λ u. y t u (reading_unsound t u)))

-- what is told, by a number; the number that is read, and the line
abbrev Told : Type 0
Told = Result ℕ Unread

abbrev kind : Told → ℕ
kind (Ok r) = 0
kind (Err Unsound) = 1
kind (Err (BadLine p)) = 2

abbrev bits : Told → ℕ
bits (Ok r) = r
bits (Err u) = 0

abbrev place : Told → ℕ
place (Ok r) = 0
place (Err Unsound) = 0
place (Err (BadLine p)) = p

other : {C : Type 0} {x : Told} {a b : Told} → x ≡ a → x ≡ b → (kind a ≡ kind b → ⊥) → C
other p q h = absurd (h (ap kind (sym p ∙ q)))

-- ---- a text with no bad line

no_bytes : (x : List ℕ) → length x ≤ 0 → x ≡ []
no_bytes [] h = refl
no_bytes (b ∷ x) h = absurd (omega arith)

line_is : (w : Bool) (s : List ℕ) (j : ℕ) → j < 6 → bad_line w s j ≡ false → is_line w j (line_at j s) ≡ true
unfolding bad_line
line_is w s j h e = not-false (is_line w j (line_at j s)) (rw (lt-ltb j 6 h) at e)

bad_line_lem : (w : Bool) (s : List ℕ) (j : ℕ) → j < 6 → bad_line w s j ≡ true → is_line w j (line_at j s) ≡ false
unfolding bad_line
bad_line_lem w s j h e = not-true (is_line w j (line_at j s)) (rw (lt-ltb j 6 h) at e)

line_bad : (w : Bool) (s : List ℕ) (j : ℕ) → j < 6 → is_line w j (line_at j s) ≡ false → bad_line w s j ≡ true
unfolding bad_line
line_bad w s j h e = rw (lt-ltb j 6 h, e) refl

line_good_in : (w : Bool) (s : List ℕ) (j : ℕ) → j < 6 → is_line w j (line_at j s) ≡ true → bad_line w s j ≡ false
unfolding bad_line
line_good_in w s j h e = rw (lt-ltb j 6 h, e) refl

rest_empty : (w : Bool) (s : List ℕ) → bad_line w s 6 ≡ false → from_line 6 s ≡ []
unfolding bad_line
rest_empty w s e = no_bytes (from_line 6 s) (ltb-false 0 (length (from_line 6 s)) e)

rest_there : (w : Bool) (s : List ℕ) → bad_line w s 6 ≡ true → 0 < length (from_line 6 s)
unfolding bad_line
rest_there w s e = ltb-true 0 (length (from_line 6 s)) e

there_rest : (w : Bool) (s : List ℕ) → 0 < length (from_line 6 s) → bad_line w s 6 ≡ true
unfolding bad_line
there_rest w s h = lt-ltb 0 (length (from_line 6 s)) h

module _ (w : Bool) (s : List ℕ) (t : ltb (first_bad w s) 7 ≡ false) where
  good : (j : ℕ) → j < 7 → bad_line w s j ≡ false
  good j h = least_below 7 (bad_line w s) j (omega (arith, ltb-false (first_bad w s) 7 t))

  -- it is the drawing of every record that has what it tells
  text_drawn : (f : Bits) → ((k : ℕ) → k < 57 → f k ≡ bits_in w s k) → s ≡ drawn w f
  unfolding drawn
  text_drawn f has =
      stands s 6 ∙ ap₂ (λ (ls : List (List ℕ)) (x : List ℕ). join ls ++ x) lines (rest_empty w s (good 6 (omega arith))) ∙ append-nil (join (drawing_lines w f))
    where
      line : (i : ℕ) → i < 6 → line_at i s ≡ line_of w i f
      line i h = split (ltb i 5)
          (λ e. upper_line w s f (λ k l. has k (omega arith)) i (ltb-true i 5 e) (line_is w s i h (good i (omega arith))))
          (λ e.
          let z : i ≡ 5 = omega (arith, ltb-false i 5 e) in
          subst (λ (n : ℕ). line_at n s ≡ line_of w n f) (sym z) (last_line_lem w s f (λ k p q. has k q) (line_is w s 5 (omega arith) (good 5 (omega arith)))))

      lines : firsts 6 s ≡ drawing_lines w f
      lines = ext_get_or [] (firsts 6 s) (drawing_lines w f) (firsts_length s 6)
          (λ i h. let l : i < 6 = omega (arith, firsts_length s 6) in firsts_at s 6 i l ∙ line i l)

  told : Shown w (bits_in w s)
  told = told_shown w s (line_is w s 5 (omega arith) (good 5 (omega arith)))

-- a drawing has none
module _ (w : Bool) (f : Bits) (d : Shown w f) where
  none_bad : ltb (first_bad w (drawn w f)) 7 ≡ false
  none_bad = ap (λ (n : ℕ). ltb n 7) (drawn_good w f d)

  image_back : image (bits_in w (drawn w f)) ≡ image f
  image_back = image_ext (bits_in w (drawn w f)) f (λ k h. bits_back w f d k)

-- ---- what is read

pub drawn_reads_back : DrawnReadsBack
drawn_reads_back w r h s =
    let d = has_shown w r h s in
    let z : image (bits_in w (drawn w (bit r))) ≡ r = image_back w (bit r) d ∙ image_bit r h in
    reading_sound w (drawn w (bit r)) (none_bad w (bit r) d) (ap (has_drawing w) z ∙ s) ∙ ap Ok z

pub one_drawing : OneDrawing
one_drawing w s r e = cases w s
    (λ t v. other v e (λ z. omega arith))
    (λ t u v. other v e (λ z. omega arith))
    (λ t u v.
    let z : image (bits_in w s) ≡ r = ap bits (sym v ∙ e) in (
      text_drawn w s t (bit r) (λ k h. ap (λ (n : ℕ). bit n k) (sym z) ∙ bit_image (bits_in w s) k (omega arith)),
      ap (has_drawing w) (sym z) ∙ u,
      subst (λ (n : ℕ). n < 2 ^ 64) z (packed_lt 64 0 (bits_in w s)),
    ))

-- the last line tells which drawing it is
no_lift : (b : Bool) → is_last false (apart_words b) ≡ false
unfolding is_last height_told same ascii
no_lift true = refl
no_lift false = refl

last_is : (w : Bool) (s : List ℕ) → is_line w 5 (line_at 5 s) ≡ true → is_last w (line_at 5 s) ≡ true
unfolding is_line
last_is w s e = e

no_both : (l : List ℕ) → is_last false l ≡ true → is_last true l ≡ true → ⊥
unfolding is_last
no_both l e d = split (same l (apart_words true))
    (λ t. clash (ap (is_last false) (sym (same_eq l (apart_words true) t)) ∙ e) (no_lift true))
    (λ t. clash (ap (is_last false) (sym (same_eq l (apart_words false) (rw t at d))) ∙ e) (no_lift false))

pub drawings_apart : DrawingsApart
drawings_apart s r a e d = cases false s
    (λ t v. other v e (λ z. omega arith))
    (λ t u v. other v e (λ z. omega arith))
    (λ t u v. cases true s
    (λ x y. other y d (λ z. omega arith))
    (λ x z y. other y d (λ z. omega arith))
    (λ x z y. no_both (line_at 5 s) (last_is false s (line_is false s 5 (omega arith) (good false s t 5 (omega arith))))
    (last_is true s (line_is true s 5 (omega arith) (good true s x 5 (omega arith))))))

pub drawings_differ : DrawingsDiffer
drawings_differ w r q h k s t e = ap bits (sym (drawn_reads_back w r h s) ∙ ap (reading w) e ∙ drawn_reads_back w q k t)

-- ---- what is refused

pub unsound_exactly : UnsoundExactly
unsound_exactly w s = (to, from)
  where
    to : reading w s ≡ Err Unsound → (f : Bits) × Shown w f × (s ≡ drawn w f) × (has_drawing w (image f) ≡ false)
    to e = cases w s
        (λ t v. other v e (λ z. omega arith))
        (λ t u v. (bits_in w s, told w s t, text_drawn w s t (bits_in w s) (λ k h. refl), u))
        (λ t u v. other v e (λ z. omega arith))

    from : (f : Bits) × Shown w f × (s ≡ drawn w f) × (has_drawing w (image f) ≡ false) → reading w s ≡ Err Unsound
    from (f, d, e, u) = ap (reading w) e ∙ reading_unsound w (drawn w f) (none_bad w f d) (ap (has_drawing w) (image_back w f d) ∙ u)

-- what is set apart is told by the 53 bits alone
pub apart_never_unsound : ApartNeverUnsound
apart_never_unsound s e = let (f, d, x, u) = (unsound_exactly true s).0 e in clash (lt-ltb (image f) (2 ^ 53) (few f d)) u
  where
    few : (f : Bits) → Shown true f → image f < 2 ^ 53
    few f d =
        let y = packed 53 0 f in
        let l : y < 2 ^ 53 = packed_lt 53 0 f in
        let z : y ≡ image f = by_bits y f (omega arith) (λ k h. split (ltb k 53)
        (λ t. bit_packed 53 0 f k (ltb-true k 53 t) ∙ ap f (omega arith))
        (λ t. bit_past y 53 k l (ltb-false k 53 t) ∙ sym (d k (ltb-false k 53 t)))) in
        subst (λ (n : ℕ). n < 2 ^ 53) z l

-- a line of its form ends in its one line feed, and is seen to be of it
formed_ended : (w : Bool) (j : ℕ) (l : List ℕ) → j < 6 → Formed w j l → Ended l
formed_ended w j l h (f, d, e) = let v = line_ended w f j h in record { word = v.word; plain = v.plain; whole = e ∙ v.whole }

formed_good : (w : Bool) (j : ℕ) (l : List ℕ) → j < 6 → Formed w j l → is_line w j l ≡ true
formed_good w j l h (f, d, e) = ap (is_line w j) e ∙ line_good w f d j h

-- the first bad line, as reading finds it
module _ (w : Bool) (s : List ℕ) (t : ltb (first_bad w s) 7 ≡ true) where
  abbrev here : ℕ
  here = first_bad w s

  is_least : IsLeast 7 (bad_line w s) here
  is_least = found_least 7 (bad_line w s) (ltb-true here 7 t)

  first_is : FirstBad w s here
  first_is = record {
    before = firsts here s;
    rest = from_line here s;
    stands = stands s here;
    many = firsts_length s here;
    good = λ j h.
        let l : j < 6 = omega (arith, ltb-true here 7 t) in
        subst (Formed w j) (sym (firsts_at s here j h)) (line_formed w s j l (line_is w s j l (is_least.none j h)));
    bad = split (ltb here 6)
        (λ e. inl (ltb-true here 6 e, no_line (ltb-true here 6 e)))
        (λ e. let z : here ≡ 6 = omega (arith, ltb-true here 7 t, ltb-false here 6 e) in
        inr (z, subst (λ (n : ℕ). 0 < length (from_line n s)) (sym z) (rest_there w s (subst (λ (n : ℕ). bad_line w s n ≡ true) z is_least.passes))));
  }
    where
      no_line : here < 6 → (l x : List ℕ) → from_line here s ≡ l ++ x → Formed w here l → ⊥
      no_line h l x e g =
          let z : line_at here s ≡ l = ap first_line e ∙ line_here l x (formed_ended w here l h g) in
          clash (ap (is_line w here) z ∙ formed_good w here l h g) (bad_line_lem w s here h is_least.passes)

-- and one that is told of is the first that reading finds
module _ (w : Bool) (s : List ℕ) (p : ℕ) (v : FirstBad w s p) where
  at_most : p < 7
  at_most = ⊎_elim (λ (b : (p < 6) × ((l t : List ℕ) → v.rest ≡ l ++ t → Formed w p l → ⊥)). let (h, _) = b in omega arith)
      (λ (b : (p ≡ 6) × (0 < length v.rest)). let (h, _) = b in omega arith) v.bad

  before_ended : (j : ℕ) → j < length v.before → Ended (get_or v.before j [])
  before_ended j h =
      let l : j < p = omega (arith, v.many) in
      formed_ended w j (get_or v.before j []) (omega (arith, at_most)) (v.good j l)

  line_before : (j : ℕ) → j < p → bad_line w s j ≡ false
  line_before j h =
      let l : j < 6 = omega (arith, at_most) in
      let e : line_at j s ≡ get_or v.before j [] = ap (line_at j) v.stands ∙ line_join v.before v.rest before_ended j (omega (arith, v.many)) in
      line_good_in w s j l (ap (is_line w j) e ∙ formed_good w j (get_or v.before j []) l (v.good j h))

  rest_is : from_line p s ≡ v.rest
  rest_is =
      let k : length v.before ≤ p = omega (arith, v.many) in
      ap (from_line p) v.stands ∙ from_join v.before v.rest before_ended p (omega (arith, v.many))
      ∙ ap (λ (ls : List (List ℕ)). join ls ++ v.rest) (drop_of_length-le v.before k)

  line_there : bad_line w s p ≡ true
  line_there = ⊎_elim
      (λ (b : (p < 6) × ((l t : List ℕ) → v.rest ≡ l ++ t → Formed w p l → ⊥)).
      let (h, none) = b in
      line_bad w s p h (off (is_line w p (line_at p s)) (λ g. none (line_at p s) (drop (length (line_at p s)) (from_line p s)) (sym rest_is ∙ sym (line_rest (from_line p s))) (line_formed w s p h g))))
      (λ (b : (p ≡ 6) × (0 < length v.rest)).
      let (z, h) = b in
      subst (λ (n : ℕ). bad_line w s n ≡ true) (sym z)
      (there_rest w s (subst (λ (x : List ℕ). 0 < length x) (sym (ap (λ (n : ℕ). from_line n s) (sym z) ∙ rest_is)) h)))
      v.bad

  is_first : first_bad w s ≡ p
  is_first = least_is 7 p (bad_line w s) at_most line_before line_there

pub first_bad_line : FirstBadLine
first_bad_line w s p = (to, from)
  where
    to : reading w s ≡ Err (BadLine p) → FirstBad w s p
    to e = cases w s
        (λ t v. subst (FirstBad w s) (ap place (sym v ∙ e)) (first_is w s t))
        (λ t u v. other v e (λ z. omega arith))
        (λ t u v. other v e (λ z. omega arith))

    from : FirstBad w s p → reading w s ≡ Err (BadLine p)
    from v =
        let e = is_first w s p v in
        reading_bad w s (lt-ltb (first_bad w s) 7 (omega (arith, at_most w s p v, e))) ∙ ap (λ (n : ℕ). Err (BadLine n)) e

pub read_numbers : ReadNumbers
read_numbers w s = cases w s
    (λ t v. inr (inr (first_bad w s, v, ltb-true (first_bad w s) 7 t)))
    (λ t u v. inr (inl v))
    (λ t u v. inl (image (bits_in w s), v))
