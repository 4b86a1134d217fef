-- A text by its lines: what stands where lines stand one after the other, the lines of a drawing, and that they tell its record.
-- Assumes nothing.
use mathlib.Core.Path.{◌≡◌, refl, sym, ap, ◌∙◌}
use mathlib.Core.Bool.{Bool, true, false, cond, not, ◌&&◌}
use mathlib.Core.List.{List, [], ◌∷◌, ◌++◌, append_assoc, append-nil}
use Prim.Native.Nat.{ℕ, zero, suc, ◌+◌, ◌-◌, ◌*◌, ◌≤◌, ◌<◌}
use native.Mathlib.Omega.{arith}
use native.Mathlib.Nat.{zero-add}
use lib.Dec.{eqb, ltb}
use lib.ListN.{length, get_or, drop, length-append, get_or-append}
use lib.Seq.{drop-cons, drop-append_seam, get_or_at}
use borrow.Author.Tests.{eqb-true, eqb-false, ltb-true, ltb-false}
use Rattle.bits.specs.Bits.{Bits, bit, digit}
use Rattle.bits.specs.Places.{join}
use Rattle.bits.proofs.Cases.{split, clash}
use Rattle.bits.proofs.Least.{least_none}
use Rattle.floor.specs.Floor.{lowered, tilted, slot, raised_car, height_low, height_high, drive_in, drive_out}
use Rattle.drawing.specs.Drawing.{mark, floor_line, shuttle_line, lift_line, apart_words, last_line, drawing_lines, drawn}
use Rattle.drawing.specs.Reading.{first_line, from_line, byte_at, line_at, is_line, bad_line, first_bad, lift_drawn, apart_drawn, last_drawn, bits_in}
use Rattle.drawing.proofs.FirstLines as first
use Rattle.drawing.proofs.FirstLines.{line_rest}
use Rattle.drawing_laws.specs.Promises.{Drawable, Shown}
use Rattle.drawing_laws.proofs.Lines.{lined_at, mark_tells, is_lowered, is_tilted, letter_lowered, letter_tilted}
use Rattle.drawing_laws.proofs.Forms.{marks, letters, line_of, Ended, line_ended, line_good, lift_tells, apart_tells, last_of, row_one, row_two, row_three, side_left, side_right}

-- ---- lines one after the other, and a rest

pub line_here : (l t : List ℕ) → Ended l → first_line (l ++ t) ≡ l
line_here l t e = ap (λ (x : List ℕ). first_line (x ++ t)) e.whole ∙ first.line_ended e.word t e.plain ∙ sym e.whole

module _ (before : List (List ℕ)) (rest : List ℕ) (ended : (j : ℕ) → j < length before → Ended (get_or before j [])) where
  -- line j and what follows it
  parted : (j : ℕ) → j < length before → join (drop j before) ++ rest ≡ get_or before j [] ++ (join (drop (suc j) before) ++ rest)
  parted j h =
      ap (λ (ls : List (List ℕ)). join ls ++ rest) (drop-cons before j [] h) ∙ append_assoc (get_or before j []) (join (drop (suc j) before)) rest

  pub from_join : (j : ℕ) → j ≤ length before → from_line j (join before ++ rest) ≡ join (drop j before) ++ rest
  unfolding from_line
  from_join zero h = refl
  from_join (suc j) h =
      let x = get_or before j [] in
      let t = join (drop (suc j) before) ++ rest in
      ap (λ (y : List ℕ). drop (length (first_line y)) y) (from_join j (omega arith) ∙ parted j (omega arith))
      ∙ ap (λ (y : List ℕ). drop (length y) (x ++ t)) (line_here x t (ended j (omega arith)))
      ∙ drop-append_seam x t

  pub line_join : (j : ℕ) → j < length before → line_at j (join before ++ rest) ≡ get_or before j []
  line_join j h =
      ap first_line (from_join j (omega arith) ∙ parted j h) ∙ line_here (get_or before j []) (join (drop (suc j) before) ++ rest) (ended j h)

-- ---- the first lines of any text

unfoldable pub firsts : ℕ → List ℕ → List (List ℕ)
firsts zero s = []
firsts (suc p) s = firsts p s ++ (line_at p s ∷ [])

join_more : (ls : List (List ℕ)) (x : List ℕ) → join (ls ++ (x ∷ [])) ≡ join ls ++ x
join_more [] x = append-nil x
join_more (l ∷ ls) x = ap (λ (y : List ℕ). l ++ y) (join_more ls x) ∙ sym (append_assoc l (join ls) x)

module _ (s : List ℕ) where
  pub firsts_length : (p : ℕ) → length (firsts p s) ≡ p
  unfolding firsts
  firsts_length zero = refl
  firsts_length (suc p) = length-append (firsts p s) (line_at p s ∷ []) ∙ omega (arith, firsts_length p)

  pub firsts_at : (p j : ℕ) → j < p → get_or (firsts p s) j [] ≡ line_at j s
  unfolding firsts
  firsts_at zero j h = absurd (omega arith)
  firsts_at (suc p) j h = split (ltb j p)
      (λ e.
      let k : j < length (firsts p s) = omega (arith, firsts_length p, ltb-true j p e) in
      get_or-append (firsts p s) (line_at p s ∷ []) [] j k ∙ firsts_at p j (ltb-true j p e))
      (λ e.
      let z : p ≡ j = omega (arith, ltb-false j p e) in
      get_or_at (firsts p s) (line_at p s) [] [] j (firsts_length p ∙ z) ∙ ap (λ (n : ℕ). line_at n s) z)

  pub stands : (p : ℕ) → s ≡ join (firsts p s) ++ from_line p s
  unfolding firsts from_line
  stands zero = refl
  stands (suc p) =
      let r = from_line p s in
      stands p ∙ ap (λ (x : List ℕ). join (firsts p s) ++ x) (sym (line_rest r))
      ∙ sym (append_assoc (join (firsts p s)) (first_line r) (drop (length (first_line r)) r))
      ∙ ap (λ (x : List ℕ). x ++ drop (length (first_line r)) r) (sym (join_more (firsts p s) (first_line r)))

-- ---- a drawing

module _ (w : Bool) (f : Bits) where
  drawn_parts : drawn w f ≡ join (drawing_lines w f) ++ []
  unfolding drawn
  drawn_parts = sym (append-nil (join (drawing_lines w f)))

  pub drawn_line : (j : ℕ) → j < 6 → line_at j (drawn w f) ≡ line_of w j f
  drawn_line j h = ap (line_at j) drawn_parts ∙ line_join (drawing_lines w f) [] (line_ended w f) j h

  drawn_rest : from_line 6 (drawn w f) ≡ []
  drawn_rest = ap (from_line 6) drawn_parts ∙ from_join (drawing_lines w f) [] (line_ended w f) 6 (omega arith)

  -- none of its lines is bad
  module _ (d : Shown w f) where
    no_bad : (j : ℕ) → j < 7 → bad_line w (drawn w f) j ≡ false
    unfolding bad_line
    no_bad j h = split (ltb j 6)
        (λ e. rw e (ap (λ (l : List ℕ). not (is_line w j l)) (drawn_line j (ltb-true j 6 e)) ∙ ap not (line_good w f d j (ltb-true j 6 e))))
        (λ e. rw e (ap (λ (x : List ℕ). ltb 0 (length x)) drawn_rest))

    pub drawn_good : first_bad w (drawn w f) ≡ 7
    drawn_good = least_none 7 (bad_line w (drawn w f)) no_bad

-- ---- its lines tell its record

low_digit : (low high : Bool) → bit (digit low + 2 * digit high) 0 ≡ low
low_digit true true = refl
low_digit true false = refl
low_digit false true = refl
low_digit false false = refl

high_digit : (low high : Bool) → bit (digit low + 2 * digit high) 1 ≡ high
high_digit true true = refl
high_digit true false = refl
high_digit false true = refl
high_digit false false = refl

in_told : (coming going : Bool) → eqb (cond coming 1 (cond going 2 0)) 1 ≡ coming
in_told true going = refl
in_told false true = refl
in_told false false = refl

out_told : (coming going : Bool) → not (coming && (going && true)) ≡ true → eqb (cond coming 1 (cond going 2 0)) 2 ≡ going
out_told true true e = clash e refl
out_told true false e = refl
out_told false true e = refl
out_told false false e = refl

-- the lift
lift_back_lem : (f : Bits) → Drawable f → (k : ℕ) → 52 ≤ k → lift_drawn (lift_line f) k ≡ f k
unfolding lift_drawn lift_line
lift_back_lem f d k h =
    let t = lift_tells f d in
    split (eqb k raised_car) (λ e. rw e (t.car_there ∙ ap f (sym (eqb-true k raised_car e))))
    (λ a. rw a (split (eqb k height_low)
    (λ e. rw e (ap (λ (n : ℕ). bit n 0) t.height ∙ low_digit (f height_low) (f height_high) ∙ ap f (sym (eqb-true k height_low e))))
    (λ b. rw b (split (eqb k height_high)
    (λ e. rw e (ap (λ (n : ℕ). bit n 1) t.height ∙ high_digit (f height_low) (f height_high) ∙ ap f (sym (eqb-true k height_high e))))
    (λ c. rw c (split (eqb k drive_in)
    (λ e. rw e (ap (λ (n : ℕ). eqb n 1) t.drive ∙ in_told (f drive_in) (f drive_out) ∙ ap f (sym (eqb-true k drive_in e))))
    (λ i. rw i (split (eqb k drive_out)
    (λ e. rw e (ap (λ (n : ℕ). eqb n 2) t.drive ∙ out_told (f drive_in) (f drive_out) d.drive ∙ ap f (sym (eqb-true k drive_out e))))
    (λ o. rw o (sym (d.rest k (past k h (eqb-false k 52 a) (eqb-false k 53 b) (eqb-false k 54 c) (eqb-false k 55 i) (eqb-false k 56 o)))))))))))))
  where
    past : (k : ℕ) → 52 ≤ k → (k ≡ 52 → ⊥) → (k ≡ 53 → ⊥) → (k ≡ 54 → ⊥) → (k ≡ 55 → ⊥) → (k ≡ 56 → ⊥) → 57 ≤ k
    past k h a b c i o = omega arith

apart_back : (f : Bits) → ((k : ℕ) → 53 ≤ k → f k ≡ false) → (k : ℕ) → 52 ≤ k → apart_drawn (apart_words (f raised_car)) k ≡ f k
unfolding apart_drawn
apart_back f d k h = split (eqb k raised_car)
    (λ e. rw e (apart_tells (f raised_car) ∙ ap f (sym (eqb-true k raised_car e))))
    (λ e. let n = eqb-false k raised_car e in let l : 53 ≤ k = ne_more k h n in rw e (sym (d k l)))
  where
    ne_more : (k : ℕ) → 52 ≤ k → (k ≡ 52 → ⊥) → 53 ≤ k
    ne_more k h n = omega arith

last_back : (w : Bool) (f : Bits) → Shown w f → (k : ℕ) → 52 ≤ k → last_drawn w (line_of w 5 f) k ≡ f k
unfolding last_line
last_back true f d k h = apart_back f d k h
last_back false f d k h = lift_back_lem f d k h

module _ (w : Bool) (f : Bits) where
  mark_line : (k a n j i : ℕ) (l : List ℕ) → j < n → a + j ≡ k → l ≡ line_of w i f → byte_at j (line_of w i f) ≡ marks w f (a + j) → eqb (byte_at j l) (mark w true) ≡ f k
  mark_line k a n j i l h z e m =
      ap (λ (x : List ℕ). eqb (byte_at j x) (mark w true)) e ∙ ap (λ (b : ℕ). eqb b (mark w true)) m ∙ mark_tells w (f (a + j)) ∙ ap f z

  -- cells
  cell_back : (k : ℕ) → k < 40 → bits_in w (drawn w f) k ≡ f k
  unfolding floor_line
  cell_back k h = split (ltb k 20)
      (λ e.
      let l : k < 20 = ltb-true k 20 e in
      row_one w (drawn w f) k l ∙ mark_line k 0 20 k 0 (line_at 0 (drawn w f)) l (zero-add k) (drawn_line w f 0 (omega arith)) (lined_at (marks w f) 0 20 k l))
      (λ e. split (ltb k 30)
      (λ d.
      let j : k - 20 < 10 = omega (arith, ltb-true k 30 d, ltb-false k 20 e) in
      let z : 20 + (k - 20) ≡ k = omega (arith, ltb-false k 20 e) in
      ap (bits_in w (drawn w f)) (sym z) ∙ row_two w (drawn w f) (k - 20) j
      ∙ mark_line k 20 10 (k - 20) 1 (line_at 1 (drawn w f)) j z (drawn_line w f 1 (omega arith)) (lined_at (marks w f) 20 10 (k - 20) j))
      (λ d.
      let j : k - 30 < 10 = omega (arith, ltb-false k 30 d) in
      let z : 30 + (k - 30) ≡ k = omega (arith, ltb-false k 30 d) in
      ap (bits_in w (drawn w f)) (sym z) ∙ row_three w (drawn w f) (k - 30) j
      ∙ mark_line k 30 10 (k - 30) 2 (line_at 2 (drawn w f)) j z (drawn_line w f 2 (omega arith)) (lined_at (marks w f) 30 10 (k - 30) j)))

  -- slots
  module _ (side i : ℕ) (is : (j : ℕ) → j < 3 → byte_at j (line_at i (drawn w f)) ≡ letters side f (1 + j)) where
    low_back : (j : ℕ) → j < 3 → bits_in w (drawn w f) (slot side lowered (1 + j)) ≡ is_lowered (byte_at j (line_at i (drawn w f))) → bits_in w
        (drawn w f) (slot side lowered (1 + j)) ≡ f (slot side lowered (1 + j))
    low_back j h e = e ∙ ap is_lowered (is j h) ∙ letter_lowered (f (slot side lowered (1 + j))) (f (slot side tilted (1 + j)))

    tilt_back : (j : ℕ) → j < 3 → bits_in w (drawn w f) (slot side tilted (1 + j)) ≡ is_tilted (byte_at j (line_at i (drawn w f))) → bits_in w
        (drawn w f) (slot side tilted (1 + j)) ≡ f (slot side tilted (1 + j))
    tilt_back j h e = e ∙ ap is_tilted (is j h) ∙ letter_tilted (f (slot side lowered (1 + j))) (f (slot side tilted (1 + j)))

  left_letters : (j : ℕ) → j < 3 → byte_at j (line_at 3 (drawn w f)) ≡ letters 0 f (1 + j)
  unfolding shuttle_line
  left_letters j h = ap (byte_at j) (drawn_line w f 3 (omega arith)) ∙ lined_at (letters 0 f) 1 3 j h

  right_letters : (j : ℕ) → j < 3 → byte_at j (line_at 4 (drawn w f)) ≡ letters 1 f (1 + j)
  unfolding shuttle_line
  right_letters j h = ap (byte_at j) (drawn_line w f 4 (omega arith)) ∙ lined_at (letters 1 f) 1 3 j h

  left_low : (j : ℕ) → j < 3 → bits_in w (drawn w f) (slot 0 lowered (1 + j)) ≡ f (slot 0 lowered (1 + j))
  left_low j h = low_back 0 3 left_letters j h (side_left w (drawn w f) j h).0

  right_low : (j : ℕ) → j < 3 → bits_in w (drawn w f) (slot 1 lowered (1 + j)) ≡ f (slot 1 lowered (1 + j))
  right_low j h = low_back 1 4 right_letters j h (side_right w (drawn w f) j h).0

  left_tilt : (j : ℕ) → j < 3 → bits_in w (drawn w f) (slot 0 tilted (1 + j)) ≡ f (slot 0 tilted (1 + j))
  left_tilt j h = tilt_back 0 3 left_letters j h (side_left w (drawn w f) j h).1

  right_tilt : (j : ℕ) → j < 3 → bits_in w (drawn w f) (slot 1 tilted (1 + j)) ≡ f (slot 1 tilted (1 + j))
  right_tilt j h = tilt_back 1 4 right_letters j h (side_right w (drawn w f) j h).1

  slot_back : (n : ℕ) → n < 12 → bits_in w (drawn w f) (40 + n) ≡ f (40 + n)
  slot_back zero h = left_low 0 (omega arith)
  slot_back (suc zero) h = left_low 1 (omega arith)
  slot_back (suc (suc zero)) h = left_low 2 (omega arith)
  slot_back (suc (suc (suc zero))) h = right_low 0 (omega arith)
  slot_back (suc (suc (suc (suc zero)))) h = right_low 1 (omega arith)
  slot_back (suc (suc (suc (suc (suc zero))))) h = right_low 2 (omega arith)
  slot_back (suc (suc (suc (suc (suc (suc zero)))))) h = left_tilt 0 (omega arith)
  slot_back (suc (suc (suc (suc (suc (suc (suc zero))))))) h = left_tilt 1 (omega arith)
  slot_back (suc (suc (suc (suc (suc (suc (suc (suc zero)))))))) h = left_tilt 2 (omega arith)
  slot_back (suc (suc (suc (suc (suc (suc (suc (suc (suc zero))))))))) h = right_tilt 0 (omega arith)
  slot_back (suc (suc (suc (suc (suc (suc (suc (suc (suc (suc zero)))))))))) h = right_tilt 1 (omega arith)
  slot_back (suc (suc (suc (suc (suc (suc (suc (suc (suc (suc (suc zero))))))))))) h = right_tilt 2 (omega arith)
  slot_back (suc (suc (suc (suc (suc (suc (suc (suc (suc (suc (suc (suc n)))))))))))) h = absurd (omega arith)

  -- all of them
  module _ (d : Shown w f) where
    pub bits_back : (k : ℕ) → bits_in w (drawn w f) k ≡ f k
    bits_back k = split (ltb k 40)
        (λ e. cell_back k (ltb-true k 40 e))
        (λ e. split (ltb k 52)
        (λ u.
        let z : 40 + (k - 40) ≡ k = omega (arith, ltb-false k 40 e) in
        ap (bits_in w (drawn w f)) (sym z) ∙ slot_back (k - 40) (omega (arith, ltb-true k 52 u, ltb-false k 40 e)) ∙ ap f z)
        (λ u. last_of w (drawn w f) k e u ∙ ap (λ (l : List ℕ). last_drawn w l k) (drawn_line w f 5 (omega arith)) ∙ last_back w f d k (ltb-false k 52 u)))
