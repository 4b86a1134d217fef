-- A text read at fixed places is read by its lines: where each line begins, which is the first bad one, and the bits. Assumes nothing.
use mathlib.Core.Path.{◌≡◌, refl, sym, ap, ap₂, ◌∙◌}
use mathlib.Core.Bool.{Bool, true, false, cond, not, ◌&&◌, ◌||◌}
use mathlib.Core.List.{List}
use Prim.Native.Nat.{ℕ, suc, ◌+◌, ◌*◌, ◌-◌, ◌/◌, ◌%◌, ◌≤◌, ◌<◌}
use native.Mathlib.Omega.{arith}
use native.Mathlib.Numerals.{add-one}
use lib.Dec.{eqb, ltb}
use lib.ListN.{length, get_or, drop, length-drop}
use lib.Seq.{drop-drop, get_or-drop}
use borrow.Author.Tests.{ltb-true, ltb-false, lt-ltb, le-ltb, eqb-true, eqb-false}
use Rattle.bits.specs.Bits.{image}
use Rattle.bits.proofs.Cases.{split}
use Rattle.bits.proofs.Digits.{image_ext}
use Rattle.bits.proofs.Least.{Passed, start, turn, here, past}
use Rattle.drawing.specs.Drawing.{mark}
use Rattle.drawing.specs.Reading.{first_line, from_line, line_at, each, is_mark, is_letter, is_line, bad_line, first_bad, cell_in, letter_in, slot_in, last_drawn, bits_in}
use Rattle.drawing.specs.Private.{grid, mark_in, stands, last_told, words_of, bad_at_end, bad_at, slot_read, lift_bit, bits_at}
use Rattle.drawing.proofs.Cells.{grid_at}
use Rattle.drawing.proofs.FirstLines.{line_byte, stands_length, each_stands}
use Rattle.drawing.proofs.LastLines.{last_line_lem, last_words, last_bits}

-- ---- where each line begins

-- a line feed is no mark
no_feed : (w : Bool) → is_mark w 10 ≡ false
no_feed true = refl
no_feed false = refl

-- the lines before line j are good, and it begins at place p
record Reached (w : Bool) (s : List ℕ) (j p : ℕ) : Type 0 where
  begins : from_line j s ≡ drop p s
  good : Passed (bad_line w s) 7 j

module _ (w : Bool) (s : List ℕ) (n : ℕ) (good : ℕ → Bool) (no_feed : good 10 ≡ false) (j p : ℕ) (v : Reached w s j p) where
  -- it is of its form if it stands there
  placed : each n good (line_at j s) ≡ stands n good (drop p s)
  placed = ap (λ (r : List ℕ). each n good (first_line r)) v.begins ∙ each_stands n good no_feed (drop p s)

  -- its bytes are the text's
  byte_there : stands n good (drop p s) ≡ true → (i : ℕ) → i < n → get_or (line_at j s) i 0 ≡ get_or s (p + i) 0
  byte_there e i h =
      ap (λ (r : List ℕ). get_or (first_line r) i 0) v.begins
      ∙ line_byte (drop p s) i (omega (arith, stands_length n good no_feed (drop p s) e)) ∙ get_or-drop p s i 0

  module _ (form : bad_line w s j ≡ not (each n good (line_at j s))) (l : j < 7) where
    -- then the next line begins after it; else it is the first bad one
    reach : stands n good (drop p s) ≡ true → Reached w s (j + 1) (p + suc n)
    unfolding from_line
    reach e =
        record {
          begins = rw add-one
              (ap (λ (r : List ℕ). drop (length (first_line r)) r) v.begins ∙ ap (λ (m : ℕ). drop m (drop p s)) (stands_length n good no_feed (drop p s) e)
              ∙ drop-drop (suc n) p s);
          good = turn v.good l (form ∙ ap not (placed ∙ e));
        }

    stop : stands n good (drop p s) ≡ false → j ≡ first_bad w s
    stop e = here v.good l (form ∙ ap not (placed ∙ e))

-- ---- line by line

module _ (w : Bool) (s : List ℕ) where
  -- a height and a drive are told
  abbrev is_told : Bool
  is_told = ltb (last_told w (drop 51 s)).height 3 && ltb (last_told w (drop 51 s)).drive 3

  -- every line stands at its place
  pub record Whole : Type 0 where
    pub row₁ : stands 20 (is_mark w) s ≡ true
    pub row₂ : stands 10 (is_mark w) (drop 21 s) ≡ true
    pub row₃ : stands 10 (is_mark w) (drop 32 s) ≡ true
    pub left : stands 3 is_letter (drop 43 s) ≡ true
    pub right : stands 3 is_letter (drop 47 s) ≡ true
    pub lift : is_told ≡ true

  at₀ : Reached w s 0 0
  unfolding from_line
  at₀ = record { begins = refl; good = start (bad_line w s) 7 }

  form₀ : bad_line w s 0 ≡ not (each 20 (is_mark w) (line_at 0 s))
  unfolding bad_line is_line
  form₀ = refl

  form₁ : bad_line w s 1 ≡ not (each 10 (is_mark w) (line_at 1 s))
  unfolding bad_line is_line
  form₁ = refl

  form₂ : bad_line w s 2 ≡ not (each 10 (is_mark w) (line_at 2 s))
  unfolding bad_line is_line
  form₂ = refl

  form₃ : bad_line w s 3 ≡ not (each 3 is_letter (line_at 3 s))
  unfolding bad_line is_line
  form₃ = refl

  form₄ : bad_line w s 4 ≡ not (each 3 is_letter (line_at 4 s))
  unfolding bad_line is_line
  form₄ = refl

  at₁ : stands 20 (is_mark w) s ≡ true → Reached w s 1 21
  at₁ = reach w s 20 (is_mark w) (no_feed w) 0 0 at₀ form₀ (omega arith)

  at₂ : Reached w s 1 21 → stands 10 (is_mark w) (drop 21 s) ≡ true → Reached w s 2 32
  at₂ v = reach w s 10 (is_mark w) (no_feed w) 1 21 v form₁ (omega arith)

  at₃ : Reached w s 2 32 → stands 10 (is_mark w) (drop 32 s) ≡ true → Reached w s 3 43
  at₃ v = reach w s 10 (is_mark w) (no_feed w) 2 32 v form₂ (omega arith)

  at₄ : Reached w s 3 43 → stands 3 is_letter (drop 43 s) ≡ true → Reached w s 4 47
  at₄ v = reach w s 3 is_letter refl 3 43 v form₃ (omega arith)

  at₅ : Reached w s 4 47 → stands 3 is_letter (drop 47 s) ≡ true → Reached w s 5 51
  at₅ v = reach w s 3 is_letter refl 4 47 v form₄ (omega arith)

  module _ (v : Reached w s 5 51) where
    last : is_line w 5 (line_at 5 s) ≡ is_told
    last = ap (λ (r : List ℕ). is_line w 5 (first_line r)) v.begins ∙ last_line_lem w (drop 51 s)

    bad_last : bad_line w s 5 ≡ not is_told
    unfolding bad_line
    bad_last = ap not last

    at₆ : is_told ≡ true → Passed (bad_line w s) 7 6
    at₆ e = turn v.good (omega arith) (bad_last ∙ ap not e)

    left_over : is_told ≡ true → length (from_line 6 s) ≡ length s - 51 - length (words_of w (last_told w (drop 51 s)))
    unfolding from_line
    left_over e =
        ap (λ (r : List ℕ). length (drop (length (first_line r)) r)) v.begins ∙ length-drop (length (first_line (drop 51 s))) (drop 51 s)
        ∙ ap₂ (λ (a b : ℕ). a - b) (length-drop 51 s) (ap length (last_words w (drop 51 s) (last_line_lem w (drop 51 s) ∙ e)))

    bad_past : is_told ≡ true → bad_line w s 6 ≡ ltb (51 + length (words_of w (last_told w (drop 51 s)))) (length s)
    unfolding bad_line
    bad_past t = split (ltb (51 + length (words_of w (last_told w (drop 51 s)))) (length s))
        (λ e. lt-ltb 0 (length (from_line 6 s)) (omega (arith, left_over t, ltb-true _ (length s) e)) ∙ sym e)
        (λ e. le-ltb 0 (length (from_line 6 s)) (omega (arith, left_over t, ltb-false _ (length s) e)) ∙ sym e)

  -- a number is the first bad line's; where none is bad, every line stands
  pub record Sought (m : ℕ) : Type 0 where
    pub same : m ≡ first_bad w s
    pub whole : 7 ≤ m → Whole

  pub sought : Sought (bad_at w s (last_told w (drop 51 s)))
  unfolding bad_at bad_at_end
  sought = split (stands 20 (is_mark w) s)
      (λ e₀. let v₁ = at₁ e₀ in split (stands 10 (is_mark w) (drop 21 s))
      (λ e₁. let v₂ = at₂ v₁ e₁ in split (stands 10 (is_mark w) (drop 32 s))
      (λ e₂. let v₃ = at₃ v₂ e₂ in split (stands 3 is_letter (drop 43 s))
      (λ e₃. let v₄ = at₄ v₃ e₃ in split (stands 3 is_letter (drop 47 s))
      (λ e₄. let v₅ = at₅ v₄ e₄ in split is_told
      (λ e₅. split (ltb (51 + length (words_of w (last_told w (drop 51 s)))) (length s))
      (λ e₆. rw (e₀, e₁, e₂, e₃, e₄, e₅, e₆)
      (record { same = here (at₆ v₅ e₅) (omega arith) (bad_past v₅ e₅ ∙ e₆); whole = λ h. absurd (omega arith) }))
      (λ e₆. rw (e₀, e₁, e₂, e₃, e₄, e₅, e₆)
      (record {
        same = past (turn (at₆ v₅ e₅) (omega arith) (bad_past v₅ e₅ ∙ e₆)) (omega arith);
        whole = λ h. record { row₁ = e₀; row₂ = e₁; row₃ = e₂; left = e₃; right = e₄; lift = e₅ };
      })))
      (λ e₅. rw (e₀, e₁, e₂, e₃, e₄, e₅) (record { same = here v₅.good (omega arith) (bad_last v₅ ∙ ap not e₅); whole = λ h. absurd (omega arith) })))
      (λ e₄. rw (e₀, e₁, e₂, e₃, e₄) (record { same = stop w s 3 is_letter refl 4 47 v₄ form₄ (omega arith) e₄; whole = λ h. absurd (omega arith) })))
      (λ e₃. rw (e₀, e₁, e₂, e₃) (record { same = stop w s 3 is_letter refl 3 43 v₃ form₃ (omega arith) e₃; whole = λ h. absurd (omega arith) })))
      (λ e₂. rw (e₀, e₁, e₂) (record { same = stop w s 10 (is_mark w) (no_feed w) 2 32 v₂ form₂ (omega arith) e₂; whole = λ h. absurd (omega arith) })))
      (λ e₁. rw (e₀, e₁) (record { same = stop w s 10 (is_mark w) (no_feed w) 1 21 v₁ form₁ (omega arith) e₁; whole = λ h. absurd (omega arith) })))
      (λ e₀. rw e₀ (record { same = stop w s 20 (is_mark w) (no_feed w) 0 0 at₀ form₀ (omega arith) e₀; whole = λ h. absurd (omega arith) }))

  -- ---- the bits

  module _ (x : Whole) where
    is₁ : Reached w s 1 21
    is₁ = at₁ x.row₁

    is₂ : Reached w s 2 32
    is₂ = at₂ is₁ x.row₂

    is₃ : Reached w s 3 43
    is₃ = at₃ is₂ x.row₃

    is₄ : Reached w s 4 47
    is₄ = at₄ is₃ x.left

    is₅ : Reached w s 5 51
    is₅ = at₅ is₄ x.right

    cell_there : (k : ℕ) → k < 40 → eqb (mark_in s k) (mark w true) ≡ cell_in w s k
    unfolding mark_in cell_in
    cell_there k h = split (ltb k 20)
        (λ a. rw a (ap (λ (b : ℕ). eqb b (mark w true)) (sym (byte_there w s 20 (is_mark w) (no_feed w) 0 0 at₀ x.row₁ k (ltb-true k 20 a) ∙ ap (λ (i : ℕ). get_or s i 0) (omega arith)))))
        (λ a. let l = ltb-false k 20 a in split (ltb k 30)
        (λ b. let m = ltb-true k 30 b in
        rw (a, b) (ap (λ (y : ℕ). eqb y (mark w true))
        (sym (byte_there w s 10 (is_mark w) (no_feed w) 1 21 is₁ x.row₂ (k - 20) (omega arith) ∙ ap (λ (i : ℕ). get_or s i 0) (omega arith)))))
        (λ b. let m = ltb-false k 30 b in
        rw (a, b, lt-ltb k 40 h) (ap (λ (y : ℕ). eqb y (mark w true))
        (sym (byte_there w s 10 (is_mark w) (no_feed w) 2 32 is₂ x.row₃ (k - 30) (omega arith) ∙ ap (λ (i : ℕ). get_or s i 0) (omega arith))))))

    letter_there : (n : ℕ) → get_or s (43 + 4 * (n / 3 % 2) + n % 3) 0 ≡ letter_in s n
    letter_there n = split (eqb (n / 3 % 2) 0)
        (λ e. let z = eqb-true (n / 3 % 2) 0 e in
        rw z (sym (byte_there w s 3 is_letter refl 3 43 is₃ x.left (n % 3) (omega arith))))
        (λ e. let nz = eqb-false (n / 3 % 2) 0 e in let z : n / 3 % 2 ≡ 1 = omega arith in
        rw z (sym (byte_there w s 3 is_letter refl 4 47 is₄ x.right (n % 3) (omega arith))))

    slot_there : (n : ℕ) → slot_read s n ≡ slot_in s n
    unfolding slot_read slot_in
    slot_there n = ap (λ (b : ℕ). eqb b 66 || eqb b (cond (ltb n 6) 76 84)) (letter_there n)

    lift_there : (k : ℕ) → lift_bit (last_told w (drop 51 s)) k ≡ last_drawn w (line_at 5 s) k
    lift_there k =
        sym (ap (λ (r : List ℕ). last_drawn w (first_line r) k) is₅.begins ∙ last_bits w (drop 51 s) (last_line_lem w (drop 51 s) ∙ x.lift) k)

    bit_there : (k : ℕ) → bits_at w (grid (mark_in s)) s (last_told w (drop 51 s)) k ≡ bits_in w s k
    unfolding bits_at bits_in
    bit_there k = split (ltb k 40)
        (λ a. let h = ltb-true k 40 a in rw a (ap (λ (y : ℕ). eqb y (mark w true)) (grid_at (mark_in s) k h) ∙ cell_there k h))
        (λ a. split (ltb k 52) (λ b. rw (a, b) (slot_there (k - 40))) (λ b. rw (a, b) (lift_there k)))

    pub image_there : image (bits_at w (grid (mark_in s)) s (last_told w (drop 51 s))) ≡ image (bits_in w s)
    image_there = image_ext _ _ (λ k h. bit_there k)
