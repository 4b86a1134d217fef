-- The words of the lift's line: how long they are, and their bytes. Assumes nothing.
use mathlib.Core.Path.{◌≡◌, refl, sym, ap, ◌∙◌}
use mathlib.Core.Bool.{Bool, true, false}
use mathlib.Core.List.{List, [], ◌∷◌, ◌++◌, append_assoc}
use Prim.Native.Nat.{ℕ, ◌+◌, ◌-◌, ◌≤◌, ◌<◌}
use native.Mathlib.Omega.{arith}
use lib.Dec.{eqb}
use lib.ListN.{length, get_or, length-append, get_or-append}
use lib.Seq.{get_or-append-add}
use borrow.Author.Tests.{ne_eqb}
use Rattle.bits.proofs.Cases.{split}
use Rattle.codec.specs.Text.{ascii}
use Rattle.drawing.specs.declared.Lift.{Lift}
use Rattle.drawing.specs.Drawing.{ended_line, height_name, car_word, drive_word, lift_words, apart_words}
use Rattle.drawing.specs.Private.{words_of}

-- ---- lengths

pub street_size : length (height_name 0) ≡ 6
unfolding ascii
street_size = refl

pub other_size : (h : ℕ) → (h ≡ 0 → ⊥) → length (height_name h) ≡ 8
unfolding ascii
other_size h n = rw (ne_eqb h 0 n) (split (eqb h 1) (λ e. rw e refl) (λ e. rw e refl))

pub name_short : (h : ℕ) → length (height_name h) ≤ 8
unfolding ascii
name_short h = split (eqb h 0) (λ e. rw e (omega arith)) (λ e. rw e (split (eqb h 1) (λ d. rw d (omega arith)) (λ d. rw d (omega arith))))

pub car_short : (car : Bool) → length (car_word car) ≤ 4
unfolding ascii
car_short true = omega arith
car_short false = omega arith

pub end_short : (d : ℕ) → length (ended_line (drive_word d)) ≤ 5
unfolding ascii
end_short d = split (eqb d 1) (λ e. rw e (omega arith)) (λ e. rw e (split (eqb d 2) (λ f. rw f (omega arith)) (λ f. rw f (omega arith))))

module _ (h : ℕ) (car : Bool) (d : ℕ) where
  -- the line's parts
  pub words_parts : lift_words h car d ≡ height_name h ++ (car_word car ++ ended_line (drive_word d))
  words_parts = append_assoc (height_name h) (car_word car ++ drive_word d) (10 ∷ []) ∙ ap (λ (l : List ℕ). height_name h ++ l) (append_assoc (car_word car) (drive_word d) (10 ∷ []))

  pub words_size : length (lift_words h car d) ≡ length (height_name h) + length (car_word car) + length (ended_line (drive_word d))
  words_size =
      ap length words_parts ∙ length-append (height_name h) (car_word car ++ ended_line (drive_word d))
      ∙ omega (arith, length-append (car_word car) (ended_line (drive_word d)))

  pub words_short : length (lift_words h car d) ≤ 17
  words_short = omega (arith, words_size, name_short h, car_short car, end_short d)

  module _ (n : ℕ) (e : n ≡ length (height_name h)) (i : ℕ) where
    pub in_name : i < n → get_or (height_name h) i 0 ≡ get_or (lift_words h car d) i 0
    in_name l = sym (ap (λ (s : List ℕ). get_or s i 0) words_parts ∙ get_or-append (height_name h) (car_word car ++ ended_line (drive_word d)) 0 i (omega arith))

    past_name : n ≤ i → get_or (car_word car ++ ended_line (drive_word d)) (i - n) 0 ≡ get_or (lift_words h car d) i 0
    past_name l =
        let k : i ≡ length (height_name h) + (i - n) = omega arith in
        sym (ap (λ (s : List ℕ). get_or s i 0) words_parts ∙ ap (λ (j : ℕ). get_or (height_name h ++ (car_word car ++ ended_line (drive_word d))) j 0) k
        ∙ get_or-append-add (height_name h) (car_word car ++ ended_line (drive_word d)) (i - n) 0)

    module _ (m : ℕ) (q : m ≡ length (car_word car)) where
      pub in_car : n ≤ i → i < n + m → get_or (ascii " car") (i - n) 0 ≡ get_or (lift_words h car d) i 0
      in_car l k = go car q refl ∙ sym (get_or-append (car_word car) (ended_line (drive_word d)) 0 (i - n) (omega arith)) ∙ past_name l
        where
          go : (b : Bool) → m ≡ length (car_word b) → car ≡ b → get_or (ascii " car") (i - n) 0 ≡ get_or (car_word car) (i - n) 0
          go true r s = rw s refl
          go false r s = absurd (omega arith)

      pub in_end : n + m ≤ i → get_or (ended_line (drive_word d)) (i - (n + m)) 0 ≡ get_or (lift_words h car d) i 0
      in_end l =
          let k : i - n ≡ length (car_word car) + (i - (n + m)) = omega arith in
          sym (ap (λ (j : ℕ). get_or (car_word car ++ ended_line (drive_word d)) j 0) k ∙ get_or-append-add (car_word car) (ended_line (drive_word d)) (i - (n + m)) 0)
          ∙ past_name (omega arith)

-- the words of the last line are short too
pub apart_short : (b : Bool) → length (apart_words b) ≤ 5
unfolding ascii
apart_short true = omega arith
apart_short false = omega arith

pub last_short : (w : Bool) (lift : Lift) → length (words_of w lift) ≤ 17
unfolding words_of
last_short true lift = omega (arith, apart_short lift.car)
last_short false lift = words_short lift.height lift.car lift.drive

-- what is told of the lift, part by part
pub lift_alike : {h k : ℕ} {a b : Bool} {d e : ℕ} → h ≡ k → a ≡ b → d ≡ e
    → ◌≡◌ {A = Lift} (record { height = h; car = a; drive = d }) (record { height = k; car = b; drive = e })
lift_alike {h} {k} {a} {b} {d} {e} p q r =
    ap (λ (x : ℕ). record { height = x; car = a; drive = d }) p ∙ ap (λ (x : Bool). record { height = k; car = x; drive = d }) q
    ∙ ap (λ (x : ℕ). record { height = k; car = b; drive = x }) r
