-- What a text tells of the lift, test by test as the code makes them. Assumes nothing.
use mathlib.Core.Path.{◌≡◌, refl, sym, ap, ap₂, ◌∙◌}
use mathlib.Core.Bool.{Bool, true, false, cond, ◌||◌}
use mathlib.Core.List.{List}
use Prim.Native.Nat.{ℕ, ◌+◌}
use lib.ListN.{length, drop}
use lib.Seq.{drop-drop}
use borrow.Author.Tests.{lt-ltb, le-ltb}
use Rattle.std.specs.declared.option.Option.TheVariants.{Some, None}
use Rattle.drawing.specs.declared.Lift.{Lift}
use Rattle.drawing.specs.Drawing.{ended_line, height_name, car_word, drive_word, apart_words}
use Rattle.drawing.specs.Reading.{begins, text_after, height_told, car_told}
use Rattle.drawing.specs.Private.{if_under, lift_line_told, drive_begun, lift_told, apart_lift, apart_told}
use Rattle.drawing.proofs.Told.{below_is, below_lt, none_below}
use Rattle.drawing.proofs.Words.{lift_alike}

-- the number of the first of three tests that passes, 3 where none does
abbrev pub of_three_lem : Bool → Bool → Bool → ℕ
of_three_lem t u v = cond t 0 (cond u 1 (cond v 2 3))

module _ (t u v : Bool) {a : Bool} (p : a ≡ t) where
  first : a ≡ true → Some 0 ≡ if_under 3 (of_three_lem t u v)
  first e = rw (sym p ∙ e)

  module _ (x : a ≡ false) {b : Bool} (q : b ≡ u) where
    second : b ≡ true → Some 1 ≡ if_under 3 (of_three_lem t u v)
    second e = rw (sym p ∙ x, sym q ∙ e)

    module _ (y : b ≡ false) {d : Bool} (r : d ≡ v) where
      third : d ≡ true → Some 2 ≡ if_under 3 (of_three_lem t u v)
      third e = rw (sym p ∙ x, sym q ∙ y, sym r ∙ e)

      none : d ≡ false → None ≡ if_under 3 (of_three_lem t u v)
      none e = rw (sym p ∙ x, sym q ∙ y, sym r ∙ e)

-- the height
module _ (s : List ℕ) {a : Bool} (p : a ≡ begins (height_name 0) s) where
  pub is_street : a ≡ true → Some 0 ≡ if_under 3 (height_told s)
  unfolding height_told
  is_street = first _ (begins (height_name 1) s) (begins (height_name 2) s) p

  module _ (x : a ≡ false) {b : Bool} (q : b ≡ begins (height_name 1) s) where
    pub is_rotation : b ≡ true → Some 1 ≡ if_under 3 (height_told s)
    unfolding height_told
    is_rotation = second _ _ (begins (height_name 2) s) p x q

    module _ (y : b ≡ false) {d : Bool} (r : d ≡ begins (height_name 2) s) where
      pub is_basement : d ≡ true → Some 2 ≡ if_under 3 (height_told s)
      unfolding height_told
      is_basement = third _ _ _ p x q y r

      pub is_no_height : d ≡ false → None ≡ if_under 3 (height_told s)
      unfolding height_told
      is_no_height = none _ _ _ p x q y r

-- the drive
module _ (s : List ℕ) {a : Bool} (p : a ≡ begins (ended_line (drive_word 0)) s) where
  pub is_ended : a ≡ true → Some 0 ≡ if_under 3 (drive_begun s)
  unfolding drive_begun
  is_ended = first _ (begins (ended_line (drive_word 1)) s) (begins (ended_line (drive_word 2)) s) p

  module _ (x : a ≡ false) {b : Bool} (q : b ≡ begins (ended_line (drive_word 1)) s) where
    pub is_in : b ≡ true → Some 1 ≡ if_under 3 (drive_begun s)
    unfolding drive_begun
    is_in = second _ _ (begins (ended_line (drive_word 2)) s) p x q

    module _ (y : b ≡ false) {d : Bool} (r : d ≡ begins (ended_line (drive_word 2)) s) where
      pub is_out : d ≡ true → Some 2 ≡ if_under 3 (drive_begun s)
      unfolding drive_begun
      is_out = third _ _ _ p x q y r

      pub is_no_drive : d ≡ false → None ≡ if_under 3 (drive_begun s)
      unfolding drive_begun
      is_no_drive = none _ _ _ p x q y r

-- whether the lift is set apart
module _ (s : List ℕ) {a b : Bool} (p : a ≡ begins (apart_words true) s) (q : b ≡ begins (apart_words false) s) where
  either : a || b ≡ begins (apart_words true) s || begins (apart_words false) s
  either = ap₂ (λ (x y : Bool). x || y) p q

  pub apart_is : {l : Lift} → a || b ≡ true → l ≡ apart_lift a → Some l ≡ lift_line_told (apart_told s)
  unfolding apart_told
  apart_is e x = ap Some x ∙ rw (sym either ∙ e) (ap Some (lift_alike refl p refl))

  pub apart_none : a || b ≡ false → None ≡ lift_line_told (apart_told s)
  unfolding apart_told
  apart_none e = rw (sym either ∙ e)

-- the text from the place after a word on
pub after_word : (s : List ℕ) (at n : ℕ) (word : List ℕ) → n ≡ length word → drop (at + n) s ≡ text_after word (drop at s)
after_word s at n word e = ap (λ (m : ℕ). drop (at + m) s) e ∙ sym (drop-drop (length word) at s)

-- all of it, from the parts that the code finds one after the other; or none, where a part is missing
module _ (s : List ℕ) (at : ℕ) where
  pub no_height : None ≡ if_under 3 (height_told (drop at s)) → None ≡ lift_line_told (lift_told (drop at s))
  unfolding lift_told
  no_height e = rw (le-ltb (height_told (drop at s)) 3 (none_below 3 (height_told (drop at s)) e))

  module _ {h n m : ℕ} {car : Bool} (p : Some h ≡ if_under 3 (height_told (drop at s))) (q : n ≡ length (height_name h))
      (r : car ≡ begins (car_word true) (drop (at + n) s)) (t : m ≡ length (car_word car)) where
    abbrev l : List ℕ
    l = drop at s

    abbrev begun : ℕ
    begun = drive_begun (text_after (car_word (car_told l)) (text_after (height_name (height_told l)) l))

    height : h ≡ height_told l
    height = below_is 3 (height_told l) p

    name : n ≡ length (height_name (height_told l))
    name = q ∙ ap (λ (x : ℕ). length (height_name x)) height

    is_car : car ≡ car_told l
    unfolding car_told
    is_car = r ∙ ap (begins (car_word true)) (after_word s at n (height_name (height_told l)) name)

    drive : drive_begun (drop (at + n + m) s) ≡ begun
    drive =
        let told : m ≡ length (car_word (car_told l)) = t ∙ ap (λ (b : Bool). length (car_word b)) is_car in
        ap drive_begun (after_word s (at + n) m (car_word (car_told l)) told ∙ ap (text_after (car_word (car_told l))) (after_word s at n (height_name (height_told l)) name))

    pub no_drive : None ≡ if_under 3 (drive_begun (drop (at + n + m) s)) → None ≡ lift_line_told (lift_told l)
    unfolding lift_told
    no_drive e =
        rw (lt-ltb (height_told l) 3 (below_lt 3 (height_told l) p), le-ltb begun 3 (none_below 3 begun (e ∙ ap (if_under 3) drive)))

    pub all_told : {d : ℕ} → Some d ≡ if_under 3 (drive_begun (drop (at + n + m) s))
        → Some (record { height = h; car = car; drive = d }) ≡ lift_line_told (lift_told l)
    unfolding lift_told
    all_told {d} e =
        let u : Some d ≡ if_under 3 begun = e ∙ ap (if_under 3) drive in
        rw (lt-ltb (height_told l) 3 (below_lt 3 (height_told l) p), lt-ltb begun 3 (below_lt 3 begun u))
        (ap Some (lift_alike height is_car (below_is 3 begun u)))
