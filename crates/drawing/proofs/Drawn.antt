-- The drawing's bytes one by one are its lines one after the other; what writing says and leaves; what reading says. Assumes nothing.
use mathlib.Core.Path.{◌≡◌, refl, sym, ap, ap₂, ◌∙◌}
use mathlib.Core.Bool.{Bool, true, false, not}
use mathlib.Core.List.{List, [], ◌∷◌, ◌++◌, append_assoc, append-nil}
use Prim.Native.Nat.{ℕ, zero, suc, ◌+◌, ◌≤◌, ◌<◌}
use native.Mathlib.Omega.{arith}
use native.Mathlib.Nat.{add-suc, add-zero}
use lib.ListN.{length, get_or, drop}
use lib.Dec.{ltb}
use borrow.Author.Tests.{ltb-false, lt-ltb, le-ltb}
use Rattle.bits.specs.Bits.{Bits, bit, image}
use Rattle.bits.proofs.Cases.{split, passed, failed}
use Rattle.floor.specs.Floor.{left, right}
use Rattle.std.specs.declared.result.Result.TheVariants.{Ok, Err}
use Rattle.drawing.specs.declared.Unwritten.TheVariants.{HasNone, NoRoom}
use Rattle.drawing.specs.declared.Unread.{Unread}
use Rattle.drawing.specs.declared.Unread.TheVariants.{Unsound}
use Rattle.drawing.specs.declared.Lift.{Lift}
use Rattle.drawing.specs.Drawing.{floor_line, shuttle_line, lift_line, last_line, drawn, LeavesDrawing, has_drawing, writing_drawing}
use Rattle.drawing.specs.Reading.{first_bad, bits_in, reading}
use Rattle.drawing.specs.Private.{table, cell_at, grid, cell_mark, mark_in, upper_at, lift_of, last_shown, words_of, drawn_at, last_told, bad_at, lines_told, bits_at}
use Rattle.drawing.proofs.Told.{ok_err, same_ok, same_err}
use Rattle.drawing.proofs.Tables.{length_table, table_same, list_table}
use Rattle.drawing.proofs.Cells.{upper_at_lem, lift_at}
use Rattle.drawing.proofs.Finding.{sought, image_there}

-- ---- the bytes of a drawing

-- a table in two parts
table_parts : {A : Type 0} (f : ℕ → A) (m n : ℕ) → table (m + n) f ≡ table m f ++ table n (λ i. f (m + i))
unfolding table
table_parts f m zero = rw add-zero (sym (append-nil (table m f)))
table_parts {A} f m (suc n) =
    rw add-suc
    (ap (λ (l : List A). l ++ (f (m + n) ∷ [])) (table_parts f m n) ∙ append_assoc (table m f) (table n (λ i. f (m + i))) (f (m + n) ∷ []))

-- the first five lines
abbrev upper : Bool → Bits → List ℕ
upper w f = floor_line w 1 f ++ (floor_line w 2 f ++ (floor_line w 3 f ++ (shuttle_line left f ++ shuttle_line right f)))

upper_is : (w : Bool) (f : Bits) → table 51 (upper_at (grid (cell_mark w f)) f) ≡ upper w f
unfolding table grid cell_at cell_mark upper_at floor_line shuttle_line
upper_is w f = refl

drawn_parts : (w : Bool) (f : Bits) → drawn w f ≡ upper w f ++ last_line w f
unfolding drawn floor_line shuttle_line
drawn_parts w f = ap (λ (l : List ℕ). upper w f ++ l) (append-nil (last_line w f))

last_is : (w : Bool) (f : Bits) → words_of w (last_shown w f) ≡ last_line w f
unfolding words_of last_shown last_line lift_of lift_line
last_is true f = refl
last_is false f = refl

pub drawn_is : (w : Bool) (f : Bits) → table (51 + length (words_of w (last_shown w f))) (drawn_at w (grid (cell_mark w f)) f (last_shown w f)) ≡ drawn w f
drawn_is w f =
    let g = grid (cell_mark w f) in
    let l = last_shown w f in
    let n = length (words_of w l) in
    table_parts (drawn_at w g f l) 51 n
    ∙ ap₂ (λ (x y : List ℕ). x ++ y)
    (table_same (drawn_at w g f l) (upper_at g f) 51 (λ t h. sym (upper_at_lem w g f l t h)) ∙ upper_is w f)
    (table_same (λ i. drawn_at w g f l (51 + i)) (λ i. get_or (words_of w l) i 0) n
    (λ i h. sym (lift_at w g f l (51 + i) (omega arith)) ∙ ap (λ (j : ℕ). get_or (words_of w l) j 0) (omega arith))
    ∙ list_table (words_of w l) ∙ last_is w f)
    ∙ sym (drawn_parts w f)

pub drawn_length : (w : Bool) (f : Bits) → length (drawn w f) ≡ 51 + length (words_of w (last_shown w f))
drawn_length w f = ap length (sym (drawn_is w f)) ∙ length_table (drawn_at w (grid (cell_mark w f)) f (last_shown w f)) (51 + length (words_of w (last_shown w f)))

-- ---- what writing says and leaves

module _ (w : Bool) (r : ℕ) (room : List ℕ) {b : Bool} (p : b ≡ has_drawing w r) where
  pub not_sound : not b ≡ true → LeavesDrawing (writing_drawing w r room) (Err HasNone) room
  unfolding writing_drawing
  not_sound e = rw (failed p e) (refl, refl)

  module _ (e : not b ≡ false) {lift : Lift} (q : lift ≡ last_shown w (bit r)) {n : ℕ} (m : n ≡ length (words_of w lift)) where
    size_is : 51 + n ≡ length (drawn w (bit r))
    size_is = ap (λ (x : ℕ). 51 + x) (m ∙ ap (λ (l : Lift). length (words_of w l)) q) ∙ sym (drawn_length w (bit r))

    pub no_room_lem : length room < 51 + n → LeavesDrawing (writing_drawing w r room) (Err NoRoom) room
    unfolding writing_drawing
    no_room_lem l = rw (passed p e, lt-ltb (length room) (length (drawn w (bit r))) (omega (arith, size_is))) (refl, refl)

    pub written : {t : List ℕ} → 51 + n ≤ length room → t ≡ table (51 + n) (drawn_at w (grid (cell_mark w (bit r))) (bit r) lift) ++ drop (51 + n) room
        → LeavesDrawing (writing_drawing w r room) (Ok (51 + n)) t
    unfolding writing_drawing
    written {t} l x =
        rw (passed p e, le-ltb (length room) (length (drawn w (bit r))) (omega (arith, size_is)))
        (ap Ok size_is, x ∙ ap₂ (λ (y z : List ℕ). y ++ z) bytes (ap (λ (k : ℕ). drop k room) size_is))
      where
        bytes : table (51 + n) (drawn_at w (grid (cell_mark w (bit r))) (bit r) lift) ≡ drawn w (bit r)
        bytes =
            ap₂ (λ (k : ℕ) (l : Lift). table k (drawn_at w (grid (cell_mark w (bit r))) (bit r) l)) (ap (λ (x : ℕ). 51 + x) (m ∙ ap (λ (l : Lift). length (words_of w l)) q)) q
            ∙ drawn_is w (bit r)

-- ---- what reading w says

module _ (w : Bool) (s : List ℕ) where
  abbrev told : Lift
  told = last_told w (drop 51 s)

  abbrev lines : ℕ
  lines = bad_at w s told

  pub no_drawing : {u : Unread} → Err u ≡ lines_told told lines → Err u ≡ reading w s
  unfolding reading
  no_drawing {u} e = split (ltb (first_bad w s) 7)
      (λ t. ap Err (same_err (rw ((sought w s).same, t) at e)) ∙ rw t)
      (λ t. ok_err (sym (rw ((sought w s).same, t) at e)))

  module _ {lift : Lift} (e : Ok lift ≡ lines_told told lines) {g : List (List ℕ)} (d : g ≡ grid (mark_in s)) {r : ℕ} (x : r ≡ image (bits_at w g s lift))
      {b : Bool} (p : b ≡ has_drawing w r) where
    none_bad : ltb (first_bad w s) 7 ≡ false
    none_bad = split (ltb (first_bad w s) 7) (λ t. ok_err (rw ((sought w s).same, t) at e)) (λ t. t)

    lift_is : lift ≡ told
    lift_is = same_ok (rw ((sought w s).same, none_bad) at e)

    image_is : r ≡ image (bits_in w s)
    image_is =
        x ∙ ap₂ (λ (y : List (List ℕ)) (z : Lift). image (bits_at w y s z)) d lift_is
        ∙ image_there w s ((sought w s).whole (omega (arith, ltb-false (first_bad w s) 7 none_bad, (sought w s).same)))

    sound_is : b ≡ has_drawing w (image (bits_in w s))
    sound_is = p ∙ ap (has_drawing w) image_is

    pub is_read : b ≡ true → Ok r ≡ reading w s
    unfolding reading
    is_read y = ap Ok image_is ∙ rw (none_bad, sym sound_is ∙ y)

    pub read_unsound : b ≡ false → Err Unsound ≡ reading w s
    unfolding reading
    read_unsound y = rw (none_bad, sym sound_is ∙ y)
