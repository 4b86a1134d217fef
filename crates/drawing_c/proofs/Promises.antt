-- The promises of specs/Promises.antt. Assumes nothing.
use mathlib.Core.Path.{◌≡◌, refl, sym, ap, ◌∙◌}
use mathlib.Core.Logic.{◌↔◌, ◌⊎◌, inl, inr}
use mathlib.Core.Bool.{Bool, true, false}
use mathlib.Core.List.{List}
use Prim.Native.Nat.{ℕ, ◌/◌, ◌%◌, ◌<◌}
use native.Mathlib.Omega.{arith}
use lib.Dec.{ltb}
use lib.ListN.{length}
use borrow.Author.Tests.{ltb-true, ltb-false, le-ltb}
use Rattle.bits.specs.Bits.{bit, image}
use Rattle.bits.proofs.Cases.{split, clash}
use Rattle.std.specs.declared.result.Result.{Result}
use Rattle.std.specs.declared.result.Result.TheVariants.{Ok, Err}
use Rattle.drawing.specs.declared.Unread.{Unread}
use Rattle.drawing.specs.declared.Unread.TheVariants.{BadLine, Unsound}
use Rattle.drawing.specs.Drawing.{drawn, has_drawing, writing_drawing}
use Rattle.drawing.specs.Reading.{first_bad, bits_in, reading}
use Rattle.drawing_c.specs.Entries.{written_number, drawn_into, found_number, found_place, found_said, record_kept, read_into}
use Rattle.drawing_c.specs.Promises.{DrawingEntryUntouched, WrittenReadsBack, FoundReadsBack, DrawingNumbersReturned, FoundExactly, WrittenExactly}

-- ---- what writing and reading say, by cases

-- a number that refuses, with nothing written; or 0
record Wrote (w : Bool) (r : ℕ) (room : List ℕ) (number : ℕ) : Type 0 where
  is : written_number (writing_drawing w r room).says ≡ number
  untouched : (number ≡ 0 → ⊥) → (writing_drawing w r room).leaves ≡ room

wrote : (w : Bool) (r : ℕ) (room : List ℕ) → Wrote w r room 0 ⊎ Wrote w r room 15 ⊎ Wrote w r room 17
unfolding writing_drawing
wrote w r room = split (has_drawing w r)
    (λ s. split (ltb (length room) (length (drawn w (bit r))))
    (λ t. inr (inr (record { is = rw (s, t); untouched = λ n. rw (s, t) })))
    (λ t. inl (record { is = rw (s, t); untouched = λ n. absurd (n refl) })))
    (λ s. inr (inl (record { is = rw s; untouched = λ n. rw s })))

-- 41 with a line, or another number with none
record Says (f : Result ℕ Unread) : Type 0 where
  says : ((found_number f ≡ 41) × (found_place f < 7)) ⊎ (((found_number f ≡ 0) ⊎ (found_number f ≡ 15)) × (found_place f ≡ 255))

found : (w : Bool) (text : List ℕ) → Says (reading w text)
unfolding reading
found w text = split (ltb (first_bad w text) 7)
    (λ t. rw t (record { says = inl (refl, ltb-true (first_bad w text) 7 t) }))
    (λ t. split (has_drawing w (image (bits_in w text)))
    (λ s. rw (t, s) (record { says = inr (inl refl, refl) }))
    (λ s. rw (t, s) (record { says = inr (inr refl, refl) })))

-- each number is a byte
wrote_byte : (w : Bool) (r : ℕ) (room : List ℕ) → written_number (writing_drawing w r room).says < 256
wrote_byte w r room = go (wrote w r room)
  where
    go : Wrote w r room 0 ⊎ Wrote w r room 15 ⊎ Wrote w r room 17 → written_number (writing_drawing w r room).says < 256
    go (inl x) = omega (arith, x.is)
    go (inr (inl x)) = omega (arith, x.is)
    go (inr (inr x)) = omega (arith, x.is)

found_byte : (f : Result ℕ Unread) → Says f → found_number f < 256
found_byte f v = go v.says
  where
    go : ((found_number f ≡ 41) × (found_place f < 7)) ⊎ (((found_number f ≡ 0) ⊎ (found_number f ≡ 15)) × (found_place f ≡ 255)) → found_number f < 256
    go (inl (p, q)) = omega arith
    go (inr (inl p, q)) = omega arith
    go (inr (inr p, q)) = omega arith

-- ---- what is said reads back

pub written_reads_back : WrittenReadsBack
unfolding drawn_into
written_reads_back w r room = let h = wrote_byte w r room in (omega arith, omega arith, omega arith)

pub found_reads_back : FoundReadsBack
unfolding read_into record_kept
found_reads_back w text room l =
    let h = found_byte (reading w text) (found w text) in
    rw (le-ltb (length room) 8 l) (omega arith, omega arith)

-- ---- refused, nothing is written

refused_write : (w : Bool) (r : ℕ) (room : List ℕ) → ((drawn_into w r room).says % 256 ≡ 0 → ⊥) → (drawn_into w r room).leaves ≡ room
unfolding drawn_into
refused_write w r room n = go (wrote w r room)
  where
    zero_said : written_number (writing_drawing w r room).says ≡ 0 → ⊥
    zero_said z = n (omega (arith, z))

    go : Wrote w r room 0 ⊎ Wrote w r room 15 ⊎ Wrote w r room 17 → (writing_drawing w r room).leaves ≡ room
    go (inl x) = absurd (zero_said x.is)
    go (inr (inl x)) = x.untouched (λ z. omega arith)
    go (inr (inr x)) = x.untouched (λ z. omega arith)

refused_kept : (f : Result ℕ Unread) (room : List ℕ) → (found_said f % 256 ≡ 0 → ⊥) → (record_kept f room).leaves ≡ room
unfolding record_kept
refused_kept (Ok r) room n = absurd (n refl)
refused_kept (Err why) room n = refl

refused_read : (w : Bool) (text room : List ℕ) → ((read_into w text room).says % 256 ≡ 0 → ⊥) → (read_into w text room).leaves ≡ room
unfolding read_into record_kept
refused_read w text room n = split (ltb (length room) 8)
    (λ t. rw t)
    (λ t. rw t (refused_kept (reading w text) room (λ z. n (rw t z))))

pub refused_untouched : DrawingEntryUntouched
refused_untouched = (refused_write, refused_read)

-- ---- the numbers and places that are returned

write_numbers : (w : Bool) (r : ℕ) (room : List ℕ) → let n = (drawn_into w r room).says % 256 in (n ≡ 0) ⊎ (n ≡ 15) ⊎ (n ≡ 17)
unfolding drawn_into
write_numbers w r room = go (wrote w r room)
  where
    go : Wrote w r room 0 ⊎ Wrote w r room 15 ⊎ Wrote w r room 17 → let n = (drawn_into w r room).says % 256 in (n ≡ 0) ⊎ (n ≡ 15) ⊎ (n ≡ 17)
    go (inl x) = inl (omega (arith, x.is))
    go (inr (inl x)) = inr (inl (omega (arith, x.is)))
    go (inr (inr x)) = inr (inr (omega (arith, x.is)))

-- a number and its place, as one number
abbrev Returned : ℕ → Type 0
Returned n = ((n % 256 ≡ 41) × (n / 256 < 7)) ⊎ (((n % 256 ≡ 0) ⊎ (n % 256 ≡ 15) ⊎ (n % 256 ≡ 17)) × (n / 256 ≡ 255))

found_numbers : (f : Result ℕ Unread) → Says f → Returned (found_said f)
found_numbers f v = go v.says
  where
    go : ((found_number f ≡ 41) × (found_place f < 7)) ⊎ (((found_number f ≡ 0) ⊎ (found_number f ≡ 15)) × (found_place f ≡ 255)) → Returned (found_said f)
    go (inl (p, q)) = inl (omega arith, omega arith)
    go (inr (inl p, q)) = inr (inl (omega arith), omega arith)
    go (inr (inr p, q)) = inr (inr (inl (omega arith)), omega arith)

read_numbers : (w : Bool) (text room : List ℕ) → Returned (read_into w text room).says
unfolding read_into record_kept
read_numbers w text room = split (ltb (length room) 8)
    (λ t. rw t (inr (inr (inr refl), refl)))
    (λ t. rw t (found_numbers (reading w text) (found w text)))

pub numbers_returned : DrawingNumbersReturned
numbers_returned = (write_numbers, read_numbers)

-- ---- each number says one thing

found_says : (f : Result ℕ Unread)
    → ((p : ℕ) → ((found_number f ≡ 41) × (found_place f ≡ p)) ↔ (f ≡ Err (BadLine p))) × ((found_number f ≡ 15) ↔ (f ≡ Err Unsound))
found_says (Ok r) = (
  λ p. (λ h. absurd (let z : 0 ≡ 41 = h.0 in omega arith), λ e. absurd (let z : 0 ≡ 41 = ap found_number e in omega arith)),
  (λ h. absurd (let z : 0 ≡ 15 = h in omega arith), λ e. absurd (let z : 0 ≡ 15 = ap found_number e in omega arith)),
)
found_says (Err (BadLine q)) = (
  λ p. (λ h. ap (λ (k : ℕ). Err (BadLine k)) h.1, λ e. (refl, ap found_place e)),
  (λ h. absurd (let z : 41 ≡ 15 = h in omega arith), λ e. absurd (let z : 41 ≡ 15 = ap found_number e in omega arith)),
)
found_says (Err Unsound) = (
  λ p. (λ h. absurd (let z : 15 ≡ 41 = h.0 in omega arith), λ e. absurd (let z : 15 ≡ 41 = ap found_number e in omega arith)),
  (λ h. refl, λ e. refl),
)

pub found_exactly : FoundExactly
found_exactly w text room l =
    let (number, place) = found_reads_back w text room l in
    let (line, unsound) = found_says (reading w text) in (
      λ p. (λ h. (line p).0 (sym number ∙ h.0, sym place ∙ h.1), λ e. let (a, b) = (line p).1 e in (number ∙ a, place ∙ b)),
      (λ h. unsound.0 (sym number ∙ h), λ e. number ∙ unsound.1 e),
    )

written_says : (w : Bool) (r : ℕ) (room : List ℕ)
    → let d = (writing_drawing w r room).says in
    ((written_number d ≡ 15) ↔ (has_drawing w r ≡ false))
    × ((written_number d ≡ 17) ↔ ((has_drawing w r ≡ true) × (length room < length (drawn w (bit r)))))
unfolding writing_drawing
written_says w r room = split (has_drawing w r)
    (λ s. split (ltb (length room) (length (drawn w (bit r))))
    (λ t. rw (s, t) (
      (λ h. absurd (let z : 17 ≡ 15 = h in omega arith), λ e. absurd (clash refl e)),
      (λ h. (refl, ltb-true _ _ t), λ e. refl),
    ))
    (λ t. rw (s, t) (
      (λ h. absurd (let z : 0 ≡ 15 = h in omega arith), λ e. absurd (clash refl e)),
      (λ h. absurd (let z : 0 ≡ 17 = h in omega arith), λ e. absurd (omega (arith, ltb-false _ _ t, e.1))),
    )))
    (λ s. rw s (
      (λ h. refl, λ e. refl),
      (λ h. absurd (let z : 15 ≡ 17 = h in omega arith), λ e. absurd (clash e.0 refl)),
    ))

pub written_exactly : WrittenExactly
written_exactly w r room =
    let number = (written_reads_back w r room).0 in
    let (none, short) = written_says w r room in
    ((λ h. none.0 (sym number ∙ h), λ e. number ∙ none.1 e), (λ h. short.0 (sym number ∙ h), λ e. number ∙ short.1 e))
