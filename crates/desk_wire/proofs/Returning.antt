-- What was written reads back as what was meant: by its shape, and the station's messages by the station's own law. Assumes nothing.
use mathlib.Core.Path.{◌≡◌, refl, sym, ◌∙◌, ap}
use mathlib.Core.Bool.{Bool, true, false, cond}
use mathlib.Core.List.{List, [], ◌∷◌, ◌++◌}
use Prim.Native.Nat.{ℕ, ◌+◌, ◌≤◌, ◌<◌, ◌^◌}
use native.Mathlib.Omega.{arith}
use borrow.Author.Tests.{eq-eqb, eqb-true, ltb-false}
use lib.Dec.{ltb, eqb}
use lib.ListN.{length, take, drop}
use Rattle.bits.proofs.Cases.{split, clash}
use Rattle.codec.proofs.Numbers.{number_back, two_back}
use Rattle.answers.specs.declared.Answer.{Answer}
use Rattle.answers.specs.declared.Answer.TheVariants.{Taken, UnknownKind, BadField, TooMany, NoRoom}
use Rattle.answers.specs.Answers.{number_of, nowhere}
use Rattle.std.specs.declared.result.Result.TheVariants.{Ok}
use Rattle.wire.specs.declared.What.{What}
use Rattle.wire.specs.declared.What.TheVariants.{Request, Event, Result, Image, Ask, Answer as AnswerOf, Held}
use Rattle.wire.specs.declared.Message.{Message}
use Rattle.wire.specs.Kinds.{SizedKind, kinds_known, kind_of}
use Rattle.wire.specs.Reads.{length_at, kind_at, read_whole}
use Rattle.wire.specs.Writes.{Writing, nothing_written, writing_message, one_form}
use Rattle.wire.proofs.Results.{number_said, size_said}
use Rattle.wire_laws.specs.Statements.{MessageTyped}
use Rattle.wire_laws.proofs.Messages.{read_whole_lem}
use Rattle.wire_laws.proofs.Back.{wrote, reads_back}
use Rattle.desk_wire.specs.Shapes.{InWidths, TailInWidths, Shape, shaped_body}
use Rattle.desk_wire.specs.DeskReads.{of_station, shaped, desk_message_taken, as_received, read_shape, read_shaped, read_shaped_in, read_up_to}
use Rattle.desk_wire.specs.DeskWrites.{shaped_bytes, writing_shape, writing_shaped, is_shaped, writing_with, desk_one_form}
use Rattle.desk_wire.specs.DeskForms.{ReadsBackBy, TypedAs, TypedBy, KindsFit}
use Rattle.desk_wire.proofs.Laying.{body_back}
use Rattle.desk_wire.proofs.Framing.{FramedUpTo, framed_up, cut_up, read_up}

-- ---- what a call that wrote says

abbrev writing_number : Writing → ℕ
writing_number w = number_said w.says

no : {G : Type 0} (a : Answer) (room : List ℕ) → 0 < number_of a → writing_number (nothing_written a room) ≡ 0 → G
no a room h e = absurd (omega arith)

branch : {G : Type 0} (t : Bool) (x y : Writing) → writing_number (cond t x y) ≡ 0
    → (t ≡ true → writing_number x ≡ 0 → G) → (t ≡ false → writing_number y ≡ 0 → G) → G
branch true x y e f g = f refl e
branch false x y e f g = g refl e

-- a message of a shape was written: all of it stands at the start of the room
record Wrote-shape (most : ℕ) (k : Shape) (ns : List ℕ) (xs : List (List ℕ)) (room : List ℕ) : Type 0 where
  ranged : k.ranged ns xs ≡ true
  short : 2 + length (shaped_body k ns xs) ≤ most
  all : writing_shape most k ns xs room
      ≡ record { says = Ok (length (shaped_bytes k ns xs)); leaves = shaped_bytes k ns xs ++ drop (length (shaped_bytes k ns xs)) room }

wrote_shape : (most : ℕ) (k : Shape) (ns : List ℕ) (xs : List (List ℕ)) (room : List ℕ)
    → writing_number (writing_shape most k ns xs room) ≡ 0 → Wrote-shape most k ns xs room
unfolding writing_shape
wrote_shape most k ns xs room e =
    branch (k.ranged ns xs) _ _ e
    (λ r e. branch (ltb most (2 + length (shaped_body k ns xs))) (nothing_written TooMany room) _ e (λ _ z. no TooMany room (omega arith) z)
    (λ s e. branch (ltb (length room) (length (shaped_bytes k ns xs))) (nothing_written NoRoom room) _ e (λ _ z. no NoRoom room (omega arith) z)
    (λ t e. record { ranged = r; short = ltb-false most _ s; all = rw (r, s, t) })))
    (λ _ z. no (BadField nowhere) room (omega arith) z)

-- ---- by its shape

module _ (most : ℕ) (small : most < 2 ^ 16) where
  -- its bytes tell its length and its kind
  record Headed (k : Shape) (ns : List ℕ) (xs : List (List ℕ)) : Type 0 where
    long : length_at (shaped_bytes k ns xs) + 2 ≡ length (shaped_bytes k ns xs)
    kind : kind_at (shaped_bytes k ns xs) ≡ k.number

  headed : (k : Shape) (ns : List ℕ) (xs : List (List ℕ)) → k.number < 2 ^ 16 → 2 + length (shaped_body k ns xs) ≤ most → Headed k ns xs
  headed k ns xs fits h =
      let e = two_back 2 2 (2 + length (shaped_body k ns xs)) k.number (shaped_body k ns xs) (omega arith) (omega arith) in
      let l = e.0 in
      record { long = ap (λ (n : ℕ). n + 2) l ∙ omega arith; kind = e.1 }

  shape_back : (k : Shape) (ns : List ℕ) (xs : List (List ℕ)) → InWidths k.fields ns → TailInWidths k.each xs → k.ranged ns xs ≡ true
      → read_shape k (shaped_bytes k ns xs) ≡ desk_message_taken (shaped k.number ns xs) (length (shaped_bytes k ns xs))
  unfolding read_shape
  shape_back k ns xs f g r =
      let b = body_back k ns xs f g in
      simp (eq-eqb _ _ b.size) (rw (b.fields, b.entries, r))

  -- a message of a kind was written, by the shape that reads it
  record Sent (shapes : List Shape) (ks : List SizedKind) (kind : ℕ) (ns : List ℕ) (xs : List (List ℕ)) (room : List ℕ) : Type 0 where
    by : Shape
    wrote : Wrote-shape most by ns xs room
    told : Headed by ns xs
    same : by.number ≡ kind
    written : writing_shaped most shapes kind ns xs room ≡ writing_shape most by ns xs room
    back : read_shaped ks shapes (shaped_bytes by ns xs) ≡ desk_message_taken (shaped kind ns xs) (length (shaped_bytes by ns xs))

  sent_first : (k : Shape) (shapes : List Shape) (ks : List SizedKind) (kind : ℕ) (ns : List ℕ) (xs : List (List ℕ)) (room : List ℕ)
      → k.number < 2 ^ 16 → InWidths k.fields ns × TailInWidths k.each xs → kind ≡ k.number → Wrote-shape most k ns xs room → Sent (k ∷ shapes) ks kind ns xs room
  sent_first k shapes ks kind ns xs room fits f same w =
      let h = headed k ns xs fits w.short in
      record {
        by = k;
        wrote = w;
        told = h;
        same = sym same;
        written = simp (eq-eqb kind k.number same);
        back =
            simp (eq-eqb (kind_at (shaped_bytes k ns xs)) k.number h.kind)
            (shape_back k ns xs f.0 f.1 w.ranged ∙ ap (λ (n : ℕ). desk_message_taken (shaped n ns xs) (length (shaped_bytes k ns xs))) (sym same));
      }

  sent_later : (k : Shape) (shapes : List Shape) (ks : List SizedKind) (kind : ℕ) (ns : List ℕ) (xs : List (List ℕ)) (room : List ℕ)
      → eqb kind k.number ≡ false → Sent shapes ks kind ns xs room → Sent (k ∷ shapes) ks kind ns xs room
  sent_later k shapes ks kind ns xs room t q =
      let other : eqb (kind_at (shaped_bytes q.by ns xs)) k.number ≡ false = ap (λ (n : ℕ). eqb n k.number) (q.told.kind ∙ q.same) ∙ t in
      record { by = q.by; wrote = q.wrote; told = q.told; same = q.same; written = rw t q.written; back = rw other q.back }

  shaped_back : (shapes : List Shape) (ks : List SizedKind) (kind : ℕ) (ns : List ℕ) (xs : List (List ℕ)) (room : List ℕ)
      → KindsFit shapes → TypedAs shapes kind ns xs → writing_number (writing_shaped most shapes kind ns xs room) ≡ 0 → Sent shapes ks kind ns xs room
  shaped_back [] ks kind ns xs room fits typed e = no UnknownKind room (omega arith) e
  shaped_back (k ∷ shapes) ks kind ns xs room fits typed e = split (eqb kind k.number)
      (λ t.
      let same = eqb-true kind k.number t in
      sent_first k shapes ks kind ns xs room fits.0 (typed.0 same) same (wrote_shape most k ns xs room (rw t at e)))
      (λ t.
      sent_later k shapes ks kind ns xs room t
      (shaped_back shapes ks kind ns xs room fits.1 (typed.1 (λ q. clash (eq-eqb kind k.number q) t)) (rw t at e)))

-- ---- the station's

kind_fits : (w : What) → kind_of w < 256 ^ 2
kind_fits Request = omega arith
kind_fits (Event way) = omega arith
kind_fits (Result issue number ending) = omega arith
kind_fits (Image bits apart) = omega arith
kind_fits Ask = omega arith
kind_fits (AnswerOf number place issue) = omega arith
kind_fits (Held bits apart) = omega arith

-- a kind that no shape has is the station's
pub not_shaped : (shapes : List Shape) (ks : List SizedKind) (m : List ℕ) → is_shaped shapes (kind_at m) ≡ false → read_shaped ks shapes m ≡ as_received (read_whole ks m)
not_shaped [] ks m e = refl
not_shaped (k ∷ shapes) ks m e = split (eqb (kind_at m) k.number)
    (λ t. clash refl (rw t at e))
    (λ t. rw t (not_shaped shapes ks m (rw t at e)))

station_back : (most : ℕ) (shapes : List Shape) (m : Message) (room : List ℕ) (n : ℕ) → 43 ≤ most → MessageTyped m
    → is_shaped shapes (kind_of m.what) ≡ false → (writing_message m room).says ≡ Ok n
    → read_up_to most kinds_known shapes (writing_message m room).leaves ≡ desk_message_taken (of_station (one_form m)) n
station_back most shapes m room n long typed other e =
    let s = (writing_message m room).leaves in
    let w = wrote m room n e in
    let (k, f, r) = read_whole_lem s (one_form m) n (reads_back m room n typed e) in
    let high = f.high in
    let g : FramedUpTo most s k = record { long = f.long; low = f.low; high = omega arith; within = f.within } in
    let kind : kind_at s ≡ kind_of m.what = ap kind_at (ap (λ (x : Writing). x.leaves) w.all) ∙ number_back 2 (kind_of m.what) [] (kind_fits m.what) in
    let same : kind_at (take k s) ≡ kind_of m.what = (cut_up most s k g).kind ∙ kind in
    ap (λ x. read_shaped_in kinds_known shapes x s) (framed_up most s k g)
    ∙ not_shaped shapes kinds_known (take k s) (ap (is_shaped shapes) same ∙ other)
    ∙ ap as_received r

-- ---- every message

pub any_reads_back : (most : ℕ) (shapes : List Shape) → 43 ≤ most → most < 2 ^ 16 → KindsFit shapes
    → ReadsBackBy (TypedBy shapes) (writing_with most shapes) (read_up_to most kinds_known shapes) desk_message_taken desk_one_form
any_reads_back most shapes long small fits (of_station m) room n typed e = split (is_shaped shapes (kind_of m.what))
    (λ t. no UnknownKind room (omega arith) (ap number_said (rw t at e)))
    (λ t. rw t (station_back most shapes m room n long typed t (rw t at e)))
any_reads_back most shapes long small fits (shaped kind ns xs) room n typed e =
    let q = shaped_back most small shapes kinds_known kind ns xs room fits typed (ap number_said e) in
    let bytes = shaped_bytes q.by ns xs in
    let short = q.wrote.short in
    let size : length bytes ≡ n = ap size_said (rw (q.written, q.wrote.all) at e) in
    rw (q.written, q.wrote.all) (read_up most kinds_known shapes bytes (drop (length bytes) room) q.told.long (omega arith) (omega arith) ∙ q.back ∙ ap (desk_message_taken (shaped kind ns xs)) size)
