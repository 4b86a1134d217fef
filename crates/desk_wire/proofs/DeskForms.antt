-- What is promised of a desk's messages. Assumes nothing.
use mathlib.Core.Path.{◌≡◌, refl, sym, ◌∙◌, ap}
use mathlib.Core.Bool.{false, cond}
use mathlib.Core.List.{List, [], ◌∷◌, ◌++◌}
use Prim.Native.Nat.{ℕ, ◌≤◌, ◌<◌}
use native.Mathlib.Omega.{arith}
use borrow.Author.Tests.{le-ltb, ne_eqb}
use lib.Dec.{eqb}
use lib.ListN.{take}
use Rattle.answers.specs.declared.Answer.TheVariants.{UnknownKind}
use Rattle.wire.specs.declared.Frame.{Frame}
use Rattle.wire.specs.declared.Frame.TheVariants.{Cut, Wrong, Whole}
use Rattle.wire.specs.Kinds.{SizedKind, kinds_known, kinds_asked}
use Rattle.wire.specs.Reads.{length_at, kind_at, read_whole, read_framed, read_asked}
use Rattle.wire_laws.proofs.Asked.{alike, unknown}
use Rattle.wire_laws.proofs.Back.{reads_back}
use Rattle.wire_laws.proofs.Form.{one_form_lem}
use Rattle.desk_wire.specs.Shapes.{Shape}
use Rattle.desk_wire.specs.DeskKinds.{shapes_asked, shapes_answered, shapes_known}
use Rattle.desk_wire.specs.DeskReads.{desk_message_refused, frame_up_to, most_length, most_answered, as_received, read_shape, read_shaped, read_shaped_in, read_desk, read_desk_asked}
use Rattle.desk_wire.specs.DeskWrites.{is_shaped, writing_desk}
use Rattle.desk_wire.specs.DeskForms.{StationForms, ShapesForms, KindsFit, DeskMessagesReadBack, DeskMessagesOneForm, StationKindsSame, DeskAskedAlike, DeskAskedUnknown, DeskMessagesExample}
use Rattle.desk_wire.proofs.Framing.{whole_up, cut_up}
use Rattle.desk_wire.proofs.Returning.{not_shaped, any_reads_back}
use Rattle.desk_wire.proofs.Exact.{any_one_form}

pub station_forms : StationForms
station_forms = (reads_back, λ s m n b e. let f = one_form_lem s m n b e in (f.unused, f.written))

pub shapes_forms : ShapesForms
shapes_forms most shapes long small fits = (any_reads_back most shapes long small fits, any_one_form most shapes)

known_fit : KindsFit shapes_known
known_fit = search arith

pub desk_messages_read_back : DeskMessagesReadBack
unfolding writing_desk read_desk
desk_messages_read_back = any_reads_back most_answered shapes_known (omega arith) (omega arith) known_fit

pub desk_messages_one_form : DeskMessagesOneForm
unfolding writing_desk read_desk
desk_messages_one_form = any_one_form most_answered shapes_known

-- ---- the desk's reader

-- a length that both take is framed alike
same_frame : (most other : ℕ) (s : List ℕ) → length_at s ≤ most → length_at s ≤ other → frame_up_to most s ≡ frame_up_to other s
same_frame most other s h g = simp (le-ltb most (length_at s) h, le-ltb other (length_at s) g)

pub station_kinds_same : StationKindsSame
unfolding read_desk_asked read_asked
station_kinds_same s h low =
    ap (λ (f : Frame). read_shaped_in kinds_asked shapes_asked f s) (same_frame most_length 43 s (omega arith) h) ∙ go (frame_up_to 43 s) refl
  where
    none : (m : List ℕ) → kind_at m ≤ 5 → is_shaped shapes_asked (kind_at m) ≡ false
    none m h =
        simp (
          ne_eqb (kind_at m) 6 (λ e. omega arith),
          ne_eqb (kind_at m) 7 (λ e. omega arith),
          ne_eqb (kind_at m) 8 (λ e. omega arith),
          ne_eqb (kind_at m) 9 (λ e. omega arith),
          ne_eqb (kind_at m) 10 (λ e. omega arith),
          ne_eqb (kind_at m) 11 (λ e. omega arith),
          ne_eqb (kind_at m) 12 (λ e. omega arith),
        )

    go : (f : Frame) → frame_up_to 43 s ≡ f → read_shaped_in kinds_asked shapes_asked f s ≡ as_received (read_framed kinds_asked f s)
    go Cut e = refl
    go Wrong e = refl
    go (Whole n) e = let c = (cut_up 43 s n (whole_up 43 s n e)).kind in not_shaped shapes_asked kinds_asked (take n s) (none (take n s) (rw c low))

-- more shapes behind some, for kinds that these don't have
with_more : (ks js : List SizedKind) (shapes rest : List Shape) (m : List ℕ) → as_received (read_whole ks m) ≡ read_shaped js rest m
    → read_shaped ks shapes m ≡ read_shaped js (shapes ++ rest) m
with_more ks js [] rest m e = e
with_more ks js (k ∷ shapes) rest m e = ap (cond (eqb (kind_at m) k.number) (read_shape k m)) (with_more ks js shapes rest m e)

answers_none : (m : List ℕ) → kind_at m ≤ 12 → is_shaped shapes_answered (kind_at m) ≡ false
answers_none m h =
    simp (
      ne_eqb (kind_at m) 128 (λ e. omega arith),
      ne_eqb (kind_at m) 136 (λ e. omega arith),
      ne_eqb (kind_at m) 137 (λ e. omega arith),
      ne_eqb (kind_at m) 138 (λ e. omega arith),
      ne_eqb (kind_at m) 139 (λ e. omega arith),
      ne_eqb (kind_at m) 140 (λ e. omega arith),
    )

pub desk_asked_alike : DeskAskedAlike
unfolding read_desk_asked read_desk
desk_asked_alike s h low =
    go (frame_up_to most_length s) refl
    ∙ ap (λ (f : Frame). read_shaped_in kinds_known shapes_known f s) (same_frame most_length most_answered s h (omega arith))
  where
    go : (f : Frame) → frame_up_to most_length s ≡ f → read_shaped_in kinds_asked shapes_asked f s ≡ read_shaped_in kinds_known shapes_known f s
    go Cut e = refl
    go Wrong e = refl
    go (Whole n) e =
        let c = (cut_up most_length s n (whole_up most_length s n e)).kind in
        let b : kind_at (take n s) ≤ 12 = rw c low in
        with_more kinds_asked kinds_known shapes_asked shapes_answered (take n s)
        (ap as_received (alike (take n s) (omega arith)) ∙ sym (not_shaped shapes_answered kinds_known (take n s) (answers_none (take n s) b)))

pub desk_asked_unknown : DeskAskedUnknown
unfolding read_desk_asked
desk_asked_unknown s n e h =
    let c = cut_up most_length s n (whole_up most_length s n e) in
    let b : 12 < kind_at (take n s) = rw c.kind h in
    ap (λ (f : Frame). read_shaped_in kinds_asked shapes_asked f s) e
    ∙ not_shaped shapes_asked kinds_asked (take n s) (none (take n s) b)
    ∙ ap as_received (unknown (take n s) (omega arith)) ∙ ap (desk_message_refused UnknownKind) c.size
  where
    none : (m : List ℕ) → 12 < kind_at m → is_shaped shapes_asked (kind_at m) ≡ false
    none m h =
        simp (
          ne_eqb (kind_at m) 6 (λ e. omega arith),
          ne_eqb (kind_at m) 7 (λ e. omega arith),
          ne_eqb (kind_at m) 8 (λ e. omega arith),
          ne_eqb (kind_at m) 9 (λ e. omega arith),
          ne_eqb (kind_at m) 10 (λ e. omega arith),
          ne_eqb (kind_at m) 11 (λ e. omega arith),
          ne_eqb (kind_at m) 12 (λ e. omega arith),
        )

-- ---- that there are such messages

pub desk_messages_example : DeskMessagesExample
unfolding read_desk_asked read_desk read_shape
desk_messages_example = (refl, refl, refl, refl, refl, refl)
