-- The station's reader beside the library's. Assumes nothing.
use mathlib.Core.Path.{◌≡◌, refl, ◌∙◌, ap}
use mathlib.Core.List.{List}
use Prim.Native.Nat.{ℕ, ◌≤◌, ◌<◌}
use native.Mathlib.Omega.{arith}
use borrow.Author.Tests.{ne_eqb}
use lib.ListN.{length, take}
use Rattle.answers.specs.declared.Answer.TheVariants.{UnknownKind}
use Rattle.wire.specs.declared.Frame.{Frame}
use Rattle.wire.specs.declared.Frame.TheVariants.{Cut, Wrong, Whole}
use Rattle.wire.specs.Kinds.{kinds_known, kinds_asked}
use Rattle.wire.specs.Reads.{frame_of, kind_at, message_refused, read_whole, read_framed, read_message, read_asked}
use Rattle.wire.proofs.Frames.{whole_frame}
use Rattle.wire_laws.specs.Statements.{AskedAlike, AskedUnknown}
use Rattle.wire_laws.proofs.Messages.{cut_out}

-- a message whose bytes are exactly m
pub alike : (m : List ℕ) → kind_at m < 128 → read_whole kinds_asked m ≡ read_whole kinds_known m
unfolding read_whole
alike m h = simp (ne_eqb (kind_at m) 128 (λ e. omega arith), ne_eqb (kind_at m) 129 (λ e. omega arith))

pub unknown : (m : List ℕ) → 5 < kind_at m → read_whole kinds_asked m ≡ message_refused UnknownKind (length m)
unfolding read_whole
unknown m h = simp (ne_eqb (kind_at m) 1 (λ e. omega arith), ne_eqb (kind_at m) 2 (λ e. omega arith), ne_eqb (kind_at m) 3 (λ e. omega arith), ne_eqb (kind_at m) 4 (λ e. omega arith), ne_eqb (kind_at m) 5 (λ e. omega arith))

pub asked_alike : AskedAlike
unfolding read_message read_asked
asked_alike s h = go (frame_of s) refl
  where
    go : (f : Frame) → frame_of s ≡ f → read_framed kinds_asked f s ≡ read_framed kinds_known f s
    go Cut e = refl
    go Wrong e = refl
    go (Whole n) e =
        let k = (cut_out s n (whole_frame s n e)).kind in
        let low : kind_at (take n s) ≤ 5 = rw k h in
        alike (take n s) (omega arith)

pub asked_unknown : AskedUnknown
unfolding read_asked
asked_unknown s n e h =
    let c = cut_out s n (whole_frame s n e) in
    ap (λ (f : Frame). read_framed kinds_asked f s) e ∙ unknown (take n s) (rw c.kind h) ∙ ap (message_refused UnknownKind) c.size
