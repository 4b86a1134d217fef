-- What the station's reader says of any bytes: an answer that a message can be told, and a set whose unused places are zero. Each chain
-- of refusals is gone through once. Assumes nothing.
use mathlib.Core.Path.{◌≡◌, refl, sym, ap, ◌∙◌}
use mathlib.Core.Bool.{Bool, true, false, cond, not, ◌&&◌}
use mathlib.Core.List.{List, [], ◌∷◌, ◌++◌}
use Prim.Native.Nat.{ℕ, ◌+◌, ◌*◌, ◌-◌, ◌<◌}
use native.Mathlib.Omega.{arith}
use borrow.Author.Tests.{le-leb, ltb-true, ltb-false, eqb-true}
use lib.Dec.{ltb, eqb}
use lib.ListN.{get_or, length, take, drop, replicate, length-drop}
use lib.Seq.{length-take-le, take_at}
use Rattle.bits.specs.Search.{least}
use Rattle.answers.specs.declared.Answer.{Answer}
use Rattle.answers.specs.declared.Answer.TheVariants.{BadField}
use Rattle.answers.specs.Answers.{number_of}
use Rattle.wire.specs.declared.What.{What}
use Rattle.wire.specs.Reads.{Received}
use Rattle.wire.specs.declared.Frame.{Frame}
use Rattle.wire.specs.declared.Frame.TheVariants.{Cut, Wrong, Whole}
use Rattle.wire.specs.Kinds.{SizedKind, in_range, kinds_asked, requesting}
use Rattle.wire.specs.Reads.{frame_of, kind_at, message_refused, message_taken, sized, bad_in, read_request, read_among, read_whole, read_framed, read_asked}
use Rattle.service.specs.Service.{answer_message}

-- an answer that a message can be told: in its ranges, and not 17
abbrev pub tellable : Answer → Bool
tellable a = in_range (answer_message a) && not (eqb (number_of a) 17)

pub record Received-fine (r : Received) : Type 0 where
  pub told : tellable r.answer ≡ true
  pub padded : r.message.set ≡ take (5 * r.message.count) r.message.set ++ replicate (40 - 5 * r.message.count) 0

-- both ways of a test
pub ways : {A : Type 0} (P : A → Type 0) (t : Bool) {x y : A} → (t ≡ true → P x) → (t ≡ false → P y) → P (cond t x y)
ways P true f g = f refl
ways P false f g = g refl

bad_told : (p : ℕ) → p < 8 → tellable (BadField p) ≡ true
bad_told p h = rw (le-leb p 7 (omega arith))

-- refused, with no set
blank : {a : Answer} {n : ℕ} → tellable a ≡ true → Received-fine (message_refused a n)
blank e = record { told = e; padded = refl }

requested : (c n : ℕ) (s : List ℕ) → length s ≡ 5 * c → Received-fine (message_taken (requesting c s) n)
requested c n s e = record {
  told = refl;
  padded = sym (ap (λ l. l ++ replicate (40 - 5 * c) 0)
      (take_at (take (5 * c) s) (replicate (40 - 5 * c) 0) (5 * c) (length-take-le (5 * c) s (omega arith))));
}

sized_fine : (m : List ℕ) (n : ℕ) (w : What) → Received-fine (sized m n w)
sized_fine m n w =
    ways Received-fine (eqb (length m) n)
    (λ _. ways Received-fine (in_range w) (λ _. record { told = refl; padded = refl }) (λ _. blank refl))
    (λ _. blank refl)

read_request_fine : (m : List ℕ) → Received-fine (read_request m)
unfolding read_request
read_request_fine m =
    let count = get_or m 4 0 in
    let least-bad = least count (bad_in (drop 5 m)) in
    ways Received-fine (ltb (length m) 5) (λ _. blank refl)
    (λ _. ways Received-fine (ltb 8 count) (λ _. blank refl)
    (λ b.
    let h = ltb-false 8 count b in
    ways Received-fine (eqb (length m) (5 + 5 * count))
    (λ c.
    let e = eqb-true (length m) (5 + 5 * count) c in
    ways Received-fine (ltb least-bad count)
    (λ l. let k = ltb-true least-bad count l in blank (bad_told least-bad (omega arith)))
    (λ _. requested count (length m) (drop 5 m) (length-drop 5 m ∙ omega arith)))
    (λ _. blank refl)))

among_fine : (ks : List SizedKind) (m : List ℕ) → Received-fine (read_among ks m)
among_fine [] m = blank refl
among_fine (k ∷ ks) m = ways Received-fine (eqb (kind_at m) k.number) (λ _. sized_fine m (4 + k.size) (k.says m)) (λ _. among_fine ks m)

whole_fine : (ks : List SizedKind) (m : List ℕ) → Received-fine (read_whole ks m)
unfolding read_whole
whole_fine ks m = ways Received-fine (eqb (kind_at m) 1) (λ _. read_request_fine m) (λ _. among_fine ks m)

framed_fine : (f : Frame) (s : List ℕ) → Received-fine (read_framed kinds_asked f s)
framed_fine Cut s = blank refl
framed_fine Wrong s = blank refl
framed_fine (Whole n) s = whole_fine kinds_asked (take n s)

pub read_fine : (s : List ℕ) → Received-fine (read_asked s)
unfolding read_asked
read_fine s = framed_fine (frame_of s) s
