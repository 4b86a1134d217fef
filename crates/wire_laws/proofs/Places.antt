-- The place of a 4: a reader that refuses a request for a bad field names its least bad instruction, and nowhere in any other message.
-- Assumes nothing.
use mathlib.Core.Path.{◌≡◌, refl, sym, ◌∙◌, ap, subst}
use mathlib.Core.Bool.{true}
use mathlib.Core.List.{List, [], ◌∷◌, ◌++◌}
use Prim.Native.Nat.{ℕ, ◌+◌, ◌*◌}
use native.Mathlib.Omega.{arith}
use borrow.Author.Tests.{eqb-true, eqb-false, ltb-true}
use lib.Dec.{ltb, eqb}
use lib.ListN.{get_or, length, take, drop, length-append, length-drop, take-append-drop}
use lib.Seq.{get_or-take, take_all, take_at, drop-append-le}
use Rattle.bits.specs.Search.{least, IsLeast}
use Rattle.bits.proofs.Least.{found_least}
use Rattle.answers.specs.declared.Answer.TheVariants.{BadField}
use Rattle.answers.specs.Answers.{number_of, nowhere, place_of}
use Rattle.wire.specs.declared.What.{What}
use Rattle.wire.specs.Reads.{Received}
use Rattle.wire.specs.declared.Frame.{Frame}
use Rattle.wire.specs.declared.Frame.TheVariants.{Cut, Wrong, Whole}
use Rattle.wire.specs.Kinds.{first_instruction, SizedKind, request_kind, kinds_known, kinds_asked, in_range}
use Rattle.wire.specs.Reads.{frame_of, kind_at, bad_in, message_refused, sized, read_request, read_among, read_whole, read_framed, read_message, read_asked}
use Rattle.wire.proofs.Frames.{Framed, when, whole_frame}
use Rattle.wire_laws.specs.Statements.{PlaceRead, PlaceAsked}
use Rattle.wire_laws.proofs.Instructions.{bad_same}
use Rattle.wire_laws.proofs.Messages.{cut_out}

-- what was received isn't a 4
no : {G : Type 0} {p n : ℕ} (r : Received) → r ≡ message_refused (BadField p) n → (number_of r.answer ≡ 4 → ⊥) → G
no r e h = absurd (h (ap (λ (x : Received). number_of x.answer) e))

-- two refusals with 4 that are the same name the same place
same_place : {q p m n : ℕ} → message_refused (BadField q) m ≡ message_refused (BadField p) n → q ≡ p
same_place e = ap (λ (r : Received). place_of r.answer) e

-- the instructions of a request are read from the bytes that it stands in as from the request alone
instructions_same : (s : List ℕ) (k c : ℕ) → length (take k s) ≡ 5 + 5 * c → least c (bad_in (drop 5 (take k s))) ≡ least c (bad_in (drop 5 s))
instructions_same s k c l =
    let body = drop 5 (take k s) in
    let long : length body ≡ 5 * c = length-drop 5 (take k s) ∙ omega arith in
    let after : drop 5 s ≡ body ++ drop k s = ap (drop 5) (sym (take-append-drop k s)) ∙ drop-append-le 5 (take k s) (drop k s) (omega arith) in
    bad_same body (drop 5 s) c (omega (arith, long)) (omega (arith, long, ap length after, length-append body (drop k s)))
    (take_all (5 * c) body (omega (arith, long)) ∙ sym (ap (take (5 * c)) after ∙ take_at body (drop k s) (5 * c) long))

module _ (p n : ℕ) where
  -- ---- messages that hold no instruction

  sized_place : (m : List ℕ) (k : ℕ) (w : What) → sized m k w ≡ message_refused (BadField p) n → p ≡ nowhere
  sized_place m k w e =
      when (eqb (length m) k) _ _ _ e
      (λ _ e. when (in_range w) _ _ _ e (λ _ e. no _ e (λ z. omega arith)) (λ _ e. sym (same_place e)))
      (λ _ e. no _ e (λ z. omega arith))

  among_place : (ks : List SizedKind) (m : List ℕ) → read_among ks m ≡ message_refused (BadField p) n → p ≡ nowhere
  among_place [] m e = no _ e (λ z. omega arith)
  among_place (k ∷ ks) m e =
      when (eqb (kind_at m) k.number) _ _ _ e (λ _ e. sized_place m (4 + k.size) (k.says m) e) (λ _ e. among_place ks m e)

  -- ---- requests

  request_place : (m : List ℕ) → read_request m ≡ message_refused (BadField p) n
      → (length m ≡ 5 + 5 * get_or m 4 0) × (p ≡ least (get_or m 4 0) (bad_in (drop 5 m))) × (ltb p (get_or m 4 0) ≡ true)
  unfolding read_request
  request_place m e =
      let c = get_or m 4 0 in
      let bad = least c (bad_in (drop 5 m)) in
      when (ltb (length m) 5) _ _ _ e (λ _ e. no _ e (λ z. omega arith))
      (λ _ e. when (ltb 8 c) _ _ _ e (λ _ e. no _ e (λ z. omega arith))
      (λ _ e. when (eqb (length m) (5 + 5 * c)) _ _ _ e
      (λ t e. when (ltb bad c) _ _ _ e
      (λ b e. (eqb-true _ _ t, sym (same_place e), ap (λ (x : ℕ). ltb x c) (sym (same_place e)) ∙ b))
      (λ _ e. no _ e (λ z. omega arith)))
      (λ _ e. no _ e (λ z. omega arith))))

  -- ---- the first message of some bytes

  least_place : (s : List ℕ) (k : ℕ) → Framed s k → read_request (take k s) ≡ message_refused (BadField p) n → IsLeast (get_or s 4 0) (bad_in (drop first_instruction s)) p
  least_place s k f e =
      let m = take k s in
      let c = get_or s 4 0 in
      let (long, place, below) = request_place m e in
      let size = (cut_out s k f).size in
      let count : get_or m 4 0 ≡ c = get_or-take k s 4 0 (omega arith) in
      let least_is : p ≡ least c (bad_in (drop 5 s)) =
      place ∙ ap (λ (x : ℕ). least x (bad_in (drop 5 m))) count ∙ instructions_same s k c (long ∙ ap (λ (x : ℕ). 5 + 5 * x) count) in
      let within = ltb-true p (get_or m 4 0) below in
      subst (IsLeast c (bad_in (drop 5 s))) (sym least_is) (found_least c (bad_in (drop 5 s)) (omega arith))

  whole_place : (ks : List SizedKind) (s : List ℕ) (k : ℕ) → Framed s k → read_whole ks (take k s) ≡ message_refused (BadField p) n
      → (kind_at s ≡ request_kind → IsLeast (get_or s 4 0) (bad_in (drop first_instruction s)) p) × ((kind_at s ≡ request_kind → ⊥) → p ≡ nowhere)
  unfolding read_whole
  whole_place ks s k f e =
      let kind = (cut_out s k f).kind in
      when (eqb (kind_at (take k s)) request_kind) _ _ _ e
      (λ t e.
      let i = eqb-true (kind_at (take k s)) request_kind t in
      (λ _. least_place s k f e, λ h. absurd (h (sym kind ∙ i))))
      (λ t e.
      let h = eqb-false (kind_at (take k s)) request_kind t in
      (λ i. absurd (h (kind ∙ i)), λ _. among_place ks (take k s) e))

  framed_place : (ks : List SizedKind) (s : List ℕ) → read_framed ks (frame_of s) s ≡ message_refused (BadField p) n
      → (kind_at s ≡ request_kind → IsLeast (get_or s 4 0) (bad_in (drop first_instruction s)) p) × ((kind_at s ≡ request_kind → ⊥) → p ≡ nowhere)
  framed_place ks s e = go (frame_of s) refl e
    where
      go : (f : Frame) → frame_of s ≡ f → read_framed ks f s ≡ message_refused (BadField p) n
          → (kind_at s ≡ request_kind → IsLeast (get_or s 4 0) (bad_in (drop first_instruction s)) p) × ((kind_at s ≡ request_kind → ⊥) → p ≡ nowhere)
      go Cut f e = no _ e (λ z. omega arith)
      go Wrong f e = no _ e (λ z. omega arith)
      go (Whole k) f e = whole_place ks s k (whole_frame s k f) e

pub place_read : PlaceRead
unfolding read_message
place_read s p n e = framed_place p n kinds_known s e

pub place_asked : PlaceAsked
unfolding read_asked
place_asked s p n e = framed_place p n kinds_asked s e
