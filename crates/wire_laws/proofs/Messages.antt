-- What a reader that took a message says of its bytes: where it ends, its length, its kind and its body. Assumes nothing.
use mathlib.Core.Path.{◌≡◌, refl, sym, ◌∙◌, ap, ap₂}
use mathlib.Core.List.{List, [], ◌∷◌, ◌++◌}
use Prim.Native.Nat.{ℕ, suc, ◌+◌, ◌*◌, ◌≤◌, ◌<◌}
use native.Mathlib.Omega.{arith}
use borrow.Author.Tests.{le-ltb}
use lib.ListN.{length, take, drop, length-append, get_or-append}
use lib.Seq.{get_or-take, length-take-le, take-append_seam}
use Rattle.codec.specs.Bytes.{little_endian, Bytes}
use Rattle.answers.specs.declared.Answer.{Answer}
use Rattle.answers.specs.declared.Answer.TheVariants.{TooFewBytes, BadLength}
use Rattle.answers.specs.Answers.{number_of}
use Rattle.wire.specs.declared.Message.{Message}
use Rattle.wire.specs.Reads.{Received}
use Rattle.wire.specs.declared.Frame.{Frame}
use Rattle.wire.specs.declared.Frame.TheVariants.{Cut, Wrong, Whole}
use Rattle.wire.specs.Kinds.{kinds_known}
use Rattle.wire.specs.Reads.{length_at, kind_at, frame_of, message_refused, message_taken, read_whole, read_framed, read_message}
use Rattle.wire.proofs.Frames.{Framed, whole_frame}
use Rattle.codec.proofs.Numbers.{number_form}

-- a refusal isn't a message taken
pub no : {G : Type 0} {a : Answer} {n k : ℕ} {m : Message} → message_refused a n ≡ message_taken m k → 0 < number_of a → G
no {a = a} e h = let z : number_of a ≡ 0 = ap (λ (r : Received). number_of r.answer) e in absurd (omega arith)

pub taken_message : {m m' : Message} {n k : ℕ} → message_taken m n ≡ message_taken m' k → m ≡ m'
taken_message e = ap (λ (r : Received). r.message) e

pub taken_used : {m m' : Message} {n k : ℕ} → message_taken m n ≡ message_taken m' k → n ≡ k
taken_used e = ap (λ (r : Received). r.used) e

-- the bytes of the first message of s are exactly m
pub record Cut-out (s m : List ℕ) (n : ℕ) : Type 0 where
  pub size : length m ≡ n
  pub long : length_at m + 2 ≡ length m
  pub kind : kind_at m ≡ kind_at s

pub cut_out : (s : List ℕ) (n : ℕ) → Framed s n → Cut-out s (take n s) n
cut_out s n f =
    let l = length-take-le n s f.within in
    let a = get_or-take n s 0 0 (omega arith) in
    let b = get_or-take n s 1 0 (omega arith) in
    let c = get_or-take n s 2 0 (omega arith) in
    let d = get_or-take n s 3 0 (omega arith) in
    record { size = l; long = rw (a, b, l) (sym f.long); kind = rw (c, d) }

-- a message that is taken was framed
pub read_whole_lem : (s : List ℕ) (m : Message) (n : ℕ) → read_message s ≡ message_taken m n
    → (k : ℕ) × Framed s k × (read_whole kinds_known (take k s) ≡ message_taken m n)
unfolding read_message
read_whole_lem s m n e = go (frame_of s) refl e
  where
    go : (f : Frame) → frame_of s ≡ f → read_framed kinds_known f s ≡ message_taken m n → (k : ℕ) × Framed s k × (read_whole kinds_known (take k s) ≡ message_taken m n)
    go Cut f e = no {a = TooFewBytes} e (omega arith)
    go Wrong f e = no {a = BadLength} e (omega arith)
    go (Whole k) f e = (k, whole_frame s k f, e)

-- a frame that is whole
framed_is : (s : List ℕ) (n : ℕ) → Framed s n → frame_of s ≡ Whole n
framed_is s n f =
    let a = f.long in
    let b = f.low in
    let c = f.high in
    let d = f.within in
    simp (le-ltb (length s) 2 (omega arith), le-ltb (length_at s) 2 (omega arith), le-ltb 43 (length_at s) (omega arith), le-ltb (length s) (length_at s + 2) (omega arith))
    (ap Whole (sym a))

-- a message, whatever follows it, is read from exactly its own bytes
pub read_back : (m t : List ℕ) → length_at m + 2 ≡ length m → 4 ≤ length m → length m ≤ 45 → read_message (m ++ t) ≡ read_whole kinds_known m
unfolding read_message
read_back m t e l h =
    let a = get_or-append m t 0 0 (omega arith) in
    let b = get_or-append m t 0 1 (omega arith) in
    let f : frame_of (m ++ t) ≡ Whole (length m) = framed_is (m ++ t) (length m)
    (record { long = rw (a, b) (sym e); low = l; high = h; within = rw (length-append m t) (omega arith) }) in
    ap (λ (g : Frame). read_framed kinds_known g (m ++ t)) f ∙ ap (read_whole kinds_known) (take-append_seam m t)

-- a message's bytes by its length, its kind and its body
pub parts : (m : List ℕ) → Bytes m → 4 ≤ length m → length_at m + 2 ≡ length m
    → m ≡ little_endian 2 (2 + length (drop 4 m)) ++ (little_endian 2 (kind_at m) ++ drop 4 m)
parts [] b h e = absurd (omega arith)
parts (w ∷ []) b h e = absurd (omega arith)
parts (w ∷ x ∷ []) b h e = absurd (omega arith)
parts (w ∷ x ∷ y ∷ []) b h e = absurd (omega arith)
parts (w ∷ x ∷ y ∷ z ∷ body) b h e =
    let l : w + 256 * (x + 256 * 0) ≡ 2 + length body = omega arith in
    let p = number_form 2 (w ∷ x ∷ y ∷ z ∷ body) b (omega arith) in
    let q = number_form 2 (y ∷ z ∷ body) (λ i. b (suc (suc i))) (omega arith) in
    sym
    (ap (λ (n : ℕ). little_endian 2 n ++ (little_endian 2 (kind_at (w ∷ x ∷ y ∷ z ∷ body)) ++ body)) (sym l)
    ∙ ap₂ (λ (c d : List ℕ). c ++ (d ++ body)) p q)
