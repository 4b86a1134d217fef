-- Replies: that the fields of every reply are in their ranges, so that it can be written; and
-- what writing it leaves. Assumes nothing.
use mathlib.Core.Path.{◌≡◌, refl, ap, ◌∙◌}
use mathlib.Core.Bool.{Bool, true, false, cond}
use mathlib.Core.List.{List, [], ◌∷◌, ◌++◌}
use Prim.Native.Nat.{ℕ, ◌/◌, ◌%◌, ◌≤◌}
use native.Mathlib.Omega.{arith}
use borrow.Author.Tests.{leb-true, le-leb, le-ltb}
use denote.Enum.Declared.{tag_of}
use lib.Dec.{ltb, leb}
use lib.ListN.{get_or, length, drop, length-append}
use types.Run.{OneOf, miss}
use Rattle.bits.specs.Search.{least}
use Rattle.bits.proofs.Cases.{alike}
use Rattle.codec.specs.Bytes.{little_endian}
use Rattle.answers.specs.declared.Answer.{Answer}
use Rattle.answers.specs.declared.Answer.TheVariants.{TooFewBytes, NoRoom}
use Rattle.answers.specs.Answers.{number_of, place_of, issue_of}
use Rattle.wire.specs.contracts.What as what
use Rattle.wire.specs.declared.What.{What}
use Rattle.wire.specs.declared.What.TheVariants.{Request, Event, Result, Image, Ask, Held}
use Rattle.wire.specs.Kinds.{in_range, plain}
use Rattle.std.specs.declared.result.Result.TheVariants.{Ok}
use Rattle.wire.specs.Writes.{Written}
use Rattle.wire.proofs.Results.{size_said}
use Rattle.wire.specs.Writes.{Writing, LeavesMessage, nothing_written, put, writing_message}
use Rattle.wire.proofs.Room.{ranged}
use Rattle.service.specs.Service.{answer_message, answer_bytes}
use Rattle.service.specs.Private.{makes_call}
use Rattle.service.specs.Runs.{enough, finishing}

-- what is neither of kind 128 nor of 129 makes a call
pub makes_call_lem : (w : What) → OneOf (0 ∷ 1 ∷ 2 ∷ 3 ∷ 4 ∷ []) (tag_of what.the_type w) → true ≡ makes_call w
makes_call_lem Request h = refl
makes_call_lem (Event way) h = refl
makes_call_lem (Result issue number ending) h = refl
makes_call_lem (Image bits apart) h = refl
makes_call_lem Ask h = refl
makes_call_lem (What.Answer number place issue) h = absurd (miss (0 ∷ 1 ∷ 2 ∷ 3 ∷ 4 ∷ []) 5 tt h)
makes_call_lem (Held bits apart) h = absurd (miss (0 ∷ 1 ∷ 2 ∷ 3 ∷ 4 ∷ []) 6 tt h)

-- ---- writing

-- a message that holds no instruction, its fields in their ranges
pub plain_written : (w : What) (room : List ℕ) → in_range w ≡ true → writing_message (plain w) room ≡ put (answer_bytes w) room
unfolding answer_bytes writing_message least
plain_written Request room e = refl
plain_written (Event way) room e = ranged (plain (Event way)) room (Event way) refl refl e
plain_written (Result issue number ending) room e = ranged (plain (Result issue number ending)) room (Result issue number ending) refl refl e
plain_written (Image bits apart) room e = refl
plain_written Ask room e = refl
plain_written (What.Answer number place issue) room e = ranged (plain (What.Answer number place issue)) room (What.Answer number place issue) refl refl e
plain_written (Held bits apart) room e = refl

-- no reply has more than twenty bytes
pub answer_bytes_length : (w : What) → length (answer_bytes w) ≤ 20
unfolding answer_bytes
answer_bytes_length Request = omega arith
answer_bytes_length (Event way) = omega arith
answer_bytes_length (Result issue number ending) = omega arith
answer_bytes_length (Image bits apart) = omega arith
answer_bytes_length Ask = omega arith
answer_bytes_length (What.Answer number place issue) = omega arith
answer_bytes_length (Held bits apart) = omega arith

-- an answer that is no image has eight
pub answer_length : (a : Answer) → length (answer_bytes (answer_message a)) ≤ 8
unfolding answer_bytes
answer_length a = omega arith

pub eight_bytes : (a : Answer) → length (answer_bytes (answer_message a)) ≡ 8
unfolding answer_bytes
eight_bytes a = refl

-- and these, laid at the start of a room
pub put_answer : (a : Answer) (room last : List ℕ) {number place issue : ℕ} → number ≡ number_of a → place ≡ place_of a → issue ≡ issue_of a
    → last ≡ 6 ∷ 0 ∷ 128 ∷ 0 ∷ number ∷ place ∷ issue % 256 ∷ issue / 256 % 256 ∷ drop 8 room
    → (8 ≡ length (answer_bytes (answer_message a))) × (last ≡ answer_bytes (answer_message a) ++ drop (length (answer_bytes (answer_message a))) room)
unfolding answer_bytes
put_answer a room last e f g h = (refl, h ∙ rw (e, f, g))

-- an image has twenty
pub twenty_bytes : (bits apart : ℕ) → length (answer_bytes (Held bits apart)) ≡ 20
unfolding answer_bytes
twenty_bytes bits apart = refl

pub put_image : (bits apart : ℕ) (room last : List ℕ) {b a : List ℕ} → b ≡ little_endian 8 bits → a ≡ little_endian 8 apart
    → last ≡ 18 ∷ 0 ∷ 129 ∷ 0 ∷ get_or b 0 0 ∷ get_or b 1 0 ∷ get_or b 2 0 ∷ get_or b 3 0 ∷ get_or b 4 0 ∷ get_or b 5 0 ∷ get_or b 6 0 ∷ get_or b 7 0
    ∷ get_or a 0 0 ∷ get_or a 1 0 ∷ get_or a 2 0 ∷ get_or a 3 0 ∷ get_or a 4 0 ∷ get_or a 5 0 ∷ get_or a 6 0 ∷ get_or a 7 0 ∷ drop 20 room
    → (20 ≡ length (answer_bytes (Held bits apart))) × (last ≡ answer_bytes (Held bits apart) ++ drop (length (answer_bytes (Held bits apart))) room)
unfolding answer_bytes
put_image bits apart room last e f h = (refl, h ∙ rw (e, f))

-- what is written of a message, by another name of it
pub retold : {v w : What} {n : ℕ} {last : List ℕ} (room : List ℕ) → v ≡ w → (n ≡ length (answer_bytes w)) × (last ≡ answer_bytes w ++ drop (length (answer_bytes w)) room)
    → (n ≡ length (answer_bytes v)) × (last ≡ answer_bytes v ++ drop (length (answer_bytes v)) room)
retold room e p = rw e p

-- a fifth of the room
pub fits_by_fifth : (n room : ℕ) → leb n (room / 5) ≡ leb (enough n) room
fits_by_fifth n room =
    alike (leb n (room / 5)) (leb (enough n) room)
    (λ e. le-leb (enough n) room (let f = leb-true n (room / 5) e in omega arith))
    (λ e. le-leb n (room / 5) (let f = leb-true (enough n) room e in omega arith))

-- ---- the end of the input

pub nothing_left : (held room : List ℕ) → length held ≡ 0 → LeavesMessage (finishing held room) (Ok 0) room
nothing_left [] room e = simp (le-ltb (length room) 0 (omega arith)) (refl, refl)
nothing_left (b ∷ bs) room e = absurd (omega arith)

pub something_left : (held room : List ℕ) {w : What} {r : Written} {last : List ℕ} → (length held ≡ 0 → ⊥) → w ≡ answer_message TooFewBytes
    → LeavesMessage (writing_message (plain w) room) r last → LeavesMessage (finishing held room) r last
something_left [] room h e f = absurd (h refl)
something_left (b ∷ bs) room {w} {r} {last} h e f =
    let p : writing_message (plain w) room ≡ put (answer_bytes (answer_message TooFewBytes)) room = rw e (plain_written (answer_message TooFewBytes) room refl) in
    (f.0 ∙ ap (λ (x : Writing). x.says) p, f.1 ∙ ap (λ (x : Writing). x.leaves) p)

-- what was put stands within the room
pub put_within : (bytes room : List ℕ) {r : Written} {last : List ℕ} → LeavesMessage (put bytes room) r last → size_said r ≤ length last
put_within bytes room (e, l) = rw (e, l) (within (ltb (length room) (length bytes)))
  where
    within : (t : Bool) → let w = cond t (nothing_written NoRoom room)
        (record { says = Ok (length bytes); leaves = bytes ++ drop (length bytes) room }) in
        size_said w.says ≤ length w.leaves
    within true = omega arith
    within false = rw length-append (omega arith)
