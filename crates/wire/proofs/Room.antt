-- What writing leaves in the room, case by case of its chain of refusals. Assumes nothing.
use mathlib.Core.Path.{◌≡◌, refl, sym, ◌∙◌, ap, ap₂, subst}
use mathlib.Core.Bool.{true, false}
use mathlib.Core.List.{List, [], ◌∷◌, ◌++◌}
use Prim.Native.Nat.{ℕ, suc, ◌+◌, ◌*◌, ◌/◌, ◌%◌, ◌≤◌, ◌<◌}
use native.Mathlib.Omega.{arith}
use borrow.Author.Tests.{lt-ltb, le-ltb}
use lib.Dec.{eqb}
use lib.ListN.{get_or, length, take, drop}
use lib.Seq.{length-take-le, take-length, take-append-add}
use denote.Enum.Declared.{tag_of}
use types.Run.{OneOf, miss}
use Rattle.bits.specs.Search.{least}
use Rattle.bits.proofs.Cases.{clash}
use Rattle.answers.specs.declared.Answer.TheVariants.{BadField, TooMany, NoRoom}
use Rattle.answers.specs.Answers.{nowhere}
use Rattle.std.specs.declared.result.Result.TheVariants.{Ok}
use Rattle.wire.specs.declared.What.{What}
use Rattle.wire.specs.declared.What.TheVariants.{Request, Event, Result, Image, Ask, Answer, Held}
use Rattle.wire.specs.declared.Message.{Message}
use Rattle.wire.specs.Kinds.{kind_of, in_range, request_kind, plain}
use Rattle.wire.specs.Reads.{bad_in}
use Rattle.wire.specs.Writes.{message_bytes, Written, Writing, LeavesMessage, nothing_written, put, writing_message}
use Rattle.wire.specs.contracts.What as what

pub put_short : (src room : List ℕ) → length room < length src → put src room ≡ nothing_written NoRoom room
put_short src room h = simp (lt-ltb _ _ h)

pub put_says : (src room : List ℕ) {n : ℕ} → length src ≤ length room → n ≡ length src → Ok n ≡ (put src room).says
put_says src room h e = ap Ok e ∙ rw (le-ltb _ _ h)

pub put_all : (src room last : List ℕ) → length src ≤ length room → last ≡ take (length src) src ++ drop (length src) room → last ≡ (put src room).leaves
put_all src room last h e = e ∙ rw (take-length, le-ltb _ _ h)

-- fields out of their ranges are not a request's
not_request : (w : What) → in_range w ≡ false → eqb (kind_of w) request_kind ≡ false
not_request Request e = clash refl e
not_request (Event way) e = refl
not_request (Result issue number ending) e = refl
not_request (Image bits apart) e = refl
not_request Ask e = refl
not_request (Answer number place issue) e = refl
not_request (Held bits apart) e = refl

pub out_of_range : (m : Message) (room : List ℕ) → in_range m.what ≡ false → writing_message m room ≡ nothing_written (BadField nowhere) room
unfolding writing_message
out_of_range m room e = rw (not_request m.what e, e)

-- a message by what it says
pub saying : (m : Message) (room : List ℕ) {w : What} → m.what ≡ w
    → writing_message m room ≡ writing_message (record { what = w; count = m.count; set = m.set }) room
saying m room e = ap (λ (w : What). writing_message (record { what = w; count = m.count; set = m.set }) room) e

-- one that isn't a request, its fields in their ranges
pub ranged : (m : Message) (room : List ℕ) (w : What) → m.what ≡ w → eqb (kind_of w) request_kind ≡ false → in_range w ≡ true
    → writing_message m room ≡ put (message_bytes (record { what = w; count = m.count; set = m.set })) room
unfolding writing_message
ranged m room w e r f = saying m room e ∙ rw (r, f)

-- ---- messages that hold no instruction, in bytes

-- byte by byte
pub next : {x y : ℕ} {s t : List ℕ} → x ≡ y → s ≡ t → x ∷ s ≡ y ∷ t
next e f = ap₂ ◌∷◌ e f

-- told of what the message says
pub says : {w v : What} {b : List ℕ} → b ≡ message_bytes (plain v) → w ≡ v → b ≡ message_bytes (plain w)
says e f = e ∙ ap (λ (w : What). message_bytes (plain w)) (sym f)

-- a run begins with such a message, told of another name of the run: its first byte says how many come after the first two
abbrev pub Begins : List ℕ → What → Type 0
Begins b w = (2 + get_or b 0 0 ≤ length b) × (take (2 + get_or b 0 0) b ≡ message_bytes (plain w))

pub begins : {b t : List ℕ} (w : What) → b ≡ t → Begins t w → Begins b w
begins w e h = subst (λ (b : List ℕ). Begins b w) (sym e) h

module _ (issue : ℕ) {l h : ℕ} (e : l ≡ issue % 256) (f : h ≡ issue / 256 % 256) where
  pub result_says : {number ending : ℕ} → 6 ∷ 0 ∷ 3 ∷ 0 ∷ l ∷ h ∷ number ∷ ending ∷ [] ≡ message_bytes (plain (Result issue number ending))
  result_says {number} {ending} = ap₂ (λ (l h : ℕ). 6 ∷ 0 ∷ 3 ∷ 0 ∷ l ∷ h ∷ number ∷ ending ∷ []) e f

  pub answer_says : {number place : ℕ} → 6 ∷ 0 ∷ 128 ∷ 0 ∷ number ∷ place ∷ l ∷ h ∷ [] ≡ message_bytes (plain (Answer number place issue))
  answer_says {number} {place} = ap₂ (λ (l h : ℕ). 6 ∷ 0 ∷ 128 ∷ 0 ∷ number ∷ place ∷ l ∷ h ∷ []) e f

-- written in bytes, its fields in their ranges
pub plain_written : (w : What) (room : List ℕ) {b : List ℕ} → in_range w ≡ true → b ≡ message_bytes (plain w)
    → writing_message (plain w) room ≡ put b room
unfolding writing_message least
plain_written Request room f e = ap (λ (b : List ℕ). put b room) (sym e)
plain_written (Event way) room f e = rw f (ap (λ (b : List ℕ). put b room) (sym e))
plain_written (Result issue number ending) room f e = rw f (ap (λ (b : List ℕ). put b room) (sym e))
plain_written (Image bits apart) room f e = ap (λ (b : List ℕ). put b room) (sym e)
plain_written Ask room f e = ap (λ (b : List ℕ). put b room) (sym e)
plain_written (Answer number place issue) room f e = rw f (ap (λ (b : List ℕ). put b room) (sym e))
plain_written (Held bits apart) room f e = ap (λ (b : List ℕ). put b room) (sym e)

-- what is no request is written by what it says alone
pub as_plain : (w : What) (n : ℕ) (set room : List ℕ) → OneOf (1 ∷ 2 ∷ 3 ∷ 4 ∷ 5 ∷ 6 ∷ []) (tag_of what.the_type w)
    → writing_message (record { what = w; count = n; set = set }) room ≡ writing_message (plain w) room
unfolding writing_message
as_plain Request n set room h = absurd (miss (1 ∷ 2 ∷ 3 ∷ 4 ∷ 5 ∷ 6 ∷ []) 0 tt h)
as_plain (Event way) n set room h = refl
as_plain (Result issue number ending) n set room h = refl
as_plain (Image bits apart) n set room h = refl
as_plain Ask n set room h = refl
as_plain (Answer number place issue) n set room h = refl
as_plain (Held bits apart) n set room h = refl

-- a request, an image and an ask have no field with a range of its own
pub unranged : (w : What) → OneOf (0 ∷ 3 ∷ 4 ∷ 6 ∷ []) (tag_of what.the_type w) → true ≡ in_range w
unranged Request h = refl
unranged (Event way) h = absurd (miss (0 ∷ 3 ∷ 4 ∷ 6 ∷ []) 1 tt h)
unranged (Result issue number ending) h = absurd (miss (0 ∷ 3 ∷ 4 ∷ 6 ∷ []) 2 tt h)
unranged (Image bits apart) h = refl
unranged Ask h = refl
unranged (Answer number place issue) h = absurd (miss (0 ∷ 3 ∷ 4 ∷ 6 ∷ []) 5 tt h)
unranged (Held bits apart) h = refl

-- what a call leaves, told by another name
pub as_told : {v w : Writing} {r : Written} {last : List ℕ} → w ≡ v → LeavesMessage v r last → LeavesMessage w r last
as_told e l = (l.0 ∙ ap (λ (w : Writing). w.says) (sym e), l.1 ∙ ap (λ (w : Writing). w.leaves) (sym e))

-- ---- requests

-- so many instructions of this set
abbrev pub asking : ℕ → List ℕ → Message
asking n set = record { what = Request; count = n; set = set }

module _ (n : ℕ) (set room : List ℕ) where
  pub too_many : 8 < n → writing_message (asking n set) room ≡ nothing_written TooMany room
  unfolding writing_message
  too_many h = rw (lt-ltb 8 n h)

  pub bad_one : {bad : ℕ} → n ≤ 8 → bad ≡ least n (bad_in set) → bad < n → writing_message (asking n set) room ≡ nothing_written (BadField bad) room
  unfolding writing_message
  bad_one {bad} h e b = rw (← e, le-ltb 8 n h, lt-ltb bad n b)

  request_form : n ≤ 8 → length set ≡ 40 → take (5 + 5 * n) ((3 + 5 * n) ∷ 0 ∷ 1 ∷ 0 ∷ n ∷ set) ≡ message_bytes (asking n set)
  request_form h l =
      let k : length (take (5 * n) set) ≡ 5 * n = length-take-le (5 * n) set (omega arith) in
      let low : (2 + suc (5 * n)) % 256 ≡ 3 + 5 * n = omega arith in
      let high : (2 + suc (5 * n)) / 256 % 256 ≡ 0 = omega arith in
      take-append-add ((3 + 5 * n) ∷ 0 ∷ 1 ∷ 0 ∷ n ∷ []) set (5 * n) ∙ rw (k, low, high)

  pub all_good : {bad : ℕ} {m : List ℕ} → n ≤ 8 → bad ≡ least n (bad_in set) → n ≤ bad → length set ≡ 40
      → m ≡ (3 + 5 * n) ∷ 0 ∷ 1 ∷ 0 ∷ n ∷ set → writing_message (asking n set) room ≡ put (take (5 + 5 * n) m) room
  unfolding writing_message
  all_good {bad} h e b l f = rw (← e, le-ltb 8 n h, le-ltb bad n b, f, request_form h l)
