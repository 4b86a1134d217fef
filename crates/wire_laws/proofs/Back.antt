-- What was written reads back as what was meant, for every kind. Assumes nothing.
use mathlib.Core.Path.{◌≡◌, refl, sym, ◌∙◌, ap, ap₂}
use mathlib.Core.Bool.{Bool, true, false, cond, ◌&&◌}
use mathlib.Core.List.{List, [], ◌∷◌, ◌++◌}
use Prim.Native.Nat.{ℕ, suc, ◌+◌, ◌*◌, ◌^◌, ◌≤◌, ◌<◌}
use native.Mathlib.Omega.{arith}
use borrow.Author.Tests.{le-ltb, eq-eqb, ltb-false}
use lib.Dec.{ltb, eqb}
use lib.ListN.{length, take, drop}
use lib.Seq.{length-take-le, take-take}
use Rattle.bits.specs.Search.{least}
use Rattle.bits.proofs.Cases.{split, clash}
use Rattle.codec.specs.Bytes.{little_endian, from_little_endian}
use Rattle.answers.specs.declared.Answer.{Answer}
use Rattle.answers.specs.declared.Answer.TheVariants.{Taken, TooMany, BadField, NoRoom}
use Rattle.answers.specs.Answers.{number_of, nowhere}
use Rattle.std.specs.declared.result.Result.TheVariants.{Ok}
use Rattle.wire.specs.declared.What.{What}
use Rattle.wire.specs.declared.What.TheVariants.{Request, Event, Result, Image, Ask, Answer as AnswerOf, Held}
use Rattle.wire.specs.declared.Message.{Message}
use Rattle.wire.specs.Reads.{Received}
use Rattle.wire.specs.Kinds.{kind_of, request_kind, in_range, plain, requesting}
use Rattle.wire.specs.Reads.{bad_in, message_taken, read_request, read_whole, read_message}
use Rattle.wire.specs.Writes.{Writing, message_bytes, nothing_written, is_request, writing_message, one_form}
use Rattle.wire.proofs.Results.{number_said, size_said}
use Rattle.wire.proofs.Room.{asking}
use Rattle.wire_laws.specs.Statements.{MessageTyped, ReadsBack}
use Rattle.codec.proofs.Numbers.{number_back, two_back, two_bytes}
use Rattle.wire_laws.proofs.Instructions.{bad_same}
use Rattle.wire_laws.proofs.Messages.{read_back}

-- ---- what a call that wrote says of the message

-- it can be written: no more than eight instructions, none bad, the fields in their ranges
pub record Good (m : Message) : Type 0 where
  pub few : is_request m && ltb 8 m.count ≡ false
  pub fine : is_request m && ltb (least m.count (bad_in m.set)) m.count ≡ false
  pub ranged : in_range m.what ≡ true

-- and it was: all of it stands at the start of the room
pub record Wrote (m : Message) (room : List ℕ) : Type 0 where
  pub good : Good m
  pub all : writing_message m room ≡ record { says = Ok (length (message_bytes m)); leaves = message_bytes m ++ drop (length (message_bytes m)) room }

abbrev number_of_lem : Writing → ℕ
number_of_lem w = number_said w.says

-- the way of a chain of refusals to its end
passed : {G : Type 0} (a : Answer) (room : List ℕ) → 0 < number_of a → number_of_lem (nothing_written a room) ≡ 0 → G
passed a room h e = absurd (omega arith)

branch : {G : Type 0} (t : Bool) (x y : Writing) → number_of_lem (cond t x y) ≡ 0 → (t ≡ true → number_of_lem x ≡ 0 → G) → (t ≡ false → number_of_lem y ≡ 0 → G) → G
branch true x y e f g = f refl e
branch false x y e f g = g refl e

pub wrote : (m : Message) (room : List ℕ) (n : ℕ) → (writing_message m room).says ≡ Ok n → Wrote m room
unfolding writing_message
wrote m room n e =
    branch (is_request m && ltb 8 m.count) (nothing_written TooMany room) _ (ap number_said e) (λ _ z. passed TooMany room (omega arith) z)
    (λ a z. branch (is_request m && ltb (least m.count (bad_in m.set)) m.count) _ _ z (λ _ z. passed (BadField 0) room (omega arith) z)
    (λ b z. branch (in_range m.what) _ _ z
    (λ c z. branch (ltb (length room) (length (message_bytes m))) _ _ z (λ _ z. passed NoRoom room (omega arith) z)
    (λ d z. record { good = record { few = a; fine = b; ranged = c }; all = rw (a, b, c, d) }))
    (λ _ z. passed (BadField nowhere) room (omega arith) z)))

-- ---- messages that hold no instruction

-- what is made of an image's two numbers, in either direction
image_back : (f : ℕ → ℕ → Received) (bits apart : ℕ) → bits < 2 ^ 64 → apart < 2 ^ 64
    → f (from_little_endian 8 0 (little_endian 8 bits ++ little_endian 8 apart)) (from_little_endian 8 8 (little_endian 8 bits ++ little_endian 8 apart)) ≡ f bits apart
image_back f bits apart h g = let e = two_back 8 8 bits apart [] h g in ap₂ f e.0 e.1

plain_back : (w : What) (count : ℕ) (set t : List ℕ) → MessageTyped (record { what = w; count = count; set = set }) → Good (record { what = w; count = count; set = set })
    → eqb (kind_of w) request_kind ≡ false
    → read_message (message_bytes (record { what = w; count = count; set = set }) ++ t)
    ≡ message_taken (plain w) (length (message_bytes (record { what = w; count = count; set = set })))
unfolding read_whole
plain_back Request count set t p g r = clash refl r
plain_back (Event way) count set t p g r = read_back (3 ∷ 0 ∷ 2 ∷ 0 ∷ way ∷ []) t refl (omega arith) (omega arith) ∙ rw g.ranged
plain_back (Result issue number ending) count set t p g r =
    read_back (6 ∷ 0 ∷ 3 ∷ 0 ∷ little_endian 2 issue ++ number ∷ ending ∷ []) t refl (omega arith) (omega arith)
    ∙ rw g.ranged (ap (λ (i : ℕ). message_taken (plain (Result i number ending)) 8) (number_back 2 issue [] p.issue))
plain_back (Image bits apart) count set t p g r =
    read_back (18 ∷ 0 ∷ 4 ∷ 0 ∷ little_endian 8 bits ++ little_endian 8 apart) t refl (omega arith) (omega arith)
    ∙ image_back (λ (b a : ℕ). message_taken (plain (Image b a)) 20) bits apart p.image p.apart
plain_back Ask count set t p g r = read_back (2 ∷ 0 ∷ 5 ∷ 0 ∷ []) t refl (omega arith) (omega arith)
plain_back (AnswerOf number place issue) count set t p g r =
    read_back (6 ∷ 0 ∷ 128 ∷ 0 ∷ number ∷ place ∷ little_endian 2 issue) t refl (omega arith) (omega arith)
    ∙ rw g.ranged (ap (λ (i : ℕ). message_taken (plain (AnswerOf number place i)) 8) (number_back 2 issue [] p.issue))
plain_back (Held bits apart) count set t p g r =
    read_back (18 ∷ 0 ∷ 129 ∷ 0 ∷ little_endian 8 bits ++ little_endian 8 apart) t refl (omega arith) (omega arith)
    ∙ image_back (λ (b a : ℕ). message_taken (plain (Held b a)) 20) bits apart p.image p.apart

-- ---- requests

module _ (n : ℕ) (set : List ℕ) (few : n ≤ 8) (places : length set ≡ 40) where
  -- its bytes: five, and those of its instructions
  abbrev laid : List ℕ
  laid = (3 + 5 * n) ∷ 0 ∷ 1 ∷ 0 ∷ n ∷ take (5 * n) set

  size : length (take (5 * n) set) ≡ 5 * n
  size = length-take-le (5 * n) set (omega arith)

  request_bytes : message_bytes (asking n set) ≡ laid
  request_bytes =
      let k : 2 + suc (length (take (5 * n) set)) ≡ 3 + 5 * n = rw size (omega arith) in
      ap (λ (l : ℕ). little_endian 2 l ++ (1 ∷ 0 ∷ n ∷ take (5 * n) set)) k
      ∙ ap (λ (l : List ℕ). l ++ (1 ∷ 0 ∷ n ∷ take (5 * n) set)) (two_bytes (3 + 5 * n) (omega arith))

  request_back : (t : List ℕ) → n ≤ least n (bad_in set) → read_message (laid ++ t) ≡ message_taken (requesting n set) (length laid)
  unfolding read_whole read_request
  request_back t fine =
      let l : length laid ≡ 5 + 5 * n = rw size (omega arith) in
      let b : least n (bad_in (take (5 * n) set)) ≡ least n (bad_in set) =
      bad_same (take (5 * n) set) set n (omega (arith, size)) (omega arith) (take-take (5 * n) (5 * n) set (omega arith)) in
      read_back laid t (omega (arith, size)) (omega (arith, size)) (omega (arith, size))
      ∙ rw (b, take-take (5 * n) (5 * n) set (omega arith)) (simp (le-ltb (length laid) 5 (omega arith), le-ltb 8 n few, eq-eqb (length laid) (5 + 5 * n) l, le-ltb (least n (bad_in set)) n fine))

-- only a request has its kind
pub only_request : (w : What) → eqb (kind_of w) request_kind ≡ true → w ≡ Request
only_request Request e = refl
only_request (Event way) e = clash e refl
only_request (Result issue number ending) e = clash e refl
only_request (Image bits apart) e = clash e refl
only_request Ask e = clash e refl
only_request (AnswerOf number place issue) e = clash e refl
only_request (Held bits apart) e = clash e refl

-- ---- every message

request_form : (m : Message) → is_request m ≡ true → one_form m ≡ requesting m.count m.set
unfolding one_form
request_form m r = rw r

plain_form : (m : Message) → is_request m ≡ false → one_form m ≡ plain m.what
unfolding one_form
plain_form m r = rw r

bytes_back : (m : Message) (t : List ℕ) → MessageTyped m → Good m → read_message (message_bytes m ++ t) ≡ message_taken (one_form m) (length (message_bytes m))
bytes_back m t p g = split (is_request m)
    (λ r.
    let few = ltb-false 8 m.count (rw r at g.few) in
    let fine = ltb-false (least m.count (bad_in m.set)) m.count (rw r at g.fine) in
    let same : message_bytes m ≡ laid m.count m.set few p.places =
    ap (λ (w : What). message_bytes (record { what = w; count = m.count; set = m.set })) (only_request m.what r)
    ∙ request_bytes m.count m.set few p.places in
    ap (λ (b : List ℕ). read_message (b ++ t)) same
    ∙ request_back m.count m.set few p.places t fine
    ∙ ap₂ message_taken (sym (request_form m r)) (ap length (sym same)))
    (λ r. plain_back m.what m.count m.set t p g r ∙ ap (λ (a : Message). message_taken a (length (message_bytes m))) (sym (plain_form m r)))

pub reads_back : ReadsBack
reads_back m room n p e =
    let w = wrote m room n e in
    let size : length (message_bytes m) ≡ n = ap size_said (sym (ap (λ (x : Writing). x.says) w.all) ∙ e) in
    rw w.all (bytes_back m (drop (length (message_bytes m)) room) p w.good ∙ ap (message_taken (one_form m)) size)
