-- What reading a message answers: a kind of one size by its fields, and a request case by case of its chain of refusals. Assumes nothing.
use mathlib.Core.Path.{◌≡◌, refl, sym, ◌∙◌, ap, ap₂}
use mathlib.Core.Bool.{Bool, true, false, cond}
use mathlib.Core.List.{List, ◌++◌}
use Prim.Native.Nat.{ℕ, ◌+◌, ◌*◌, ◌-◌, ◌≤◌, ◌<◌}
use native.Mathlib.Omega.{arith}
use borrow.Author.Tests.{lt-ltb, le-ltb, ltb-true, ltb-false, ne_eqb, eq-eqb}
use lib.Dec.{ltb, eqb}
use lib.ListN.{get_or, length, take, drop, replicate, get_or-eq_default}
use Rattle.bits.specs.Search.{least}
use Rattle.bits.proofs.Cases.{split}
use Rattle.codec.specs.Bytes.{from_little_endian}
use Rattle.std.specs.declared.result.Result as kept
use Rattle.std.specs.declared.result.Result.TheVariants.{Ok, Err}
use Rattle.answers.specs.declared.Answer as answer
use Rattle.answers.specs.declared.Answer.TheVariants.{BadLength, BadField, TooMany}
use Rattle.answers.specs.Answers.{number_of}
use Rattle.wire.specs.declared.What.{What}
use Rattle.wire.specs.declared.Message.{Message}
use Rattle.wire.specs.declared.Parsed.{Parsed}
use Rattle.wire.specs.declared.What.TheVariants.{Request, Event, Result, Image, Answer, Held}
use Rattle.wire.specs.Kinds.{event_kind, result_kind, image_kind, answer_kind, held_kind}
use Rattle.wire.specs.Reads.{Received, as_parsed, said_in, message_refused, message_taken, sized, bad_in, read_request}
use Rattle.wire.proofs.Results.{chose_ok, chose_err}
use Rattle.wire.proofs.Parts.{from_on, set_of_lem}

-- ---- fields

module _ (m : List ℕ) where
  pub event_said : {way : ℕ} → way ≡ get_or m 4 0 → sized m 5 (Event way) ≡ sized m 5 (event_kind.says m)
  event_said e = ap (λ (way : ℕ). sized m 5 (Event way)) e

  pub result_said : {issue number ending : ℕ} → issue ≡ from_little_endian 2 4 m → number ≡ get_or m 6 0 → ending ≡ get_or m 7 0
      → sized m 8 (Result issue number ending) ≡ sized m 8 (result_kind.says m)
  result_said {ending = ending} e f g =
      ap₂ (λ (issue number : ℕ). sized m 8 (Result issue number ending)) e f
      ∙ ap (λ (ending : ℕ). sized m 8 (Result (from_little_endian 2 4 m) (get_or m 6 0) ending)) g

  pub image_said : {bits apart : ℕ} → bits ≡ from_little_endian 8 4 m → apart ≡ from_little_endian 8 12 m
      → sized m 20 (Image bits apart) ≡ sized m 20 (image_kind.says m)
  image_said e f = ap₂ (λ (bits apart : ℕ). sized m 20 (Image bits apart)) e f

  pub answer_said : {number place issue : ℕ} → number ≡ get_or m 4 0 → place ≡ get_or m 5 0 → issue ≡ from_little_endian 2 6 m
      → sized m 8 (Answer number place issue) ≡ sized m 8 (answer_kind.says m)
  answer_said {issue = issue} e f g =
      ap₂ (λ (number place : ℕ). sized m 8 (Answer number place issue)) e f
      ∙ ap (λ (issue : ℕ). sized m 8 (Answer (get_or m 4 0) (get_or m 5 0) issue)) g

  pub held_said : {bits apart : ℕ} → bits ≡ from_little_endian 8 4 m → apart ≡ from_little_endian 8 12 m
      → sized m 20 (Held bits apart) ≡ sized m 20 (held_kind.says m)
  held_said e f = ap₂ (λ (bits apart : ℕ). sized m 20 (Held bits apart)) e f

-- ---- requests

-- two ways to the same answer
same : {A : Type 0} (t : Bool) (x : A) → cond t x x ≡ x
same true x = refl
same false x = refl

-- of a message whose count is n; a count that is not there is 0
module _ (m : List ℕ) {n : ℕ} (e : n ≡ get_or m 4 0) where
  there : 0 < n → 5 ≤ length m
  there h = split (ltb (length m) 5)
      (λ t. let l = ltb-true (length m) 5 t in
      let z : get_or m 4 0 ≡ 0 = get_or-eq_default m 0 (omega arith) in
      absurd (omega arith))
      (λ t. ltb-false (length m) 5 t)

  pub read_too_many : 8 < n → read_request m ≡ message_refused TooMany (length m)
  unfolding read_request
  read_too_many h = let l : 5 ≤ length m = there (omega arith) in rw (← e, le-ltb (length m) 5 l, lt-ltb 8 n h)

  pub read_bad_length : n ≤ 8 → (length m ≡ 5 + 5 * n → ⊥) → read_request m ≡ message_refused BadLength (length m)
  unfolding read_request
  read_bad_length h k = rw (← e, le-ltb 8 n h, ne_eqb (length m) (5 + 5 * n) k, same (ltb (length m) 5) (message_refused BadLength (length m)))

  module _ (h : n ≤ 8) (k : length m ≡ 5 + 5 * n) {bad : ℕ} (f : bad ≡ least n (bad_in (drop 5 m))) where
    pub read_bad_one : bad < n → read_request m ≡ message_refused (BadField bad) (length m)
    unfolding read_request
    read_bad_one b =
        let l : 5 ≤ length m = omega arith in
        rw (← e, ← f, le-ltb (length m) 5 l, le-ltb 8 n h, eq-eqb (length m) (5 + 5 * n) k, lt-ltb bad n b)

    pub read_all_good : {set : List ℕ} → n ≤ bad
        → set ≡ take (length m - 5) (drop 5 m) ++ replicate (40 - length (take (length m - 5) (drop 5 m))) 0
        → message_taken (record { what = Request; count = n; set = set }) (length m) ≡ read_request m
    unfolding read_request
    read_all_good {set} b g =
        let l : 5 ≤ length m = omega arith in
        let s : set ≡ take (5 * n) (drop 5 m) ++ replicate (40 - 5 * n) 0 =
        g ∙ ap (λ (r : List ℕ). r ++ replicate (40 - length r) 0) (from_on m 5) ∙ set_of_lem m n k in
        rw (← e, ← f, le-ltb (length m) 5 l, le-ltb 8 n h, eq-eqb (length m) (5 + 5 * n) k, le-ltb bad n b, s)

-- ---- as code holds it

pub parsed_ok : (r : Received) {x : Parsed} {y : Message} → x ≡ as_parsed r → x.says ≡ Ok y → (eqb (number_of r.answer) 0 ≡ true) × (r.message ≡ y)
parsed_ok r e f = chose_ok (eqb (number_of r.answer) 0) r.message r.answer (sym (ap (λ (x : Parsed). x.says) e) ∙ f)

pub parsed_err : (r : Received) {x : Parsed} {a : answer.Answer} → x ≡ as_parsed r → x.says ≡ Err a → (eqb (number_of r.answer) 0 ≡ false) × (r.answer ≡ a)
parsed_err r e f = chose_err (eqb (number_of r.answer) 0) r.message r.answer (sym (ap (λ (x : Parsed). x.says) e) ∙ f)

pub said_ok : (r : Received) {x : kept.Result What answer.Answer} {w : What} → x ≡ said_in r → x ≡ Ok w → (eqb (number_of r.answer) 0 ≡ true) × (r.message.what ≡ w)
said_ok r e f = chose_ok (eqb (number_of r.answer) 0) r.message.what r.answer (sym e ∙ f)

pub said_err : (r : Received) {x : kept.Result What answer.Answer} {a : answer.Answer} → x ≡ said_in r → x ≡ Err a → (eqb (number_of r.answer) 0 ≡ false) × (r.answer ≡ a)
said_err r e f = chose_err (eqb (number_of r.answer) 0) r.message.what r.answer (sym e ∙ f)

-- without the places of a set
pub what_said : (r : Received) {x : Parsed} {y : Message} → x ≡ as_parsed r → x.says ≡ Ok y → Ok y.what ≡ said_in r
what_said r e f = let p = parsed_ok r e f in ap (λ (y : Message). Ok y.what) (sym p.1) ∙ rw p.0

pub why_said : (r : Received) {x : Parsed} {a : answer.Answer} → x ≡ as_parsed r → x.says ≡ Err a → Err a ≡ said_in r
why_said r e f = let p = parsed_err r e f in ap Err (sym p.1) ∙ rw p.0
