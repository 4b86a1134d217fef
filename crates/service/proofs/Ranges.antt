-- What every reply has: its fields are in their ranges, its number one of the table's and not 17, its place one of eight or none, so that
-- it can be written and reads back; and where it refuses, the station is as it was. Assumes nothing.
use mathlib.Core.Path.{◌≡◌, refl, sym, ap, ◌∙◌}
use mathlib.Core.Logic.{◌⊎◌, inl, inr}
use mathlib.Core.Bool.{true, not, ◌||◌}
use mathlib.Core.List.{List}
use Prim.Native.Nat.{ℕ, ◌≤◌, ◌<◌}
use native.Mathlib.Omega.{arith}
use borrow.Author.Tests.{le-leb, leb-true, eqb-true, eqb-false, ne_eqb, not-true}
use lib.Dec.{leb, eqb}
use Rattle.bits.proofs.Cases.{split, both}
use Rattle.answers.specs.declared.Answer.{Answer}
use Rattle.answers.specs.Answers.{number_of, in_table, place_of}
use Rattle.answers.proofs.Promises.{answer_in}
use Rattle.station.specs.declared.Station.{Station}
use Rattle.station.specs.declared.Outcome.{Outcome}
use Rattle.station_laws.specs.Runs.{call}
use Rattle.station_laws.proofs.EachCall.{not_seventeen}
use Rattle.station_laws.proofs.Demands.{refused_untouched, places_in_range}
use Rattle.wire.specs.declared.What.{What}
use Rattle.wire.specs.declared.What.TheVariants.{Request, Event, Result, Image, Ask, Held}
use Rattle.wire.specs.Kinds.{in_range}
use Rattle.wire.specs.Reads.{read_asked}
use Rattle.service.specs.declared.Reply.{Reply}
use Rattle.service.specs.Service.{called, answer_message, reply_of, respond}
use Rattle.service.specs.Statements.{RepliesInRange, Answers, AlwaysAnswered, RefusedKeeps, NeverSeventeen}
use Rattle.service.proofs.Readings.{tellable, ways, read_fine}
use Rattle.service.proofs.Called.{each_called}

-- the outcome of a call on s: an answer that a message can be told; refused, s is as it was
record Outcome-fine (s : Station) (o : Outcome) : Type 0 where
  outcome : tellable o.answer ≡ true
  kept : (number_of o.answer ≡ 0 → ⊥) → o.station ≡ s

-- a reply on s: it can be written; it is an image or an answer; refused, s is as it was; it isn't 17
record Reply-fine (s : Station) (r : Reply) : Type 0 where
  written : in_range r.answer ≡ true
  answers : Answers r.answer
  kept : (number place issue : ℕ) → r.answer ≡ What.Answer number place issue → (number ≡ 0 → ⊥) → r.station ≡ s
  never : (place issue : ℕ) → r.answer ≡ What.Answer 17 place issue → ⊥

-- ---- the call

-- an answer whose place is in its range, and that isn't 17
tells : (a : Answer) → (place_of a < 8) ⊎ (place_of a ≡ 255) → (number_of a ≡ 17 → ⊥) → tellable a ≡ true
tells a (inl h) n = rw (answer_in a, le-leb (place_of a) 7 (omega arith), ne_eqb (number_of a) 17 n)
tells a (inr e) n = rw (answer_in a, e, ne_eqb (number_of a) 17 n)

called_fine : (s : Station) (w : What) (count : ℕ) (set : List ℕ) → Outcome-fine s (called w s count set)
called_fine s w count set =
    each_called (Outcome-fine s) s
    (λ c. record { outcome = tells (call s c).answer (places_in_range s c) (not_seventeen s c); kept = refused_untouched s c })
    w count set (λ _. record { outcome = refl; kept = λ _. refl })

-- ---- the reply

-- the number that a message answers with
abbrev number_in : What → ℕ
number_in (What.Answer number place issue) = number
number_in (Held bits apart) = 0
number_in Request = 0
number_in (Event way) = 0
number_in (Result issue number ending) = 0
number_in (Image bits apart) = 0
number_in Ask = 0

-- the place of an answer that a message can be told
placed : (a : Answer) → tellable a ≡ true → (place_of a ≤ 7) ⊎ (place_of a ≡ 255)
placed a e =
    let r = (both (in_range (answer_message a)) (not (eqb (number_of a) 17)) e).0 in
    let p = (both (in_table (number_of a)) (leb (place_of a) 7 || eqb (place_of a) 255) r).1 in
    split (leb (place_of a) 7) (λ t. inl (leb-true (place_of a) 7 t)) (λ t. inr (eqb-true (place_of a) 255 (rw t at p)))

module _ (s : Station) where
  -- an image
  shown : {t : Station} {bits apart : ℕ} → Reply-fine s (record { station = t; answer = Held bits apart })
  shown = record {
    written = refl;
    answers = tt;
    kept = λ number place issue e n. absurd (n (sym (ap number_in e)));
    never = λ place issue e. let z = ap number_in e in omega arith;
  }

  -- an answer
  told : (t : Station) (a : Answer) → tellable a ≡ true → ((number_of a ≡ 0 → ⊥) → t ≡ s) → Reply-fine s (record { station = t; answer = answer_message a })
  told t a e k =
      let (r, n) = both (in_range (answer_message a)) (not (eqb (number_of a) 17)) e in
      record {
        written = r;
        answers = ((a, refl), placed a e);
        kept = λ number place issue f z. k (λ o. z (sym (ap number_in f) ∙ o));
        never = λ place issue f. eqb-false (number_of a) 17 (not-true _ n) (ap number_in f);
      }

  reply_fine : (w : What) (o : Outcome) → Outcome-fine s o → Reply-fine s (reply_of w o)
  reply_fine Request o f = told o.station o.answer f.outcome f.kept
  reply_fine (Event way) o f = told o.station o.answer f.outcome f.kept
  reply_fine (Result issue number ending) o f = told o.station o.answer f.outcome f.kept
  reply_fine (Image bits apart) o f = told o.station o.answer f.outcome f.kept
  reply_fine Ask o f = split (eqb (number_of o.answer) 0) (λ t. rw t shown) (λ t. rw t (told o.station o.answer f.outcome f.kept))
  reply_fine (What.Answer number place issue) o f = told o.station o.answer f.outcome f.kept
  reply_fine (Held bits apart) o f = told o.station o.answer f.outcome f.kept

  replied : (bytes : List ℕ) → Reply-fine s (respond s bytes)
  unfolding respond
  replied bytes =
      let m = (read_asked bytes).message in
      ways (Reply-fine s) (eqb (number_of (read_asked bytes).answer) 0)
      (λ _. reply_fine m.what (called m.what s m.count m.set) (called_fine s m.what m.count m.set))
      (λ _. told s (read_asked bytes).answer (read_fine bytes).told (λ _. refl))

pub replies_in_range : RepliesInRange
replies_in_range s bytes = (replied s bytes).written

pub always_answered : AlwaysAnswered
always_answered s bytes = (replied s bytes).answers

pub refused_keeps : RefusedKeeps
refused_keeps s bytes = (replied s bytes).kept

pub never_seventeen : NeverSeventeen
never_seventeen s bytes = (replied s bytes).never
