-- Results where nothing is judged: refusals are as they were, a success leaves the next record, and on a fit station that is what is
-- promised. Assumes nothing.
use Rattle.std.proofs.Common.{◌≡◌, ℕ, ◌^◌, Bool, true, false, cond, not, ◌&&◌, eqb, ltb, sym, refl, ap, ◌∙◌, eqb-true}
use mathlib.Core.Bool.{and-false}
use lib.Bits.{bit_or}
use borrow.Author.Tests.{not-false}
use Rattle.bits.specs.Bits.{bit}
use Rattle.bits.specs.Search.{every}
use Rattle.bits.proofs.Cases.{split, clash, both}
use Rattle.answers.specs.declared.Answer.{Answer}
use Rattle.answers.specs.Answers.{number_of}
use Rattle.engine.specs.Judged.{code_next}
use Rattle.station.specs.declared.Station.{Station}
use Rattle.station.specs.declared.Outcome.{Outcome}
use Rattle.station.specs.declared.Report.{Report}
use Rattle.station.specs.declared.Turn.{Turn}
use Rattle.station.specs.Held.{code_at, held_after}
use Rattle.station.specs.Station.{in_set, marked, present_issue, late, fit, answering, apart_with}
use Rattle.station.specs.Calls.{refused, taken, ended, numbered, timely, resulted}
use Rattle.station.specs.Turns.{turn_of, with_record, unjudged, settled}
use Rattle.station.proofs.Marks.{in_set_lem, waiting_allowed}
use Rattle.station.proofs.Moves.{held_done}

-- a refusal is told as it is
pub refused_as : (s : Station) (i ending : ℕ) (a : Answer) {o : Outcome} → eqb (number_of a) 0 ≡ false → refused s a ≡ o → turn_of (refused s a) ≡ unjudged s i ending o
refused_as s i ending a q e =
    ap (λ (b : Bool). cond b (with_record (code_next (code_at s.set i) s.bits) (turn_of (refused s a))) (turn_of (refused s a)))
    (sym (ap (λ (b : Bool). eqb ending 1 && b) q ∙ and-false (eqb ending 1)))
    ∙ ap (unjudged s i ending) e

-- an instruction that is answered: the record is the one that was handed over
module _ (s : Station) (i apart : ℕ) where
  pub answered_record : (n : ℕ) → (answering s i n apart).bits ≡ n
  unfolding answering
  answered_record n = split (every s.count (bit (bit_or s.answered (2 ^ i)))) (λ t. rw t) (λ t. rw t)

  answered_with : (n m : ℕ) → turn_of (taken (answering s i n apart)) ≡ with_record n (turn_of (taken (answering s i m apart)))
  unfolding answering
  answered_with n m = split (every s.count (bit (bit_or s.answered (2 ^ i)))) (λ t. rw t) (λ t. rw t)

-- the end of a result
module _ (s : Station) (i ending : ℕ) where
  pub done_as : {n : ℕ} → eqb ending 1 ≡ true → n ≡ code_next (code_at s.set i) s.bits → turn_of (taken (answering s i n s.apart)) ≡ unjudged s i ending (ended s i ending)
  unfolding ended
  done_as {n} e q = rw (eqb-true ending 1 e, q) (answered_with s i s.apart (code_next (code_at s.set i) s.bits) (held_after (code_at s.set i) s.bits))

  pub stuck_as : eqb ending 1 ≡ false → eqb ending 2 ≡ true → turn_of (taken (answering s i s.bits (apart_with s i))) ≡ unjudged s i ending (ended s i ending)
  unfolding ended
  stuck_as e q = rw (e, q)

  pub failed_as : eqb ending 1 ≡ false → eqb ending 2 ≡ false → turn_of (taken (answering s i s.bits s.apart)) ≡ unjudged s i ending (ended s i ending)
  unfolding ended
  failed_as e q = rw (e, q)

-- ---- what a success has

module _ (s : Station) (r : Report) (done : eqb r.ending 1 ≡ true) where
  -- it is of an instruction that waits, and leaves the record after it
  pub record Success (o : Outcome) : Type 0 where
    pub gains : eqb (number_of o.answer) 0 ≡ true
        → (o.station.bits ≡ held_after (code_at s.set r.number) s.bits) × (in_set s r.number ≡ true) × (marked s r.number ≡ false)

  no : (a : Answer) → eqb (number_of a) 0 ≡ false → Success (refused s a)
  no a q = record { gains = λ t. clash t q }

  either : (t : Bool) {o p : Outcome} → (t ≡ true → Success o) → (t ≡ false → Success p) → Success (cond t o p)
  either true f g = f refl
  either false f g = g refl

  unless : (t : Bool) (a : Answer) {o : Outcome} → eqb (number_of a) 0 ≡ false → (t ≡ false → Success o) → Success (cond t (refused s a) o)
  unless t a q f = either t (λ _. no a q) f

  success_ended : in_set s r.number ≡ true → marked s r.number ≡ false → Success (ended s r.number r.ending)
  unfolding ended
  success_ended h m = record { gains = λ _. (answered_record s r.number _ _ ∙ rw done, h, m) }

  success_numbered : Success (numbered s r.number r.ending)
  unfolding numbered
  success_numbered =
      unless (not (in_set s r.number)) _ refl (λ h. unless (marked s r.number) _ refl (λ m. success_ended (not-false (in_set s r.number) h) m))

  success_timely : Success (timely s r)
  unfolding timely
  success_timely = unless (late s r.issue) _ refl (λ _. either (eqb r.issue (present_issue s)) (λ _. success_numbered) (λ _. no _ refl))

  pub success : Success (resulted s r)
  unfolding resulted
  success = unless (ltb 2 r.ending) _ refl (λ _. unless (eqb s.count 0) _ refl (λ _. success_timely))

-- ---- with and without a judgement

module _ (s : Station) (r : Report) where
  -- the answer is the same
  pub answer_kept : {t : Turn} → t ≡ settled s r → t.answer ≡ (resulted s r).answer
  unfolding settled
  answer_kept e = ap (λ (t : Turn). t.answer) e ∙ split (eqb r.ending 1 && eqb (number_of (resulted s r).answer) 0) (λ t. rw t) (λ t. rw t)

  -- a success that is judged after all
  pub judged_after : {t : Turn} {n k : ℕ} → t ≡ settled s r → n ≡ held_after (code_at s.set r.number) s.bits → k ≡ number_of t.answer
      → eqb r.ending 1 && eqb k 0 ≡ true → with_record n t ≡ turn_of (resulted s r)
  unfolding settled
  judged_after {t} {n} {k} e q f b =
      let (done, z) = both (eqb r.ending 1) (eqb k 0) b in
      let well : eqb (number_of (resulted s r).answer) 0 ≡ true = ap (λ (x : ℕ). eqb x 0) (sym (f ∙ ap number_of (answer_kept e))) ∙ z in
      let next = with_record (code_next (code_at s.set r.number) s.bits) (turn_of (resulted s r)) in
      let same : settled s r ≡ next = rw (done, well) in
      ap (with_record n) (e ∙ same) ∙ ap (λ (x : ℕ). with_record x (turn_of (resulted s r))) (q ∙ sym ((success s r done).gains well).0)

  -- what is no success was not judged
  pub unjudged_same : {t : Turn} {k : ℕ} → t ≡ settled s r → k ≡ number_of t.answer → eqb r.ending 1 && eqb k 0 ≡ false → t ≡ turn_of (resulted s r)
  unfolding settled
  unjudged_same {t} {k} e f b =
      e ∙ ap (λ (b : Bool). cond b (with_record (code_next (code_at s.set r.number) s.bits) (turn_of (resulted s r))) (turn_of (resulted s r)))
      (ap (λ (x : ℕ). eqb r.ending 1 && eqb x 0) (sym (f ∙ ap number_of (answer_kept e))) ∙ b)

  -- on a fit station what waits is allowed, and nothing need be judged
  pub settled_fit : fit s ≡ true → settled s r ≡ turn_of (resulted s r)
  unfolding settled
  settled_fit h =
      split (eqb r.ending 1 && eqb (number_of (resulted s r).answer) 0)
      (λ t. let (done, well) = both (eqb r.ending 1) (eqb (number_of (resulted s r).answer) 0) t in
      let (after, here, waits) = (success s r done).gains well in
      let x = code_at s.set r.number in
      rw t (ap (λ (n : ℕ). with_record n (turn_of (resulted s r)))
      (held_done x s.bits (waiting_allowed s r.number h (in_set_lem s r.number here).1 waits) ∙ sym after)))
      (λ t. rw t)
