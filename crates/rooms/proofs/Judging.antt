-- What is answered of an instruction is told by its verdict, without the next record; and of the five bytes that say one. Assumes nothing.
use mathlib.Core.Path.{◌≡◌, refl, sym, ap, ap₂, ◌∙◌}
use mathlib.Core.Bool.{Bool, true, false, cond}
use mathlib.Core.List.{List}
use Prim.Native.Nat.{ℕ, ◌≤◌, ◌<◌}
use borrow.Author.Tests.{lt-ltb, le-ltb}
use lib.ListN.{length}
use Rattle.bits.specs.Bits.{bit, image}
use Rattle.rules.specs.declared.Instruction.{Instruction}
use Rattle.rules.specs.declared.Refusal.{Refusal}
use Rattle.rules.specs.declared.Refusal.TheVariants.{NotAllowed, IllFormed}
use Rattle.std.specs.declared.result.Result.TheVariants.{Ok, Err}
use Rattle.std.specs.declared.option.Option.{Option}
use Rattle.rules.specs.Rules.{next_record}
use Rattle.rules.specs.Codes.{read_bytes, code_from}
use Rattle.rules.specs.Verdicts.{Verdict, verdict_of, moved_by, moved_of, answer_for, on_code}
use Rattle.answers.specs.declared.Answer.{Answer}
use Rattle.answers.specs.declared.Answer.TheVariants.{TooFewBytes, OutOfTurn}
use Rattle.answers.specs.Answers.{nowhere}
use Rattle.station.specs.Held.{crosses}
use Rattle.rooms.specs.Rooms.{returned}
use Rattle.rooms.specs.Questions.{moved, answer_to, request_answer}

-- the answer for a verdict is the one with the next record
by_verdict : (v : Verdict) (x : ℕ) → answer_for v nowhere ≡ answer_to (moved_by v x)
by_verdict (Ok done) x = refl
by_verdict (Err (NotAllowed why)) x = refl
by_verdict (Err IllFormed) x = refl

pub judged_so : (i : Instruction) (r : ℕ) {v : Verdict} → v ≡ verdict_of i r → answer_for v nowhere ≡ answer_to (moved_of i r)
unfolding moved_of
judged_so i r e = ap (λ (v : Verdict). answer_for v nowhere) e ∙ by_verdict (verdict_of i r) (image (next_record i (bit r)))

-- ---- by the five bytes

module _ (r : ℕ) (five : List ℕ) (h : 5 ≤ length five) where
  -- what is answered where they are enough
  abbrev told : Bool → Bool → Answer
  told short crossed = cond short TooFewBytes (cond crossed OutOfTurn (answer_to (moved r five)))

  pub crossed_says : crosses (code_from five) r ≡ true → request_answer r five ≡ OutOfTurn
  unfolding request_answer
  crossed_says c = ap₂ told (le-ltb (length five) 5 h) c

  pub clear_says : crosses (code_from five) r ≡ false → request_answer r five ≡ answer_to (moved r five)
  unfolding request_answer
  clear_says c = ap₂ told (le-ltb (length five) 5 h) c

-- they are too few
pub too_few : (r : ℕ) (five : List ℕ) {x : ℕ} → length five < 5 → x ≡ returned TooFewBytes → x ≡ returned (request_answer r five)
unfolding request_answer
too_few r five h w = rw (lt-ltb _ _ h) w

-- it has the lift in its area under a driver
pub under_driver : (r : ℕ) (five : List ℕ) {x : ℕ} → 5 ≤ length five → crosses (code_from five) r ≡ true → x ≡ returned OutOfTurn → x ≡ returned (request_answer r five)
under_driver r five h c w = w ∙ ap returned (sym (crossed_says r five h c))

-- or else say an instruction, or none
pub by_reading : (r : ℕ) (five : List ℕ) {one known : (Option Instruction)} {x : ℕ} → 5 ≤ length five → crosses (code_from five) r ≡ false → one ≡ read_bytes five → one ≡ known
    → x ≡ returned (answer_to (on_code (λ i. moved_of i r) (Err Refusal.IllFormed) known)) → x ≡ returned (request_answer r five)
unfolding moved
by_reading r five h c e k w = w ∙ ap (λ (g : (Option Instruction)). returned (answer_to (on_code (λ i. moved_of i r) (Err Refusal.IllFormed) g))) (sym k ∙ e) ∙ ap returned (sym (clear_says r five h c))
