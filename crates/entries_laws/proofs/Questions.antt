-- A question on a record is told what a request of its one instruction would be. Assumes nothing.
use mathlib.Core.Path.{◌≡◌, refl, ap, ◌∙◌}
use native.Mathlib.Omega.{arith}
use mathlib.Core.Bool.{true, false, cond, ◌&&◌, and-false, or-false}
use mathlib.Core.List.{List}
use Prim.Native.Nat.{ℕ, ◌≤◌}
use borrow.Author.Tests.{le-ltb}
use lib.ListN.{length}
use Rattle.bits.specs.Bits.{bit, image}
use Rattle.bits.specs.Places.{share}
use Rattle.bits.specs.Search.{some, least}
use Rattle.bits.proofs.Cases.{split, both}
use Rattle.bits.proofs.Digits.{bit_none}
use Rattle.bits.proofs.Search.{none_is}
use Rattle.floor.specs.Floor.{lift}
use Rattle.floor.specs.Tests.{holds, under_way}
use Rattle.floor.specs.Sound.{sound}
use Rattle.answers.specs.Answers.{number_of}
use Rattle.rules.specs.declared.Instruction.{Instruction}
use Rattle.std.specs.declared.option.Option.{Option}
use Rattle.std.specs.declared.option.Option.TheVariants.{Some, None}
use Rattle.rules.specs.declared.Refusal.TheVariants.{NotAllowed, IllFormed}
use Rattle.std.specs.declared.result.Result.TheVariants.{Ok, Err}
use Rattle.rules.specs.Rules.{area_of, allowed, next_record}
use Rattle.rules.specs.Codes.{read_code, read_bytes, code_from}
use Rattle.rules.specs.Verdicts.{Verdict, is_allowed, verdict_of, moved_by, moved_of, answer_for, code_verdict}
use Rattle.rules.proofs.Reasons.{allows_is}
use Rattle.station.specs.Held.{code_at, held_parts, touches, is_good, held_area, held_allowed, overlaps_earlier, lift_in, crosses_drive, crosses}
use Rattle.station.specs.Station.{closed}
use Rattle.station.specs.Calls as station
use Rattle.station_laws.specs.Runs.{request, answer_number}
use Rattle.station_laws.proofs.Fits.{fit_closed}
use Rattle.rooms.specs.Questions.{moved, answer_to, request_answer}
use Rattle.rooms.proofs.Judging.{crossed_says, clear_says}
use Rattle.entries_laws.specs.Statements.{QuestionIsRequest}

-- where nothing is set apart, nothing touches it
untouched : (set : List ℕ) (i : ℕ) → touches set 0 i ≡ false
unfolding touches
untouched set i = none_is 64 _ (λ k h. rw (bit_none k) (and-false (bit (held_parts (code_at set i)) k)))

module _ (r after : ℕ) (five : List ℕ) (e : sound r ≡ true) (h : 5 ≤ length five) where
  -- what a request is told for a verdict on its one instruction, and a question
  told : (v : Verdict) (x : ℕ) → number_of (answer_to (moved_by v x)) ≡ cond (is_allowed v) 0 (number_of (answer_for v 0))
  told (Ok done) x = refl
  told (Err (NotAllowed why)) x = refl
  told (Err IllFormed) x = refl

  pub asked : (g : (Option Instruction)) → read_code (code_from five) ≡ g → number_of (request_answer r five) ≡ answer_number (closed r after 0) (request 1 five)
  unfolding station.request station.requested station.cleared station.spared station.accepted least some code_at is_good held_area held_allowed overlaps_earlier lift_in crosses_drive crosses code_verdict moved moved_of read_bytes
  asked None p = ap number_of (clear_says r five h (rw p (and-false (holds under_way (bit r))))) ∙ rw (le-ltb (length five) 5 h, p, fit_closed r after 0 e (omega arith))
  asked (Some i) p = split (holds under_way (bit r) && share (area_of i) lift)
      (λ c. let (u, l) = both (holds under_way (bit r)) (share (area_of i) lift) c in
      ap number_of (crossed_says r five h (rw p c)) ∙ rw (p, fit_closed r after 0 e (omega arith), u, l))
      (λ c. ap number_of (clear_says r five h (rw p c))
      ∙ rw (le-ltb (length five) 5 h, p, fit_closed r after 0 e (omega arith), or-false (share (area_of i) lift), c, untouched five 0)
      (told (verdict_of i r) (image (next_record i (bit r))) ∙ rw (allows_is i r) (split (allowed i (bit r)) (λ a. rw a) (λ a. rw (a, p)))))

pub question_is_request : QuestionIsRequest
question_is_request r after five e h = asked r after five e h (read_code (code_from five)) refl
