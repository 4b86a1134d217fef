-- What is answered for an instruction of a set that is not allowed: a reason, if its bytes say an instruction. Assumes nothing.
use mathlib.Core.Path.{◌≡◌, refl, sym, ap, ◌∙◌}
use mathlib.Core.Logic.{◌⊎◌, inl, inr}
use mathlib.Core.Bool.{Bool, true, false}
use mathlib.Core.List.{List}
use Prim.Native.Nat.{ℕ, ◌≤◌}
use lib.Dec.{ltb}
use borrow.Author.Tests.{not-true, ltb-true}
use Rattle.bits.specs.Bits.{bit}
use Rattle.bits.specs.Search.{least, IsLeast}
use Rattle.bits.proofs.Cases.{clash}
use Rattle.bits.proofs.Least.{found_least}
use Rattle.answers.specs.declared.Reason.{Reason}
use Rattle.answers.specs.declared.Answer.TheVariants.{BadField, NotAllowed}
use Rattle.answers.specs.Answers.{number_of}
use Rattle.answers.proofs.Promises.{reason_from, reason_to}
use Rattle.rules.specs.declared.Instruction.{Instruction}
use Rattle.rules.specs.declared.Refusal.{Refusal}
use Rattle.std.specs.declared.result.Result.TheVariants.{Err}
use Rattle.std.specs.declared.option.Option.{Option}
use Rattle.std.specs.declared.option.Option.TheVariants.{Some, None}
use Rattle.rules.specs.Codes.{read_code}
use Rattle.rules.specs.Verdicts.{Verdict, verdict_of, code_verdict, answer_for, on_code}
use Rattle.rules.proofs.CodeLaws.{one_form_lem}
use Rattle.rules.proofs.Reasons.{refused_why}
use Rattle.station.specs.Held.{code_at, is_good, held_allowed, barred, why_not}

-- the least at fault, where one is found
pub least_fault : (n : ℕ) (fault : ℕ → Bool) → ltb (least n fault) n ≡ true → IsLeast n fault (least n fault)
least_fault n fault t = found_least n fault (ltb-true (least n fault) n t)

module _ (set : List ℕ) (r i : ℕ) where
  -- the bytes at i say an instruction that is refused, and why
  pub record Refused : Type 0 where
    pub why : Reason
    pub instruction : Instruction
    pub says : read_code (code_at set i) ≡ Some instruction
    pub verdict : verdict_of instruction r ≡ Err (Refusal.NotAllowed why)
    pub told : why_not set r i ≡ NotAllowed why i

  -- what is answered for the instruction that they say
  pub told_by : (j : Instruction) → read_code (code_at set i) ≡ Some j → why_not set r i ≡ answer_for (verdict_of j r) i
  unfolding code_verdict
  told_by j e = ap (λ (g : (Option Instruction)). answer_for (on_code (λ j. verdict_of j r) (Err Refusal.IllFormed) g) i) e

  module _ (no : barred set r i ≡ true) where
    barred_says : ((is_good (code_at set i) ≡ false) × (why_not set r i ≡ BadField i)) ⊎ Refused
    unfolding is_good held_allowed code_verdict
    barred_says = read (read_code (code_at set i)) refl
      where
        read : (g : (Option Instruction)) → read_code (code_at set i) ≡ g → ((is_good (code_at set i) ≡ false) × (why_not set r i ≡ BadField i)) ⊎ Refused
        read None e = inl (rw e, rw e)
        read (Some j) e =
            let (why, v) = refused_why j r (one_form_lem (code_at set i) j e).1 (sym (rw e) ∙ not-true (held_allowed (code_at set i) (bit r)) no) in
            inr record { why = why; instruction = j; says = e; verdict = v; told = told_by j e ∙ ap (λ (v : Verdict). answer_for v i) v }

    -- bytes that say an instruction are told why not
    pub good_refused : is_good (code_at set i) ≡ true → Refused
    good_refused g = go barred_says
      where
        go : ((is_good (code_at set i) ≡ false) × (why_not set r i ≡ BadField i)) ⊎ Refused → Refused
        go (inl h) = clash g h.0
        go (inr h) = h

    -- the number is 4 or a reason's
    pub why_number : (number_of (why_not set r i) ≡ 4) ⊎ ((20 ≤ number_of (why_not set r i)) × (number_of (why_not set r i) ≤ 28))
    why_number = go barred_says
      where
        go : ((is_good (code_at set i) ≡ false) × (why_not set r i ≡ BadField i)) ⊎ Refused → (number_of (why_not set r i) ≡ 4) ⊎ ((20 ≤ number_of (why_not set r i)) × (number_of (why_not set r i) ≤ 28))
        go (inl h) = inl (ap number_of h.1)
        go (inr h) = inr (rw h.told (reason_from h.why, reason_to h.why))
