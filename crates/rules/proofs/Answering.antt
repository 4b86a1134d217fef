-- From the code's two tests of an instruction, whether it is well formed and what its conditions say, to what it answers: the same for
-- every instruction. Assumes nothing.
use mathlib.Core.Path.{◌≡◌, sym, ap, ◌∙◌}
use mathlib.Core.Bool.{true, false}
use Prim.Native.Nat.{ℕ}
use Rattle.bits.specs.Bits.{bit, image}
use Rattle.bits.proofs.Cases.{both, and_intro}
use Rattle.floor.specs.Tests.{all_hold}
use Rattle.answers.specs.declared.Reason.{Reason}
use Rattle.rules.specs.declared.Instruction.{Instruction}
use Rattle.rules.specs.declared.Refusal.{Refusal}
use Rattle.std.specs.declared.result.Result.TheVariants.{Ok, Err}
use Rattle.rules.specs.Rules.{well_formed, clauses, conditions, allowed, next_record}
use Rattle.rules.specs.Verdicts.{Verdict, judged, verdict_of, is_allowed, moved_by, moved_of}
use Rattle.rules.proofs.Reasons.{judged_allows, allowed_exactly}

module _ (i : Instruction) (r : ℕ) where
  pub ill_formed : well_formed i ≡ false → (Err Refusal.IllFormed ≡ verdict_of i r) × (Err Refusal.IllFormed ≡ moved_of i r)
  unfolding verdict_of moved_of
  ill_formed w = (rw w, rw w)

  -- the next record is answered, or what the verdict says
  pub moved_by_lem : {v : Verdict} → v ≡ verdict_of i r → moved_by v (image (next_record i (bit r))) ≡ moved_of i r
  unfolding moved_of
  moved_by_lem e = ap (λ (v : Verdict). moved_by v (image (next_record i (bit r)))) e

  -- where it is answered, the instruction is well formed and allowed
  pub moves : Ok tt ≡ verdict_of i r → (well_formed i ≡ true) × (allowed i (bit r) ≡ true)
  unfolding allowed
  moves e = let a = (allowed_exactly i r).0 (sym e) in ((both (well_formed i) (all_hold (conditions i) (bit r)) a).0, a)

  module _ (w : well_formed i ≡ true) where
    -- what its conditions say is the verdict
    pub is_verdict : {v : Verdict} → v ≡ judged (clauses i) (bit r) → v ≡ verdict_of i r
    unfolding verdict_of
    is_verdict e = rw w e

    pub not_moved : {why : Reason} → Err (Refusal.NotAllowed why) ≡ judged (clauses i) (bit r) → Err (Refusal.NotAllowed why) ≡ moved_of i r
    unfolding verdict_of moved_of
    not_moved e = rw (w, sym e)

    pub has_moved : {x : ℕ} → Ok tt ≡ judged (clauses i) (bit r) → x ≡ image (next_record i (bit r)) → Ok x ≡ moved_of i r
    unfolding verdict_of moved_of
    has_moved e q = rw (w, sym e) (ap Ok q)

    -- where they all hold it is allowed
    pub is_allowed_lem : Ok tt ≡ judged (clauses i) (bit r) → allowed i (bit r) ≡ true
    unfolding allowed
    is_allowed_lem e = and_intro w (sym (judged_allows (clauses i) (bit r)) ∙ ap is_allowed (sym e))
