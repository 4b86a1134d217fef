-- The promises of specs/Promises.antt on verdicts: conditions are judged by the first that fails. Assumes nothing.
use mathlib.Core.Path.{◌≡◌, refl, sym, ap, ◌∙◌}
use mathlib.Core.Bool.{Bool, true, false, cond, true≢false}
use mathlib.Core.List.{List, [], ◌∷◌, ◌++◌, map}
use Prim.Native.Nat.{ℕ}
use Rattle.bits.specs.Bits.{Bits, bit}
use Rattle.bits.proofs.Cases.{split, clash, both, and_intro}
use Rattle.floor.specs.Tests.{Test, holds, all_hold}
use Rattle.answers.specs.declared.Reason.{Reason}
use Rattle.rules.specs.declared.Instruction.{Instruction}
use Rattle.rules.specs.declared.Refusal.TheVariants.{NotAllowed, IllFormed}
use Rattle.std.specs.declared.result.Result.TheVariants.{Ok, Err}
use Rattle.rules.specs.Rules.{well_formed, Clause, ◌else◌, test, clauses, allowed}
use Rattle.rules.specs.Verdicts.{Verdict, judged, verdict_of, is_allowed}
use Rattle.rules.specs.Promises.{FirstFails, AllowedExactly, ReasonFirst}

-- ---- a list of conditions

-- the verdict allows exactly where all hold
pub judged_allows : (cs : List Clause) (f : Bits) → is_allowed (judged cs f) ≡ all_hold (map test cs) f
judged_allows [] f = refl
judged_allows ((t else why) ∷ cs) f = split (holds t f) (λ a. rw a (judged_allows cs f)) (λ a. rw a)

allowed_only : (v : Verdict) → is_allowed v ≡ true → v ≡ Ok tt
allowed_only (Ok done) e = refl
allowed_only (Err (NotAllowed why)) e = clash e refl
allowed_only (Err IllFormed) e = clash e refl

module _ (f : Bits) where
  -- a condition that holds leaves the verdict to the others
  passing : (t : Test) (why : Reason) (cs : List Clause) → holds t f ≡ true → judged ((t else why) ∷ cs) f ≡ judged cs f
  passing t why cs a = rw a

  -- where those before it hold, one that fails gives its reason
  judged_at : (before : List Clause) (t : Test) (why : Reason) (after : List Clause)
      → all_hold (map test before) f ≡ true → holds t f ≡ false → judged (before ++ (t else why) ∷ after) f ≡ Err (NotAllowed why)
  judged_at [] t why after h n = rw n
  judged_at ((u else w) ∷ before) t why after h n =
      let (a, b) = both (holds u f) (all_hold (map test before) f) h in
      passing u w (before ++ (t else why) ∷ after) a ∙ judged_at before t why after b n

  -- the reason of a verdict that has one
  reason_in : Reason → Verdict → Reason
  reason_in else' (Ok done) = else'
  reason_in else' (Err (NotAllowed why)) = why
  reason_in else' (Err IllFormed) = else'

  -- a reason is of the first that fails
  pub judged_first : (cs : List Clause) (why : Reason) → judged cs f ≡ Err (NotAllowed why) → FirstFails cs f why
  unfolding reason_in
  judged_first [] why e = clash refl (ap is_allowed e)
  judged_first ((t else w) ∷ cs) why e = split (holds t f) (λ a. later a (judged_first cs why (sym (passing t w cs a) ∙ e))) here
    where
      later : holds t f ≡ true → FirstFails cs f why → FirstFails ((t else w) ∷ cs) f why
      later a x =
          record {
            before = (t else w) ∷ x.before;
            after = x.after;
            condition = x.condition;
            stands = ap (λ (l : List Clause). (t else w) ∷ l) x.stands;
            hold = and_intro a x.hold;
            fails = x.fails;
          }

      here : holds t f ≡ false → FirstFails ((t else w) ∷ cs) f why
      here a =
          let same : w ≡ why = ap (reason_in why) (sym (judged_at [] t w cs refl a) ∙ e) in
          record {
            before = [];
            after = cs;
            condition = t;
            stands = ap (λ (x : Reason). (t else x) ∷ cs) same;
            hold = refl;
            fails = a;
          }

  pub first_judged : (cs : List Clause) (why : Reason) → FirstFails cs f why → judged cs f ≡ Err (NotAllowed why)
  first_judged cs why x = ap (λ (l : List Clause). judged l f) x.stands ∙ judged_at x.before x.condition why x.after x.hold x.fails

-- conditions that don't all hold are refused for some reason
judged_some : (cs : List Clause) (f : Bits) → is_allowed (judged cs f) ≡ false → (why : Reason) × (judged cs f ≡ Err (NotAllowed why))
judged_some [] f e = clash refl e
judged_some ((t else why) ∷ cs) f e =
    split (holds t f)
    (λ a. let p = passing f t why cs a in let (w, q) = judged_some cs f (ap is_allowed (sym p) ∙ e) in (w, p ∙ q))
    (λ a. (why, judged_at f [] t why cs refl a))

-- ---- an instruction

module _ (i : Instruction) (r : ℕ) where
  -- a verdict allows where the rules do
  pub allows_is : is_allowed (verdict_of i r) ≡ allowed i (bit r)
  unfolding verdict_of allowed
  allows_is = split (well_formed i) (λ w. rw w (judged_allows (clauses i) (bit r))) (λ w. rw w)

  well_judged : well_formed i ≡ true → verdict_of i r ≡ judged (clauses i) (bit r)
  unfolding verdict_of
  well_judged w = rw w

  reason_well : (why : Reason) → verdict_of i r ≡ Err (NotAllowed why) → well_formed i ≡ true
  unfolding verdict_of
  reason_well why e = split (well_formed i) (λ w. w) (λ w. absurd (true≢false (sym (ap is_reason (sym (ap (λ (b : Bool). cond b (judged (clauses i) (bit r)) (Err IllFormed)) w) ∙ e)))))
    where
      is_reason : Verdict → Bool
      is_reason (Ok done) = false
      is_reason (Err (NotAllowed why)) = true
      is_reason (Err IllFormed) = false

-- a well-formed instruction that isn't allowed is refused for some reason
pub refused_why : (i : Instruction) (r : ℕ) → well_formed i ≡ true → allowed i (bit r) ≡ false → (why : Reason) × (verdict_of i r ≡ Err (NotAllowed why))
refused_why i r w a =
    let p = well_judged i r w in
    let (why, q) = judged_some (clauses i) (bit r) (ap is_allowed (sym p) ∙ allows_is i r ∙ a) in
    (why, p ∙ q)

pub allowed_exactly : AllowedExactly
allowed_exactly i r = (λ e. sym (allows_is i r) ∙ ap is_allowed e, λ a. allowed_only (verdict_of i r) (allows_is i r ∙ a))

pub reason_first : ReasonFirst
reason_first i r why = (
  λ e. let w = reason_well i r why e in (w, judged_first (bit r) (clauses i) why (sym (well_judged i r w) ∙ e)),
  λ x. well_judged i r x.0 ∙ first_judged (bit r) (clauses i) why x.1,
)
