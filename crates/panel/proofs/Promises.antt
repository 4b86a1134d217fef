-- The promises of specs/Promises.antt kept: both sides go along the list of conditions. Assumes nothing.
use mathlib.Core.Path.{◌≡◌, refl, sym, ap, ap₂, subst, ◌∙◌}
use mathlib.Core.Logic.{◌↔◌, ⊎_elim}
use mathlib.Core.Bool.{Bool, true, false, cond, not, ◌&&◌, ◌||◌}
use mathlib.Core.List.{List, [], ◌∷◌}
use Prim.Native.Nat.{ℕ, zero, suc, ◌+◌, ◌-◌, ◌%◌, ◌≤◌, ◌<◌}
use native.Mathlib.Omega.{arith}
use lib.Dec.{T, eqb, ltb, ltb→lt}
use borrow.Author.Tests.{ltb-true, ltb-false}
use Rattle.std.specs.declared.option.Option.{Option}
use Rattle.std.specs.declared.option.Option.TheVariants.{Some, None}
use Rattle.bits.specs.Bits.{Bits}
use Rattle.bits.specs.Places.{elem}
use Rattle.bits.proofs.Cases.{split, clash, and_intro, T→true, true→T}
use Rattle.bits.proofs.Counts.{count_agree, set_agree, elem_from}
use Rattle.bits.specs.Search.{every}
use Rattle.bits.proofs.Sharing.{all_pass, pass_at, share_is}
use Rattle.bits.proofs.Search.{each as each_below, lt_or_ge}
use Rattle.bits.proofs.Lists.{in_left, in_right}
use Rattle.floor.specs.Floor.{raised_car, lift, drive_in}
use Rattle.floor.specs.Tests.{Test, fact, set, exactly, even, no, both, either, holds}
use Rattle.answers.specs.declared.Reason.{Reason}
use Rattle.answers.specs.declared.Reason.TheVariants.{NothingNamed}
use Rattle.rules.specs.declared.Instruction.{Instruction}
use Rattle.rules.specs.declared.Refusal.TheVariants.{NotAllowed, IllFormed}
use Rattle.std.specs.declared.result.Result.TheVariants.{Ok, Err}
use Rattle.rules.specs.Rules.{well_formed, Clause, ◌else◌, clauses}
use Rattle.rules.specs.Verdicts.{Verdict, judged, is_allowed}
use Rattle.rules.proofs.Every.{everywhere, each}
use Rattle.plain.specs.declared.Condition.{Condition}
use Rattle.plain.specs.Conditions.{condition_in, condition_of, verdict_on}
use Rattle.plain_moves.specs.declared.Parts.{Parts}
use Rattle.plain_moves.specs.Moves.{parts_bits, parts_at}
use Rattle.plain.proofs.Listing.{listed_at}
use Rattle.panel.specs.declared.Explanation.{Explanation}
use Rattle.panel.specs.Panel.{read_by, read_in, with_parts, explained}
use Rattle.panel.specs.Promises.{shown_holds, shown_parts, FirstShownFails, RefusalExplained, AllowedExplained, among, PartsDecide}
use Rattle.panel.proofs.Tested.{past_last}

-- ---- conditions and verdicts, over a list of clauses

-- what tells verdicts apart
abbrev reason_in : Verdict → Reason
reason_in (Ok done) = NothingNamed
reason_in (Err (NotAllowed why)) = why
reason_in (Err IllFormed) = NothingNamed

abbrev refuses : Verdict → Bool
refuses (Ok done) = false
refuses (Err (NotAllowed why)) = true
refuses (Err IllFormed) = false

-- whether a condition holds, where there is one, and its reason
abbrev holds_in : Option Condition → Bool
holds_in None = true
holds_in (Some x) = x.holds

abbrev why_in : Option Condition → Reason
why_in None = NothingNamed
why_in (Some x) = x.why

module _ (f : Bits) where
  -- condition c of a list is the first that fails
  record First (cs : List Clause) (why : Reason) (c : ℕ) : Type 0 where
    shown : Condition
    there : condition_in cs c f ≡ Some shown
    fails : shown.holds ≡ false
    told : shown.why ≡ why
    before : (j : ℕ) → j < c → holds_in (condition_in cs j f) ≡ true

  -- one more that holds before them
  later : (t : Test) (w : Reason) (cs : List Clause) (why : Reason) (c : ℕ) → holds t f ≡ true → First cs why c → First ((t else w) ∷ cs) why (suc c)
  later t w cs why c h F = record { shown = F.shown; there = F.there; fails = F.fails; told = F.told; before = before }
    where
      before : (j : ℕ) → j < suc c → holds_in (condition_in ((t else w) ∷ cs) j f) ≡ true
      before zero l = h
      before (suc j) l = F.before j (omega arith)

  first_of : (cs : List Clause) (why : Reason) → judged cs f ≡ Err (NotAllowed why) → (c : ℕ) × First cs why c
  first_of [] why e = clash refl (ap is_allowed e)
  first_of ((t else w) ∷ cs) why e = split (holds t f)
      (λ h. let (c, F) = first_of cs why (rw h at e) in (suc c, later t w cs why c h F))
      (λ h. (0, record { shown = record { holds = holds t f; why = w }; there = refl; fails = h; told = ap reason_in (rw h at e); before = λ j l. absurd (omega arith) }))

  first_is : (cs : List Clause) (why : Reason) (c : ℕ) → First cs why c → judged cs f ≡ Err (NotAllowed why)
  first_is [] why c F = let e : None ≡ Some F.shown = F.there in cc
  first_is ((t else w) ∷ cs) why zero F =
      let h : holds t f ≡ false = ap holds_in F.there ∙ F.fails in
      rw h (ap (λ (x : Reason). Err (NotAllowed x)) (ap why_in F.there ∙ F.told))
  first_is ((t else w) ∷ cs) why (suc c) F =
      rw (F.before 0 (omega arith))
      (first_is cs why c (record { shown = F.shown; there = F.there; fails = F.fails; told = F.told; before = λ j l. F.before (suc j) (omega arith) }))

  all_of : (cs : List Clause) → judged cs f ≡ Ok tt → (c : ℕ) → holds_in (condition_in cs c f) ≡ true
  all_of [] e c = refl
  all_of ((t else w) ∷ cs) e c = split (holds t f)
      (λ h. go c h (all_of cs (rw h at e)))
      (λ h. clash refl (ap refuses (rw h at e)))
    where
      go : (c : ℕ) → holds t f ≡ true → ((c : ℕ) → holds_in (condition_in cs c f) ≡ true) → holds_in (condition_in ((t else w) ∷ cs) c f) ≡ true
      go zero h rest = h
      go (suc c) h rest = rest c

  all_is : (cs : List Clause) → ((c : ℕ) → holds_in (condition_in cs c f) ≡ true) → judged cs f ≡ Ok tt
  all_is [] h = refl
  all_is ((t else w) ∷ cs) h = rw (h 0) (all_is cs (λ c. h (suc c)))

-- ---- of an instruction

-- its conditions; an ill-formed one has none
abbrev asked : Instruction → List Clause
asked i = cond (well_formed i) (clauses i) []

-- a condition with its parts, as what is shown
shown_of : (ps : Parts) (o : Option Condition) → holds_in o ≡ shown_holds (with_parts ps o)
shown_of ps None = refl
shown_of ps (Some x) = refl

abbrev condition_shown : Option Explanation → Option Condition
condition_shown None = None
condition_shown (Some x) = Some x.condition

condition_back : (ps : Parts) (o : Option Condition) → o ≡ condition_shown (with_parts ps o)
condition_back ps None = refl
condition_back ps (Some x) = refl

module _ (i : Instruction) (f : Bits) where
  -- the parts of condition c
  read : ℕ → Parts
  read c = parts_at (read_in (asked i) c)

  first_explained : (why : Reason) (c : ℕ) → First f (asked i) why c → FirstShownFails i f why c
  unfolding explained condition_of read
  first_explained why c F =
      record {
        shown = record { condition = F.shown; parts = read c };
        there = ap (with_parts (read c)) F.there;
        fails = F.fails;
        told = F.told;
        before = λ j l. sym (shown_of (read j) (condition_in (asked i) j f)) ∙ F.before j l;
      }

  explained_first : (why : Reason) (c : ℕ) → FirstShownFails i f why c → First f (asked i) why c
  unfolding explained condition_of read
  explained_first why c F =
      record {
        shown = F.shown.condition;
        there = condition_back (read c) (condition_in (asked i) c f) ∙ ap condition_shown F.there;
        fails = F.fails;
        told = F.told;
        before = λ j l. shown_of (read j) (condition_in (asked i) j f) ∙ F.before j l;
      }

pub refusal_explained : RefusalExplained
unfolding verdict_on
refusal_explained i f why = split (well_formed i)
    (λ w. (
      λ e. let (c, F) = first_of f (clauses i) why (rw w at e) in (c, first_explained i f why c (rw w F)),
      λ p. let F = explained_first i f why p.0 p.1 in rw w (first_is f (clauses i) why p.0 (rw w at F)),
    ))
    (λ w. (
      λ e. clash (ap refuses (rw w at e)) refl,
      λ p. let F = explained_first i f why p.0 p.1 in let e : None ≡ Some F.shown = (rw w at F).there in cc,
    ))

all_explained : (i : Instruction) (f : Bits) → well_formed i ≡ true → (verdict_on i f ≡ Ok tt) ↔ ((c : ℕ) → shown_holds (explained i c f) ≡ true)
unfolding verdict_on explained condition_of
all_explained i f w =
    rw w (
      λ e c. sym (shown_of (parts_at (read_in (clauses i) c)) (condition_in (clauses i) c f)) ∙ all_of f (clauses i) e c,
      λ h. all_is f (clauses i) (λ c. shown_of (parts_at (read_in (clauses i) c)) (condition_in (clauses i) c f) ∙ h c),
    )

pub allowed_explained : AllowedExplained
allowed_explained i f w = all_explained i f w

-- ---- what decides a condition

module _ (f g : Bits) where
  -- two records that agree on what a test reads pass it alike
  same_test : (t : Test) → ((k : ℕ) → T (elem k (read_by t)) → f k ≡ g k) → holds t f ≡ holds t g
  unfolding read_by
  same_test (fact b) e = refl
  same_test (set ks) e = set_agree ks f g e
  same_test (exactly n ks) e = ap (λ (x : ℕ). eqb x n) (count_agree ks f g e)
  same_test (even ks) e = ap (λ (x : ℕ). eqb (x % 2) 0) (count_agree ks f g e)
  same_test (no t) e = ap not (same_test t e)
  same_test (both t u) e =
      ap₂ ◌&&◌ (same_test t (λ k m. e k (in_left k (read_by t) (read_by u) m))) (same_test u (λ k m. e k (in_right k (read_by t) (read_by u) m)))
  same_test (either t u) e =
      ap₂ ◌||◌ (same_test t (λ k m. e k (in_left k (read_by t) (read_by u) m))) (same_test u (λ k m. e k (in_right k (read_by t) (read_by u) m)))

  same_condition : (cs : List Clause) (c : ℕ) → ((k : ℕ) → T (elem k (read_in cs c)) → f k ≡ g k) → holds_in (condition_in cs c f) ≡ holds_in (condition_in cs c g)
  same_condition [] c e = refl
  same_condition ((t else w) ∷ cs) zero e = same_test t e
  same_condition ((t else w) ∷ cs) (suc c) e = same_condition cs c e

-- every bit that a condition reads is a cell's, a slot's or the lift's
abbrev low : Instruction → Bool
low i = every 6 (λ c. all_pass (λ k. ltb k drive_in) (read_in (clauses i) c))

all_low : T (everywhere low)
unfolding everywhere every read_by
all_low = tt

low_read : (i : Instruction) → well_formed i ≡ true → (c k : ℕ) → T (elem k (read_in (clauses i) c)) → k < drive_in
low_read i w c k m = ⊎_elim
    (λ (l : c < 6). ltb→lt k drive_in (pass_at (λ k. ltb k drive_in) (read_in (clauses i) c) (each_below 6 _ (each low all_low i (true→T w)) c l) k m))
    (λ (l : 6 ≤ c). absurd (subst (λ (ks : List ℕ). T (elem k ks)) (past_last i c l) m)) (lt_or_ge c 6)

-- so it is among the parts that are named
among_parts : (ks : List ℕ) (k : ℕ) → k < drive_in → T (elem k ks) → among (parts_at ks) k ≡ true
unfolding parts_at parts_bits
among_parts ks k h m = split (ltb k raised_car)
    (λ t. let l = ltb-true k raised_car t in rw t (split (ltb k 40)
    (λ u. rw u (listed_at 40 k (λ k. elem k ks) (ltb-true k 40 u) ∙ e))
    (λ u. let o = ltb-false k 40 u in rw u (listed_at 12 (k - 40) (λ j. elem (40 + j) ks) (omega arith) ∙ ap (λ (k : ℕ). elem k ks) (omega arith) ∙ e))))
    (λ t. let l = ltb-false k raised_car t in
    let a = T→true (elem k lift) (elem_from k raised_car 3 l h) in
    rw t (and_intro a (share_is ks lift k e a)))
  where
    e : elem k ks ≡ true
    e = T→true (elem k ks) m

read_among : (i : Instruction) (c k : ℕ) → T (elem k (read_in (asked i) c)) → among (parts_at (read_in (asked i) c)) k ≡ true
read_among i c k m = split (well_formed i)
    (λ w. among_parts (read_in (asked i) c) k (low_read i w c k (rw w at m)) m)
    (λ w. absurd (rw w at m))

-- the parts that are shown, also where there is no condition
parts_shown : (cs : List Clause) (c : ℕ) (f : Bits) → parts_at (read_in cs c) ≡ shown_parts (with_parts (parts_at (read_in cs c)) (condition_in cs c f))
parts_shown [] c f = refl
parts_shown ((t else w) ∷ cs) zero f = refl
parts_shown ((t else w) ∷ cs) (suc c) f = parts_shown cs c f

pub parts_decide : PartsDecide
unfolding explained condition_of
parts_decide i c f g e =
    let ps = parts_at (read_in (asked i) c) in
    sym (shown_of ps (condition_in (asked i) c f))
    ∙ same_condition f g (asked i) c (λ k m. e k (ap (λ (q : Parts). among q k) (sym (parts_shown (asked i) c f)) ∙ read_among i c k m))
    ∙ shown_of ps (condition_in (asked i) c g)
