-- The rules of a sound record besides its layout are kept by every allowed instruction and every possible event:
-- each rule rests on few bits and is tried at every setting of them. Assumes nothing.
use mathlib.Core.Path.{◌≡◌, sym, subst}
use mathlib.Core.Bool.{Bool, true, false, cond, ◌&&◌, ◌||◌}
use mathlib.Core.List.{List, [], ◌∷◌, ◌++◌}
use Prim.Native.Nat.{ℕ}
use lib.Dec.{T, eqb}
use borrow.Author.Tests.{eqb-true}
use Rattle.bits.specs.Bits.{Bits}
use Rattle.bits.specs.Places.{elem, share}
use Rattle.bits.specs.Search.{every}
use Rattle.bits.proofs.Cases.{and_l, and_r, and_T, under, split, neither}
use Rattle.floor.specs.Floor.{lift, drives}
use Rattle.floor.specs.Tests.{Test, free, holds, all_hold, Change, changed}
use Rattle.floor.specs.Sound.{sound_rules}
use Rattle.floor.proofs.Reading.{reads, reads_in, holds_agree}
use Rattle.rules.specs.declared.Instruction.{Instruction}
use Rattle.rules.specs.declared.Event.{Event}
use Rattle.rules.specs.declared.Event.TheVariants.{BeginIn, BeginOut, EndDone, EndNotDone}
use Rattle.rules.specs.Rules.{well_formed, area_of, conditions, changes}
use Rattle.rules.specs.Events.{event_conditions, event_changes}
use Rattle.rules.proofs.Every.{everywhere, each}
use Rattle.rules_laws.proofs.Tried.{tried, tried_law, sources, targets, not_target}

-- a rule is kept: none of its places is changed, or it holds after at every setting of what it rests on and of some bits more
abbrev rule_kept : List ℕ → List Test → List Change → Test → Bool
rule_kept more hs cs t =
    let js = reads t in
    reads_in js t && cond (share js (targets cs)) (tried (sources cs (js ++ more)) js hs cs (λ f g. holds t g)) true

-- each of a list is kept
abbrev all_kept : List ℕ → List Test → List Change → List Test → Bool
all_kept more hs cs [] = true
all_kept more hs cs (t ∷ ts) = rule_kept more hs cs t && all_kept more hs cs ts

-- lists that share nothing
pub apart_at : (js b : List ℕ) → share js b ≡ false → (k : ℕ) → T (elem k js) → elem k b ≡ false
apart_at [] b o k m = absurd m
apart_at (j ∷ js) b o k m = split (eqb j k)
    (λ e. subst (λ (x : ℕ). elem x b ≡ false) (eqb-true j k e) (neither (elem j b) (share js b) o).0)
    (λ e. apart_at js b (neither (elem j b) (share js b) o).1 k (subst (λ (c : Bool). T (c || elem k js)) e m))

module _ (more : List ℕ) (hs : List Test) (cs : List Change) (f : Bits) (h : T (all_hold hs f)) where
  rule_kept_lem : (t : Test) → T (rule_kept more hs cs t) → T (holds t f) → T (holds t (changed cs f))
  rule_kept_lem t r before = split (share js (targets cs))
      (λ e. tried_law (sources cs (js ++ more)) js hs cs (λ f g. holds t g) (λ f f' g g' a b. holds_agree js g g' b t own) (under (share js (targets cs)) trial e tested) f h)
      (λ e. subst T (holds_agree js f (changed cs f) (λ k m. sym (not_target cs f k (apart_at js (targets cs) e k m))) t own) before)
    where
      js : List ℕ
      js = reads t

      trial : Bool
      trial = tried (sources cs (js ++ more)) js hs cs (λ f g. holds t g)

      own : T (reads_in js t)
      own = and_l (reads_in js t) (cond (share js (targets cs)) trial true) r

      tested : T (cond (share js (targets cs)) trial true)
      tested = and_r (reads_in js t) (cond (share js (targets cs)) trial true) r

  all_kept_lem : (ts : List Test) → T (all_kept more hs cs ts) → T (all_hold ts f) → T (all_hold ts (changed cs f))
  all_kept_lem [] r before = tt
  all_kept_lem (t ∷ ts) r before =
      and_T (holds t (changed cs f)) (all_hold ts (changed cs f))
      (rule_kept_lem t (and_l (rule_kept more hs cs t) (all_kept more hs cs ts) r) (and_l (holds t f) (all_hold ts f) before))
      (all_kept_lem ts (and_r (rule_kept more hs cs t) (all_kept more hs cs ts) r) (and_r (holds t f) (all_hold ts f) before))

-- a record that passes two lists passes both
pub both_lists : (f : Bits) (ts us : List Test) → T (all_hold ts f) → T (all_hold us f) → T (all_hold (ts ++ us) f)
both_lists f [] us h r = r
both_lists f (t ∷ ts) us h r =
    and_T (holds t f) (all_hold (ts ++ us) f) (and_l (holds t f) (all_hold ts f) h) (both_lists f ts us (and_r (holds t f) (all_hold ts f) h) r)

-- where conditions and rules hold, the rules hold after
abbrev rules_kept : List ℕ → List Test → List Change → Bool
rules_kept more conds cs = all_kept more (conds ++ sound_rules) cs sound_rules

rules_kept_lem : (more : List ℕ) (conds : List Test) (cs : List Change) → T (rules_kept more conds cs)
    → (f : Bits) → T (all_hold conds f) → T (all_hold sound_rules f) → T (all_hold sound_rules (changed cs f))
rules_kept_lem more conds cs t f ok rules = all_kept_lem more (conds ++ sound_rules) cs f (both_lists f conds sound_rules ok rules) sound_rules t rules

-- ---- instructions

-- what is asked of the record of an instruction with the lift in its area: no drive is under way
abbrev pub clearance : Instruction → List Test
clearance i = cond (share (area_of i) lift) (free drives ∷ []) []

-- every well-formed instruction keeps every rule
every_rule : T (everywhere (λ i. rules_kept [] (clearance i ++ conditions i) (changes i)))
unfolding everywhere every
every_rule = tt

pub instruction_rules : (i : Instruction) → T (well_formed i) → (f : Bits) → T (all_hold (clearance i) f) → T (all_hold (conditions i) f) → T
    (all_hold sound_rules f) → T (all_hold sound_rules (changed (changes i) f))
instruction_rules i w f c ok =
    rules_kept_lem [] (clearance i ++ conditions i) (changes i) (each (λ i. rules_kept [] (clearance i ++ conditions i) (changes i)) every_rule i w) f
    (both_lists f (clearance i) (conditions i) c ok)

-- ---- events

-- each is tried at every setting of the lift and the drives as well: what a rule says of a drive rests on all of them
event_rule : (e : Event) → T (rules_kept (lift ++ drives) (event_conditions e) (event_changes e))
event_rule BeginIn = tt
event_rule BeginOut = tt
event_rule EndDone = tt
event_rule EndNotDone = tt

pub event_rules : (e : Event) (f : Bits) → T (all_hold (event_conditions e) f) → T (all_hold sound_rules f) → T (all_hold sound_rules (changed (event_changes e) f))
event_rules e = rules_kept_lem (lift ++ drives) (event_conditions e) (event_changes e) (event_rule e)
