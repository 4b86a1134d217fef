-- Conditions taken apart into steps that each look at one bit or at one count, and a row of masks taken apart likewise. Assumes nothing.
use mathlib.Core.Bool.{Bool, true, false, cond, not, ◌&&◌}
use mathlib.Core.List.{List, [], ◌∷◌, ◌++◌, map}
use Prim.Native.Nat.{ℕ, zero, suc, ◌%◌, ◌^◌}
use lib.Bits.{bit_and}
use lib.Dec.{eqb, ltb}
use Rattle.bits.specs.Bits.{Bits, bit, count}
use Rattle.bits.specs.Places.{places}
use Rattle.floor.specs.Tests.{Test, fact, set, exactly, even, no, both, either, holds}
use Rattle.answers.specs.declared.Reason.{Reason}
use Rattle.rules.specs.declared.Refusal.{Refusal}
use Rattle.std.specs.declared.result.Result.TheVariants.{Ok, Err}
use Rattle.rules.specs.Verdicts.{Verdict}
use Rattle.rules.specs.Rules.{Clause, ◌else◌}
use Rattle.rows.specs.Private.{Part, look, pairs, halt, because}

-- one bit is this; an even number of some is 1; never; what isn't taken apart
pub data Atom : Type 0 where
  Never : Atom
  Look : Bool → ℕ → Atom
  Even : List ℕ → Atom
  Other : Test → Atom

abbrev pub meets : Atom → Bits → Bool
meets Never f = false
meets (Look b k) f = cond b (f k) (not (f k))
meets (Even ks) f = eqb (count ks f % 2) 0
meets (Other t) f = holds t f

abbrev pub flat : Test → List Atom
flat (fact true) = []
flat (fact false) = Never ∷ []
flat (set ks) = map (Look true) ks
flat (exactly zero ks) = map (Look false) ks
flat (exactly (suc n) ks) = Other (exactly (suc n) ks) ∷ []
flat (even []) = []
flat (even (k ∷ ks)) = Even (k ∷ ks) ∷ []
flat (no t) = Other (no t) ∷ []
flat (both t u) = flat t ++ flat u
flat (either t u) = Other (either t u) ∷ []

pub data Step : Type 0 where
  ◌or◌ : Atom → Reason → Step

infix 70 ◌or◌
abbrev pub run : List Step → Bits → Verdict
run [] f = Ok tt
run ((a or why) ∷ ss) f = cond (meets a f) (run ss f) (Err (Refusal.NotAllowed why))

abbrev pub steps : List Clause → List Step
steps [] = []
steps ((t else why) ∷ cs) = map (λ a. a or why) (flat t) ++ steps cs

-- nothing is asked after what never holds
abbrev pub cut : List Step → List Step
cut [] = []
cut ((Never or why) ∷ ss) = Never or why ∷ []
cut ((Look b k or why) ∷ ss) = Look b k or why ∷ cut ss
cut ((Even ks or why) ∷ ss) = Even ks or why ∷ cut ss
cut ((Other t or why) ∷ ss) = Other t or why ∷ cut ss

-- ---- rows

-- the steps of a row
abbrev pub atoms_of : Part → List Atom
atoms_of (look care need why) = map (λ k. Look (bit need k) k) (places care)
atoms_of (pairs asked m) = cond asked (flat (even (places m))) []
atoms_of (halt b why) = flat (fact (not b))

abbrev pub row_steps : List Part → List Step
row_steps [] = []
row_steps (p ∷ ps) = map (λ a. a or because p) (atoms_of p) ++ row_steps ps

-- a comparison is of 64 bits, with a number that its mask can give
abbrev pub fits : Part → Bool
fits (look care need why) = ltb care (2 ^ 64) && eqb (bit_and need care) need
fits (pairs asked m) = true
fits (halt b why) = true

abbrev pub all_fit : List Part → Bool
all_fit [] = true
all_fit (p ∷ ps) = fits p && all_fit ps
