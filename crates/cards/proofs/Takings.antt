-- The number that a place takes is that of its source, and the source that the code finds is the one that the rules list: computed at
-- every well-formed instruction and every place. Assumes nothing.
use mathlib.Core.Path.{◌≡◌, refl}
use mathlib.Core.Bool.{Bool, true, false, cond, ◌&&◌}
use mathlib.Core.List.{List, [], ◌∷◌}
use Prim.Native.Nat.{ℕ, ◌<◌}
use lib.Dec.{T, eqb, eqb→eq}
use borrow.Author.Tests.{eqb-true}
use Rattle.bits.specs.Search.{every}
use Rattle.bits.proofs.Cases.{split, and_l, and_r}
use Rattle.bits.proofs.Search.{each as each_below}
use Rattle.floor.specs.Floor.{belt_of}
use Rattle.rules.specs.Cells.{row_named, row_behind}
use Rattle.rules.specs.declared.Instruction.{Instruction}
use Rattle.rules.specs.Rules.{well_formed}
use Rattle.rules.proofs.Every.{everywhere, each}
use Rattle.cards.specs.Cards.{Numbers}
use Rattle.cards.specs.Following.{no_source, Taking, ◌⟵◌, takings, number_at, numbers_taken}
use Rattle.cards.specs.Private.{place_or_none, source, against, belt_source, row_at, place_at, shuttle_source, lift_source, source_of}

pub taken_source : (ts : List Taking) (n : Numbers) (k : ℕ) → (k ≡ no_source → ⊥) → numbers_taken ts n k ≡ number_at n (source ts k)
unfolding numbers_taken source
taken_source [] n k o = split (eqb k no_source) (λ e. absurd (o (eqb-true k no_source e))) (λ e. rw e)
taken_source (j ⟵ s ∷ ts) n k o = go (eqb j k) (taken_source ts n k o)
  where
    go : (b : Bool) → numbers_taken ts n k ≡ number_at n (source ts k) → cond b (number_at n s) (numbers_taken ts n k) ≡ number_at n (cond b s (source ts k))
    go true r = refl
    go false r = r

-- ---- the code finds what the rules list

abbrev found_at : Instruction → Bool → Bool
found_at i low = every 64 (λ k. eqb (place_or_none (source_of i low k)) (source (takings i low) k))

abbrev found : Instruction → Bool
found i = found_at i true && found_at i false

all_found : T (everywhere found)
unfolding everywhere every source belt_of against belt_source row_at place_at row_named row_behind shuttle_source lift_source source_of
all_found = tt

pub source_is : (i : Instruction) → T (well_formed i) → (low : Bool) (k : ℕ) → k < 64 → place_or_none (source_of i low k) ≡ source (takings i low) k
source_is i w low k h =
    eqb→eq (place_or_none (source_of i low k)) (source (takings i low) k)
    (each_below 64 (λ k. eqb (place_or_none (source_of i low k)) (source (takings i low) k)) (go low) k h)
  where
    go : (low : Bool) → T (found_at i low)
    go true = and_l (found_at i true) (found_at i false) (each found all_found i w)
    go false = and_r (found_at i true) (found_at i false) (each found all_found i w)
