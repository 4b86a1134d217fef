-- Two lists of changes, one made after the other: that the second brings back what the first has changed, and that some tests hold between
-- the two, is tried at every setting of the few bits that it rests on. Assumes nothing.
use mathlib.Core.Path.{◌≡◌, refl, ap₂, ◌∙◌}
use mathlib.Core.Bool.{Bool, false, ◌&&◌, beq}
use mathlib.Core.List.{List, [], ◌∷◌, ◌++◌, map}
use Prim.Native.Nat.{ℕ}
use lib.Dec.{T}
use Rattle.bits.specs.Bits.{Bits}
use Rattle.bits.specs.Places.{elem, join}
use Rattle.bits.proofs.Cases.{and_l, and_r, split, off, clash, beq→eq, T→true, true→T}
use Rattle.bits.proofs.Fills.{On}
use Rattle.bits.proofs.Sharing.{all_pass, pass_at}
use Rattle.floor.specs.Tests.{Test, holds, all_hold, Change, changed}
use Rattle.floor.proofs.Reading.{reads, inside, inside_at, reads_in, all_read_in, holds_agree, all_agree, found, found_law}
use Rattle.rules_laws.proofs.Tried.{tried, tried_law, once, sources, targets, not_target}

-- ---- tests that no record passes

-- they are refused by what needs no record
abbrev pub never : List Test → Bool
never hs = tried [] [] hs [] (λ f g. false)

pub never_holds : (hs : List Test) (f : Bits) → T (never hs) → T (all_hold hs f) → ⊥
never_holds hs f t h = tried_law [] [] hs [] (λ f g. false) (λ f f' g g' a b. refl) t f h

-- ---- the trial

-- place k is made again what it was in f, by changes on the record g
abbrev again : List Change → Bits → Bits → ℕ → Bool
again ds f g k = beq (holds (found ds k) g) (f k)

-- the tests us hold of g, and the places ps are made again what they were
abbrev returned : List Test → List Change → List ℕ → Bits → Bits → Bool
returned us ds ps f g = all_hold us g && all_pass (again ds f g) ps

-- what it reads: ks before, js after
abbrev read_by : List ℕ → List ℕ → List Change → ℕ → Bool
read_by ks js ds k = elem k ks && reads_in js (found ds k)

abbrev placed : List ℕ → List ℕ → List Test → List Change → List ℕ → Bool
placed ks js us ds ps = all_read_in js us && all_pass (read_by ks js ds) ps

-- the places that are looked at between the two lists of changes
abbrev between : List Test → List Change → List ℕ → List ℕ
between us ds ps = once (join (map reads us) ++ join (map (λ k. reads (found ds k)) ps))

-- where the tests hs hold before the changes cs, it is so after them; some bits more are tried as well
abbrev pub returns : List ℕ → List Test → List Change → List Test → List Change → List ℕ → Bool
returns more hs cs us ds ps =
    let js = between us ds ps in
    let ks = sources cs (ps ++ (js ++ more)) in
    placed ks js us ds ps && tried ks js hs cs (returned us ds ps)

module _ (ks js : List ℕ) (ds : List Change) (f f' g g' : Bits) (a : On ks f f') (b : On js g g') where
  again_local : (ps : List ℕ) → T (all_pass (read_by ks js ds) ps) → all_pass (again ds f g) ps ≡ all_pass (again ds f' g') ps
  again_local [] t = refl
  again_local (k ∷ ps) t =
      let here = and_l (read_by ks js ds k) (all_pass (read_by ks js ds) ps) t in
      ap₂ ◌&&◌
      (ap₂ beq
      (holds_agree js g g' b (found ds k) (and_r (elem k ks) (reads_in js (found ds k)) here))
      (a k (and_l (elem k ks) (reads_in js (found ds k)) here)))
      (again_local ps (and_r (read_by ks js ds k) (all_pass (read_by ks js ds) ps) t))

module _ (more : List ℕ) (hs : List Test) (cs : List Change) (us : List Test) (ds : List Change) (ps : List ℕ)
    (t : T (returns more hs cs us ds ps)) (f : Bits) (h : T (all_hold hs f)) where
  abbrev js : List ℕ
  js = between us ds ps

  abbrev ks : List ℕ
  ks = sources cs (ps ++ (js ++ more))

  abbrev g : Bits
  g = changed cs f

  reading : T (placed ks js us ds ps)
  reading = and_l (placed ks js us ds ps) (tried ks js hs cs (returned us ds ps)) t

  local : (f f' g g' : Bits) → On ks f f' → On js g g' → returned us ds ps f g ≡ returned us ds ps f' g'
  local f f' g g' a b =
      ap₂ ◌&&◌ (all_agree js g g' b us (and_l (all_read_in js us) (all_pass (read_by ks js ds) ps) reading))
      (again_local ks js ds f f' g g' a b ps (and_r (all_read_in js us) (all_pass (read_by ks js ds) ps) reading))

  result : T (returned us ds ps f g)
  result =
      tried_law ks js hs cs (returned us ds ps) local
      (and_r (placed ks js us ds ps) (tried ks js hs cs (returned us ds ps)) t) f h

  pub tests_hold : T (all_hold us g)
  tests_hold = and_l (all_hold us g) (all_pass (again ds f g) ps) result

  pub back_at : (k : ℕ) → T (elem k ps) → changed ds g k ≡ f k
  back_at k m =
      found_law ds g k
      ∙ beq→eq (holds (found ds k) g) (f k) (pass_at (again ds f g) ps (and_r (all_hold us g) (all_pass (again ds f g) ps) result) k m)

-- ---- every other place

-- a place that the second list leaves alone is left alone by the first, and stays what it was
module _ (cs ds : List Change) (f : Bits) (t : T (inside (targets ds) (targets cs))) where
  pub back_all : ((k : ℕ) → T (elem k (targets ds)) → changed ds (changed cs f) k ≡ f k) → (k : ℕ) → changed ds (changed cs f) k ≡ f k
  back_all b k = split (elem k (targets ds))
      (λ m. b k (true→T m))
      (λ o. not_target ds (changed cs f) k o ∙ not_target cs f k (alone o))
    where
      alone : elem k (targets ds) ≡ false → elem k (targets cs) ≡ false
      alone o = off (elem k (targets cs)) (λ m. clash (T→true (elem k (targets ds)) (inside_at (targets ds) (targets cs) t k (true→T m))) o)
