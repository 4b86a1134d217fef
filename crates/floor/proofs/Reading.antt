-- What a test reads: two records that agree on the places that a test reads give it the same answer, and likewise what changes make of them.
-- Assumes nothing.
use mathlib.Core.Path.{◌≡◌, refl, sym, ap, ap₂, subst}
use mathlib.Core.Bool.{Bool, true, false, cond, not, ◌&&◌, ◌||◌, and-true}
use mathlib.Core.List.{List, [], ◌∷◌, ◌++◌}
use Prim.Native.Nat.{ℕ, zero, suc, ◌%◌}
use lib.Dec.{T, eqb}
use lib.ListN.{get_or}
use borrow.Author.Tests.{eqb-true}
use Rattle.bits.specs.Bits.{Bits}
use Rattle.bits.specs.Places.{elem}
use Rattle.bits.proofs.Cases.{and_l, and_r}
use Rattle.bits.proofs.Counts.{count_agree, set_agree}
use Rattle.bits.proofs.Sharing.{all_pass, pass_at}
use Rattle.floor.specs.Tests.{Test, fact, set, exactly, even, no, both, either, holds, all_hold, Change, ◌≔◌, changed}

-- ---- the places that are read

-- the places that a test reads
abbrev pub reads : Test → List ℕ
reads (fact b) = []
reads (set ks) = ks
reads (exactly n ks) = ks
reads (even ks) = ks
reads (no t) = reads t
reads (both t u) = reads t ++ reads u
reads (either t u) = reads t ++ reads u

-- each of the places ks is one of a
abbrev pub inside : List ℕ → List ℕ → Bool
inside a ks = all_pass (λ k. elem k a) ks

pub inside_at : (a ks : List ℕ) → T (inside a ks) → (k : ℕ) → T (elem k ks) → T (elem k a)
inside_at a ks h k m = pass_at (λ k. elem k a) ks h k m

-- a test reads only places of a
abbrev pub reads_in : List ℕ → Test → Bool
reads_in a (fact b) = true
reads_in a (set ks) = inside a ks
reads_in a (exactly n ks) = inside a ks
reads_in a (even ks) = inside a ks
reads_in a (no t) = reads_in a t
reads_in a (both t u) = reads_in a t && reads_in a u
reads_in a (either t u) = reads_in a t && reads_in a u

abbrev pub all_read_in : List ℕ → List Test → Bool
all_read_in a [] = true
all_read_in a (t ∷ ts) = reads_in a t && all_read_in a ts

-- changes stand in a, and read only a
abbrev pub change_in : List ℕ → List Change → Bool
change_in a [] = true
change_in a ((k ≔ t) ∷ cs) = elem k a && (reads_in a t && change_in a cs)

module _ (a : List ℕ) (f g : Bits) (e : (k : ℕ) → T (elem k a) → f k ≡ g k) where
  agree_in : (ks : List ℕ) → T (inside a ks) → (k : ℕ) → T (elem k ks) → f k ≡ g k
  agree_in ks h k m = e k (inside_at a ks h k m)

  pub holds_agree : (t : Test) → T (reads_in a t) → holds t f ≡ holds t g
  holds_agree (fact b) h = refl
  holds_agree (set ks) h = set_agree ks f g (agree_in ks h)
  holds_agree (exactly n ks) h = ap (λ (x : ℕ). eqb x n) (count_agree ks f g (agree_in ks h))
  holds_agree (even ks) h = ap (λ (x : ℕ). eqb (x % 2) 0) (count_agree ks f g (agree_in ks h))
  holds_agree (no t) h = ap not (holds_agree t h)
  holds_agree (both t u) h = ap₂ ◌&&◌ (holds_agree t (and_l (reads_in a t) (reads_in a u) h)) (holds_agree u (and_r (reads_in a t) (reads_in a u) h))
  holds_agree (either t u) h = ap₂ ◌||◌ (holds_agree t (and_l (reads_in a t) (reads_in a u) h)) (holds_agree u (and_r (reads_in a t) (reads_in a u) h))

  pub all_agree : (ts : List Test) → T (all_read_in a ts) → all_hold ts f ≡ all_hold ts g
  all_agree [] h = refl
  all_agree (t ∷ ts) h = ap₂ ◌&&◌ (holds_agree t (and_l (reads_in a t) (all_read_in a ts) h)) (all_agree ts (and_r (reads_in a t) (all_read_in a ts) h))

  pub changed_agree : (cs : List Change) → T (change_in a cs) → (k : ℕ) → T (elem k a) → changed cs f k ≡ changed cs g k
  changed_agree [] h k m = e k m
  changed_agree ((j ≔ t) ∷ cs) h k m =
      let r = and_r (elem j a) (reads_in a t && change_in a cs) h in
      ap₂ (cond (eqb j k)) (holds_agree t (and_l (reads_in a t) (change_in a cs) r)) (changed_agree cs (and_r (reads_in a t) (change_in a cs) r) k m)

pub changed_outside : (a : List ℕ) (f : Bits) (cs : List Change) → T (change_in a cs) → (k : ℕ) → elem k a ≡ false → changed cs f k ≡ f k
changed_outside a f [] h k m = refl
changed_outside a f ((j ≔ t) ∷ cs) h k m =
    go (eqb j k) refl (changed_outside a f cs (and_r (reads_in a t) (change_in a cs) (and_r (elem j a) (reads_in a t && change_in a cs) h)) k m)
  where
    go : (b : Bool) → eqb j k ≡ b → changed cs f k ≡ f k → cond b (holds t f) (changed cs f k) ≡ f k
    go true p ih =
        absurd (subst T m (subst (λ (x : ℕ). T (elem x a)) (eqb-true j k p) (and_l (elem j a) (reads_in a t && change_in a cs) h)))
    go false p ih = ih

-- ---- the test that gives bit k of the next record

abbrev pub found : List Change → ℕ → Test
found [] k = set (k ∷ [])
found ((j ≔ t) ∷ cs) k = cond (eqb j k) t (found cs k)

pub found_law : (cs : List Change) (f : Bits) (k : ℕ) → changed cs f k ≡ holds (found cs k) f
found_law [] f k = sym (and-true (f k))
found_law ((j ≔ t) ∷ cs) f k = go (eqb j k) (found_law cs f k)
  where
    go : (b : Bool) → changed cs f k ≡ holds (found cs k) f → cond b (holds t f) (changed cs f k) ≡ holds (cond b t (found cs k)) f
    go true ih = refl
    go false ih = ih

-- ---- one of a list of tests

pub nth_holds : (f : Bits) (ts : List Test) → T (all_hold ts f) → (j : ℕ) → T (holds (get_or ts j (fact true)) f)
nth_holds f [] h j = tt
nth_holds f (t ∷ ts) h zero = and_l (holds t f) (all_hold ts f) h
nth_holds f (t ∷ ts) h (suc j) = nth_holds f ts (and_r (holds t f) (all_hold ts f) h) j
