-- A property of a record and of the record after some changes, tried at every setting of the few bits that it rests on.
-- What is known of the whole record is weakened to what it says of those bits. Assumes nothing.
use mathlib.Core.Path.{◌≡◌, refl, sym, subst, ◌∙◌}
use mathlib.Core.Bool.{Bool, true, false, cond, ◌&&◌, ◌||◌}
use mathlib.Core.List.{List, [], ◌∷◌, ◌++◌, map}
use Prim.Native.Nat.{ℕ, zero, suc, ◌+◌, ◌≤◌}
use native.Mathlib.Omega.{arith}
use lib.Dec.{T, eqb, eqb→eq}
use borrow.Author.Tests.{eqb-true, eq-eqb}
use Rattle.bits.specs.Bits.{Bits, digit, count, all_set}
use Rattle.bits.specs.Places.{elem, join}
use Rattle.bits.proofs.Cases.{and_l, and_r, and_T, under, T→true, true→T}
use Rattle.bits.proofs.Fills.{fill, all_fills, at_fill, On, fill_agree}
use Rattle.floor.specs.Tests.{Test, fact, set, exactly, even, no, both, either, when, holds, all_hold, Change, ◌≔◌, changed}
use Rattle.floor.proofs.Reading.{reads, inside, reads_in, all_read_in, holds_agree, all_agree, found, found_law}

-- ---- what is known of some bits

-- those of a list that are among ks
abbrev pub those : List ℕ → List ℕ → List ℕ
those ks [] = []
those ks (j ∷ js) = let r = those ks js in cond (elem j ks) (j ∷ r) r

-- what a test says of the bits ks alone: a conjunction is taken apart, and a part that reads more says nothing
abbrev weaken : List ℕ → Test → Test
weaken ks (fact b) = fact b
weaken ks (set js) = set (those ks js)
weaken ks (exactly zero js) = exactly 0 (those ks js)
weaken ks (exactly (suc n) js) = when (inside ks js) (exactly (suc n) js)
weaken ks (even js) = when (inside ks js) (even js)
weaken ks (no t) = when (reads_in ks t) (no t)
weaken ks (both t u) = both (weaken ks t) (weaken ks u)
weaken ks (either t u) = when (reads_in ks (either t u)) (either t u)

module _ (ks : List ℕ) (f : Bits) where
  -- what holds of a list holds of those
  set_those : (js : List ℕ) → T (all_set js f) → T (all_set (those ks js) f)
  set_those [] h = tt
  set_those (j ∷ js) h = go (elem j ks) (set_those js (and_r (f j) (all_set js f) h))
    where
      go : (b : Bool) → T (all_set (those ks js) f) → T (all_set (cond b (j ∷ those ks js) (those ks js)) f)
      go true r = and_T (f j) (all_set (those ks js) f) (and_l (f j) (all_set js f) h) r
      go false r = r

  count_those : (js : List ℕ) → count (those ks js) f ≤ count js f
  count_those [] = omega arith
  count_those (j ∷ js) = go (elem j ks) (count_those js)
    where
      go : (b : Bool) → count (those ks js) f ≤ count js f → count (cond b (j ∷ those ks js) (those ks js)) f ≤ digit (f j) + count js f
      go true r = omega arith
      go false r = omega arith

  when_holds : (b : Bool) (t : Test) → T (holds t f) → T (holds (when b t) f)
  when_holds true t h = h
  when_holds false t h = tt

  -- what a record passes, it passes weakened
  weaker : (t : Test) → T (holds t f) → T (holds (weaken ks t) f)
  weaker (fact b) h = h
  weaker (set js) h = set_those js h
  weaker (exactly zero js) h = true→T (eq-eqb (count (those ks js) f) 0 (omega (arith, count_those js, eqb→eq (count js f) 0 h)))
  weaker (exactly (suc n) js) h = when_holds (inside ks js) (exactly (suc n) js) h
  weaker (even js) h = when_holds (inside ks js) (even js) h
  weaker (no t) h = when_holds (reads_in ks t) (no t) h
  weaker (both t u) h =
      and_T (holds (weaken ks t) f) (holds (weaken ks u) f) (weaker t (and_l (holds t f) (holds u f) h)) (weaker u (and_r (holds t f) (holds u f) h))
  weaker (either t u) h = when_holds (reads_in ks (either t u)) (either t u) h

  all_weaker : (ts : List Test) → T (all_hold ts f) → T (all_hold (map (weaken ks) ts) f)
  all_weaker [] h = tt
  all_weaker (t ∷ ts) h =
      and_T (holds (weaken ks t) f) (all_hold (map (weaken ks) ts) f) (weaker t (and_l (holds t f) (all_hold ts f) h)) (all_weaker ts (and_r (holds t f) (all_hold ts f) h))

-- ---- the trial

-- the bits that changes make at js read only ks
abbrev new_in : List ℕ → List Change → List ℕ → Bool
new_in ks cs [] = true
new_in ks cs (k ∷ js) = reads_in ks (found cs k) && new_in ks cs js

-- where the tests hs hold before the changes cs, q holds of the record before and after. It reads ks before and js after
abbrev pub tried : List ℕ → List ℕ → List Test → List Change → (Bits → Bits → Bool) → Bool
tried ks js hs cs q =
    let ts = map (weaken ks) hs in
    all_read_in ks ts
    && (new_in ks cs js
    && all_fills ks (λ bs. let f = fill ks bs in cond (all_hold ts f) (q f (changed cs f)) true))

-- two records that agree on ks agree on js after the changes
new_agree : (ks : List ℕ) (cs : List Change) (f g : Bits) → On ks f g → (js : List ℕ) → T (new_in ks cs js) → On js (changed cs f) (changed cs g)
new_agree ks cs f g e [] n k m = absurd m
new_agree ks cs f g e (j ∷ js) n k m =
    go (eqb j k) refl m (new_agree ks cs f g e js (and_r (reads_in ks (found cs j)) (new_in ks cs js) n) k)
  where
    go : (b : Bool) → eqb j k ≡ b → T (b || elem k js) → (T (elem k js) → changed cs f k ≡ changed cs g k) → changed cs f k ≡ changed cs g k
    go true p m r =
        subst (λ (x : ℕ). changed cs f x ≡ changed cs g x) (eqb-true j k p)
        (found_law cs f j ∙ holds_agree ks f g e (found cs j) (and_l (reads_in ks (found cs j)) (new_in ks cs js) n) ∙ sym (found_law cs g j))
    go false p m r = r m

module _ (ks js : List ℕ) (hs : List Test) (cs : List Change) (q : Bits → Bits → Bool)
    (local : (f f' g g' : Bits) → On ks f f' → On js g g' → q f g ≡ q f' g') where
  -- what is tried holds of every record
  pub tried_law : T (tried ks js hs cs q) → (f : Bits) → T (all_hold hs f) → T (q f (changed cs f))
  tried_law t f h =
      subst T (local f₀ f (changed cs f₀) (changed cs f) e (new_agree ks cs f₀ f e js (and_l (new_in ks cs js) (all_fills ks p) rest)))
      (under (all_hold ts f₀) (q f₀ (changed cs f₀))
      (all_agree ks f₀ f e ts (and_l (all_read_in ks ts) (new_in ks cs js && all_fills ks p) t) ∙ T→true (all_hold ts f) (all_weaker ks f hs h))
      (at_fill ks p (and_r (new_in ks cs js) (all_fills ks p) rest) f))
    where
      ts : List Test
      ts = map (weaken ks) hs

      p : List Bool → Bool
      p bs = cond (all_hold ts (fill ks bs)) (q (fill ks bs) (changed cs (fill ks bs))) true

      rest : T (new_in ks cs js && all_fills ks p)
      rest = and_r (all_read_in ks ts) (new_in ks cs js && all_fills ks p) t

      f₀ : Bits
      f₀ = fill ks (map f ks)

      e : On ks f₀ f
      e = fill_agree ks f

-- ---- the bits that new bits rest on

-- a list without repetitions
abbrev pub once : List ℕ → List ℕ
once [] = []
once (k ∷ ks) = let r = once ks in cond (elem k r) r (k ∷ r)

-- the places js and what is read to make them
abbrev pub sources : List Change → List ℕ → List ℕ
sources cs js = once (js ++ join (map (λ k. reads (found cs k)) js))

-- the places that are changed
abbrev pub targets : List Change → List ℕ
targets [] = []
targets ((k ≔ t) ∷ cs) = k ∷ targets cs

-- a place that is not among them stays as it is
pub not_target : (cs : List Change) (f : Bits) (k : ℕ) → elem k (targets cs) ≡ false → changed cs f k ≡ f k
not_target [] f k o = refl
not_target ((j ≔ t) ∷ cs) f k o = go (eqb j k) o (not_target cs f k)
  where
    go : (b : Bool) → b || elem k (targets cs) ≡ false → (elem k (targets cs) ≡ false → changed cs f k ≡ f k) → cond b (holds t f) (changed cs f k) ≡ f k
    go true o r = absurd (subst T o tt)
    go false o r = r o
