-- What it says that a text begins with a word, and the loop that tries it: the invariant, where it starts, one turn, and how it ends.
-- Assumes nothing.
use mathlib.Core.Path.{◌≡◌, refl, sym, ap, ap₂, ◌∙◌}
use mathlib.Core.Bool.{true, false}
use mathlib.Core.List.{List, [], ◌∷◌, ◌++◌}
use Prim.Native.Nat.{ℕ, ◌+◌, ◌≤◌, ◌<◌}
use native.Mathlib.Omega.{arith}
use native.Mathlib.Numerals.{add-one}
use lib.Dec.{eqb}
use lib.ListN.{length, get_or, take, drop, length-drop, length-take, take-append-drop}
use lib.Seq.{take-suc, take-length, take_at, drop_at, get_or-take, get_or-drop}
use borrow.Author.Tests.{eqb-true, eq-eqb}
use Rattle.bits.proofs.Cases.{both, off}
use Rattle.drawing.specs.Reading.{same, begins, text_after}

-- ---- two texts are the same

pub same_eq : (s t : List ℕ) → same s t ≡ true → s ≡ t
unfolding same
same_eq [] [] e = refl
same_eq [] (c ∷ t) e = absurd (Rattle.bits.proofs.Cases.true→T e)
same_eq (b ∷ s) [] e = absurd (Rattle.bits.proofs.Cases.true→T e)
same_eq (b ∷ s) (c ∷ t) e = let (p, q) = both (eqb b c) (same s t) e in ap₂ ◌∷◌ (eqb-true b c p) (same_eq s t q)

pub same_self : (s : List ℕ) → same s s ≡ true
unfolding same
same_self [] = refl
same_self (b ∷ s) = rw (eq-eqb b b refl) (same_self s)

pub eq_same : (s t : List ℕ) → s ≡ t → same s t ≡ true
eq_same s t e = ap (λ (x : List ℕ). same x t) e ∙ same_self t

-- ---- a text begins with a word

pub begins_eq : (word s : List ℕ) → begins word s ≡ true → s ≡ word ++ text_after word s
begins_eq word s e = sym (take-append-drop (length word) s) ∙ ap (λ (x : List ℕ). x ++ text_after word s) (same_eq (take (length word) s) word e)

pub begins_is : (word s t : List ℕ) → s ≡ word ++ t → begins word s ≡ true
begins_is word s t e = eq_same (take (length word) s) word (ap (take (length word)) e ∙ take_at word t (length word) refl)

pub after_is : (word s t : List ℕ) → s ≡ word ++ t → text_after word s ≡ t
after_is word s t e = ap (drop (length word)) e ∙ drop_at word t (length word) refl

-- ---- the loop, over the text from a place on

-- i bytes are alike so far
pub record Alike (s : List ℕ) (at : ℕ) (word : List ℕ) (i : ℕ) : Type 0 where
  pub within : i ≤ length word
  pub fits : i ≤ length (drop at s)
  pub so_far : take i (drop at s) ≡ take i word

module _ (s : List ℕ) (at : ℕ) (word : List ℕ) where
  pub alike_starts : Alike s at word 0
  alike_starts = record { within = omega arith; fits = omega arith; so_far = refl }

  pub alike_turns : {i : ℕ} → Alike s at word i → i < length word → at + i < length s → get_or s (at + i) 0 ≡ get_or word i 0 → Alike s at word (i + 1)
  alike_turns {i} v h l e =
      let k : i < length (drop at s) = omega (arith, length-drop at s) in
      record {
        within = omega arith;
        fits = omega arith;
        so_far = rw add-one (take-suc (drop at s) i 0 k ∙ ap₂ (λ (x : List ℕ) (b : ℕ). x ++ (b ∷ [])) v.so_far (get_or-drop at s i 0 ∙ e) ∙ sym (take-suc word i 0 h));
      }

  pub alike_ends : {i : ℕ} → Alike s at word i → length word ≤ i → true ≡ begins word (drop at s)
  alike_ends {i} v h =
      let z : i ≡ length word = omega (arith, v.within) in
      sym (eq_same (take (length word) (drop at s)) word
      (ap (λ (n : ℕ). take n (drop at s)) (sym z) ∙ v.so_far ∙ ap (λ (n : ℕ). take n word) z ∙ take-length word))

  -- the text is too short, or a byte differs
  pub alike_short : {i : ℕ} → i < length word → length s ≤ at + i → false ≡ begins word (drop at s)
  alike_short {i} h l =
      sym (off (begins word (drop at s))
      (λ e. omega (arith, ap length (same_eq (take (length word) (drop at s)) word e), length-take (length word) (drop at s), length-drop at s)))

  pub alike_not : {i : ℕ} → i < length word → (get_or s (at + i) 0 ≡ get_or word i 0 → ⊥) → false ≡ begins word (drop at s)
  alike_not {i} h n =
      sym (off (begins word (drop at s))
      (λ e. n (sym (get_or-drop at s i 0) ∙ sym (get_or-take (length word) (drop at s) i 0 h)
      ∙ ap (λ (x : List ℕ). get_or x i 0) (same_eq (take (length word) (drop at s)) word e))))
