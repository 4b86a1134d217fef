-- Tests of every place of a list; what it says that two lists share a place, of the lists and of their masks. Assumes nothing.
use mathlib.Core.Path.{◌≡◌, refl, sym, ap₂, subst, ◌∙◌}
use mathlib.Core.Bool.{Bool, true, not, ◌&&◌, ◌||◌, or-true}
use mathlib.Core.List.{List, [], ◌∷◌}
use Prim.Native.Nat.{ℕ, ◌<◌}
use lib.Bits.{bit_and}
use lib.Dec.{T, eqb, ltb, ltb→lt}
use borrow.Author.Tests.{eqb-true}
use Rattle.bits.specs.Bits.{image}
use Rattle.bits.specs.Places.{elem, share}
use Rattle.bits.specs.Search.{some}
use Rattle.bits.proofs.Cases.{split, clash, both, alike, and_intro, and_l, and_r, T→true, true→T}
use Rattle.bits.proofs.Search.{some_at, some_is, some_same}
use Rattle.bits.proofs.Digits.{bit_image, packed_lt}
use Rattle.bits.proofs.Counts.{elem_here, elem_there}
use Rattle.bits.proofs.Meeting.{meet}

-- every place of a list passes
abbrev pub all_pass : (ℕ → Bool) → List ℕ → Bool
all_pass p [] = true
all_pass p (k ∷ ks) = p k && all_pass p ks

pub pass_at : (p : ℕ → Bool) (ks : List ℕ) → T (all_pass p ks) → (k : ℕ) → T (elem k ks) → T (p k)
pass_at p [] t k m = absurd m
pass_at p (j ∷ js) t k m = split (eqb j k)
    (λ e. subst (λ (x : ℕ). T (p x)) (eqb-true j k e) (and_l (p j) (all_pass p js) t))
    (λ e. pass_at p js (and_r (p j) (all_pass p js) t) k (subst (λ (b : Bool). T (b || elem k js)) e m))

-- each is a bit of a record
abbrev pub are_bits : List ℕ → Bool
are_bits ks = all_pass (λ k. ltb k 64) ks

-- ---- lists that share a place

pub share_at : (ks js : List ℕ) → share ks js ≡ true → (k : ℕ) × (elem k ks ≡ true) × (elem k js ≡ true)
share_at [] js e = clash e refl
share_at (k ∷ ks) js e = split (elem k js)
    (λ m. (k, T→true (elem k (k ∷ ks)) (elem_here k ks), m))
    (λ m. let (j, p, q) = share_at ks js (rw m at e) in (j, T→true (elem j (k ∷ ks)) (elem_there k j ks (true→T p)), q))

pub share_is : (ks js : List ℕ) (k : ℕ) → elem k ks ≡ true → elem k js ≡ true → share ks js ≡ true
share_is [] js k p q = clash p refl
share_is (i ∷ is) js k p q = split (eqb i k)
    (λ e. rw (eqb-true i k e, q))
    (λ e. rw (share_is is js k (rw e at p) q) (or-true (elem i js)))

-- the places of a list are bits of a record
abbrev pub Small : List ℕ → Type 0
Small ks = (k : ℕ) → elem k ks ≡ true → k < 64

pub are_small : (ks : List ℕ) → T (are_bits ks) → Small ks
are_small ks t k m = ltb→lt k 64 (pass_at (λ k. ltb k 64) ks t k (true→T m))

-- some bit is in both
pub share_some : (ks js : List ℕ) → Small ks → share ks js ≡ some 64 (λ k. elem k ks && elem k js)
share_some ks js small = alike (share ks js) (some 64 (λ k. elem k ks && elem k js))
    (λ e. let (k, p, q) = share_at ks js e in some_at 64 _ k (small k p) (and_intro p q))
    (λ e. let (k, l, m) = some_is 64 _ e in let (p, q) = both (elem k ks) (elem k js) m in share_is ks js k p q)

-- the same of their masks: `&` isn't 0
pub share_masks : (ks js : List ℕ) → Small ks → share ks js ≡ not (eqb (bit_and (image (λ k. elem k ks)) (image (λ k. elem k js))) 0)
share_masks ks js small =
    share_some ks js small
    ∙ some_same 64 _ _ (λ k l. sym (ap₂ ◌&&◌ (bit_image (λ k. elem k ks) k l) (bit_image (λ k. elem k js) k l)))
    ∙ meet 64 (image (λ k. elem k ks)) (image (λ k. elem k js)) (packed_lt 64 0 (λ k. elem k ks))
