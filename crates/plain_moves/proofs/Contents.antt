-- What each element of an array takes from the places of a record: an array made by stores, told element by element, and what the rules'
-- changes make of the same places. Assumes nothing.
use mathlib.Core.Path.{◌≡◌, refl, sym, ap, ◌∙◌}
use mathlib.Core.Bool.{Bool, true, false, cond, ◌&&◌, ◌||◌, and-true, beq}
use mathlib.Core.List.{List, [], ◌∷◌}
use Prim.Native.Nat.{ℕ, ◌<◌}
use lib.Dec.{T, eqb}
use lib.ListN.{length, get_or, set}
use Rattle.bits.specs.Bits.{Bits, all_set}
use Rattle.bits.specs.Places.{elem}
use Rattle.bits.specs.Search.{every}
use Rattle.bits.proofs.Cases.{and_l, and_r, beq→eq}
use Rattle.bits.proofs.Counts.{set_agree, elem_here, elem_there}
use Rattle.bits.proofs.Lists.{same, same_eq}
use Rattle.bits.proofs.Search.{each as each_below}
use Rattle.floor.specs.Tests.{Test, fact, exactly, even, no, both, either, holds, Change, changed}
use Rattle.floor.specs.Tests.{set as set_at}
use Rattle.floor.proofs.Reading.{inside, inside_at, found, found_law}
use Rattle.plain.specs.Plain.{listed}
use Rattle.plain_moves.specs.Private.{stored}
use Rattle.plain.proofs.Listing.{listed_same, list_is, set_listed}

-- ---- what an element takes

-- yes or no, whatever the record; or whether all of some places are occupied
pub data Content : Type 0 where
  told : Bool → Content
  all : List ℕ → Content

abbrev pub has : Content → Bits → Bool
has (told b) f = b
has (all ks) f = all_set ks f

-- it looks at places of a only
abbrev pub looks_in : List ℕ → Content → Bool
looks_in a (told b) = true
looks_in a (all ks) = inside a ks

has_agree : (a : List ℕ) (f g : Bits) → ((k : ℕ) → T (elem k a) → f k ≡ g k) → (x : Content) → T (looks_in a x) → has x f ≡ has x g
has_agree a f g e (told b) h = refl
has_agree a f g e (all ks) h = set_agree ks f g (λ k m. e k (inside_at a ks h k m))

-- a test asks for the same
abbrev is_told : Bool → Content → Bool
is_told b (told a) = beq a b
is_told b (all ks) = false

abbrev is_all : List ℕ → Content → Bool
is_all ks (told b) = false
is_all ks (all js) = same js ks

abbrev pub asks : Test → Content → Bool
asks (fact b) x = is_told b x
asks (set_at ks) x = is_all ks x
asks (exactly n ks) x = false
asks (even ks) x = false
asks (no t) x = false
asks (both t u) x = false
asks (either t u) x = false

asks_law : (t : Test) (x : Content) (f : Bits) → T (asks t x) → has x f ≡ holds t f
asks_law (fact b) (told a) f h = beq→eq a b h
asks_law (fact b) (all ks) f h = absurd h
asks_law (set_at ks) (told b) f h = absurd h
asks_law (set_at ks) (all js) f h = ap (λ (l : List ℕ). all_set l f) (same_eq js ks h)
asks_law (exactly n ks) x f h = absurd h
asks_law (even ks) x f h = absurd h
asks_law (no t) x f h = absurd h
asks_law (both t u) x f h = absurd h
asks_law (either t u) x f h = absurd h

-- ---- an array, told by what its elements take

pub record Told (n : ℕ) (f : Bits) (a : List Bool) (x : ℕ → Content) : Type 0 where
  pub is : a ≡ listed n (λ j. has (x j) f)

pub told_starts : (n : ℕ) (f : Bits) (a : List Bool) (x : ℕ → Content) → length a ≡ n → ((j : ℕ) → get_or a j false ≡ has (x j) f) → Told n f a x
told_starts n f a x len e = record { is = list_is n a len ∙ listed_same n _ _ (λ j h. e j) }

-- one element stored
pub told_set : {n : ℕ} {f : Bits} {a : List Bool} {x : ℕ → Content} {v : Bool} → Told n f a x → (k : ℕ) (u : Content) → k < n → v ≡ has u f
    → Told n f (set a k v) (λ j. cond (eqb k j) u (x j))
told_set {n} {f} {a} {x} {v} p k u h e =
    record { is = ap (λ (l : List Bool). set l k v) p.is ∙ set_listed n k _ v h ∙ listed_same n _ _ (λ j l. one j (eqb k j)) }
  where
    one : (j : ℕ) (b : Bool) → cond b v (has (x j) f) ≡ has (cond b u (x j)) f
    one j true = e
    one j false = refl

-- several
pub told_stored : {n : ℕ} {f : Bits} {v : Bool} {a : List Bool} {x : ℕ → Content} → Told n f a x → (ks : List ℕ) (u : Content)
    → ((k : ℕ) → T (elem k ks) → k < n) → v ≡ has u f → Told n f (stored ks v a) (λ j. cond (elem j ks) u (x j))
unfolding stored
told_stored p [] u h e = p
told_stored {n} {f} {v} {a} {x} p (k ∷ ks) u h e =
    let r = told_stored {a = set a k v} {x = λ j. cond (eqb k j) u (x j)} (told_set p k u (h k (elem_here k ks)) e) ks u (λ j m. h j (elem_there k j ks m)) e in
    record { is = r.is ∙ listed_same n _ _ (λ j l. one j (elem j ks) (eqb k j)) }
  where
    one : (j : ℕ) (b c : Bool) → has (cond b u (cond c u (x j))) f ≡ has (cond (c || b) u (x j)) f
    one j true true = refl
    one j true false = refl
    one j false true = refl
    one j false false = refl

-- one of two arrays
pub told_either : {n : ℕ} {f : Bits} {a b : List Bool} {x y : ℕ → Content} (t : Bool) → Told n f a x → Told n f b y
    → Told n f (cond t a b) (λ j. cond t (x j) (y j))
told_either true p q = p
told_either false p q = q

-- ---- the same by the rules' changes

-- element j is of place p j, and the first n of them look among the places a only
module _ (cs : List Change) (n : ℕ) (p : ℕ → ℕ) (a : List ℕ) (x : ℕ → Content) where
  abbrev pub right_at : ℕ → Bool
  right_at j = asks (found cs (p j)) (x j) && looks_in a (x j)

  pub told_ends : {f : Bits} {l : List Bool} (g : Bits) → T (every n right_at) → Told n f l x → ((k : ℕ) → T (elem k a) → f k ≡ g k)
      → l ≡ listed n (λ j. changed cs g (p j))
  told_ends {f} g right v e = v.is ∙ listed_same n _ _ (λ j h.
      let r = each_below n right_at right j h in
      has_agree a f g e (x j) (and_r (asks (found cs (p j)) (x j)) (looks_in a (x j)) r)
      ∙ asks_law (found cs (p j)) (x j) g (and_l (asks (found cs (p j)) (x j)) (looks_in a (x j)) r)
      ∙ sym (found_law cs g (p j)))

-- a place that no change touches
abbrev pub keeps : List Change → ℕ → Bool
keeps cs k = asks (found cs k) (all (k ∷ []))

pub kept : (cs : List Change) (f : Bits) (k : ℕ) → T (keeps cs k) → f k ≡ changed cs f k
kept cs f k t = sym (and-true (f k)) ∙ asks_law (found cs k) (all (k ∷ [])) f t ∙ sym (found_law cs f k)
