-- Steps that are compared. Assumes nothing.
use mathlib.Core.Path.{◌≡◌, refl, ap, ap₂}
use mathlib.Core.Bool.{Bool, true, false, not, ◌&&◌}
use mathlib.Core.List.{List, [], ◌∷◌}
use Prim.Native.Nat.{ℕ}
use lib.Dec.{eqb}
use borrow.Author.Tests.{eqb-true}
use Rattle.bits.proofs.Cases.{both, clash}
use Rattle.answers.specs.Answers.{reason_number}
use Rattle.answers.proofs.Promises.{reason_same}
use Rattle.rows.proofs.Steps.{Atom, Never, Look, Even, Other, Step, ◌or◌}

abbrev pub same_bits : Bool → Bool → Bool
same_bits true b = b
same_bits false b = not b

abbrev pub same_list : List ℕ → List ℕ → Bool
same_list [] [] = true
same_list [] (y ∷ ys) = false
same_list (x ∷ xs) [] = false
same_list (x ∷ xs) (y ∷ ys) = eqb x y && same_list xs ys

-- what isn't taken apart is the same as nothing
abbrev pub same_atom : Atom → Atom → Bool
same_atom Never Never = true
same_atom Never (Look b k) = false
same_atom Never (Even ks) = false
same_atom Never (Other t) = false
same_atom (Look c j) Never = false
same_atom (Look c j) (Look b k) = same_bits c b && eqb j k
same_atom (Look c j) (Even ks) = false
same_atom (Look c j) (Other t) = false
same_atom (Even js) Never = false
same_atom (Even js) (Look b k) = false
same_atom (Even js) (Even ks) = same_list js ks
same_atom (Even js) (Other t) = false
same_atom (Other u) a = false

abbrev pub same_steps : List Step → List Step → Bool
same_steps [] [] = true
same_steps [] (t ∷ ts) = false
same_steps (s ∷ ss) [] = false
same_steps ((a or v) ∷ ss) ((b or w) ∷ ts) = same_atom a b && (eqb (reason_number v) (reason_number w) && same_steps ss ts)

bits_right : (a b : Bool) → same_bits a b ≡ true → a ≡ b
bits_right true true e = refl
bits_right true false e = clash e refl
bits_right false true e = clash e refl
bits_right false false e = refl

list_right : (xs ys : List ℕ) → same_list xs ys ≡ true → xs ≡ ys
list_right [] [] e = refl
list_right [] (y ∷ ys) e = clash e refl
list_right (x ∷ xs) [] e = clash e refl
list_right (x ∷ xs) (y ∷ ys) e = let b = both (eqb x y) (same_list xs ys) e in ap₂ ◌∷◌ (eqb-true x y b.0) (list_right xs ys b.1)

pub atom_right : (a b : Atom) → same_atom a b ≡ true → a ≡ b
atom_right Never Never e = refl
atom_right Never (Look b k) e = clash e refl
atom_right Never (Even ks) e = clash e refl
atom_right Never (Other t) e = clash e refl
atom_right (Look c j) Never e = clash e refl
atom_right (Look c j) (Look b k) e = let p = both (same_bits c b) (eqb j k) e in ap₂ Look (bits_right c b p.0) (eqb-true j k p.1)
atom_right (Look c j) (Even ks) e = clash e refl
atom_right (Look c j) (Other t) e = clash e refl
atom_right (Even js) Never e = clash e refl
atom_right (Even js) (Look b k) e = clash e refl
atom_right (Even js) (Even ks) e = ap Even (list_right js ks e)
atom_right (Even js) (Other t) e = clash e refl
atom_right (Other u) a e = clash e refl

pub steps_same : (ss ts : List Step) → same_steps ss ts ≡ true → ss ≡ ts
steps_same [] [] e = refl
steps_same [] (t ∷ ts) e = clash e refl
steps_same (s ∷ ss) [] e = clash e refl
steps_same ((a or v) ∷ ss) ((b or w) ∷ ts) e =
    let p = both (same_atom a b) (eqb (reason_number v) (reason_number w) && same_steps ss ts) e in
    let q = both (eqb (reason_number v) (reason_number w)) (same_steps ss ts) p.1 in
    ap₂ ◌∷◌ (ap₂ ◌or◌ (atom_right a b p.0) (reason_same v w (eqb-true _ _ q.0))) (steps_same ss ts q.1)
