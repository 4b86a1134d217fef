-- Code that joins its answers by `&` judges a list of tests: the list grows with each answer. Assumes nothing.
use mathlib.Core.Path.{◌≡◌, refl, sym, ap, ap₂, ◌∙◌}
use mathlib.Core.Bool.{Bool, ◌&&◌, and-true, and_assoc}
use mathlib.Core.List.{List, [], ◌∷◌, ◌++◌}
use Rattle.bits.specs.Bits.{Bits}
use Rattle.floor.specs.Tests.{Test, holds, all_hold}

-- b says whether f passes each of ts
pub record Judged (f : Bits) (ts : List Test) (b : Bool) : Type 0 where
  pub same : b ≡ all_hold ts f

all_append : (f : Bits) (ts us : List Test) → all_hold ts f && all_hold us f ≡ all_hold (ts ++ us) f
all_append f [] us = refl
all_append f (t ∷ ts) us = and_assoc (holds t f) (all_hold ts f) (all_hold us f) ∙ ap (λ (x : Bool). holds t f && x) (all_append f ts us)

pub one : (f : Bits) {b : Bool} (t : Test) → b ≡ holds t f → Judged f (t ∷ []) b
one f t e = record { same = e ∙ sym (and-true (holds t f)) }

pub many : (f : Bits) {b : Bool} (ts : List Test) → b ≡ all_hold ts f → Judged f ts b
many f ts e = record { same = e }

infixl 60 ◌also◌
pub ◌also◌ : {f : Bits} {ts us : List Test} {a b : Bool} → Judged f ts a → Judged f us b → Judged f (ts ++ us) (a && b)
◌also◌ {f} {ts} {us} p q = record { same = ap₂ ◌&&◌ p.same q.same ∙ all_append f ts us }
