-- What is left behind the last append, case by case. Assumes nothing.
use Rattle.std.proofs.Common.{◌≡◌, ℕ, Bool, true, false, cond, ◌||◌, eqb, List, length, sym, ap, ◌∙◌, ap₂, eq-eqb, ne_eqb}
use Rattle.journal_file.specs.declared.Front.{Front}
use Rattle.journal_file.specs.Appends.{Over, front_of, zeroed}
use Rattle.journal_reader.specs.declared.Rest.TheVariants.{Nothing, Torn, Damaged}
use Rattle.journal_reader.specs.Reading.{rest_of}

module _ (over : Over) (sum place : ℕ) (m : List ℕ) where
  pub nothing_left : length m ≡ 0 → Nothing ≡ rest_of over sum place m
  unfolding rest_of
  nothing_left e = rw (eq-eqb (length m) 0 e)

  module _ {f : Front} {z : Bool} (some : length m ≡ 0 → ⊥) (front : f ≡ front_of over sum m) (zero : z ≡ zeroed over sum place m) where
    tests : f.short || z ≡ (front_of over sum m).short || zeroed over sum place m
    tests = ap₂ (λ (g : Front) (x : Bool). g.short || x) front zero

    pub torn_left : f.short || z ≡ true → Torn ≡ rest_of over sum place m
    unfolding rest_of
    torn_left t = rw (ne_eqb (length m) 0 some, sym tests ∙ t)

    pub damage_left : f.short || z ≡ false → Damaged ≡ rest_of over sum place m
    unfolding rest_of
    damage_left t = rw (ne_eqb (length m) 0 some, sym tests ∙ t)
