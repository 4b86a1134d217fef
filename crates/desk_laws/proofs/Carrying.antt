-- The numbers as the desk holds them, after five bytes that say an instruction and after what an event's number says: they keep to its area,
-- and which are known is told by which were. Assumes nothing.
use mathlib.Core.Path.{◌≡◌, refl, sym, ap}
use mathlib.Core.Bool.{Bool, true, false, not}
use mathlib.Core.List.{List, []}
use Prim.Native.Nat.{ℕ}
use lib.ListN.{length}
use borrow.Author.Tests.{ne_eqb}
use Rattle.rules.specs.declared.Event.{Event}
use Rattle.bits.specs.Bits.{bit}
use Rattle.bits.specs.Places.{elem}
use Rattle.bits.proofs.Cases.{clash}
use Rattle.floor.specs.Sound.{sound}
use Rattle.rules.specs.declared.Code.{Code}
use Rattle.rules.specs.declared.Instruction.{Instruction}
use Rattle.std.specs.declared.option.Option.{Option}
use Rattle.std.specs.declared.option.Option.TheVariants.{Some, None}
use Rattle.rules.specs.declared.Event.TheVariants.{BeginIn}
use Rattle.rules.specs.Rules.{well_formed, area_of, area, allowed}
use Rattle.rules.specs.Codes.{read_code}
use Rattle.rules.specs.Verdicts.{on_code}
use Rattle.rules.proofs.CodeLaws.{one_form_lem}
use Rattle.rules_laws.specs.Laws.{Agree, lift_area}
use Rattle.station.specs.Held.{held_area, held_allowed}
use Rattle.station_laws.proofs.Instance.{on_event, possible_as, after_as}
use Rattle.cards.specs.Held.{numbers_in, cards_after, code_cards, cards_driven, cards_fit, is_known}
use Rattle.cards_laws.specs.Statements.{SameOn}
use Rattle.cards_laws.proofs.Tested.{is_new, new_same}
use Rattle.cards_laws.proofs.Arrays as array

-- a number other than 0 is known in both of two arrays in which it is new alike
pub known_alike : (c : ℕ) (a b : List ℕ) → (c ≡ 0 → ⊥) → is_new c a ≡ is_new c b → is_known a c ≡ is_known b c
known_alike c a b o e = opposite (is_known a c) (is_known b c) (rw (ne_eqb c 0 o) at e)
  where
    opposite : (p q : Bool) → not p ≡ not q → p ≡ q
    opposite true true h = refl
    opposite true false h = sym h
    opposite false true h = sym h
    opposite false false h = refl

-- ---- an instruction

module _ (x : Code) where
  -- what is shown of an instruction that is well formed, and of bytes that say none, is shown of the code
  by_reading : (P : (Option Instruction) → Type 0) → ((i : Instruction) → well_formed i ≡ true → P (Some i)) → P None → P (read_code x)
  by_reading P good bad = go (read_code x) refl
    where
      go : (v : (Option Instruction)) → read_code x ≡ v → P v
      go (Some i) e = good i (one_form_lem x i e).1
      go None e = bad

  pub code_length : (r : ℕ) (a : List ℕ) → length a ≡ 42 → length (code_cards x r a) ≡ 42
  unfolding code_cards
  code_length r a h = by_reading (λ v. length (on_code (λ i. cards_after i r a) a v) ≡ 42) (λ i w. array.after_length i w r a) h

  pub code_outside : (r : ℕ) (a : List ℕ) (k : ℕ) → elem k (held_area x) ≡ false → numbers_in (code_cards x r a) k ≡ numbers_in a k
  unfolding code_cards held_area area
  code_outside r a k = by_reading
      (λ v. elem k (on_code area_of [] v) ≡ false → numbers_in (on_code (λ i. cards_after i r a) a v) k ≡ numbers_in a k)
      (λ i w o. array.after_outside i w r a k o)
      (λ o. refl)

  pub code_inside : (r q : ℕ) (a b : List ℕ) → Agree (λ k. elem k (held_area x)) (bit r) (bit q)
      → SameOn (λ k. elem k (held_area x)) (numbers_in a) (numbers_in b)
      → SameOn (λ k. elem k (held_area x)) (numbers_in (code_cards x r a)) (numbers_in (code_cards x q b))
  unfolding code_cards held_area area
  code_inside r q a b = by_reading
      (λ v. Agree (λ k. elem k (on_code area_of [] v)) (bit r) (bit q) → SameOn (λ k. elem k (on_code area_of [] v)) (numbers_in a) (numbers_in b)
      → SameOn (λ k. elem k (on_code area_of [] v)) (numbers_in (on_code (λ i. cards_after i r a) a v)) (numbers_in (on_code (λ i. cards_after i q b) b v)))
      (λ i w e n. array.after_inside i w r q a b e n)
      (λ e n k m. clash m refl)

  -- on a sound record that they fit, no number is lost and none is made
  pub code_known : (r : ℕ) (a : List ℕ) → sound r ≡ true → cards_fit r a ≡ true → held_allowed x (bit r) ≡ true
      → (c : ℕ) → (c ≡ 0 → ⊥) → is_known (code_cards x r a) c ≡ is_known a c
  unfolding code_cards held_allowed
  code_known r a s f ok c o = by_reading
      (λ v. on_code (λ i. allowed i (bit r)) false v ≡ true → is_known (on_code (λ i. cards_after i r a) a v) c ≡ is_known a c)
      (λ i w t. array.after_known r a s f i t c o)
      (λ t. clash t refl) ok

-- ---- a car event

-- the numbers after what an event's number says, where b is the one that it brings
abbrev pub driven_as : (Option Event) → ℕ → List ℕ → List ℕ
driven_as v b a = on_event (λ e. cards_driven e b a) a v

pub driven_outside : (v : (Option Event)) (b : ℕ) (a : List ℕ) (k : ℕ) → lift_area k ≡ false → numbers_in (driven_as v b a) k ≡ numbers_in a k
driven_outside (Some e) b a k o = array.driven_outside e b a k o
driven_outside None b a k o = refl

pub driven_inside : (v : (Option Event)) (b : ℕ) (a c : List ℕ) → SameOn lift_area (numbers_in a) (numbers_in c)
    → SameOn lift_area (numbers_in (driven_as v b a)) (numbers_in (driven_as v b c))
driven_inside (Some e) b a c n = array.driven_inside e b a c n
driven_inside None b a c n = n

-- what it brings, if it brings one, is new
abbrev pub BringsNewAs : (Option Event) → ℕ → List ℕ → Type 0
BringsNewAs v b a = v ≡ Some BeginIn → is_new b a ≡ true

pub driven_fit : (v : (Option Event)) (b r : ℕ) (a : List ℕ) → sound r ≡ true → cards_fit r a ≡ true → possible_as v r ≡ true → BringsNewAs v b a
    → cards_fit (after_as v r) (driven_as v b a) ≡ true
driven_fit (Some e) b r a s f ok new = array.driven_fit r a s f e b ok (λ q. new (ap Some q))
driven_fit None b r a s f ok new = clash ok refl

-- which numbers are new after it rests on which were, and on the lift and the drives
module _ (r q : ℕ) (a b : List ℕ) (s : sound r ≡ true) (u : sound q ≡ true) (f : cards_fit r a ≡ true) (g : cards_fit q b ≡ true)
    (bits : Agree lift_area (bit r) (bit q)) (numbers : SameOn lift_area (numbers_in a) (numbers_in b)) where
  pub driven_new : (v : (Option Event)) (c : ℕ) → possible_as v r ≡ true → possible_as v q ≡ true → BringsNewAs v c a → BringsNewAs v c b
      → (d : ℕ) → is_new d a ≡ is_new d b → is_new d (driven_as v c a) ≡ is_new d (driven_as v c b)
  driven_new (Some e) c ok can new fresh d same = new_same d (cards_driven e c a) (cards_driven e c b) (λ o.
      array.driven_known r q a b s u f g e c ok can (λ p. new (ap Some p)) (λ p. fresh (ap Some p)) bits numbers d o (known_alike d a b o same))
  driven_new None c ok can new fresh d same = same
