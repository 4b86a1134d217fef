-- The bits of a row's next record are what the row says that they take. Assumes nothing.
use mathlib.Core.Path.{◌≡◌, refl, sym, ap, ap₂, ◌∙◌}
use mathlib.Core.Bool.{Bool, true, false, cond, not, ◌&&◌, ◌||◌, and-true}
use mathlib.Core.List.{List, [], ◌∷◌}
use Prim.Native.Nat.{ℕ, ◌+◌, ◌-◌, ◌*◌, ◌/◌, ◌%◌, ◌^◌, ◌<◌}
use lib.Bits.{bit_and, bit_or}
use lib.Dec.{eqb, leb, ltb}
use Rattle.bits.specs.Bits.{Bits, bit, all_set}
use Rattle.bits.specs.Places.{places}
use Rattle.bits.proofs.Digits.{bit_none}
use Rattle.bits.proofs.Operations.{bit_and_lem, bit_or_lem, bit_shl, bit_shr, bit_low}
use Rattle.bits.proofs.Masks.{all_places}
use Rattle.floor.specs.Tests.{Test, fact, set, exactly, even, no, both, either, holds, Change, ◌≔◌, changed}
use Rattle.rows.specs.Private.{Move, carried_bits, move_row}
use Rattle.rows.proofs.Takes.{takes, or2, live, takes_b, takes_a, moves, takes_moved, takes_new, row_takes}

pub takes_right : (cs : List Change) (f : Bits) (k : ℕ) → changed cs f k ≡ holds (takes cs k) f
takes_right [] f k = sym (and-true (f k))
takes_right ((j ≔ t) ∷ cs) f k = go (eqb j k) (takes_right cs f k)
  where
    go : (b : Bool) → changed cs f k ≡ holds (takes cs k) f → cond b (holds t f) (changed cs f k) ≡ holds (cond b t (takes cs k)) f
    go true e = refl
    go false e = e

or_false : (b : Bool) → b ≡ b || false
or_false true = refl
or_false false = refl

or2_right : (t u : Test) (f : Bits) → holds (or2 t u) f ≡ holds t f || holds u f
or2_right t (fact true) f = refl
or2_right t (fact false) f = or_false (holds t f)
or2_right t (set ks) f = refl
or2_right t (exactly n ks) f = refl
or2_right t (even ks) f = refl
or2_right t (no u) f = refl
or2_right t (both u v) f = refl
or2_right t (either u v) f = refl

live_right : (b : Bool) (t u : Test) (f : Bits) → holds (live b t u) f ≡ (b && holds t f) || holds u f
live_right true t u f = or2_right t u f
live_right false t u f = refl

-- a part's bit, and the rest's
beside : (x y k : ℕ) (b : Bool) (t u : Test) (f : Bits) → bit x k ≡ b && holds t f → bit y k ≡ holds u f → bit (bit_or x y) k ≡ holds (live b t u) f
beside x y k b t u f p q = bit_or_lem x y k ∙ ap₂ ◌||◌ p q ∙ sym (live_right b t u f)

swap : (a b : Bool) → a && b ≡ b && (a && true)
swap true true = refl
swap true false = refl
swap false true = refl
swap false false = refl

three : (a b c d : Bool) → a && (b && (c && d)) ≡ (a && (b && d)) && (c && true)
three true true true true = refl
three true true true false = refl
three true true false true = refl
three true true false false = refl
three true false c d = refl
three false b c d = refl

carried_right : (r a x k : ℕ) → a < 2 ^ 64 → bit (carried_bits r a x) k ≡ (bit x k && not (eqb a 0)) && all_set (places a) (bit r)
carried_right r a x k h = go (eqb (bit_and r a) a) (not (eqb a 0)) ∙ ap (λ (b : Bool). (bit x k && not (eqb a 0)) && b) (all_places r a h)
  where
    all : (b : Bool) → b ≡ (b && true) && true
    all true = refl
    all false = refl

    none : (b c : Bool) → false ≡ (b && c) && false
    none true true = refl
    none true false = refl
    none false c = refl

    nothing : (b : Bool) → false ≡ (b && false) && true
    nothing true = refl
    nothing false = refl

    go : (e n : Bool) → bit (cond (e && n) x 0) k ≡ (bit x k && n) && e
    go true true = all (bit x k)
    go true false = bit_none k ∙ nothing (bit x k)
    go false n = bit_none k ∙ none (bit x k) n

module _ (m : Move) (r k : ℕ) (ha : m.from_a < 2 ^ 64) (hb : m.from_b < 2 ^ 64) where
  shift_right : bit (bit_and r m.movers * 2 ^ m.up % 2 ^ 64 / 2 ^ m.down) k
      ≡ (ltb (m.down + k) 64 && (leb m.up (m.down + k) && bit m.movers (m.down + k - m.up))) && (bit r (m.down + k - m.up) && true)
  shift_right =
      bit_shr (bit_and r m.movers * 2 ^ m.up % 2 ^ 64) m.down k
      ∙ bit_low (bit_and r m.movers * 2 ^ m.up) 64 (m.down + k)
      ∙ ap (λ (b : Bool). ltb (m.down + k) 64 && b)
      (bit_shl (bit_and r m.movers) m.up (m.down + k)
      ∙ ap (λ (b : Bool). leb m.up (m.down + k) && b) (bit_and_lem r m.movers (m.down + k - m.up)))
      ∙ three (ltb (m.down + k) 64) (leb m.up (m.down + k)) (bit r (m.down + k - m.up)) (bit m.movers (m.down + k - m.up))

  pub move_right : bit (move_row m r) k ≡ holds (row_takes m k) (bit r)
  move_right =
      beside _ _ k (bit m.keep k) (set (k ∷ [])) (takes_new m k) (bit r) (bit_and_lem r m.keep k ∙ swap (bit r k) (bit m.keep k))
      (beside _ _ k (bit m.new k) (fact true) (takes_moved m k) (bit r) (sym (and-true (bit m.new k)))
      (beside _ _ k (moves m k) (set ((m.down + k - m.up) ∷ [])) (takes_a m k) (bit r) shift_right
      (beside _ _ k (bit m.to_a k && not (eqb m.from_a 0)) (set (places m.from_a)) (takes_b m k) (bit r) (carried_right r m.from_a m.to_a k ha)
      (carried_right r m.from_b m.to_b k hb
      ∙ or_false _ ∙ sym (live_right (bit m.to_b k && not (eqb m.from_b 0)) (set (places m.from_b)) (fact false) (bit r))))))
