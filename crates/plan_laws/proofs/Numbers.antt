-- Which numbers a set of a plan is told: no set is outstanding there and nothing is set apart. Assumes nothing.
use mathlib.Core.Path.{◌≡◌, refl, sym, ap, subst, ◌∙◌}
use mathlib.Core.Logic.{◌⊎◌, inl, inr}
use mathlib.Core.Bool.{Bool, true, false, ◌&&◌, and-false}
use mathlib.Core.List.{List, []}
use Prim.Native.Nat.{ℕ, ◌^◌, ◌≤◌, ◌<◌}
use native.Mathlib.Omega.{arith}
use lib.Dec.{eqb, ltb}
use borrow.Author.Tests.{le-ltb}
use Rattle.bits.specs.Bits.{bit}
use Rattle.bits.specs.Search.{least}
use Rattle.bits.proofs.Cases.{clash}
use Rattle.bits.proofs.Search.{none_is}
use Rattle.bits.proofs.Digits.{bit_none}
use Rattle.codec.specs.Bytes.{from_little_endian, Bytes}
use Rattle.rules.specs.Codes.{most_in_set}
use Rattle.answers.specs.Answers.{number_of}
use Rattle.station.specs.declared.Station.{Station}
use Rattle.station.specs.declared.Outcome.{Outcome}
use Rattle.station.specs.Held.{code_at, held_parts, bad, overlaps_earlier, barred, why_not, touches, crosses_drive}
use Rattle.station.specs.Station.{start_of, fit}
use Rattle.station.specs.Calls as station
use Rattle.station_laws.specs.Runs.{answer_number, by_image}
use Rattle.station_laws.proofs.Reasons.{why_number, least_fault}
use Rattle.station_laws.proofs.Calls.{either, no_fault}
use Rattle.station_laws.proofs.Always.{begins_has}
use Rattle.station_laws.proofs.Demands.{image_taken}
use Rattle.plan.specs.Plans.{plan_in}
use Rattle.plan_laws.specs.Trials.{plan_image, started}
use Rattle.plan_laws.specs.Promises.{OfSet, bad_field, too_many, empty_set, overlap, not_allowed, out_of_turn}
use Rattle.plan_laws.proofs.Orders.{Met}

-- ---- a request

-- it is taken, or told with a number of a set
pub record Told (o : Outcome) : Type 0 where
  pub one : (number_of o.answer ≡ 0) ⊎ OfSet (number_of o.answer)

-- nothing touches what is set apart, where nothing is
untouching : (set : List ℕ) (i : ℕ) → touches set 0 i ≡ false
unfolding touches
untouching set i = none_is 64 _ (λ k h. ap (λ (b : Bool). bit (held_parts (code_at set i)) k && b) (bit_none k) ∙ and-false (bit (held_parts (code_at set i)) k))

module _ (s : Station) (f : fit s ≡ true) (idle : s.count ≡ 0) (whole : s.apart ≡ 0) (n : ℕ) (set : List ℕ) where
  none_apart : ltb (least n (touches set s.apart)) n ≡ false
  none_apart = no_fault n (touches set s.apart) (λ i h. ap (λ (a : ℕ). touches set a i) whole ∙ untouching set i)

  none_out : ltb 0 s.count ≡ false
  none_out = le-ltb 0 s.count (omega arith)

  why_told : ltb (least n (barred set s.bits)) n ≡ true → Told (station.refused s (why_not set s.bits (least n (barred set s.bits))))
  why_told t = record { one = inr (go (why_number set s.bits (least n (barred set s.bits)) (least_fault n (barred set s.bits) t).passes)) }
    where
      go : {k : ℕ} → (k ≡ 4) ⊎ ((20 ≤ k) × (k ≤ 28)) → OfSet k
      go (inl h) = subst OfSet (sym h) bad_field
      go (inr h) = not_allowed _ h.0 h.1

  pub request_numbers : Told (station.request s n set)
  unfolding station.request station.requested station.cleared station.spared station.accepted
  request_numbers =
      either Told (fit s) (λ a.
      either Told (ltb 0 s.count) (λ t. clash t none_out) (λ b.
      either Told (ltb most_in_set n) (λ t. record { one = inr too_many }) (λ c.
      either Told (eqb n 0) (λ t. record { one = inr empty_set }) (λ d.
      either Told (ltb (least n (bad set)) n) (λ t. record { one = inr bad_field }) (λ g.
      either Told (crosses_drive s.bits set n) (λ t. record { one = inr out_of_turn }) (λ x.
      either Told (ltb (least n (touches set s.apart)) n) (λ t. clash t none_apart) (λ y.
      either Told (ltb (least n (overlaps_earlier set)) n) (λ t. record { one = inr overlap }) (λ z.
      either Told (ltb (least n (barred set s.bits)) n) why_told (λ h. record { one = inl refl })))))))))
      (λ a. clash f a)

-- ---- the image

-- eight bytes say a number of 64 bits
eight_small : (s : List ℕ) → Bytes s → from_little_endian 8 0 s < 2 ^ 64
eight_small s b = omega (arith, b 0, b 1, b 2, b 3, b 4, b 5, b 6, b 7)

pub started_met : (s : List ℕ) → Bytes s → answer_number start_of (plan_image (plan_in s)) ≡ 0 → Met (started (plan_in s))
started_met s b e =
    let p = plan_in s in
    let B = by_image start_of p.bits p.apart (eight_small s b) e in
    record {
      reached = record { origin = started p; begins = B; since = []; no_images = tt; here = refl };
      idle = (begins_has (started p) B).1;
      whole = ((image_taken start_of p.bits p.apart).1 e).1;
    }
