-- A request rests on the five bytes of its instructions alone: zeros past them change nothing. Assumes nothing.
use mathlib.Core.Path.{◌≡◌, refl, sym, ◌∙◌, ap, ap₂}
use mathlib.Core.Bool.{true, false, not, cond, ◌&&◌}
use mathlib.Core.List.{List, ◌++◌}
use Prim.Native.Nat.{ℕ, ◌*◌, ◌-◌, ◌≤◌, ◌<◌}
use native.Mathlib.Omega.{arith}
use borrow.Author.Tests.{ltb-true, ltb-false, lt-ltb, le-ltb, le-leb, lt-leb}
use lib.Dec.{eqb, ltb}
use lib.ListN.{length, take, replicate}
use lib.Seq.{take_at, length-take-le, take_all}
use Rattle.bits.specs.Bits.{bit}
use Rattle.bits.specs.Places.{share}
use Rattle.bits.specs.Search.{some}
use Rattle.floor.specs.Floor.{lift}
use Rattle.floor.specs.Tests.{holds, under_way}
use Rattle.rules.specs.declared.Code.{Code}
use Rattle.answers.specs.declared.Answer.TheVariants.{TooFewBytes, TooMany, SetOutstanding, EmptySet, BadField, Overlap, Opened, OutOfTurn, SetApart}
use Rattle.rules.specs.Verdicts.{code_verdict, answer_for}
use Rattle.station.specs.declared.Station.{Station}
use Rattle.station.specs.declared.Outcome.{Outcome}
use Rattle.station.specs.Held.{code_at, is_good, held_area, held_allowed, held_parts, overlaps_earlier, touches, lift_in, crosses_drive}
use Rattle.station.specs.Station.{opened}
use Rattle.station.specs.Calls.{refused, on_fit, unless_any, accepted, spared, cleared, requested, request}
use Rattle.station.proofs.Padding.{padded_code}
use Rattle.wire.specs.Kinds.{set_of}
use Rattle.wire.proofs.Parts.{set_short}
use Rattle.bits.proofs.Cases.{split}
use Rattle.rooms.specs.Rooms.{bytes_asked}
use Rattle.rooms.specs.Rooms.{request_of}

-- too many ask for none, eight and fewer for five each
pub none_asked : (n : ℕ) → 8 < n → 0 ≡ bytes_asked n
none_asked n h = rw (lt-ltb 8 n h)

pub five_asked : (n : ℕ) → n ≤ 8 → 5 * n ≡ bytes_asked n
five_asked n h = rw (le-ltb 8 n h)

module _ (s : Station) (n : ℕ) where
  -- a request by its instructions and the station that they make
  form : (ℕ → Code) → Station → Outcome
  form code made =
      on_fit s
      (cond (ltb 0 s.count) (refused s SetOutstanding)
      (cond (ltb 8 n) (refused s TooMany)
      (cond (eqb n 0) (refused s EmptySet)
      (unless_any n (λ i. not (is_good (code i))) s BadField
      (cond (holds under_way (bit s.bits) && some n (λ j. share (held_area (code j)) lift)) (refused s OutOfTurn)
      (unless_any n (λ i. some 64 (λ k. bit (held_parts (code i)) k && bit s.apart k)) s SetApart
      (unless_any n (λ i. some i (λ j. share (held_area (code i)) (held_area (code j)))) s Overlap
      (unless_any n (λ i. not (held_allowed (code i) (bit s.bits))) s (λ i. answer_for (code_verdict (code i) s.bits) i)
      (record { station = made; answer = Opened s.next })))))))))

  as_form : (set : List ℕ) → request s n set ≡ form (code_at set) (opened s n set)
  unfolding request requested cleared spared accepted form touches overlaps_earlier lift_in crosses_drive
  as_form set = refl

  padded : (l : List ℕ) (m : ℕ) → length l ≡ 5 * n → request s n (l ++ replicate m 0) ≡ request s n l
  padded l m e =
      let kept : take (5 * n) (l ++ replicate m 0) ≡ take (5 * n) l = take_at l (replicate m 0) (5 * n) e ∙ sym (take_all (5 * n) l (omega arith)) in
      as_form (l ++ replicate m 0) ∙ ap₂ form (padded_code l m) (rw kept) ∙ sym (as_form l)

  module _ (set : List ℕ) where
    -- more than eight: no byte is looked at
    too_many : (a : List ℕ) → 8 < n → request s n a ≡ request_of n set s
    unfolding request requested request_of
    too_many a h = rw (lt-leb _ _ h, lt-ltb _ _ h)

    -- fewer bytes than the count says
    too_few : n ≤ 8 → length set < 5 * n → ◌≡◌ {A = Outcome} (record { station = s; answer = TooFewBytes }) (request_of n set s)
    unfolding request_of
    too_few h l = rw (le-leb _ _ h, lt-ltb _ _ l)

    -- the bytes of the instructions, with zeros past them
    enough : {a : List ℕ} → n ≤ 8 → 5 * n ≤ length set → a ≡ set_of (take (5 * n) set) → request s n a ≡ request_of n set s
    unfolding request_of
    enough h l e =
        let short : length (take (5 * n) set) ≤ 40 = rw (length-take-le (5 * n) set l) (omega arith) in
        rw (le-leb _ _ h, le-ltb _ _ l, e ∙ set_short (take (5 * n) set) short) (padded (take (5 * n) set) (40 - length (take (5 * n) set)) (length-take-le (5 * n) set l))

    -- the same by how many bytes are asked for
    pub asked_few : (k : ℕ) → k ≡ bytes_asked n → length set < k → ◌≡◌ {A = Outcome} (record { station = s; answer = TooFewBytes }) (request_of n set s)
    asked_few k e l = split (ltb 8 n)
        (λ t. let z : k ≡ 0 = e ∙ rw t in absurd (omega arith))
        (λ t. let z : k ≡ 5 * n = e ∙ rw t in too_few (ltb-false 8 n t) (omega arith))

    pub asked_enough : (k : ℕ) {a : List ℕ} → k ≡ bytes_asked n → k ≤ length set → a ≡ set_of (take k set) → request s n a ≡ request_of n set s
    asked_enough k {a} e l f = split (ltb 8 n)
        (λ t. too_many a (ltb-true 8 n t))
        (λ t. let z : k ≡ 5 * n = e ∙ rw t in enough (ltb-false 8 n t) (omega arith) (f ∙ ap (λ (m : ℕ). set_of (take m set)) z))
