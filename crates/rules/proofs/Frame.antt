-- The frame laws: an instruction's verdict rests on its area and on what it sees, its new bits on its area alone, and it changes nothing
-- outside; an event's on the lift. That each test reads only the area is a test itself, computed for every well-formed instruction.
-- Assumes nothing.
use mathlib.Core.Path.{◌≡◌, refl, ap, ap₂}
use mathlib.Core.Bool.{Bool, true, false, cond, ◌&&◌, ◌||◌}
use mathlib.Core.List.{List, [], ◌∷◌, ◌++◌, map}
use Prim.Native.Nat.{ℕ, zero, suc}
use lib.Dec.{T}
use lib.ListN.{get_or}
use Rattle.bits.specs.Bits.{Bits, bit}
use Rattle.bits.specs.Places.{elem}
use Rattle.bits.specs.Search.{every}
use Rattle.bits.proofs.Cases.{and_l, and_r, split, T→true, true→T}
use Rattle.bits.proofs.Sharing.{are_bits, Small, are_small}
use Rattle.floor.specs.Floor.{lift, lift_cells, left_of_lift, right_of_lift, drives}
use Rattle.floor.specs.Tests.{Test, fact, free, even, no, holds, all_hold, height_is, at_basement}
use Rattle.floor.proofs.Reading.{reads_in, all_read_in, change_in, holds_agree, all_agree, changed_agree, changed_outside}
use Rattle.rules.specs.declared.Instruction.{Instruction}
use Rattle.rules.specs.declared.Instruction.TheVariants.{Belts, Shuttles, Tilt, Lift, Rotate}
use Rattle.rules.specs.declared.Refusal.TheVariants.{NotAllowed, IllFormed}
use Rattle.std.specs.declared.result.Result.TheVariants.{Err}
use Rattle.rules.specs.declared.Event.{Event}
use Rattle.rules.specs.declared.Event.TheVariants.{BeginIn, BeginOut, EndDone, EndNotDone}
use Rattle.rules.specs.Rules.{well_formed, area_of, area, seen, Clause, ◌else◌, test, clauses, conditions, changes, allowed, next_record}
use Rattle.rules.specs.Verdicts.{Verdict, judged, verdict_of}
use Rattle.rules.specs.Events.{turn, begin_conditions, event_conditions, event_changes, in_turn, possible, after_event}
use Rattle.rules.proofs.Every.{everywhere, each}

-- the tests that read only the area: the conditions; of a lift run's, what they ask besides the counts
abbrev own : Instruction → List Test
own (Belts row mask toward size) = conditions (Belts row mask toward size)
own (Shuttles side mask orientation toward) = conditions (Shuttles side mask orientation toward)
own (Tilt side row orientation) = conditions (Tilt side row orientation)
own (Lift height) = no (height_is height) ∷ no at_basement ∷ free lift_cells ∷ []
own Rotate = conditions Rotate

-- each of them does, and each change stands in the area and reads only it
abbrev pub framed : Instruction → Bool
framed i = all_read_in (area_of i) (own i) && change_in (area_of i) (changes i)

all_framed : T (everywhere framed)
unfolding everywhere every
all_framed = tt

-- ---- every place of an area is a bit of a record

abbrev area_bits : Instruction → Bool
area_bits i = are_bits (area_of i)

all_bits : T (everywhere area_bits)
unfolding everywhere every
all_bits = tt

pub area_small : (i : Instruction) → well_formed i ≡ true → Small (area_of i)
area_small i w = are_small (area_of i) (each area_bits all_bits i (true→T w))

-- ---- the laws

-- the two records hold the same in the area of i
abbrev pub Agree : Instruction → Bits → Bits → Type 0
Agree i f g = (k : ℕ) → area i k ≡ true → f k ≡ g k

in_area_lem : (i : Instruction) (f g : Bits) → Agree i f g → (k : ℕ) → T (elem k (area_of i)) → f k ≡ g k
unfolding area
in_area_lem i f g e k m = e k (T→true (elem k (area_of i)) m)

module _ (i : Instruction) (w : T (well_formed i)) where
  own_in : T (all_read_in (area_of i) (own i))
  own_in = and_l (all_read_in (area_of i) (own i)) (change_in (area_of i) (changes i)) (each framed all_framed i w)

  changes_in : T (change_in (area_of i) (changes i))
  changes_in = and_r (all_read_in (area_of i) (own i)) (change_in (area_of i) (changes i)) (each framed all_framed i w)

  pub same_next : (f g : Bits) → Agree i f g → Agree i (next_record i f) (next_record i g)
  unfolding next_record area
  same_next f g e k m = changed_agree (area_of i) f g (in_area_lem i f g e) (changes i) changes_in k (true→T m)

  pub kept_outside_lem : (f : Bits) (k : ℕ) → area i k ≡ false → next_record i f k ≡ f k
  unfolding next_record area
  kept_outside_lem f k o = changed_outside (area_of i) f (changes i) changes_in k o

-- ---- verdicts, condition by condition

-- each of some tests is answered alike on two records
abbrev Alike : Bits → Bits → List Test → Type 0
Alike f g ts = (n : ℕ) → holds (get_or ts n (fact true)) f ≡ holds (get_or ts n (fact true)) g

-- what a lift run sees says whether the count on either side is even
lift_sees : (height : ℕ) (f g : Bits) → seen (Lift height) f ≡ seen (Lift height) g → Alike f g (even left_of_lift ∷ even right_of_lift ∷ [])
lift_sees height f g v zero = ap (λ (l : List Bool). get_or l 0 true) v
lift_sees height f g v (suc zero) = ap (λ (l : List Bool). get_or l 1 true) v
lift_sees height f g v (suc (suc n)) = refl

-- where its own tests are, and an instruction sees the same, its conditions are
conditions_alike : (i : Instruction) (f g : Bits) → Alike f g (own i) → seen i f ≡ seen i g → Alike f g (conditions i)
conditions_alike (Belts row mask toward size) f g a v = a
conditions_alike (Shuttles side mask orientation toward) f g a v = a
conditions_alike (Tilt side row orientation) f g a v = a
conditions_alike (Lift height) f g a v = each_one
  where
    each_one : Alike f g (conditions (Lift height))
    each_one zero = a 0
    each_one (suc zero) = ap₂ ◌||◌ (a 1) (ap₂ ◌||◌ (a 2) (ap₂ ◌&&◌ (lift_sees height f g v 0) (lift_sees height f g v 1)))
    each_one (suc (suc n)) = refl
conditions_alike Rotate f g a v = a

module _ (f g : Bits) where
  -- tests that read only places on which the records agree
  reads_alike : (a : List ℕ) → ((k : ℕ) → T (elem k a) → f k ≡ g k) → (ts : List Test) → T (all_read_in a ts) → Alike f g ts
  reads_alike a e [] h n = refl
  reads_alike a e (t ∷ ts) h zero = holds_agree a f g e t (and_l (reads_in a t) (all_read_in a ts) h)
  reads_alike a e (t ∷ ts) h (suc n) = reads_alike a e ts (and_r (reads_in a t) (all_read_in a ts) h) n

  -- conditions answered alike all hold or not, and are judged the same, with the same reason
  all_alike : (ts : List Test) → Alike f g ts → all_hold ts f ≡ all_hold ts g
  all_alike [] a = refl
  all_alike (t ∷ ts) a = ap₂ ◌&&◌ (a 0) (all_alike ts (λ n. a (suc n)))

  judged_alike : (cs : List Clause) → Alike f g (map test cs) → judged cs f ≡ judged cs g
  judged_alike [] a = refl
  judged_alike ((t else why) ∷ cs) a = ap₂ (λ (b : Bool) (v : Verdict). cond b v (Err (NotAllowed why))) (a 0) (judged_alike cs (λ n. a (suc n)))

same_conditions : (i : Instruction) → T (well_formed i) → (f g : Bits) → Agree i f g → seen i f ≡ seen i g → Alike f g (conditions i)
same_conditions i w f g e v = conditions_alike i f g (reads_alike f g (area_of i) (in_area_lem i f g e) (own i) (own_in i w)) v

-- an ill-formed instruction is never allowed
pub same_verdict_lem : (i : Instruction) (f g : Bits) → Agree i f g → seen i f ≡ seen i g → allowed i f ≡ allowed i g
unfolding allowed
same_verdict_lem i f g e v = split (well_formed i)
    (λ w. ap (λ (b : Bool). well_formed i && b) (all_alike f g (conditions i) (same_conditions i (true→T w) f g e v)))
    (λ w. rw w)

pub same_reason : (i : Instruction) (r q : ℕ) → Agree i (bit r) (bit q) → seen i (bit r) ≡ seen i (bit q) → verdict_of i r ≡ verdict_of i q
unfolding verdict_of
same_reason i r q e v = split (well_formed i)
    (λ w. ap (λ (x : Verdict). cond (well_formed i) x (Err IllFormed)) (judged_alike (bit r) (bit q) (clauses i) (same_conditions i (true→T w) (bit r) (bit q) e v)))
    (λ w. rw w)

-- ---- events read and write the lift and the drives alone

-- what an event reads and writes
abbrev driven : List ℕ
driven = lift ++ drives

module _ (e : Event) where
  event_framed : T (all_read_in driven (event_conditions e)) × T (change_in driven (event_changes e))
  event_framed = go e
    where
      go : (e : Event) → T (all_read_in driven (event_conditions e)) × T (change_in driven (event_changes e))
      go BeginIn = (tt, tt)
      go BeginOut = (tt, tt)
      go EndDone = (tt, tt)
      go EndNotDone = (tt, tt)

  pub same_possible : (f g : Bits) → ((k : ℕ) → T (elem k driven) → f k ≡ g k) → possible e f ≡ possible e g
  unfolding possible
  same_possible f g a = all_agree driven f g a (event_conditions e) event_framed.0

  pub same_turn : (f g : Bits) → ((k : ℕ) → T (elem k driven) → f k ≡ g k) → in_turn e f ≡ in_turn e g
  unfolding in_turn
  same_turn f g a = holds_agree driven f g a (turn e) (and_l (reads_in driven (turn e)) (all_read_in driven (begin_conditions e)) event_framed.0)

  pub same_after : (f g : Bits) → ((k : ℕ) → T (elem k driven) → f k ≡ g k) → (k : ℕ) → T (elem k driven) → after_event e f k ≡ after_event e g k
  unfolding after_event
  same_after f g a = changed_agree driven f g a (event_changes e) event_framed.1

  pub after_outside : (f : Bits) (k : ℕ) → elem k driven ≡ false → after_event e f k ≡ f k
  unfolding after_event
  after_outside f k o = changed_outside driven f (event_changes e) event_framed.1 k o
