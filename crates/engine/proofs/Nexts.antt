-- The bits that the code makes anew are those of the next record: tried for every lift run at every setting of the bits that it rests
-- on, and for the events. Assumes nothing.
use mathlib.Core.Path.{◌≡◌, refl, ap, ap₂}
use mathlib.Core.Bool.{Bool, cond, ◌&&◌, ◌||◌}
use mathlib.Core.List.{List, [], ◌∷◌, ◌++◌}
use Prim.Native.Nat.{ℕ}
use native.Mathlib.Omega.{arith}
use lib.Dec.{T, eqb, leb→le}
use Rattle.bits.specs.Bits.{Bits, all_set}
use Rattle.bits.specs.Places.{elem}
use Rattle.bits.specs.Search.{every}
use Rattle.bits.proofs.Search.{each}
use Rattle.bits.proofs.Counts.{set_agree}
use Rattle.floor.specs.Floor.{lift, lift_cells, raised_car, height_low, height_high, basement, drive_in, drive_out, drives}
use Rattle.floor.specs.Tests.{holds, at_basement}
use Rattle.floor.proofs.Reading.{holds_agree}
use Rattle.rules.specs.declared.Instruction.TheVariants.{Lift}
use Rattle.rules.specs.declared.Event.{Event}
use Rattle.rules.specs.declared.Event.TheVariants.{BeginIn, BeginOut, EndDone, EndNotDone}
use Rattle.rules.specs.Events.{event_changes, after_event}
use Rattle.rules.specs.Rules.{well_formed, changes, next_record}
use Rattle.engine.specs.Private.{lift_bits}
use Rattle.bits.proofs.Lists.{in_left}
use Rattle.engine.proofs.Settings.{right, renewed, renewed_right}

-- ---- lift

-- the bits that a lift move rests on
abbrev lift_all : List ℕ
lift_all = lift_cells ++ lift

-- from or to the basement all of them are touched, else the height alone
abbrev pub lift_touched : ℕ → Bits → List ℕ
lift_touched height f = cond (eqb height basement || holds at_basement f) lift_all (height_low ∷ height_high ∷ [])

-- the car that the lift takes along
abbrev pub lift_car : ℕ → Bits → Bool
lift_car height f = cond (eqb height basement) (f raised_car) (holds at_basement f && all_set lift_cells f)

-- ---- events

-- the bits that an event rests on, and those of them that it touches
abbrev event_bits : List ℕ
event_bits = raised_car ∷ drives

abbrev pub event_touched : Event → List ℕ
event_touched BeginIn = drive_in ∷ []
event_touched BeginOut = drive_out ∷ []
event_touched EndDone = event_bits
event_touched EndNotDone = drives

-- the places that become 1
abbrev pub event_new : Event → Bits → List ℕ
event_new BeginIn f = drive_in ∷ []
event_new BeginOut f = drive_out ∷ []
event_new EndDone f = cond (f drive_in) (raised_car ∷ []) []
event_new EndNotDone f = []

-- ---- the lift's runs in one test

right_of : ℕ → Bool
right_of height = right lift_all [] (changes (Lift height)) (lift_touched height) (λ f. lift_bits height (lift_car height f))

all_right_lem : T (every 3 right_of)
unfolding every right_of
all_right_lem = tt

pub lift_right : (height : ℕ) → T (well_formed (Lift height)) → (f : Bits)
    → (k : ℕ) → renewed (lift_touched height f) (lift_bits height (lift_car height f)) f k ≡ next_record (Lift height) f k
unfolding next_record right_of
lift_right height w f =
    renewed_right lift_all [] (changes (Lift height)) (lift_touched height) (λ f. lift_bits height (lift_car height f))
    (λ f g e.
    let low = holds_agree lift_all f g e at_basement tt in (
      ap (λ (b : Bool). cond (eqb height basement || b) lift_all (height_low ∷ height_high ∷ [])) low,
      ap₂ (λ (x y : Bool). lift_bits height (cond (eqb height basement) x y)) (e raised_car tt)
          (ap₂ ◌&&◌ low (set_agree lift_cells f g (λ k m. e k (in_left k lift_cells lift m)))),
    ))
    (each 3 right_of all_right_lem height (omega (arith, leb→le height 2 w))) f refl

-- an event makes these bits anew
pub event_right : (e : Event) (f : Bits) (k : ℕ) → renewed (event_touched e) (event_new e f) f k ≡ after_event e f k
unfolding after_event
event_right e f = renewed_right event_bits [] (event_changes e) (λ f. event_touched e) (event_new e) (λ f g a. (refl, new_same e f g a)) (tried e) f refl
  where
    new_same : (e : Event) (f g : Bits) → ((k : ℕ) → T (elem k event_bits) → f k ≡ g k) → event_new e f ≡ event_new e g
    new_same BeginIn f g a = refl
    new_same BeginOut f g a = refl
    new_same EndDone f g a = ap (λ (b : Bool). cond {A = List ℕ} b (raised_car ∷ []) []) (a drive_in tt)
    new_same EndNotDone f g a = refl

    tried : (e : Event) → T (right event_bits [] (event_changes e) (λ f. event_touched e) (event_new e))
    tried BeginIn = tt
    tried BeginOut = tt
    tried EndDone = tt
    tried EndNotDone = tt
