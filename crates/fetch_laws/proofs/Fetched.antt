-- A car goes where the instructions take it, moves before a way are part of the way, and with fewer cars the way stays. Assumes nothing.
use mathlib.Core.Path.{◌≡◌, refl, ap, subst, ◌∙◌}
use mathlib.Core.Bool.{true}
use mathlib.Core.List.{List, [], ◌∷◌}
use native.Mathlib.Omega.{arith}
use Rattle.bits.specs.Bits.{Bits}
use Rattle.floor.specs.Floor.{street, drive_in}
use Rattle.floor.specs.Tests.{height_is}
use Rattle.floor.specs.Cars.{Car, pair, single, raised, Stands, Layout}
use Rattle.floor.specs.Sound.{Sound}
use Rattle.floor.proofs.Reading.{holds_agree}
use Rattle.rules.specs.declared.Instruction.{Instruction}
use Rattle.rules.specs.Rules.{next_record}
use Rattle.rules_laws.specs.Undoing.{record_after, Moves}
use Rattle.rules_laws.proofs.Laws.{stays_sound}
use Rattle.cars.specs.Lists.{anchor, Among}
use Rattle.cards.specs.Given.{bears}
use Rattle.cards.specs.Following.{car_moved}
use Rattle.cards_laws.proofs.Anchors.{stands, bears_car}
use Rattle.cards_laws.proofs.Laws.{next_layout}
use Rattle.cards_laws.proofs.Moving.{one_layout, followed}
use Rattle.fetch_laws.specs.Fetching.{car_after, CanBeFetched, CarsFollowed, fixed_parts}
use Rattle.fetch_laws.proofs.Fewer.{Fewer, moves_down}

-- ---- cars by their anchors

pub same_car : (x y : Car) → Stands x → Stands y → anchor x ≡ anchor y → x ≡ y
same_car (pair a) (pair b) s t e = ap pair e
same_car (pair a) (single b) s t e = absurd (omega (arith, t.0))
same_car (pair a) raised s t e = absurd (omega arith)
same_car (single a) (pair b) s t e = absurd (omega (arith, s.0))
same_car (single a) (single b) s t e = ap single e
same_car (single a) raised s t e = absurd (omega (arith, s.1))
same_car raised (pair b) s t e = absurd (omega arith)
same_car raised (single b) s t e = absurd (omega (arith, t.1))
same_car raised raised s t e = refl

-- no car stands where a number waits
pub not_waiting : (x : Car) → Stands x → anchor x ≡ drive_in → ⊥
not_waiting (pair a) s e = omega arith
not_waiting (single a) s e = omega (arith, s.1)
not_waiting raised s e = omega arith

-- a car of the layout l is one of m, if its place bears a number there
pub among_there : (f g : Bits) (l m : List Car) → Layout f l → Layout g m → (x : Car) → Among x l → bears g (anchor x) ≡ true → Among x m
among_there f g l m y z x a b =
    let s = stands l x y.stand a in
    let (v, c, d) = bears_car g m z (anchor x) (not_waiting x s) b in
    subst (λ (v : Car). Among v m) (same_car v x (stands m v z.stand c) s d) c

-- ---- moves

pub moves_sound : (is : List Instruction) (f : Bits) → Sound f → Moves is f → Sound (record_after is f)
unfolding Moves record_after
moves_sound [] f s m = s
moves_sound (i ∷ is) f s m = moves_sound is (next_record i f) (stays_sound i f s m.1 m.0) m.2

pub along : (is : List Instruction) (f : Bits) → Sound f → Moves is f
    → (l n : List Car) → Layout f l → Layout (record_after is f) n → (x : Car) → Among x l → Among (car_after is x) n
unfolding Moves record_after car_after
along [] f s m l n y z x a = one_layout f l n y z x a
along (i ∷ is) f s m l n y z x a =
    let (k, v) = next_layout i f s m.0 in
    along is (next_record i f) (stays_sound i f s m.1 m.0) m.2 k n v z (car_moved i x)
    (followed i f (λ j. 0) s m.0 l k y v x a).0

pub cars_followed : CarsFollowed
cars_followed is f s m l n y z x a = along is f s m l n y z x a

-- what can be fetched after moves can be fetched before them
pub fetched_before : (is : List Instruction) (f : Bits) (x : Car) → Moves is f → CanBeFetched (record_after is f) (car_after is x) → CanBeFetched f x
unfolding Moves record_after car_after
fetched_before [] f x m c = c
fetched_before (i ∷ is) f x m c =
    let d = fetched_before is (next_record i f) (car_moved i x) m.2 c in
    record { by = i ∷ d.by; moves = (m.0, m.1, d.moves); comes = d.comes; street = d.street }

-- what can be fetched can be with fewer cars
pub fetched_down : (f g : Bits) (x : Car) → Sound f → Sound g → Fewer f g → CanBeFetched g x → CanBeFetched f x
fetched_down f g x r s F c =
    let (m, G) = moves_down c.by f g r s F c.moves in
    record {
      by = c.by;
      moves = m;
      comes = c.comes;
      street = holds_agree fixed_parts (record_after c.by f) (record_after c.by g) G.parts (height_is street) tt ∙ c.street;
    }
