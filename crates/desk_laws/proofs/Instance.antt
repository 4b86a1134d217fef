-- The numbered garage as rules of the crate `sets`: a record with its numbers; instructions five bytes; car events their numbers, with a
-- card's. Wherever the station's rules are framed, these are: numbers keep to the areas, and beside what the station's events see an event
-- sees whether the number that it brings is new, which no instruction changes. Assumes nothing.
use mathlib.Core.Path.{◌≡◌, sym, ap, ap₂, ◌∙◌}
use mathlib.Core.Bool.{Bool, true, cond, ◌&&◌}
use mathlib.Core.List.{List, ◌++◌}
use Prim.Native.Nat.{ℕ, ◌<◌}
use lib.Dec.{eqb}
use borrow.Author.Tests.{eqb-false}
use Rattle.bits.specs.Bits.{bit}
use Rattle.bits.specs.Places.{elem}
use Rattle.bits.proofs.Cases.{split, both, and_intro}
use Rattle.bits.proofs.Sharing.{Small, are_small}
use Rattle.floor.specs.Floor.{lift, drives}
use Rattle.floor.specs.Sound.{sound}
use Rattle.rules.specs.declared.Code.{Code}
use Rattle.rules.specs.declared.Event.TheVariants.{BeginIn}
use Rattle.rules.specs.Codes.{read_event}
use Rattle.rules.proofs.CodeLaws.{event_one_form}
use Rattle.rules_laws.specs.Laws.{lift_area}
use Rattle.any_order.proofs.Rules.{Rules, Agree, Within, Framed}
use Rattle.station.specs.Held.{held_area}
use Rattle.station.proofs.Areas.{held_small}
use Rattle.station_laws.proofs.Reach.{in_area_lem, outside_area}
use Rattle.station_laws.proofs.Instance.{rules, seen_of, cars_in, framed, can, blank, allowed_has}
use Rattle.cards.specs.Held.{numbers_in, code_cards, cards_fit, is_known}
use Rattle.cards_laws.proofs.Tested.{is_new, new_same}
use Rattle.desk_laws.proofs.Fits.{code_fits}
use Rattle.desk_laws.proofs.Carrying.{known_alike, code_outside, code_inside, code_known, driven_as, driven_outside, driven_inside}
use Rattle.desk_laws.proofs.Carrying.{BringsNewAs, driven_fit, driven_new}

-- a record with its numbers, and what it holds at a place
abbrev pub Garage : Type 0
Garage = ℕ × List ℕ

abbrev pub looks : Garage → ℕ → Bool × ℕ
looks w k = (bit w.0 k, numbers_in w.1 k)

-- only event 1, the begin of a drive-in, brings a number: a new one
abbrev pub brings : ℕ → ℕ → List ℕ → Bool
brings e c a = cond (eqb e 1) (is_new c a) true

abbrev pub brought : ℕ → ℕ → ℕ
brought e c = cond (eqb e 1) c 0

-- what the desk answers where its station says n
abbrev pub answered : ℕ → ℕ → List ℕ → ℕ → ℕ
answered e c a n = cond (eqb n 0) (cond (eqb e 1) (cond (eqb c 0) 37 (cond (is_known a c) 38 0)) 0) n

-- the rules
abbrev pub numbered : Rules Garage (Bool × ℕ) Code (ℕ × ℕ)
numbered = record {
  width = 64;
  look = looks;
  sound = λ w. sound w.0 && cards_fit w.0 w.1;
  blank = blank;
  area = rules.area;
  allowed = λ x w. rules.allowed x w.0;
  next = λ x w. (rules.next x w.0, code_cards x w.0 w.1);
  lift = rules.lift;
  possible = λ e w. rules.possible e.0 w.0 && brings e.0 e.1 w.1;
  after = λ e w. (rules.after e.0 w.0, driven_as (read_event e.0) (brought e.0 e.1) w.1);
  held = λ e. rules.held e.0;
  reply = λ e lost w. answered e.0 e.1 w.1 (rules.reply e.0 lost w.0);
}

-- what is seen of a garage: what is seen of its record, and whether a number is new
abbrev pub views : {O : Type 0} → (Code → ℕ → O) → Code → Garage → O
views view x w = view x w.0

abbrev pub glances : {P : Type 0} → (ℕ → ℕ → P) → ℕ × ℕ → Garage → P × Bool
glances glance e w = (glance e.0 w.0, is_new e.1 w.1)

tie : {A B : Type 0} {a x : A} {b y : B} → a ≡ x → b ≡ y → ◌≡◌ {A = A × B} (a, b) (x, y)
tie p q = ap₂ (λ a b. (a, b)) p q

abbrev pub Fits : Garage → Type 0
Fits w = numbered.sound w ≡ true

pub parts : (w : Garage) → Fits w → (sound w.0 ≡ true) × (cards_fit w.0 w.1 ≡ true)
parts w z = both (sound w.0) (cards_fit w.0 w.1) z

lift_small : Small (lift ++ drives)
lift_small = are_small (lift ++ drives) tt

-- where garages agree, so do their records, and their numbers
bits_agree : (a : ℕ → Bool) (f g : Garage) → Agree 64 looks a f g → Agree 64 bit a f.0 g.0
bits_agree a f g e k h t = ap (λ x. x.0) (e k h t)

lift_numbers : (f g : Garage) → Agree 64 looks numbered.lift f g → (k : ℕ) → lift_area k ≡ true → numbers_in f.1 k ≡ numbers_in g.1 k
lift_numbers f g a k m = ap (λ x. x.1) (a k (lift_small k m) m)

-- ---- events

-- the station's event is possible, and it brings a new number if it brings one
possible_has : (e : ℕ × ℕ) (w : Garage) → numbered.possible e w ≡ true
    → (rules.possible e.0 w.0 ≡ true) × (brings e.0 e.1 w.1 ≡ true)
possible_has e w t = both (rules.possible e.0 w.0) (brings e.0 e.1 w.1) t

brings_same : (e c : ℕ) (a b : List ℕ) → is_new c a ≡ is_new c b → brings e c a ≡ brings e c b
brings_same e c a b v = ap (λ (t : Bool). cond (eqb e 1) t true) v

-- with the number zero it is alike; else it is new or known alike
answered_same : (e c : ℕ) (a b : List ℕ) (n : ℕ) → is_new c a ≡ is_new c b → answered e c a n ≡ answered e c b n
answered_same e c a b n v = split (eqb c 0)
    (λ z. rw z)
    (λ z. ap (λ (t : Bool). cond (eqb n 0) (cond (eqb e 1) (cond (eqb c 0) 37 (cond t 38 0)) 0) n) (known_alike c a b (eqb-false c 0 z) v))

-- ---- the frame

brings_new : (e c : ℕ) (a : List ℕ) → brings e c a ≡ true → BringsNewAs (read_event e) (brought e c) a
brings_new e c a t q = let one = event_one_form e BeginIn q in rw one (rw one at t)

-- after an instruction the same numbers are new
pub new_next : (x : Code) (w : Garage) → Fits w → numbered.allowed x w ≡ true → (c : ℕ) → is_new c (numbered.next x w).1 ≡ is_new c w.1
new_next x w z t c =
    let (s, u) = parts w z in
    new_same c (code_cards x w.0 w.1) w.1 (code_known x w.0 w.1 s u (allowed_has x w.0 t).0 c)

-- and after an event those of which it was alike before
new_after : (d : ℕ) (x : ℕ × ℕ) (f g : Garage) → Fits f → Fits g → Agree 64 looks numbered.lift f g → is_new d f.1 ≡ is_new d g.1
    → numbered.possible x f ≡ true → numbered.possible x g ≡ true → is_new d (numbered.after x f).1 ≡ is_new d (numbered.after x g).1
new_after d x f g p q a v t u =
    let (s, c) = parts f p in
    let (r, b) = parts g q in
    let (ok, new) = possible_has x f t in
    let (too, fresh) = possible_has x g u in
    driven_new f.0 g.0 f.1 g.1 s r c b (λ k m. ap (λ y. y.0) (a k (lift_small k m) m)) (lift_numbers f g a)
    (read_event x.0) (brought x.0 x.1) (can x.0 f.0 ok) (can x.0 g.0 too) (brings_new x.0 x.1 f.1 new) (brings_new x.0 x.1 g.1 fresh) d v

module _ {O P : Type 0} (view : Code → ℕ → O) (glance : ℕ → ℕ → P) (F : Framed rules view glance) where
  instruction_within : (x : Code) → Within 64 looks numbered.sound (views view x) (rules.area x) (numbered.allowed x) (numbered.next x)
  instruction_within x = record {
    reads = λ f g p q e v. (F.instruction x).reads f.0 g.0 (parts f p).0 (parts g q).0 (bits_agree (rules.area x) f g e) v;
    writes = λ f g p q e v t k h y.
        tie ((F.instruction x).writes f.0 g.0 (parts f p).0 (parts g q).0 (bits_agree (rules.area x) f g e) v t k h y) (numbers f g e k h y);
    keeps = λ f p t k h o. tie ((F.instruction x).keeps f.0 (parts f p).0 t k h o) (code_outside x f.0 f.1 k (outside_area x k o));
    safe = λ f p t.
        let (s, c) = parts f p in
        and_intro ((F.instruction x).safe f.0 s t) (code_fits x f.0 f.1 s (allowed_has x f.0 t).0 c);
  }
    where
      -- at a place of the reach: in the area, or where nothing changes
      numbers : (f g : Garage) → Agree 64 looks (rules.area x) f g → (k : ℕ) → k < 64 → rules.area x k ≡ true
          → numbers_in (code_cards x f.0 f.1) k ≡ numbers_in (code_cards x g.0 g.1) k
      numbers f g e k h y = split (elem k (held_area x))
          (λ m. code_inside x f.0 g.0 f.1 g.1
          (λ j n. ap (λ w. w.0) (e j (held_small x j n) (in_area_lem x j n))) (λ j n. ap (λ w. w.1) (e j (held_small x j n) (in_area_lem x j n))) k m)
          (λ m. code_outside x f.0 f.1 k m ∙ ap (λ w. w.1) (e k h y) ∙ sym (code_outside x g.0 g.1 k m))

  same_possible : (e : ℕ × ℕ) (f g : Garage) → Fits f → Fits g → Agree 64 looks numbered.lift f g → glances glance e f ≡ glances glance e g
      → numbered.possible e f ≡ numbered.possible e g
  same_possible e f g p q a v =
      ap₂ ◌&&◌ ((F.event e.0).reads f.0 g.0 (parts f p).0 (parts g q).0 (bits_agree rules.lift f g a) (ap (λ x. x.0) v))
      (brings_same e.0 e.1 f.1 g.1 (ap (λ x. x.1) v))

  event_within : (e : ℕ × ℕ) → Within 64 looks numbered.sound (glances glance e) rules.lift (numbered.possible e) (numbered.after e)
  event_within e = record {
    reads = same_possible e;
    writes = λ f g p q a v t k h y.
        tie ((F.event e.0).writes f.0 g.0 (parts f p).0 (parts g q).0 (bits_agree rules.lift f g a) (ap (λ x. x.0) v)
        (possible_has e f t).0 k h y)
        (driven_inside (read_event e.0) (brought e.0 e.1) f.1 g.1 (lift_numbers f g a) k y);
    keeps = λ f p t k h o.
        tie ((F.event e.0).keeps f.0 (parts f p).0 (possible_has e f t).0 k h o)
        (driven_outside (read_event e.0) (brought e.0 e.1) f.1 k o);
    safe = λ f p t.
        let (s, c) = parts f p in
        let (ok, new) = possible_has e f t in
        and_intro ((F.event e.0).safe f.0 s ok)
        (driven_fit (read_event e.0) (brought e.0 e.1) f.0 f.1 s c (can e.0 f.0 ok) (brings_new e.0 e.1 f.1 new));
  }

  numbered_framed : Framed numbered (views view) (glances glance)
  numbered_framed = record {
    instruction = instruction_within;
    event = event_within;
    view_next = λ x y c f z t. F.view_next x y c f.0 (parts f z).0 t;
    view_after = λ x e c f z t. F.view_after x e.0 c f.0 (parts f z).0 (possible_has e f t).0;
    glance_next = λ e y c f z t. tie (F.glance_next e.0 y c f.0 (parts f z).0 t) (new_next y f z t e.1);
    glance_after = λ e x f g p q a u v t.
        tie (F.glance_after e.0 x.0 f.0 g.0 (parts f p).0 (parts g q).0 (bits_agree rules.lift f g a)
        (ap (λ y. y.0) u) (ap (λ y. y.0) v) (possible_has x f t).0)
        (new_after e.1 x f g p q a (ap (λ y. y.1) u) t (sym (same_possible x f g p q a v) ∙ t));
    reply = λ e lost f g p q a v.
        ap (answered e.0 e.1 f.1)
        (F.reply e.0 lost f.0 g.0 (parts f p).0 (parts g q).0 (bits_agree rules.lift f g a) (ap (λ x. x.0) v))
        ∙ answered_same e.0 e.1 f.1 g.1 (rules.reply e.0 lost g.0) (ap (λ x. x.1) v);
  }

-- the station's rules as they are
pub frame : Framed numbered (views seen_of) (glances cars_in)
frame = numbered_framed seen_of cars_in framed
