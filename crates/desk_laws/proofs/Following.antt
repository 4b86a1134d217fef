-- Each number stays with its car, as `CardsFollow` of specs/Following.antt says: what each call does to the numbers is had from the laws
-- of cards, and where an instruction takes a car from proofs/Rides.antt. Assumes nothing.
use mathlib.Core.Path.{◌≡◌, refl, sym, ap, subst, ◌∙◌}
use mathlib.Core.Logic.{inl, inr, ⊎_elim}
use mathlib.Core.Bool.{Bool, true, false, not, cond, ◌&&◌, ◌||◌}
use mathlib.Core.List.{List, [], ◌∷◌}
use Prim.Native.Nat.{ℕ, ◌≤◌, ◌<◌}
use native.Mathlib.Omega.{arith}
use lib.Dec.{eqb}
use borrow.Author.Tests.{eqb-true, eqb-false, eq-eqb, ne_eqb}
use Rattle.bits.specs.Bits.{Bits, bit, digit, image}
use Rattle.bits.proofs.Cases.{split, clash, neither, true→T, T→true}
use Rattle.bits.proofs.Digits.{bit_image, digit_lt}
use Rattle.floor.specs.Floor.{raised_car, drive_in, drive_out}
use Rattle.floor.specs.Cars.{Car, pair, single, raised, Stands, covers, covered, Place, Layout}
use Rattle.floor.specs.Sound.{Sound, sound, sound_rules}
use Rattle.floor.proofs.Promises.{sound_exactly}
use Rattle.floor.proofs.Reading.{nth_holds}
use Rattle.cars.specs.Lists.{anchor, Among}
use Rattle.rules.specs.declared.Code.{Code}
use Rattle.rules.specs.declared.Instruction.{Instruction}
use Rattle.std.specs.declared.option.Option.{Option}
use Rattle.std.specs.declared.option.Option.TheVariants.{Some, None}
use Rattle.rules.specs.declared.Event.{Event}
use Rattle.rules.specs.declared.Event.TheVariants.{BeginIn, BeginOut, EndDone, EndNotDone}
use Rattle.rules.specs.Rules.{area, allowed, next_record}
use Rattle.rules.specs.Codes.{read_code, read_event}
use Rattle.rules.specs.Verdicts.{on_code}
use Rattle.rules.specs.Events.{possible}
use Rattle.rules.proofs.CodeLaws.{event_one_form}
use Rattle.station.specs.declared.Station.{Station}
use Rattle.station.specs.declared.Report.{Report}
use Rattle.station.specs.Held.{code_at, held_allowed, held_next}
use Rattle.station_laws.specs.Runs as run
use Rattle.station_laws.proofs.Instance.{possible_as}
use Rattle.station_laws.proofs.Fits.{fit_has, waits_allowed}
use Rattle.station_laws.proofs.Calls.{event_has, image_has}
use Rattle.std.specs.declared.result.Result.TheVariants.{Ok}
use Rattle.cards.specs.Cards.{Numbers}
use Rattle.cards.specs.Given.{bears}
use Rattle.cards.specs.Following.{numbers_taken, numbers_after, numbers_driven}
use Rattle.cards.specs.Following as goes
use Rattle.cards.specs.Held.{numbers_in, cards_after, code_cards, cards_driven, cards_given, cards_fit}
use Rattle.cards_laws.proofs.Anchors.{free_none, stands, car_bears, bears_car, cards_marked, marked_cards}
use Rattle.cards_laws.proofs.Sources.{drive_outside}
use Rattle.cards_laws.proofs.Laws.{fine}
use Rattle.cards_laws.proofs.Moving.{followed, brought}
use Rattle.cards_laws.proofs.Tested.{is_new, fit_marked}
use Rattle.cards_laws.proofs.Arrays.{fit_cards, after_numbers, after_fit, after_outside, driven_numbers, given_fit}
use Rattle.desk.specs.declared.Desk.{Desk}
use Rattle.desk.specs.Calls.{passed}
use Rattle.desk_laws.specs.Runs as desk
use Rattle.desk_laws.specs.Runs.{DeskCall, desk_answer_number, desk_after, under}
use Rattle.desk_laws.specs.Promises.{Passes}
use Rattle.desk_laws.specs.Following.{Takes, Follow, NumbersAfterEvent, DrivenAs, Undone, Accepted, CardsFollow, FollowOnly}
use Rattle.desk_laws.proofs.Calls.{ruling, moved, fit_parts, answered, left_taken, untouched}
use Rattle.desk_laws.proofs.Fits.{success_bits, begun_new, other_event, fine_length}
use Rattle.desk_laws.proofs.Rides.{takes}

-- ---- a success

-- where cars can be are bits of a record
small : (k : ℕ) → Place k → k < 64
small k p = ⊎_elim (λ (h : k < 40). omega arith) (λ (e : k ≡ raised_car). omega arith) p

module _ (r : ℕ) (a : List ℕ) (s : sound r ≡ true) (t : cards_fit r a ≡ true) (i : Instruction) (ok : allowed i (bit r) ≡ true) where
  abbrev now : Bits
  now = bit (image (next_record i (bit r)))

  is_sound : Sound (bit r)
  is_sound = (sound_exactly r).0 s

  same_place : (k : ℕ) → Place k → now k ≡ next_record i (bit r) k
  same_place k p = bit_image (next_record i (bit r)) k (small k p)

  laid_out : (u : List Car) → Layout now u → Layout (next_record i (bit r)) u
  laid_out u L = record { stand = L.stand; cover = λ k p. L.cover k p ∙ ap digit (same_place k p) }

  follow : Follow i (bit r) now (numbers_in a) (numbers_in (cards_after i r a))
  follow = record {
    after = same_place;
    rides = λ l u L U x m.
        let (there, number) = followed i (bit r) (numbers_in a) is_sound ok l u L (laid_out u U) x m in (
          goes.car_moved i x,
          there,
          takes i (bit r) is_sound ok l L x m,
          ap (λ (n : Numbers). n (anchor (goes.car_moved i x))) (after_numbers r a s t i ok) ∙ number,
        );
    brought = λ l u L U y m.
        let (x, among, e) = brought i (bit r) is_sound ok l u L (laid_out u U) y m in
        (x, among, subst (Takes i (bit r) x) e (takes i (bit r) is_sound ok l L x among));
    outside = after_outside i (fine i (bit r) is_sound ok).0 r a;
    cards = marked_cards now (numbers_in (cards_after i r a))
        (fit_marked (image (next_record i (bit r))) (cards_after i r a) (after_fit r a s t i ok));
  }

code_follow : (x : Code) (r : ℕ) (a : List ℕ) → sound r ≡ true → cards_fit r a ≡ true → held_allowed x (bit r) ≡ true
    → (i : Instruction) × (read_code x ≡ Some i)
    × Follow i (bit r) (bit (image (held_next x (bit r)))) (numbers_in a) (numbers_in (code_cards x r a))
unfolding held_allowed held_next code_cards
code_follow x r a s t = read (read_code x) refl
  where
    read : (v : (Option Instruction)) → read_code x ≡ v → on_code (λ i. allowed i (bit r)) false v ≡ true
        → (i : Instruction) × (read_code x ≡ Some i)
        × Follow i (bit r) (bit (image (on_code (λ i. next_record i (bit r)) (bit r) v))) (numbers_in a)
        (numbers_in (on_code (λ i. cards_after i r a) a v))
    read (Some i) e ok = (i, e, follow r a s t i ok)
    read None e ok = clash ok refl

-- ---- a car event

-- of two drives at most one is under way
one_drive : (f : Bits) → Sound f → f drive_out ≡ true → f drive_in ≡ false
one_drive f s o = go (f drive_in) (f drive_out) o (T→true _ (nth_holds f sound_rules (true→T s.rules) 12))
  where
    go : (a b : Bool) → b ≡ true → not (a && (b && true)) ≡ true → a ≡ false
    go true true o p = clash p refl
    go true false o p = clash o refl
    go false b o p = refl

driven_is : (e : Event) (f : Bits) (c : ℕ) (n : Numbers) → (f drive_in ≡ false → n drive_in ≡ 0) → (f drive_out ≡ true → f drive_in ≡ false)
    → NumbersAfterEvent e f c n (numbers_driven e c n)
unfolding numbers_driven numbers_taken
driven_is BeginIn f c n none one = (refl, λ k o. rw (neither (eqb drive_in k) false o).0)
driven_is BeginOut f c n none one = λ k o. refl
driven_is EndDone f c n none one = (
  λ i. (
    refl,
    refl,
    λ k o.
        let (p, q) = neither (eqb raised_car k) (eqb drive_in k || false) o in
        rw (p, (neither (eqb drive_in k) false q).0),
  ),
  λ w. (
    none (one w),
    λ k o.
        let p = (neither (eqb raised_car k) false o).0 in
        rw p (split (eqb drive_in k)
        (λ q. rw q (sym (ap n (sym (eqb-true drive_in k q)) ∙ none (one w))))
        (λ q. rw q)),
  ),
)
driven_is EndNotDone f c n none one = (
  λ i. (refl, λ k o. rw (neither (eqb drive_in k) false o).0),
  λ w k o. split (eqb drive_in k)
      (λ q. rw q (sym (ap n (sym (eqb-true drive_in k q)) ∙ none (one w))))
      (λ q. rw q),
)

module _ (r : ℕ) (a : List ℕ) (s : sound r ≡ true) (t : cards_fit r a ≡ true) where
  driven_at : (e : Event) (c : ℕ) → possible e (bit r) ≡ true → (e ≡ BeginIn → is_new c a ≡ true)
      → NumbersAfterEvent e (bit r) c (numbers_in a) (numbers_in (cards_driven e c a))
  driven_at e c ok new =
      let S = (sound_exactly r).0 s in
      subst (NumbersAfterEvent e (bit r) c (numbers_in a)) (sym (driven_numbers r a s t e c ok new))
      (driven_is e (bit r) c (numbers_in a) (λ i. (fit_cards r a s t S.layout.0 S.layout.1).coming.1 i) (one_drive (bit r) S))

event_driven : (d : Desk) (b c : ℕ) (v : (Option Event)) → read_event b ≡ v → sound d.station.bits ≡ true
    → possible_as v d.station.bits ≡ true
    → cards_fit d.station.bits d.numbers ≡ true → ruling d (desk.event b c) ≡ Ok tt
    → DrivenAs v (bit d.station.bits) c (numbers_in d.numbers)
    (numbers_in (cond (eqb b 1) (cards_driven BeginIn c d.numbers) (passed v d.numbers)))
event_driven d b c (Some BeginIn) r s p f =
    rw (event_one_form b BeginIn r) (λ g. driven_at _ d.numbers s f BeginIn c p (λ q. begun_new c d.numbers g))
event_driven d b c (Some BeginOut) r s p f =
    rw (event_one_form b BeginOut r)
    (λ g. driven_at _ d.numbers s f BeginOut 0 p (other_event BeginOut 0 d.numbers (λ z. omega arith)))
event_driven d b c (Some EndDone) r s p f =
    rw (event_one_form b EndDone r)
    (λ g. driven_at _ d.numbers s f EndDone 0 p (other_event EndDone 0 d.numbers (λ z. omega arith)))
event_driven d b c (Some EndNotDone) r s p f =
    rw (event_one_form b EndNotDone r)
    (λ g. driven_at _ d.numbers s f EndNotDone 0 p (other_event EndNotDone 0 d.numbers (λ z. omega arith)))
event_driven d b c None r s p f = clash p refl

-- ---- each call

-- the numbers stay with a result that is no success
undone_stays : (d : Desk) (r : Report) (s : Station) → Undone d r (record { station = s; numbers = moved d (desk.reports r) })
undone_stays d r s n = rw (ne_eqb r.ending 1 n)

accepted_by : (d : Desk) (c : DeskCall) → Passes d c → ruling d c ≡ Ok tt
    → Accepted d c (record { station = run.station_after d.station (under c); numbers = moved d c })
accepted_by d (desk.request n set) p v = refl
accepted_by d (desk.reports r) p v = (
  λ e.
      let s = d.station in
      let (w, b) = success_bits s r e p.1 in
      rw (eq-eqb r.ending 1 e, b)
      (code_follow (code_at s.set r.number) s.bits d.numbers
      (fit_has s w.0).sound (fit_parts d p.0).1 (waits_allowed s r.number w)),
  undone_stays d r (run.station_after d.station (run.reports r)),
)
accepted_by d (desk.event b c) p v =
    let (f, g) = fit_parts d p.0 in
    event_driven d b c (read_event b) refl (fit_has d.station f).sound (event_has d.station b p.1).3 g v
accepted_by d (desk.pictures x n ns) p v =
    let w = image_has d.station x.bits x.apart p.1 in
    fit_cards x.bits (cards_given x.bits ns) w.2 (given_fit x.bits n ns w.2 (fine_length x.bits n ns v) v)
accepted_by d desk.ask p v = refl

pub cards_follow : CardsFollow
cards_follow d c = (
  λ z. let (p, v) = (answered d c (Ok tt)).0 z in subst (Accepted d c) (sym (left_taken d c z)) (accepted_by d c p v),
  λ n. ap (λ (b : Desk). b.numbers) (untouched d c n),
)

-- ---- no other numbers would do

-- in a layout one car alone covers a place
in_cover : (l : List Car) (k : ℕ) (z : Car) → Among z l → covers z k ≤ covered l k
unfolding Among covered
in_cover [] k z m = absurd m
in_cover (v ∷ l) k z m = ⊎_elim
    (λ (e : z ≡ v). omega (arith, ap (λ (x : Car). covers x k) e))
    (λ (o : Among z l). omega (arith, in_cover l k z o)) m

one_cover : (l : List Car) (k : ℕ) → covered l k ≤ 1 → (y z : Car) → Among y l → Among z l
    → (covers y k ≡ 0 → ⊥) → (covers z k ≡ 0 → ⊥) → y ≡ z
unfolding Among covered
one_cover [] k h y z a b p q = absurd a
one_cover (v ∷ l) k h y z a b p q = ⊎_elim
    (λ (e : y ≡ v). ⊎_elim
    (λ (o : z ≡ v). e ∙ sym o)
    (λ (o : Among z l). absurd (omega (arith, in_cover l k z o, ap (λ (x : Car). covers x k) e, p, q))) b)
    (λ (e : Among y l). ⊎_elim
    (λ (o : z ≡ v). absurd (omega (arith, in_cover l k y e, ap (λ (x : Car). covers x k) o, p, q)))
    (λ (o : Among z l). one_cover l k (omega arith) y z e o p q) b) a

-- a car covers its anchor, which is a place
anchor_place : (y : Car) → Stands y → Place (anchor y)
anchor_place (pair c) s = inl (omega arith)
anchor_place (single c) s = inl s.1
anchor_place raised s = inr refl

covers_anchor : (y : Car) → covers y (anchor y) ≡ 0 → ⊥
covers_anchor (pair c) e = omega (arith, ap digit (eq-eqb c c refl), e)
covers_anchor (single c) e = omega (arith, ap digit (eq-eqb c c refl), e)
covers_anchor raised e = omega (arith, e)

-- the instruction takes a car to one place alone
module _ (i : Instruction) (f g : Bits) (now : (k : ℕ) → Place k → g k ≡ next_record i f k) (u : List Car) (U : Layout g u) (x : Car) where
  one_way : (y z : Car) → Among y u → Among z u → Takes i f x y → Takes i f x z → y ≡ z
  one_way y z a b p q =
      let k = anchor y in
      let here = anchor_place y (stands u y U.stand a) in
      let there : g k ≡ true = split (g k) (λ t. t) (λ t. clash (car_bears g u U y a) (free_none g k t)) in
      let gone : next_record i f k ≡ true = sym (now k here) ∙ there in
      let m : eqb (covers y k) 0 ≡ false = ne_eqb _ 0 (covers_anchor y) in
      let same : cond (eqb (covers z k) 0) (next_record i f k) false ≡ false =
      sym (q k) ∙ p k ∙ ap (λ (v : Bool). cond v (next_record i f k) false) m in
      one_cover u k (omega (arith, U.cover k here, digit_lt (g k))) y z a b (covers_anchor y)
      (λ o. clash gone (sym (ap (λ (v : Bool). cond v (next_record i f k) false) (eq-eqb (covers z k) 0 o)) ∙ same))

pub follow_only : FollowOnly
follow_only i f g n m o w old new M O k =
    let (l, L) = old in
    let (u, U) = new in
    split (eqb drive_in k)
    (λ t.
    let e = eqb-true drive_in k t in
    let out : area i k ≡ false = ap (area i) (sym e) ∙ drive_outside i w drive_in tt in
    M.outside k out ∙ sym (O.outside k out))
    (λ t. at l L u U (eqb-false drive_in k t))
  where
    one : (l : List Car) → Layout f l → (u : List Car) → Layout g u → (y : Car) → Among y u → anchor y ≡ k → m k ≡ o k
    one l L u U y a e =
        let (x, b, p) = M.brought l u L U y a in
        let (v, c, q, r) = M.rides l u L U x b in
        let (z, d, s, h) = O.rides l u L U x b in
        let first : m (anchor y) ≡ n (anchor x) = ap (λ (c : Car). m (anchor c)) (one_way i f g M.after u U x y v a c p q) ∙ r in
        let second : o (anchor y) ≡ n (anchor x) = ap (λ (c : Car). o (anchor c)) (one_way i f g M.after u U x y z a d p s) ∙ h in
        ap m (sym e) ∙ first ∙ sym second ∙ ap o e

    at : (l : List Car) → Layout f l → (u : List Car) → Layout g u → (drive_in ≡ k → ⊥) → m k ≡ o k
    at l L u U other = split (bears g k)
        (λ t. let (y, a, e) = bears_car g u U k (λ q. other (sym q)) t in one l L u U y a e)
        (λ t. (cards_marked g m u U M.cards).none k t ∙ sym ((cards_marked g o u U O.cards).none k t))
