-- The same of records as the numbers that the station keeps, and of card numbers as arrays of 42: what an instruction, a car event and an
-- image make of them passes the tests again. Assumes nothing.
use mathlib.Core.Path.{◌≡◌, refl, sym, ap, subst, ◌∙◌, fun_ext}
use mathlib.Core.Logic.{◌↔◌, inl, inr, ⊎_elim}
use mathlib.Core.Bool.{Bool, true, false, cond}
use mathlib.Core.List.{List, []}
use Prim.Native.Nat.{ℕ, ◌%◌, ◌≤◌, ◌<◌}
use native.Mathlib.Omega.{arith}
use lib.Dec.{eqb, ltb}
use lib.ListN.{length, replicate, take, drop, get_or-replicate, take-append-drop}
use borrow.Author.Tests.{eqb-true, ltb-true}
use Rattle.bits.specs.Bits.{Bits, bit, image}
use Rattle.bits.proofs.Cases.{split}
use Rattle.bits.proofs.Digits.{bit_image}
use Rattle.floor.specs.Floor.{raised_car, drive_in, drive_out}
use Rattle.floor.specs.Cars.{Layout}
use Rattle.floor.specs.Sound.{Sound, sound}
use Rattle.floor.proofs.Promises.{sound_exactly}
use Rattle.rules.specs.declared.Instruction.{Instruction}
use Rattle.rules.specs.declared.Event.{Event}
use Rattle.rules.specs.declared.Event.TheVariants.{BeginIn, BeginOut, EndDone, EndNotDone}
use Rattle.rules.specs.Rules.{well_formed, area, allowed, next_record}
use Rattle.rules.specs.Events.{possible, after_event}
use Rattle.rules_laws.specs.Laws.{Agree, lift_area}
use Rattle.rules_laws.proofs.Shift.{below_same}
use Rattle.std.specs.declared.result.Result.TheVariants.{Ok}
use Rattle.cards.specs.Cards.{Numbers, Cards, Has}
use Rattle.cards.specs.Given.{bears, numbers_given, given_as}
use Rattle.cards.specs.Following.{numbers_after, numbers_driven}
use Rattle.cards.specs.Held.{held_numbers, numbers_in, cards_after, cards_driven, cards_given, cards_fit, is_known}
use Rattle.cards.proofs.Listing.{in_held}
use Rattle.cards_laws.specs.Statements.{SameOn, BringsNew, Remains}
use Rattle.cards_laws.proofs.Anchors.{is_place, bears_same, no_place, Marked, cards_marked, marked_cards}
use Rattle.cards_laws.proofs.Sources.{numbers_outside, numbers_inside}
use Rattle.cards_laws.proofs.Laws.{fine, next_marked, same_numbers}
use Rattle.cards_laws.proofs.Events.{after_marked, event_has, event_numbers}
use Rattle.cards_laws.proofs.Moving.{empty_garage}
use Rattle.cards_laws.proofs.Given.{given_cards, given_padded}
use Rattle.cards_laws.proofs.Elements.{held_length, held_agree, held_kept}
use Rattle.cards_laws.proofs.Tested.{fit_marked, marked_fit, fine_exactly, known_exactly, is_new, new_exactly, known_same}

-- ---- a record as a number, numbers as elements

image_bears : (g : Bits) (k : ℕ) → bears (bit (image g)) k ≡ bears g k
image_bears g k = split (is_place k)
    (λ t. bears_same g (bit (image g)) k (bit_image g k (small k t)) (λ h.
    ap (λ (x : ℕ). x % 2) (below_same g (bit (image g)) 20 (λ j l. bit_image g j (omega arith)) k (omega arith))))
    (λ t. no_place (bit (image g)) k t ∙ sym (no_place g k t))
  where
    small : (k : ℕ) → is_place k ≡ true → k < 64
    small k e = split (ltb k 40)
        (λ t. let h = ltb-true k 40 t in omega arith)
        (λ t. split (eqb raised_car k)
        (λ u. let q = eqb-true raised_car k u in omega arith)
        (λ u. let q = eqb-true drive_in k (rw (t, u) at e) in omega arith))

-- what is held are the numbers
pub held_same : (A : Bits) (n : Numbers) → ((k : ℕ) → is_place k ≡ false → A k ≡ false) → Marked A n → numbers_in (held_numbers n) ≡ n
held_same A n o M = fun_ext (λ k. in_held n k ∙ split (is_place k)
    (λ t. ap (λ (b : Bool). cond b (n k) 0) t)
    (λ t. ap (λ (b : Bool). cond b (n k) 0) t ∙ sym (M.none k (o k t))))

module _ (g : Bits) (n : Numbers) (M : Marked (bears g) n) where
  pub held_bears : numbers_in (held_numbers n) ≡ n
  held_bears = held_same (bears g) n (no_place g) M

  -- they fit the record's image
  pub held_fit : cards_fit (image g) (held_numbers n) ≡ true
  held_fit =
      let in_image : Marked (bears (bit (image g))) n = subst (λ (A : Bits). Marked A n) (sym (fun_ext (image_bears g))) M in
      marked_fit (image g) (held_numbers n) (subst (Marked (bears (bit (image g)))) (sym held_bears) in_image)

-- ---- an array that fits a sound record

module _ (r : ℕ) (a : List ℕ) (s : sound r ≡ true) (t : cards_fit r a ≡ true) where
  is_sound : Sound (bit r)
  is_sound = (sound_exactly r).0 s

  pub fit_cards : Cards (bit r) (numbers_in a)
  fit_cards = marked_cards (bit r) (numbers_in a) (fit_marked r a t)

  -- an allowed instruction
  module _ (i : Instruction) (ok : allowed i (bit r) ≡ true) where
    abbrev new : Numbers
    new = numbers_after i (bit r) (numbers_in a)

    marked : Marked (bears (next_record i (bit r))) new
    marked = next_marked i (bit r) is_sound ok (numbers_in a) fit_cards

    is_held : cards_after i r a ≡ held_numbers new
    unfolding cards_after
    is_held = rw (fine i (bit r) is_sound ok).0

    pub after_numbers : numbers_in (cards_after i r a) ≡ numbers_after i (bit r) (numbers_in a)
    after_numbers = ap numbers_in is_held ∙ held_bears (next_record i (bit r)) new marked

    pub after_fit : cards_fit (image (next_record i (bit r))) (cards_after i r a) ≡ true
    after_fit = ap (cards_fit (image (next_record i (bit r)))) is_held ∙ held_fit (next_record i (bit r)) new marked

    -- no number is lost or made
    pub after_known : (c : ℕ) → (c ≡ 0 → ⊥) → is_known (cards_after i r a) c ≡ is_known a c
    after_known c o =
        let h = subst (λ (m : Numbers). Has m c ↔ Has (numbers_in a) c) (sym after_numbers)
        (same_numbers i (bit r) (numbers_in a) is_sound ok fit_cards c o) in
        known_same c (cards_after i r a) a o h.0 h.1

  -- a possible event, with a new number where it begins a drive-in
  module _ (e : Event) (c : ℕ) (ok : possible e (bit r) ≡ true) (new : e ≡ BeginIn → is_new c a ≡ true) where
    brings : BringsNew e c (numbers_in a)
    brings q = (new_exactly c a).0 (new q)

    driven : Marked (bears (after_event e (bit r))) (numbers_driven e c (numbers_in a))
    driven = after_marked e (bit r) (numbers_in a) c is_sound ok fit_cards brings

    pub driven_numbers : numbers_in (cards_driven e c a) ≡ numbers_driven e c (numbers_in a)
    unfolding cards_driven
    driven_numbers = held_bears (after_event e (bit r)) (numbers_driven e c (numbers_in a)) driven

    pub driven_fit : cards_fit (image (after_event e (bit r))) (cards_driven e c a) ≡ true
    unfolding cards_driven
    driven_fit = held_fit (after_event e (bit r)) (numbers_driven e c (numbers_in a)) driven

    pub driven_has : (d : ℕ) → (d ≡ 0 → ⊥) → Has (numbers_in (cards_driven e c a)) d ↔ Remains e (bit r) (numbers_in a) c d
    driven_has d z =
        subst (λ (m : Numbers). Has m d ↔ Remains e (bit r) (numbers_in a) c d) (sym driven_numbers)
        (event_has e (bit r) (numbers_in a) c is_sound ok fit_cards brings d z)

-- what is known after an event rests on what was known before, and on the lift and the drives
module _ (r q : ℕ) (a b : List ℕ) (e : Event) (d : ℕ) (out : bit r drive_out ≡ bit q drive_out)
    (lift : numbers_in a raised_car ≡ numbers_in b raised_car) (waits : numbers_in a drive_in ≡ numbers_in b drive_in)
    (has : Has (numbers_in a) d → Has (numbers_in b) d) where
  remains : (c : ℕ) → Remains e (bit r) (numbers_in a) c d → Remains e (bit q) (numbers_in b) c d
  remains c m = go e m
    where
      go : (e : Event) → Remains e (bit r) (numbers_in a) c d → Remains e (bit q) (numbers_in b) c d
      go BeginIn m = ⊎_elim inl (λ (h : Has (numbers_in a) d). inr (has h)) m
      go BeginOut m = has m
      go EndDone m = (has m.0, λ o i. m.1 (out ∙ o) (i ∙ sym lift))
      go EndNotDone m = (has m.0, λ i. m.1 (i ∙ sym waits))

module _ (r q : ℕ) (a b : List ℕ) (s : sound r ≡ true) (u : sound q ≡ true) (t : cards_fit r a ≡ true) (v : cards_fit q b ≡ true)
    (e : Event) (c : ℕ) (ok : possible e (bit r) ≡ true) (can : possible e (bit q) ≡ true)
    (new : e ≡ BeginIn → is_new c a ≡ true) (fresh : e ≡ BeginIn → is_new c b ≡ true)
    (bits : Agree lift_area (bit r) (bit q)) (numbers : SameOn lift_area (numbers_in a) (numbers_in b)) where
  pub driven_known : (d : ℕ) → (d ≡ 0 → ⊥) → is_known a d ≡ is_known b d → is_known (cards_driven e c a) d ≡ is_known (cards_driven e c b) d
  driven_known d z same =
      let there : Has (numbers_in a) d → Has (numbers_in b) d = λ h. (known_exactly b d z).0 (sym same ∙ (known_exactly a d z).1 h) in
      let back : Has (numbers_in b) d → Has (numbers_in a) d = λ h. (known_exactly a d z).0 (same ∙ (known_exactly b d z).1 h) in
      let out = bits drive_out refl in
      let lift = numbers raised_car refl in
      let waits = numbers drive_in refl in
      let here = driven_has r a s t e c ok new d z in
      let other = driven_has q b u v e c can fresh d z in
      known_same d (cards_driven e c a) (cards_driven e c b) z
      (λ h. other.1 (remains r q a b e d out lift waits there c (here.0 h)))
      (λ h. here.1 (remains q r b a e d (sym out) (sym lift) (sym waits) back c (other.0 h)))

-- ---- the numbers that come with an image

module _ (r n : ℕ) (ns : List ℕ) (s : sound r ≡ true) (h : n ≤ length ns) (t : given_as r n ns ≡ Ok tt) where
  given_marked : Marked (bears (bit r)) (numbers_given (bit r) ns)
  given_marked =
      let S = (sound_exactly r).0 s in
      let (m, new) = (fine_exactly r n ns S h).0 t in
      let padded : numbers_given (bit r) (take n ns) ≡ numbers_given (bit r) ns =
      fun_ext (λ k. sym (given_padded (bit r) (take n ns) (drop n ns) S m k) ∙ ap (λ (l : List ℕ). numbers_given (bit r) l k) (take-append-drop n ns)) in
      subst (Marked (bears (bit r))) padded
      (cards_marked (bit r) _ S.layout.0 S.layout.1 (given_cards (bit r) (take n ns) S m new))

  pub given_numbers : numbers_in (cards_given r ns) ≡ numbers_given (bit r) ns
  unfolding cards_given
  given_numbers = held_bears (bit r) (numbers_given (bit r) ns) given_marked

  pub given_fit : cards_fit r (cards_given r ns) ≡ true
  given_fit = marked_fit r (cards_given r ns) (subst (Marked (bears (bit r))) (sym given_numbers) given_marked)

-- ---- no number

pub none_known : (k : ℕ) → numbers_in (replicate 42 0) k ≡ 0
unfolding numbers_in
none_known k = split (ltb k 40)
    (λ t. let h = ltb-true k 40 t in rw t (get_or-replicate 42 k 0 0 (omega arith)))
    (λ t. rw t (split (eqb raised_car k) (λ u. rw u) (λ u. rw u (split (eqb drive_in k) (λ v. rw v) (λ v. rw v)))))

pub empty_fit : (r : ℕ) → Layout (bit r) [] → bit r drive_in ≡ false → cards_fit r (replicate 42 0) ≡ true
empty_fit r y idle =
    marked_fit r (replicate 42 0)
    (subst (Marked (bears (bit r))) (sym (fun_ext none_known)) (cards_marked (bit r) (λ k. 0) [] y (empty_garage (bit r) y idle)))

-- ---- areas: of any records and arrays

module _ (i : Instruction) (w : well_formed i ≡ true) where
  well_held : (r : ℕ) (a : List ℕ) → cards_after i r a ≡ held_numbers (numbers_after i (bit r) (numbers_in a))
  unfolding cards_after
  well_held r a = rw w

  pub after_length : (r : ℕ) (a : List ℕ) → length (cards_after i r a) ≡ 42
  after_length r a = ap length (well_held r a) ∙ held_length (numbers_after i (bit r) (numbers_in a))

  pub after_outside : (r : ℕ) (a : List ℕ) (k : ℕ) → area i k ≡ false → numbers_in (cards_after i r a) k ≡ numbers_in a k
  after_outside r a k o =
      ap (λ (l : List ℕ). numbers_in l k) (well_held r a)
      ∙ held_kept (numbers_after i (bit r) (numbers_in a)) a k (numbers_outside i w (bit r) (numbers_in a) k o)

  pub after_inside : (r q : ℕ) (a b : List ℕ) → Agree (area i) (bit r) (bit q) → SameOn (area i) (numbers_in a) (numbers_in b)
      → SameOn (area i) (numbers_in (cards_after i r a)) (numbers_in (cards_after i q b))
  after_inside r q a b e n k h =
      ap (λ (l : List ℕ). numbers_in l k) (well_held r a)
      ∙ held_agree _ _ k (numbers_inside i w (bit r) (bit q) (numbers_in a) (numbers_in b) e n k h)
      ∙ ap (λ (l : List ℕ). numbers_in l k) (sym (well_held q b))

module _ (e : Event) (c : ℕ) where
  pub driven_length : (a : List ℕ) → length (cards_driven e c a) ≡ 42
  unfolding cards_driven
  driven_length a = held_length (numbers_driven e c (numbers_in a))

  pub driven_outside : (a : List ℕ) (k : ℕ) → lift_area k ≡ false → numbers_in (cards_driven e c a) k ≡ numbers_in a k
  unfolding cards_driven
  driven_outside a k o = held_kept (numbers_driven e c (numbers_in a)) a k (event_numbers.outside e c (numbers_in a) k o)

  pub driven_inside : (a b : List ℕ) → SameOn lift_area (numbers_in a) (numbers_in b)
      → SameOn lift_area (numbers_in (cards_driven e c a)) (numbers_in (cards_driven e c b))
  unfolding cards_driven
  driven_inside a b n k h = held_agree _ _ k (event_numbers.inside e c (numbers_in a) (numbers_in b) n k h)
