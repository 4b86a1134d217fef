-- None is lost and none is made: which numbers cars have stays with every call but an image, but for those driven in and out.
-- Assumes nothing.
use mathlib.Core.Path.{◌≡◌, refl, sym, ap, ap₂, subst, ◌∙◌}
use mathlib.Core.Logic.{◌↔◌}
use mathlib.Core.Bool.{Bool, true, false, not, cond, ◌&&◌, ◌||◌, and-false}
use mathlib.Core.List.{List, [], ◌∷◌}
use Prim.Native.Nat.{ℕ, suc, ◌+◌, ◌≤◌, ◌<◌}
use native.Mathlib.Omega.{arith}
use lib.Dec.{T, eqb, ltb}
use lib.ListN.{get_or}
use borrow.Author.Tests.{lt-ltb, ltb-true, ltb-false, eqb-true, eqb-false, ne_eqb, eq-eqb}
use Rattle.bits.specs.Bits.{bit, digit, image}
use Rattle.bits.specs.Search.{some}
use Rattle.bits.proofs.Cases.{split, clash, alike, true→T, T→true}
use Rattle.bits.proofs.Search.{some_at, some_is, none_is, some_same}
use Rattle.floor.specs.Floor.{raised_car, drive_in, drive_out}
use Rattle.floor.specs.Tests.{fact, free, holds}
use Rattle.floor.specs.Sound.{sound, sound_rules}
use Rattle.floor.proofs.Promises.{sound_exactly}
use Rattle.floor.proofs.Reading.{nth_holds}
use Rattle.floor.proofs.Standing.{or_else}
use Rattle.rules.specs.declared.Code.{Code}
use Rattle.rules.specs.declared.Instruction.{Instruction}
use Rattle.std.specs.declared.option.Option.{Option}
use Rattle.std.specs.declared.option.Option.TheVariants.{Some, None}
use Rattle.rules.specs.declared.Event.{Event}
use Rattle.rules.specs.declared.Event.TheVariants.{BeginIn, BeginOut, EndDone, EndNotDone}
use Rattle.rules.specs.Rules.{well_formed, allowed, next_record}
use Rattle.rules.specs.Events.{possible}
use Rattle.rules.specs.Codes.{read_code, read_event}
use Rattle.rules.specs.Verdicts.{on_code}
use Rattle.rules.proofs.CodeLaws.{one_form_lem, event_one_form}
use Rattle.station.specs.Held.{code_at, held_allowed}
use Rattle.station_laws.proofs.Instance.{possible_as}
use Rattle.station_laws.proofs.Fits.{fit_has, waits_allowed}
use Rattle.station_laws.proofs.Calls.{event_has}
use Rattle.std.specs.declared.result.Result.TheVariants.{Ok}
use Rattle.cards.specs.Cards.{Numbers, Has}
use Rattle.cards.specs.Given.{bears}
use Rattle.cards.specs.Following.{numbers_taken, numbers_driven}
use Rattle.cards.specs.Held.{place_of_element, held_numbers, numbers_in, cards_after, code_cards, cards_driven, cards_fit}
use Rattle.cards.proofs.Listing.{in_held, none_in, cell_place, by_place}
use Rattle.cards_laws.proofs.Anchors.{is_place}
use Rattle.cards_laws.proofs.Sources.{waits_on}
use Rattle.cards_laws.proofs.Laws as laws
use Rattle.cards_laws.proofs.Elements.{element_number, one_place}
use Rattle.cards_laws.proofs.Tested.{fit_marked}
use Rattle.cards_laws.proofs.Arrays.{fit_cards, after_numbers, after_fit}
use Rattle.desk.specs.declared.Desk.{Desk}
use Rattle.desk.specs.Calls.{passed}
use Rattle.desk_laws.specs.Runs as desk
use Rattle.desk_laws.specs.Runs.{DeskCall, desk_answer_number, desk_after, calls_desk, NoDeskImages, carded, came, went, driven_in, driven_out}
use Rattle.desk_laws.specs.Promises.{RunKeepsNumbers}
use Rattle.desk_laws.proofs.Calls.{moved, fit_parts, answered, left_taken, untouched}
use Rattle.desk_laws.proofs.Fits.{success_bits}

-- ---- elements and places

place_held : (j : ℕ) → j < 42 → is_place (place_of_element j) ≡ true
place_held = by_place (λ j. is_place (place_of_element j) ≡ true) (λ j h. rw (lt-ltb j 40 h, lt-ltb j 40 h)) refl refl

-- an element of what is held is the number at its place
element_held : (n : Numbers) (j : ℕ) → j < 42 → get_or (held_numbers n) j 0 ≡ n (place_of_element j)
element_held n j h = sym (element_number (held_numbers n) j h) ∙ in_held n (place_of_element j) ∙ rw (place_held j h)

-- ---- which numbers cars have

-- a car has the number x
abbrev carded_by : List ℕ → ℕ → Bool
carded_by a x = some 41 (λ j. eqb (get_or a j 0) x)

place_other : (j : ℕ) → j < 41 → place_of_element j ≡ drive_in → ⊥
place_other j h e = split (ltb j 40)
    (λ t. let l = ltb-true j 40 t in omega (arith, sym (cell_place j l) ∙ e))
    (λ t. let i : j ≡ 40 = omega (arith, ltb-false j 40 t) in let z : raised_car ≡ drive_in = ap place_of_element (sym i) ∙ e in omega arith)

-- exactly if it stands at a place where none waits
carded_is : (a : List ℕ) (x : ℕ) → (x ≡ 0 → ⊥) → (carded_by a x ≡ true) ↔ ((k : ℕ) × (k ≡ drive_in → ⊥) × (numbers_in a k ≡ x))
carded_is a x n = (
  λ t. let (j, h, e) = some_is 41 (λ j. eqb (get_or a j 0) x) t in (place_of_element j, place_other j h, element_number a j (omega arith) ∙ eqb-true _ x e),
  λ w. at w.0 w.1 w.2,
)
  where
    here : (j k : ℕ) → j < 41 → place_of_element j ≡ k → numbers_in a k ≡ x → carded_by a x ≡ true
    here j k h p e = some_at 41 (λ j. eqb (get_or a j 0) x) j h (eq-eqb _ x (sym (element_number a j (omega arith)) ∙ ap (numbers_in a) p ∙ e))

    at : (k : ℕ) → (k ≡ drive_in → ⊥) → numbers_in a k ≡ x → carded_by a x ≡ true
    at k o e = split (ltb k 40)
        (λ t. let l = ltb-true k 40 t in here k k (omega arith) (cell_place k l) e)
        (λ t. split (eqb raised_car k)
        (λ u. here 40 k (omega arith) (eqb-true raised_car k u) e)
        (λ u. absurd (n (sym e ∙ none_in a k (rw (t, u) (ne_eqb drive_in k (λ q. o (sym q))))))))

-- numbers that fit stand once
once : (r : ℕ) (a : List ℕ) → cards_fit r a ≡ true → (j k : ℕ) → numbers_in a j ≡ numbers_in a k → (numbers_in a j ≡ 0 → ⊥) → j ≡ k
once r a f j k e o = let M = fit_marked r a f in split (bears (bit r) j) (λ b. M.once j k e b) (λ b. absurd (o (M.none j b)))

-- so where the same numbers are there and the same one waits, the cars have the same
same_carded : (r : ℕ) (a b : List ℕ) (x : ℕ) → (x ≡ 0 → ⊥) → cards_fit r a ≡ true → (Has (numbers_in a) x → Has (numbers_in b) x)
    → numbers_in b drive_in ≡ numbers_in a drive_in → carded_by a x ≡ true → carded_by b x ≡ true
same_carded r a b x n f has waits t =
    let (k, o, e) = (carded_is a x n).0 t in
    let (j, i) = has (k, e) in
    (carded_is b x n).1 (j, (λ q. o (once r a f k drive_in (e ∙ sym i ∙ ap (numbers_in b) q ∙ waits) (λ z. n (sym e ∙ z)))), i)

-- ---- a success

instruction_same : (i : Instruction) (r : ℕ) (a : List ℕ) (x : ℕ) → well_formed i ≡ true → sound r ≡ true → allowed i (bit r) ≡ true
    → cards_fit r a ≡ true → (x ≡ 0 → ⊥) → carded_by (cards_after i r a) x ≡ carded_by a x
instruction_same i r a x w s t f n =
    let b = cards_after i r a in
    let e = after_numbers r a s f i t in
    let numbers : Has (numbers_in b) x ↔ Has (numbers_in a) x =
    subst (λ (m : Numbers). Has m x ↔ Has (numbers_in a) x) (sym e)
    (laws.same_numbers i (bit r) (numbers_in a) ((sound_exactly r).0 s) t (fit_cards r a s f) x n) in
    let waits : numbers_in b drive_in ≡ numbers_in a drive_in = ap (λ (m : Numbers). m drive_in) e ∙ waits_on i (bit r) (numbers_in a) w in
    alike (carded_by b x) (carded_by a x)
    (same_carded (image (next_record i (bit r))) b a x n (after_fit r a s f i t) numbers.0 (sym waits))
    (same_carded r a b x n f numbers.1 waits)

code_same : (y : Code) (r : ℕ) (a : List ℕ) (x : ℕ) → sound r ≡ true → held_allowed y (bit r) ≡ true → cards_fit r a ≡ true → (x ≡ 0 → ⊥)
    → carded_by (code_cards y r a) x ≡ carded_by a x
unfolding held_allowed code_cards
code_same y r a x s = read (read_code y) refl
  where
    read : (v : (Option Instruction)) → read_code y ≡ v → on_code (λ i. allowed i (bit r)) false v ≡ true → cards_fit r a ≡ true → (x ≡ 0 → ⊥)
        → carded_by (on_code (λ i. cards_after i r a) a v) x ≡ carded_by a x
    read (Some i) e t f n = instruction_same i r a x (one_form_lem y i e).1 s t f n
    read None e t f n = refl

-- ---- a car event

-- one that leaves the elements of cars
same_elements : (a b : List ℕ) (x : ℕ) → ((j : ℕ) → j < 41 → get_or b j 0 ≡ get_or a j 0) → carded_by b x ≡ carded_by a x
same_elements a b x e = some_same 41 _ _ (λ j h. ap (λ (c : ℕ). eqb c x) (e j h))

-- a begin and an end that isn't done change none but the one that waits
unmoved : (e : Event) (c : ℕ) (a : List ℕ) (j : ℕ) → j < 42 → numbers_driven e c (numbers_in a) (place_of_element j) ≡ numbers_in a (place_of_element j)
    → get_or (cards_driven e c a) j 0 ≡ get_or a j 0
unfolding cards_driven
unmoved e c a j h q = element_held (numbers_driven e c (numbers_in a)) j h ∙ q ∙ element_number a j h

begin_in_same : (c : ℕ) (a : List ℕ) (x : ℕ) → carded_by (cards_driven BeginIn c a) x ≡ carded_by a x
unfolding numbers_driven
begin_in_same c a x = same_elements a (cards_driven BeginIn c a) x
    (λ j h. unmoved BeginIn c a j (omega arith) (rw (ne_eqb drive_in (place_of_element j) (λ q. place_other j h (sym q)))))

begin_out_same : (c : ℕ) (a : List ℕ) (x : ℕ) → carded_by (cards_driven BeginOut c a) x ≡ carded_by a x
unfolding numbers_driven
begin_out_same c a x = same_elements a (cards_driven BeginOut c a) x (λ j h. unmoved BeginOut c a j (omega arith) refl)

not_done_same : (c : ℕ) (a : List ℕ) (x : ℕ) → carded_by (cards_driven EndNotDone c a) x ≡ carded_by a x
unfolding numbers_driven numbers_taken
not_done_same c a x = same_elements a (cards_driven EndNotDone c a) x
    (λ j h. unmoved EndNotDone c a j (omega arith) (rw (ne_eqb drive_in (place_of_element j) (λ q. place_other j h (sym q)))))

-- an end that is done brings the one that waits to the raised lift, and leaves the cells
module _ (a : List ℕ) (c x : ℕ) where
  -- a cell has it; the raised lift; it waits
  abbrev in_cell : Bool
  in_cell = some 40 (λ j. eqb (get_or a j 0) x)

  abbrev on_lift : Bool
  on_lift = eqb (get_or a 40 0) x

  abbrev waits : Bool
  waits = eqb (get_or a 41 0) x

  done_cell : (j : ℕ) → j < 40 → get_or (cards_driven EndDone c a) j 0 ≡ get_or a j 0
  unfolding numbers_driven numbers_taken
  done_cell j h = unmoved EndDone c a j (omega arith)
      (rw (ne_eqb raised_car (place_of_element j) (other raised_car (omega arith)), ne_eqb drive_in (place_of_element j) (other drive_in (omega arith))))
    where
      other : (k : ℕ) → 40 ≤ k → k ≡ place_of_element j → ⊥
      other k l q = omega (arith, q ∙ cell_place j h)

  done_lift : get_or (cards_driven EndDone c a) 40 0 ≡ get_or a 41 0
  unfolding cards_driven numbers_driven numbers_taken
  done_lift = element_held (numbers_driven EndDone c (numbers_in a)) 40 (omega arith) ∙ element_number a 41 (omega arith)

  done_carded : carded_by (cards_driven EndDone c a) x ≡ waits || in_cell
  unfolding some
  done_carded = ap₂ ◌||◌ (ap (λ (k : ℕ). eqb k x) done_lift) (some_same 40 _ _ (λ j h. ap (λ (k : ℕ). eqb k x) (done_cell j h)))

  was_carded : carded_by a x ≡ on_lift || in_cell
  unfolding some
  was_carded = refl

-- the counts: with a drive-in under way the raised lift has none, and no cell the one that waits; else none waits, and no cell has the one
-- on the raised lift
counts : (i o cell lift wait : Bool) → (i ≡ true → (o ≡ false) × (lift ≡ false)) → (i ≡ false → (o ≡ true) × (wait ≡ false))
    → (wait ≡ true → cell ≡ false) → (lift ≡ true → cell ≡ false)
    → digit (wait || cell) + digit (o && lift) ≡ digit (lift || cell) + digit (i && wait)
counts true o cell lift true fi fo fw fl = rw ((fi refl).0, (fi refl).1, fw refl)
counts true o cell lift false fi fo fw fl = rw ((fi refl).0, (fi refl).1)
counts false o cell true wait fi fo fw fl = rw ((fo refl).0, (fo refl).1, fl refl)
counts false o cell false wait fi fo fw fl = rw ((fo refl).0, (fo refl).1)

-- what the rules of drives say: not both, into an empty lift, and an end ends one
not_both : (i o : Bool) → not (i && (o && true)) ≡ true → i ≡ true → o ≡ false
not_both true true e t = clash refl (sym e)
not_both true false e t = refl
not_both false o e t = clash t refl

is_empty : (b : Bool) → eqb (digit b + 0) 0 ≡ true → b ≡ false
is_empty true e = clash e refl
is_empty false e = refl

one_drives : (i o : Bool) → not (eqb (digit i + (digit o + 0)) 0) && true ≡ true → i ≡ false → o ≡ true
one_drives true o e t = clash refl t
one_drives false true e t = refl
one_drives false false e t = clash e refl

module _ (r : ℕ) (a : List ℕ) (x : ℕ) (s : sound r ≡ true) (f : cards_fit r a ≡ true) (n : x ≡ 0 → ⊥) where
  rule : (j : ℕ) → T (holds (get_or sound_rules j (fact true)) (bit r))
  rule j = nth_holds (bit r) sound_rules (true→T ((sound_exactly r).0 s).rules) j

  -- of drives at most one is under way, and one into an empty lift
  in_only : bit r drive_in ≡ true → bit r drive_out ≡ false
  in_only = not_both (bit r drive_in) (bit r drive_out) (T→true _ (rule 12))

  in_empty : bit r drive_in ≡ true → bit r raised_car ≡ false
  in_empty t = is_empty (bit r raised_car) (or_else (drive_in ∷ []) (free (raised_car ∷ [])) (bit r) (rule 14) drive_in tt t)

  -- a place that bears none has none
  none_there : (j : ℕ) → j < 42 → bears (bit r) (place_of_element j) ≡ false → eqb (get_or a j 0) x ≡ false
  none_there j h b = ne_eqb _ x (λ e. n (sym e ∙ sym (element_number a j h) ∙ (fit_marked r a f).none (place_of_element j) b))

  -- what stands at one element stands at none before it
  none_before : (j m : ℕ) → j < 42 → m < suc j → eqb (get_or a j 0) x ≡ true → some m (λ i. eqb (get_or a i 0) x) ≡ false
  none_before j m h l t = none_is m _ (λ i k. ne_eqb _ x (λ e.
      let p = element_number a i (omega arith) ∙ e in
      let q = element_number a j h ∙ eqb-true (get_or a j 0) x t in
      let same : i ≡ j = one_place i j (omega arith) h (once r a f (place_of_element i) (place_of_element j) (p ∙ sym q) (λ z. n (sym p ∙ z))) in
      omega arith))

  done_same : (c : ℕ) → possible EndDone (bit r) ≡ true
      → digit (carded_by (cards_driven EndDone c a) x) + digit (bit r drive_out && eqb (numbers_in a raised_car) x)
      ≡ digit (carded_by a x) + digit (bit r drive_in && eqb (numbers_in a drive_in) x)
  unfolding possible numbers_in
  done_same c p = rw (done_carded a c x, was_carded a c x) (counts (bit r drive_in) (bit r drive_out) (in_cell a c x) (on_lift a c x) (waits a c x)
      (λ t. (in_only t, none_there 40 (omega arith) (in_empty t)))
      (λ t. (one_drives (bit r drive_in) (bit r drive_out) p t, none_there 41 (omega arith) t))
      (none_before 41 40 (omega arith) (omega arith))
      (none_before 40 40 (omega arith) (omega arith)))

event_same : (e c r : ℕ) (a : List ℕ) (x : ℕ) (v : (Option Event)) → read_event e ≡ v → sound r ≡ true → cards_fit r a ≡ true → (x ≡ 0 → ⊥)
    → possible_as v r ≡ true
    → digit (carded_by (cond (eqb e 1) (cards_driven BeginIn c a) (passed v a)) x)
    + digit (eqb e 3 && (bit r drive_out && eqb (numbers_in a raised_car) x))
    ≡ digit (carded_by a x) + digit (eqb e 3 && (bit r drive_in && eqb (numbers_in a drive_in) x))
event_same e c r a x (Some BeginIn) q s f n p = rw (event_one_form e BeginIn q, begin_in_same c a x)
event_same e c r a x (Some BeginOut) q s f n p = rw (event_one_form e BeginOut q, begin_out_same 0 a x)
event_same e c r a x (Some EndDone) q s f n p = rw (event_one_form e EndDone q) (done_same r a x s f n 0 p)
event_same e c r a x (Some EndNotDone) q s f n p = rw (event_one_form e EndNotDone q, not_done_same 0 a x)
event_same e c r a x None q s f n p = clash p refl

-- ---- any calls

-- a call that is refused drives no car
came_none : (x : ℕ) (d : Desk) (c : DeskCall) → (desk_answer_number d c ≡ 0 → ⊥) → came x d c ≡ 0
came_none x d (desk.request n set) o = refl
came_none x d (desk.reports r) o = refl
came_none x d (desk.event e c) o =
    ap (λ (b : Bool). digit (eqb e 3 && (b && (bit d.station.bits drive_in && eqb (numbers_in d.numbers drive_in) x))))
    (ne_eqb (desk_answer_number d (desk.event e c)) 0 o)
    ∙ ap digit (and-false (eqb e 3))
came_none x d (desk.pictures p n ns) o = refl
came_none x d desk.ask o = refl

went_none : (x : ℕ) (d : Desk) (c : DeskCall) → (desk_answer_number d c ≡ 0 → ⊥) → went x d c ≡ 0
went_none x d (desk.request n set) o = refl
went_none x d (desk.reports r) o = refl
went_none x d (desk.event e c) o =
    ap (λ (b : Bool). digit (eqb e 3 && (b && (bit d.station.bits drive_out && eqb (numbers_in d.numbers raised_car) x))))
    (ne_eqb (desk_answer_number d (desk.event e c)) 0 o)
    ∙ ap digit (and-false (eqb e 3))
went_none x d (desk.pictures p n ns) o = refl
went_none x d desk.ask o = refl

-- an event that is taken drives one, where it says that the drive under way is done
came_one : (x : ℕ) (d : Desk) (e c : ℕ) → desk_answer_number d (desk.event e c) ≡ 0
    → came x d (desk.event e c) ≡ digit (eqb e 3 && (bit d.station.bits drive_in && eqb (numbers_in d.numbers drive_in) x))
came_one x d e c z = rw z

went_one : (x : ℕ) (d : Desk) (e c : ℕ) → desk_answer_number d (desk.event e c) ≡ 0
    → went x d (desk.event e c) ≡ digit (eqb e 3 && (bit d.station.bits drive_out && eqb (numbers_in d.numbers raised_car) x))
went_one x d e c z = rw z

-- a list without images is a call that is none, and such a list
parts : (c : DeskCall) (l : List DeskCall) → NoDeskImages (c ∷ l) → NoDeskImages (c ∷ []) × NoDeskImages l
parts (desk.request n set) l p = (tt, p)
parts (desk.reports r) l p = (tt, p)
parts (desk.event e c) l p = (tt, p)
parts (desk.pictures x n ns) l p = absurd p
parts desk.ask l p = (tt, p)

module _ (x : ℕ) (n : x ≡ 0 → ⊥) where
  moved_same : (d : Desk) (c : DeskCall) → NoDeskImages (c ∷ []) → desk_answer_number d c ≡ 0 → digit (carded_by (moved d c) x) + went x d c ≡ carded x d + came x d c
  moved_same d (desk.request m set) i z = refl
  moved_same d (desk.reports r) i z =
      let (p, v) = (answered d (desk.reports r) (Ok tt)).0 z in
      let (f, g) = fit_parts d p.0 in
      let s = d.station in
      split (eqb r.ending 1)
      (λ t. let (w, b) = success_bits s r (eqb-true r.ending 1 t) p.1 in
      rw t (ap (λ (b : Bool). digit b + 0)
      (code_same (code_at s.set r.number) s.bits d.numbers x (fit_has s f).sound (waits_allowed s r.number w) g n)))
      (λ t. rw t)
  moved_same d (desk.event e c) i z =
      let (p, v) = (answered d (desk.event e c) (Ok tt)).0 z in
      let (f, g) = fit_parts d p.0 in
      rw (came_one x d e c z, went_one x d e c z) (event_same e c d.station.bits d.numbers x (read_event e) refl (fit_has d.station f).sound g n
      (event_has d.station e p.1).3)
  moved_same d (desk.pictures y m ns) i z = absurd i
  moved_same d desk.ask i z = refl

  step_same : (d : Desk) (c : DeskCall) → NoDeskImages (c ∷ []) → carded x (desk_after d c) + went x d c ≡ carded x d + came x d c
  step_same d c i = split (eqb (desk_answer_number d c) 0)
      (λ t. let z = eqb-true (desk_answer_number d c) 0 t in ap (λ (b : Desk). carded x b + went x d c) (left_taken d c z) ∙ moved_same d c i z)
      (λ t. let o = eqb-false (desk_answer_number d c) 0 t in rw (untouched d c o, went_none x d c o, came_none x d c o))

  calls_same : (l : List DeskCall) → NoDeskImages l → (d : Desk) → carded x (calls_desk d l) + driven_out x d l ≡ carded x d + driven_in x d l
  calls_same [] i d = refl
  calls_same (c ∷ l) i d =
      let (p, q) = parts c l i in
      omega (arith, step_same d c p, calls_same l q (desk_after d c))

pub same_numbers : RunKeepsNumbers
same_numbers d l i x n = calls_same x n l i d
