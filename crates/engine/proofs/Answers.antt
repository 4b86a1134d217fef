-- The answers: from what is said of an instruction and the next record to what is answered, of instructions and of five bytes; and of
-- events. Assumes nothing.
use mathlib.Core.Path.{◌≡◌, refl, sym, ap, ap₂, ◌∙◌}
use mathlib.Core.Bool.{Bool, true, false, cond}
use Rattle.std.specs.Prelude.{is_some}
use Prim.Native.Nat.{ℕ, ◌^◌, ◌<◌}
use Rattle.bits.specs.Bits.{bit, image}
use Rattle.bits.proofs.Cases.{both}
use Rattle.bits.proofs.Digits.{image_bit}
use Rattle.floor.specs.Tests.{all_hold}
use Rattle.rules.specs.declared.Instruction.{Instruction}
use Rattle.rules.specs.declared.Instruction.TheVariants.{Rotate}
use Rattle.rules.specs.declared.Event.{Event}
use Rattle.rules.specs.declared.Code.{Code}
use Rattle.std.specs.declared.option.Option.{Option}
use Rattle.std.specs.declared.option.Option.TheVariants.{Some, None}
use Rattle.rules.specs.declared.Refusal.{Refusal}
use Rattle.rules.specs.declared.Undriven.{Undriven}
use Rattle.std.specs.declared.result.Result.{Result}
use Rattle.std.specs.declared.result.Result.TheVariants.{Ok, Err}
use Rattle.rules.specs.Rules.{well_formed, area, clauses, conditions, allowed, next_record}
use Rattle.rules.specs.Codes.{read_code}
use Rattle.rules.specs.Events.{in_turn, possible, places_open, after_event}
use Rattle.rules.specs.Verdicts.{Verdict, judged, verdict_of, moved_by, moved_of, mask_of, driven_of, on_code, code_verdict, code_moved}
use Rattle.rules.proofs.CodeLaws.{one_form_lem}
use Rattle.rules.proofs.Answering.{is_verdict, has_moved, is_allowed_lem}
use Rattle.areas.specs.declared.Located.{Located}
use Rattle.areas.specs.Located.{locate}
use Rattle.rows.specs.Private.{whole}
use Rattle.engine.specs.declared.Judged.{Judged}
use Rattle.engine.specs.Judged.{judge, judged_as, unbroken, code_next}
use Rattle.engine.proofs.Ruling.{whole_right, allowed_unbroken}

-- of a well-formed instruction its conditions say it
module _ (i : Instruction) (r : ℕ) (w : well_formed i ≡ true) (v : Verdict) (p : v ≡ judged (clauses i) (bit r)) where
  pub taken : (x : ℕ) → v ≡ Ok tt → x ≡ image (next_record i (bit r)) → Ok x ≡ moved_of i r
  taken x q e = has_moved i r w (sym q ∙ p) e

  pub refused : (o : Result ℕ Refusal) (why : Refusal) → v ≡ Err why → o ≡ Err why → o ≡ moved_of i r
  unfolding moved_of
  refused o why q e = e ∙ ap (λ (u : Verdict). moved_by u (image (next_record i (bit r)))) (is_verdict i r w (sym q ∙ p))

  -- at once, where the next record is there already
  pub decided : (x : ℕ) → x ≡ image (next_record i (bit r)) → moved_by v x ≡ moved_of i r
  unfolding moved_of
  decided x e = ap₂ {A = Verdict} {B = ℕ} {C = Result ℕ Refusal} moved_by (is_verdict i r w p) e

  -- and where they all hold, nothing is missing between its belts or rows
  pub no_gap : v ≡ Ok tt → whole i ≡ true
  unfolding allowed
  no_gap q = whole_right i w ∙ allowed_unbroken i (bit r) (both (well_formed i) (all_hold (conditions i) (bit r)) (is_allowed_lem i r w (sym q ∙ p))).1

-- ---- what an area and a reading tell

area_in : Option ℕ → ℕ
area_in (Some m) = m
area_in None = 0

-- an area is a well-formed instruction's
module _ (i : Instruction) {y : Option ℕ} (e : y ≡ mask_of i) where
  by_mask : (o : Option ℕ) → y ≡ o → (is_some o ≡ well_formed i) × (well_formed i ≡ true → area_in o ≡ image (area i))
  unfolding mask_of area_in
  by_mask o g = (ap is_some (sym g ∙ e) ∙ go (well_formed i), λ w. ap area_in (sym g ∙ e) ∙ rw w)
    where
      go : (b : Bool) → is_some (cond b (Some (image (area i))) None) ≡ b
      go true = refl
      go false = refl

  pub masked : (a : ℕ) → y ≡ Some a → (well_formed i ≡ true) × (a ≡ image (area i))
  unfolding area_in
  masked a g = let (w, h) = by_mask (Some a) g in (sym w, h (sym w))

  pub unmasked : y ≡ None → well_formed i ≡ false
  unmasked g = sym (by_mask None g).0

-- what five bytes say, and its area
said_in : Option Located → Option Instruction
said_in (Some l) = Some l.instruction
said_in None = None

place_in : Option Located → ℕ
place_in (Some l) = l.area
place_in None = 0

located_at : Option Instruction → Option Located
located_at y = on_code (λ i. Some (record { instruction = i; area = image (area i) })) None y

read_back : (y : Option Instruction) → y ≡ said_in (located_at y)
unfolding located_at said_in
read_back (Some i) = refl
read_back None = refl

placed_back : (y : Option Instruction) → place_in (located_at y) ≡ on_code (λ i. image (area i)) 0 y
unfolding located_at place_in
placed_back (Some i) = refl
placed_back None = refl

module _ (x : Code) {y : Option Located} (e : y ≡ locate x) where
  by_located : (o : Option Located) → y ≡ o → (read_code x ≡ said_in o) × (place_in o ≡ on_code (λ i. image (area i)) 0 (read_code x))
  unfolding locate located_at
  by_located o g = (read_back (read_code x) ∙ ap said_in (sym e ∙ g), ap place_in (sym g ∙ e) ∙ placed_back (read_code x))

  pub located_said : (l : Located) → y ≡ Some l → read_code x ≡ Some l.instruction
  unfolding said_in
  located_said l g = (by_located (Some l) g).0

  pub located_area : (l : Located) → y ≡ Some l → (well_formed l.instruction ≡ true) × (l.area ≡ image (area l.instruction))
  unfolding place_in
  located_area l g =
      let s = located_said l g in
      ((one_form_lem x l.instruction s).1, (by_located (Some l) g).1 ∙ ap (on_code (λ i. image (area i)) 0) s)

  pub located_none : y ≡ None → read_code x ≡ None
  unfolding said_in
  located_none g = (by_located None g).0

-- five bytes and the instruction that they say
module _ (x : Code) (i : Instruction) (said : read_code x ≡ Some i) where
  well : well_formed i ≡ true
  well = (one_form_lem x i said).1

  module _ (r : ℕ) where
    pub code_moved_lem : (m : Result ℕ Refusal) → m ≡ moved_of i r → m ≡ code_moved x r
    unfolding code_moved
    code_moved_lem m p = p ∙ ap (on_code (λ i. moved_of i r) (Err Refusal.IllFormed)) (sym said)

    pub code_told : (v : Verdict) → v ≡ judged (clauses i) (bit r) → v ≡ code_verdict x r
    unfolding code_verdict
    code_told v p = is_verdict i r well p ∙ ap (on_code (λ i. verdict_of i r) (Err Refusal.IllFormed)) (sym said)

    pub code_judged : (a : ℕ) → a ≡ image (area i) → (v : Verdict) → v ≡ judged (clauses i) (bit r) → judged_as a v ≡ judge x r
    unfolding judge
    code_judged a q v p = ap₂ {A = ℕ} {B = Verdict} {C = Judged} judged_as (q ∙ ap (on_code (λ i. image (area i)) 0) (sym said)) (code_told v p)

    known : (b : Bool) → whole i ≡ b → cond b (image (next_record i (bit r))) r ≡ code_next x r
    unfolding code_next
    known b h =
        ap (λ (b : Bool). cond b (image (next_record i (bit r))) r) (sym h ∙ whole_right i well)
        ∙ ap (on_code (λ i. cond (unbroken i) (image (next_record i (bit r))) r) r) (sym said)

    pub code_next_lem : whole i ≡ true → (n : ℕ) → n ≡ image (next_record i (bit r)) → n ≡ code_next x r
    code_next_lem h n p = p ∙ known true h

    pub gap_next : whole i ≡ false → r ≡ code_next x r
    gap_next h = known false h

module _ (x : Code) (nothing : read_code x ≡ None) (r : ℕ) where
  pub bad_moved : Err Refusal.IllFormed ≡ code_moved x r
  unfolding code_moved
  bad_moved = ap (on_code (λ i. moved_of i r) (Err Refusal.IllFormed)) (sym nothing)

  pub bad_told : Err Refusal.IllFormed ≡ code_verdict x r
  unfolding code_verdict
  bad_told = ap (on_code (λ i. verdict_of i r) (Err Refusal.IllFormed)) (sym nothing)

  pub bad_judged : judged_as 0 (Err Refusal.IllFormed) ≡ judge x r
  unfolding judge
  bad_judged = ap₂ {A = ℕ} {B = Verdict} {C = Judged} judged_as (ap (on_code (λ i. image (area i)) 0) (sym nothing)) bad_told

  pub bad_next : r ≡ code_next x r
  unfolding code_next
  bad_next = ap (on_code (λ i. cond (unbroken i) (image (next_record i (bit r))) r) r) (sym nothing)

-- rotating keeps the record
pub rotated : (i : Instruction) → i ≡ Rotate → (r : ℕ) → r < 2 ^ 64 → r ≡ image (next_record i (bit r))
unfolding next_record
rotated i e r h = sym (image_bit r h) ∙ ap (λ i. image (next_record i (bit r))) (sym e)

-- ---- events

module _ (e : Event) (r : ℕ) where
  pub event_untimely : in_turn e (bit r) ≡ false → Err Undriven.OutOfTurn ≡ driven_of e r
  unfolding driven_of
  event_untimely t = rw t

  pub event_refused : in_turn e (bit r) ≡ true → possible e (bit r) ≡ false → Err Undriven.Impossible ≡ driven_of e r
  unfolding driven_of
  event_refused t p = rw (t, p)

  pub event_kept_open : in_turn e (bit r) ≡ true → possible e (bit r) ≡ true → places_open e (bit r) ≡ false → Err Undriven.KeptOpen ≡ driven_of e r
  unfolding driven_of
  event_kept_open t p o = rw (t, p, o)

  pub event_taken : in_turn e (bit r) ≡ true → possible e (bit r) ≡ true → places_open e (bit r) ≡ true
      → (x : ℕ) → x ≡ image (after_event e (bit r)) → Ok x ≡ driven_of e r
  unfolding driven_of
  event_taken t p o x h = rw (t, p, o) (ap Ok h)
