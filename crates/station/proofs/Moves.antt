-- What the answers of the crates below say of held instructions and events: areas, verdicts, moves that are made or not, an event's byte.
-- Assumes nothing.
use Rattle.std.proofs.Common.{◌≡◌, ℕ, Bool, true, false, cond, not, ◌&&◌, eqb, List, [], ◌∷◌, sym, refl, ap, ◌∙◌}
use borrow.Author.Tests.{not-true, not-false}
use Rattle.bits.specs.Bits.{Bits, bit, packed, image}
use Rattle.bits.specs.Places.{elem}
use Rattle.bits.proofs.Cases.{split, both}
use Rattle.floor.specs.Tests.{holds, all_hold}
use Rattle.rules.specs.declared.Code.{Code}
use Rattle.std.specs.declared.option.Option.{Option}
use Rattle.rules.specs.declared.Refusal.{Refusal}
use Rattle.rules.specs.declared.Undriven.{Undriven}
use Rattle.std.specs.declared.result.Result.{Result}
use Rattle.std.specs.declared.result.Result.TheVariants.{Ok, Err}
use Rattle.rules.specs.declared.Instruction.{Instruction}
use Rattle.rules.specs.declared.Event.{Event}
use Rattle.std.specs.declared.option.Option.TheVariants.{Some, None}
use Rattle.rules.specs.Rules.{well_formed, area_of, area, Clause, ◌else◌, clauses, conditions, allowed, next_record}
use Rattle.rules.specs.Events.{in_turn, possible, places_open}
use Rattle.rules.specs.Codes.{read_code, read_event}
use Rattle.rules.specs.Verdicts.{Verdict, judged, on_code, mask_of, code_mask, verdict_of, code_verdict, is_allowed, moved_by, moved_of, code_moved, driven_of}
use Rattle.rules.proofs.CodeLaws.{one_form_lem}
use Rattle.rules.proofs.Reasons.{allows_is}
use Rattle.answers.specs.declared.Answer.TheVariants.{BadField, EventImpossible, OutOfTurn, SetApart, KeptOpen}
use Rattle.answers.specs.Answers.{nowhere}
use Rattle.engine.specs.declared.Judged.{Judged}
use Rattle.engine.specs.Judged.{is_read, judge, unbroken, code_next}
use Rattle.engine.proofs.Ruling.{allowed_unbroken}
use Rattle.station.specs.declared.Station.{Station}
use Rattle.station.specs.declared.Outcome.{Outcome}
use Rattle.station.specs.declared.Turn.{Turn}
use Rattle.station.specs.Held.{is_good, held_area, held_allowed, held_next, held_after, lift_apart}
use Rattle.station.specs.Station.{holding}
use Rattle.station.specs.Calls.{refused, taken, occurred, driven, evented}
use Rattle.station.specs.Turns.{turn_of}
use Rattle.station.specs.Private.{held_mask, mask_in}

-- ---- areas and verdicts

-- bad bytes have an empty area
pub held_area_lem : (x : Code) {a : (Option ℕ)} → a ≡ code_mask x → mask_in a ≡ held_mask x
unfolding held_mask held_area code_mask mask_of area packed
held_area_lem x e = ap mask_in e ∙ read (read_code x) refl
  where
    read : (g : (Option Instruction)) → read_code x ≡ g → mask_in (on_code mask_of Option.None g) ≡ image (λ k. elem k (on_code area_of [] g))
    read (Some i) d = rw (one_form_lem x i d).1
    read None d = refl

-- and are never allowed
pub held_verdict : (x : Code) (r : ℕ) {v : Verdict} → v ≡ code_verdict x r → is_allowed v ≡ held_allowed x (bit r)
unfolding held_allowed code_verdict
held_verdict x r e = ap is_allowed e ∙ read (read_code x)
  where
    read : (g : (Option Instruction)) → is_allowed (on_code (λ i. verdict_of i r) (Err Refusal.IllFormed) g) ≡ on_code (λ i. allowed i (bit r)) false g
    read (Some i) = allows_is i r
    read None = refl

-- ---- one judgement

conditions_read : (cs : List Clause) (f : Bits) → is_read (judged cs f) ≡ true
conditions_read [] f = refl
conditions_read ((t else why) ∷ cs) f = go (holds t f) (conditions_read cs f)
  where
    go : (b : Bool) → is_read (judged cs f) ≡ true → is_read (cond b (judged cs f) (Err (Refusal.NotAllowed why))) ≡ true
    go true e = e
    go false e = refl

held_read : (x : Code) (r : ℕ) → is_read (code_verdict x r) ≡ is_good x
unfolding is_good code_verdict verdict_of
held_read x r = read (read_code x) refl
  where
    read : (g : (Option Instruction)) → read_code x ≡ g → is_read (on_code (λ i. cond (well_formed i) (judged (clauses i) (bit r)) (Err Refusal.IllFormed)) (Err Refusal.IllFormed) g) ≡ on_code (λ i. true) false g
    read (Some i) d = rw (one_form_lem x i d).1 (conditions_read (clauses i) (bit r))
    read None d = refl

-- what the engine says of five bytes
pub one_judgement : (x : Code) (r : ℕ) {j : Judged} → j ≡ judge x r → (j.good ≡ is_good x) × (j.area ≡ held_mask x) × (j.allowed ≡ held_allowed x (bit r))
unfolding judge held_mask held_area area packed
one_judgement x r {j} e =
    (ap (λ (j : Judged). j.good) e ∙ held_read x r, ap (λ (j : Judged). j.area) e ∙ read (read_code x), ap (λ (j : Judged). j.allowed) e ∙ held_verdict x r refl)
  where
    read : (g : (Option Instruction)) → on_code (λ i. image (λ k. elem k (area_of i))) 0 g ≡ image (λ k. elem k (on_code area_of [] g))
    read (Some i) = refl
    read None = refl

-- what is allowed is an instruction
pub allowed_good : (x : Code) (f : Bits) → held_allowed x f ≡ true → is_good x ≡ true
unfolding held_allowed is_good
allowed_good x f h = read (read_code x) h
  where
    read : (g : (Option Instruction)) → on_code (λ i. allowed i f) false g ≡ true → on_code (λ i. true) false g ≡ true
    read (Some i) a = refl
    read None a = a

-- ---- moves

-- one answer where the move is made, another where it isn't
abbrev pub on_moved : {A : Type 0} → (ℕ → A) → A → Result ℕ Refusal → A
on_moved made unmade (Ok r) = made r
on_moved made unmade (Err refusal) = unmade

-- it is made where the verdict allows it
made_allowed : {A : Type 0} (made : ℕ → A) (unmade : A) (v : Verdict) (x : ℕ) → on_moved made unmade (moved_by v x) ≡ cond (is_allowed v) (made x) unmade
made_allowed made unmade (Ok done) x = refl
made_allowed made unmade (Err refusal) x = refl

-- an instruction's move is made exactly where it is allowed
held_moved : {A : Type 0} (made : ℕ → A) (unmade : A) (x : Code) (r : ℕ)
    → on_moved made unmade (code_moved x r) ≡ cond (held_allowed x (bit r)) (made (image (held_next x (bit r)))) unmade
unfolding held_allowed held_next code_moved moved_of
held_moved {A} made unmade x r = read (read_code x)
  where
    read : (g : (Option Instruction)) → on_moved made unmade (on_code (λ i. moved_of i r) (Err Refusal.IllFormed) g)
        ≡ cond (on_code (λ i. allowed i (bit r)) false g) (made (image (on_code (λ i. next_record i (bit r)) (bit r) g))) unmade
    read (Some i) =
        made_allowed made unmade (verdict_of i r) (image (next_record i (bit r)))
        ∙ ap (λ (b : Bool). cond {A = A} b (made (image (next_record i (bit r)))) unmade) (allows_is i r)
    read None = refl

-- the record after it
pub held_after_lem : (x : Code) (r : ℕ) {m : Result ℕ Refusal} → m ≡ code_moved x r → on_moved (λ n. n) r m ≡ held_after x r
unfolding held_after
held_after_lem x r e = ap (on_moved (λ n. n) r) e ∙ held_moved (λ n. n) r x r

-- where it is allowed nothing need be judged
pub held_done : (x : Code) (r : ℕ) → held_allowed x (bit r) ≡ true → code_next x r ≡ held_after x r
unfolding code_next held_after held_allowed held_next allowed
held_done x r h = read (read_code x) h
  where
    read : (g : (Option Instruction)) → on_code (λ i. allowed i (bit r)) false g ≡ true
        → on_code (λ i. cond (unbroken i) (image (next_record i (bit r))) r) r g
        ≡ cond (on_code (λ i. allowed i (bit r)) false g) (image (on_code (λ i. next_record i (bit r)) (bit r) g)) r
    read (Some i) a =
        ap (λ (b : Bool). cond b (image (next_record i (bit r))) r) (allowed_unbroken i (bit r) (both (well_formed i) (all_hold (conditions i) (bit r)) a).1 ∙ sym a)
    read None a = refl

-- an outcome, unless a part of the lift is set apart
abbrev pub unless_apart : Station → Outcome → Outcome
unless_apart s o = cond (lift_apart s.apart) (refused s (SetApart nowhere)) o

-- as a turn
pub unless_apart_lem : (s : Station) (o : Outcome) {x t : Turn} → x ≡ cond (lift_apart s.apart) (turn_of (refused s (SetApart nowhere))) t
    → t ≡ turn_of o → x ≡ turn_of (unless_apart s o)
unless_apart_lem s o e d = e ∙ rw d (split (lift_apart s.apart) (λ t. rw t) (λ t. rw t))

-- one answer where a car event takes place, others where it doesn't come in turn, isn't possible, and where places are kept open
abbrev pub on_driven : {A : Type 0} → (ℕ → A) → A → A → A → Result ℕ Undriven → A
on_driven made untimely unmade closed (Ok r) = made r
on_driven made untimely unmade closed (Err Undriven.OutOfTurn) = untimely
on_driven made untimely unmade closed (Err Undriven.Impossible) = unmade
on_driven made untimely unmade closed (Err Undriven.KeptOpen) = closed

-- a car event
pub moved_event : (s : Station) (e : Event) {d : Result ℕ Undriven} → d ≡ driven_of e s.bits
    → on_driven (λ r. unless_apart s (taken (holding s r))) (refused s OutOfTurn) (unless_apart s (refused s EventImpossible)) (unless_apart s (refused s KeptOpen)) d
    ≡ occurred s e
unfolding driven_of occurred
moved_event s e d =
    rw d (split (in_turn e (bit s.bits))
    (λ t. rw t (split (possible e (bit s.bits))
    (λ u. rw u (split (places_open e (bit s.bits)) (λ v. rw v) (λ v. rw v)))
    (λ u. rw u)))
    (λ t. rw t))

-- ---- an image

-- the code's test of an image: it is refused, or passes
pub image_fails : (apart : ℕ) {fine ok : Bool} → ok ≡ fine → not (ok && eqb apart 0) ≡ true → fine && eqb apart 0 ≡ false
image_fails apart e t = rw (← e) (not-true _ t)

pub image_passes : (apart : ℕ) {fine ok : Bool} → ok ≡ fine → not (ok && eqb apart 0) ≡ false → fine && eqb apart 0 ≡ true
image_passes apart e t = rw (← e) (not-false _ t)

-- ---- an event's byte

-- one answer for the event that it says, another where it says none
abbrev pub on_event : {A : Type 0} → (Event → A) → A → (Option Event) → A
on_event known bad (Option.Some e) = known e
on_event known bad Option.None = bad

-- an event
pub event_read : (s : Station) (b : ℕ) {g : (Option Event)} → g ≡ read_event b → on_event (driven s) (refused s (BadField nowhere)) g ≡ evented s b
unfolding evented read_event
event_read s b d =
    rw d (split (eqb b 1) (λ t. rw t)
    (λ t. rw t (split (eqb b 2) (λ u. rw u)
    (λ u. rw u (split (eqb b 3) (λ v. rw v)
    (λ v. rw v (split (eqb b 4) (λ w. rw w) (λ w. rw w))))))))
