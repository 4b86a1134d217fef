-- What a call hands back: which branch of its definition a test takes, the station that a request opens, and the one after a result.
-- Assumes nothing.
use Rattle.std.proofs.Common.{◌≡◌, ℕ, ◌+◌, ◌-◌, ◌*◌, ◌%◌, ◌<◌, ◌≤◌, Bool, true, false, cond, not, ◌&&◌, ◌||◌, eqb, ltb, List, ◌++◌, length, take, set, replicate, sym, refl, ap, ◌∙◌, ap₂, arith, eq-eqb, ne_eqb}
use lib.Bits.{bit_or}
use Rattle.bits.specs.Bits.{bit, image}
use Rattle.bits.specs.Search.{least}
use Rattle.bits.proofs.Cases.{split, passed, failed}
use Rattle.floor.specs.Tests.{holds, under_way}
use Rattle.answers.specs.declared.Answer.{Answer}
use Rattle.answers.specs.declared.Answer.TheVariants.{Taken, Opened, BadField, EventImpossible, KeptOpen}
use Rattle.answers.specs.Answers.{nowhere}
use Rattle.rules.specs.declared.Event.{Event}
use Rattle.std.specs.declared.option.Option.{Option}
use Rattle.std.specs.declared.option.Option.TheVariants.{Some, None}
use Rattle.rules.specs.Codes.{read_event}
use Rattle.rules.specs.Events.{possible}
use Rattle.station.specs.declared.Station.{Station}
use Rattle.station.specs.declared.Outcome.{Outcome}
use Rattle.station.specs.Held.{code_at, held_area, held_after, held_parts}
use Rattle.station.specs.Station.{answering}
use Rattle.station.specs.Calls.{refused, taken, unless_any, opening, ended}
use Rattle.station.proofs.Moves.{on_event}
use Rattle.plain.specs.declared.Floor.{Floor}
use Rattle.plain.specs.declared.Walk.{Walk}
use Rattle.plain.specs.Plain.{listed, plain_bits, floor_of}
use Rattle.plain.specs.Walks.{walked, walk_of}
use Rattle.plain_moves.specs.declared.Parts.{Parts}
use Rattle.plain_moves.specs.Moves.{driven_floor, opens_with, parts_bits, parts_of, parts_at, together}
use Rattle.plain_moves.proofs.Driving.{under_way_lem}
use Rattle.plain_station.specs.declared.Plain.{Plain}
use Rattle.plain_station.specs.declared.PlainOutcome.{PlainOutcome}
use Rattle.plain_station.specs.Plain.{packed_of, plain_of, plain_outcome, refused_plain, on_floor, plain_driven, plain_evented}
use Rattle.plain_station.specs.Private.{first, all_answered, plain_answering, plain_entered}
use Rattle.plain_station.proofs.Standing.{Sized, comes_back, floor_bits, floor_back, parts_bits_lem, parts_back}
use Rattle.plain_station.proofs.Areas.{apart_with}
use Rattle.plain_station.proofs.Marks.{marked_list, marked_every}

-- ---- tests

-- a test picks what stands for its answer
pub where_true : {A : Type 0} (b : Bool) (x y : A) → b ≡ true → x ≡ cond b x y
where_true b x y e = rw e

pub where_false : {A : Type 0} (b : Bool) (x y : A) → b ≡ false → y ≡ cond b x y
where_false b x y e = rw e

-- the least of n that is at fault was searched for, and found, or not
module _ (n : ℕ) (fault : ℕ → Bool) (s : Station) (a : ℕ → Answer) (o : Outcome) {k : Option ℕ} (e : k ≡ first n fault) where
  pub found : {j : ℕ} → k ≡ Some j → refused s (a j) ≡ unless_any n fault s a o
  found {j} h = go (ltb (least n fault) n) (least n fault) (sym h ∙ e)
    where
      go : (b : Bool) (l : ℕ) → Some j ≡ cond b (Some l) None → refused s (a j) ≡ cond b (refused s (a l)) o
      go true l d = cc
      go false l d = cc

  pub none_found : k ≡ None → o ≡ unless_any n fault s a o
  none_found h = go (ltb (least n fault) n) (least n fault) (sym h ∙ e)
    where
      go : (b : Bool) (l : ℕ) → None ≡ cond b (Some l) None → o ≡ cond b (refused s (a l)) o
      go true l d = cc
      go false l d = refl

-- the station as it was, and why, is what the packed one hands back
pub back : (p : Plain) → Sized p → (a : Answer) → refused_plain p a ≡ plain_outcome (refused (packed_of p) a)
back p z a = ap (λ (q : Plain). refused_plain q a) (sym (comes_back p z))

-- ---- a driver is coming or going

-- the code's test of the lift under a driver
pub under_driver : (f : Floor) {b lifts : Bool} → b ≡ lifts → (f.coming || f.going) && b ≡ holds under_way (bit (image (plain_bits f))) && lifts
under_driver f e = ap₂ ◌&&◌ (under_way_lem f ∙ ap (holds under_way) (sym (floor_bits f))) e

-- ---- the station that a request opens

pub opens : (p : Plain) (n : ℕ) (set : List ℕ) {kept : List ℕ} {next : ℕ} → Sized p → kept ≡ take (5 * n) set ++ replicate (40 - 5 * n) 0
    → next ≡ (p.next + 1) % 65536
    → ◌≡◌ {A = PlainOutcome} (record {
      station = record { floor = p.floor; apart = p.apart; count = n; answered = replicate 8 false; set = kept; next = next };
      answer = Opened p.next;
    }) (plain_outcome (opening (packed_of p) n set))
unfolding packed_of plain_of listed
opens p n set z k e = rw (
  k,
  e,
  floor_bits p.floor,
  floor_back p.floor z.cells z.slots,
  parts_bits_lem p.apart,
  parts_back p.apart z.apart_cells z.apart_slots,
)

-- ---- the station after a result

pub answers : (p : Plain) (i r apart : ℕ) → Sized p → p.count ≤ 8 → i < p.count
    → plain_answering p i (floor_of (bit r)) (parts_of (bit apart)) ≡ plain_of (answering (packed_of p) i r apart)
unfolding plain_answering packed_of plain_of answering listed
answers p i r apart z h l =
    let last = marked_every p.answered i z.marks (omega arith) p.count in
    split (all_answered (set p.answered i true) p.count)
    (λ t. rw (t, last ∙ t))
    (λ t. rw (t, last ∙ t, marked_list p.answered i z.marks (omega arith)))

-- the end of a result: what it makes of the floor, and what it sets apart
module _ (p : Plain) (i ending : ℕ) (z : Sized p) (h : p.count ≤ 8) (l : i < p.count) where
  -- the record and what is set apart after it
  bits_after : Bool → ℕ
  bits_after done = cond done (held_after (code_at p.set i) (image (plain_bits p.floor))) (image (plain_bits p.floor))

  apart_after : Bool → ℕ
  apart_after stuck = cond stuck (bit_or (image (parts_bits p.apart)) (held_parts (code_at p.set i))) (image (parts_bits p.apart))

  ended_so : (done stuck : Bool) {f : Floor} {a : Parts} {o : PlainOutcome} → eqb ending 1 ≡ done → eqb ending 2 ≡ stuck
      → o ≡ record { station = plain_answering p i f a; answer = Taken } → f ≡ floor_of (bit (bits_after done)) → a ≡ parts_of (bit (apart_after stuck))
      → o ≡ plain_outcome (ended (packed_of p) i ending)
  unfolding ended packed_of bits_after apart_after
  ended_so done stuck {f} {a} d s e g k =
      e ∙ ap₂ (λ (x : Floor) (y : Parts). record { station = plain_answering p i x y; answer = Taken }) g k
      ∙ ap (λ (q : Plain). record { station = q; answer = Taken }) (answers p i (bits_after done) (apart_after stuck) z h l)
      ∙ ap₂ (λ (x y : Bool). plain_outcome (taken (answering (packed_of p) i (bits_after x) (apart_after y)))) (sym d) (sym s)

  -- the floor and the parts that stay
  floor_stays : p.floor ≡ floor_of (bit (image (plain_bits p.floor)))
  floor_stays = sym (ap floor_of (floor_bits p.floor) ∙ floor_back p.floor z.cells z.slots)

  apart_stays : p.apart ≡ parts_of (bit (image (parts_bits p.apart)))
  apart_stays = sym (ap parts_of (parts_bits_lem p.apart) ∙ parts_back p.apart z.apart_cells z.apart_slots)

  pub is_done : {f : Floor} {o : PlainOutcome} → ending ≡ 1 → f ≡ floor_of (bit (held_after (code_at p.set i) (image (plain_bits p.floor))))
      → o ≡ record { station = plain_answering p i f p.apart; answer = Taken } → o ≡ plain_outcome (ended (packed_of p) i ending)
  unfolding bits_after apart_after
  is_done n g e = ended_so true false (eq-eqb ending 1 n) (ne_eqb ending 2 (λ m. omega arith)) e g apart_stays

  pub is_stuck : {q a : Parts} {o : PlainOutcome} → ending ≡ 2 → q ≡ parts_at (held_area (code_at p.set i)) → a ≡ together p.apart q
      → o ≡ record { station = plain_answering p i p.floor a; answer = Taken } → o ≡ plain_outcome (ended (packed_of p) i ending)
  unfolding bits_after apart_after
  is_stuck n d k e =
      ended_so false true (ne_eqb ending 1 (λ m. omega arith)) (eq-eqb ending 2 n) e floor_stays
      (k ∙ ap (together p.apart) d ∙ sym (apart_with p.apart (code_at p.set i)))

  pub has_failed : {o : PlainOutcome} → (ending ≡ 1 → ⊥) → (ending ≡ 2 → ⊥)
      → o ≡ record { station = plain_answering p i p.floor p.apart; answer = Taken } → o ≡ plain_outcome (ended (packed_of p) i ending)
  unfolding bits_after apart_after
  has_failed n m e = ended_so false false (ne_eqb ending 1 n) (ne_eqb ending 2 m) e floor_stays apart_stays

-- ---- a car event

-- the code's tests of an event in turn
module _ (p : Plain) (e : Event) {able : Bool} (a : able ≡ possible e (plain_bits p.floor)) where
  -- what is handed back, by what they tell
  told : Bool → Bool → PlainOutcome
  told may room =
      cond may (cond room (on_floor p (driven_floor e p.floor)) (refused_plain p KeptOpen)) (refused_plain p EventImpossible)

  entered_so : (may room : Bool) → possible e (plain_bits p.floor) ≡ may → opens_with e (length (walked (plain_bits p.floor))) ≡ room
      → told may room ≡ plain_entered p e
  unfolding plain_entered told
  entered_so may room m o = ap₂ told (sym m) (sym o)

  pub impossible : {o : PlainOutcome} → not able ≡ true → o ≡ refused_plain p EventImpossible → o ≡ plain_entered p e
  unfolding told
  impossible t f = f ∙ entered_so false _ (failed a t) refl

  module _ (t : not able ≡ false) {w : Walk} {room : Bool} (v : w ≡ walk_of (walked (plain_bits p.floor))) (b : room ≡ opens_with e w.count) where
    -- the places that are open with the cars that a walk finds
    open_so : room ≡ opens_with e (length (walked (plain_bits p.floor)))
    unfolding walk_of
    open_so = b ∙ ap (λ (x : Walk). opens_with e x.count) v

    pub kept_open : {o : PlainOutcome} → not room ≡ true → o ≡ refused_plain p KeptOpen → o ≡ plain_entered p e
    unfolding told
    kept_open u f = f ∙ entered_so true false (passed a t) (failed open_so u)

    pub driven_there : {f : Floor} → not room ≡ false → f ≡ driven_floor e p.floor → on_floor p f ≡ plain_entered p e
    unfolding told
    driven_there u f = ap (on_floor p) f ∙ entered_so true true (passed a t) (passed open_so u)

-- by what its byte says
pub event_read : (p : Plain) (b : ℕ) {g : (Option Event)} → g ≡ read_event b → on_event (plain_driven p) (refused_plain p (BadField nowhere)) g ≡ plain_evented p b
unfolding plain_evented read_event
event_read p b d =
    rw d (split (eqb b 1) (λ t. rw t)
    (λ t. rw t (split (eqb b 2) (λ u. rw u)
    (λ u. rw u (split (eqb b 3) (λ v. rw v)
    (λ v. rw v (split (eqb b 4) (λ w. rw w) (λ w. rw w))))))))
