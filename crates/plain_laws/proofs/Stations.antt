-- Stations cross over to plain ones and back, before a call and after it; so a call of the plain station is that of the packed one.
-- Assumes nothing.
use mathlib.Core.Path.{◌≡◌, refl, sym, ap, subst, ◌∙◌}
use mathlib.Core.Bool.{Bool, true, false, cond, not, ◌&&◌}
use mathlib.Core.List.{List}
use Prim.Native.Nat.{ℕ, ◌^◌, ◌≤◌, ◌<◌}
use native.Mathlib.Omega.{arith}
use lib.Bits.{or_lt}
use lib.Dec.{eqb, ltb}
use lib.ListN.{length, get_or}
use lib.Pow.{pow-lt}
use borrow.Author.Tests.{eqb-true, eqb-false, not-false}
use Rattle.bits.specs.Bits.{Bits, bit, packed, image}
use Rattle.bits.specs.Search.{least}
use Rattle.bits.proofs.Cases.{split, true→T}
use Rattle.bits.proofs.Digits.{packed_lt, packed_ext, packed_all, bit_past, image_bit}
use Rattle.floor.specs.Floor.{raised_car}
use Rattle.floor.specs.Cars.{cars}
use Rattle.floor.proofs.Promises.{sound_exactly}
use Rattle.rules.specs.declared.Event.{Event}
use Rattle.rules.specs.declared.Event.TheVariants.{BeginIn, BeginOut, EndDone, EndNotDone}
use Rattle.rules.specs.declared.Code.{Code}
use Rattle.rules.specs.declared.Instruction.{Instruction}
use Rattle.std.specs.declared.option.Option.{Option}
use Rattle.std.specs.declared.option.Option.TheVariants.{Some, None}
use Rattle.rules.specs.Rules.{allowed, next_record}
use Rattle.rules.specs.Events.{in_turn, possible, places_open, filled, after_event}
use Rattle.rules.specs.Codes.{read_code, most_in_set}
use Rattle.rules.specs.Verdicts.{on_code}
use Rattle.rules.proofs.CodeLaws.{one_form_lem}
use Rattle.answers.specs.declared.Answer.{Answer}
use Rattle.answers.specs.Answers.{nowhere}
use Rattle.answers.specs.declared.Answer.TheVariants.{BadField, SetOutstanding, OutOfTurn, SetApart, EventImpossible, KeptOpen}
use Rattle.station.specs.declared.Station.{Station}
use Rattle.station.specs.declared.Outcome.{Outcome}
use Rattle.station.specs.declared.Report.{Report}
use Rattle.station.specs.Held.{code_at, held_parts, held_allowed, held_next, held_after, bad, overlaps_earlier, barred, lift_in, touches, lift_apart, crosses_drive}
use Rattle.station.specs.Station.{in_set, marked, present_issue, late, holding, opened, answering, apart_with}
use Rattle.station.specs.Calls.{refused, taken, accepted, spared, cleared, requested, occurred, driven, evented, ended, numbered, timely, resulted}
use Rattle.station.proofs.Marks.{in_set_lem}
use Rattle.station_laws.proofs.Calls.{either}
use Rattle.station_laws.proofs.Fits.{parts_small, after_result}
use Rattle.plain.specs.Plain.{listed, plain_bits, floor_of}
use Rattle.plain.specs.Walks.{walked}
use Rattle.plain.proofs.Listing.{listed_at}
use Rattle.plain_moves.specs.Moves.{driven_floor, opens_with, parts_bits, parts_of}
use Rattle.plain_station.specs.declared.Plain.{Plain}
use Rattle.plain_station.specs.declared.PlainOutcome.{PlainOutcome}
use Rattle.plain_station.specs.Plain.{packed_of, plain_of, plain_outcome, packed_outcome, plain_requested, plain_resulted, refused_plain, on_floor, plain_occurred, plain_driven, plain_evented}
use Rattle.plain_laws.specs.Promises.{SoundStation}
use Rattle.plain_laws.proofs.Walking.{walked_cars}
use Rattle.plain_laws.proofs.Crossing.{parts_at_lem, Drawn, reads_back, sound_drawn, next_drawn, after_drawn, image_shows}

-- ---- a station comes back

-- what it takes: its record and its marks do, and nothing is set apart that isn't there
pub record Crosses (s : Station) : Type 0 where
  pub drawn : Drawn (bit s.bits)
  pub bits : s.bits < 2 ^ 64
  pub marks : s.answered < 2 ^ 8
  pub apart : s.apart < 2 ^ 53

pub sound_crosses : (s : Station) → SoundStation s → Crosses s
sound_crosses s h = record { drawn = sound_drawn s.bits h.keeps; bits = h.keeps.0; marks = h.marks; apart = h.apart }

-- eight marks, and parts, come back
marks_back : (m : ℕ) → m < 2 ^ 8 → packed 8 0 (λ j. get_or (listed 8 (bit m)) j false) ≡ m
marks_back m h = packed_ext 8 0 _ (bit m) (λ j l k. listed_at 8 j (bit m) (omega arith)) ∙ packed_all 8 m h

parts_back : (a : ℕ) → a < 2 ^ 53 → image (parts_bits (parts_of (bit a))) ≡ a
unfolding parts_bits parts_of
parts_back a h = packed_ext 64 0 _ (bit a) (λ k l m. parts_at_lem (bit a) k (upper k)) ∙ image_bit a (omega arith)
  where
    upper : (k : ℕ) → 52 ≤ k → eqb k raised_car && bit a raised_car ≡ bit a k
    upper k l = split (eqb k raised_car)
        (λ t. rw t (ap (bit a) (sym (eqb-true k raised_car t))))
        (λ t. let n : k ≡ raised_car → ⊥ = eqb-false k raised_car t in rw t (sym (bit_past a 53 k h (omega arith))))

-- a plain station with another floor
module _ (s : Station) (c : Crosses s) (f : Bits) (d : Drawn f) where
  abbrev drawn_on : Plain
  drawn_on = record { floor = floor_of f; apart = (plain_of s).apart; count = s.count; answered = (plain_of s).answered; set = s.set; next = s.next }

  pub drawn_on_lem : packed_of drawn_on ≡ holding s (image f)
  unfolding packed_of plain_of
  drawn_on_lem = rw (reads_back f d, marks_back s.answered c.marks, parts_back s.apart c.apart)

pub comes_back : (s : Station) → Crosses s → packed_of (plain_of s) ≡ s
unfolding plain_of
comes_back s c = drawn_on_lem s c (bit s.bits) c.drawn ∙ ap (holding s) (image_bit s.bits c.bits)

-- so does what a call hands back
outcome_back : (o : Outcome) → Crosses o.station → packed_outcome (plain_outcome o) ≡ o
outcome_back o c = ap (λ (s : Station). record { station = s; answer = o.answer }) (comes_back o.station c)

-- ---- every call leaves one that does

abbrev Left : Outcome → Type 0
Left o = Crosses o.station

module _ (s : Station) (c : Crosses s) where
  opened_crosses : (n : ℕ) (set : List ℕ) → Crosses (opened s n set)
  opened_crosses n set = record { drawn = c.drawn; bits = c.bits; marks = omega arith; apart = c.apart }

  requested_left : (n : ℕ) (set : List ℕ) → Left (requested s n set)
  unfolding requested cleared spared accepted
  requested_left n set =
      either Left (ltb 0 s.count) (λ t. c)
      (λ t. either Left (ltb most_in_set n) (λ t. c)
      (λ t. either Left (eqb n 0) (λ t. c)
      (λ t. either Left (ltb (least n (bad set)) n) (λ t. c)
      (λ t. either Left (crosses_drive s.bits set n) (λ t. c)
      (λ t. either Left (ltb (least n (touches set s.apart)) n) (λ t. c)
      (λ t. either Left (ltb (least n (overlaps_earlier set)) n) (λ t. c)
      (λ t. either Left (ltb (least n (barred set s.bits)) n) (λ t. c)
      (λ t. opened_crosses n set))))))))

  -- the record after a success
  held_drawn : (x : Code) → held_allowed x (bit s.bits) ≡ true → Drawn (held_next x (bit s.bits))
  unfolding held_allowed held_next
  held_drawn x = read (read_code x) refl
    where
      read : (g : (Option Instruction)) → read_code x ≡ g → on_code (λ i. allowed i (bit s.bits)) false g ≡ true → Drawn (on_code (λ i. next_record i (bit s.bits)) (bit s.bits) g)
      read (Some i) e a = next_drawn (bit s.bits) c.drawn i (true→T (one_form_lem x i e).1)
      read None e a = c.drawn

  after_crosses : (x : Code) → Drawn (bit (held_after x s.bits)) × (held_after x s.bits < 2 ^ 64)
  unfolding held_after
  after_crosses x = split (held_allowed x (bit s.bits))
      (λ t. rw t (subst Drawn (sym (image_shows _ (held_drawn x t))) (held_drawn x t), packed_lt 64 0 _))
      (λ t. rw t (c.drawn, c.bits))

  answering_crosses : (i r apart : ℕ) → i < 8 → Drawn (bit r) → r < 2 ^ 64 → apart < 2 ^ 53 → Crosses (answering s i r apart)
  answering_crosses i r apart h d b a = after_result Crosses s i r apart
      (λ t. record { drawn = d; bits = b; marks = omega arith; apart = a })
      (λ t. record { drawn = d; bits = b; marks = or_lt 8 s.answered (2 ^ i) c.marks (pow-lt h); apart = a })

  ended_left : (i ending : ℕ) → i < 8 → Left (ended s i ending)
  unfolding ended
  ended_left i ending h =
      let (d, b) = record_left in answering_crosses i _ _ h d b apart_left
    where
      record_left : Drawn (bit (cond (eqb ending 1) (held_after (code_at s.set i) s.bits) s.bits)) × (cond (eqb ending 1) (held_after (code_at s.set i) s.bits) s.bits < 2 ^ 64)
      record_left = split (eqb ending 1) (λ t. rw t (after_crosses (code_at s.set i))) (λ t. rw t (c.drawn, c.bits))

      apart_left : cond (eqb ending 2) (apart_with s i) s.apart < 2 ^ 53
      apart_left = split (eqb ending 2)
          (λ t. rw t (or_lt 53 s.apart (held_parts (code_at s.set i)) c.apart (parts_small (code_at s.set i))))
          (λ t. rw t c.apart)

  resulted_left : (r : Report) → Left (resulted s r)
  unfolding resulted timely numbered
  resulted_left r =
      either Left (ltb 2 r.ending) (λ t. c)
      (λ t. either Left (eqb s.count 0) (λ t. c)
      (λ t. either Left (late s r.issue) (λ t. c)
      (λ t. either Left (eqb r.issue (present_issue s))
      (λ t. either Left (not (in_set s r.number)) (λ t. c)
      (λ t. either Left (marked s r.number) (λ t. c)
      (λ u. let (a, b) = in_set_lem s r.number (not-false _ t) in ended_left r.number r.ending (omega arith))))
      (λ t. c))))

  -- ---- so the two stations say the same

  pub same_set : (n : ℕ) (set : List ℕ) → packed_outcome (plain_requested (plain_of s) n set) ≡ requested s n set
  same_set n set = rw (comes_back s c) (outcome_back (requested s n set) (requested_left n set))

  pub same_result : (r : Report) → packed_outcome (plain_resulted (plain_of s) r) ≡ resulted s r
  same_result r = rw (comes_back s c) (outcome_back (resulted s r) (resulted_left r))

-- ---- a car event, which counts cars by walking

abbrev cars_walked : Bits → ℕ
cars_walked f = length (walked f)

opens_same : (e : Event) (f : Bits) → cars_walked f ≡ cars f → opens_with e (cars_walked f) ≡ places_open e f
unfolding places_open
opens_same BeginIn f h = ap (λ (n : ℕ). ltb n filled) h
opens_same BeginOut f h = refl
opens_same EndDone f h = refl
opens_same EndNotDone f h = refl

-- a plain outcome stands for an outcome; tests that agree lead to outcomes that do
record Stands (x : PlainOutcome) (o : Outcome) : Type 0 where
  is : packed_outcome x ≡ o

both_ways : {t u : Bool} {x y : PlainOutcome} {o p : Outcome} → t ≡ u → Stands x o → Stands y p → Stands (cond t x y) (cond u o p)
both_ways {t} {u} {x} {y} {o} {p} e a b = record { is = ap (λ (v : Bool). packed_outcome (cond v x y)) e ∙ go u }
  where
    go : (v : Bool) → packed_outcome (cond v x y) ≡ cond v o p
    go true = a.is
    go false = b.is

module _ (s : Station) (h : SoundStation s) where
  c : Crosses s
  c = sound_crosses s h

  abbrev f : Bits
  f = bit s.bits

  shows : plain_bits (plain_of s).floor ≡ f
  unfolding plain_of
  shows = reads_back f c.drawn

  apart_same : (plain_of s).apart.lift ≡ lift_apart s.apart
  unfolding plain_of parts_of
  apart_same = refl

  -- the station as it was
  kept : (a : Answer) → Stands (refused_plain (plain_of s) a) (refused s a)
  kept a = record { is = ap (λ (s : Station). refused s a) (comes_back s c) }

  -- the floor after the event
  drove : (e : Event) → Stands (on_floor (plain_of s) (driven_floor e (plain_of s).floor)) (taken (holding s (image (after_event e f))))
  unfolding driven_floor plain_of
  drove e = rw (reads_back f c.drawn) (record { is = ap taken (drawn_on_lem s c (after_event e f) (after_drawn f c.drawn e)) })

  same_occurred : (e : Event) → Stands (plain_occurred (plain_of s) e) (occurred s e)
  unfolding plain_occurred occurred
  same_occurred e =
      both_ways (ap (in_turn e) shows)
      (both_ways apart_same (kept (SetApart nowhere))
      (both_ways (ap (possible e) shows)
      (both_ways (ap (λ (g : Bits). opens_with e (cars_walked g)) shows ∙ opens_same e f (walked_cars f ((sound_exactly s.bits).0 h.keeps.1)))
      (drove e) (kept KeptOpen))
      (kept EventImpossible)))
      (kept OutOfTurn)

  same_driven : (e : Event) → Stands (plain_driven (plain_of s) e) (driven s e)
  unfolding plain_driven driven plain_of
  same_driven e = both_ways {t = lift_in s.set s.count} refl (kept SetOutstanding) (same_occurred e)

  pub same_event : (e : ℕ) → packed_outcome (plain_evented (plain_of s) e) ≡ evented s e
  unfolding plain_evented evented
  same_event e =
      (both_ways {t = eqb e 1} refl (same_driven BeginIn)
      (both_ways {t = eqb e 2} refl (same_driven BeginOut)
      (both_ways {t = eqb e 3} refl (same_driven EndDone)
      (both_ways {t = eqb e 4} refl (same_driven EndNotDone) (kept (BadField nowhere)))))).is
