-- The promises of specs/Promises.antt kept: what the two engines say of one record, and each law of another file. Assumes nothing.
use mathlib.Core.Path.{◌≡◌, refl, ap, ◌∙◌}
use mathlib.Core.Bool.{true, cond}
use Prim.Native.Nat.{ℕ}
use Rattle.bits.specs.Bits.{Bits, bit, image}
use Rattle.bits.proofs.Cases.{both, true→T}
use Rattle.bits.proofs.Digits.{image_bit}
use Rattle.std.specs.declared.option.Option.TheVariants.{Some}
use Rattle.floor.specs.Tests.{all_hold}
use Rattle.floor.specs.Sound.{total}
use Rattle.floor.proofs.Promises.{sound_exactly}
use Rattle.rules.specs.declared.Instruction.{Instruction}
use Rattle.rules.specs.declared.Refusal.{Refusal}
use Rattle.std.specs.declared.result.Result.TheVariants.{Ok, Err}
use Rattle.rules.specs.Rules.{well_formed, clauses, conditions, allowed, next_record}
use Rattle.rules.specs.Verdicts.{Verdict, judged, verdict_of, moved_by, moved_of}
use Rattle.rules.proofs.Reasons.{allowed_exactly}
use Rattle.station_laws.proofs.Fits.{fit_has}
use Rattle.plain.specs.Plain.{plain_bits, floor_of}
use Rattle.plain.specs.Conditions.{verdict_on}
use Rattle.plain.specs.Walks.{walked, walk_of}
use Rattle.plain_moves.specs.Moves.{moved_floor}
use Rattle.plain_laws.specs.Promises.{SoundRecord, FloorReadsBack, FitIsSound, StationComesBack, plain_verdict, plain_moved, plain_total, SameAsPacked, CarsWalked, WalkRises}
use Rattle.plain_laws.proofs.Walking.{walked_layout, walked_cars, walked_rises}
use Rattle.plain_laws.proofs.Crossing.{reads_back, sound_drawn, next_drawn}
use Rattle.plain_laws.proofs.Overlaps.{same_areas}
use Rattle.plain_laws.proofs.Stations.{sound_crosses, comes_back, same_set, same_result, same_event}

pub cars_walked : CarsWalked
cars_walked f S = walked_layout f S

pub walk_rises : WalkRises
walk_rises f = walked_rises f

pub fit_is_sound : FitIsSound
fit_is_sound s b m f = let F = fit_has s f in record { keeps = (b, F.sound); marks = m; apart = F.within }

pub station_comes_back : StationComesBack
station_comes_back s h = comes_back s (sound_crosses s h)

-- ---- one record

module _ (r : ℕ) (s : SoundRecord r) where
  -- its floor shows its bits
  shows : plain_bits (floor_of (bit r)) ≡ bit r
  shows = reads_back (bit r) (sound_drawn r s)

  verdict_shown : (i : Instruction) → verdict_on i (plain_bits (floor_of (bit r))) ≡ verdict_of i r
  unfolding verdict_on verdict_of
  verdict_shown i = ap (λ (f : Bits). cond (well_formed i) (judged (clauses i) f) (Err Refusal.IllFormed)) shows

  same_verdict_lem : (i : Instruction) → plain_verdict i r ≡ verdict_of i r
  same_verdict_lem i = verdict_shown i

  -- the floor after an instruction shows the bits after it
  shows_next : (i : Instruction) → allowed i (bit r) ≡ true → plain_bits (moved_floor i (floor_of (bit r))) ≡ next_record i (bit r)
  unfolding moved_floor allowed
  shows_next i a =
      let w = (both (well_formed i) (all_hold (conditions i) (bit r)) a).0 in
      rw (shows, a) (reads_back (next_record i (bit r)) (next_drawn (bit r) (sound_drawn r s) i (true→T w)))

  -- where it is allowed, the record after it
  next_shown : (i : Instruction) (v : Verdict) → verdict_of i r ≡ v → moved_by v (image (plain_bits (moved_floor i (floor_of (bit r))))) ≡ moved_by v (image (next_record i (bit r)))
  next_shown i (Ok done) e = ap (λ (g : Bits). Ok (image g)) (shows_next i ((allowed_exactly i r).0 e))
  next_shown i (Err (Refusal.NotAllowed why)) e = refl
  next_shown i (Err Refusal.IllFormed) e = refl

  same_next : (i : Instruction) → plain_moved i r ≡ moved_of i r
  unfolding moved_of
  same_next i =
      ap (λ (v : Verdict). moved_by v (image (plain_bits (moved_floor i (floor_of (bit r)))))) (verdict_shown i)
      ∙ next_shown i (verdict_of i r) refl

  cars_shown : Some (walk_of (walked (plain_bits (floor_of (bit r))))).count ≡ total r
  unfolding walk_of total
  cars_shown = rw (shows, s.1) (ap Some (walked_cars (bit r) ((sound_exactly r).0 s.1)))

  same_cars : plain_total r ≡ total r
  same_cars = cars_shown

pub floor_reads_back : FloorReadsBack
floor_reads_back r s = ap image (shows r s) ∙ image_bit r s.0

pub same_as_packed : SameAsPacked
same_as_packed = record {
  verdict = λ i r s. let sound : SoundRecord r = s in same_verdict_lem r sound i;
  next = λ i r s. same_next r s i;
  areas = same_areas;
  cars = same_cars;
  set = λ s n l h. same_set s (sound_crosses s h) n l;
  result = λ s r h. same_result s (sound_crosses s h) r;
  event = λ s e h. same_event s h e;
}
