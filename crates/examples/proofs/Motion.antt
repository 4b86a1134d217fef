-- The worked example is right: computations over the definitions. Assumes nothing.
use mathlib.Core.Path.{◌≡◌, refl, ap, ap₂, ◌∙◌}
use mathlib.Core.Bool.{false, not}
use mathlib.Core.List.{List, [], ◌∷◌, ◌++◌}
use Prim.Native.Nat.{ℕ, zero, suc, ◌<◌}
use native.Mathlib.Omega.{arith}
use lib.Dec.{lit<}
use lib.ListN.{replicate}
use Rattle.bits.specs.Bits.{packed}
use Rattle.bits.specs.Search.{some, every, least}
use Rattle.bits.proofs.Digits.{bit_none}
use Rattle.floor.specs.Cars.{cars}
use Rattle.floor.specs.Sound.{paired, sound, total}
use Rattle.rules.specs.declared.Code.{Code}
use Rattle.rules.specs.Rules.{allowed, next_record}
use Rattle.rules.specs.Events.{in_turn, possible, places_open, after_event}
use Rattle.rules.specs.Codes.{code_of, read_code}
use Rattle.rules.specs.Verdicts.{verdict_of, code_verdict}
use Rattle.station.specs.declared.Station.{Station}
use Rattle.station.specs.Held.{code_at, is_good, held_area, held_allowed, held_next, held_after, held_parts, parts_in}
use Rattle.station.specs.Held.{touches, overlaps_earlier, lift_in, crosses_drive}
use Rattle.station.specs.Station.{start_of, marked, fit, answering}
use Rattle.station.specs.Calls.{accepted, spared, cleared, requested, request, occurred, driven, evented, event}
use Rattle.station.specs.Calls.{ended, numbered, timely, resulted, result}
use Rattle.station_laws.specs.Runs.{calls, at_start}
use Rattle.station_laws.specs.Jams.{stuck, has}
use Rattle.station_laws.specs.Motion.{Moving, moved_on, in_fact, AllWaiting, as_it_happened}
use Rattle.examples.specs.Motion.{going_on, all_three, only_two, WorkedExample}

-- the station after the calls
abbrev there : Station
there = record {
  bits = 0x00191B0000000000;
  count = 2;
  answered = 0;
  set = (4 ∷ 2 ∷ 0 ∷ 0 ∷ 0 ∷ 3 ∷ 1 ∷ 3 ∷ 1 ∷ 0 ∷ []) ++ replicate 30 0;
  next = 2;
  apart = 0x0001040040000000;
}

-- the left shuttle of row 3, to be lowered
abbrev jam : List Code
jam = record { op = 3; a = 0; b = 3; c = 1; d = 0 } ∷ []

-- the calls come to that station, with that stuck; and what instructions and results make of it
computed :
    (calls start_of going_on ≡ there)
    × (stuck start_of going_on ≡ jam)
    × (moved_on there.set jam all_three there.bits ≡ 0x00403F0000001800)
    × (moved_on there.set jam only_two there.bits ≡ 0x00103F0000000000)
    × ((calls there (as_it_happened 1 all_three (1 ∷ 0 ∷ []))).bits ≡ 0x00413B0000001800)
unfolding cars paired sound total packed some every least code_of read_code allowed next_record verdict_of code_verdict
    in_turn possible places_open after_event
    code_at is_good held_area held_allowed held_next held_after held_parts parts_in touches overlaps_earlier lift_in crosses_drive fit answering
    accepted spared cleared requested request occurred driven evented event ended numbered timely resulted result
computed = (refl, refl, refl, refl, refl)

-- ---- the claim

unmarked : (i : ℕ) → marked (calls start_of going_on) i ≡ false
unmarked i = rw computed.0 (bit_none i)

waiting : AllWaiting (calls start_of going_on) (1 ∷ 0 ∷ [])
waiting = rw computed.0 (record { once = (lit< tt, refl, (lit< tt, refl, tt)); all = all })
  where
    all : (i : ℕ) → i < 2 → has (1 ∷ 0 ∷ []) i ≡ not (marked there i)
    all zero h = refl
    all (suc zero) h = refl
    all (suc (suc i)) h = absurd (omega arith)

-- the floor in fact, on the station as it is
in_fact_lem : (p : List Moving) → in_fact start_of going_on p ≡ moved_on there.set jam p there.bits
in_fact_lem p = ap₂ (λ (t : Station) (js : List Code). moved_on t.set js p t.bits) computed.0 computed.1

pub worked_example : WorkedExample
worked_example = record {
  begins = at_start;
  three = record {
    from_set = rw computed.0 (lit< tt, refl, (lit< tt, refl, tt));
    waiting = λ i e. unmarked i;
    from_stuck = rw computed.1 (lit< tt, refl, tt);
  };
  two = record {
    from_set = rw computed.0 (lit< tt, refl, tt);
    waiting = λ i e. unmarked i;
    from_stuck = rw computed.1 (lit< tt, refl, tt);
  };
  noted = ap (λ (t : Station). t.bits) computed.0;
  three_in_fact = in_fact_lem all_three ∙ computed.2;
  two_in_fact = in_fact_lem only_two ∙ computed.3;
  last_first = waiting;
  three_heard = ap (λ (t : Station). (calls t (as_it_happened 1 all_three (1 ∷ 0 ∷ []))).bits) computed.0 ∙ computed.4;
}
