-- The station shows the machine of the crate `sets`: what a station holds is a machine's station (`view`), and each call that is taken is
-- the machine's. A fit station is in good order, and so is what a call leaves of it. Assumes nothing.
use mathlib.Core.Path.{◌≡◌, refl, sym, ap, subst, fun_ext, ◌∙◌}
use mathlib.Core.Bool.{Bool, true, false, not, cond, ◌&&◌}
use mathlib.Core.List.{List, [], ◌∷◌, ◌++◌}
use Prim.Native.Nat.{ℕ, zero, suc, ◌+◌, ◌*◌, ◌-◌, ◌<◌}
use native.Mathlib.Omega.{arith}
use lib.ListN.{length, take, replicate}
use lib.Dec.{eqb}
use borrow.Author.Tests.{lt-ltb, eqb-true, ne_eqb, not-true}
use Rattle.bits.specs.Bits.{bit}
use Rattle.bits.specs.Search.{some}
use Rattle.bits.proofs.Cases.{split}
use Rattle.bits.proofs.Search.{every_at, every_is, none_at, some_same}
use Rattle.floor.specs.Floor.{lift, drives as drivePlaces}
use Rattle.floor.specs.Sound.{sound}
use Rattle.rules.specs.declared.Code.{Code}
use Rattle.rules.specs.Codes.{read_event}
use Rattle.bits.proofs.Sharing.{share_some}
use Rattle.any_order.proofs.Machine as machine
use Rattle.any_order.proofs.Machine.{Batch, Outcome, failed, finished, stuck, moves, sticks, result, event, request, act, image, mark, outstanding, blocks, blocked, accepted, released, empty, idle, takes, does}
use Rattle.any_order.proofs.GoodOrder.{Good}
use Rattle.any_order.proofs.Jams.{before, more, jam}
use Rattle.any_order.proofs.Facts.{apart_is, is_accepted}
use Rattle.any_order.proofs.Marks.{marks, unmarked}
use Rattle.any_order.proofs.KeptGood.{call_good}
use Rattle.station.specs.declared.Station.{Station}
use Rattle.station.specs.Held.{code_at, overlaps_earlier, lift_in, touches, lift_apart}
use Rattle.station.specs.Station.{fit, marked, closed, seeing, opened, answering, apart_with}
use Rattle.station_laws.specs.Runs as run
use Rattle.station_laws.specs.Runs.{Call, answer_number}
use Rattle.station_laws.specs.Jams.{jammed, jam_at}
use Rattle.station_laws.specs.AnswersRight.{Acceptable, Waiting}
use Rattle.station_laws.proofs.Reach.{reach, reach_small, reach_apart, reach_lift, crosses_none, clear_is}
use Rattle.station_laws.proofs.Instance.{rules, seen_of, cars_in, framed, blank, possible_as, open_as, allowed_has}
use Rattle.station.proofs.Padding.{five_at, zeros_at, kept_code}
use Rattle.station_laws.proofs.Fits.{Ready, fit_has, some_every, marks_with, after_result, waits_allowed}
use Rattle.station_laws.proofs.Apart.{away_of, stuck_away, meets_touched, lost_lift, none_away}
use Rattle.station_laws.proofs.Calls.{following, stuck_is}
use Rattle.station_laws.proofs.Steps.{Step, refuses, opens, fails, succeeds, sticks as sticking, drives, tells}

-- ---- what a station holds

-- so many instructions, by their bytes
abbrev pub batch_of : ℕ → List ℕ → Batch Code
batch_of n set = record { size = n; at = code_at set }

-- a station as the machine's
abbrev pub view : Station → machine.Station ℕ Code
view s = record { bits = s.bits; set = batch_of s.count s.set; answered = bit s.answered; away = away_of s.apart }

-- ---- areas that share a place meet

pub blocks_lift : (n : ℕ) (set : List ℕ) → blocks rules (batch_of n set) ≡ lift_in set n
unfolding lift_in
blocks_lift n set = some_same n _ _ (λ j h. let x = code_at set j in sym (share_some (reach x) (lift ++ drivePlaces) (reach_small x)) ∙ reach_lift x)

-- ---- a request

module _ (s : Station) (n : ℕ) (set : List ℕ) (A : Acceptable s n set) where
  -- the set as it is kept
  abbrev pub kept : Batch Code
  kept = batch_of n (take (5 * n) set ++ replicate (40 - 5 * n) 0)

  same : (i : ℕ) → i < n → code_at (take (5 * n) set ++ replicate (40 - 5 * n) 0) i ≡ code_at set i
  same = kept_code n (40 - 5 * n) set

  free : (j : ℕ) → j < n → machine.meets rules (rules.area (kept.at j)) (away_of s.apart) ≡ false
  unfolding touches
  free j h = ap (λ (x : Code). machine.meets rules (rules.area x) (away_of s.apart)) (same j h) ∙ meets_touched (code_at set j) s.apart ∙ A.orderly.spared j h

  pub request_accepted : accepted rules kept s.bits (away_of s.apart) ≡ true
  request_accepted = is_accepted rules kept s.bits (away_of s.apart) A.orderly.readable.some A.orderly.readable.few free
      (λ i h j l. rw (same i h, same j (omega arith))
      (let x = code_at set i in let y = code_at set j in sym (share_some (reach x) (reach y) (reach_small x)) ∙ reach_apart x y
      (A.orderly.apart i j h l)))
      (λ i h. rw (same i h) (rw (A.allowed i h, crosses_none s.bits set n (clear_is s.bits set n A.orderly.clear) i h)))

  pub request_view : view (opened s n set) ≡ machine.opened kept s.bits (away_of s.apart)
  request_view = ap (λ (g : ℕ → Bool). record { bits = s.bits; set = kept; answered = g; away = away_of s.apart }) unmarked

-- ---- a result

-- no instruction is kept in zeros
no_code : (m : ℕ) → code_at (replicate m 0) ≡ (λ j. blank)
no_code m = fun_ext (λ i. rw (five_at (replicate m 0) i, zeros_at m (5 * i), zeros_at m (5 * i + 1), zeros_at m (5 * i + 2), zeros_at m (5 * i + 3), zeros_at m (5 * i + 4)))

closed_view : (r next apart : ℕ) → view (closed r next apart) ≡ idle rules r (away_of apart)
closed_view r next apart = λ i. record { bits = r; set = record { size = 0; at = no_code 40 i }; answered = unmarked i; away = away_of apart }

module _ (s : Station) (i r apart : ℕ) where
  -- the station with the record r, these marks, and this set apart
  abbrev with_marks : (ℕ → Bool) → machine.Station ℕ Code
  with_marks g = record { bits = r; set = batch_of s.count s.set; answered = g; away = away_of apart }

  answering_view : view (answering s i r apart) ≡ released rules (with_marks (mark i (bit s.answered)))
  answering_view = after_result (λ t. view t ≡ released rules (with_marks (bit (marks_with s i)))) s i r apart
      (λ t. rw (some_every s.count (bit (marks_with s i)), t) (closed_view r s.next apart))
      (λ t. rw (some_every s.count (bit (marks_with s i)), t))
      ∙ ap (λ (g : ℕ → Bool). released rules (with_marks g)) (marks s.answered i)

-- the record after a result, and what is set apart
abbrev pub resulting : Station → ℕ → Outcome → ℕ
resulting s i o = cond (moves o) (following s i) s.bits

abbrev pub parting : Station → ℕ → Outcome → ℕ
parting s i o = cond (sticks o) (apart_with s i) s.apart

-- the station after it
abbrev pub resulted : Station → ℕ → Outcome → Station
resulted s i o = answering s i (resulting s i o) (parting s i o)

result_taken : (s : Station) (i : ℕ) (o : Outcome) → Waiting s i → machine.taken rules (view s) (result i o) ≡ true
result_taken s i o w = rw (lt-ltb i s.count w.1, w.2)

-- a stuck one sets its reach apart
stuck_noted : (s : Station) (i : ℕ) → with_marks s i s.bits (apart_with s i) (mark i (bit s.answered)) ≡ machine.noted rules (view s) i stuck
stuck_noted s i =
    ap (λ (g : ℕ → Bool). record { bits = s.bits; set = batch_of s.count s.set; answered = mark i (bit s.answered); away = g })
    (fun_ext (stuck_away (code_at s.set i) s.apart))

noted_view : (s : Station) (i : ℕ) (o : Outcome) → view (resulted s i o) ≡ machine.done rules (view s) (result i o)
noted_view s i failed = answering_view s i s.bits s.apart
noted_view s i finished = answering_view s i (following s i) s.apart
noted_view s i stuck = answering_view s i s.bits (apart_with s i) ∙ ap (released rules) (stuck_noted s i)

pub result_view : (s : Station) (i : ℕ) (o : Outcome) → Waiting s i → view (resulted s i o) ≡ machine.step rules (view s) (result i o)
result_view s i o w = rw (result_taken s i o w) (noted_view s i o)

-- ---- a car event

-- where a fit station answers 6
pub blocked_lift : (s : Station) → fit s ≡ true → blocked rules (view s) ≡ lift_in s.set s.count
unfolding some lift_in
blocked_lift s f = split (eqb s.count 0)
    (λ t. rw (eqb-true s.count 0 t))
    (λ t. let o : outstanding (view s) ≡ true = rw t at (fit_has s f).owed in rw o (blocks_lift s.count s.set))

-- a fit station takes what the machine takes
pub drivable : (s : Station) → fit s ≡ true → (e : ℕ) → machine.taken rules (view s) (event e) ≡ not (lift_in s.set s.count) &&
    (not (lift_apart s.apart) && (possible_as (read_event e) s.bits && open_as (read_event e) s.bits))
drivable s f e = rw (blocked_lift s f, lost_lift s.apart)

-- ---- in good order

-- stuck instructions as the machine's
abbrev pub jams_of : List Code → Batch Code
jams_of js = record { size = length js; at = jam_at js }

-- in good order, with these stuck
abbrev pub Sane : List Code → Station → Type 0
Sane js s = Good rules (jams_of js) (view s)

-- one more
more_jams : (x : Code) (js : List Code) → more (jams_of js) x ≡ jams_of (x ∷ js)
more_jams x js = ap (λ (g : ℕ → Code). record { size = suc (length js); at = g }) (fun_ext at)
  where
    at : (j : ℕ) → before x (jam_at js) j ≡ jam_at (x ∷ js) j
    at zero = refl
    at (suc j) = refl

module _ (s : Station) (f : fit s ≡ true) where
  -- no two overlap
  fit_apart : machine.apart rules (view s).set ≡ true
  unfolding overlaps_earlier
  fit_apart = every_is s.count _ (λ i h. every_is i _ (λ j l. ap not (beside i j h l)))
    where
      beside : (i j : ℕ) → i < s.count → j < i → machine.meets rules (rules.area (code_at s.set i)) (rules.area (code_at s.set j)) ≡ false
      beside i j h l =
          let x = code_at s.set i in
          let y = code_at s.set j in
          sym (share_some (reach x) (reach y) (reach_small x))
          ∙ reach_apart x y (none_at i _ (not-true _ (every_at s.count _ (fit_has s f).apart i h)) j l)

  -- with nothing stuck that is known of
  pub fit_sane : Sane [] s
  fit_sane = record {
    sound = (fit_has s f).sound;
    apart = apart_is rules (view s).set fit_apart;
    allowed = λ j w. rw (waits_allowed s j (f, w.0, w.1), crosses_none s.bits s.set s.count (fit_has s f).clear j w.0);
    jammed = record { apart = λ i j h. absurd (omega arith); allowed = λ j h. absurd (omega arith) };
    inside = λ i h. absurd (omega arith);
    free = λ j w i h. absurd (omega arith);
  }

-- in good order, each unanswered instruction is allowed
sane_ready : (js : List Code) (s : Station) → Sane js s → Ready s
sane_ready js s G = every_is s.count _ (λ i h. split (marked s i) (λ m. rw m) (λ m. rw (m, (allowed_has (code_at s.set i) s.bits (G.allowed i (h, m))).0)))

module _ (js : List Code) (s : Station) (G : Sane js s) where
  -- what the machine takes leaves it so
  takes_good : (c : machine.Call ℕ Code ℕ) → takes rules (view s) c ≡ true → Good rules (jam rules (view s) c (jams_of js)) (does rules (view s) c)
  takes_good c t = subst (λ (b : Bool). Good rules (cond b (jam rules (view s) c (jams_of js)) (jams_of js))
      (cond b (does rules (view s) c) (view s))) t (call_good rules seen_of cars_in framed (view s) G c)

  -- a call that is not stuck keeps what is
  same_jams : (b : Bool) → cond b js js ≡ js
  same_jams true = refl
  same_jams false = refl

  result_good : (i : ℕ) (o : Outcome) → Waiting s i → Good rules (cond (sticks o) (more (jams_of js) (code_at s.set i)) (jams_of js)) (view (resulted s i o))
  result_good i o w = rw (noted_view s i o) (takes_good (act (result i o)) (result_taken s i o w))

  pub good_step : (t : Station) (c : Call) → Step s c t → Sane (jammed s c js) t
  unfolding some
  good_step t c (refuses n) = rw (ne_eqb (answer_number s c) 0 n) G
  good_step t c (opens {n} {set} A) =
      rw (same_jams (eqb (answer_number s (run.request n set)) 0), request_view s n set A)
      (takes_good (request (kept s n set A)) (rw A.orderly.readable.idle (request_accepted s n set A)))
  good_step t c (fails {i} {k} w) = rw (same_jams (eqb (answer_number s (run.result_call k i 0)) 0)) (result_good i failed w)
  good_step t c (succeeds {i} {k} p w a) = rw (same_jams (eqb (answer_number s (run.result_call k i 1)) 0)) (result_good i finished w)
  good_step t c (sticking {i} {k} p w) =
      let z : answer_number s (run.result_call k i 2) ≡ 0 = rw (stuck_is s k i p w) in
      rw (z, ← more_jams (code_at s.set i) js) (result_good i stuck w)
  good_step t c (drives {e} d) =
      rw (same_jams (eqb (answer_number s (run.event e)) 0)) (takes_good (act (event e)) (drivable s d.0 e ∙ rw (d.1, d.2, d.3, d.4)))
  good_step t c tells = rw (same_jams (eqb (answer_number s run.ask) 0)) G

  -- an image that is taken leaves none stuck
  pub image_good : (r : ℕ) → s.count ≡ 0 → sound r ≡ true → Sane [] (seeing s r)
  unfolding some
  image_good r e z = rw none_away (takes_good (image r) (rw (e, z)))

-- so after each call on a fit station what still waits is allowed
pub ready_step : (s t : Station) (c : Call) → Step s c t → fit s ≡ true → Ready t
ready_step s t c p f = sane_ready (jammed s c []) t (good_step [] s (fit_sane s f) t c p)
