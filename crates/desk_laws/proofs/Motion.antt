-- However far the instructions are: where a car is that is told for sure, and where one is that is told as moving. Assumes nothing.
use mathlib.Core.Path.{◌≡◌, refl, sym, ap, subst, ◌∙◌}
use mathlib.Core.Logic.{⊎_elim}
use mathlib.Core.Bool.{Bool, true, false, not, ◌&&◌}
use mathlib.Core.List.{List}
use Prim.Native.Nat.{ℕ, suc, ◌<◌}
use native.Mathlib.Omega.{arith}
use lib.Dec.{ltb}
use lib.ListN.{length}
use borrow.Author.Tests.{ltb-true, ltb-false, lt-ltb, not-true}
use Rattle.bits.specs.Bits.{bit}
use Rattle.bits.specs.Places.{elem}
use Rattle.bits.proofs.Cases.{split, clash, off, neither, both, one_of}
use Rattle.bits.proofs.Least.{found_least, least_below}
use Rattle.bits.proofs.Sharing.{share_is}
use Rattle.floor.specs.Floor.{raised_car, drive_in, lift}
use Rattle.floor.specs.Cars.{Car, pair, single, raised, Layout}
use Rattle.floor.specs.Sound.{Sound, sound}
use Rattle.floor.proofs.Promises.{sound_exactly}
use Rattle.cars.specs.Lists.{anchor, Among}
use Rattle.rules.specs.declared.Code.{Code}
use Rattle.any_order.proofs.Facts.{clear_turned}
use Rattle.station.specs.declared.Station.{Station}
use Rattle.station.specs.Held.{code_at, held_area, held_allowed, parts_in}
use Rattle.station.specs.Station.{marked}
use Rattle.station.proofs.Areas.{held_small}
use Rattle.station_laws.specs.Runs as run
use Rattle.station_laws.specs.Jams.{jam_at}
use Rattle.station_laws.specs.Motion as run-motion
use Rattle.station_laws.specs.Motion.{of_set, of_stuck, set_numbers, stuck_numbers, is_among}
use Rattle.station_laws.proofs.Fits.{fit_has}
use Rattle.station_laws.proofs.Reach.{in_area_lem, in_drives, outside_area, drive_outside}
use Rattle.station_laws.proofs.Instance.{rules, allowed_has}
use Rattle.station_laws.proofs.Link.{Sane}
use Rattle.station_laws.proofs.MotionFloor.{once_each, picked}
use Rattle.station_laws.proofs.RecoveryApart.{apart_exactly}
use Rattle.std.specs.declared.result.Result.TheVariants.{Ok}
use Rattle.cards.specs.Given.{bears}
use Rattle.cards.specs.Following.{no_source}
use Rattle.cards.specs.Held.{numbers_in, code_cards, cards_fit, is_known, where_is}
use Rattle.cards_laws.proofs.Anchors.{Marked, bears_car, stands}
use Rattle.cards_laws.proofs.Tested.{fit_marked, known_exactly}
use Rattle.desk.specs.declared.Desk.{Desk}
use Rattle.desk.specs.Questions.{is_under, mover_of, place_after}
use Rattle.desk_laws.specs.Runs as desk
use Rattle.desk_laws.specs.Runs.{DeskCall, calls_desk, DeskBegins, at_start, by_image, below, stuck_at}
use Rattle.desk_laws.specs.Promises.{on_parts}
use Rattle.desk_laws.specs.Motion.{cards_in_fact, UnheardAt, WhereSure, WhereMoving, ApartOrMoving}
use Rattle.desk_laws.proofs.Calls.{fit_parts, answered, left_taken}
use Rattle.desk_laws.proofs.Fits.{station_below}
use Rattle.desk_laws.proofs.Told.{whereabouts_fit, known_in}
use Rattle.desk_laws.proofs.Carrying.{code_outside, code_known}
use Rattle.desk_laws.proofs.Jams.{fits_now, sane_now}
use Rattle.desk_laws.proofs.Finished.{placed_sure, placed_moving, stands_there, place_card, place_found, code, cards_out, cards_in, held_torn, torn_at}

-- ---- on a desk that was reached

station_begins : (d : Desk) → DeskBegins d → run.Begins d.station
station_begins d at_start = run.at_start
station_begins d (by_image before p n ns h e) = subst run.Begins (sym (ap (λ (b : Desk). b.station) (left_taken before (desk.pictures p n ns) e)))
    (run.by_image before.station p.bits p.apart h ((answered before (desk.pictures p n ns) (Ok tt)).0 e).0.1)

module _ (d : Desk) (b : DeskBegins d) (l : List DeskCall) where
  abbrev now : Desk
  now = calls_desk d l

  abbrev t : Station
  t = now.station

  abbrev jams : List Code
  jams = stuck_at d l

  G : Sane jams t
  G = sane_now d b l

  is_sound : sound t.bits ≡ true
  is_sound = (fit_has t (fit_parts now (fits_now d b l)).0).sound

  laid : Sound (bit t.bits)
  laid = (sound_exactly t.bits).0 is_sound

  fit_numbers : cards_fit t.bits now.numbers ≡ true
  fit_numbers = (fit_parts now (fits_now d b l)).1

  numbered : Marked (bears (bit t.bits)) (numbers_in now.numbers)
  numbered = fit_marked t.bits now.numbers fit_numbers

  -- a number stands at one place
  one_place : (c j k : ℕ) → (c ≡ 0 → ⊥) → numbers_in now.numbers j ≡ c → numbers_in now.numbers k ≡ c → j ≡ k
  one_place c j k o e f = split (bears (bit t.bits) j)
      (λ y. numbered.once j k (e ∙ sym f) y)
      (λ y. absurd (o (sym e ∙ numbered.none j y)))

  -- it waits for its result, or is stuck
  abbrev Able : run-motion.Moving → Type 0
  Able (of_set i) = (i < t.count) × (marked t i ≡ false)
  Able (of_stuck j) = j < length jams

  able : (p : List run-motion.Moving) → UnheardAt d l p → (m : run-motion.Moving) → is_among p m ≡ true → Able m
  able p U (of_set i) e = (
    subst (λ (s : Station). i < s.count) (sym (station_below d b l)) (picked _ (set_numbers p) U.from_set i e),
    subst (λ (s : Station). marked s i ≡ false) (sym (station_below d b l)) (U.waiting i e),
  )
  able p U (of_stuck j) e = picked _ (stuck_numbers p) U.from_stuck j e

  -- no two share a place
  beside : (m n : run-motion.Moving) → Able m → Able n → (m ≡ n → ⊥)
      → (k : ℕ) → elem k (held_area (code t.set jams m)) ≡ true → elem k (held_area (code t.set jams n)) ≡ false
  beside m n x y ne k e = outside_area _ k (apart m n x y ne k (held_small _ k e) (in_area_lem _ k e))
    where
      apart : (m n : run-motion.Moving) → Able m → Able n → (m ≡ n → ⊥)
          → (k : ℕ) → k < 64 → rules.area (code t.set jams m) k ≡ true → rules.area (code t.set jams n) k ≡ false
      apart (of_set i) (of_set j) x y ne = G.apart i j x.0 y.0 (λ e. ne (ap of_set e))
      apart (of_set i) (of_stuck j) x y ne = G.free i x j y
      apart (of_stuck i) (of_set j) x y ne = clear_turned 64 _ _ (G.free j y i x)
      apart (of_stuck i) (of_stuck j) x y ne = G.jammed.apart i j x y (λ e. ne (ap of_stuck e))

  -- a part that is in the area of what is stuck is set apart
  stuck_apart : (j k : ℕ) → j < length jams → k < 53 → bit t.apart k ≡ false → elem k (held_area (jam_at jams j)) ≡ false
  unfolding parts_in
  stuck_apart j k h m o = off _ (λ e. clash (shown e) o)
    where
      shown : elem k (held_area (jam_at jams j)) ≡ true → bit t.apart k ≡ true
      shown e = ap (λ (s : Station). bit s.apart k) (station_below d b l)
          ∙ (apart_exactly d.station (station_begins d b) (below d l) k).1 (
            j,
            h,
            split (ltb k 52)
                (λ u. rw u e)
                (λ u. let q = ltb-false k 52 u in let z : k ≡ 52 = omega arith in rw z (share_is (held_area (jam_at jams j)) lift 52 (rw z at e) refl)),
          )

  -- a number at a place, of which nothing is set apart
  module _ (c k : ℕ) (there : numbers_in now.numbers k ≡ c) (o : c ≡ 0 → ⊥) (low : k < 53) (clear : is_under (bit t.apart) k ≡ false) where
    not_stuck : (j : ℕ) → j < length jams → elem k (held_area (jam_at jams j)) ≡ false
    not_stuck j h = stuck_apart j k h low (neither (bit t.apart k) _ clear).0

    -- instruction n waits, and has a part under the car in its area
    abbrev moving : ℕ → Bool
    moving n = not (marked t n) && is_under (λ j. elem j (held_area (code_at t.set n))) k

    -- where no instruction that waits has it in its area, it stays, whichever have finished
    sure : ltb (mover_of t k) t.count ≡ false → (p : List run-motion.Moving) → UnheardAt d l p → numbers_in (cards_in_fact d l p) k ≡ c
    unfolding mover_of
    sure v p U = cards_out t.set jams k p (λ m e. out m (able p U m e)) t.bits now.numbers ∙ there
      where
        out : (m : run-motion.Moving) → Able m → elem k (held_area (code t.set jams m)) ≡ false
        out (of_set i) x =
            let h = ltb-false (mover_of t k) t.count v in
            let y = least_below t.count moving i (omega (arith, x.0)) in
            (neither (elem k (held_area (code_at t.set i))) _ (rw x.1 at y)).0
        out (of_stuck j) x = not_stuck j x

    -- where one has, it has the whole car
    module _ (v : ltb (mover_of t k) t.count ≡ true) where
      abbrev i : ℕ
      i = mover_of t k

      abbrev x : Code
      x = code_at t.set i

      waits : Able (of_set i)
      unfolding mover_of
      waits =
          let h = ltb-true (mover_of t k) t.count v in
          (h, not-true _ (both _ _ (found_least t.count moving h).passes).0)

      ok : held_allowed x (bit t.bits) ≡ true
      ok = (allowed_has x t.bits (G.allowed i waits)).0

      car_here : (u : List Car) → Layout (bit t.bits) u → (y : Car) × Among y u × (anchor y ≡ k)
      car_here u y = bears_car (bit t.bits) u y k (λ q. omega arith) (split (bears (bit t.bits) k) (λ w. w) (λ w. absurd (o (sym there ∙ numbered.none k w))))

      whole : elem k (held_area x) ≡ true
      unfolding mover_of
      whole = ⊎_elim (λ w. w) (λ w. by_pair (both (ltb k 20) _ w).0 (both (ltb k 20) _ w).1)
          (one_of (elem k (held_area x)) _ (both (not (marked t i)) _ (found_least t.count moving (ltb-true (mover_of t k) t.count v)).passes).1)
        where
          by_pair : ltb k 20 ≡ true → elem (suc k) (held_area x) ≡ true → elem k (held_area x) ≡ true
          by_pair small e =
              let (u, y) = laid.layout in
              let (z, m, q) = car_here u y in
              torn_at x t.bits laid ok u y k z m q (ltb-true k 20 small) e

      -- if it has not finished, the number stays
      stays : (p : List run-motion.Moving) → UnheardAt d l p → is_among p (of_set i) ≡ false → numbers_in (cards_in_fact d l p) k ≡ c
      stays p U e = cards_out t.set jams k p out t.bits now.numbers ∙ there
        where
          out : (m : run-motion.Moving) → is_among p m ≡ true → elem k (held_area (code t.set jams m)) ≡ false
          out m y = beside (of_set i) m waits (able p U m y) (λ q. clash y (ap (is_among p) (sym q) ∙ e)) k whole

      -- if it has, the number is where it brings it
      abbrev after : List ℕ
      after = code_cards x t.bits now.numbers

      known : is_known after c ≡ true
      known = code_known x t.bits now.numbers is_sound fit_numbers ok c o ∙ (known_exactly now.numbers c o).1 (k, there)

      has_place : where_is after c ≡ no_source → ⊥
      has_place =
          let (j, e) = (known_exactly after c o).0 known in
          place_found after c j o e (λ q.
          let w = one_place c drive_in k o (sym (code_outside x t.bits now.numbers drive_in (drive_outside x drive_in refl)) ∙ ap (numbers_in after) (sym q) ∙ e) there in
          omega arith)

      in_it : elem (where_is after c) (held_area x) ≡ true
      in_it = split (elem (where_is after c) (held_area x))
          (λ w. w)
          (λ w.
          let e = sym (code_outside x t.bits now.numbers (where_is after c) w) ∙ (stands_there after c has_place).1 in
          absurd (clash whole (ap (λ n. elem n (held_area x)) (sym (one_place c (where_is after c) k o e there)) ∙ w)))

      brought : (p : List run-motion.Moving) → UnheardAt d l p → is_among p (of_set i) ≡ true
          → numbers_in (cards_in_fact d l p) (place_after now i c) ≡ c
      brought p U e =
          cards_in t.set jams (of_set i) p (once_each _ _ p U.from_set U.from_stuck) e
          (λ m y ne. beside (of_set i) m waits (able p U m y) (λ q. ne (sym q)))
          t.bits now.numbers (where_is after c) in_it
          ∙ (stands_there after c has_place).1

  -- ---- no car is both set apart and in motion

  module _ (i : ℕ) (w : Able (of_set i)) where
    -- what is set apart is in the area of something stuck, and so in no area of what waits
    not_apart : (k : ℕ) → k < 52 → elem k (held_area (code_at t.set i)) ≡ true → bit t.apart k ≡ false
    unfolding parts_in
    not_apart k h e = off _ (λ u.
        let (j, m, f) = (apart_exactly d.station (station_begins d b) (below d l) k).0 (sym (ap (λ (s : Station). bit s.apart k) (station_below d b l)) ∙ u) in
        let g : elem k (held_area (jam_at jams j)) ≡ true = rw (lt-ltb k 52 h) at f in
        clash g (beside (of_set i) (of_stuck j) w m (λ q. clash refl (ap is_stuck q)) k e))
      where
        is_stuck : run-motion.Moving → Bool
        is_stuck (of_set n) = true
        is_stuck (of_stuck n) = false

    -- the lift's part is one: both would reach the drives
    lift_free : elem raised_car (held_area (code_at t.set i)) ≡ true → bit t.apart raised_car ≡ false
    unfolding parts_in
    lift_free e = off _ (λ u.
        let (j, m, f) = (apart_exactly d.station (station_begins d b) (below d l) raised_car).0
        (sym (ap (λ (s : Station). bit s.apart raised_car) (station_below d b l)) ∙ u) in
        clash (in_drives (jam_at jams j) drive_in f refl)
        (G.free i w j m drive_in (omega arith) (in_drives (code_at t.set i) drive_in (share_is (held_area (code_at t.set i)) lift raised_car e refl) refl)))

    apart_moving : (u : List Car) → Layout (bit t.bits) u → (x : Car) → Among x u → on_parts (bit t.apart) x ≡ true
        → on_parts (λ k. elem k (held_area (code_at t.set i))) x ≡ false
    apart_moving u y (pair c) m a = off _ (λ e.
        let h = stands u (pair c) y.stand m in
        let torn = held_torn (code_at t.set i) t.bits laid (allowed_has (code_at t.set i) t.bits (G.allowed i w)).0 u y c m in
        let whole : elem c (held_area (code_at t.set i)) ≡ true = ⊎_elim (λ z. z) (λ z. torn ∙ z) (one_of (elem c (held_area (code_at t.set i))) _ e) in
        ⊎_elim (λ z. clash z (not_apart c (omega arith) whole)) (λ z. clash z (not_apart (suc c) (omega arith) (sym torn ∙ whole)))
        (one_of (bit t.apart c) _ a))
    apart_moving u y (single c) m a = off _ (λ e. let h = (stands u (single c) y.stand m).1 in clash a (not_apart c (omega arith) e))
    apart_moving u y raised m a = off _ (λ e. clash a (lift_free e))

pub apart_or_moving : ApartOrMoving
apart_or_moving d b l u y x m a i h = split (marked (calls_desk d l).station i)
    (λ w. rw w)
    (λ w. rw w (apart_moving d b l i (h, w) u y x m a))

pub where_sure : WhereSure
where_sure d b l c k e p U =
    let s = calls_desk d l in
    let q = where_is s.numbers c in
    let (j, P) = placed_sure s c q k (ap known_in (sym (whereabouts_fit s c (fits_now d b l)) ∙ e)) in
    let (m, there) = stands_there s.numbers c P.here in
    rw (← j) (sure d b l c q there (place_card s.numbers c P.here) m P.clear P.moves p U)

pub where_moving : WhereMoving
where_moving d b l c k j e =
    let s = calls_desk d l in
    let q = where_is s.numbers c in
    let (z, n, P) = placed_moving s c q k j (ap known_in (sym (whereabouts_fit s c (fits_now d b l)) ∙ e)) in
    let (m, there) = stands_there s.numbers c P.here in
    let o = place_card s.numbers c P.here in
    let (h, u) = waits d b l c q there o m P.clear P.moves in (
      mover_of s.station q,
      h,
      u,
      λ p U. (
        λ f. rw (← n) (brought d b l c q there o m P.clear P.moves p U f),
        λ f. rw (← z) (stays d b l c q there o m P.clear P.moves p U f),
      ),
    )
