-- The grounds of a plan, case by case. Assumes nothing.
use Rattle.std.proofs.Common.{◌≡◌, ℕ, ◌<◌, ◌≤◌, List, length, get_or, arith, le-ltb, lt-ltb, eq-eqb, ne_eqb}
use Rattle.codec.specs.Bytes.{from_little_endian}
use Rattle.answers.specs.Answers.{number_of}
use Rattle.station.specs.declared.Station.{Station}
use Rattle.station.specs.Station.{start_of}
use Rattle.station.specs.Calls.{imaged}
use Rattle.plan.specs.Plans.{Plan, plan_size, plan_in, wholly, most_sets, tried, imaged_at, weighed, grounds_of}

-- ---- a plan

-- its image, by what the code has read
pub imaged_so : (s : List ℕ) {t : Station} {b a : ℕ} → t ≡ start_of → b ≡ from_little_endian 8 0 s → a ≡ from_little_endian 8 8 s
    → imaged t (record { bits = b; apart = a }) ≡ imaged_at (plan_in s)
imaged_so s e f g = rw (e, f, g)

module _ (p : Plan) (number : ℕ) (e : number ≡ number_of (imaged_at p).answer) where
  pub image_refused : (number ≡ 0 → ⊥) → wholly number 0 ≡ weighed p
  unfolding weighed
  image_refused h = rw (← e, ne_eqb number 0 h)

  pub too_many : number ≡ 0 → most_sets < length p.sets → wholly 35 0 ≡ weighed p
  unfolding weighed
  too_many h l = rw (← e, eq-eqb number 0 h, lt-ltb most_sets (length p.sets) l)

  pub as_tried : number ≡ 0 → length p.sets ≤ most_sets → tried p.wish 0 (imaged_at p).station p.sets ≡ weighed p
  unfolding weighed
  as_tried h l = rw (← e, eq-eqb number 0 h, le-ltb most_sets (length p.sets) l)

-- ---- its bytes

module _ (s : List ℕ) (n : ℕ) (e : n ≡ plan_size (plan_in s)) where
  pub cut_short_lem : length s < n → wholly 1 0 ≡ grounds_of s
  unfolding grounds_of
  cut_short_lem h = rw (← e, lt-ltb (length s) n h)

  pub bad_wish : n ≤ length s → 1 < get_or s 16 0 → wholly 4 0 ≡ grounds_of s
  unfolding grounds_of
  bad_wish h w = rw (← e, le-ltb (length s) n h, lt-ltb 1 (get_or s 16 0) w)

  pub left_over : get_or s 16 0 ≤ 1 → n < length s → wholly 4 0 ≡ grounds_of s
  unfolding grounds_of
  left_over w h = rw (← e, le-ltb (length s) n (omega arith), le-ltb 1 (get_or s 16 0) w, lt-ltb n (length s) h)

  pub as_weighed : get_or s 16 0 ≤ 1 → n ≡ length s → weighed (plan_in s) ≡ grounds_of s
  unfolding grounds_of
  as_weighed w h = rw (← e, le-ltb (length s) n (omega arith), le-ltb 1 (get_or s 16 0) w, le-ltb n (length s) (omega arith))
