-- A plan walked set by set: what the loops keep, where they start, one turn, and what they say at the end. Assumes nothing.
use Rattle.std.proofs.Common.{◌≡◌, ℕ, zero, suc, ◌+◌, ◌-◌, ◌*◌, ◌<◌, ◌≤◌, Bool, cond, eqb, ltb, List, [], ◌∷◌, ◌++◌, length, get_or, take, drop, replicate, sym, refl, ap, ◌∙◌, ap₂, append-nil, arith, length-drop, length-take-le, get_or-drop, take_all, drop-drop, take_at, ltb-false, ltb-true, eq-eqb, ne_eqb}
use Rattle.bits.specs.Bits.{Bits, bit}
use Rattle.bits.proofs.Cases.{split}
use Rattle.floor.specs.Floor.{raised_car}
use Rattle.floor.specs.Tests.{set, free, holds}
use Rattle.codec.specs.Bytes.{from_little_endian}
use Rattle.answers.specs.Answers.{number_of}
use Rattle.wire.specs.Kinds.{set_of}
use Rattle.station.specs.declared.Station.{Station}
use Rattle.station.specs.declared.Outcome.{Outcome}
use Rattle.station.specs.Calls.{requested}
use Rattle.plan.specs.declared.Grounds.{Grounds}
use Rattle.plan.specs.Plans.{PlanSet, sizes, head, plan_size, sets_in, plan_in, wholly, refused_set, wished, set_asked, after_success, succeeded, tried}

-- ---- bytes

-- a set's own bytes, with zeros after them, are what the station holds of it
pub padded : (b : List ℕ) (n : ℕ) → length b ≡ 5 * n → set_of b ≡ take (5 * n) (set_of b) ++ replicate (40 - 5 * n) 0
padded b n e = split (ltb 8 n)
    (λ t. let l = ltb-true 8 n t in
    let z : 40 - length b ≡ 0 = omega arith in
    let y : 40 - 5 * n ≡ 0 = omega arith in
    rw (z, y, append-nil (take 40 b), take_all (5 * n) (take 40 b) (omega (arith, length-take-le 40 b (omega arith))), append-nil (take 40 b)))
    (λ t. let l = ltb-false 8 n t in
    rw (take_all 40 b (omega arith), e, take_at b (replicate (40 - 5 * n) 0) (5 * n) e))

-- eight bytes from a place on
pub number_at : (n i : ℕ) (s : List ℕ) → from_little_endian n 0 (drop i s) ≡ from_little_endian n i s
number_at n i s = go n 0 ∙ (let z : i + 0 ≡ i = omega arith in rw z)
  where
    go : (m j : ℕ) → from_little_endian m j (drop i s) ≡ from_little_endian m (i + j) s
    go zero j = refl
    go (suc m) j = let z : i + suc j ≡ suc (i + j) = omega arith in rw (get_or-drop i s j 0, go m (suc j), z)

-- the bytes of a set that lies within
pub part_length : (s : List ℕ) (at count : ℕ) → at + 1 + 5 * count ≤ length s → length (take (at + 1 + 5 * count - (at + 1)) (drop (at + 1) s)) ≡ 5 * count
part_length s at count h =
    let z : at + 1 + 5 * count - (at + 1) ≡ 5 * count = omega arith in
    rw z (length-take-le (5 * count) (drop (at + 1) s) (omega (arith, length-drop (at + 1) s)))

-- ---- the sets of a plan

-- how many there are
sets_count : (n : ℕ) (s : List ℕ) → length (sets_in n s) ≡ n
sets_count zero s = refl
sets_count (suc n) s = ap suc (sets_count n _)

pub plan_sets : (s : List ℕ) → length (plan_in s).sets ≡ get_or s 17 0
plan_sets s = sets_count (get_or s 17 0) (drop head s)

-- the next one, by its place
pub next_set : (s : List ℕ) (n k at count : ℕ) → k < n → count ≡ get_or s at 0
    → sets_in (n - k) (drop at s) ≡ record { count = count; bytes = take (5 * count) (drop (at + 1) s) } ∷ sets_in (n - (k + 1)) (drop (at + 1 + 5 * count) s)
next_set s n k at count h e =
    let more : n - k ≡ suc (n - (k + 1)) = omega arith in
    let here : at + 0 ≡ at = omega arith in
    let f : get_or (drop at s) 0 0 ≡ count = get_or-drop at s 0 0 ∙ ap (λ (i : ℕ). get_or s i 0) here ∙ sym e in
    let past : at + (1 + 5 * count) ≡ at + 1 + 5 * count = omega arith in
    rw (more, f, drop-drop 1 at s, drop-drop (1 + 5 * count) at s, past)

-- ---- how many bytes a plan takes

pub record Sized (s : List ℕ) (n at k : ℕ) : Type 0 where
  pub rest : at + sizes (sets_in (n - k) (drop at s)) ≡ head + sizes (sets_in n (drop head s))
  pub few : at ≤ head + 1276 * k

pub sized_start : (s : List ℕ) (n : ℕ) → Sized s n 18 0
sized_start s n = let z : n - 0 ≡ n = omega arith in record { rest = rw z; few = omega arith }

pub sized_turn : {s : List ℕ} {n at k : ℕ} (count : ℕ) → Sized s n at k → k < n → count ≡ get_or s at 0 → count < 256 → Sized s n (at + 1 + 5 * count) (k + 1)
sized_turn {s} {n} {at} {k} count I h e l =
    let r = ap sizes (next_set s n k at count h e) in
    record { rest = omega (arith, I.rest, r); few = omega (arith, I.few) }

pub sized_end : {s : List ℕ} {n at k : ℕ} → Sized s n at k → n ≡ get_or s 17 0 → n ≤ k → at ≡ plan_size (plan_in s)
sized_end {s} {n} {at} {k} I e h =
    let z : n - k ≡ 0 = omega arith in
    let r = ap (λ (m : ℕ). sizes (sets_in m (drop at s))) z in
    let w = ap (λ (m : ℕ). sizes (sets_in m (drop head s))) e in
    omega (arith, I.rest, r, w)

-- ---- the sets tried

module _ (s : List ℕ) (wish n : ℕ) (first : Station) where
  pub record Trying (t : Station) (at k : ℕ) : Type 0 where
    pub rest : at + sizes (sets_in (n - k) (drop at s)) ≡ length s
    pub same : tried wish 0 first (plan_in s).sets ≡ tried wish k t (sets_in (n - k) (drop at s))

  pub trying_start : n ≡ get_or s 17 0 → length s ≡ plan_size (plan_in s) → Trying first 18 0
  trying_start all e = let z : n - 0 ≡ get_or s 17 0 = omega arith in record { rest = rw z (sym e); same = rw z }

  -- the set at a place, by its count
  abbrev set_at : ℕ → ℕ → PlanSet
  set_at at count = record { count = count; bytes = take (5 * count) (drop (at + 1) s) }

  module _ {t : Station} {at k : ℕ} (count : ℕ) (I : Trying t at k) (h : k < n) (e : count ≡ get_or s at 0) where
    -- it lies within the bytes
    pub trying_within : at + 1 + 5 * count ≤ length s
    trying_within = let r = ap sizes (next_set s n k at count h e) in omega (arith, I.rest, r)

    -- what the code has asked, and its number
    module _ (o : Outcome) (number : ℕ) (a : o ≡ requested t count (set_of (take (at + 1 + 5 * count - (at + 1)) (drop (at + 1) s)))) (b : number ≡ number_of o.answer) where
      asked_so : o ≡ set_asked t (set_at at count)
      asked_so = let z : at + 1 + 5 * count - (at + 1) ≡ 5 * count = omega arith in a ∙ rw z

      number_so : number ≡ number_of (set_asked t (set_at at count)).answer
      number_so = b ∙ ap (λ (x : Outcome). number_of x.answer) asked_so

      -- the rest of the plan, from here
      here : tried wish 0 first (plan_in s).sets ≡ tried wish k t (set_at at count ∷ sets_in (n - (k + 1)) (drop (at + 1 + 5 * count) s))
      here = I.same ∙ ap (tried wish k t) (next_set s n k at count h e)

      pub trying_refused : {held : List ℕ} {g : Grounds} → (number ≡ 0 → ⊥) → held ≡ set_of (take (at + 1 + 5 * count - (at + 1)) (drop (at + 1) s))
          → g ≡ refused_set k t.bits held o.answer → g ≡ tried wish 0 first (plan_in s).sets
      unfolding tried
      trying_refused x d g =
          let z : at + 1 + 5 * count - (at + 1) ≡ 5 * count = omega arith in
          let e : _ ≡ set_of (set_at at count).bytes = d ∙ rw z in
          g ∙ ap₂ (λ (b : List ℕ) (y : Outcome). refused_set k t.bits b y.answer) e asked_so
          ∙ sym (here ∙ rw (← number_so, ne_eqb number 0 x))

      pub trying_turn : {u : Station} → number ≡ 0 → u ≡ succeeded count o.station → Trying u (at + 1 + 5 * count) (k + 1)
      unfolding tried
      trying_turn x g =
          let r = ap sizes (next_set s n k at count h e) in
          let z : k + 1 ≡ suc k = omega arith in
          record {
            rest = omega (arith, I.rest, r);
            same = here ∙ rw (sym number_so ∙ x, z, g ∙ ap (λ (y : Outcome). succeeded count y.station) asked_so);
          }

  pub trying_end : {t : Station} {at k : ℕ} → Trying t at k → n ≤ k
      → wholly (cond (holds (wished wish) (bit t.bits)) 0 36) t.bits ≡ tried wish 0 first (plan_in s).sets
  unfolding tried
  trying_end {t} {at} {k} I h = let z : n - k ≡ 0 = omega arith in sym (I.same ∙ rw z)

-- ---- successes

pub none_done : (s : Station) → s ≡ succeeded 0 s
unfolding succeeded
none_done s = refl

pub one_done : (first : Station) {s t : Station} (i : ℕ) → s ≡ succeeded i first → t ≡ after_success s i → t ≡ succeeded (i + 1) first
unfolding succeeded
one_done first i e d = let z : i + 1 ≡ suc i = omega arith in d ∙ ap (λ (x : Station). after_success x i) e ∙ rw z

pub all_done : (first : Station) {s : Station} (n i : ℕ) → s ≡ succeeded i first → i ≡ n → s ≡ succeeded n first
all_done first n i e z = e ∙ ap (λ (k : ℕ). succeeded k first) z

-- ---- the wish

module _ (wish : ℕ) (f : Bits) {b : Bool} where
  pub with_car : wish ≡ 1 → b ≡ holds (set (raised_car ∷ [])) f → b ≡ holds (cond (eqb wish 1) (set (raised_car ∷ [])) (free (raised_car ∷ []))) f
  with_car h e = e ∙ rw (eq-eqb wish 1 h)

  pub without_car : (wish ≡ 1 → ⊥) → b ≡ holds (free (raised_car ∷ [])) f → b ≡ holds (cond (eqb wish 1) (set (raised_car ∷ [])) (free (raised_car ∷ []))) f
  without_car h e = e ∙ rw (ne_eqb wish 1 h)
