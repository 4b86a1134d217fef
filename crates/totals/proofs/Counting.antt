-- The totals raised at a message's marks are the totals after it, and the first mark that fills is the first total that is full.
-- Assumes nothing.
use mathlib.Core.Path.{◌≡◌, refl, sym, ap, ap₂, ◌∙◌}
use mathlib.Core.Bool.{Bool, true, false, cond, ◌&&◌, ◌||◌, and-false, and-true}
use mathlib.Core.List.{List}
use mathlib.Core.Logic.{◌⊎◌, inl, inr}
use Prim.Native.Nat.{ℕ, ◌+◌, ◌≤◌, ◌<◌, max}
use native.Mathlib.Omega.{arith}
use lib.Dec.{T, eqb, leb, ltb}
use lib.ListN.{length, get_or, set, length-set}
use lib.Seq.{ext_get_or, get_or-set_same, get_or-set_other}
use borrow.Author.Tests.{eqb-true, eqb-false, eq-eqb, ne_eqb, lt-ltb}
use Rattle.bits.specs.Bits.{digit}
use Rattle.bits.specs.Search.{every, least}
use Rattle.bits.proofs.Cases.{split, both}
use Rattle.bits.proofs.Search.{lt_or_ge, each}
use Rattle.bits.proofs.Least.{least_is, least_none}
use Rattle.std.specs.declared.option.Option.{Option}
use Rattle.std.specs.declared.option.Option.TheVariants.{Some, None}
use Rattle.std.specs.Prelude.{is_none}
use Rattle.totals.specs.declared.Mark.{Mark}
use Rattle.totals.specs.declared.Happened.{Happened}
use Rattle.totals.specs.declared.Name.{Name}
use Rattle.totals.specs.Totals.{order, name_at, counts, next_total, nexts, most_counted, full, counted_in, totals_of}
use Rattle.totals.specs.declared.Name.TheVariants.{Kind, Number, Done, Failed, CarsIn, CarsOut, MostCars}
use Rattle.totals.specs.Private.{count_marks, fills, full_among, raised, with_cars, raised_all}
use Rattle.totals.proofs.Order.{most_cars_at, nexts_length, after_at, after_beyond}
use Rattle.totals.proofs.Placing.{hits, misses, in_kinds, in_answers, in_results, results_low, results_high, in_drives, marks_within, hit, counts_hit}

-- ---- what is added

-- what a mark adds, place by place
pub raised_at : (c : List ℕ) (m : Mark) (q : ℕ) → m.more ≤ 1 → q < length c → get_or (raised c m) q 0 ≡ get_or c q 0 + digit (hits m q)
unfolding raised
raised_at c m q s l = split (eqb m.at q) here there
  where
    one : (n : ℕ) → n ≤ 1 → n ≡ digit (eqb n 1)
    one n h = split (eqb n 1) (λ t. rw t (eqb-true n 1 t)) (λ t. rw t (let z = eqb-false n 1 t in omega arith))

    here : eqb m.at q ≡ true → get_or (set c m.at (get_or c m.at 0 + m.more)) q 0 ≡ get_or c q 0 + digit (hits m q)
    here t =
        let e : m.at ≡ q = eqb-true m.at q t in
        rw (t, e, get_or-set_same c q (get_or c q 0 + m.more) 0 l) (ap (λ (n : ℕ). get_or c q 0 + n) (one m.more s))

    there : eqb m.at q ≡ false → get_or (set c m.at (get_or c m.at 0 + m.more)) q 0 ≡ get_or c q 0 + digit (hits m q)
    there t =
        rw (t, get_or-set_other c m.at q (get_or c m.at 0 + m.more) 0 (λ e. eqb-false m.at q t (sym e))) (omega arith)

pub raised_length : (c : List ℕ) (m : Mark) → length (raised c m) ≡ length c
unfolding raised
raised_length c m = length-set c m.at (get_or c m.at 0 + m.more)

-- the totals at the places before the last are counts
abbrev is_count : Name → Bool
is_count (Kind k) = true
is_count (Number n) = true
is_count (Done op) = true
is_count (Failed op) = true
is_count CarsIn = true
is_count CarsOut = true
is_count MostCars = false

all_counts : T (every 51 (λ p. is_count (name_at p)))
unfolding every name_at order
all_counts = tt

-- a count is raised by one where the message counts
pub next_count : (h : Happened) (p v : ℕ) → p < 51 → next_total (name_at p) h v ≡ v + digit (counts (name_at p) h)
next_count h p v l = go (name_at p) (each 51 (λ p. is_count (name_at p)) all_counts p l)
  where
    go : (n : Name) → T (is_count n) → next_total n h v ≡ v + digit (counts n h)
    go (Kind k) c = refl
    go (Number n) c = refl
    go (Done op) c = refl
    go (Failed op) c = refl
    go CarsIn c = refl
    go CarsOut c = refl
    go MostCars c = absurd c

module _ (h : Happened) where
  -- no two marks add at one place
  sum_hit : (p : ℕ) → digit (hits (count_marks h).kind p) + digit (hits (count_marks h).answer p) + digit (hits (count_marks h).result p)
      + digit (hits (count_marks h).drive p) ≡ digit (hit h p)
  sum_hit p =
      split (hits (count_marks h).kind p) by_kind (λ x. rw x
      (split (hits (count_marks h).answer p) by_answer (λ y. rw y
      (split (hits (count_marks h).result p) by_result (λ z. rw z (alone (digit (hits (count_marks h).drive p))))))))
    where
      alone : (n : ℕ) → 0 + n ≡ n
      alone n = omega arith

      at : (m : Mark) → hits m p ≡ true → m.at ≡ p
      at m t = eqb-true m.at p (both (eqb m.at p) (eqb m.more 1) t).0

      answer_off : p < 5 → hits (count_marks h).answer p ≡ false
      answer_off l = misses p (in_answers h) (λ e. omega (arith, (in_answers h).low))

      result_off : p < 39 → hits (count_marks h).result p ≡ false
      result_off l = misses p (in_results h) (λ e. omega (arith, results_low h))

      drive_off : p < 49 → hits (count_marks h).drive p ≡ false
      drive_off l = misses p (in_drives h) (λ e. omega (arith, (in_drives h).low))

      by_kind : hits (count_marks h).kind p ≡ true
          → digit (hits (count_marks h).kind p) + digit (hits (count_marks h).answer p) + digit (hits (count_marks h).result p)
          + digit (hits (count_marks h).drive p) ≡ digit (hit h p)
      by_kind x =
          let l : p < 5 = omega (arith, at (count_marks h).kind x, (in_kinds h).high) in
          rw (x, answer_off l, result_off (omega arith), drive_off (omega arith)) refl

      by_answer : hits (count_marks h).answer p ≡ true
          → digit false + digit (hits (count_marks h).answer p) + digit (hits (count_marks h).result p) + digit (hits (count_marks h).drive p)
          ≡ digit (hits (count_marks h).answer p || (hits (count_marks h).result p || hits (count_marks h).drive p))
      by_answer x =
          let l : p < 39 = omega (arith, at (count_marks h).answer x, (in_answers h).high) in
          rw (x, result_off l, drive_off (omega arith)) refl

      by_result : hits (count_marks h).result p ≡ true
          → digit false + digit false + digit (hits (count_marks h).result p) + digit (hits (count_marks h).drive p)
          ≡ digit (hits (count_marks h).result p || hits (count_marks h).drive p)
      by_result x =
          let l : p < 49 = omega (arith, at (count_marks h).result x, results_high h) in
          rw (x, drive_off l) refl

  -- the totals with what the four marks add
  abbrev four : List ℕ → List ℕ
  four c = raised (raised (raised (raised c (count_marks h).kind) (count_marks h).answer) (count_marks h).result) (count_marks h).drive

  four_length : (c : List ℕ) → length (four c) ≡ length c
  four_length c =
      raised_length (raised (raised (raised c (count_marks h).kind) (count_marks h).answer) (count_marks h).result) (count_marks h).drive
      ∙ raised_length (raised (raised c (count_marks h).kind) (count_marks h).answer) (count_marks h).result
      ∙ raised_length (raised c (count_marks h).kind) (count_marks h).answer ∙ raised_length c (count_marks h).kind

  four_at_lem : (c : List ℕ) (p : ℕ) → p < length c → get_or (four c) p 0 ≡ get_or c p 0 + digit (hit h p)
  four_at_lem c p l =
      let c₁ = raised c (count_marks h).kind in
      let c₂ = raised c₁ (count_marks h).answer in
      let c₃ = raised c₂ (count_marks h).result in
      let l₁ : p < length c₁ = omega (arith, raised_length c (count_marks h).kind) in
      let l₂ : p < length c₂ = omega (arith, raised_length c₁ (count_marks h).answer) in
      let l₃ : p < length c₃ = omega (arith, raised_length c₂ (count_marks h).result) in
      omega (
        arith,
        raised_at c (count_marks h).kind p (in_kinds h).small l,
        raised_at c₁ (count_marks h).answer p (in_answers h).small l₁,
        raised_at c₂ (count_marks h).result p (in_results h).small l₂,
        raised_at c₃ (count_marks h).drive p (in_drives h).small l₃,
        sum_hit p,
      )

  -- the totals after the message
  pub raised_all_lem : (c : List ℕ) → raised_all c h ≡ nexts order h c
  unfolding raised_all with_cars
  raised_all_lem c = ext_get_or 0 after (nexts order h c) (same ∙ sym (nexts_length order h c)) (λ p l. at_place p (omega (arith, same)) (lt_or_ge p 51))
    where
      after : List ℕ
      after = set (four c) 51 (max (get_or (four c) 51 0) h.cars)

      same : length after ≡ length c
      same = length-set (four c) 51 (max (get_or (four c) 51 0) h.cars) ∙ four_length c

      other : (p : ℕ) → (p ≡ 51 → ⊥) → p < length c → get_or after p 0 ≡ get_or c p 0 + digit (hit h p)
      other p e l = get_or-set_other (four c) 51 p (max (get_or (four c) 51 0) h.cars) 0 e ∙ four_at_lem c p l

      last : (p : ℕ) → p ≡ 51 → p < length c → get_or after p 0 ≡ get_or (nexts order h c) p 0
      last p e l =
          rw (e) (get_or-set_same (four c) 51 (max (get_or (four c) 51 0) h.cars) 0 (omega (arith, four_length c))
          ∙ ap (λ (n : ℕ). max n h.cars) (unmoved (four_at_lem c 51 (omega arith)))
          ∙ sym (after_at h c 51 (omega arith) (omega arith) ∙ ap (λ n. next_total n h (get_or c 51 0)) most_cars_at))
        where
          unmoved : get_or (four c) 51 0 ≡ get_or c 51 0 + digit (hit h 51) → get_or (four c) 51 0 ≡ get_or c 51 0
          unmoved x = x ∙ ap (λ b. get_or c 51 0 + digit b) (sym (counts_hit h 51 (omega arith)) ∙ ap (λ n. counts n h) most_cars_at) ∙ omega arith

      past : (p : ℕ) → (p ≡ 51) ⊎ (51 < p) → p < length c → get_or after p 0 ≡ get_or (nexts order h c) p 0
      past p (inl e) l = last p e l
      past p (inr g) l =
          other p (λ e. omega arith) l ∙ ap (λ b. get_or c p 0 + digit b) none ∙ omega arith ∙ sym (after_beyond h c p (omega arith))
        where
          none : hit h p ≡ false
          none =
              rw (
                misses p (in_kinds h) (λ e. omega (arith, (in_kinds h).high)),
                misses p (in_answers h) (λ e. omega (arith, (in_answers h).high)),
                misses p (in_results h) (λ e. omega (arith, results_high h)),
              ) (misses p (in_drives h) (λ e. omega (arith, (in_drives h).high)))

      at_place : (p : ℕ) → p < length c → (p < 51) ⊎ (51 ≤ p) → get_or after p 0 ≡ get_or (nexts order h c) p 0
      at_place p l (inl b) =
          other p (λ e. omega arith) l ∙ ap (λ b. get_or c p 0 + digit b) (sym (counts_hit h p (omega arith)))
          ∙ sym (after_at h c p (omega arith) l ∙ next_count h p (get_or c p 0) b)
      at_place p l (inr b) = past p last_or_past l
        where
          last_or_past : (p ≡ 51) ⊎ (51 < p)
          last_or_past = split (eqb p 51) (λ t. inl (eqb-true p 51 t)) (λ t. let z = eqb-false p 51 t in inr (omega arith))

-- ---- what is full

-- of four rising places, of which some are full, the least that is
first_of : (p : ℕ → Bool) (k a r d : ℕ) (x y z w : Bool) → k < a → a < r → r < d → d < 52
    → ((j : ℕ) → j < 52 → p j ≡ (eqb k j && x || (eqb a j && y || (eqb r j && z || eqb d j && w))))
    → least 52 p ≡ cond x k (cond y a (cond z r (cond w d 52)))
first_of p k a r d true y z w ka ar rd d52 e =
    least_is 52 k p (omega arith)
    (λ j l. e j (omega arith) ∙ simp (
      ne_eqb k j (λ q. omega arith),
      ne_eqb a j (λ q. omega arith),
      ne_eqb r j (λ q. omega arith),
      ne_eqb d j (λ q. omega arith),
    ))
    (e k (omega arith) ∙ simp (eq-eqb k k refl))
first_of p k a r d false true z w ka ar rd d52 e =
    least_is 52 a p (omega arith)
    (λ j l. e j (omega arith) ∙ simp (and-false, ne_eqb a j (λ q. omega arith), ne_eqb r j (λ q. omega arith), ne_eqb d j (λ q. omega arith)))
    (e a (omega arith) ∙ simp (and-false, eq-eqb a a refl))
first_of p k a r d false false true w ka ar rd d52 e =
    least_is 52 r p (omega arith)
    (λ j l. e j (omega arith) ∙ simp (and-false, ne_eqb r j (λ q. omega arith), ne_eqb d j (λ q. omega arith)))
    (e r (omega arith) ∙ simp (and-false, eq-eqb r r refl))
first_of p k a r d false false false true ka ar rd d52 e =
    least_is 52 d p (omega arith) (λ j l. e j (omega arith) ∙ simp (and-false, ne_eqb d j (λ q. omega arith)))
    (e d (omega arith) ∙ simp (and-false, eq-eqb d d refl))
first_of p k a r d false false false false ka ar rd d52 e = least_none 52 p (λ j l. e j l ∙ simp and-false)

-- the place that is told of them, and what goes with it
told_of : {A : Type 0} (k a r d : ℕ) (x y z w : Bool) (stay : Option ℕ → A) (go : A) → k < 52 → a < 52 → r < 52 → d < 52
    → cond (ltb (cond x k (cond y a (cond z r (cond w d 52)))) 52) (stay (Some (cond x k (cond y a (cond z r (cond w d 52)))))) go
    ≡ cond (is_none (cond x (Some k) (cond y (Some a) (cond z (Some r) (cond w (Some d) None)))))
    go (stay (cond x (Some k) (cond y (Some a) (cond z (Some r) (cond w (Some d) None)))))
told_of k a r d true y z w stay go lk la lr ld = rw (lt-ltb k 52 lk) refl
told_of k a r d false true z w stay go lk la lr ld = rw (lt-ltb a 52 la) refl
told_of k a r d false false true w stay go lk la lr ld = rw (lt-ltb r 52 lr) refl
told_of k a r d false false false true stay go lk la lr ld = rw (lt-ltb d 52 ld) refl
told_of k a r d false false false false stay go lk la lr ld = refl

spread : (x y z w b : Bool) → (x || (y || (z || w))) && b ≡ (x && b || (y && b || (z && b || w && b)))
spread x y z w true = simp and-true
spread x y z w false = simp and-false

module _ (c : List ℕ) (h : Happened) where
  -- a mark that adds one at a full total fills it
  filled_at : (m : Mark) (j : ℕ) → hits m j && leb most_counted (get_or c j 0) ≡ (eqb m.at j && fills c m)
  filled_at m j = split (eqb m.at j) (λ t. let e : m.at ≡ j = eqb-true m.at j t in rw (t, e) refl) (λ t. rw t refl)

  full_is : (j : ℕ) → j < 52 → full (totals_of c) h j ≡ (eqb (count_marks h).kind.at j && fills c (count_marks h).kind
      || (eqb (count_marks h).answer.at j && fills c (count_marks h).answer || (eqb (count_marks h).result.at j && fills c (count_marks h).result
      || eqb (count_marks h).drive.at j && fills c (count_marks h).drive)))
  full_is j l =
      ap (λ b. b && leb most_counted (get_or c j 0)) (counts_hit h j l)
      ∙ spread (hits (count_marks h).kind j) (hits (count_marks h).answer j) (hits (count_marks h).result j) (hits (count_marks h).drive j)
      (leb most_counted (get_or c j 0))
      ∙ ap₂ ◌||◌ (filled_at (count_marks h).kind j) (ap₂ ◌||◌ (filled_at (count_marks h).answer j) (ap₂ ◌||◌ (filled_at (count_marks h).result j)
      (filled_at (count_marks h).drive j)))

  -- the first place that is told, and the totals with it
  pub counted_is : counted_in (totals_of c) h ≡ cond (is_none (full_among c (count_marks h)))
      (record { totals = totals_of (raised_all c h); full = None }) (record { totals = totals_of c; full = full_among c (count_marks h) })
  unfolding counted_in full_among
  counted_is =
      rw (
        raised_all_lem h c,
        first_of (full (totals_of c) h) (count_marks h).kind.at (count_marks h).answer.at (count_marks h).result.at (count_marks h).drive.at
            (fills c (count_marks h).kind) (fills c (count_marks h).answer) (fills c (count_marks h).result) (fills c (count_marks h).drive)
            (omega (arith, (in_kinds h).high, (in_answers h).low)) (omega (arith, (in_answers h).high, results_low h))
            (omega (arith, results_high h, (in_drives h).low)) (omega (arith, (in_drives h).high)) full_is,
      )
      (told_of (count_marks h).kind.at (count_marks h).answer.at (count_marks h).result.at (count_marks h).drive.at
      (fills c (count_marks h).kind) (fills c (count_marks h).answer) (fills c (count_marks h).result) (fills c (count_marks h).drive)
      (λ p. record { totals = totals_of c; full = p }) (record { totals = totals_of (nexts order h c); full = None })
      (marks_within h).kind (marks_within h).answer (marks_within h).result (marks_within h).drive)
