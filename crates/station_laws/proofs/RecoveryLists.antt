-- Lists of calls, and of the instructions that wait: an order of them exists, and has at most as many as the set. Assumes nothing.
use mathlib.Core.Path.{◌≡◌, refl, sym, ap, subst, ◌∙◌}
use mathlib.Core.Bool.{Bool, false, not, cond, ◌||◌}
use mathlib.Core.List.{List, [], ◌∷◌, ◌++◌}
use Prim.Native.Nat.{ℕ, zero, suc, ◌+◌, ◌≤◌, ◌<◌}
use native.Mathlib.Omega.{arith}
use lib.Dec.{eqb}
use lib.ListN.{length}
use borrow.Author.Tests.{eqb-true, eqb-false, ne_eqb}
use Rattle.bits.specs.Bits.{digit}
use Rattle.bits.proofs.Cases.{split}
use Rattle.station.specs.declared.Station.{Station}
use Rattle.station.specs.Station.{marked}
use Rattle.station_laws.specs.Runs.{Call, station_after, calls}
use Rattle.station_laws.specs.Orders.{Fate}
use Rattle.station_laws.specs.Jams.{has, Picks}
use Rattle.station_laws.specs.Motion.{AllWaiting}
use Rattle.station_laws.specs.Recovery.{AllAccepted, results_for}

-- ---- lists of calls

pub calls_append : (l m : List Call) (s : Station) → calls s (l ++ m) ≡ calls (calls s l) m
calls_append [] m s = refl
calls_append (c ∷ l) m s = calls_append l m (station_after s c)

pub accepted_append : (l m : List Call) (s : Station) → AllAccepted s l → AllAccepted (calls s l) m → AllAccepted s (l ++ m)
accepted_append [] m s a b = b
accepted_append (c ∷ l) m s a b = (a.0, accepted_append l m (station_after s c) a.1 b)

pub length_append : {A : Type 0} (l m : List A) → length (l ++ m) ≡ length l + length m
length_append [] m = omega arith
length_append (c ∷ l) m = omega (arith, length_append l m)

pub append_none : (l : List ℕ) → l ++ [] ≡ l
append_none [] = refl
append_none (i ∷ l) = ap (λ (m : List ℕ). i ∷ m) (append_none l)

pub results_length : (issue : ℕ) (fate : ℕ → Fate) (order : List ℕ) → length (results_for issue fate order) ≡ length order
results_length issue fate [] = refl
results_length issue fate (i ∷ order) = ap suc (results_length issue fate order)

-- ---- numbers below a bound, none twice, are at most so many

-- how many numbers below n pass
tally : ℕ → (ℕ → Bool) → ℕ
tally zero p = 0
tally (suc n) p = digit (p n) + tally n p

tally_most : (n : ℕ) (p : ℕ → Bool) → tally n p ≤ n
unfolding tally
tally_most zero p = omega arith
tally_most (suc n) p = split (p n) (λ t. rw t (omega (arith, tally_most n p))) (λ t. rw t (omega (arith, tally_most n p)))

-- one number more passes, which is not below n
tally_past : (n i : ℕ) (p : ℕ → Bool) → n ≤ i → tally n (λ j. eqb i j || p j) ≡ tally n p
unfolding tally
tally_past zero i p h = refl
tally_past (suc n) i p h = rw (ne_eqb i n (λ e. omega arith), tally_past n i p (omega arith))

-- or is
tally_more : (n i : ℕ) (p : ℕ → Bool) → i < n → p i ≡ false → tally n (λ j. eqb i j || p j) ≡ suc (tally n p)
unfolding tally
tally_more zero i p h o = absurd (omega arith)
tally_more (suc n) i p h o = split (eqb i n)
    (λ t. let e = eqb-true i n t in
    let z : p n ≡ false = ap p (sym e) ∙ o in
    rw (t, z, tally_past n i p (omega arith)) (omega arith))
    (λ t. let e = eqb-false i n t in rw (t, tally_more n i p (omega arith) o) (omega arith))

none_tally : (n : ℕ) → tally n (λ j. false) ≡ 0
unfolding tally
none_tally zero = refl
none_tally (suc n) = omega (arith, none_tally n)

picked_tally : (n : ℕ) (l : List ℕ) → Picks n l → length l ≡ tally n (has l)
picked_tally n [] p = sym (none_tally n)
picked_tally n (i ∷ l) p = ap suc (picked_tally n l p.2) ∙ sym (tally_more n i (has l) p.0 p.1)

pub picked_few : (n : ℕ) (l : List ℕ) → Picks n l → length l ≤ n
picked_few n l p = subst (λ (m : ℕ). m ≤ n) (sym (picked_tally n l p)) (tally_most n (has l))

-- ---- an order of what waits

-- the first n that have no mark, from the last
unfoldable pub unmarked : ℕ → (ℕ → Bool) → List ℕ
unmarked zero m = []
unmarked (suc n) m = let rest = unmarked n m in cond (m n) rest (n ∷ rest)

picks_more : (n : ℕ) (l : List ℕ) → Picks n l → Picks (suc n) l
picks_more n [] p = tt
picks_more n (i ∷ l) p = ((let h = p.0 in omega arith), p.1, picks_more n l p.2)

-- none of the first n is n or more
unmarked_past : (n : ℕ) (m : ℕ → Bool) (j : ℕ) → n ≤ j → has (unmarked n m) j ≡ false
unfolding unmarked
unmarked_past zero m j h = refl
unmarked_past (suc n) m j h = split (m n)
    (λ t. rw t (unmarked_past n m j (omega arith)))
    (λ t. rw (t, ne_eqb n j (λ e. omega arith)) (unmarked_past n m j (omega arith)))

unmarked_picks : (n : ℕ) (m : ℕ → Bool) → Picks n (unmarked n m)
unfolding unmarked
unmarked_picks zero m = tt
unmarked_picks (suc n) m =
    let rest = picks_more n (unmarked n m) (unmarked_picks n m) in
    split (m n) (λ t. rw t rest) (λ t. rw t ((omega arith), unmarked_past n m n (omega arith), rest))

unmarked_has : (n : ℕ) (m : ℕ → Bool) (j : ℕ) → j < n → has (unmarked n m) j ≡ not (m j)
unfolding unmarked
unmarked_has zero m j h = absurd (omega arith)
unmarked_has (suc n) m j h = split (eqb n j)
    (λ t. let e = eqb-true n j t in
    split (m n)
    (λ u. rw (u, ← e, u) (unmarked_past n m n (omega arith)))
    (λ u. rw (u, t, ← e, u)))
    (λ t. let e = eqb-false n j t in
    split (m n)
    (λ u. rw u (unmarked_has n m j (omega arith)))
    (λ u. rw (u, t) (unmarked_has n m j (omega arith))))

pub order_exists : (s : Station) → AllWaiting s (unmarked s.count (marked s))
order_exists s = record { once = unmarked_picks s.count (marked s); all = unmarked_has s.count (marked s) }
