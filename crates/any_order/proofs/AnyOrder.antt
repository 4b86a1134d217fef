-- An accepted set is safe in any order of its results (`any_order`): it ends with a record that the order has no part in.
-- The list of acts is followed from its front. What is still to come is one result of each instruction that has none
-- (`Owed`), with a result last; so as long as something is to come the set is outstanding, and the invariant goes on from
-- act to act to the end, where nothing comes after the last result. Assumes nothing.
use Prim.Native.Nat.{ℕ, ◌<◌}
use native.Mathlib.Omega.{arith}
use mathlib.Core.Path.{◌≡◌, refl, sym, ap, ap₂, ◌∙◌}
use mathlib.Core.List.{List, [], ◌∷◌, ◌++◌}
use mathlib.Core.Bool.{Bool, true, false, not, cond, ◌&&◌, and-false}
use lib.Dec.{ltb, eqb}
use borrow.Author.Tests.{ltb-true, ltb-false, lt-ltb, eqb-true, eq-eqb}
use Rattle.any_order.proofs.Rules.{Rules, Framed}
use Rattle.any_order.proofs.Machine.{Batch, Station, Outcome, moves, Act, result, event, mark, opened, outstanding, accepted, blocks, noted, idle, released, taken, says, step, run}
use Rattle.any_order.proofs.Orders.{results_of, events_of, AsChosen, Order, Fair, replies, events_alone, AtEnd}
use Rattle.any_order.proofs.Statements.{AnyOrder}
use Rattle.bits.proofs.Cases.{split, clash}
use Rattle.bits.proofs.Search.{none_is}
use Rattle.any_order.proofs.Facts.{due, still_open, accepted_has}
use Rattle.any_order.proofs.Invariant.{Scene, Inv, begin, still_allowed, success, failure, passes, alone, answer, moved, at_end_lem, same_end}
use Rattle.any_order.proofs.SetApart.{Gone, gone_none, gone_all, gone_more, gone_lift}

-- ---- what is still to come

one : (t : Bool) → 0 < cond t 1 0 → t ≡ true
one true h = refl
one false h = absurd (omega arith)

module _ {E : Type 0} where
  -- a result is last, where r says whether the act before the list was one
  abbrev ends_in_result : Bool → List (Act E) → Bool
  ends_in_result r [] = r
  ends_in_result r (result i o ∷ l) = ends_in_result true l
  ends_in_result r (event e ∷ l) = ends_in_result false l

  ends : (r : Bool) (l : List (Act E)) (j : ℕ) (o : Outcome) → ends_in_result r (l ++ (result j o ∷ [])) ≡ true
  ends r [] j o = refl
  ends r (result i x ∷ l) j o = ends true l j o
  ends r (event e ∷ l) j o = ends false l j o

  coming : (l : List (Act E)) → ends_in_result false l ≡ true → (j : ℕ) × (0 < results_of j l)
  coming [] e = clash e refl
  coming (result i o ∷ l) e = (i, rw (eq-eqb i i refl) (omega arith))
  coming (event x ∷ l) e = coming l e

  -- of n instructions, each that is not answered has one result, and there is no other result
  record Owed (n : ℕ) (ans : ℕ → Bool) (l : List (Act E)) : Type 0 where
    results : (j : ℕ) → results_of j l ≡ cond (ltb j n && not (ans j)) 1 0

  owed_all : {n : ℕ} {choice : ℕ → Outcome} {es : List E} {l : List (Act E)} → Order n choice es l → Owed n (λ j. false) l
  owed_all {n} O = record { results = λ j. split (ltb j n) (λ t. rw t (O.once j (ltb-true j n t))) (λ t. rw t (O.only j (ltb-false j n t))) }

  owed_now : {n : ℕ} {ans : ℕ → Bool} {i : ℕ} {o : Outcome} {l : List (Act E)} → Owed n ans (result i o ∷ l) → ltb i n && not (ans i) ≡ true
  owed_now {i} w = one _ (omega (arith, rw (eq-eqb i i refl) at (w.results i)))

  owed_rest : {n : ℕ} {ans : ℕ → Bool} {i : ℕ} {o : Outcome} {l : List (Act E)} → Owed n ans (result i o ∷ l) → Owed n (mark i ans) l
  owed_rest {i} {l} w = record { results = λ j. split (eqb i j) (λ t. rw (t, and-false) (rw (eqb-true i j t) at none)) (λ t. rw t (omega (arith, rw t at (w.results j)))) }
    where
      none : results_of i l ≡ 0
      none = omega (arith, rw (eq-eqb i i refl, owed_now w) at (w.results i))

  owed_event : {n : ℕ} {ans : ℕ → Bool} {e : E} {l : List (Act E)} → Owed n ans (event e ∷ l) → Owed n ans l
  owed_event w = record { results = w.results }

  owed_none : {n : ℕ} {ans : ℕ → Bool} → Owed n ans [] → (j : ℕ) → j < n → ans j ≡ true
  owed_none {n} {ans} w j h = split (ans j) (λ t. t) (λ t. let z : ◌≡◌ {A = ℕ} 0 1 = rw (lt-ltb j n h, t) at (w.results j) in absurd (omega arith))

  pending : {n : ℕ} {ans : ℕ → Bool} {l : List (Act E)} → Owed n ans l → ends_in_result false l ≡ true → (i : ℕ) × (ltb i n && not (ans i) ≡ true)
  pending {l} w e = let (j, h) = coming l e in (j, one _ (rw (w.results j) at h))

-- ---- from act to act

module _ {W C O P I E : Type 0} {R : Rules W C I E} {view : I → W → O} {glance : E → W → P} (S : Scene R view glance) where
  -- the station while the set is outstanding
  abbrev holding : W → (ℕ → Bool) → (ℕ → Bool) → Station W I
  holding f ans away = record { bits = f; set = S.set; answered = ans; away = away }

  open_set : (f : W) (ans away : ℕ → Bool) (i : ℕ) → ltb i S.set.size && not (ans i) ≡ true → outstanding (holding f ans away) ≡ true
  open_set f ans away i t = let (h, u) = due S.set.size ans i t in still_open (holding f ans away) i h u

  -- what is set apart, where these are answered
  abbrev Away : (ℕ → Bool) → (ℕ → Bool) → Type 0
  Away = Gone R S.set S.choice S.away

  -- how the events are answered
  abbrev answers : W → List E → List ℕ
  answers g [] = []
  answers g (e ∷ es) = answer S g e ∷ answers (alone S g e) es

  -- what comes of a list of acts, from a station whose record the events alone would have made g
  record Settled (g : W) (s : Station W I) (l : List (Act E)) : Type 0 where
    fair : Fair R s l
    replied : replies R s l ≡ answers g (events_of l)
    end : AtEnd R S.set S.choice S.start (events_alone R S.set S.away g (events_of l)) (run R s l).bits
    gone : Away (λ j. true) (run R s l).away
    sound : R.sound (run R s l).bits ≡ true
    closed : run R s l ≡ idle R (run R s l).bits (run R s l).away

  -- nothing comes after the last result
  ended : (l : List (Act E)) {g f : W} {ans away : ℕ → Bool} → Inv S g f ans → Away ans away → Owed S.set.size ans l
      → ends_in_result true l ≡ true → outstanding (holding f ans away) ≡ false → Settled g (idle R f away) l
  ended [] {g} {f} {ans} v y w e q = record { fair = tt; replied = refl; end = at_end_lem S v (owed_none w); gone = gone_all R S.set S.choice S.away y (owed_none w); sound = v.sound; closed = refl }
  ended (result i o ∷ l) {g} {f} {ans} {away} v y w e q = clash (open_set f ans away i (owed_now w)) q
  ended (event x ∷ l) {g} {f} {ans} {away} v y w e q = let (i, t) = pending (owed_event w) e in clash (open_set f ans away i t) q

  -- the acts one after another
  settle : (l : List (Act E)) (r : Bool) {g f : W} {ans away : ℕ → Bool} → Inv S g f ans → Away ans away → Owed S.set.size ans l → AsChosen S.choice l
      → ends_in_result r l ≡ true → outstanding (holding f ans away) ≡ true → Settled g (holding f ans away) l
  settle [] r {g} {f} {ans} v y w c e t = clash t (none_is _ _ (λ j h. rw (owed_none w j h)))
  settle (result i o ∷ l) r {g} {f} {ans} {away} v y w c e k =
      let (h, free) = due S.set.size ans i (owed_now w) in
      let t : taken R (holding f ans away) (result i o) ≡ true = rw (lt-ltb i S.set.size h, free) in
      let n : Station W I = noted R (holding f ans away) i o in
      let p : step R (holding f ans away) (result i o) ≡ released R n = rw t in
      let v₁ = told (moves o) (ap moves c.0) h free in
      let y₁ = gone_more R S.set S.choice S.away y i h o c.0 in
      let w₁ = owed_rest w in
      let s : Settled g (step R (holding f ans away) (result i o)) l = rw p (split (outstanding n) (λ q. rw q (settle l true v₁ y₁ w₁ c.1 e q)) (λ q. rw q (ended l v₁ y₁ w₁ e q))) in
      record { fair = (t, (λ x. still_allowed S v i h free), s.fair); replied = s.replied; end = s.end; gone = s.gone; sound = s.sound; closed = s.closed }
    where
      told : (x : Bool) → x ≡ moves (S.choice i) → i < S.set.size → ans i ≡ false → Inv S g (cond x (R.next (S.set.at i) f) f) (mark i ans)
      told true p h u = success S v i h u (sym p)
      told false p h u = failure S v i (sym p)
  settle (event x ∷ l) r {g} {f} {ans} {away} v y w c e t =
      let m = moved S v x in
      let (q, a) = judged in
      let p : step R (holding f ans away) (event x) ≡ holding (alone S f x) ans away = rw q (push (passes S f x)) in
      let s : Settled (alone S g x) (step R (holding f ans away) (event x)) l = rw p (settle l false m.1 y (owed_event w) c e t) in
      record { fair = s.fair; replied = ap₂ ◌∷◌ (a ∙ m.0) s.replied; end = s.end; gone = s.gone; sound = s.sound; closed = s.closed }
    where
      -- what is set apart since makes no difference to an event
      judged : (taken R (holding f ans away) (event x) ≡ passes S f x) × (says R (holding f ans away) x ≡ answer S f x)
      judged = rw t (split (blocks R S.set) (λ b. rw b (refl, refl)) (λ b. rw (b, gone_lift R S.set S.choice S.away y b) (refl, refl)))

      push : (q : Bool) → cond q (holding (R.after x f) ans away) (holding f ans away) ≡ holding (cond q (R.after x f) f) ans away
      push true = refl
      push false = refl

  settled : (es : List E) (l : List (Act E)) → Order S.set.size S.choice es l → Settled S.start (opened S.set S.start S.away) l
  settled es l O =
      let (front, j, o, e) = O.last in
      let y : ends_in_result false l ≡ true = ap (ends_in_result false) e ∙ ends false front j o in
      let (i, t) = pending (owed_all O) y in
      settle l false (begin S) (gone_none R S.set S.choice S.away) (owed_all O) O.chosen y (open_set S.start (λ j. false) S.away i t)

-- ---- the theorem

module _ {W C O P I E : Type 0} (R : Rules W C I E) (view : I → W → O) (glance : E → W → P) (F : Framed R view glance) where
  abbrev scene : (b : Batch I) (f : W) (away : ℕ → Bool) → R.sound f ≡ true → accepted R b f away ≡ true → (ℕ → Outcome) → Scene R view glance
  scene b f away z t choice = record { frame = F; set = b; start = f; sound = z; ready = (accepted_has R b f away t).ready; away = away; choice = choice }

  pub any_order : AnyOrder R
  any_order b f away z t choice es l m P Q =
      let s = settled (scene b f away z t choice) es l P in
      let r = settled (scene b f away z t choice) es m Q in
      let e : events_of l ≡ events_of m = P.events ∙ sym Q.events in
      record {
        fair = (s.fair, r.fair);
        closed = (s.closed, r.closed);
        sound = (s.sound, r.sound);
        replies = s.replied ∙ rw e (sym r.replied);
        bits = same_end s.end (rw e r.end);
        away = λ k. s.gone.at k ∙ sym (r.gone.at k);
      }
