-- What becomes of an append, case by case. Assumes nothing.
use mathlib.Core.Path.{◌≡◌, refl, sym, ap, ap₂, ◌∙◌}
use mathlib.Core.Bool.{Bool, true, false, cond, not, ◌&&◌, ◌||◌}
use mathlib.Core.Logic.{◌⊎◌, inl, inr}
use mathlib.Core.List.{List, [], ◌∷◌}
use Prim.Native.Nat.{ℕ, zero, suc, ◌+◌, ◌-◌, ◌≤◌, ◌<◌}
use native.Mathlib.Omega.{arith}
use borrow.Author.Tests.{not-true, not-false, eq-eqb, ne_eqb, eqb-false, lt-ltb, le-ltb, ltb-true, ltb-false}
use lib.Dec.{eqb, ltb}
use lib.ListN.{length, get_or, take, drop, length-drop}
use lib.Seq.{drop-drop, length-take-le}
use Rattle.bits.proofs.Cases.{split}
use Rattle.station.specs.declared.Station.{Station}
use Rattle.service.specs.declared.Served.{Served}
use Rattle.service.specs.Runs.{Serving, Serves, serving}
use Rattle.journal_file.specs.declared.Front.{Front}
use Rattle.journal_file.specs.declared.Replay.{Replay}
use Rattle.journal_file.specs.declared.Step.{Step}
use Rattle.journal_file.specs.Appends.{Over, carried_of, payload_of, carries_messages, lead_of, carried_messages, front_of}
use Rattle.journal_file.specs.Replaying.{not_taken, append_taken, messages_taken, mark_most, mark_taken, step_by, LeavesStep, answers_made, stepping}
use Rattle.journal_file.proofs.Fronts.{Whole, whole, titled_most}

-- ---- messages

module _ (r : Replay) (f : Front) {n lead : ℕ} (w v : Served) (e : w ≡ v) (leads : lead ≡ lead_of f.kind) (long : n ≡ f.carries - lead_of f.kind) where
  abbrev code_tests : Bool
  code_tests = (eqb f.carries 0 || ltb f.carries lead) || not (eqb w.used n)

  tests : (eqb f.carries 0 || ltb f.carries (lead_of f.kind)) || not (eqb v.used (f.carries - lead_of f.kind)) ≡ code_tests
  tests =
      sym (ap₂ (λ (x y : Bool). (eqb f.carries 0 || x) || not y) (ap (ltb f.carries) leads)
      (ap₂ eqb (ap (λ (s : Served). s.used) e) long))

  pub not_all : code_tests ≡ true → not_taken r false ≡ messages_taken r f v.used v.station
  not_all t = sym (ap (λ (b : Bool). cond b (not_taken r false) (append_taken v.station f false)) (tests ∙ t))

  pub all_taken : code_tests ≡ false → append_taken w.station f false ≡ messages_taken r f v.used v.station
  all_taken t =
      ap (λ (s : Served). append_taken s.station f false) e
      ∙ sym (ap (λ (b : Bool). cond b (not_taken r false) (append_taken v.station f false)) (tests ∙ t))

-- ---- what stands behind the numbers

drop_cut : (l c : ℕ) (x : List ℕ) → drop l (take c x) ≡ take (c - l) (drop l x)
drop_cut zero c x = ap (λ (n : ℕ). take n x) (let z : c ≡ c - 0 = omega arith in z)
drop_cut (suc l) zero x = ap (λ (n : ℕ). take n (drop (suc l) x)) (let z : 0 ≡ 0 - suc l = omega arith in z)
drop_cut (suc l) (suc c) [] = none (suc c - suc l)
  where
    none : (n : ℕ) → ◌≡◌ {A = List ℕ} [] (take n [])
    none zero = refl
    none (suc n) = refl
drop_cut (suc l) (suc c) (b ∷ x) = drop_cut l c x ∙ ap (λ (n : ℕ). take n (drop l x)) (let z : c - l ≡ suc c - suc l = omega arith in z)

-- a slice from behind as many of them as there are
behind : (c l n : ℕ) (m : List ℕ) → n ≡ cond (ltb c l) c l → take (8 + c - (8 + n)) (drop (8 + n) m) ≡ drop l (take c (drop 8 m))
behind c l n m e = split (ltb c l) few all
  where
    few : ltb c l ≡ true → take (8 + c - (8 + n)) (drop (8 + n) m) ≡ drop l (take c (drop 8 m))
    few t =
        let k : n ≡ c = e ∙ ap (λ (b : Bool). cond b c l) t in
        let h = ltb-true c l t in
        ap (λ (i : ℕ). take i (drop (8 + n) m)) (let z : 8 + c - (8 + n) ≡ 0 = omega (arith, k) in z)
        ∙ ap (λ (i : ℕ). take i (drop l (drop 8 m))) (let z : 0 ≡ c - l = omega (arith, h) in z)
        ∙ sym (drop_cut l c (drop 8 m))

    all : ltb c l ≡ false → take (8 + c - (8 + n)) (drop (8 + n) m) ≡ drop l (take c (drop 8 m))
    all t =
        let k : n ≡ l = e ∙ ap (λ (b : Bool). cond b c l) t in
        ap₂ (λ (i j : ℕ). take i (drop (8 + j) m)) (let z : 8 + c - (8 + n) ≡ c - l = omega (arith, k) in z) k
        ∙ ap (take (c - l)) (sym (drop-drop l 8 m))
        ∙ sym (drop_cut l c (drop 8 m))

-- ---- a mark

module _ (r : Replay) (f : Front) where
  pub carries_more : mark_most f.kind < f.carries → not_taken r false ≡ mark_taken r f
  carries_more n = rw (lt-ltb (mark_most f.kind) f.carries n)

  module _ (n : f.carries ≤ mark_most f.kind) where
    pub closes : f.kind ≡ 4 → append_taken r.station f true ≡ mark_taken r f
    closes k = rw (le-ltb (mark_most f.kind) f.carries n, eq-eqb f.kind 4 k)

    pub ends : 2 ≤ f.kind → f.kind ≤ 3 → append_taken r.station f false ≡ mark_taken r f
    ends a b =
        rw (le-ltb (mark_most f.kind) f.carries n, ne_eqb f.kind 4 (λ k. omega arith))
        (split (eqb f.kind 2) (λ t. rw t) (λ t. rw (t, eq-eqb f.kind 3 (omega (arith, eqb-false f.kind 2 t)))))

    pub no_kind : (f.kind ≡ 4 → ⊥) → (f.kind ≡ 2 → ⊥) → (f.kind ≡ 3 → ⊥) → not_taken r false ≡ mark_taken r f
    no_kind k a b = rw (le-ltb (mark_most f.kind) f.carries n, ne_eqb f.kind 4 k, ne_eqb f.kind 2 a, ne_eqb f.kind 3 b)

-- which kinds carry messages
pub has_messages : (k : ℕ) → (k ≡ 1) ⊎ (k ≡ 5) → carries_messages k ≡ true
has_messages k (inl e) = rw e
has_messages k (inr e) = rw e

pub has_none : (k : ℕ) → ((k ≡ 1) ⊎ (k ≡ 5) → ⊥) → carries_messages k ≡ false
has_none k n = rw (ne_eqb k 1 (λ e. n (inl e)), ne_eqb k 5 (λ e. n (inr e)))

-- ---- what a whole append is known by

module _ (over : Over) (sum : ℕ) (m : List ℕ) (f : Front) (e : f ≡ front_of over sum m) (t : not f.whole ≡ false) where
  w : Whole over sum m
  w = whole over sum m (sym (ap (λ (x : Front). x.whole) e) ∙ not-false f.whole t)

  pub carries_is : f.carries ≡ carried_of m
  carries_is = ap (λ (x : Front). x.carries) (e ∙ w.is)

  pub carries_most : f.carries ≤ 65536
  carries_most = let k = carries_is in let h = titled_most over sum m w.title in omega arith

  pub carries_within : 8 + f.carries ≤ length m
  carries_within = let k = carries_is in let h = w.within in omega arith

  kind_is : f.kind ≡ get_or m 0 0
  kind_is = ap (λ (x : Front). x.kind) (e ∙ w.is)

  module _ {n : ℕ} (lead : n ≡ cond (ltb f.carries (lead_of f.kind)) f.carries (lead_of f.kind)) where
    pub messages_are : take (8 + f.carries - (8 + n)) (drop (8 + n) m) ≡ carried_messages m
    messages_are =
        behind f.carries (lead_of f.kind) n m lead
        ∙ ap₂ (λ (k c : ℕ). drop (lead_of k) (take c (drop 8 m))) kind_is carries_is

    pub messages_many : length (take (8 + f.carries - (8 + n)) (drop (8 + n) m)) ≡ f.carries - lead_of f.kind
    messages_many =
        ap length (behind f.carries (lead_of f.kind) n m lead)
        ∙ length-drop (lead_of f.kind) (take f.carries (drop 8 m))
        ∙ ap (λ (k : ℕ). k - lead_of f.kind)
        (length-take-le f.carries (drop 8 m) (let d = length-drop 8 m in let h = carries_within in omega (arith, d, h)))

-- ---- the code's answers

module _ {A : Type 0} (x y z : Bool) (a b c d : A) where
  pub first_of : x ≡ true → a ≡ cond x a (cond y b (cond z c d))
  first_of p = rw p

  pub second_of : x ≡ false → y ≡ true → b ≡ cond x a (cond y b (cond z c d))
  second_of p q = rw (p, q)

  pub third_of : x ≡ false → y ≡ false → z ≡ true → c ≡ cond x a (cond y b (cond z c d))
  third_of p q s = rw (p, q, s)

  pub last_of : x ≡ false → y ≡ false → z ≡ false → d ≡ cond x a (cond y b (cond z c d))
  last_of p q s = rw (p, q, s)

-- the room stays as it was where no answers are made
module _ (w c k : Bool) (out room : List ℕ) where
  unmade_whole : not w ≡ true → room ≡ cond (w && not c && k) out room
  unmade_whole p = rw (not-true w p)

  unmade_closed : not w ≡ false → c ≡ true → room ≡ cond (w && not c && k) out room
  unmade_closed p q = rw (not-false w p, q)

  unmade_mark : not w ≡ false → c ≡ false → k ≡ false → room ≡ cond (w && not c && k) out room
  unmade_mark p q s = rw (not-false w p, q, s)

  made : not w ≡ false → c ≡ false → k ≡ true → out ≡ cond (w && not c && k) out room
  made p q s = rw (not-false w p, q, s)

module _ (over : Over) (r : Replay) (m room : List ℕ) where
  -- what the messages would make
  abbrev run_of_lem : Serving
  run_of_lem = serving r.station (carried_messages m) room

  abbrev out_of : Front → Step
  out_of f = messages_taken r f run_of_lem.says.used run_of_lem.says.station

  -- by what stands at the front
  by_front : (f : Front) → f ≡ front_of over r.sum m → {q : Step} {out : List ℕ}
      → q ≡ step_by r f run_of_lem.says.used run_of_lem.says.station → out ≡ cond (answers_made r f) run_of_lem.leaves room → LeavesStep (stepping over r m room) q out
  unfolding stepping
  by_front f e a b = rw (← e) (a, b)

  module _ (f : Front) (e : f ≡ front_of over r.sum m) where
    pub none_whole : {q : Step} → not f.whole ≡ true → q ≡ not_taken r f.short → LeavesStep (stepping over r m room) q room
    none_whole t s =
        by_front f e
        (s ∙ first_of (not f.whole) r.closed (carries_messages f.kind) (not_taken r f.short) (not_taken r false) (out_of f) (mark_taken r f) t)
        (unmade_whole f.whole r.closed (carries_messages f.kind) run_of_lem.leaves room t)

    pub none_behind : {q : Step} → not f.whole ≡ false → r.closed ≡ true → q ≡ not_taken r false → LeavesStep (stepping over r m room) q room
    none_behind t u s =
        by_front f e
        (s ∙ second_of (not f.whole) r.closed (carries_messages f.kind) (not_taken r f.short) (not_taken r false) (out_of f) (mark_taken r f) t u)
        (unmade_closed f.whole r.closed (carries_messages f.kind) run_of_lem.leaves room t u)

    pub a_mark : {q : Step} → not f.whole ≡ false → r.closed ≡ false → carries_messages f.kind ≡ false → q ≡ mark_taken r f → LeavesStep (stepping over r m room) q room
    a_mark t u k s =
        by_front f e
        (s ∙ last_of (not f.whole) r.closed (carries_messages f.kind) (not_taken r f.short) (not_taken r false) (out_of f) (mark_taken r f) t u k)
        (unmade_mark f.whole r.closed (carries_messages f.kind) run_of_lem.leaves room t u k)

    pub messages_in : {q : Step} {out : List ℕ} {n : ℕ} → not f.whole ≡ false → r.closed ≡ false → carries_messages f.kind ≡ true
        → n ≡ cond (ltb f.carries (lead_of f.kind)) f.carries (lead_of f.kind)
        → (let w = serving r.station (take (8 + f.carries - (8 + n)) (drop (8 + n) m)) room in
        (q ≡ messages_taken r f w.says.used w.says.station) × (out ≡ w.leaves))
        → LeavesStep (stepping over r m room) q out
    messages_in t u k lead s =
        let p = ap (λ (bytes : List ℕ). serving r.station bytes room) (messages_are over r.sum m f e t lead) in
        by_front f e
        (s.0 ∙ ap (λ (w : Serving). messages_taken r f w.says.used w.says.station) p
        ∙ third_of (not f.whole) r.closed (carries_messages f.kind) (not_taken r f.short) (not_taken r false) (out_of f) (mark_taken r f) t u k)
        (s.1 ∙ ap (λ (w : Serving). w.leaves) p ∙ made f.whole r.closed (carries_messages f.kind) run_of_lem.leaves room t u k)
