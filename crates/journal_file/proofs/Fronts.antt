-- What stands at the front of some bytes, case by case, and what is known of a whole append. Assumes nothing.
use mathlib.Core.Path.{◌≡◌, refl, sym, ap, ap₂, ◌∙◌}
use mathlib.Core.Bool.{Bool, true, false, cond, not, ◌&&◌}
use mathlib.Core.List.{List}
use Prim.Native.Nat.{ℕ, ◌+◌, ◌-◌, ◌≤◌, ◌<◌}
use native.Mathlib.Omega.{arith}
use borrow.Author.Tests.{lt-ltb, le-ltb, leb-true, ltb-false}
use lib.Dec.{eqb, leb, ltb}
use lib.ListN.{length, get_or, take, drop}
use Rattle.bits.proofs.Cases.{clash, both, passed, failed}
use Rattle.codec.specs.Fours.{four_at}
use Rattle.journal_file.specs.declared.Front.{Front}
use Rattle.journal_file.specs.Appends.{Over, most_carried, around, carried_of, payload_of, titled, payload_right, no_front, whole_front, front_of}

-- a title that is right carries no more than an append may
pub titled_most : (over : Over) (sum : ℕ) (m : List ℕ) → titled over sum m ≡ true → carried_of m ≤ 65536
titled_most over sum m e = leb-true (carried_of m) 65536 (both (eqb (four_at 4 m) (over sum (take 4 m))) (leb (carried_of m) most_carried) e).1

-- ---- the code's answers

module _ (over : Over) (sum : ℕ) (m : List ℕ) where
  pub too_few : length m < 8 → no_front true ≡ front_of over sum m
  unfolding front_of
  too_few t = rw (lt-ltb (length m) 8 t)

  pub untitled : {b : Bool} → 8 ≤ length m → b ≡ titled over sum m → not b ≡ true → no_front false ≡ front_of over sum m
  unfolding front_of
  untitled e b t = rw (le-ltb (length m) 8 e, failed b t)

  pub ends_inside : {b : Bool} {n : ℕ} → 8 ≤ length m → b ≡ titled over sum m → not b ≡ false → n ≡ carried_of m
      → length m < n + 13 → no_front true ≡ front_of over sum m
  unfolding front_of
  ends_inside e b t n u = rw (le-ltb (length m) 8 e, passed b t, lt-ltb (length m) (carried_of m + 13) (omega (arith, n, u)))

  pub whole_at : {b d : Bool} {n s : ℕ} → 8 ≤ length m → b ≡ titled over sum m → not b ≡ false → n ≡ carried_of m
      → n + 13 ≤ length m → d ≡ payload_right over m → d ≡ true → s ≡ four_at (n + 8) m
      → record { whole = true; short = false; kind = get_or m 0 0; carries = n; sum = s } ≡ front_of over sum m
  unfolding front_of
  whole_at e b t n u d v s = rw (le-ltb (length m) 8 e, passed b t, le-ltb (length m) (carried_of m + 13) (omega (arith, n, u)), sym d ∙ v, s, n)

  pub wrong_at : {b d : Bool} {n : ℕ} → 8 ≤ length m → b ≡ titled over sum m → not b ≡ false → n ≡ carried_of m
      → n + 13 ≤ length m → d ≡ payload_right over m → d ≡ false → no_front false ≡ front_of over sum m
  unfolding front_of
  wrong_at e b t n u d v = rw (le-ltb (length m) 8 e, passed b t, le-ltb (length m) (carried_of m + 13) (omega (arith, n, u)), sym d ∙ v)

-- ---- a whole append

-- only the last case is whole
last_case : (a b c d : Bool) (x : Front)
    → (cond a (no_front true) (cond (not b) (no_front false) (cond c (no_front true) (cond d x (no_front false))))).whole ≡ true
    → (a ≡ false) × (b ≡ true) × (c ≡ false) × (d ≡ true)
last_case true b c d x e = clash e refl
last_case false false c d x e = clash e refl
last_case false true true d x e = clash e refl
last_case false true false true x e = (refl, refl, refl, refl)
last_case false true false false x e = clash e refl

-- its title is right, it lies within the bytes, and what it carries is right
pub record Whole (over : Over) (sum : ℕ) (m : List ℕ) : Type 0 where
  pub is : front_of over sum m ≡ whole_front m
  pub title : titled over sum m ≡ true
  pub within : carried_of m + 13 ≤ length m
  pub right : payload_right over m ≡ true

pub whole : (over : Over) (sum : ℕ) (m : List ℕ) → (front_of over sum m).whole ≡ true → Whole over sum m
unfolding front_of
whole over sum m e =
    let l = last_case (ltb (length m) 8) (titled over sum m) (ltb (length m) (carried_of m + around)) (payload_right over m) (whole_front m) e in
    record {
      is = rw (l.0, l.1, l.2, l.3);
      title = l.1;
      within = ltb-false (length m) (carried_of m + around) l.2;
      right = l.3;
    }

-- ---- what is carried, as the code looks at it

pub carried_by : (over : Over) (m : List ℕ) (n : ℕ) {before said sum : ℕ} → n ≡ carried_of m → before ≡ four_at 4 m → said ≡ four_at (n + 8) m
    → sum ≡ over before (take (n + 8 - 8) (drop 8 m)) → eqb said sum && eqb (get_or m (n + 12) 0) 10 ≡ payload_right over m
carried_by over m n {before} {said} {sum} c b s e =
    let p : n + 8 - 8 ≡ carried_of m = omega (arith, c) in
    ap₂ ◌&&◌
    (ap₂ eqb (s ∙ ap (λ (k : ℕ). four_at (k + 8) m) c) (e ∙ ap (λ (k : ℕ). over k (take (n + 8 - 8) (drop 8 m))) b ∙ ap (λ (k : ℕ). over (four_at 4 m) (take k (drop 8 m))) p))
    (ap (λ (k : ℕ). eqb (get_or m (k + 12) 0) 10) c)
