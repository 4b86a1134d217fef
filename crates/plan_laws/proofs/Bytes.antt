-- A plan and its bytes: what is written reads back, what reads is the only form, and no plan is longer than 325,398 bytes. Assumes nothing.
use mathlib.Core.Path.{◌≡◌, refl, sym, ap, ap₂, ◌∙◌}
use mathlib.Core.List.{List, [], ◌∷◌, ◌++◌}
use Prim.Native.Nat.{ℕ, zero, suc, ◌+◌, ◌*◌, ◌≤◌}
use native.Mathlib.Omega.{arith}
use lib.ListN.{length, get_or, take, drop, length-append, length-drop, take-append-drop}
use lib.Seq.{take_at, drop_at, drop-drop, drop-cons}
use Rattle.codec.specs.Bytes.{little_endian, from_little_endian, Bytes}
use Rattle.codec.proofs.Numbers.{bytes_drop, number_back, number_form}
use Rattle.plan.specs.Plans.{PlanSet, Plan, sizes, size_of, set_in, sets_in, plan_in, plan_size}
use Rattle.plan.proofs.Walking.{number_at, plan_sets}
use Rattle.plan_laws.specs.Trials.{sets_bytes, plan_bytes, Fives, PlanTyped}
use Rattle.plan_laws.specs.Promises.{PlanReadsBack, PlanOneForm}

-- ---- read back

sets_size : (xs : List PlanSet) → Fives xs → length (sets_bytes xs) ≡ sizes xs
sets_size [] f = refl
sets_size (x ∷ xs) f =
    let l = length-append x.bytes (sets_bytes xs) in
    omega (arith, l, f.0, sets_size xs f.1)

sets_back : (xs : List PlanSet) → Fives xs → sets_in (length xs) (sets_bytes xs) ≡ xs
sets_back [] f = refl
sets_back (x ∷ xs) f =
    let z : 1 + 5 * x.count ≡ suc (5 * x.count) = omega arith in
    rw (z, take_at x.bytes (sets_bytes xs) (5 * x.count) f.0, drop_at x.bytes (sets_bytes xs) (5 * x.count) f.0) (ap (◌∷◌ x) (sets_back xs f.1))

read_back : (p : Plan) → PlanTyped p → plan_in (plan_bytes p) ≡ p
read_back p T =
    let t = p.wish ∷ length p.sets ∷ sets_bytes p.sets in
    let b : from_little_endian 8 0 (plan_bytes p) ≡ p.bits = number_back 8 p.bits (little_endian 8 p.apart ++ t) T.bits in
    let a : from_little_endian 8 8 (plan_bytes p) ≡ p.apart = sym (number_at 8 8 (plan_bytes p)) ∙ number_back 8 p.apart t T.apart in
    rw (b, a, sets_back p.sets T.sets)

pub plan_reads_back : PlanReadsBack
plan_reads_back p T =
    let e = read_back p T in (
      record {
        whole = (let l : length (plan_bytes p) ≡ plan_size p = omega (arith, sets_size p.sets T.sets) in l ∙ ap plan_size (sym e));
        wish = T.wish;
      },
      e,
    )

-- ---- one form

sets_form : (n : ℕ) (t : List ℕ) → length t ≡ sizes (sets_in n t) → sets_bytes (sets_in n t) ≡ t
sets_form zero [] h = refl
sets_form zero (c ∷ t) h = absurd (omega arith)
sets_form (suc n) [] h = absurd (omega arith)
sets_form (suc n) (c ∷ t) h =
    let z : 1 + 5 * c ≡ suc (5 * c) = omega arith in
    let h₁ : length (c ∷ t) ≡ suc (5 * c) + sizes (sets_in n (drop (5 * c) t)) = rw z at h in
    let rest : length (drop (5 * c) t) ≡ sizes (sets_in n (drop (5 * c) t)) = omega (arith, h₁, length-drop (5 * c) t) in
    rw z (ap (λ (u : List ℕ). c ∷ (take (5 * c) t ++ u)) (sets_form n (drop (5 * c) t) rest) ∙ ap (◌∷◌ c) (take-append-drop (5 * c) t))

-- the head and what follows it
in_parts : (s : List ℕ) → 18 ≤ length s → take 8 s ++ (take 8 (drop 8 s) ++ (get_or s 16 0 ∷ get_or s 17 0 ∷ drop 18 s)) ≡ s
in_parts s h =
    let last : drop 17 s ≡ get_or s 17 0 ∷ drop 18 s = drop-cons s 17 0 (omega arith) in
    let both : drop 16 s ≡ get_or s 16 0 ∷ get_or s 17 0 ∷ drop 18 s = drop-cons s 16 0 (omega arith) ∙ ap (◌∷◌ (get_or s 16 0)) last in
    let second : drop 8 s ≡ take 8 (drop 8 s) ++ get_or s 16 0 ∷ get_or s 17 0 ∷ drop 18 s =
    sym (take-append-drop 8 (drop 8 s)) ∙ ap (λ (t : List ℕ). take 8 (drop 8 s) ++ t) (drop-drop 8 8 s ∙ both) in
    ap (λ (t : List ℕ). take 8 s ++ t) (sym second) ∙ take-append-drop 8 s

pub plan_one_form : PlanOneForm
plan_one_form s b P =
    let l : 18 ≤ length s = omega (arith, P.whole) in
    let rest : length (drop 18 s) ≡ sizes (plan_in s).sets = omega (arith, P.whole, length-drop 18 s) in
    let x : little_endian 8 (from_little_endian 8 0 s) ≡ take 8 s = number_form 8 s b (omega arith) in
    let y : little_endian 8 (from_little_endian 8 8 s) ≡ take 8 (drop 8 s) =
    ap (little_endian 8) (sym (number_at 8 8 s)) ∙ number_form 8 (drop 8 s) (bytes_drop 8 s b) (omega (arith, length-drop 8 s)) in
    let z : sets_bytes (plan_in s).sets ≡ drop 18 s = sets_form (get_or s 17 0) (drop 18 s) rest in
    joined (little_endian 8 (from_little_endian 8 0 s)) (little_endian 8 (from_little_endian 8 8 s)) x y (plan_sets s) z ∙ in_parts s l
  where
    -- each part by the bytes that it is
    joined : (f g : List ℕ) {f' g' : List ℕ} {n : ℕ} {r r' : List ℕ} → f ≡ f' → g ≡ g' → n ≡ get_or s 17 0 → r ≡ r'
        → f ++ (g ++ (get_or s 16 0 ∷ n ∷ r)) ≡ f' ++ (g' ++ (get_or s 16 0 ∷ get_or s 17 0 ∷ r'))
    joined f g a c d e = ap₂ ◌++◌ a (ap₂ ◌++◌ c (ap₂ (λ (n : ℕ) (r : List ℕ). get_or s 16 0 ∷ n ∷ r) d e))

-- ---- how long a plan can be

sets_long : (n : ℕ) (t : List ℕ) → Bytes t → sizes (sets_in n t) ≤ 1276 * n
sets_long zero t b = omega arith
sets_long (suc n) t b = omega (arith, b 0, sets_long n (drop (size_of (set_in t)) t) (bytes_drop (size_of (set_in t)) t b))

pub plan_long : (s : List ℕ) → Bytes s → plan_size (plan_in s) ≤ 325398
plan_long s b = omega (arith, b 17, sets_long (get_or s 17 0) (drop 18 s) (bytes_drop 18 s b))
