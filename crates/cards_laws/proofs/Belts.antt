-- A belt move carries along the places of its span that bear a number. That its takings and its bits are those of a span that slides is
-- computed at every well-formed move. Assumes nothing.
use mathlib.Core.Path.{◌≡◌, sym, ap, subst, ◌∙◌}
use mathlib.Core.Logic.{◌⊎◌, inl, inr, ⊎_elim}
use mathlib.Core.Bool.{Bool, true, false, cond, not, ◌&&◌, and-true}
use mathlib.Core.List.{List, [], ◌∷◌}
use Prim.Native.Nat.{ℕ, ◌+◌, ◌-◌, ◌≤◌, ◌<◌}
use native.Mathlib.Omega.{arith}
use lib.Dec.{T, eqb, leb, eqb→eq, leb→le}
use lib.ListN.{length, get_or}
use borrow.Author.Tests.{ne_eqb, not-true}
use Rattle.bits.specs.Bits.{Bits, count}
use Rattle.bits.specs.Places.{from, elem, is_empty, adjacent}
use Rattle.bits.specs.Search.{every}
use Rattle.bits.proofs.Cases.{split, clash, off, and_l, and_r, and_T, under, T→true, true→T}
use Rattle.bits.proofs.Counts.{count_zero, elem_from, from_elem}
use Rattle.bits.proofs.Lists.{same, same_eq}
use Rattle.bits.proofs.Search.{each as each_below, lt_or_ge}
use Rattle.bits.proofs.Sharing.{all_pass, pass_at}
use Rattle.floor.specs.Tests.{Test, fact, set, exactly, even, no, both, either, holds, all_hold, changed}
use Rattle.floor.proofs.Reading.{found, found_law, nth_holds}
use Rattle.rules.specs.declared.Instruction.{Instruction}
use Rattle.rules.specs.declared.Instruction.TheVariants.{Belts, Shuttles, Tilt, Lift, Rotate}
use Rattle.rules.specs.Named.{higher, cells, step, end}
use Rattle.rules.specs.Rules.{well_formed, conditions, changes}
use Rattle.rules.proofs.Every.{everywhere, each}
use Rattle.rules_laws.proofs.Tried.{targets, not_target}
use Rattle.cards.specs.Given.{bears}
use Rattle.cards.specs.Following.{no_source, first_place, Taking, takings}
use Rattle.cards.specs.Private.{source}
use Rattle.cards_laws.proofs.Anchors.{comes, free_none}
use Rattle.cards_laws.proofs.Sliding.{Slid, slid_outside, slid_inside}
use Rattle.cards_laws.proofs.Sources.{takers, source_same}

-- ---- a span that slides up or down

-- of the m + n places from a on the last n are at the end toward which the numbers go, and each takes from n places behind
abbrev slides : Bool → ℕ → ℕ → ℕ → List Taking → List ℕ → Bool
slides up a m n ts ends =
    every n (λ d. cond up (eqb (source ts (a + d)) no_source && elem (a + m + d) ends) (eqb (source ts (a + m + d)) no_source && elem (a + d) ends))
    && every m (λ d. cond up (eqb (source ts (a + d + n)) (a + d)) (eqb (source ts (a + d)) (a + d + n)))

-- what a move does to the places that bear a number
pub record Follows (f g : Bits) (s : ℕ → ℕ) : Type 0 where
  pub there : (k : ℕ) → bears g k ≡ comes (bears f) (s k)
  pub goes : (k : ℕ) → bears f k ≡ true → (j : ℕ) × (s j ≡ k)

-- a place outside the p + q places from a on, among the first p of them, or among the last q
data Where (a p q k : ℕ) : Type 0 where
  out : (k < a) ⊎ (a + p + q ≤ k) → Where a p q k
  front : (d : ℕ) → d < p → a + d ≡ k → Where a p q k
  rear : (d : ℕ) → d < q → a + p + d ≡ k → Where a p q k

where_is : (a p q k : ℕ) → Where a p q k
where_is a p q k = ⊎_elim
    (λ (l : k < a). out (inl l))
    (λ (l : a ≤ k). ⊎_elim
    (λ (h : k < a + p). front (k - a) (omega arith) (omega arith))
    (λ (h : a + p ≤ k). ⊎_elim
    (λ (j : k < a + p + q). rear (k - (a + p)) (omega arith) (omega arith))
    (λ (j : a + p + q ≤ k). out (inr j)) (lt_or_ge k (a + p + q))) (lt_or_ge k (a + p))) (lt_or_ge k a)

module _ (a m n : ℕ) (ts : List Taking) (ends : List ℕ) (f g : Bits)
    (row : (a + m + n ≤ 20) ⊎ ((20 ≤ a) × (a + m + n ≤ 40)))
    (new : (k : ℕ) → a ≤ k → k < a + m + n → g k ≡ comes f (source ts k))
    (kept : (k : ℕ) → (k < a) ⊎ (a + m + n ≤ k) → (g k ≡ f k) × (source ts k ≡ k))
    (free : (k : ℕ) → T (elem k ends) → f k ≡ false)
  where
    abbrev s : ℕ → ℕ
    s = source ts

    low : a + m + n ≤ 40
    low = ⊎_elim (λ (l : a + m + n ≤ 20). omega arith) (λ (l : (20 ≤ a) × (a + m + n ≤ 40)). l.1) row

    -- a place that takes from the span, or from nowhere
    some : (h : Bits) (j k : ℕ) → j < 40 → s k ≡ j → comes h (s k) ≡ h j
    some h j k l e = ap (comes h) e ∙ rw (ne_eqb j no_source (omega arith))

    none : (h : Bits) (k : ℕ) → s k ≡ no_source → comes h (s k) ≡ false
    none h k e = ap (comes h) e

    outside : (k : ℕ) → (k < a) ⊎ (a + m + n ≤ k) → bears g k ≡ bears f k → bears g k ≡ comes (bears f) (s k)
    outside k o e = split (eqb k no_source)
        (λ t. let i = eqb→eq k no_source (true→T t) in ap (bears g) i ∙ sym (none (bears f) k ((kept k o).1 ∙ i)))
        (λ t. e ∙ sym (ap (comes (bears f)) (kept k o).1 ∙ rw t))

    -- place k takes what is due
    abbrev Comes : ℕ → Type 0
    Comes k = bears g k ≡ comes (bears f) (s k)

    swap : (k : ℕ) → (k < a) ⊎ (a + n + m ≤ k) → (k < a) ⊎ (a + m + n ≤ k)
    swap k o = ⊎_elim (λ (l : k < a). inl l) (λ (l : a + n + m ≤ k). inr (omega arith)) o

    module _ (t : T (slides true a m n ts ends)) where
      left : (d : ℕ) → d < n → (s (a + d) ≡ no_source) × T (elem (a + m + d) ends)
      left d h =
          let p = each_below n _ (and_l (every n _) (every m _) t) d h in
          (eqb→eq (s (a + d)) no_source (and_l (eqb (s (a + d)) no_source) (elem (a + m + d) ends) p), and_r (eqb (s (a + d)) no_source) (elem (a + m + d) ends) p)

      behind : (d : ℕ) → d < m → s (a + d + n) ≡ a + d
      behind d h = eqb→eq (s (a + d + n)) (a + d) (each_below m _ (and_r (every n _) (every m _) t) d h)

      up : Slid a m n f g
      up = record {
        low = λ k h. (kept k (inl h)).0;
        high = λ k h. (kept k (inr h)).0;
        left = λ d h. new (a + d) (omega arith) (omega arith) ∙ none f (a + d) (left d h).0;
        moved = λ d h. new (a + d + n) (omega arith) (omega arith) ∙ some f (a + d) (a + d + n) (omega (arith, low)) (behind d h);
        end = λ d h. free (a + m + d) (left d h).1;
      }

      up_there : (k : ℕ) → Where a n m k → bears g k ≡ comes (bears f) (s k)
      up_there k (out o) = let o' = swap k o in outside k o' (slid_outside a m n f g up k o')
      up_there k (front d h e) =
          subst Comes e (free_none g (a + d) (up.left d h) ∙ sym (none (bears f) (a + d) (left d h).0))
      up_there k (rear d h e) =
          let q : a + d + n ≡ k = omega arith in
          subst Comes q
          (slid_inside a m n f g up row d h ∙ sym (some (bears f) (a + d) (a + d + n) (omega (arith, low)) (behind d h)))

      up_goes : (k : ℕ) → Where a m n k → bears f k ≡ true → (j : ℕ) × (s j ≡ k)
      up_goes k (out o) e = (k, (kept k o).1)
      up_goes k (front d h q) e = (a + d + n, behind d h ∙ q)
      up_goes k (rear d h q) e = clash e (subst (λ (x : ℕ). bears f x ≡ false) q (free_none f (a + m + d) (up.end d h)))

    module _ (t : T (slides false a m n ts ends)) where
      right : (d : ℕ) → d < n → (s (a + m + d) ≡ no_source) × T (elem (a + d) ends)
      right d h =
          let p = each_below n _ (and_l (every n _) (every m _) t) d h in
          (eqb→eq (s (a + m + d)) no_source (and_l (eqb (s (a + m + d)) no_source) (elem (a + d) ends) p), and_r (eqb (s (a + m + d)) no_source) (elem (a + d) ends) p)

      before : (d : ℕ) → d < m → s (a + d) ≡ a + d + n
      before d h = eqb→eq (s (a + d)) (a + d + n) (each_below m _ (and_r (every n _) (every m _) t) d h)

      -- the record before is the one after, slid up
      down : Slid a m n g f
      down = record {
        low = λ k h. sym (kept k (inl h)).0;
        high = λ k h. sym (kept k (inr h)).0;
        left = λ d h. free (a + d) (right d h).1;
        moved = λ d h. sym (new (a + d) (omega arith) (omega arith) ∙ some f (a + d + n) (a + d) (omega (arith, low)) (before d h));
        end = λ d h. new (a + m + d) (omega arith) (omega arith) ∙ none f (a + m + d) (right d h).0;
      }

      down_there : (k : ℕ) → Where a m n k → bears g k ≡ comes (bears f) (s k)
      down_there k (out o) = outside k o (sym (slid_outside a m n g f down k o))
      down_there k (front d h q) =
          subst Comes q (sym (slid_inside a m n g f down row d h) ∙ sym (some (bears f) (a + d + n) (a + d) (omega (arith, low)) (before d h)))
      down_there k (rear d h q) =
          subst Comes q (free_none g (a + m + d) (down.end d h) ∙ sym (none (bears f) (a + m + d) (right d h).0))

      down_goes : (k : ℕ) → Where a n m k → bears f k ≡ true → (j : ℕ) × (s j ≡ k)
      down_goes k (out o) e = (k, (kept k (swap k o)).1)
      down_goes k (front d h q) e = clash e (subst (λ (x : ℕ). bears f x ≡ false) q (free_none f (a + d) (down.left d h)))
      down_goes k (rear d h q) e = let r : a + d + n ≡ k = omega arith in (a + d, before d h ∙ r)

    span_follows : (up : Bool) → T (slides up a m n ts ends) → Follows f g s
    span_follows true t = record { there = λ k. up_there t k (where_is a n m k); goes = λ k. up_goes t k (where_is a m n k) }
    span_follows false t = record { there = λ k. down_there t k (where_is a m n k); goes = λ k. down_goes t k (where_is a n m k) }

-- ---- the test that gives a bit asks for one place alone, or says that the bit is 0 where nothing comes

abbrev asks : Test → ℕ → Bool
asks (fact b) s = not b && eqb s no_source
asks (set []) s = false
asks (set (x ∷ [])) s = eqb x s && not (eqb s no_source)
asks (set (x ∷ y ∷ ks)) s = false
asks (exactly n ks) s = false
asks (even ks) s = false
asks (no t) s = false
asks (both t u) s = false
asks (either t u) s = false

asks_law : (f : Bits) (t : Test) (s : ℕ) → T (asks t s) → holds t f ≡ comes f s
asks_law f (fact true) s h = absurd h
asks_law f (fact false) s h = rw (T→true (eqb s no_source) h)
asks_law f (set []) s h = absurd h
asks_law f (set (x ∷ [])) s h =
    let o : not (eqb s no_source) ≡ true = T→true _ (and_r (eqb x s) (not (eqb s no_source)) h) in
    rw (not-true (eqb s no_source) o) (and-true (f x) ∙ ap f (eqb→eq x s (and_l (eqb x s) (not (eqb s no_source)) h)))
asks_law f (set (x ∷ y ∷ ks)) s h = absurd h
asks_law f (exactly n ks) s h = absurd h
asks_law f (even ks) s h = absurd h
asks_law f (no t) s h = absurd h
asks_law f (both t u) s h = absurd h
asks_law f (either t u) s h = absurd h

-- ---- computed at every move whose belts have no gap

module _ (row mask toward size : ℕ) where
  abbrev i : Instruction
  i = Belts row mask toward size

  abbrev cs : List ℕ
  cs = cells row mask

  abbrev n : ℕ
  n = step row size

  abbrev m : ℕ
  m = length cs - n

  abbrev a : ℕ
  a = first_place cs

  abbrev ts : List Taking
  ts = takings i true

  abbrev in_row : Bool
  in_row = cond (eqb row 1) (leb (a + m + n) 20) (leb 20 a && leb (a + m + n) 40)

  abbrev span : Bool
  span = same cs (from a (m + n)) && (same (takers ts) cs && in_row)

  abbrev moves : Bool
  moves = slides (higher toward) a m n ts (end toward n cs)

  abbrev bits : Bool
  bits = all_pass (λ k. asks (found (changes i) k) (source ts k)) cs && all_pass (λ k. elem k cs) (targets (changes i))

  abbrev span_right : Bool
  span_right = cond (not (is_empty cs) && adjacent cs) (span && (moves && bits)) true

abbrev belt_right : Instruction → Bool
belt_right (Belts row mask toward size) = span_right row mask toward size
belt_right (Shuttles side mask orientation toward) = true
belt_right (Tilt side row orientation) = true
belt_right (Lift height) = true
belt_right Rotate = true

all_right_lem : T (everywhere belt_right)
unfolding everywhere every source
all_right_lem = tt

pub belts_follow : (row mask toward size : ℕ) (f : Bits)
    → T (well_formed (Belts row mask toward size)) → T (all_hold (conditions (Belts row mask toward size)) f)
    → Follows f (changed (changes (Belts row mask toward size)) f) (source (takings (Belts row mask toward size) true))
belts_follow row mask toward size f w t =
    span_follows A M N S (end toward N C) f g in_row_lem new kept free (higher toward) (and_l (moves row mask toward size) (bits row mask toward size) moving)
  where
    C : List ℕ
    C = cells row mask

    N : ℕ
    N = step row size

    M : ℕ
    M = length C - N

    A : ℕ
    A = first_place C

    S : List Taking
    S = takings (Belts row mask toward size) true

    g : Bits
    g = changed (changes (Belts row mask toward size)) f

    c : (j : ℕ) → T (holds (get_or (conditions (Belts row mask toward size)) j (fact true)) f)
    c = nth_holds f (conditions (Belts row mask toward size)) t

    all : T (span row mask toward size && (moves row mask toward size && bits row mask toward size))
    all =
        under (not (is_empty C) && adjacent C) _ (T→true _ (and_T (not (is_empty C)) (adjacent C) (c 1) (c 2)))
        (each belt_right all_right_lem (Belts row mask toward size) w)

    moving : T (moves row mask toward size && bits row mask toward size)
    moving = and_r (span row mask toward size) _ all

    spanned : T (same C (from A (M + N)) && (same (takers S) C && in_row row mask toward size))
    spanned = and_l (span row mask toward size) _ all

    is_span : C ≡ from A (M + N)
    is_span = same_eq C (from A (M + N)) (and_l (same C (from A (M + N))) _ spanned)

    take_span : takers S ≡ C
    take_span = same_eq (takers S) C (and_l (same (takers S) C) (in_row row mask toward size) (and_r (same C (from A (M + N))) _ spanned))

    in_row_lem : (A + M + N ≤ 20) ⊎ ((20 ≤ A) × (A + M + N ≤ 40))
    in_row_lem = go (eqb row 1) (and_r (same (takers S) C) (in_row row mask toward size) (and_r (same C (from A (M + N))) _ spanned))
      where
        go : (b : Bool) → T (cond b (leb (A + M + N) 20) (leb 20 A && leb (A + M + N) 40)) → (A + M + N ≤ 20) ⊎ ((20 ≤ A) × (A + M + N ≤ 40))
        go true h = inl (leb→le (A + M + N) 20 h)
        go false h = inr (leb→le 20 A (and_l (leb 20 A) (leb (A + M + N) 40) h), leb→le (A + M + N) 40 (and_r (leb 20 A) (leb (A + M + N) 40) h))

    made : T (bits row mask toward size)
    made = and_r (moves row mask toward size) (bits row mask toward size) moving

    new : (k : ℕ) → A ≤ k → k < A + M + N → g k ≡ comes f (source S k)
    new k l h =
        found_law (changes (Belts row mask toward size)) f k
        ∙ asks_law f (found (changes (Belts row mask toward size)) k) (source S k)
        (pass_at (λ k. asks (found (changes (Belts row mask toward size)) k) (source S k)) C
        (and_l (all_pass (λ k. asks (found (changes (Belts row mask toward size)) k) (source S k)) C) _ made) k
        (subst (λ (ks : List ℕ). T (elem k ks)) (sym is_span) (elem_from k A (M + N) l (omega arith))))

    not_in : (k : ℕ) → (k < A) ⊎ (A + M + N ≤ k) → elem k C ≡ false
    not_in k o = off (elem k C) (λ m.
        let b = from_elem k A (M + N) (subst (λ (ks : List ℕ). T (elem k ks)) is_span (true→T m)) in
        ⊎_elim (λ (l : k < A). absurd (omega (arith, b.0))) (λ (l : A + M + N ≤ k). absurd (omega (arith, b.1))) o)

    kept : (k : ℕ) → (k < A) ⊎ (A + M + N ≤ k) → (g k ≡ f k) × (source S k ≡ k)
    kept k o = (
      not_target (changes (Belts row mask toward size)) f k (off (elem k (targets (changes (Belts row mask toward size)))) (λ m.
          clash (T→true (elem k C) (pass_at (λ k. elem k C) (targets (changes (Belts row mask toward size)))
          (and_r (all_pass (λ k. asks (found (changes (Belts row mask toward size)) k) (source S k)) C) _ made) k (true→T m)))
          (not_in k o))),
      source_same S k (ap (elem k) take_span ∙ not_in k o),
    )

    free : (k : ℕ) → T (elem k (end toward N C)) → f k ≡ false
    free k m = count_zero (end toward N C) f (eqb→eq (count (end toward N C) f) 0 (c 4)) k m
