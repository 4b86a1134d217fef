-- An allowed belt move keeps row 1 laid out as whole cars, and as many cells occupied in row 1 and in rows 2 and 3. Assumes nothing.
use mathlib.Core.Path.{◌≡◌, sym, ap, ◌∙◌, subst, fun_ext}
use mathlib.Core.Bool.{Bool, true, false, cond, not, ◌&&◌, ◌||◌}
use mathlib.Core.List.{List, [], ◌∷◌, ◌++◌, map, append_assoc}
use Prim.Native.Nat.{ℕ, zero, suc, ◌+◌, ◌-◌, ◌%◌, ◌≤◌, ◌<◌}
use native.Mathlib.Nat.{add-zero, add-suc}
use native.Mathlib.Omega.{arith}
use lib.Dec.{T, eqb, ltb, leb, eqb→eq, ltb→lt, leb→le}
use lib.ListN.{length, get_or, take, drop, replicate, length-map, length-append}
use Rattle.bits.specs.Bits.{Bits, digit, count}
use Rattle.bits.specs.Places.{from, is_empty, adjacent}
use Rattle.bits.specs.Search.{every}
use Rattle.bits.proofs.Cases.{and_l, and_r, split, true→T}
use Rattle.bits.proofs.Digits.{digit_zero}
use Rattle.bits.proofs.Counts.{length_from, drop_from, adjacent_from}
use Rattle.floor.specs.Floor.{raised_car}
use Rattle.floor.specs.Tests.{Test, fact, set, free, even, holds, all_hold, changed}
use Rattle.floor.proofs.Reading.{nth_holds}
use Rattle.floor.proofs.Rows.{below, Whole, count_from}
use Rattle.rules.specs.declared.Instruction.TheVariants.{Belts}
use Rattle.rules.specs.Named.{cells, higher, step, end, shift, one}
use Rattle.rules.specs.Rules.{belts_named, conditions, changes}
use Rattle.rules.proofs.Every.{rows, each_row}
use Rattle.rules_laws.proofs.Shift.{whole_same, Up, Down, Kept, then, up_kept, down_kept}
use Rattle.rules_laws.proofs.Spans.{given_id, now, given_up, given_down}

-- ---- a span of cells, from a to a + p

-- its cells as tests
abbrev bits : ℕ → ℕ → List Test
bits a m = map set (map one (from a m))

length_bits : (a m : ℕ) → length (bits a m) ≡ m
length_bits a m = simp (length-map, length_from)

module _ (a p : ℕ) (f : Bits) where
  -- the cells given themselves are the record
  id : now a p f (bits a (suc p)) ≡ f
  id = fun_ext (λ k. given_id f k (suc p) a)

  up_one : Up a (a + p) f (now a p f (fact false ∷ bits a (suc p)))
  up_one =
      subst (λ (h : Bits). Up a (a + p) h (now a p f (fact false ∷ bits a (suc p)))) id
      (given_up a p f (bits a (suc p)) (omega (arith, length_bits a (suc p))))

  half_up : f (a + p) ≡ false → Kept a (a + p) f (now a p f (fact false ∷ bits a (suc p)))
  half_up last = up_kept a (a + p) f (now a p f (fact false ∷ bits a (suc p))) (omega arith) up_one last

  down_one : Down a (a + p) f (now a p f (bits (suc a) p ++ fact false ∷ []))
  down_one =
      subst (λ (h : Bits). Down a (a + p) h (now a p f (bits (suc a) p ++ fact false ∷ []))) id
      (given_down a p f (set (one a)) (bits (suc a) p) (length_bits (suc a) p))

  half_down : f a ≡ false → Kept a (a + p) f (now a p f (bits (suc a) p ++ fact false ∷ []))
  half_down first = down_kept a (a + p) f (now a p f (bits (suc a) p ++ fact false ∷ [])) (omega arith) down_one first

-- a full move is two half moves
module _ (a q : ℕ) (f : Bits) where
  full_up : f (a + suc q) ≡ false → f (a + q) ≡ false → Kept a (a + suc q) f (now a (suc q) f (fact false ∷ fact false ∷ bits a (suc (suc q))))
  full_up last second =
      let g = now a (suc q) f (fact false ∷ bits a (suc (suc q))) in
      then (omega arith) (half_up a (suc q) f last)
      (up_kept a (a + suc q) g (now a (suc q) f (fact false ∷ fact false ∷ bits a (suc (suc q)))) (omega arith)
      (given_up a (suc q) f (fact false ∷ bits a (suc (suc q))) (omega (arith, length_bits a (suc (suc q)))))
      (ap g (add-suc a q) ∙ (up_one a (suc q) f).moved (a + q) (omega arith) (omega arith) ∙ second))

  full_down : f a ≡ false → f (suc a) ≡ false → Kept a (a + suc q) f (now a (suc q) f (bits (suc (suc a)) q ++ fact false ∷ fact false ∷ []))
  full_down first second =
      let g = now a (suc q) f (bits (suc a) (suc q) ++ fact false ∷ []) in
      then (omega arith) (half_down a (suc q) f first)
      (down_kept a (a + suc q) g (now a (suc q) f (bits (suc (suc a)) q ++ fact false ∷ fact false ∷ [])) (omega arith)
      (subst (λ (ts : List Test). Down a (a + suc q) g (now a (suc q) f ts))
      (append_assoc (bits (suc (suc a)) q) (fact false ∷ []) (fact false ∷ []))
      (given_down a (suc q) f (set (one (suc a))) (bits (suc (suc a)) q ++ fact false ∷ [])
      (length-append (bits (suc (suc a)) q) (fact false ∷ []) ∙ omega (arith, length_bits (suc (suc a)) q))))
      ((down_one a (suc q) f).moved a (omega arith) (omega arith) ∙ second))

-- the last m cells of a span are free: as many occupied below them as below the end
free_last : (f : Bits) (a p m : ℕ) → m ≤ suc p → T (holds (free (drop (length (from a (suc p)) - m) (from a (suc p)))) f) → below f (a + (suc p - m)) ≡ below f (suc (a + p))
free_last f a p m h t =
    let d = suc p - m in
    let c : count (from (a + d) (suc p - d)) f ≡ 0 =
    sym (ap (λ (ks : List ℕ). count ks f) (drop_from d a (suc p)))
    ∙ sym (ap (λ (l : ℕ). count (drop (l - m) (from a (suc p))) f) (length_from a (suc p)))
    ∙ eqb→eq (count (drop (length (from a (suc p)) - m) (from a (suc p))) f) 0 t in
    let e : a + d + (suc p - d) ≡ suc (a + p) = omega arith in
    omega (arith, c, count_from f (suc p - d) (a + d), ap (below f) e)

-- the span moves: up or down, by two or one
span_moves : (f : Bits) (up two : Bool) (a p : ℕ)
    → T (holds (free (cond up (drop (length (from a (suc p)) - cond two 2 1) (from a (suc p))) (take (cond two 2 1) (from a (suc p))))) f)
    → Kept a (a + p) f (now a p f (cond up (replicate (cond two 2 1) (fact false) ++ bits a (suc p)) (drop (cond two 2 1) (bits a (suc p)) ++ replicate (cond two 2 1) (fact false))))
span_moves f true false a p t =
    let e : a + (suc p - 1) ≡ a + p = omega arith in
    half_up a p f (digit_zero (f (a + p)) (omega (arith, free_last f a p 1 (omega arith) t, ap (below f) e)))
span_moves f true true a zero t =
    half_up a zero f (digit_zero (f (a + 0)) (omega (arith, eqb→eq (count (from a 1) f) 0 t, ap (λ (k : ℕ). digit (f k)) (add-zero a))))
span_moves f true true a (suc q) t =
    let e : a + (suc (suc q) - 2) ≡ a + q = omega arith in
    let l = free_last f a (suc q) 2 (omega arith) t in
    full_up a q f
    (digit_zero (f (a + suc q)) (omega (arith, l, ap (below f) e, ap (below f) (add-suc a q))))
    (digit_zero (f (a + q)) (omega (arith, l, ap (below f) e, ap (below f) (add-suc a q))))
span_moves f false false a p t =
    half_down a p f (digit_zero (f a) (omega (arith, eqb→eq (count (take 1 (from a (suc p))) f) 0 t)))
span_moves f false true a zero t =
    half_down a zero f (digit_zero (f a) (omega (arith, eqb→eq (count (from a 1) f) 0 t)))
span_moves f false true a (suc q) t =
    let l = eqb→eq (count (take 2 (from a (suc (suc q)))) f) 0 t in
    full_down a q f (digit_zero (f a) (omega (arith, l))) (digit_zero (f (suc a)) (omega (arith, l)))

-- ---- the instruction

-- each place is from lo on and below hi
abbrev within : ℕ → ℕ → List ℕ → Bool
within lo hi [] = true
within lo hi (k ∷ ks) = leb lo k && ltb k hi && within lo hi ks

-- so are the ends of a span
span_within : (lo hi p a : ℕ) → T (within lo hi (from a (suc p))) → (lo ≤ a) × (a + p < hi)
span_within lo hi zero a t =
    let h = and_l (leb lo a && ltb a hi) true t in
    (leb→le lo a (and_l (leb lo a) (ltb a hi) h), omega (arith, ltb→lt a hi (and_r (leb lo a) (ltb a hi) h)))
span_within lo hi (suc p) a t =
    let rest = span_within lo hi p (suc a) (and_r (leb lo a && ltb a hi) (within lo hi (from (suc a) (suc p))) t) in
    (leb→le lo a (and_l (leb lo a) (ltb a hi) (and_l (leb lo a && ltb a hi) (within lo hi (from (suc a) (suc p))) t)), omega (arith, rest.1))

-- a list of places doesn't go across n: each is below it, or none is
abbrev pub besides : ℕ → List ℕ → Bool
besides n cs = within 0 n cs || within n 40 cs

-- then as many are occupied below n after a shift
span_besides : (f g : Bits) (a p n : ℕ) → Kept a (a + p) f g → T (besides n (from a (suc p))) → below g n ≡ below f n
span_besides f g a p n k t = split (within 0 n (from a (suc p)))
    (λ e. k.high n (span_within 0 n p a (true→T e)).1)
    (λ e. k.low n (span_within n 40 p a (subst (λ (b : Bool). T (b || within n 40 (from a (suc p)))) e t)).0)

-- a move in row 1 stays below cell 20, one in row 2 or 3 from 20 on and below 40
abbrev in_rows : Bool → List ℕ → Bool
in_rows first cs = cond first (within 0 20 cs) (within 20 40 cs)

all_in_rows : T (rows (λ row mask. in_rows (eqb row 1) (cells row mask)))
unfolding rows every
all_in_rows = tt

-- what a move of the cells cs keeps
pub record Carried (cs : List ℕ) (f g : Bits) : Type 0 where
  pub whole : Whole 20 f → Whole 20 g
  pub same20 : below g 20 ≡ below f 20
  pub same40 : below g 40 ≡ below f 40
  pub raised : g raised_car ≡ f raised_car
  pub same : (n : ℕ) → T (besides n cs) → below g n ≡ below f n

-- a span of row 1, or of rows 2 and 3
span_carried : (f g : Bits) (first : Bool) (a p : ℕ) → Kept a (a + p) f g → T (in_rows first (from a (suc p))) → T
    (holds (cond first (even (from a (suc p))) (fact true)) f) → Carried (from a (suc p)) f g
span_carried f g true a p k b ev =
    let l = span_within 0 20 p a b in
    let q : a + suc p ≡ suc (a + p) = omega arith in
    record {
      whole = k.whole 20 l.1 (omega (arith, eqb→eq (count (from a (suc p)) f % 2) 0 ev, count_from f (suc p) a, ap (below f) q));
      same20 = k.high 20 l.1;
      same40 = k.high 40 (omega (arith, l.1));
      raised = k.out.high raised_car (omega (arith, l.1));
      same = λ n. span_besides f g a p n k;
    }
span_carried f g false a p k b ev =
    let l = span_within 20 40 p a b in
    record {
      whole = whole_same f g 20 (λ j h. k.out.low j (omega (arith, l.0)));
      same20 = k.low 20 l.0;
      same40 = k.high 40 l.1;
      raised = k.out.high raised_car (omega (arith, l.1));
      same = λ n. span_besides f g a p n k;
    }

-- an allowed move is that of a span
pub belts_carried : (row mask toward size : ℕ) (f : Bits) → T (belts_named row mask) → T
    (all_hold (conditions (Belts row mask toward size)) f) → Carried (cells row mask) f (changed (changes (Belts row mask toward size)) f)
belts_carried row mask toward size f named t =
    go (cells row mask) (c 1) (c 2) (c 4) (each_row (λ row mask. in_rows (eqb row 1) (cells row mask)) all_in_rows row mask named) (c 5)
  where
    c : (j : ℕ) → T (holds (get_or (conditions (Belts row mask toward size)) j (fact true)) f)
    c = nth_holds f (conditions (Belts row mask toward size)) t

    moved : List ℕ → Bits
    moved cs = changed (shift toward (step row size) (map one cs)) f

    go : (cs : List ℕ) → T (not (is_empty cs)) → T (adjacent cs) → T (holds (free (end toward (step row size) cs)) f) → T (in_rows (eqb row 1) cs)
        → T (holds (cond (eqb row 1) (even cs) (fact true)) f) → Carried cs f (moved cs)
    go [] e ad = absurd e
    go (a ∷ ks) e ad =
        let p = length ks in
        subst (λ (cs : List ℕ). T (holds (free (end toward (step row size) cs)) f) → T (in_rows (eqb row 1) cs) → T (holds (cond (eqb row 1) (even cs) (fact true)) f) → Carried cs f (moved cs))
        (sym (adjacent_from a ks ad))
        (λ fr. span_carried f (moved (from a (suc p))) (eqb row 1) a p (span_moves f (higher toward) (eqb row 1 && eqb size 1) a p fr))
