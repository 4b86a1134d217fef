-- Numbers in bytes, four each: one read, and the loops that read and write n of them, turn by turn. Assumes nothing.
use mathlib.Core.Path.{◌≡◌, refl, sym, ap, ap₂, ◌∙◌}
use mathlib.Core.List.{List, [], ◌∷◌, ◌++◌, map, append_assoc, append-nil}
use mathlib.Core.Bool.{false}
use Prim.Native.Nat.{ℕ, zero, suc, ◌+◌, ◌*◌, ◌-◌, ◌≤◌, ◌<◌}
use native.Mathlib.Omega.{arith}
use native.Mathlib.Numerals.{add-one}
use lib.ListN as list
use lib.Dec.{leb}
use lib.ListN.{length, get_or, take, drop, replicate, length-append, length-drop, length-replicate, drop_of_length-le}
use borrow.Author.Tests.{le-leb, lt-leb, leb-true, leb-false}
use lib.Seq.{paste, paste-suc, take_at, take_all, length-take-le, drop-append-add, drop-drop}
use Rattle.bits.specs.Places.{from, join}
use Rattle.bits.proofs.Cases.{split}
use Rattle.codec.specs.Bytes.{little_endian, from_little_endian}
use Rattle.codec.specs.Fours.{there, four_at, fours_in, fours_bytes}

-- ---- a value for each place

pub valued_length : {A : Type 0} (f : ℕ → A) (a n : ℕ) → length (map f (from a n)) ≡ n
valued_length f a zero = refl
valued_length f a (suc n) = ap suc (valued_length f (suc a) n)

pub valued_at : (f : ℕ → ℕ) (a n p : ℕ) → p < n → get_or (map f (from a n)) p 0 ≡ f (a + p)
valued_at f a zero p h = absurd (omega arith)
valued_at f a (suc n) zero h = let e : a ≡ a + 0 = omega arith in ap f e
valued_at f a (suc n) (suc p) h =
    let e : suc a + p ≡ a + suc p = omega arith in
    valued_at f (suc a) n p (omega arith) ∙ ap f e

pub valued_more : {A : Type 0} (f : ℕ → List A) (a n : ℕ) → join (map f (from a (suc n))) ≡ join (map f (from a n)) ++ f (a + n)
valued_more f a zero = let e : a ≡ a + 0 = omega arith in append-nil (f a) ∙ ap f e
valued_more f a (suc n) =
    let e : suc a + n ≡ a + suc n = omega arith in
    ap (λ l. f a ++ l) (valued_more f (suc a) n ∙ ap (λ (k : ℕ). join (map f (from (suc a) n)) ++ f k) e)
    ∙ sym (append_assoc (f a) (join (map f (from (suc a) n))) (f (a + suc n)))

-- ---- four bytes

pub four_read : (m : List ℕ) (at : ℕ)
    → from_little_endian 4 0 (get_or m at 0 ∷ get_or m (at + 1) 0 ∷ get_or m (at + 2) 0 ∷ get_or m (at + 3) 0 ∷ []) ≡ from_little_endian 4 at m
four_read m at =
    let e1 : at + 1 ≡ suc at = omega arith in
    let e2 : at + 2 ≡ suc (suc at) = omega arith in
    let e3 : at + 3 ≡ suc (suc (suc at)) = omega arith in
    rw (e1, e2, e3)

-- whether a run of so many has them
pub too_short : (size at : ℕ) → size < 4 → false ≡ there size at
too_short size at h = sym (lt-leb (at + 4) size (omega arith))

pub there_is : (size at : ℕ) → 4 ≤ size → leb at (size - 4) ≡ there size at
there_is size at h = split (leb at (size - 4))
    (λ t. let l = leb-true at (size - 4) t in t ∙ sym (le-leb (at + 4) size (omega arith)))
    (λ t. let l = leb-false at (size - 4) t in t ∙ sym (lt-leb (at + 4) size (omega arith)))

-- what stands there is read
pub four_there : (at : ℕ) (m : List ℕ) → at + 4 ≤ length m → four_at at m ≡ from_little_endian 4 at m
unfolding four_at
four_there at m h = rw (le-leb (at + 4) (length m) h)

-- ---- the loop that reads

-- all of them
pasted_all : (n : ℕ) (s : List ℕ) → length s ≡ n → paste (replicate n 0) 0 s n ≡ s
pasted_all n s e =
    let z : 0 + n ≡ n = omega arith in
    ap₂ (λ (a b : List ℕ). a ++ b) (take_all n s (omega arith)) (ap (λ (k : ℕ). drop k (replicate n 0)) z ∙ drop_of_length-le (replicate n 0) {i = n} (let h : length {A = ℕ} (replicate n 0) ≡ n = length-replicate n 0 in omega arith))
    ∙ append-nil s

module _ (n : ℕ) where
  -- the first i numbers stand in an array of zeros
  pub record Reading (m c : List ℕ) (i : ℕ) : Type 0 where
    pub within : i ≤ n
    pub holds : c ≡ paste (replicate n 0) 0 (fours_in n m) i

  pub reading_starts : (m : List ℕ) → Reading m (replicate n 0) 0
  reading_starts m = record { within = omega arith; holds = refl }

  pub reading_turns : (m c : List ℕ) (i v : ℕ) → i < n → v ≡ from_little_endian 4 (4 * i) m → Reading m c i → Reading m (list.set c i v) (i + 1)
  reading_turns m c i v l e r =
      let f : ℕ → ℕ = λ (p : ℕ). from_little_endian 4 (4 * p) m in
      let goal = map f (from 0 n) in
      let z : 0 + i ≡ i = omega arith in
      let zeros : length {A = ℕ} (replicate n 0) ≡ n = length-replicate n 0 in
      let size : length goal ≡ n = valued_length f 0 n in
      record {
        within = omega arith;
        holds = ap₂ (λ (k : List ℕ) (w : ℕ). list.set k i w) r.holds (e ∙ ap f (sym z) ∙ sym (valued_at f 0 n i l))
            ∙ ap (λ (k : ℕ). list.set (paste (replicate n 0) 0 goal i) k (get_or goal i 0)) (sym z)
            ∙ paste-suc (replicate n 0) 0 goal i 0 (omega arith) (omega arith)
            ∙ ap (paste (replicate n 0) 0 goal) (sym (add-one i));
      }

  pub reading_ends : (m c : List ℕ) (i : ℕ) → n ≤ i → Reading m c i → c ≡ fours_in n m
  reading_ends m c i l r =
      let z : i ≡ n = let w = r.within in omega arith in
      r.holds ∙ ap (paste (replicate n 0) 0 (fours_in n m)) z ∙ pasted_all n (fours_in n m) (valued_length _ 0 n)

-- ---- the loop that writes

-- the bytes of the first i numbers
unfoldable pub bytes_to : List ℕ → ℕ → List ℕ
bytes_to c i = fours_bytes i c

pub bytes_more : (c : List ℕ) (i : ℕ) → bytes_to c (suc i) ≡ bytes_to c i ++ little_endian 4 (get_or c i 0)
unfolding bytes_to
bytes_more c i =
    let f : ℕ → List ℕ = λ (p : ℕ). little_endian 4 (get_or c p 0) in
    let z : 0 + i ≡ i = omega arith in
    valued_more f 0 i ∙ ap (λ (k : ℕ). bytes_to c i ++ f k) z

pub bytes_length : (c : List ℕ) (i : ℕ) → length (bytes_to c i) ≡ 4 * i
unfolding bytes_to
bytes_length c zero = refl
bytes_length c (suc i) =
    let e = bytes_length c i in
    ap length (bytes_more c i) ∙ length-append (bytes_to c i) (little_endian 4 (get_or c i 0)) ∙ omega arith

-- they stand at the start of a room, and past them is what was there
pub record Writing (n : ℕ) (d c r : List ℕ) (i : ℕ) : Type 0 where
  pub within : i ≤ n
  pub same : length r ≡ length d
  pub holds : r ≡ bytes_to c i ++ drop (4 * i) d

pub writing_starts : (n : ℕ) (d c : List ℕ) → Writing n d c d 0
unfolding bytes_to
writing_starts n d c = record { within = omega arith; same = refl; holds = refl }

pub writing_turns : (n : ℕ) (d c r s : List ℕ) (i : ℕ) → i < n → length s ≡ length r → Writing n d c r i
    → s ≡ take (4 * i) r ++ little_endian 4 (get_or c i 0) ++ drop (4 * i + 4) r → Writing n d c s (i + 1)
writing_turns n d c r s i l same w e = record {
  within = omega arith;
  same = same ∙ w.same;
  holds = e ∙ ap₂ (λ (x y : List ℕ). x ++ four ++ y) before after ∙ ap₂ (λ (x : List ℕ) (k : ℕ). x ++ drop k d) more four_on;
}
  where
    four : List ℕ
    four = little_endian 4 (get_or c i 0)

    before : take (4 * i) r ≡ bytes_to c i
    before = ap (take (4 * i)) w.holds ∙ take_at (bytes_to c i) (drop (4 * i) d) (4 * i) (bytes_length c i)

    after : drop (4 * i + 4) r ≡ drop (4 * i + 4) d
    after = ap (drop (4 * i + 4)) w.holds
        ∙ ap (λ (k : ℕ). drop (k + 4) (bytes_to c i ++ drop (4 * i) d)) (sym (bytes_length c i))
        ∙ drop-append-add (bytes_to c i) (drop (4 * i) d) 4 ∙ drop-drop 4 (4 * i) d

    more : bytes_to c i ++ four ≡ bytes_to c (i + 1)
    more = sym (ap (bytes_to c) (add-one i) ∙ bytes_more c i)

    four_on : 4 * i + 4 ≡ 4 * (i + 1)
    four_on = omega arith

-- a number's bytes that were copied to their place
pub four_laid : (r b last : List ℕ) (a n : ℕ) → a + 4 ≤ length r → b ≡ little_endian 4 n
    → last ≡ take (length b) b ++ drop (length b) (take (a + 4 - a) (drop a r))
    → take a r ++ (last ++ drop (a + 4 - a) (drop a r)) ≡ take a r ++ little_endian 4 n ++ drop (a + 4) r
four_laid r b last a n h e f =
    let four = little_endian 4 n in
    let k : a + 4 - a ≡ 4 = omega arith in
    let size : length (take 4 (drop a r)) ≡ 4 = length-take-le 4 (drop a r) (rw length-drop (omega arith)) in
    let whole : last ≡ four =
    f ∙ ap₂ (λ (l : List ℕ) (j : ℕ). take (length l) l ++ drop (length l) (take j (drop a r))) e k
    ∙ ap (λ (l : List ℕ). four ++ l) (drop_of_length-le (take 4 (drop a r)) {i = 4} (omega arith)) ∙ append-nil four in
    ap₂ (λ (l : List ℕ) (j : ℕ). take a r ++ (l ++ drop j (drop a r))) whole k
    ∙ ap (λ (l : List ℕ). take a r ++ (four ++ l)) (drop-drop 4 a r) ∙ sym (append_assoc (take a r) four (drop (a + 4) r))

pub writing_ends : (n : ℕ) (d c r : List ℕ) (i : ℕ) → n ≤ i → Writing n d c r i → r ≡ fours_bytes n c ++ drop (4 * n) d
unfolding bytes_to
writing_ends n d c r i l w =
    let z : i ≡ n = let h = w.within in omega arith in
    w.holds ∙ ap (λ (k : ℕ). bytes_to c k ++ drop (4 * k) d) z
