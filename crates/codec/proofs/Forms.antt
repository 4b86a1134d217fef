-- Numbers in bytes read back, and have one form. Assumes nothing.
use mathlib.Core.Path.{◌≡◌, refl, sym, ap, ap₂, ◌∙◌}
use mathlib.Core.List.{List, ◌∷◌, ◌++◌, map}
use Prim.Native.Nat.{ℕ, zero, suc, ◌+◌, ◌*◌, ◌/◌, ◌%◌, ◌^◌, ◌≤◌, ◌<◌}
use native.Mathlib.Omega.{arith}
use lib.ListN.{length, get_or, take, drop, length-drop}
use lib.Seq.{take-add, get_or-drop, ext_get_or}
use Rattle.bits.specs.Places.{from, join}
use Rattle.codec.specs.Bytes.{little_endian, from_little_endian, Bytes}
use Rattle.codec.proofs.Numbers.{read_tail, number_back, number_form}
use Rattle.codec.specs.Fours.{fours_in, fours_bytes}
use Rattle.codec.specs.Promises.{FoursReadBack, FoursOneForm}
use Rattle.codec.proofs.Fours.{valued_length, valued_at, bytes_to, bytes_more}

-- ---- what was written reads back

-- past four bytes
read_past : (a b c d k : ℕ) (s : List ℕ) → from_little_endian 4 (4 + k) (a ∷ b ∷ c ∷ d ∷ s) ≡ from_little_endian 4 k s
read_past a b c d k s =
    let e : 4 + k ≡ suc (suc (suc (suc k))) = omega arith in
    ap (λ (n : ℕ). from_little_endian 4 n (a ∷ b ∷ c ∷ d ∷ s)) e
    ∙ read_tail 4 (suc (suc (suc k))) a (b ∷ c ∷ d ∷ s) ∙ read_tail 4 (suc (suc k)) b (c ∷ d ∷ s) ∙ read_tail 4 (suc k) c (d ∷ s) ∙ read_tail 4 k d s

module _ (f : ℕ → ℕ) (small : (p : ℕ) → f p < 256 ^ 4) (past : List ℕ) where
  back_at : (a n p : ℕ) → p < n → from_little_endian 4 (4 * p) (join (map (λ q. little_endian 4 (f q)) (from a n)) ++ past) ≡ f (a + p)
  back_at a zero p h = absurd (omega arith)
  back_at a (suc n) zero h =
      let e : a ≡ a + 0 = omega arith in
      number_back 4 (f a) (join (map (λ q. little_endian 4 (f q)) (from (suc a) n)) ++ past) (small a) ∙ ap f e
  back_at a (suc n) (suc p) h =
      let e : suc a + p ≡ a + suc p = omega arith in
      let rest = join (map (λ q. little_endian 4 (f q)) (from (suc a) n)) ++ past in
      let four : 4 * suc p ≡ 4 + 4 * p = omega arith in
      ap (λ (k : ℕ). from_little_endian 4 k (little_endian 4 (f a) ++ rest)) four
      ∙ read_past (f a % 256) (f a / 256 % 256) (f a / 256 / 256 % 256) (f a / 256 / 256 / 256 % 256) (4 * p) rest
      ∙ back_at (suc a) n p (omega arith) ∙ ap f e

pub fours_read_back : FoursReadBack
fours_read_back n c past size small =
    ext_get_or 0 (map g (from 0 n)) c (valued_length g 0 n ∙ sym size) (λ i h. same i (omega (arith, h, valued_length g 0 n)))
  where
    g : ℕ → ℕ
    g p = from_little_endian 4 (4 * p) (fours_bytes n c ++ past)

    same : (i : ℕ) → i < n → get_or (map g (from 0 n)) i 0 ≡ get_or c i 0
    same i h =
        let z : 0 + i ≡ i = omega arith in
        valued_at g 0 n i h ∙ ap g z
        ∙ back_at (λ p. get_or c p 0) (λ p. let s = small p in omega arith) past 0 n i h ∙ ap (λ (p : ℕ). get_or c p 0) z

-- ---- one form

-- from a place on is the rest from there
read_drop : (m : List ℕ) (k : ℕ) → from_little_endian 4 k m ≡ from_little_endian 4 0 (drop k m)
read_drop m k =
    let e0 : k + 0 ≡ k = omega arith in
    let e1 : k + 1 ≡ suc k = omega arith in
    let e2 : k + 2 ≡ suc (suc k) = omega arith in
    let e3 : k + 3 ≡ suc (suc (suc k)) = omega arith in
    simp (get_or-drop, e0, e1, e2, e3)

bytes_drop : (k : ℕ) (s : List ℕ) → Bytes s → Bytes (drop k s)
bytes_drop k s b i = rw get_or-drop (b (k + i))

module _ (m : List ℕ) (b : Bytes m) where
  -- the number at a place
  abbrev pub number : ℕ → ℕ
  number p = from_little_endian 4 (4 * p) m

  -- the number at a place of those that are held, and it has 32 bits
  pub held_at : (n i : ℕ) → i < n → get_or (fours_in n m) i 0 ≡ number i
  held_at n i h = let z : 0 + i ≡ i = omega arith in valued_at number 0 n i h ∙ ap number z

  pub number_small : (p : ℕ) → number p < 4294967296
  number_small p =
      let b0 = b (4 * p) in
      let b1 = b (suc (4 * p)) in
      let b2 = b (suc (suc (4 * p))) in
      let b3 = b (suc (suc (suc (4 * p)))) in
      omega arith

  form_to : (n : ℕ) → 4 * n ≤ length m → (i : ℕ) → i ≤ n → bytes_to (fours_in n m) i ≡ take (4 * i) m
  unfolding bytes_to
  form_to n l zero h = refl
  form_to n l (suc i) h =
      let c = fours_in n m in
      let four : 4 * i + 4 ≡ 4 * suc i = omega arith in
      let long : 4 ≤ length (drop (4 * i) m) = rw length-drop (omega arith) in
      bytes_more c i
      ∙ ap₂ ◌++◌ (form_to n l i (omega arith))
      (ap (little_endian 4) (held_at n i (omega arith) ∙ read_drop m (4 * i)) ∙ number_form 4 (drop (4 * i) m) (bytes_drop (4 * i) m b) long)
      ∙ sym (take-add (4 * i) 4 m) ∙ ap (λ (k : ℕ). take k m) four

pub fours_one_form : FoursOneForm
unfolding bytes_to
fours_one_form n m b l = form_to m b n l n (omega arith)
