-- Numbers in bytes, the lowest first: over any count of bytes, what is written reads back, and has one form. Assumes nothing.
use mathlib.Core.Path.{◌≡◌, refl, sym, ◌∙◌, ap, ap₂}
use mathlib.Core.List.{List, [], ◌∷◌, ◌++◌}
use Prim.Native.Nat.{ℕ, zero, suc, ◌+◌, ◌*◌, ◌/◌, ◌%◌, ◌^◌, ◌≤◌, ◌<◌}
use native.Mathlib.Omega.{arith}
use native.Mathlib.Nat.{mod-add-div, pow-suc}
use lib.ListN.{length, take, drop, length-drop, take-append-drop}
use lib.Seq.{take_all, get_or-drop}
use Rattle.codec.specs.Promises.{ImageReadsBack, ImageOneForm}
use Rattle.codec.specs.Bytes.{little_endian, from_little_endian, Bytes}

pub bytes_take : (n : ℕ) (s : List ℕ) → Bytes s → Bytes (take n s)
bytes_take zero s b i = omega arith
bytes_take (suc n) [] b i = omega arith
bytes_take (suc n) (x ∷ s) b zero = b 0
bytes_take (suc n) (x ∷ s) b (suc i) = bytes_take n s (λ j. b (suc j)) i

pub bytes_drop : (n : ℕ) (s : List ℕ) → Bytes s → Bytes (drop n s)
bytes_drop n s b i = rw (get_or-drop n s i 0) (b (n + i))

-- reading goes on from the next place, or from the rest of the run
pub read_tail : (n i x : ℕ) (s : List ℕ) → from_little_endian n (suc i) (x ∷ s) ≡ from_little_endian n i s
read_tail zero i x s = refl
read_tail (suc n) i x s = rw (read_tail n (suc i) x s)

pub read_from : (n k : ℕ) (s : List ℕ) → n ≤ length s → from_little_endian k n s ≡ from_little_endian k 0 (drop n s)
read_from zero k s h = refl
read_from (suc n) k [] h = absurd (omega arith)
read_from (suc n) k (x ∷ s) h = read_tail k n x s ∙ read_from n k s (omega arith)

pub number_back : (n x : ℕ) (t : List ℕ) → x < 256 ^ n → from_little_endian n 0 (little_endian n x ++ t) ≡ x
number_back zero x t h = omega arith
number_back (suc n) x t h =
    let h' : x < 256 ^ n * 256 = rw (← pow-suc) h in
    rw (read_tail n 0 (x % 256) (little_endian n (x / 256) ++ t), number_back n (x / 256) t (omega arith)) (mod-add-div x 256)

pub number_form : (n : ℕ) (s : List ℕ) → Bytes s → n ≤ length s → little_endian n (from_little_endian n 0 s) ≡ take n s
number_form zero s b h = refl
number_form (suc n) [] b h = absurd (omega arith)
number_form (suc n) (x ∷ s) b h =
    let small = b 0 in
    let v = from_little_endian n 0 s in
    let low : (x + 256 * v) % 256 ≡ x = omega arith in
    let high : (x + 256 * v) / 256 ≡ v = omega arith in
    rw (read_tail n 0 x s, low, high, number_form n s (λ j. b (suc j)) (omega arith))

-- two numbers, n bytes and then k: what is written reads back, whatever follows it
pub two_back : (n k x y : ℕ) (t : List ℕ) → x < 256 ^ n → y < 256 ^ k
    → (from_little_endian n 0 (little_endian n x ++ (little_endian k y ++ t)) ≡ x) × (from_little_endian k n (little_endian n x ++ (little_endian k y ++ t)) ≡ y)
two_back n k x y t h g = (number_back n x (little_endian k y ++ t) h, past n x ∙ number_back k y t g)
  where
    past : (n x : ℕ) → from_little_endian k n (little_endian n x ++ (little_endian k y ++ t)) ≡ from_little_endian k 0 (little_endian k y ++ t)
    past zero x = refl
    past (suc n) x = read_tail k n (x % 256) (little_endian n (x / 256) ++ (little_endian k y ++ t)) ∙ past n (x / 256)

-- and bytes are those of the two numbers that they say
pub two_form : (n k : ℕ) (s : List ℕ) → Bytes s → length s ≡ n + k
    → little_endian n (from_little_endian n 0 s) ++ little_endian k (from_little_endian k n s) ≡ s
two_form n k s b l =
    let size : length (drop n s) ≡ k = length-drop n s ∙ omega arith in
    ap₂ (λ (c d : List ℕ). c ++ d) (number_form n s b (omega arith))
    (ap (little_endian k) (read_from n k s (omega arith))
    ∙ number_form k (drop n s) (bytes_drop n s b) (omega arith)
    ∙ take_all k (drop n s) (omega arith))
    ∙ take-append-drop n s

-- a number below 256 in two bytes
pub two_bytes : (x : ℕ) → x < 256 → little_endian 2 x ≡ x ∷ 0 ∷ []
two_bytes x h =
    let low : x % 256 ≡ x = omega arith in
    let high : x / 256 % 256 ≡ 0 = omega arith in
    rw (low, high)

-- two bytes are those of the number that they say
pub word_form : (a b : ℕ) → a < 256 → b < 256 → little_endian 2 (a + 256 * (b + 256 * 0)) ≡ a ∷ b ∷ []
word_form a b p q =
    let low : (a + 256 * (b + 256 * 0)) % 256 ≡ a = omega arith in
    let high : (a + 256 * (b + 256 * 0)) / 256 ≡ b = omega arith in
    let small : b % 256 ≡ b = omega arith in
    rw (low, high, small)

-- ---- images

pub image_reads_back : ImageReadsBack
image_reads_back x t h = number_back 8 x t h

pub image_one_form : ImageOneForm
image_one_form s b h = sym (number_form 8 s b h)
