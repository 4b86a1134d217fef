-- Numbers laid out by their widths read back, and bytes are those of the numbers that they say; of entries and of whole bodies too.
-- Assumes nothing.
use mathlib.Core.Path.{◌≡◌, refl, sym, ◌∙◌, ap, ap₂}
use mathlib.Core.List.{List, [], ◌∷◌, ◌++◌, append_assoc}
use Prim.Native.Nat.{ℕ, zero, suc, ◌+◌, ◌*◌, ◌≤◌}
use native.Mathlib.Omega.{arith}
use lib.ListN.{length, take, drop, length-append, length-drop, take-append-drop}
use lib.Seq.{take_all, take-add, drop_at}
use Rattle.codec.specs.Bytes.{little_endian, from_little_endian, Bytes}
use Rattle.codec.proofs.Numbers.{bytes_drop, number_back, number_form}
use Rattle.desk_wire.specs.Shapes.{widths_sum, laid_out, read_out, InWidths, laid_each, read_each, EachInWidths, laid_tail, tail_size, read_tail, TailInWidths, Shape, shaped_body, shaped_size, fields_in, entries_in}

number_length : (w x : ℕ) → length (little_endian w x) ≡ w
number_length zero x = refl
number_length (suc w) x = ap suc (number_length w _)

-- ---- what was laid out reads back

laid_length : (ws ns : List ℕ) → InWidths ws ns → length (laid_out ws ns) ≡ widths_sum ws
laid_length [] [] f = refl
laid_length [] (n ∷ ns) f = absurd f
laid_length (w ∷ ws) [] f = absurd f
laid_length (w ∷ ws) (n ∷ ns) f = length-append (little_endian w n) (laid_out ws ns) ∙ ap₂ (λ (a b : ℕ). a + b) (number_length w n) (laid_length ws ns f.1)

read_laid : (ws ns t : List ℕ) → InWidths ws ns → read_out ws (laid_out ws ns ++ t) ≡ ns
read_laid [] [] t f = refl
read_laid [] (n ∷ ns) t f = absurd f
read_laid (w ∷ ws) [] t f = absurd f
read_laid (w ∷ ws) (n ∷ ns) t f =
    let rest = laid_out ws ns ++ t in
    ap (λ (s : List ℕ). from_little_endian w 0 s ∷ read_out ws (drop w s)) (append_assoc (little_endian w n) (laid_out ws ns) t)
    ∙ ap₂ (λ (a : ℕ) (b : List ℕ). a ∷ b) (number_back w n rest f.0)
    (ap (read_out ws) (drop_at (little_endian w n) rest w (number_length w n)) ∙ read_laid ws ns t f.1)

each_length : (ws : List ℕ) (xs : List (List ℕ)) → EachInWidths ws xs → length (laid_each ws xs) ≡ length xs * widths_sum ws
each_length ws [] f = omega arith
each_length ws (x ∷ xs) f =
    let a = laid_length ws x f.0 in
    let b = each_length ws xs f.1 in
    length-append (laid_out ws x) (laid_each ws xs) ∙ ap₂ (λ (a b : ℕ). a + b) a b ∙ omega arith

read_each_lem : (ws : List ℕ) (xs : List (List ℕ)) → EachInWidths ws xs → read_each ws (length xs) (laid_each ws xs) ≡ xs
read_each_lem ws [] f = refl
read_each_lem ws (x ∷ xs) f =
    ap₂ (λ (a : List ℕ) (b : List (List ℕ)). a ∷ b) (read_laid ws x (laid_each ws xs) f.0)
    (ap (read_each ws (length xs)) (drop_at (laid_out ws x) (laid_each ws xs) (widths_sum ws) (laid_length ws x f.0)) ∙ read_each_lem ws xs f.1)

tail_length : (ws : List ℕ) (xs : List (List ℕ)) → TailInWidths ws xs → tail_size ws (laid_tail ws xs) ≡ length (laid_tail ws xs)
tail_length [] xs f = refl
tail_length (w ∷ ws) xs f = ap suc (sym (each_length (w ∷ ws) xs f.1))

read_tail_back : (ws : List ℕ) (xs : List (List ℕ)) → TailInWidths ws xs → read_tail ws (laid_tail ws xs) ≡ xs
read_tail_back [] xs f = sym f
read_tail_back (w ∷ ws) xs f = read_each_lem (w ∷ ws) xs f.1

-- a body reads back: its size is its own, and its fields and entries are those that were meant
pub record Body-back (k : Shape) (ns : List ℕ) (xs : List (List ℕ)) : Type 0 where
  pub size : length (shaped_body k ns xs) ≡ shaped_size k (shaped_body k ns xs)
  pub fields : fields_in k (shaped_body k ns xs) ≡ ns
  pub entries : entries_in k (shaped_body k ns xs) ≡ xs

pub body_back : (k : Shape) (ns : List ℕ) (xs : List (List ℕ)) → InWidths k.fields ns → TailInWidths k.each xs → Body-back k ns xs
body_back k ns xs f g =
    let front = laid_out k.fields ns in
    let tail = laid_tail k.each xs in
    let l = laid_length k.fields ns f in
    let past : drop (widths_sum k.fields) (front ++ tail) ≡ tail = drop_at front tail (widths_sum k.fields) l in
    record {
      size = length-append front tail ∙ ap₂ (λ (a b : ℕ). a + b) l (sym (ap (tail_size k.each) past ∙ tail_length k.each xs g));
      fields = read_laid k.fields ns tail f;
      entries = ap (read_tail k.each) past ∙ read_tail_back k.each xs g;
    }

-- ---- bytes are those of what they say

form_laid : (ws s : List ℕ) → Bytes s → widths_sum ws ≤ length s → laid_out ws (read_out ws s) ≡ take (widths_sum ws) s
form_laid [] s b h = refl
form_laid (w ∷ ws) s b h =
    let l = length-drop w s in
    ap₂ (λ (a c : List ℕ). a ++ c) (number_form w s b (omega arith)) (form_laid ws (drop w s) (bytes_drop w s b) (omega arith))
    ∙ sym (take-add w (widths_sum ws) s)

pub each_many : (ws : List ℕ) (n : ℕ) (s : List ℕ) → length (read_each ws n s) ≡ n
each_many ws zero s = refl
each_many ws (suc n) s = ap suc (each_many ws n (drop (widths_sum ws) s))

form_each : (ws : List ℕ) (n : ℕ) (s : List ℕ) → Bytes s → n * widths_sum ws ≤ length s → laid_each ws (read_each ws n s) ≡ take (n * widths_sum ws) s
form_each ws zero s b h = let z : 0 * widths_sum ws ≡ 0 = omega arith in sym (ap (λ (k : ℕ). take k s) z)
form_each ws (suc n) s b h =
    let w = widths_sum ws in
    let e : suc n * w ≡ w + n * w = omega arith in
    let l = length-drop w s in
    ap₂ (λ (a c : List ℕ). a ++ c) (form_laid ws s b (omega arith)) (form_each ws n (drop w s) (bytes_drop w s b) (omega arith))
    ∙ sym (take-add w (n * w) s) ∙ ap (λ (k : ℕ). take k s) (sym e)

form_tail : (ws s : List ℕ) → Bytes s → length s ≡ tail_size ws s → laid_tail ws (read_tail ws s) ≡ s
form_tail [] [] b l = refl
form_tail [] (x ∷ s) b l = absurd (omega arith)
form_tail (w ∷ ws) [] b l = absurd (omega arith)
form_tail (w ∷ ws) (x ∷ s) b l =
    let n : length s ≡ x * widths_sum (w ∷ ws) = omega arith in
    ap₂ (λ (a : ℕ) (c : List ℕ). a ∷ c) (each_many (w ∷ ws) x s)
    (form_each (w ∷ ws) x s (λ i. b (suc i)) (omega arith) ∙ take_all (x * widths_sum (w ∷ ws)) s (omega arith))

pub body_form : (k : Shape) (body : List ℕ) → Bytes body → length body ≡ shaped_size k body → shaped_body k (fields_in k body) (entries_in k body) ≡ body
body_form k body b l =
    let w = widths_sum k.fields in
    let d = length-drop w body in
    ap₂ (λ (a c : List ℕ). a ++ c) (form_laid k.fields body b (omega arith)) (form_tail k.each (drop w body) (bytes_drop w body b) (omega arith))
    ∙ take-append-drop w body
