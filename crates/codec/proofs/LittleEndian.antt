-- The standard library's little-endian numbers are those of specs/. Assumes nothing.
use mathlib.Core.Path.{◌≡◌, refl, sym, ap, ◌∙◌}
use mathlib.Core.List.{List, [], ◌∷◌}
use Prim.Native.Nat.{ℕ, zero, suc, ◌/◌, ◌%◌, ◌^◌}
use native.Mathlib.Omega.{arith}
use native.Mathlib.Nat.{pow-suc}
use Rattle.std.proofs.Math.Nat.{div-div-eq-div-mul}
use Rattle.std.specs.Int.{w16, w32, w64, bytes_low_first, to_le_bytes, from_le_bytes}
use Rattle.codec.specs.Bytes.{little_endian, from_little_endian}

-- from byte i + 1 on
later : (i k n : ℕ) → bytes_low_first (suc i) k n ≡ little_endian k (n / 256 ^ suc i)
later i zero n = refl
later i (suc k) n =
    let e : n / 256 ^ suc (suc i) ≡ n / 256 ^ suc i / 256 = ap (λ (d : ℕ). n / d) (pow-suc 256 (suc i)) ∙ sym (div-div-eq-div-mul n (256 ^ suc i) 256) in
    ap (λ (bs : List ℕ). n / 256 ^ suc i % 256 ∷ bs) (later (suc i) k n ∙ ap (little_endian k) e)

pub laid : (k n : ℕ) → bytes_low_first 0 (suc k) n ≡ little_endian (suc k) n
laid k n = ap (λ (bs : List ℕ). n % 256 ∷ bs) (later 0 k n)

pub two_laid : (n : ℕ) → to_le_bytes w16 n ≡ little_endian 2 n
two_laid n = laid 1 n

pub four_laid : (n : ℕ) → to_le_bytes w32 n ≡ little_endian 4 n
four_laid n = laid 3 n

pub eight_laid : (n : ℕ) → to_le_bytes w64 n ≡ little_endian 8 n
eight_laid n = laid 7 n

pub two_said : (a b : ℕ) → from_le_bytes w16 (a ∷ b ∷ []) ≡ from_little_endian 2 0 (a ∷ b ∷ [])
two_said a b = omega arith

pub four_said : (a b c d : ℕ) → from_le_bytes w32 (a ∷ b ∷ c ∷ d ∷ []) ≡ from_little_endian 4 0 (a ∷ b ∷ c ∷ d ∷ [])
four_said a b c d = omega arith

pub eight_said : (a b c d e f g h : ℕ)
    → from_le_bytes w64 (a ∷ b ∷ c ∷ d ∷ e ∷ f ∷ g ∷ h ∷ []) ≡ from_little_endian 8 0 (a ∷ b ∷ c ∷ d ∷ e ∷ f ∷ g ∷ h ∷ [])
eight_said a b c d e f g h = omega arith
