-- Bursts in a part of some bytes, and in bytes whose checksum stands behind them. Assumes nothing.
use mathlib.Core.Path.{◌≡◌, sym, ap, ap₂, ◌∙◌}
use mathlib.Core.Logic.{◌⊎◌, inl, inr, ⊎_elim}
use mathlib.Core.List.{List, ◌++◌}
use Prim.Native.Nat.{ℕ, ◌+◌, ◌-◌, ◌*◌, ◌/◌, ◌%◌, ◌^◌, ◌≤◌, ◌<◌}
use native.Mathlib.Omega.{arith}
use lib.ListN.{length, get_or, take, drop, length-take, length-drop, get_or-eq_default}
use lib.Seq.{get_or-take, get_or-drop, take-add}
use Rattle.bits.proofs.Search.{lt_or_ge}
use Rattle.codec.specs.Bytes.{little_endian, Bytes}
use Rattle.codec.proofs.Numbers.{bytes_take, bytes_drop, number_form}
use Rattle.codec.specs.Fours.{four_at}
use Rattle.checksum.specs.Checksum.{crc_over}
use Rattle.checksum.specs.Bursts.{bit_at, Burst, checked, StoredBurstFound}
use Rattle.checksum.proofs.Running.{four_at_lem}
use Rattle.checksum.proofs.Bursts.{checked_burst_found}

-- ---- a burst in a part of the bytes

-- a byte of a part by its place in the whole
bit_drop : (n : ℕ) (m : List ℕ) (i : ℕ) → bit_at (drop n m) i ≡ bit_at m (8 * n + i)
bit_drop n m i =
    let q : n + i / 8 ≡ (8 * n + i) / 8 = omega arith in
    let r : i % 8 ≡ (8 * n + i) % 8 = omega arith in
    ap (λ (x : ℕ). x / 2 ^ (i % 8) % 2) (get_or-drop n m (i / 8) 0) ∙ ap₂ (λ (p j : ℕ). get_or m p 0 / 2 ^ j % 2) q r

pub burst_drop : (n : ℕ) {k : ℕ} {m c : List ℕ} → Burst k m c → Burst (k - 8 * n) (drop n m) (drop n c)
burst_drop n {k} {m} {c} u = record {
  bytes = bytes_drop n m u.bytes;
  other_bytes = bytes_drop n c u.other_bytes;
  long = omega (arith, u.long, length-drop n m, length-drop n c);
  agree = λ i o. bit_drop n m i ∙ u.agree (8 * n + i) (outside i o) ∙ sym (bit_drop n c i);
}
  where
    outside : (i : ℕ) → (i < k - 8 * n) ⊎ (k - 8 * n + 32 ≤ i) → (8 * n + i < k) ⊎ (k + 32 ≤ 8 * n + i)
    outside i o = ⊎_elim (λ (h : i < k - 8 * n). inl (omega arith)) (λ (h : k - 8 * n + 32 ≤ i). inr (omega arith)) o

pub burst_take : (n : ℕ) {k : ℕ} {m c : List ℕ} → Burst k m c → Burst k (take n m) (take n c)
burst_take n {k} {m} {c} u = record {
  bytes = bytes_take n m u.bytes;
  other_bytes = bytes_take n c u.other_bytes;
  long = omega (arith, u.long, length-take n m, length-take n c);
  agree = λ i o. ⊎_elim
      (λ (h : i / 8 < n). within m i h ∙ u.agree i o ∙ sym (within c i h))
      (λ (h : n ≤ i / 8). past m i h ∙ sym (past c i h)) (lt_or_ge (i / 8) n);
}
  where
    within : (l : List ℕ) (i : ℕ) → i / 8 < n → bit_at (take n l) i ≡ bit_at l i
    within l i h = ap (λ (x : ℕ). x / 2 ^ (i % 8) % 2) (get_or-take n l (i / 8) 0 h)

    past : (l : List ℕ) (i : ℕ) → n ≤ i / 8 → bit_at (take n l) i ≡ 0 / 2 ^ (i % 8) % 2
    past l i h = ap (λ (x : ℕ). x / 2 ^ (i % 8) % 2) (get_or-eq_default (take n l) 0 (omega (arith, length-take n l)))

-- ---- bytes with their checksum behind them

-- the four bytes at a place say the number there
four_bytes : (m : List ℕ) (a : ℕ) → Bytes m → a + 4 ≤ length m → little_endian 4 (four_at a m) ≡ take 4 (drop a m)
four_bytes m a b h = ap (little_endian 4) (four_at_lem m a h) ∙ number_form 4 (drop a m) (bytes_drop a m b) (omega (arith, length-drop a m))

-- n bytes and the number behind them, which is their checksum
pub with_sum : (s n : ℕ) (m : List ℕ) → Bytes m → n + 4 ≤ length m → four_at n m ≡ crc_over s (take n m) → checked s (take n m) ≡ take (n + 4) m
with_sum s n m b h e =
    ap (λ (x : ℕ). take n m ++ little_endian 4 x) (sym e) ∙ ap (λ (l : List ℕ). take n m ++ l) (four_bytes m n b h) ∙ sym (take-add n 4 m)

-- two such runs that differ by a burst are the same
pub stored_burst_found : StoredBurstFound
stored_burst_found s n k m c l u h e f =
    let long : n + 4 ≤ length c = omega (arith, u.long) in
    let a = with_sum s n m u.bytes h e in
    let b = with_sum s n c u.other_bytes long f in
    let v : Burst k (checked s (take n m)) (checked s (take n c)) = rw (a, b) (burst_take (n + 4) u) in
    sym b ∙ ap (checked s) (sym (checked_burst_found s k (take n m) (take n c) l v)) ∙ a
