-- A garage's name, by what each of its bytes is. Assumes nothing.
use mathlib.Core.Path.{◌≡◌, sym}
use mathlib.Core.Bool.{Bool, true, false}
use mathlib.Core.List.{List}
use Prim.Native.Nat.{ℕ, ◌≤◌, ◌<◌}
use native.Mathlib.Omega.{arith}
use borrow.Author.Tests.{le-ltb, lt-ltb}
use lib.ListN.{length, get_or}
use Rattle.std.specs.Bool.{MatchBool}
use Rattle.std.specs.List.{AllWithin, HoldsAt}
use Rattle.bits.specs.Search.{every}
use Rattle.bits.proofs.Cases.{clash, off}
use Rattle.bits.proofs.Search.{every_at, every_is}
use Rattle.journal_file.specs.Heads.{name_byte, is_garage}

module _ (w : List ℕ) where
  pub too_short : length w < 1 → false ≡ is_garage w
  too_short h = rw (lt-ltb (length w) 1 h)

  pub too_long : 1 ≤ length w → 40 < length w → false ≡ is_garage w
  too_long s h = rw (le-ltb (length w) 1 s, lt-ltb 40 (length w) h)

  -- of any other word every byte counts
  pub every_byte : 1 ≤ length w → length w ≤ 40 → (r : Bool)
      → MatchBool r (AllWithin (λ b. name_byte b ≡ true) w 0 (length w)) ((k : ℕ) × (k < length w) × HoldsAt (λ b. name_byte b ≡ false) w k)
      → r ≡ is_garage w
  every_byte s f true h =
      sym (rw (le-ltb (length w) 1 s, le-ltb 40 (length w) f) (every_is (length w) (λ j. name_byte (get_or w j 0)) (λ j l. h j 0 (omega arith) l)))
  every_byte s f false h =
      let all : Bool = every (length w) (λ j. name_byte (get_or w j 0)) in
      sym (rw (le-ltb (length w) 1 s, le-ltb 40 (length w) f) (off all (λ e. clash (every_at (length w) (λ j. name_byte (get_or w j 0)) e h.0 h.1) (h.2 0))))
