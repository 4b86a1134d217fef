-- What is told of a plan and left in the room, by whether the grounds fit. Assumes nothing.
use mathlib.Core.Path.{◌≡◌, refl, sym, ap, ◌∙◌}
use mathlib.Core.List.{List}
use Prim.Native.Nat.{ℕ, ◌+◌, ◌*◌, ◌≤◌, ◌<◌}
use native.Mathlib.Omega.{arith}
use lib.Dec.{ltb}
use lib.ListN.{length}
use borrow.Author.Tests.{ltb-true, ltb-false, lt-ltb, le-ltb}
use Rattle.bits.proofs.Cases.{split}
use Rattle.rooms.specs.Rooms.{LeavesRoom, telling}
use Rattle.plan.specs.declared.Grounds.{Grounds}
use Rattle.plan.specs.Plans.{grounds_of}
use Rattle.plan_c.specs.Entries.{grounds_bytes, explain_into}

module _ (plan room : List ℕ) {g : Grounds} {b : List ℕ} (e : g ≡ grounds_of plan) (d : b ≡ grounds_bytes g) {told : ℕ} {last : List ℕ}
    (t : LeavesRoom (telling 0 b room) told last) where
  -- they take eighteen bytes
  size : length b ≡ 18
  size = ap length d

  -- the room is too short
  short : length room < 18 → LeavesRoom (explain_into plan room) told last
  unfolding explain_into telling
  short h = rw (lt-ltb (length room) 18 h) (rw (size, lt-ltb (length room) 18 h) at t)

  -- they fit, and are written
  fits : 18 ≤ length room → told ≡ 0
  unfolding telling
  fits h = (rw (size, le-ltb (length room) 18 h) at t).0

  pub explain_short : (told ≡ 0 → ⊥) → LeavesRoom (explain_into plan room) told last
  explain_short n = split (ltb (length room) 18)
      (λ u. short (ltb-true _ _ u))
      (λ u. absurd (n (fits (ltb-false _ _ u))))

  -- where they don't fit, something is said
  unfit : length room < 18 → told ≡ 0 → ⊥
  unfolding telling
  unfit h z = let w = (rw (size, lt-ltb (length room) 18 h) at t).0 in omega (arith, w, z)

  pub explain_told : {r : ℕ} → told ≡ 0 → r ≡ g.number + 256 * g.set → LeavesRoom (explain_into plan room) r last
  unfolding explain_into telling
  explain_told z f = split (ltb (length room) 18)
      (λ u. absurd (unfit (ltb-true _ _ u) z))
      (λ u. let w = (rw (size, u) at t).1 in rw (u, ← e) (f, rw d at w))
