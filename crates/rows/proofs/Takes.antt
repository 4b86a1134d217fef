-- What each bit of the next record takes, by the rules and by a row of masks. Assumes nothing.
use mathlib.Core.Bool.{Bool, true, false, cond, not, ◌&&◌}
use mathlib.Core.List.{List, [], ◌∷◌}
use Prim.Native.Nat.{ℕ, ◌+◌, ◌-◌}
use lib.Dec.{eqb, leb, ltb}
use Rattle.bits.specs.Bits.{bit}
use Rattle.bits.specs.Places.{places}
use Rattle.floor.specs.Tests.{Test, fact, set, exactly, even, no, both, either, Change, ◌≔◌}
use Rattle.rows.specs.Private.{Move}

-- the test that gives bit k after changes
abbrev pub takes : List Change → ℕ → Test
takes [] k = set (k ∷ [])
takes ((j ≔ t) ∷ cs) k = cond (eqb j k) t (takes cs k)

-- one or the other, where the other may be nothing
abbrev pub or2 : Test → Test → Test
or2 t (fact true) = either t (fact true)
or2 t (fact false) = t
or2 t (set ks) = either t (set ks)
or2 t (exactly n ks) = either t (exactly n ks)
or2 t (even ks) = either t (even ks)
or2 t (no u) = either t (no u)
or2 t (both u v) = either t (both u v)
or2 t (either u v) = either t (either u v)

abbrev pub live : Bool → Test → Test → Test
live b t u = cond b (or2 t u) u

-- from the last to the first
abbrev pub takes_b : Move → ℕ → Test
takes_b m k = live (bit m.to_b k && not (eqb m.from_b 0)) (set (places m.from_b)) (fact false)

abbrev pub takes_a : Move → ℕ → Test
takes_a m k = live (bit m.to_a k && not (eqb m.from_a 0)) (set (places m.from_a)) (takes_b m k)

abbrev pub moves : Move → ℕ → Bool
moves m k = ltb (m.down + k) 64 && (leb m.up (m.down + k) && bit m.movers (m.down + k - m.up))

abbrev pub takes_moved : Move → ℕ → Test
takes_moved m k = live (moves m k) (set ((m.down + k - m.up) ∷ [])) (takes_a m k)

abbrev pub takes_new : Move → ℕ → Test
takes_new m k = live (bit m.new k) (fact true) (takes_moved m k)

abbrev pub row_takes : Move → ℕ → Test
row_takes m k = live (bit m.keep k) (set (k ∷ [])) (takes_new m k)
