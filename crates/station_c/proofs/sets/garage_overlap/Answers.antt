-- `station_c::sets::garage_overlap` meets its contract: too few bytes, or by what the two say. Assumes nothing.
use Rattle.station_c.proofs.Building.{pair_few, pair_few_2, pair_read}
use Rattle.rooms.specs.Rooms.{returned}
use Rattle.station_c.specs.Sets.{sharing_said}
use mathlib.Core.Path.{refl, sym, ap, ◌∙◌}
use native.Mathlib.Omega.{arith}
use Rattle.station_c.proofs.sets.garage_overlap.Goals as goal

pub returns-then-one-lt-CODE : goal.returns-then-one-lt-CODE
returns-then-one-lt-CODE c = pair_few _ _ c.if-one-lt-CODE.true c.say.ensures

pub returns-then-other-lt-CODE : goal.returns-then-other-lt-CODE
returns-then-other-lt-CODE c = pair_few_2 _ _ (omega (arith, c.if-one-lt-CODE.false)) c.if-other-lt-CODE.true c.say-then-other-lt-CODE.ensures

pub returns-in_default : goal.returns-in_default
returns-in_default c =
    pair_read _ _ (omega (arith, c.if-one-lt-CODE.false))
    (omega (arith, c.if-other-lt-CODE.false))
    (sym c.in_default.is ∙ c.read_bytes.ensures) refl c.say-in_default.ensures

pub returns-in_default-read_bytes : goal.returns-in_default-read_bytes
returns-in_default-read_bytes c =
    pair_read _ _ (omega (arith, c.if-one-lt-CODE.false))
    (omega (arith, c.if-other-lt-CODE.false))
    (sym c.in-Some.is ∙ c.read_bytes.ensures)
    (sym c.in_default-read_bytes.is ∙ c.read_bytes-2.ensures) c.say-in_default-read_bytes.ensures

pub returns : goal.returns
returns c =
    pair_read _ _
    (omega (arith, c.if-one-lt-CODE.false))
    (omega (arith, c.if-other-lt-CODE.false))
    (sym c.in-Some.is
    ∙ c.read_bytes.ensures)
    (sym c.in-Some-read_bytes.is ∙ c.read_bytes-2.ensures)
    (c.say-2.ensures ∙ ap returned (c.sharing_said.ensures ∙ ap sharing_said c.overlap.ensures))
