-- `plain::of_image` meets its contract: each part is its own. Assumes nothing.
use Rattle.bits.specs.Bits.{bit}
use Rattle.plain.proofs.Imaging.{floor_is}
use Rattle.plain.proofs.of_image.Goals as goal

pub returns : goal.returns
returns c = floor_is (bit c.args.r)
    c.cells_of-cells.ensures
    c.slots_of-slots.ensures c.bit.ensures
    c.bit-2.ensures c.height_of-height.ensures c.bit-3.ensures
    c.bit-4.ensures c.bit-5.ensures
