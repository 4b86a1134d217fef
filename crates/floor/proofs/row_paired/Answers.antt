-- `floor::row_paired` meets its contract: the window is doubled five times (proofs/Parity.antt). Assumes nothing.
use Prim.Native.Nat.{◌%◌, ◌^◌}
use Rattle.bits.specs.Bits.{bit}
use Rattle.floor.proofs.Parity.{window_one, window_twice, row_law}
use Rattle.floor.proofs.row_paired.Goals as goal

pub returns : goal.returns
returns c = let x = c.args.r % 2 ^ 20 in
    let f = bit x in
    row_law c.args.r _ (window_twice f 16 _ (window_twice f 8 _ (window_twice f 4 _ (window_twice f 2 _ (window_twice f 1 x (window_one x))))))
