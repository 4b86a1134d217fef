use mathlib.Core.Path.{sym, ap, ◌∙◌}
use Prim.Native.Nat.{◌/◌}
use lib.Bits.{bit_xor}
use Rattle.checksum.proofs.Moves.{moved_split}
use Rattle.checksum.proofs.eight.Goals as goal

pub returns : goal.returns
returns c = let s = c.args.s in ap (bit_xor (s / 256)) c.byte_moved.ensures ∙ sym (moved_split 8 s)
