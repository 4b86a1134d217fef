use native.Mathlib.Omega.{arith}
use Rattle.codec.proofs.LittleEndian.{four_said}
use Rattle.journal_file.proofs.joined.Goals as goal

pub returns : goal.returns
returns c = let a = c.args in let e = four_said a.a a.b a.c 0 in let f = c.from_le_bytes.ensures in omega arith
