use mathlib.Core.Path.{ap, ◌∙◌}
use mathlib.Core.List.{List}
use Prim.Native.Nat.{ℕ, ◌/◌, ◌%◌}
use lib.ListN.{get_or}
use Rattle.codec.proofs.LittleEndian.{eight_laid}
use Rattle.drawing.specs.Hex.{hex_digit}
use Rattle.drawing.specs.Private.{hex_at}
use Rattle.std.proofs.lemmas.Grind.{common_steps}
use native.Mathlib.Omega.{arith}
use Rattle.drawing.proofs.digits.line_byte.Goals as goal

pub returns-in-0 : goal.returns-in-0
unfolding hex_at
returns-in-0 c =
    c.hex_digit.ensures
    ∙ ap (λ (l : List ℕ). hex_digit (get_or l (c.args.t / 3) 0 / 16)) (c.to_le_bytes.ensures ∙ eight_laid c.args.image)
    ∙ simp c.in-0.is

pub returns-in-1 : goal.returns-in-1
unfolding hex_at
returns-in-1 c =
    c.hex_digit-in-1.ensures
    ∙ ap (λ (l : List ℕ). hex_digit (get_or l (c.args.t / 3) 0 % 16)) (c.to_le_bytes.ensures ∙ eight_laid c.args.image)
    ∙ simp c.in-1.is

pub returns-else-t-eq23 : goal.returns-else-t-eq23
unfolding hex_at
returns-else-t-eq23 c = grind (arith, common_steps)

pub returns-then-t-eq23 : goal.returns-then-t-eq23
unfolding hex_at
returns-then-t-eq23 c = grind (arith, common_steps)
