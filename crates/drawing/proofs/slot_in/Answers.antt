use mathlib.Core.Path.{◌≡◌, ◌∙◌}
use mathlib.Core.Bool.{true, false, ◌||◌}
use lib.Dec.{eqb}
use borrow.Author.Rules.{rules}
use Rattle.drawing.proofs.Cells.{slot_lowered, slot_tilted}
use Rattle.drawing.proofs.slot_in.Goals as goal

pub returns-in-66 : goal.returns-in-66
returns-in-66 c =
    let e : true ≡ eqb c.byte-b.result 66 || eqb c.byte-b.result 76 = search rules in
    e ∙ slot_lowered c.args.text.now c.args.n c.byte-b.ensures c.if-n-lt6.true

pub returns-in_default : goal.returns-in_default
returns-in_default c =
    let e : false ≡ eqb c.byte-b.result 66 || eqb c.byte-b.result 76 = search rules in
    e ∙ slot_lowered c.args.text.now c.args.n c.byte-b.ensures c.if-n-lt6.true

pub returns-in-66-matches : goal.returns-in-66-matches
returns-in-66-matches c =
    let e : true ≡ eqb c.byte-b.result 66 || eqb c.byte-b.result 84 = search rules in
    e ∙ slot_tilted c.args.text.now c.args.n c.byte-b.ensures c.if-n-lt6.false

pub returns-in_default-matches : goal.returns-in_default-matches
returns-in_default-matches c =
    let e : false ≡ eqb c.byte-b.result 66 || eqb c.byte-b.result 84 = search rules in
    e ∙ slot_tilted c.args.text.now c.args.n c.byte-b.ensures c.if-n-lt6.false
