use Rattle.codec.specs.Text.{ascii}
use Rattle.drawing.proofs.Telling.{is_street, is_rotation, is_basement, is_no_height}
use Rattle.drawing.proofs.lift_line.height_in.Goals as goal

pub returns-then-begins : goal.returns-then-begins
unfolding ascii
returns-then-begins c = is_street _ c.begins.ensures c.if-begins.true

pub returns-then-begins-2 : goal.returns-then-begins-2
unfolding ascii
returns-then-begins-2 c = is_rotation _ c.begins.ensures c.if-begins.false c.begins-2.ensures c.if-begins-2.true

pub returns-then-begins-3 : goal.returns-then-begins-3
unfolding ascii
returns-then-begins-3 c =
    is_basement _ c.begins.ensures
    c.if-begins.false c.begins-2.ensures
    c.if-begins-2.false c.begins-3.ensures c.if-begins-3.true

pub returns : goal.returns
unfolding ascii
returns c =
    is_no_height _ c.begins.ensures
    c.if-begins.false c.begins-2.ensures
    c.if-begins-2.false c.begins-3.ensures c.if-begins-3.false
