use mathlib.Core.Path.{◌∙◌}
use Rattle.drawing.proofs.Standing.{bad_0, bad_1, bad_2, bad_3, bad_4, bad_later}
use Rattle.drawing.proofs.first_bad.Goals as goal

pub returns-then-not-marks_stand : goal.returns-then-not-marks_stand
returns-then-not-marks_stand c = bad_0 _ _ _ c.marks_stand.ensures c.if-not-marks_stand.true-raw

pub returns-then-not-marks_stand-2 : goal.returns-then-not-marks_stand-2
returns-then-not-marks_stand-2 c =
    bad_1 _ _ _ c.marks_stand.ensures
    c.if-not-marks_stand.false-raw c.marks_stand-2.ensures c.if-not-marks_stand-2.true-raw

pub returns-then-not-marks_stand-3 : goal.returns-then-not-marks_stand-3
returns-then-not-marks_stand-3 c =
    bad_2 _ _ _ c.marks_stand.ensures c.if-not-marks_stand.false-raw
    c.marks_stand-2.ensures c.if-not-marks_stand-2.false-raw c.marks_stand-3.ensures c.if-not-marks_stand-3.true-raw

pub returns-then-not-letters_stand : goal.returns-then-not-letters_stand
returns-then-not-letters_stand c =
    bad_3 _ _ _ c.marks_stand.ensures
    c.if-not-marks_stand.false-raw c.marks_stand-2.ensures
    c.if-not-marks_stand-2.false-raw c.marks_stand-3.ensures c.if-not-marks_stand-3.false-raw
    c.letters_stand.ensures c.if-not-letters_stand.true-raw

pub returns-then-not-letters_stand-2 : goal.returns-then-not-letters_stand-2
returns-then-not-letters_stand-2 c =
    bad_4 _ _ _ c.marks_stand.ensures
    c.if-not-marks_stand.false-raw
    c.marks_stand-2.ensures
    c.if-not-marks_stand-2.false-raw c.marks_stand-3.ensures
    c.if-not-marks_stand-3.false-raw
    c.letters_stand.ensures c.if-not-letters_stand.false-raw c.letters_stand-2.ensures c.if-not-letters_stand-2.true-raw

pub returns : goal.returns
returns c = c.bad_at_end.ensures
    ∙ bad_later _ _ _ c.marks_stand.ensures
    c.if-not-marks_stand.false-raw
    c.marks_stand-2.ensures
    c.if-not-marks_stand-2.false-raw
    c.marks_stand-3.ensures c.if-not-marks_stand-3.false-raw
    c.letters_stand.ensures c.if-not-letters_stand.false-raw c.letters_stand-2.ensures c.if-not-letters_stand-2.false-raw
