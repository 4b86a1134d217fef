use Rattle.drawing.specs.Reading.{is_letter}
use Rattle.drawing.proofs.Standing.{three_stand}
use Rattle.drawing.proofs.letters_stand.Goals as goal

pub returns : goal.returns
returns c =
    let x = c.args in
    three_stand is_letter x.text.now x.at c.byte.ensures
    c.is_letter-first.ensures c.byte-2.ensures
    c.is_letter-second.ensures c.byte-3.ensures c.is_letter-third.ensures
    c.byte-4.ensures
