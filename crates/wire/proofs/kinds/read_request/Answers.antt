use Rattle.wire.proofs.Reading.{read_too_many, read_bad_length, read_bad_one, read_all_good}
use mathlib.Core.Path.{◌∙◌, sym, ap}
use Rattle.wire.specs.Reads.{as_parsed}
use Rattle.wire.proofs.kinds.read_request.Goals as goal

pub returns-then-count-gt8 : goal.returns-then-count-gt8
returns-then-count-gt8 c = c.refused.ensures ∙ ap as_parsed (sym (read_too_many c.args.m.now c.byte-count.ensures c.if-count-gt8.true))

pub returns-then-used-count : goal.returns-then-used-count
returns-then-used-count c =
    let small = c.if-count-gt8.false in
    c.refused-then-used-count.ensures ∙ ap as_parsed (sym (read_bad_length c.args.m.now c.byte-count.ensures small c.if-used-count.true))

pub returns-then-bad-count : goal.returns-then-bad-count
returns-then-bad-count c =
    let small = c.if-count-gt8.false in
    let long = c.if-used-count.false in
    let bad = c.least_bad-bad.ensures in
    c.refused-then-bad-count.ensures ∙ ap as_parsed (sym (read_bad_one c.args.m.now c.byte-count.ensures small long bad c.if-bad-count.true))

pub returns : goal.returns
returns c =
    let small = c.if-count-gt8.false in
    let long = c.if-used-count.false in
    let bad = c.least_bad-bad.ensures in
    ap as_parsed (read_all_good c.args.m.now c.byte-count.ensures small long bad c.if-bad-count.false c.held-set.ensures)
