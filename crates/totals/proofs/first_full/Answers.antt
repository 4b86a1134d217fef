use Rattle.totals.proofs.Steps.{told_none, told_1, told_2, told_3, told_4}
use Rattle.totals.proofs.first_full.Goals as goal

pub returns-then-not-by_kind-by_answer : goal.returns-then-not-by_kind-by_answer
returns-then-not-by_kind-by_answer c = told_none c.args.counts.now
    c.args.m c.fills_at-by_kind.ensures
    c.fills_at-by_answer.ensures c.fills_at-by_result.ensures c.fills_at-by_drive.ensures c.if-not-by_kind-by_answer.true-raw

pub returns-then-by_kind : goal.returns-then-by_kind
returns-then-by_kind c = told_1 c.args.counts.now
    c.args.m
    c.fills_at-by_kind.ensures c.fills_at-by_answer.ensures
    c.fills_at-by_result.ensures c.fills_at-by_drive.ensures c.if-by_kind.true

pub returns-then-by_answer : goal.returns-then-by_answer
returns-then-by_answer c = told_2 c.args.counts.now
    c.args.m
    c.fills_at-by_kind.ensures
    c.fills_at-by_answer.ensures c.fills_at-by_result.ensures
    c.fills_at-by_drive.ensures c.if-by_kind.false c.if-by_answer.true

pub returns-then-by_result : goal.returns-then-by_result
returns-then-by_result c = told_3
    c.args.counts.now
    c.args.m
    c.fills_at-by_kind.ensures
    c.fills_at-by_answer.ensures
    c.fills_at-by_result.ensures c.fills_at-by_drive.ensures
    c.if-by_kind.false c.if-by_answer.false c.if-by_result.true

pub returns : goal.returns
returns c = told_4
    c.args.counts.now
    c.args.m
    c.fills_at-by_kind.ensures
    c.fills_at-by_answer.ensures
    c.fills_at-by_result.ensures c.fills_at-by_drive.ensures
    c.if-by_kind.false c.if-by_answer.false c.if-by_result.false c.if-not-by_kind-by_answer.false-raw
