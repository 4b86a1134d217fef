-- `engine::code_next` meets its contract: belts and runs of the lift at once, others by what the bytes say. Assumes nothing.
use Rattle.std.proofs.Common.{◌≡◌, true, sym, ◌∙◌}
use Rattle.engine.specs.Private.{code_runs}
use Rattle.engine.proofs.Answers.{located_said, located_area, located_none, code_next_lem, gap_next, bad_next}
use Rattle.engine.proofs.Shortcuts.{toward_small, belts_left, lift_well, lift_left}
use Rattle.bits.proofs.Cases.{true→T}
use borrow.Author.Rules.{rules}
use Rattle.engine.proofs.code_next.Goals as goal

pub belts_next-requires : goal.belts_next-requires
belts_next-requires c = let k : code_runs c.args.x c.in-Some.named ≡ true = search rules in toward_small c.args.x c.in-Some.named k

pub returns-in-Some : goal.returns-in-Some
returns-in-Some c =
    let k : code_runs c.args.x c.in-Some.named ≡ true = search rules in
    belts_left c.args.x c.in-Some.named k c.args.r c.belts_next.result (search rules) c.belts_next.ensures

pub lift_next-requires : goal.lift_next-requires
lift_next-requires c = true→T (lift_well c.args.x (sym c.runs_lift.ensures ∙ c.if-runs_lift.true))

pub returns-then-runs_lift : goal.returns-then-runs_lift
returns-then-runs_lift c = let a = c.args in lift_left a.x (sym c.runs_lift.ensures ∙ c.if-runs_lift.true) a.r c.lift_next.result c.lift_next.ensures

pub whole-requires : goal.whole-requires
whole-requires c = (located_area c.args.x c.locate.ensures _ c.in-Some-locate.is).0

pub next-requires : goal.next-requires
next-requires c =
    let (w, a) = located_area c.args.x c.locate.ensures _ c.in-Some-locate.is in
    (w, sym c.whole.ensures ∙ c.if-whole.true, a)

pub returns-in-Some-locate : goal.returns-in-Some-locate
returns-in-Some-locate c =
    code_next_lem c.args.x _ (located_said c.args.x c.locate.ensures _ c.in-Some-locate.is) c.args.r (sym c.whole.ensures ∙ c.if-whole.true) _ c.next.ensures

pub returns-in-Some-2 : goal.returns-in-Some-2
returns-in-Some-2 c =
    gap_next c.args.x _ (located_said c.args.x c.locate.ensures _ c.in-Some-locate.is) c.args.r (sym c.whole.ensures ∙ c.if-whole.false)

pub returns-in-None : goal.returns-in-None
returns-in-None c = bad_next c.args.x (located_none c.args.x c.locate.ensures c.in-None.is) c.args.r
