-- `plain_station::Plain::numbered` meets its contract: in the set, and not answered yet. Assumes nothing.
use Rattle.plain_station.proofs.Outcomes.{back, where_true, where_false}
use Rattle.plain_station.proofs.Standing.{mark_at}
use Rattle.plain_station.specs.Plain.{packed_of, plain_outcome}
use Rattle.station.proofs.Marks.{in_set_lem}
use Rattle.station.specs.Calls.{refused, numbered}
use Rattle.station.specs.Station.{in_set, marked}
use Rattle.answers.specs.declared.Answer.TheVariants.{NotInSet, AlreadyAnswered}
use Rattle.bits.proofs.Cases.{passed}
use Rattle.std.proofs.Common.{not, sym, ap, ◌∙◌, arith, rules}
use Rattle.plain_station.proofs.Plain.numbered.Goals as goal

pub returns-then-not-in_set : goal.returns-then-not-in_set
unfolding numbered
returns-then-not-in_set c = let a = c.args in
    let s = packed_of a.self in
    back c.args.self (search rules) _ ∙ ap plain_outcome (where_true (not (in_set s a.i)) (refused s NotInSet) _ (sym (ap not c.in_set.ensures) ∙ c.if-not-in_set.true-raw))

pub bounds-self-i : goal.bounds-self-i
unfolding packed_of
bounds-self-i c = let e = in_set_lem (packed_of c.args.self) _ (passed c.in_set.ensures c.if-not-in_set.false-raw) in omega (arith, e.0, e.1)

pub returns-then-self-i : goal.returns-then-self-i
unfolding numbered packed_of
returns-then-self-i c = let a = c.args in
    let s = packed_of a.self in
    let e = in_set_lem s a.i (passed c.in_set.ensures c.if-not-in_set.false-raw) in
    back c.args.self (search rules) _
    ∙ ap plain_outcome (where_true (marked s a.i) (refused s AlreadyAnswered) _ (mark_at a.self.answered a.i (omega (arith, e.0, e.1)) ∙ c.if-self-i.true)
    ∙ where_false (not (in_set s a.i)) (refused s NotInSet) _ (sym (ap not c.in_set.ensures) ∙ c.if-not-in_set.false-raw))

pub ended-requires : goal.ended-requires
unfolding packed_of
ended-requires c = in_set_lem (packed_of c.args.self) _ (passed c.in_set.ensures c.if-not-in_set.false-raw)

pub returns : goal.returns
unfolding numbered packed_of
returns c = let a = c.args in
    let s = packed_of a.self in
    let e = in_set_lem s a.i (passed c.in_set.ensures c.if-not-in_set.false-raw) in
    c.ended.ensures
    ∙ ap plain_outcome (where_false (marked s a.i) (refused s AlreadyAnswered) _ (mark_at a.self.answered a.i (omega (arith, e.0, e.1)) ∙ c.if-self-i.false)
    ∙ where_false (not (in_set s a.i)) (refused s NotInSet) _ (sym (ap not c.in_set.ensures) ∙ c.if-not-in_set.false-raw))
