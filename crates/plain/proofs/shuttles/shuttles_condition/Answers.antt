-- `plain::shuttles::shuttles_condition` meets its contract, condition by condition. Assumes nothing.
use mathlib.Core.Path.{refl, ◌∙◌}
use native.Mathlib.Omega.{arith}
use Rattle.answers.specs.declared.Reason.TheVariants.{NothingNamed, Gap, NotAvailable, NotFree, OddCount}
use Rattle.rules.specs.declared.Instruction.TheVariants.{Shuttles}
use Rattle.rules.specs.Rules.{clauses}
use Rattle.plain.specs.Plain.{plain_bits}
use Rattle.plain.proofs.Telling.{told, past}
use Rattle.plain.proofs.Spans.{any_row, rows_border}
use Rattle.plain.proofs.Ranges.{shuttles_ranges}
use Rattle.plain.proofs.shuttles.shuttles_condition.Goals as goal

pub all_there-requires : goal.all_there-requires
all_there-requires c = let a = c.args in let r = shuttles_ranges a.side a.mask a.orientation a.toward c.requires in (r.0, r.2)

pub whole-requires : goal.whole-requires
whole-requires c = let a = c.args in (shuttles_ranges a.side a.mask a.orientation a.toward c.requires).0

pub room_ahead-requires : goal.room_ahead-requires
room_ahead-requires c = c.requires

pub returns-in-0 : goal.returns-in-0
returns-in-0 c = let a = c.args in
    let r = shuttles_ranges a.side a.mask a.orientation a.toward c.requires in
    told (clauses (Shuttles a.side a.mask a.orientation a.toward)) (plain_bits a.f) 0 c.in-0.is _ NothingNamed c.told.ensures
    (any_row a.mask (omega (arith, r.1))) refl

pub returns-in-1 : goal.returns-in-1
returns-in-1 c = let a = c.args in
    let r = shuttles_ranges a.side a.mask a.orientation a.toward c.requires in
    told (clauses (Shuttles a.side a.mask a.orientation a.toward)) (plain_bits a.f) 1 c.in-1.is _ Gap c.told-in-1.ensures
    (c.gapless.ensures ∙ rows_border a.mask (omega (arith, r.1))) refl

pub returns-in-2 : goal.returns-in-2
returns-in-2 c = let a = c.args in
    told (clauses (Shuttles a.side a.mask a.orientation a.toward)) (plain_bits a.f) 2 c.in-2.is _ NotAvailable c.told-in-2.ensures
    c.all_there.ensures refl

pub returns-in-3 : goal.returns-in-3
returns-in-3 c = let a = c.args in
    told (clauses (Shuttles a.side a.mask a.orientation a.toward)) (plain_bits a.f) 3 c.in-3.is _ OddCount c.told-in-3.ensures
    c.whole.ensures refl

pub returns-in-4 : goal.returns-in-4
returns-in-4 c = let a = c.args in
    told (clauses (Shuttles a.side a.mask a.orientation a.toward)) (plain_bits a.f) 4 c.in-4.is _ NotFree c.told-in-4.ensures
    c.room_ahead.ensures refl

pub returns-in_default : goal.returns-in_default
returns-in_default c = let a = c.args in past (clauses (Shuttles a.side a.mask a.orientation a.toward)) (plain_bits a.f) a.c (omega arith)
