-- `plain::belts::belts_condition` meets its contract, condition by condition. Assumes nothing.
use mathlib.Core.Path.{refl, ap, ◌∙◌}
use mathlib.Core.Bool.{not, ◌||◌}
use mathlib.Core.List.{List}
use Prim.Native.Nat.{ℕ, ◌%◌}
use native.Mathlib.Omega.{arith}
use lib.Dec.{eqb}
use Rattle.bits.specs.Bits.{count}
use Rattle.answers.specs.declared.Reason.TheVariants.{NothingNamed, Gap, NotAvailable, NotFree, OddCount, HalfMove}
use Rattle.floor.specs.Tests.{even}
use Rattle.rules.specs.declared.Instruction.TheVariants.{Belts}
use Rattle.rules.specs.Rules.{clauses}
use Rattle.rules.specs.Named.{cells, end}
use Rattle.plain.specs.Plain.{plain_bits}
use Rattle.plain.proofs.Telling.{told, past}
use Rattle.plain.proofs.Spans.{any_belt, belts_border, end_all}
use Rattle.plain.proofs.Ranges.{belts_ranges, short_step}
use Rattle.plain.proofs.Asking.{only_where}
use Rattle.plain.proofs.belts.belts_condition.Goals as goal

pub available-requires : goal.available-requires
available-requires c = let a = c.args in (belts_ranges a.row a.mask a.toward a.size c.requires).0

pub at_end-requires : goal.at_end-requires
at_end-requires c = let a = c.args in
    let r = belts_ranges a.row a.mask a.toward a.size c.requires in
    (r.0, r.1, omega (arith, c.step.ensures, short_step a.row a.size))

pub at_end-requires-in-5 : goal.at_end-requires-in-5
at_end-requires-in-5 c = let a = c.args in
    let r = belts_ranges a.row a.mask a.toward a.size c.requires in
    (r.0, r.1, omega arith)

pub returns-in-0 : goal.returns-in-0
returns-in-0 c = let a = c.args in
    told (clauses (Belts a.row a.mask a.toward a.size)) (plain_bits a.f) 0 c.in-0.is _ HalfMove c.told.ensures refl refl

pub returns-in-1 : goal.returns-in-1
returns-in-1 c = let a = c.args in
    told (clauses (Belts a.row a.mask a.toward a.size)) (plain_bits a.f) 1 c.in-1.is _ NothingNamed c.told-in-1.ensures
    (any_belt a.row a.mask (belts_ranges a.row a.mask a.toward a.size c.requires).0) refl

pub returns-in-2 : goal.returns-in-2
returns-in-2 c = let a = c.args in
    told (clauses (Belts a.row a.mask a.toward a.size)) (plain_bits a.f) 2 c.in-2.is _ Gap c.told-in-2.ensures
    (c.gapless.ensures ∙ belts_border a.row a.mask (belts_ranges a.row a.mask a.toward a.size c.requires).0) refl

pub returns-in-3 : goal.returns-in-3
returns-in-3 c = let a = c.args in
    told (clauses (Belts a.row a.mask a.toward a.size)) (plain_bits a.f) 3 c.in-3.is _ NotAvailable c.told-in-3.ensures
    c.available.ensures refl

pub returns-in-4 : goal.returns-in-4
returns-in-4 c = let a = c.args in
    told (clauses (Belts a.row a.mask a.toward a.size)) (plain_bits a.f) 4 c.in-4.is _ NotFree c.told-in-4.ensures
    (ap (λ (n : ℕ). eqb n 0) (c.at_end.ensures ∙ ap (λ (n : ℕ). count (end a.toward n (cells a.row a.mask)) (plain_bits a.f)) c.step.ensures)) refl

pub returns-in-5 : goal.returns-in-5
returns-in-5 c = let a = c.args in
    let r = belts_ranges a.row a.mask a.toward a.size c.requires in
    told (clauses (Belts a.row a.mask a.toward a.size)) (plain_bits a.f) 5 c.in-5.is _ OddCount c.told-in-5.ensures
    (ap (λ (n : ℕ). not (eqb a.row 1) || eqb (n % 2) 0)
    (c.at_end-in-5.ensures ∙ ap (λ (ks : List ℕ). count ks (plain_bits a.f)) (end_all a.row a.mask a.toward r.0 (omega (arith, r.1))))
    ∙ only_where (eqb a.row 1) (even (cells a.row a.mask)) (plain_bits a.f)) refl

pub returns-in_default : goal.returns-in_default
returns-in_default c = let a = c.args in past (clauses (Belts a.row a.mask a.toward a.size)) (plain_bits a.f) a.c (omega arith)
