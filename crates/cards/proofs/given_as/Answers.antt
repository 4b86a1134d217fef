-- `cards::given_as` meets its contract: each return is one case of the definition. Assumes nothing.
use mathlib.Core.Path.{sym, ap, ◌∙◌}
use Prim.Native.Nat.{◌≤◌}
use native.Mathlib.Omega.{arith}
use lib.ListN.{length}
use lib.Seq.{length-take-le}
use Rattle.std.specs.Option.{is_some}
use Rattle.cards.proofs.Giving.{few_wanted}
use Rattle.cards.proofs.Seeking.{wrong_count, zero_given, twice_given, all_fine}
use Rattle.cards.proofs.given_as.Goals as goal

pub returns-then-count-wanted : goal.returns-then-count-wanted
returns-then-count-wanted c = let a = c.args in wrong_count a.r a.count a.ns c.wanted.ensures c.if-count-wanted.true

pub slice_bounds-ns-end : goal.slice_bounds-ns-end
slice_bounds-ns-end c = omega (arith, c.well_formed.1.1.0.1.0.1, c.wanted.ensures, few_wanted c.args.r, c.if-count-wanted.false)

pub slice_bounds-come-end : goal.slice_bounds-come-end
slice_bounds-come-end c =
    let few = few_wanted c.args.r in
    sym (length-take-le c.args.count c.args.ns (omega (arith, c.well_formed.1.1.0.1.0.1, c.wanted.ensures, few, c.if-count-wanted.false)))

pub returns-then-is_some : goal.returns-then-is_some
returns-then-is_some c =
    let a = c.args in
    let few = few_wanted a.r in
    let size : a.count ≤ length a.ns = omega (arith, c.well_formed.1.1.0.1.0.1, c.wanted.ensures, few, c.if-count-wanted.false) in
    zero_given a.r a.count a.ns c.wanted.ensures c.if-count-wanted.false size (c.is_some.ensures ∙ ap is_some c.first.ensures) c.if-is_some.true

pub returns-then-one_repeats : goal.returns-then-one_repeats
returns-then-one_repeats c =
    let a = c.args in
    let few = few_wanted a.r in
    let size : a.count ≤ length a.ns = omega (arith, c.well_formed.1.1.0.1.0.1, c.wanted.ensures, few, c.if-count-wanted.false) in
    twice_given a.r a.count a.ns c.wanted.ensures c.if-count-wanted.false size (c.is_some.ensures ∙ ap is_some c.first.ensures)
    c.if-is_some.false c.one_repeats.ensures c.if-one_repeats.true

pub returns : goal.returns
returns c =
    let a = c.args in
    let few = few_wanted a.r in
    let size : a.count ≤ length a.ns = omega (arith, c.well_formed.1.1.0.1.0.1, c.wanted.ensures, few, c.if-count-wanted.false) in
    all_fine a.r a.count a.ns c.wanted.ensures c.if-count-wanted.false size (c.is_some.ensures ∙ ap is_some c.first.ensures)
    c.if-is_some.false c.one_repeats.ensures c.if-one_repeats.false
