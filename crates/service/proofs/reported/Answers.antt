-- `service::reported` meets its contract: refused as the reader refuses, or the result. Assumes nothing.
use Rattle.service.proofs.Called.{unfit_called, past_test}
use Rattle.service.proofs.Hearing.{report_long, report_bad, report_called}
use Rattle.station.specs.Calls.{resulted}
use Rattle.station.specs.Turns.{turn_of}
use Rattle.wire.specs.declared.What.TheVariants.{Result}
use Rattle.wire.proofs.Parts.{two_at}
use Rattle.codec.specs.Bytes.{from_little_endian}
use mathlib.Core.Bool.{true}
use lib.ListN.{get_or, replicate}
use mathlib.Core.Path.{refl, ap, ◌∙◌}
use Rattle.service.proofs.reported.Goals as goal

pub returns-then-m-ne8 : goal.returns-then-m-ne8
returns-then-m-ne8 c = let a = c.args in let m = a.m.now in c.unmoved.ensures ∙ ap turn_of (report_long a.known a.s m c.requires.1 c.if-m-ne8.true)

pub returns-then-ending-gt2 : goal.returns-then-ending-gt2
returns-then-ending-gt2 c = let a = c.args in let m = a.m.now in c.unmoved-then-ending-gt2.ensures ∙ ap turn_of (report_bad a.known a.s m c.requires.1 c.if-m-ne8.false c.byte-ending.ensures c.if-ending-gt2.true)

pub returns-then-not-known : goal.returns-then-not-known
returns-then-not-known c = let a = c.args in let m = a.m.now in c.unmoved-then-not-known.ensures ∙ ap turn_of (unfit_called a.known (Result (from_little_endian 2 4 m) (get_or m 6 0) c.byte-ending.result) a.s 0 (replicate 40 0) {a = true} refl c.if-not-known.true-raw ∙ report_called a.known a.s m c.requires.1 c.if-m-ne8.false c.byte-ending.ensures c.if-ending-gt2.false refl refl)

pub resulted-requires : goal.resulted-requires
resulted-requires c = c.requires.0

pub returns : goal.returns
returns c = let a = c.args in let m = a.m.now in past_test a.known a.s (resulted a.s _) {a = true} refl c.if-not-known.false-raw c.resulted.ensures ∙ ap turn_of (report_called a.known a.s m c.requires.1 c.if-m-ne8.false c.byte-ending.ensures c.if-ending-gt2.false (c.word-issue.ensures ∙ two_at m 4 c.byte.ensures c.byte-2.ensures) c.byte-number.ensures)
