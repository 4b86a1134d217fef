-- `service::turn` meets its contract: by whether the station is known to be fit, and by what the message says. Assumes nothing.
use mathlib.Core.Bool.{true}
use mathlib.Core.Path.{refl, sym, ap, ◌∙◌}
use lib.ListN.{replicate}
use Rattle.station.specs.Calls.{taken, requested, evented, imaged}
use Rattle.station.specs.Turns.{turn_of}
use Rattle.bits.proofs.Cases.{clash}
use Rattle.service.specs.Private.{is_result}
use Rattle.service.proofs.Called.{unfit_called, past_test}
use Rattle.service.proofs.Hearing.{none_beside, none_asked}
use Rattle.service.proofs.turn.Goals as goal

pub returns-then-makes_call-known : goal.returns-then-makes_call-known
returns-then-makes_call-known c = let a = c.args in c.unmoved.ensures ∙ ap turn_of (unfit_called a.known a.what a.s 0 (replicate 40 0) c.makes_call.ensures c.if-makes_call-known.true)

pub returns-then-s-gt0 : goal.returns-then-s-gt0
returns-then-s-gt0 c = let a = c.args in past_test a.known a.s (requested a.s 0 (replicate 40 0)) (c.makes_call.ensures ∙ rw c.in-Request.is) c.if-makes_call-known.false (c.unmoved-then-s-gt0.ensures ∙ ap turn_of (none_beside a.s c.if-s-gt0.true)) ∙ rw c.in-Request.is

pub returns-else-s-gt0 : goal.returns-else-s-gt0
returns-else-s-gt0 c = let a = c.args in past_test a.known a.s (requested a.s 0 (replicate 40 0)) (c.makes_call.ensures ∙ rw c.in-Request.is) c.if-makes_call-known.false (c.unmoved-in-Request.ensures ∙ ap turn_of (none_asked a.s c.if-s-gt0.false)) ∙ rw c.in-Request.is

pub returns-in-Event : goal.returns-in-Event
returns-in-Event c = let a = c.args in past_test a.known a.s (evented a.s _) (c.makes_call.ensures ∙ rw c.in-Event.is) c.if-makes_call-known.false c.evented.ensures ∙ rw c.in-Event.is

pub returns-in-Result : goal.returns-in-Result
returns-in-Result c = clash {b = true} refl (ap is_result (sym c.in-Result.is) ∙ c.requires)

pub returns-in-Image : goal.returns-in-Image
returns-in-Image c = let a = c.args in past_test a.known a.s (imaged a.s _) (c.makes_call.ensures ∙ rw c.in-Image.is) c.if-makes_call-known.false c.imaged.ensures ∙ rw c.in-Image.is

pub returns-in-Ask : goal.returns-in-Ask
returns-in-Ask c = let a = c.args in past_test a.known a.s (taken a.s) (c.makes_call.ensures ∙ rw c.in-Ask.is) c.if-makes_call-known.false c.unmoved-in-Ask.ensures ∙ rw c.in-Ask.is

pub returns-in-Answer : goal.returns-in-Answer
returns-in-Answer c = c.unmoved-in-Answer.ensures ∙ rw c.in-Answer.is

pub returns-in-Held : goal.returns-in-Held
returns-in-Held c = c.unmoved-in-Held.ensures ∙ rw c.in-Held.is
