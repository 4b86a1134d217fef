use Rattle.desk_service.specs.DeskService.{desk_called, desk_shown}
use mathlib.Core.Path.{◌∙◌, ap}
use Rattle.desk_service.proofs.kinds.said.Goals as goal

pub returns-in-Request : goal.returns-in-Request
returns-in-Request c = c.called.ensures ∙ ap desk_called c.request.ensures ∙ rw c.in-Request.is

pub returns-in-Event : goal.returns-in-Event
returns-in-Event c = c.called-in-Event.ensures ∙ ap desk_called c.event.ensures ∙ rw c.in-Event.is

pub returns-in-Result : goal.returns-in-Result
returns-in-Result c = c.called-in-Result.ensures ∙ ap desk_called c.result.ensures ∙ rw c.in-Result.is

pub returns-in-Image : goal.returns-in-Image
returns-in-Image c = c.called-in-Image.ensures ∙ ap desk_called c.image.ensures ∙ rw c.in-Image.is

pub returns-in-Ask : goal.returns-in-Ask
returns-in-Ask c = c.shown.ensures ∙ ap desk_shown c.ask.ensures ∙ rw c.in-Ask.is
