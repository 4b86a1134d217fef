use Rattle.journal_file.proofs.Taking.{not_all, all_taken}
use mathlib.Core.Path.{◌∙◌}
use Rattle.journal_file.proofs.steps.take_messages.Goals as goal

pub returns-then-f-lead : goal.returns-then-f-lead
returns-then-f-lead c = (
  c.not_taken.ensures ∙ not_all c.args.r c.args.f _ _ c.serve-w.ensures.0 c.lead_of-lead.ensures c.requires.1 c.if-f-lead.true,
  c.serve-w.ensures.1,
)

pub returns : goal.returns
returns c = (
  c.take.ensures ∙ all_taken c.args.r c.args.f _ _ c.serve-w.ensures.0 c.lead_of-lead.ensures c.requires.1 c.if-f-lead.false,
  c.serve-w.ensures.1,
)
