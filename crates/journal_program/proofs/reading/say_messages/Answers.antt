-- `journal_program::reading::say_messages` meets its contract: what is written of an append is what was recorded in it. Assumes nothing.
use Rattle.std.proofs.Common.{rules}
use Rattle.journal_program.proofs.Recorded.{append_least, size_fits, lead_fits, messages_are}
use Rattle.journal_program.proofs.reading.say_messages.Goals as goal

pub size_in-n-requires : goal.size_in-n-requires
size_in-n-requires c = append_least c.args.append.now c.requires

pub lead_in-lead-requires : goal.lead_in-lead-requires
lead_in-lead-requires c = append_least c.args.append.now c.requires

pub overflow_add-lead : goal.overflow_add-lead
overflow_add-lead c = let f = size_fits c.args.append.now c.requires _ _ c.size_in-n.ensures c.lead_in-lead.ensures in let l = lead_fits c.args.append.now c.requires _ _ c.size_in-n.ensures c.lead_in-lead.ensures in search rules

pub overflow_add-n : goal.overflow_add-n
overflow_add-n c = let f = size_fits c.args.append.now c.requires _ _ c.size_in-n.ensures c.lead_in-lead.ensures in let l = lead_fits c.args.append.now c.requires _ _ c.size_in-n.ensures c.lead_in-lead.ensures in search rules

pub slice_bounds-write_messages-count : goal.slice_bounds-write_messages-count
slice_bounds-write_messages-count c = let f = size_fits c.args.append.now c.requires _ _ c.size_in-n.ensures c.lead_in-lead.ensures in let l = lead_fits c.args.append.now c.requires _ _ c.size_in-n.ensures c.lead_in-lead.ensures in search rules

pub slice_bounds-write_messages-start : goal.slice_bounds-write_messages-start
slice_bounds-write_messages-start c = let f = size_fits c.args.append.now c.requires _ _ c.size_in-n.ensures c.lead_in-lead.ensures in let l = lead_fits c.args.append.now c.requires _ _ c.size_in-n.ensures c.lead_in-lead.ensures in search rules

pub slice_bounds-write_messages-end : goal.slice_bounds-write_messages-end
slice_bounds-write_messages-end c = let f = size_fits c.args.append.now c.requires _ _ c.size_in-n.ensures c.lead_in-lead.ensures in let l = lead_fits c.args.append.now c.requires _ _ c.size_in-n.ensures c.lead_in-lead.ensures in search rules

pub write_messages-requires : goal.write_messages-requires
write_messages-requires c = messages_are c.args.append.now c.requires _ _ c.size_in-n.ensures c.lead_in-lead.ensures
