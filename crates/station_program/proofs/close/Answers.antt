-- `station_program::close` meets its contract: the end is noted before it is answered. Assumes nothing.
use Rattle.std.proofs.Common.{◌≡◌, true, inl, refl, sym, length-take-le}
use Rattle.journal_file.specs.Cards.{no_numbers}
use Rattle.journal_keeper.specs.declared.Journal.{Journal}
use Rattle.journal_keeper.specs.Keeping.{Noted, JournalMakes}
use Rattle.journal_keeper.proofs.Adding.{of_ok}
use Rattle.station_program.proofs.close.Goals as goal

pub slice_bounds-note-end : goal.slice_bounds-note-end
slice_bounds-note-end c = sym (length-take-le _ _ c.requires.0)

pub slice_bounds-finish-end : goal.slice_bounds-finish-end
slice_bounds-finish-end c = sym (length-take-le _ _ c.requires.0)

pub say-requires : goal.say-requires
say-requires c = let pre = c.requires in let n = of_ok (λ (k : Journal). (k.station ≡ c.args.j.station) × Noted true k × JournalMakes no_numbers k) c.in_ok-noted.was (c.note.ensures no_numbers pre.1 pre.2 (inl refl)) in (n.2, n.1)
