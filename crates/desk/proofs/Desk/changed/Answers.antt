-- `desk::Desk::changed` meets its contract: first what leaves or moves, then what appears. Assumes nothing.
use borrow.Author.Rules.{rules}
use Rattle.desk.specs.Lines.{moved_line, new_line}
use Rattle.desk.proofs.Laying.{changes_found}
use Rattle.desk.proofs.Desk.changed.Goals as goal

pub returns : goal.returns
returns c =
    let a = c.args in
    changes_found _ _ _ c.no_lines.ensures
    (c.gathered-moved.ensures (moved_line a.self.station.apart a.self.numbers a.new) (λ j h l p. search rules))
    (c.gathered.ensures (new_line a.self.numbers a.new) (λ j h l p. search rules))
