-- `journal_program::reading::begun` meets its contract: behind a good head the reading stands in the buffer. Assumes nothing.
use Rattle.std.proofs.Common.{eqb, take, drop, sym, ap, ◌∙◌, arith}
use Rattle.std.specs.Prelude.{is_ok}
use Rattle.commands.proofs.Texts.{text_is}
use Rattle.journal_files.proofs.Names.{good_is}
use Rattle.journal_reader.proofs.Standing.{begins_stands}
use Rattle.journal_program.proofs.reading.begun.Goals as goal

pub returns-in_ok-check_garage : goal.returns-in_ok-check_garage
returns-in_ok-check_garage c =
    let b = c.begin-b.ensures in (
      (c.if-buf-lt131099.false, omega (arith, b.4, b.5), omega (arith, b.5, c.if-q-lt128.false), b.0),
      λ s.
          begins_stands c.args.t.now c.begin-b.new.buf c.begin-b.result c.begin-b.ensures
          (good_is c.begin-b.result.kind (eqb c.begin-b.result.reading.end 0) (sym c.check_head.ensures ∙ ap is_ok c.in_ok-check_head.was))
          s (λ i. omega (arith, c.slice_known-2-1.given i)) c.args.asked.now
          (λ h. text_is c.args.asked.now (take 40 (drop 24 c.begin-b.new.buf)) (sym c.check_garage.ensures ∙ ap is_ok c.in_ok-check_garage.was)),
    )

pub returns-else-asked-gt0 : goal.returns-else-asked-gt0
returns-else-asked-gt0 c =
    let b = c.begin-b.ensures in (
      (c.if-buf-lt131099.false, omega (arith, b.4, b.5), omega (arith, b.5, c.if-q-lt128.false), b.0),
      λ s.
          begins_stands c.args.t.now c.begin-b.new.buf c.begin-b.result c.begin-b.ensures
          (good_is c.begin-b.result.kind (eqb c.begin-b.result.reading.end 0) (sym c.check_head.ensures ∙ ap is_ok c.in_ok-check_head.was))
          s (λ i. omega (arith, c.slice_known-2-1.given i)) c.args.asked.now
          (λ h. absurd (omega (arith, h, c.if-asked-gt0.false))),
    )
