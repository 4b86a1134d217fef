use mathlib.Core.Path.{refl, ap, ◌∙◌}
use mathlib.Core.List.{List}
use Prim.Native.Nat.{ℕ}
use lib.ListN.{length}
use Rattle.report_text.proofs.Laying.{laid_behind, length_laid}
use Rattle.report_text.proofs.Text.put.Goals as goal

pub returns : goal.returns
returns c =
    let laid = laid_behind c.args.self.now.bytes c.args.self.now.size c.args.src.now _ c.copy_from_slice.ensures.after in
    record { holds = laid; next = refl; same = ap (λ (l : List ℕ). length l) laid ∙ length_laid _ _ _ c.requires }
