-- `panel_c::condition_bytes` meets its contract: byte by byte, or that there is none. Assumes nothing.
use mathlib.Core.Path.{sym, ap, ◌∙◌}
use mathlib.Core.List.{◌∷◌}
use Prim.Native.Nat.{ℕ}
use lib.ListN.{replicate}
use Rattle.panel_c.specs.Entries.{condition_bytes}
use Rattle.panel_c.proofs.Rooms.{in_bytes}
use Rattle.panel_c.proofs.condition_bytes.Goals as goal

pub returns-in_default : goal.returns-in_default
unfolding condition_bytes
returns-in_default c = ap (λ (n : ℕ). 0 ∷ 1 ∷ n ∷ replicate 8 0) c.number.ensures ∙ ap condition_bytes (sym c.in_default.is)

pub returns : goal.returns
returns c =
    in_bytes c.in-Some.field-0 c.number-2.ensures c.image_bytes-p.ensures c.number-told.ensures
    ∙ ap condition_bytes (sym c.in-Some.is)
