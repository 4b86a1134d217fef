-- A turn as its two calls leave it. Assumes nothing.
use mathlib.Core.Path.{◌≡◌, ap, ap₂, ◌∙◌}
use mathlib.Core.List.{List}
use Prim.Native.Nat.{ℕ, min}
use lib.ListN.{length, take}
use Rattle.station.specs.declared.Station.{Station}
use Rattle.service.specs.declared.Served.{Served}
use Rattle.service.specs.Runs.{Serving, Serves, serving}
use Rattle.service.specs.declared.buffer.Turned.{Turned}
use Rattle.service.specs.Turns.{Holding, Holds, holding_front, Turns, turning}
use Rattle.service.proofs.Holding.{cut_at_end}

-- what is held rests on the bytes before the bound alone
same_held : (from a b : ℕ) (buf : List ℕ) → take a buf ≡ take b buf → holding_front from a buf ≡ holding_front from b buf
unfolding holding_front
same_held from a b buf e = rw e

-- what a turn says, from what the run says and how many bytes are held
abbrev pub turned : Served → ℕ → Turned
turned w n = record { answer = w.answer; station = w.station; have = n; made = w.made; stop = w.stop }

pub one_turn : (s : Station) (buf room : List ℕ) (end cut : ℕ) (w : Served) (out : List ℕ) (n : ℕ) (after : List ℕ) → cut ≡ min end (length buf)
    → Serves (serving s (take cut buf) room) w out → Holds (holding_front w.used cut buf) n after → Turns (turning s buf end room) (turned w n) after out
unfolding turning
one_turn s buf room end cut w out n after c (says, leaves) (holds, front) =
    let t : take cut buf ≡ take end buf = rw c (cut_at_end end buf) in
    let run = ap (λ (b : List ℕ). serving s b room) t in
    let said = says ∙ ap (λ (r : Serving). r.says) run in
    let held = same_held w.used cut end buf t ∙ ap (λ (r : Served). holding_front r.used end buf) said in
    (ap₂ turned said (holds ∙ ap (λ (h : Holding). h.says) held), front ∙ ap (λ (h : Holding). h.leaves) held, leaves ∙ ap (λ (r : Serving). r.leaves) run)
