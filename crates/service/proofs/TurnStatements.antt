-- After a turn the rest is shorter than a message, and a turn is one piece of an input. Assumes nothing.
use mathlib.Core.Path.{◌≡◌, refl, sym, ap, ◌∙◌}
use mathlib.Core.List.{List, ◌++◌, append_assoc}
use Prim.Native.Nat.{ℕ, ◌+◌, ◌≤◌, ◌<◌}
use native.Mathlib.Omega.{arith}
use borrow.Author.Tests.{le-leb, ltb-true, ltb-false}
use lib.Dec.{ltb}
use lib.ListN.{length, take, drop, length-append}
use lib.Seq.{take_at}
use Rattle.station.specs.declared.Station.{Station}
use Rattle.wire.specs.declared.Frame.TheVariants.{Cut, Wrong, Whole}
use Rattle.wire.specs.Reads.{frame_of, length_at}
use Rattle.wire.proofs.Frames.{when}
use Rattle.service.specs.Runs.{Serving, run, served, serving, enough, feed}
use Rattle.service.proofs.Pieces.{left_cut}
use Rattle.service.specs.Turns.{holding_front, turning}
use Rattle.service.specs.TurnStatements.{RestIsShort, TurnFeeds}

-- a message that is cut short is shorter than the longest
pub cut_below : (s : List ℕ) → frame_of s ≡ Cut → length s < 45
cut_below s e =
    when (ltb (length s) 2) Cut _ _ e (λ a _. let h = ltb-true (length s) 2 a in omega arith)
    (λ _ e. when (ltb (length_at s) 2) Wrong _ _ e (λ _ e. no e)
    (λ _ e. when (ltb 43 (length_at s)) Wrong _ _ e (λ _ e. no e)
    (λ b e. when (ltb (length s) (length_at s + 2)) Cut (Whole (length_at s + 2)) _ e
    (λ c _. let b = ltb-false 43 (length_at s) b in let c = ltb-true (length s) (length_at s + 2) c in omega arith)
    (λ _ e. no2 e))))
  where
    no : Wrong ≡ Cut → length s < 45
    no e = absurd (let z : ◌≡◌ {A = ℕ} 0 1 = cc in omega arith)

    no2 : Whole (length_at s + 2) ≡ Cut → length s < 45
    no2 e = absurd (let z : ◌≡◌ {A = ℕ} 0 1 = cc in omega arith)

-- in room that is enough all is served
all_served : (s : Station) (input room : List ℕ) → enough (length input) ≤ length room → serving s input room ≡ served (run s input) room
unfolding serving
all_served s input room h = rw (le-leb (enough (length input)) (length room) h)

pub rest_is_short : RestIsShort
unfolding turning holding_front
rest_is_short s buf end room h stop =
    let input = take end buf in
    let e = all_served s input room h in
    let q = sym (ap (λ (w : Serving). w.says.stop) e) ∙ stop in
    rw e (cut_below (drop (run s input).used input) (left_cut (length input) s input (omega arith) q))

pub turn_feeds : TurnFeeds
unfolding turning holding_front feed
turn_feeds s held piece past room pieces h =
    let input = held ++ piece in
    let r = run s input in
    let t : take (length held + length piece) (held ++ (piece ++ past)) ≡ input =
    rw (← append_assoc held piece past) (take_at input past (length held + length piece) (length-append held piece)) in
    let rest = drop r.used input in
    rw (t, all_served s input room h, take_at r.bytes (drop (length r.bytes) room) (length r.bytes) refl)
    (rw (take_at rest (drop (length rest) (held ++ (piece ++ past))) (length rest) refl) refl)
