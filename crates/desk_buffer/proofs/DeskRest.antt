-- What a run leaves of its input is less than a message. Assumes nothing.
use mathlib.Core.Path.{◌≡◌, refl, ap}
use mathlib.Core.Bool.{false}
use mathlib.Core.List.{List}
use Prim.Native.Nat.{ℕ, zero, suc, ◌+◌, ◌-◌, ◌≤◌, ◌<◌}
use native.Mathlib.Omega.{arith}
use borrow.Author.Tests.{ltb-true, ltb-false}
use lib.Dec.{ltb}
use lib.ListN.{length, take, drop, length-drop}
use lib.Seq.{drop-drop}
use Rattle.bits.proofs.Cases.{split, clash}
use Rattle.answers.specs.declared.Answer.TheVariants.{BadLength}
use Rattle.wire.specs.declared.Frame.{Frame}
use Rattle.wire.specs.declared.Frame.TheVariants.{Cut, Wrong, Whole}
use Rattle.wire.specs.Reads.{length_at}
use Rattle.wire.proofs.Frames.{when}
use Rattle.desk.specs.declared.Desk.{Desk}
use Rattle.desk_wire.specs.DeskReads.{frame_up_to}
use Rattle.desk_service.specs.DeskService.{answer_told, respond_desk, brief_bytes, told_bytes}
use Rattle.desk_buffer.specs.DeskServing.{desk_step_at, desk_step, desk_run_of}
use Rattle.desk_buffer.specs.DeskRest.{DeskRestIsShort}
use Rattle.desk_buffer.proofs.Serving.{takes}

-- a message that is cut short is shorter than the longest
cut_below : (s : List ℕ) → frame_up_to 143 s ≡ Cut → length s < 145
cut_below s e =
    when (ltb (length s) 2) Cut _ _ e (λ a _. let h = ltb-true (length s) 2 a in omega arith)
    (λ _ e. when (ltb (length_at s) 2) Wrong _ _ e (λ _ e. no e)
    (λ _ e. when (ltb 143 (length_at s)) Wrong _ _ e (λ _ e. no e)
    (λ b e. when (ltb (length s) (length_at s + 2)) Cut (Whole (length_at s + 2)) _ e
    (λ c _. let b = ltb-false 143 (length_at s) b in let c = ltb-true (length s) (length_at s + 2) c in omega arith)
    (λ _ e. no2 e))))
  where
    no : Wrong ≡ Cut → length s < 145
    no e = absurd (let z : ◌≡◌ {A = ℕ} 0 1 = cc in omega arith)

    no2 : Whole (length_at s + 2) ≡ Cut → length s < 145
    no2 e = absurd (let z : ◌≡◌ {A = ℕ} 0 1 = cc in omega arith)

-- a step that takes nothing, and neither stops nor wants room, found a message that is cut short
cut_found : (f : Frame) (room : ℕ) (d : Desk) (s : List ℕ) → let a = desk_step_at f room d s in a.on ≡ false → a.stop ≡ false → a.full ≡ false → f ≡ Cut
cut_found Cut room d s o p q = refl
cut_found Wrong room d s o p q = split (ltb room (length (brief_bytes (answer_told BadLength)))) (λ t. clash refl (rw t at q)) (λ t. clash refl (rw t at p))
cut_found (Whole n) room d s o p q =
    split (ltb room (length (told_bytes (respond_desk d (take n s)).told))) (λ t. clash refl (rw t at q)) (λ t. clash refl (rw t at o))

step_cut : (room : ℕ) (d : Desk) (s : List ℕ) → let a = desk_step room d s in a.on ≡ false → a.stop ≡ false → a.full ≡ false → a.used ≡ 0
unfolding desk_step
step_cut room d s o p q = let e = cut_found (frame_up_to 143 s) room d s o p q in ap (λ (f : Frame). (desk_step_at f room d s).used) e

rest_below : (k room : ℕ) (d : Desk) (s : List ℕ) → length s ≤ k → let r = desk_run_of k room d s in
    r.stop ≡ false → r.full ≡ false → length (drop r.used s) < 145
unfolding desk_run_of desk_step
rest_below zero room d s h p q = let l = length-drop 0 s in omega arith
rest_below (suc k) room d s h p q =
    let a = desk_step room d s in
    let l = length-drop a.used s in
    split a.on
    (λ t. let u = (takes room d s).some t in
    let r = desk_run_of k (room - length a.bytes) a.desk (drop a.used s) in
    let i = rest_below k (room - length a.bytes) a.desk (drop a.used s) (omega arith) (rw t at p) (rw t at q) in
    rw t (rw (drop-drop r.used a.used s) at i))
    (λ t. let o = rw t at p in
    let z = step_cut room d s t (rw t at p) (rw t at q) in
    rw (t, z) (cut_below s (cut_found (frame_up_to 143 s) room d s t (rw t at p) (rw t at q))))

pub desk_rest_is_short : DeskRestIsShort
desk_rest_is_short room d input p q = rest_below (length input) room d input (omega arith) p q
