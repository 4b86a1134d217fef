-- A run in lent room leaves a fit desk fit: every call does, and a question leaves the desk as it was. Assumes nothing.
use mathlib.Core.Path.{◌≡◌, sym, ap, subst, ◌∙◌}
use mathlib.Core.Bool.{true}
use mathlib.Core.List.{List}
use Prim.Native.Nat.{ℕ, zero, suc, ◌-◌}
use lib.Dec.{ltb}
use lib.ListN.{length, take, drop}
use Rattle.bits.proofs.Cases.{split}
use Rattle.answers.specs.declared.Answer.TheVariants.{BadLength}
use Rattle.wire.specs.declared.Frame.{Frame}
use Rattle.wire.specs.declared.Frame.TheVariants.{Cut, Wrong, Whole}
use Rattle.desk.specs.declared.Desk.{Desk}
use Rattle.desk.specs.Desk.{desk_fit}
use Rattle.desk.specs.Lines.{listed_cars, outstanding}
use Rattle.desk_laws.proofs.Fits.{fit_kept}
use Rattle.desk_wire.specs.DeskReads.{frame_up_to, most_length}
use Rattle.desk_service.specs.DeskService.{DeskReplied, in_lines, in_set, answer_told, brief_bytes, told_bytes, respond_desk}
use Rattle.desk_buffer.specs.DeskServing.{desk_step_at, desk_step, desk_run_of}
use Rattle.desk_runs.specs.DeskHeard.{DeskHeard, makes, seeks, parts, lists, opens, compares, refuses, desk_heard, desk_reply_to}
use Rattle.desk_runs.specs.DeskStays.{DeskStaysFit}
use Rattle.desk_runs.proofs.DeskRuns.{desk_message_is_call, fit_keeps, compare_keeps}

-- what a message leaves
kept_fit : {d e : Desk} → e ≡ d → desk_fit d ≡ true → desk_fit e ≡ true
kept_fit e f = ap desk_fit e ∙ f

reply_fit : (d : Desk) (h : DeskHeard) → desk_fit d ≡ true → desk_fit (desk_reply_to d h).desk ≡ true
reply_fit d (makes c) f = fit_kept d c f
reply_fit d (seeks c) f = f
reply_fit d parts f = f
reply_fit d lists f = kept_fit (fit_keeps d (in_lines 138 (listed_cars d))) f
reply_fit d opens f = kept_fit (fit_keeps d (in_set (outstanding d))) f
reply_fit d (compares p n ns) f = kept_fit (compare_keeps d p n ns) f
reply_fit d (refuses a) f = f

message_fit : (d : Desk) (m : List ℕ) → desk_fit d ≡ true → desk_fit (respond_desk d m).desk ≡ true
message_fit d m f = subst (λ (r : DeskReplied). desk_fit r.desk ≡ true) (sym (desk_message_is_call d m)) (reply_fit d (desk_heard m) f)

pub step_fit : (x : Frame) (room : ℕ) (d : Desk) (s : List ℕ) → desk_fit d ≡ true → desk_fit (desk_step_at x room d s).desk ≡ true
step_fit Cut room d s f = f
step_fit Wrong room d s f = split (ltb room (length (brief_bytes (answer_told BadLength)))) (λ t. rw t f) (λ t. rw t f)
step_fit (Whole n) room d s f =
    split (ltb room (length (told_bytes (respond_desk d (take n s)).told))) (λ t. rw t f) (λ t. rw t (message_fit d (take n s) f))

run_fit : (k room : ℕ) (d : Desk) (s : List ℕ) → desk_fit d ≡ true → desk_fit (desk_run_of k room d s).desk ≡ true
unfolding desk_run_of desk_step
run_fit zero room d s f = f
run_fit (suc k) room d s f =
    let a = desk_step room d s in
    let g = step_fit (frame_up_to most_length s) room d s f in
    split a.on (λ t. rw t (run_fit k (room - length a.bytes) a.desk (drop a.used s) g)) (λ t. rw t g)

pub desk_stays_fit : DeskStaysFit
desk_stays_fit room d input f = run_fit (length input) room d input f
