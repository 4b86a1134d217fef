-- What is promised of whatever the program is sent. Assumes nothing.
use mathlib.Core.Path.{◌≡◌, sym, ap, subst, ◌∙◌}
use mathlib.Core.Bool.{true}
use mathlib.Core.List.{List, [], ◌∷◌}
use Prim.Native.Nat.{ℕ, zero, suc, ◌%◌}
use native.Mathlib.Omega.{arith}
use lib.ListN.{length, drop}
use lib.Seq.{get_or-drop}
use Rattle.bits.specs.Bits.{bit}
use Rattle.bits.specs.Places.{join}
use Rattle.floor.specs.Sound.{Sound}
use Rattle.codec.specs.Bytes.{Bytes}
use Rattle.station.specs.declared.Station.{Station}
use Rattle.station.specs.Station.{start_of, fit}
use Rattle.station_laws.specs.Runs as run
use Rattle.station_laws.specs.Runs.{at_start, Reached}
use Rattle.station_laws.specs.Jams.{stuck, applied}
use Rattle.station_laws.proofs.Jammed.{always_laid_out}
use Rattle.wire.specs.declared.What.{What}
use Rattle.wire.specs.declared.Frame.{Frame}
use Rattle.wire.specs.declared.Frame.TheVariants.{Cut, Wrong, Whole}
use Rattle.wire.specs.Reads.{frame_of}
use Rattle.service.specs.declared.Reply.{Reply}
use Rattle.service.specs.Service.{go_on}
use Rattle.service.proofs.Ranges.{never_seventeen}
use Rattle.station_c.specs.Entries.{returned_of}
use Rattle.entries_laws.specs.Calls.{Heard, makes, refuses, heard, reply, heard_for, heard_in, calls_in, replies_heard, Sized}
use Rattle.entries_laws.specs.Statements.{ImagesSized, ProgramSound, NoSuch, ProgramNever}
use Rattle.entries_laws.proofs.Messages.{message_is_call, Fine, heard_fine}
use Rattle.entries_laws.proofs.Runs.{pieces_are_calls}
use Rattle.entries_laws.proofs.Reaching.{reached_reply, start_reached, start_fit, never_so}

bytes_drop : (n : ℕ) (s : List ℕ) → Bytes s → Bytes (drop n s)
bytes_drop n s b i = rw (get_or-drop n s i 0) (b _)

-- ---- the images

sized_more : (h : Heard) (l : List Heard) → Fine h → Sized (calls_in l) → Sized (calls_in (h ∷ l))
sized_more (refuses a) l f m = m
sized_more (makes (run.request n set)) l f m = m
sized_more (makes (run.reports r)) l f m = m
sized_more (makes (run.event e)) l f m = m
sized_more (makes (run.pictures p)) l f m = (f, m)
sized_more (makes run.ask) l f m = m

sized_go : (f : Frame) (k : ℕ) (input : List ℕ) → Bytes input → ((rest : List ℕ) → Bytes rest → Sized (calls_in (heard_for k rest)))
    → Sized (calls_in (go_on f (λ n. heard_for k (drop n input))))
sized_go Cut k input b h = tt
sized_go Wrong k input b h = tt
sized_go (Whole n) k input b h = h (drop n input) (bytes_drop n input b)

sized_for : (k : ℕ) (input : List ℕ) → Bytes input → Sized (calls_in (heard_for k input))
unfolding heard_for
sized_for zero input b = tt
sized_for (suc k) [] b = tt
sized_for (suc k) (x ∷ xs) b =
    let rest = go_on (frame_of (x ∷ xs)) (λ n. heard_for k (drop n (x ∷ xs))) in
    sized_more (heard (x ∷ xs)) rest (heard_fine (x ∷ xs) b) (sized_go (frame_of (x ∷ xs)) k (x ∷ xs) b (sized_for k))

pub images_sized : ImagesSized
images_sized input b = sized_for (length input) input b

-- ---- fit and sound

pub program_sound : ProgramSound
program_sound pieces =
    let l = calls_in (heard_in (join pieces)) in
    let e = sym (pieces_are_calls start_of pieces).1 in (
      subst (λ (t : Station). fit t ≡ true) e (start_fit l),
      λ p h. subst (λ (t : Station). Sound (bit (applied (stuck start_of l) p t.bits))) e (always_laid_out start_of at_start l p h),
    )

-- ---- neither 16 nor 17

never_one : (s : Station) → Reached s → (input : List ℕ) → Bytes input → (place issue : ℕ)
    → ((reply s (heard input)).answer ≡ What.Answer 16 place issue → ⊥)
    × ((reply s (heard input)).answer ≡ What.Answer 17 place issue → ⊥)
never_one s R input b place issue = (
  λ e. never_so s R (heard input) (heard_fine input b) (ap (λ (w : What). returned_of w % 256) e ∙ omega arith),
  λ e. never_seventeen s input place issue (ap (λ (x : Reply). x.answer) (message_is_call s input) ∙ e),
)

never_go : (f : Frame) (k : ℕ) (s : Station) (input : List ℕ) → Bytes input
    → ((rest : List ℕ) → Bytes rest → NoSuch (replies_heard s (heard_for k rest))) → NoSuch (replies_heard s (go_on f (λ n. heard_for k (drop n input))))
never_go Cut k s input b h = tt
never_go Wrong k s input b h = tt
never_go (Whole n) k s input b h = h (drop n input) (bytes_drop n input b)

never_for : (k : ℕ) (s : Station) → Reached s → (input : List ℕ) → Bytes input → NoSuch (replies_heard s (heard_for k input))
unfolding heard_for
never_for zero s R input b = tt
never_for (suc k) s R [] b = tt
never_for (suc k) s R (x ∷ xs) b =
    let h = heard (x ∷ xs) in
    (never_one s R (x ∷ xs) b, never_go (frame_of (x ∷ xs)) k (reply s h).station (x ∷ xs) b (never_for k (reply s h).station (reached_reply s R h (heard_fine (x ∷ xs) b))))

pub program_never : ProgramNever
program_never input b = never_for (length input) start_of start_reached input b
