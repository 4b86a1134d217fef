-- The loop over the messages of an input: what each turn leaves in the room, and the end. Assumes nothing.
use mathlib.Core.Path.{◌≡◌, refl, ap, ◌∙◌}
use mathlib.Core.Bool.{Bool, true, false}
use mathlib.Core.List.{List, [], ◌++◌, append_assoc, append-nil}
use Prim.Native.Nat.{ℕ, ◌+◌, ◌-◌, ◌≤◌}
use native.Mathlib.Nat.{add-zero}
use native.Mathlib.Omega.{arith}
use lib.ListN.{length, take, drop, length-append, length-take, length-drop, drop_of_length-le}
use lib.Seq.{length-take-le, take_all, take_at, drop_at, drop-drop}
use Rattle.answers.specs.declared.Answer.TheVariants.{Taken, BadLength}
use Rattle.station.specs.declared.Station.{Station}
use Rattle.wire.specs.declared.Frame.TheVariants.{Cut, Wrong, Whole}
use Rattle.wire.specs.declared.What.{What}
use Rattle.wire.specs.Reads.{frame_of}
use Rattle.wire.proofs.Frames.{whole_frame}
use Rattle.service.specs.declared.Reply.{Reply}
use Rattle.service.specs.Service.{respond, answer_message, answer_bytes}
use Rattle.service.specs.Runs.{run_ends, run_further, run, enough, Serves, served}
use Rattle.service.proofs.Replies.{answer_bytes_length, answer_length}
use Rattle.service.proofs.Running.{shorter, wrong_long, turn_cut, turn_wrong, turn_whole, further_none, further_more}

-- the room after a call that put b at the start of what stands past the first `made` bytes
abbrev pub put_at : List ℕ → List ℕ → ℕ → List ℕ
put_at out last made = take made out ++ (last ++ drop (length out - made) (drop made out))

pub room_more : (done b before out last : List ℕ) (made : ℕ) → length done ≡ made → out ≡ done ++ drop made before → length out ≡ length before → made ≤ length out
    → last ≡ b ++ drop (length b) (take (length out - made) (drop made out))
    → put_at out last made ≡ (done ++ b) ++ drop (made + length b) before
room_more done b before out last made hd e l h hl =
    let k = length out - made in
    let tail = drop made before in
    let f : drop made out ≡ tail = ap (drop made) e ∙ drop_at done tail made hd in
    let g : take made out ≡ done = ap (take made) e ∙ take_at done tail made hd in
    let t : length tail ≡ k = length-drop made before ∙ omega arith in
    rw (hl, f, g)
    (rw (take_all k tail (omega arith), drop_of_length-le tail {i = k} (omega arith), drop-drop (length b) made before)
    (simp (append-nil, append_assoc)))

-- so far: `at` bytes of the input taken, `made` of the room written, and a run from here on is what is left of the whole
pub record Midway (input before : List ℕ) (s₀ : Station) (out : List ℕ) (s : Station) (at made : ℕ) : Type 0 where
  pub within : at ≤ length input
  pub small : made ≤ enough at
  pub long : length out ≡ length before
  pub room : out ≡ take made out ++ drop made before
  pub rest : run s₀ input ≡ run_further at (take made out) (run s (drop at input))

pub started : (input before : List ℕ) (s : Station) → Midway input before s before s 0 0
started input before s = record { within = omega arith; small = omega arith; long = refl; room = refl; rest = further_none _ }

module _ {input before : List ℕ} {s₀ : Station} {out : List ℕ} {s : Station} {at made : ℕ} (m : Midway input before s₀ out s at made)
    (roomy : enough (length input) ≤ length before) where
  done_length : length (take made out) ≡ made
  done_length = length-take-le made out (omega arith)

  -- there is room for one more: for the reply to a whole message, and for the answer to a wrong length
  pub room_left : (w : What) (n : ℕ) → frame_of (drop at input) ≡ Whole n → length (answer_bytes w) ≤ length (take (length out - made) (drop made out))
  room_left w n e =
      let b = answer_bytes_length w in
      let h = shorter (drop at input) n e in
      let l = length-drop at input in
      simp (length-take, length-drop) (omega arith)

  pub room_last : (w : What) → frame_of (drop at input) ≡ Wrong → w ≡ answer_message BadLength
      → length (answer_bytes w) ≤ length (take (length out - made) (drop made out))
  room_last w e f =
      let b = answer_length BadLength in
      let h = wrong_long (drop at input) e in
      let l = length-drop at input in
      rw f (simp (length-take, length-drop) (omega arith))

  -- the run ends here, and b is the last that it says
  ended : (b last : List ℕ) (stop : Bool) → run s (drop at input) ≡ run_ends s b stop → last ≡ (take made out ++ b) ++ drop (made + length b) before
      → Serves (served (run s₀ input) before) (record { answer = Taken; station = s; used = at; made = made + length b; stop = stop }) last
  ended b last stop e h =
      rw (m.rest ∙ ap (run_further at (take made out)) e, add-zero, length-append (take made out) b, done_length) (refl, h)

  -- a message that is cut short
  pub cut_short_lem : frame_of (drop at input) ≡ Cut
      → Serves (served (run s₀ input) before) (record { answer = Taken; station = s; used = at; made = made; stop = false }) out
  cut_short_lem e =
      rw add-zero at
      (ended [] out false (turn_cut s (drop at input) e) (m.room ∙ rw (append-nil, add-zero)))

  module _ (w : What) {last : List ℕ} {k : ℕ} (size : k ≡ length (answer_bytes w))
      (wrote : last ≡ answer_bytes w ++ drop (length (answer_bytes w)) (take (length out - made) (drop made out))) where
    more : put_at out last made ≡ (take made out ++ answer_bytes w) ++ drop (made + length (answer_bytes w)) before
    more = room_more (take made out) (answer_bytes w) before out last made done_length m.room m.long (omega arith) wrote

    -- a wrong length
    pub wrong_length : frame_of (drop at input) ≡ Wrong → w ≡ answer_message BadLength
        → Serves (served (run s₀ input) before) (record { answer = Taken; station = s; used = at; made = made + k; stop = true }) (put_at out last made)
    wrong_length e f =
        rw size (ended (answer_bytes w) (put_at out last made) true (turn_wrong s (drop at input) e ∙ rw f) more)

    all_said : take (made + k) (put_at out last made) ≡ take made out ++ answer_bytes w
    all_said =
        rw more
        (take_at (take made out ++ answer_bytes w) _ (made + k) (length-append (take made out) (answer_bytes w) ∙ rw (done_length, size)))

    -- a whole message
    pub answered : (n : ℕ) (r : Reply) → frame_of (drop at input) ≡ Whole n → r ≡ respond s (drop at input) → w ≡ r.answer
        → Midway input before s₀ (put_at out last made) r.station (at + n) (made + k)
    answered n r e f g =
        let x = respond s (drop at input) in
        let h = whole_frame (drop at input) n e in
        let l = length-drop at input in
        let b = answer_bytes_length w in
        record {
          within = omega arith;
          small = omega arith;
          long = rw more (simp (length-append, length-drop, done_length) (omega arith));
          room = more ∙ rw (all_said, size);
          rest =
              m.rest
              ∙ ap (run_further at (take made out)) (turn_whole s (drop at input) n e)
              ∙ further_more at n (take made out) (answer_bytes x.answer) (run x.station (drop n (drop at input)))
              ∙ rw (← f, ← g, all_said, drop-drop n at input);
        }
