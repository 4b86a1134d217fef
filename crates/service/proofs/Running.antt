-- What one turn of a run is: as many turns as bytes are enough, so a run is its first message and then the run of the rest. And that a
-- run stays within its input and its room. Assumes nothing.
use mathlib.Core.Path.{◌≡◌, refl, sym, ap, ◌∙◌}
use mathlib.Core.Bool.{false, true}
use mathlib.Core.List.{List, [], ◌∷◌, ◌++◌, append_assoc}
use Prim.Native.Nat.{ℕ, zero, suc, ◌+◌, ◌≤◌}
use native.Mathlib.Nat.{add_assoc, zero-add}
use native.Mathlib.Omega.{arith}
use borrow.Author.Tests.{leb-true, ltb-false}
use lib.Dec.{leb, ltb}
use lib.ListN.{length, drop, length-append, length-drop}
use Rattle.bits.proofs.Cases.{split}
use Rattle.answers.specs.declared.Answer.TheVariants.{BadLength}
use Rattle.station.specs.declared.Station.{Station}
use Rattle.wire.specs.declared.Frame.{Frame}
use Rattle.wire.specs.declared.Frame.TheVariants.{Cut, Wrong, Whole}
use Rattle.wire.specs.Reads.{frame_of}
use Rattle.wire.proofs.Frames.{when, whole_frame}
use Rattle.service.specs.Service.{respond, answer_message, answer_bytes}
use Rattle.service.specs.Runs.{Ran, run_ends, run_further, run_after, run_of, run, enough, serving}
use Rattle.service.proofs.Replies.{answer_bytes_length, answer_length}

-- no bytes are no whole message
pub none_cut : (input : List ℕ) → length input ≤ 0 → frame_of input ≡ Cut
none_cut [] h = refl
none_cut (b ∷ bs) h = absurd (omega arith)

-- a whole message takes four bytes at least
pub shorter : (input : List ℕ) (n : ℕ) → frame_of input ≡ Whole n → length (drop n input) + 4 ≤ length input
shorter input n e = let f = whole_frame input n e in rw length-drop (omega arith)

-- a wrong length has two
pub wrong_long : (input : List ℕ) → frame_of input ≡ Wrong → 2 ≤ length input
wrong_long input e = when (ltb (length input) 2) Cut _ _ e (λ _ z. absurd (no z)) (λ h _. ltb-false (length input) 2 h)
  where
    no : Cut ≡ Wrong → ⊥
    no z = let n : ◌≡◌ {A = ℕ} 0 1 = cc in omega arith

same_after : (f : Frame) (go ho : Station → List ℕ → Ran) (s : Station) (input : List ℕ) → frame_of input ≡ f
    → ((x : Station) (rest : List ℕ) → length rest + 4 ≤ length input → go x rest ≡ ho x rest) → run_after f go s input ≡ run_after f ho s input
same_after Cut go ho s input e h = refl
same_after Wrong go ho s input e h = refl
same_after (Whole n) go ho s input e h =
    ap (run_further n (answer_bytes (respond s input).answer)) (h (respond s input).station (drop n input) (shorter input n e))

-- more turns than bytes change nothing
same : (k j : ℕ) (s : Station) (input : List ℕ) → length input ≤ k → length input ≤ j → run_of k s input ≡ run_of j s input
unfolding run_of
same zero zero s input h g = refl
same zero (suc j) s input h g = rw (none_cut input h)
same (suc k) zero s input h g = rw (none_cut input g)
same (suc k) (suc j) s input h g =
    same_after (frame_of input) (run_of k) (run_of j) s input refl (λ x rest l. same k j x rest (omega arith) (omega arith))

-- one turn, and then as many as there were
unrolled : (s : Station) (input : List ℕ) → run s input ≡ run_after (frame_of input) (run_of (length input)) s input
unfolding run_of
unrolled s input = same (length input) (suc (length input)) s input (omega arith) (omega arith)

pub turn_cut : (s : Station) (input : List ℕ) → frame_of input ≡ Cut → run s input ≡ run_ends s [] false
turn_cut s input e = unrolled s input ∙ rw e

pub turn_wrong : (s : Station) (input : List ℕ) → frame_of input ≡ Wrong → run s input ≡ run_ends s (answer_bytes (answer_message BadLength)) true
turn_wrong s input e = unrolled s input ∙ rw e

pub turn_whole : (s : Station) (input : List ℕ) (n : ℕ) → frame_of input ≡ Whole n
    → run s input ≡ run_further n (answer_bytes (respond s input).answer) (run (respond s input).station (drop n input))
turn_whole s input n e =
    let l = shorter input n e in
    unrolled s input
    ∙ rw e
    (ap (run_further n (answer_bytes (respond s input).answer))
    (same (length input) (length (drop n input)) (respond s input).station (drop n input) (omega arith) (omega arith)))

-- nothing before it, and one thing after another before it
pub further_none : (r : Ran) → r ≡ run_further 0 [] r
further_none r = ap (λ (n : ℕ). record { station = r.station; used = n; bytes = r.bytes; stop = r.stop }) (sym (zero-add r.used))

pub further_more : (a b : ℕ) (x y : List ℕ) (r : Ran) → run_further a x (run_further b y r) ≡ run_further (a + b) (x ++ y) r
further_more a b x y r = rw (add_assoc, append_assoc)

-- ---- a run stays within its input, and its answers within the room that is enough

pub record Within (r : Ran) (n : ℕ) : Type 0 where
  pub used : r.used ≤ n
  pub made : length r.bytes ≤ enough n

after_within : (f : Frame) (go : Station → List ℕ → Ran) (s : Station) (input : List ℕ) → frame_of input ≡ f
    → ((x : Station) (rest : List ℕ) → length rest + 4 ≤ length input → Within (go x rest) (length rest)) → Within (run_after f go s input) (length input)
after_within Cut go s input e h = record { used = omega arith; made = omega arith }
after_within Wrong go s input e h = record { used = omega arith; made = omega (arith, wrong_long input e, answer_length BadLength) }
after_within (Whole n) go s input e h =
    let x = respond s input in
    let f = whole_frame input n e in
    let l = length-drop n input in
    let r = h x.station (drop n input) (shorter input n e) in
    let b = answer_bytes_length x.answer in
    record { used = omega arith; made = rw length-append (omega arith) }

run_within : (k : ℕ) (s : Station) (input : List ℕ) → length input ≤ k → Within (run_of k s input) (length input)
unfolding run_of
run_within zero s input h = record { used = omega arith; made = omega arith }
run_within (suc k) s input h = after_within (frame_of input) (run_of k) s input refl (λ x rest l. run_within k x rest (omega arith))

pub used_within : (s : Station) (input room : List ℕ) → (serving s input room).says.used ≤ length input
unfolding serving
used_within s input room =
    split (leb (enough (length input)) (length room)) (λ e. rw e (run_within (length input) s input (omega arith)).used) (λ e. rw e (omega arith))

pub made_within : (s : Station) (input room : List ℕ) → (serving s input room).says.made ≤ length room
unfolding serving
made_within s input room =
    split (leb (enough (length input)) (length room))
    (λ e. let w = run_within (length input) s input (omega arith) in let h = leb-true (enough (length input)) (length room) e in rw e (omega arith))
    (λ e. rw e (omega arith))
