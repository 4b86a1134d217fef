-- An input is the list of the calls that its messages make, whole or in pieces. Assumes nothing.
use mathlib.Core.Path.{◌≡◌, refl, sym, ap, ◌∙◌}
use mathlib.Core.Bool.{cond}
use mathlib.Core.List.{List, [], ◌∷◌, ◌++◌, append_assoc, append-nil}
use Prim.Native.Nat.{ℕ, zero, suc, ◌+◌, ◌≤◌}
use native.Mathlib.Omega.{arith}
use lib.ListN.{length, drop}
use lib.Seq.{drop-append-le, drop-drop}
use Rattle.bits.specs.Places.{join}
use Rattle.bits.proofs.Cases.{split}
use Rattle.station.specs.declared.Station.{Station}
use Rattle.station_laws.specs.Runs.{calls}
use Rattle.wire.specs.declared.Frame.{Frame}
use Rattle.wire.specs.declared.Frame.TheVariants.{Cut, Wrong, Whole}
use Rattle.wire.specs.Reads.{frame_of, read_asked}
use Rattle.wire.proofs.Frames.{whole_frame}
use Rattle.service.specs.declared.Reply.{Reply}
use Rattle.service.specs.Service.{respond, answer_bytes, no_bytes, go_on, answers_for}
use Rattle.service.specs.Runs.{Ran, run_after, run_of, run}
use Rattle.service.proofs.Running.{shorter}
use Rattle.service.proofs.Pieces.{whole_more, wrong_more, reply_more, same_going, left_cut, unless_stopped, cut_anywhere}
use Rattle.entries_laws.specs.Calls.{Heard, makes, refuses, heard, reply, heard_for, heard_in, calls_in, replies_heard, in_bytes, fed_station}
use Rattle.entries_laws.specs.Statements.{RunsAreCalls, PiecesAreCalls}
use Rattle.entries_laws.proofs.Messages.{message_is_call}

-- ---- the messages of an input

-- more turns than bytes change nothing
same : (k j : ℕ) (input : List ℕ) → length input ≤ k → length input ≤ j → heard_for k input ≡ heard_for j input
unfolding heard_for
same zero zero input h g = refl
same zero (suc j) [] h g = refl
same zero (suc j) (b ∷ bs) h g = absurd (omega arith)
same (suc k) zero [] h g = refl
same (suc k) zero (b ∷ bs) h g = absurd (omega arith)
same (suc k) (suc j) input h g =
    ap (λ (r : List Heard). cond (no_bytes input) [] (heard input ∷ r))
    (same_going (frame_of input) (heard_for k) (heard_for j) input refl (λ rest l. same k j rest (omega arith) (omega arith)))

heard_whole : (input : List ℕ) (n : ℕ) → frame_of input ≡ Whole n → heard_in input ≡ heard input ∷ heard_in (drop n input)
unfolding heard_for
heard_whole [] n e = let z : ◌≡◌ {A = ℕ} 0 1 = cc in absurd (omega arith)
heard_whole (b ∷ bs) n e =
    let l = shorter (b ∷ bs) n e in
    rw e (ap (◌∷◌ (heard (b ∷ bs))) (same (length bs) (length (drop n (b ∷ bs))) (drop n (b ∷ bs)) (omega arith) (omega arith)))

-- what is cut short, or has a wrong length, makes no call
cut_none : (input : List ℕ) → frame_of input ≡ Cut → calls_in (heard_in input) ≡ []
unfolding heard_for heard read_asked
cut_none [] e = refl
cut_none (b ∷ bs) e = rw e

wrong_none : (input : List ℕ) → frame_of input ≡ Wrong → calls_in (heard_in input) ≡ []
unfolding heard_for heard read_asked
wrong_none [] e = let z : ◌≡◌ {A = ℕ} 0 1 = cc in absurd (omega arith)
wrong_none (b ∷ bs) e = rw e

-- ---- the answers

answers_go : (f : Frame) (k : ℕ) (s : Station) (input : List ℕ)
    → ((x : Station) (rest : List ℕ) → answers_for k x rest ≡ in_bytes (replies_heard x (heard_for k rest)))
    → go_on f (λ n. answers_for k s (drop n input)) ≡ in_bytes (replies_heard s (go_on f (λ n. heard_for k (drop n input))))
answers_go Cut k s input h = refl
answers_go Wrong k s input h = refl
answers_go (Whole n) k s input h = h s (drop n input)

answers_are : (k : ℕ) (s : Station) (input : List ℕ) → answers_for k s input ≡ in_bytes (replies_heard s (heard_for k input))
unfolding answers_for heard_for
answers_are zero s input = refl
answers_are (suc k) s [] = refl
answers_are (suc k) s (b ∷ bs) =
    let x = reply s (heard (b ∷ bs)) in
    rw (message_is_call s (b ∷ bs))
    (ap (◌++◌ (answer_bytes x.answer)) (answers_go (frame_of (b ∷ bs)) k x.station (b ∷ bs) (answers_are k)))

-- ---- the station

-- after all calls of an input
abbrev at_end : Station → List ℕ → Station
at_end s input = calls s (calls_in (heard_in input))

one_more : (s : Station) (h : Heard) (l : List Heard) → calls s (calls_in (h ∷ l)) ≡ calls (reply s h).station (calls_in l)
one_more s (makes c) l = refl
one_more s (refuses a) l = refl

end_whole : (s : Station) (input : List ℕ) (n : ℕ) → frame_of input ≡ Whole n → at_end s input ≡ at_end (respond s input).station (drop n input)
end_whole s input n e =
    ap (λ (l : List Heard). calls s (calls_in l)) (heard_whole input n e)
    ∙ one_more s (heard input) (heard_in (drop n input))
    ∙ ap (λ (x : Reply). at_end x.station (drop n input)) (sym (message_is_call s input))

-- a run, and then the calls of the rest with more behind it
abbrev onwards : Ran → List ℕ → List ℕ → Station
onwards r a t = cond r.stop r.station (at_end r.station (drop r.used a ++ t))

turned : (f : Frame) (go : Station → List ℕ → Ran) (s : Station) (a t : List ℕ) → frame_of a ≡ f
    → ((x : Station) (u : List ℕ) → length u + 4 ≤ length a → at_end x (u ++ t) ≡ onwards (go x u) u t) → at_end s (a ++ t) ≡ onwards (run_after f go s a) a t
turned Cut go s a t e rec = refl
turned Wrong go s a t e rec = ap (calls s) (wrong_none (a ++ t) (wrong_more a t e))
turned (Whole n) go s a t e rec =
    let x = respond s a in
    let r = go x.station (drop n a) in
    end_whole s (a ++ t) n (whole_more a t n e)
    ∙ rw (reply_more s a t n e, drop-append-le n a t (whole_frame a n e).within) (rec x.station (drop n a) (shorter a n e) ∙ rw (drop-drop r.used n a))

in_pieces : (k : ℕ) (s : Station) (a t : List ℕ) → length a ≤ k → at_end s (a ++ t) ≡ onwards (run_of k s a) a t
unfolding run_of
in_pieces zero s a t h = refl
in_pieces (suc k) s a t h = turned (frame_of a) (run_of k) s a t refl (λ x u l. in_pieces k x u t (omega arith))

fed_at_end : (s : Station) (held : List ℕ) (pieces : List (List ℕ)) → frame_of held ≡ Cut → fed_station s held pieces ≡ at_end s (held ++ join pieces)
unfolding fed_station
fed_at_end s held [] e = sym (ap (at_end s) (append-nil held) ∙ ap (calls s) (cut_none held e))
fed_at_end s held (p ∷ ps) e =
    let a = held ++ p in
    let r = run s a in
    unless_stopped r.stop r.station (λ q. fed_at_end r.station (drop r.used a) ps (left_cut (length a) s a (omega arith) q))
    ∙ sym (ap (at_end s) (sym (append_assoc held p (join ps))) ∙ in_pieces (length a) s a (join ps) (omega arith))

run_at_end : (s : Station) (a : List ℕ) → (run s a).station ≡ at_end s a
run_at_end s a =
    let r = run s a in
    sym
    (ap (at_end s) (sym (append-nil a))
    ∙ in_pieces (length a) s a [] (omega arith)
    ∙ split r.stop (λ t. rw t)
    (λ t. rw t (ap (at_end r.station) (append-nil (drop r.used a)) ∙ ap (calls r.station) (cut_none (drop r.used a) (left_cut (length a) s a (omega arith) t)))))

pub runs_are_calls : RunsAreCalls
runs_are_calls s input = (answers_are (length input) s input, run_at_end s input)

pub pieces_are_calls : PiecesAreCalls
pieces_are_calls s pieces = (cut_anywhere s pieces ∙ answers_are (length (join pieces)) s (join pieces), fed_at_end s [] pieces refl)
