-- However the input is cut into pieces, it is answered with the same bytes. A run over some bytes, and then all answers to what it left
-- with more behind it, are all answers to the whole. Assumes nothing.
use mathlib.Core.Path.{◌≡◌, refl, sym, ap, ◌∙◌}
use mathlib.Core.Bool.{Bool, true, false, cond}
use mathlib.Core.List.{List, [], ◌∷◌, ◌++◌, append_assoc, append-nil}
use Prim.Native.Nat.{ℕ, zero, suc, ◌+◌, ◌≤◌}
use native.Mathlib.Omega.{arith}
use borrow.Author.Tests.{ltb-false, le-ltb}
use lib.Dec.{ltb}
use lib.ListN.{length, drop, length-append, get_or-append}
use lib.Seq.{take-append-le, drop-append-le, drop-drop}
use Rattle.bits.specs.Places.{join}
use Rattle.answers.specs.declared.Answer.TheVariants.{TooFewBytes, BadLength}
use Rattle.station.specs.declared.Station.{Station}
use Rattle.wire.specs.declared.Frame.{Frame}
use Rattle.wire.specs.declared.Frame.TheVariants.{Cut, Wrong, Whole}
use Rattle.wire.specs.Kinds.{kinds_asked}
use Rattle.wire.specs.Reads.{frame_of, length_at, message_refused, read_whole, read_framed, read_asked}
use Rattle.wire.proofs.Frames.{when, whole_frame}
use Rattle.service.specs.Service.{respond, answer_message, answer_bytes, no_bytes, go_on, answers_for, answers_on}
use Rattle.service.specs.Runs.{Ran, run_after, run_of, run, last_of, feed}
use Rattle.service.specs.Statements.{NoInput, CutAnywhere}
use Rattle.service.proofs.Running.{none_cut, shorter}

pub no_input : NoInput
unfolding answers_for
no_input s = refl

-- ---- what stands behind a message changes nothing

-- the first two bytes
length_more : (s t : List ℕ) → 2 ≤ length s → length_at (s ++ t) ≡ length_at s
length_more s t h = rw (get_or-append s t 0 0 (omega arith), get_or-append s t 0 1 (omega arith))

pub whole_more : (s t : List ℕ) (n : ℕ) → frame_of s ≡ Whole n → frame_of (s ++ t) ≡ Whole n
whole_more s t n e =
    let f = whole_frame s n e in
    let l = length-append s t in
    rw (length_more s t (omega arith))
    (simp (le-ltb (length (s ++ t)) 2 (omega arith), le-ltb (length_at s) 2 (omega arith), le-ltb 43 (length_at s) (omega arith), le-ltb (length (s ++ t)) (length_at s + 2) (omega arith))
    (ap Whole (sym f.long)))

pub wrong_more : (s t : List ℕ) → frame_of s ≡ Wrong → frame_of (s ++ t) ≡ Wrong
wrong_more s t e =
    when (ltb (length s) 2) Cut _ _ e (λ _ e. no e)
    (λ a e.
    let h = ltb-false (length s) 2 a in
    let l = length-append s t in
    let two : ltb (length (s ++ t)) 2 ≡ false = le-ltb (length (s ++ t)) 2 (omega arith) in
    let k = length_more s t h in
    when (ltb (length_at s) 2) Wrong _ _ e (λ b _. rw (two, k, b))
    (λ b e. when (ltb 43 (length_at s)) Wrong _ _ e (λ c _. rw (two, k, b, c))
    (λ c e. when (ltb (length s) (length_at s + 2)) Cut (Whole (length_at s + 2)) _ e (λ _ e. no e) (λ _ e. no2 e))))
  where
    no : Cut ≡ Wrong → frame_of (s ++ t) ≡ Wrong
    no e = absurd (let z : ◌≡◌ {A = ℕ} 0 1 = cc in omega arith)

    no2 : Whole (length_at s + 2) ≡ Wrong → frame_of (s ++ t) ≡ Wrong
    no2 e = absurd (let z : ◌≡◌ {A = ℕ} 0 1 = cc in omega arith)

-- a reply rests on what the message says alone
pub same_reply : (s : Station) (a b : List ℕ) → read_asked a ≡ read_asked b → respond s a ≡ respond s b
unfolding respond
same_reply s a b e = rw e

pub reading_more : (a t : List ℕ) (n : ℕ) → frame_of a ≡ Whole n → read_asked (a ++ t) ≡ read_asked a
unfolding read_asked
reading_more a t n e =
    ap (λ (f : Frame). read_framed kinds_asked f (a ++ t)) (whole_more a t n e)
    ∙ ap (read_whole kinds_asked) (take-append-le n a t (whole_frame a n e).within)
    ∙ sym (ap (λ (f : Frame). read_framed kinds_asked f a) e)

pub reading_wrong : (a : List ℕ) → frame_of a ≡ Wrong → read_asked a ≡ message_refused BadLength 0
unfolding read_asked
reading_wrong a e = rw e

pub reply_more : (s : Station) (a t : List ℕ) (n : ℕ) → frame_of a ≡ Whole n → respond s (a ++ t) ≡ respond s a
reply_more s a t n e = same_reply s (a ++ t) a (reading_more a t n e)

pub reply_cut : (s : Station) (a : List ℕ) → frame_of a ≡ Cut → (respond s a).answer ≡ answer_message TooFewBytes
unfolding respond read_asked
reply_cut s a e = rw e

pub reply_wrong : (s : Station) (a : List ℕ) → frame_of a ≡ Wrong → (respond s a).answer ≡ answer_message BadLength
unfolding respond read_asked
reply_wrong s a e = rw e

-- ---- all answers, message after message

pub same_going : {A : Type 0} (f : Frame) (go ho : List ℕ → List A) (input : List ℕ) → frame_of input ≡ f
    → ((rest : List ℕ) → length rest + 4 ≤ length input → go rest ≡ ho rest) → go_on f (λ n. go (drop n input)) ≡ go_on f (λ n. ho (drop n input))
same_going Cut go ho input e h = refl
same_going Wrong go ho input e h = refl
same_going (Whole n) go ho input e h = h (drop n input) (shorter input n e)

-- more turns than bytes change nothing
same : (k j : ℕ) (s : Station) (input : List ℕ) → length input ≤ k → length input ≤ j → answers_for k s input ≡ answers_for j s input
unfolding answers_for
same zero zero s input h g = refl
same zero (suc j) s [] h g = refl
same zero (suc j) s (b ∷ bs) h g = absurd (omega arith)
same (suc k) zero s [] h g = refl
same (suc k) zero s (b ∷ bs) h g = absurd (omega arith)
same (suc k) (suc j) s input h g =
    ap (λ (r : List ℕ). cond (no_bytes input) [] (answer_bytes (respond s input).answer ++ r))
    (let x = (respond s input).station in
    same_going (frame_of input) (answers_for k x) (answers_for j x) input refl (λ rest l. same k j x rest (omega arith) (omega arith)))

answers_cut : (s : Station) (input : List ℕ) → frame_of input ≡ Cut → answers_on s input ≡ last_of input
unfolding answers_for
answers_cut s [] e = refl
answers_cut s (b ∷ bs) e = rw (reply_cut s (b ∷ bs) e, e, append-nil)

answers_wrong : (s : Station) (input : List ℕ) → frame_of input ≡ Wrong → answers_on s input ≡ answer_bytes (answer_message BadLength)
unfolding answers_for
answers_wrong s [] e = let z : ◌≡◌ {A = ℕ} 0 1 = cc in absurd (omega arith)
answers_wrong s (b ∷ bs) e = rw (reply_wrong s (b ∷ bs) e, e, append-nil)

answers_whole : (s : Station) (input : List ℕ) (n : ℕ) → frame_of input ≡ Whole n
    → answers_on s input ≡ answer_bytes (respond s input).answer ++ answers_on (respond s input).station (drop n input)
unfolding answers_for
answers_whole s [] n e = let z : ◌≡◌ {A = ℕ} 0 1 = cc in absurd (omega arith)
answers_whole s (b ∷ bs) n e =
    let l = shorter (b ∷ bs) n e in
    rw e
    (ap (◌++◌ (answer_bytes (respond s (b ∷ bs)).answer))
    (same (length bs) (length (drop n (b ∷ bs))) (respond s (b ∷ bs)).station (drop n (b ∷ bs)) (omega arith) (omega arith)))

-- ---- a run, and then the rest with more behind it

-- a run's answers, and all that the rest is answered with
abbrev onwards : Ran → List ℕ → List ℕ → List ℕ
onwards r a t = r.bytes ++ cond r.stop [] (answers_on r.station (drop r.used a ++ t))

turned : (f : Frame) (go : Station → List ℕ → Ran) (s : Station) (a t : List ℕ) → frame_of a ≡ f
    → ((x : Station) (u : List ℕ) → length u + 4 ≤ length a → answers_on x (u ++ t) ≡ onwards (go x u) u t)
    → answers_on s (a ++ t) ≡ onwards (run_after f go s a) a t
turned Cut go s a t e rec = refl
turned Wrong go s a t e rec = answers_wrong s (a ++ t) (wrong_more a t e) ∙ sym (append-nil _)
turned (Whole n) go s a t e rec =
    let x = respond s a in
    let r = go x.station (drop n a) in
    answers_whole s (a ++ t) n (whole_more a t n e)
    ∙ rw (reply_more s a t n e, drop-append-le n a t (whole_frame a n e).within)
    (ap (◌++◌ (answer_bytes x.answer)) (rec x.station (drop n a) (shorter a n e))
    ∙ rw (append_assoc, drop-drop r.used n a))

in_pieces : (k : ℕ) (s : Station) (a t : List ℕ) → length a ≤ k → answers_on s (a ++ t) ≡ onwards (run_of k s a) a t
unfolding run_of
in_pieces zero s a t h = refl
in_pieces (suc k) s a t h = turned (frame_of a) (run_of k) s a t refl (λ x u l. in_pieces k x u t (omega arith))

-- what a run leaves is cut short, unless it stopped
left : (f : Frame) (go : Station → List ℕ → Ran) (s : Station) (a : List ℕ) → frame_of a ≡ f
    → ((x : Station) (u : List ℕ) → length u + 4 ≤ length a → (go x u).stop ≡ false → frame_of (drop (go x u).used u) ≡ Cut)
    → (run_after f go s a).stop ≡ false → frame_of (drop (run_after f go s a).used a) ≡ Cut
left Cut go s a e rec q = e
left Wrong go s a e rec q = let z : ◌≡◌ {A = ℕ} 0 1 = cc in absurd (omega arith)
left (Whole n) go s a e rec q =
    let x = (respond s a).station in
    rw (← drop-drop (go x (drop n a)).used n a) (rec x (drop n a) (shorter a n e) q)

pub left_cut : (k : ℕ) (s : Station) (a : List ℕ) → length a ≤ k → (run_of k s a).stop ≡ false → frame_of (drop (run_of k s a).used a) ≡ Cut
unfolding run_of
left_cut zero s a h q = none_cut a h
left_cut (suc k) s a h q = left (frame_of a) (run_of k) s a refl (λ x u l p. left_cut k x u (omega arith) p) q

-- ---- all pieces

pub unless_stopped : {A : Type 0} (t : Bool) (z : A) {x y : A} → (t ≡ false → x ≡ y) → cond t z x ≡ cond t z y
unless_stopped true z f = refl
unless_stopped false z f = f refl

all_pieces : (s : Station) (held : List ℕ) (pieces : List (List ℕ)) → frame_of held ≡ Cut → feed s held pieces ≡ answers_on s (held ++ join pieces)
unfolding feed
all_pieces s held [] e = sym (ap (answers_on s) (append-nil held) ∙ answers_cut s held e)
all_pieces s held (p ∷ ps) e =
    let a = held ++ p in
    let r = run s a in
    ap (◌++◌ r.bytes)
    (unless_stopped r.stop [] (λ q. all_pieces r.station (drop r.used a) ps (left_cut (length a) s a (omega arith) q)))
    ∙ sym (ap (answers_on s) (sym (append_assoc held p (join ps))) ∙ in_pieces (length a) s a (join ps) (omega arith))

pub cut_anywhere : CutAnywhere
cut_anywhere s pieces = all_pieces s [] pieces refl
