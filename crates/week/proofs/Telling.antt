-- What a message that is taken tells, read from its bytes, is what it says; and how many cars a record has. Assumes nothing.
use mathlib.Core.Path.{◌≡◌, refl, sym, ap, ◌∙◌}
use mathlib.Core.Bool.{Bool, true, false, cond, ◌&&◌}
use mathlib.Core.List.{List, [], ◌∷◌}
use Prim.Native.Nat.{ℕ, ◌+◌, ◌*◌, ◌≤◌, ◌<◌}
use native.Mathlib.Omega.{arith}
use borrow.Author.Tests.{eqb-true, eqb-false, ne_eqb, ltb-false, le-ltb}
use denote.Enum.Declared.{tag_of}
use lib.Dec.{eqb, ltb}
use lib.ListN.{get_or, length, take, drop}
use lib.Seq.{length-take-le, get_or-take}
use types.Run.{OneOf, miss}
use Rattle.bits.specs.Bits.{bit}
use Rattle.bits.specs.Search.{least}
use Rattle.bits.proofs.Cases.{split}
use Rattle.answers.specs.Answers.{number_of}
use Rattle.std.specs.declared.option.Option.{Option}
use Rattle.std.specs.declared.option.Option.TheVariants.{Some}
use Rattle.floor.specs.Cars.{cars}
use Rattle.floor.specs.Sound.{sound, total, cars_in}
use Rattle.floor.proofs.Few.{few_cars}
use Rattle.codec.specs.Bytes.{from_little_endian}
use Rattle.station.specs.declared.Station.{Station}
use Rattle.station.specs.Held.{code_at}
use Rattle.wire.specs.contracts.What as what
use Rattle.wire.specs.declared.What.{What}
use Rattle.wire.specs.declared.What.TheVariants.{Request, Event, Result, Image, Ask, Answer, Held}
use Rattle.wire.specs.Reads.{Received}
use Rattle.wire.specs.declared.Frame.{Frame}
use Rattle.wire.specs.declared.Frame.TheVariants.{Cut, Wrong, Whole}
use Rattle.wire.specs.Kinds.{event_kind, result_kind, image_kind, kinds_asked, in_range}
use Rattle.wire.specs.Reads.{frame_of, length_at, kind_at, sized, bad_in, read_request, read_whole, read_framed, read_asked}
use Rattle.wire.proofs.Frames.{when, whole_frame}
use Rattle.service.specs.Service.{respond}
use Rattle.service.proofs.Readings.{ways}
use Rattle.week.specs.declared.Tells.{Tells}
use Rattle.week.specs.Weeks.{kind_read, number_answered, op_in, is_done, drive_on, drive_done}
use Rattle.week.specs.Private.{told_by}

-- a mask of one bit is set where that bit is
pub one_set : {a : Bool} (b : Bool) → a ≡ b && true → a ≡ b
one_set true e = e
one_set false e = e

-- ---- cars

total_sound : (r : ℕ) → sound r ≡ true → total r ≡ Some (cars (bit r))
unfolding total
total_sound r e = rw e

pub sound_cars : (r : ℕ) → sound r ≡ true → cars_in (total r) ≡ cars (bit r)
sound_cars r e = rw (total_sound r e)

pub few_told : (r n : ℕ) → total r ≡ Some n → n < 256
few_told r n e = let h = few_cars r n e in omega arith

pub few_sound : (r n : ℕ) → sound r ≡ true → n ≡ cars (bit r) → n < 256
few_sound r n e h = let k = few_told r (cars (bit r)) (total_sound r e) in omega arith

pub cars_told : (r : ℕ) {t : Option ℕ} → total r ≡ t → cars_in t ≡ cars_in (total r)
cars_told r e = sym (ap cars_in e)

-- ---- the number of an answer

-- what isn't of kind 128 has none
pub no_number : (w : What) → OneOf (0 ∷ 1 ∷ 2 ∷ 3 ∷ 4 ∷ 6 ∷ []) (tag_of what.the_type w) → 255 ≡ number_answered w
no_number Request h = refl
no_number (Event way) h = refl
no_number (Result issue number ending) h = refl
no_number (Image bits apart) h = refl
no_number Ask h = refl
no_number (Answer number place issue) h = absurd (miss (0 ∷ 1 ∷ 2 ∷ 3 ∷ 4 ∷ 6 ∷ []) 5 tt h)
no_number (Held bits apart) h = refl

-- ---- what a message tells

-- as it says it
abbrev pub tells_of : Station → What → Tells
tells_of s w = record { op = op_in s w; done = is_done w; drive = drive_done s.bits w }

abbrev none : Tells
none = record { op = 0; done = false; drive = 0 }

-- the kind of a whole message; a wrong length has none
pub whole_kind : (m : List ℕ) (n : ℕ) → frame_of m ≡ Whole n → kind_read m ≡ cond (ltb 5 (kind_at m)) 0 (kind_at m)
unfolding kind_read
whole_kind m n e =
    let f = whole_frame m n e in
    simp (le-ltb (length m) 4 (omega arith), le-ltb (length_at m) 2 (omega arith), le-ltb 43 (length_at m) (omega arith))

pub wrong_kind : (m : List ℕ) → frame_of m ≡ Wrong → kind_read m ≡ 0
unfolding kind_read
wrong_kind m e = split (ltb (length m) 4) (λ t. rw t)
    (λ t. let h = ltb-false (length m) 4 t in
    rw t
    (split (ltb (length_at m) 2) (λ a. rw a)
    (λ a. rw a
    (split (ltb 43 (length_at m)) (λ b. rw b)
    (λ b. absurd (not_wrong (rw (le-ltb (length m) 2 (omega arith), a, b) at e)))))))
  where
    not_wrong : cond (ltb (length m) (length_at m + 2)) Cut (Whole (length_at m + 2)) ≡ Wrong → ⊥
    not_wrong e =
        when (ltb (length m) (length_at m + 2)) Cut (Whole (length_at m + 2)) Wrong e
        (λ _ q. let z : ◌≡◌ {A = ℕ} 0 1 = cc in omega arith) (λ _ q. let z : ◌≡◌ {A = ℕ} 0 1 = cc in omega arith)

pub kind_is : (m : List ℕ) (n k : ℕ) → frame_of m ≡ Whole n → kind_at m ≡ k → k ≤ 5 → kind_read m ≡ k
kind_is m n k e q h = whole_kind m n e ∙ rw (q, le-ltb 5 k h)

pub kind_taken : (m : List ℕ) (n : ℕ) → 4 ≤ n → kind_at (take n m) ≡ kind_at m
kind_taken m n h = rw (get_or-take n m 2 0 (omega arith), get_or-take n m 3 0 (omega arith))

-- by its kind: an event that ends a drive as done, another, a result, or any other kind
module _ (s : Station) (m : List ℕ) {k : ℕ} where
  pub told_done : (way d : ℕ) → k ≡ 2 → way ≡ get_or m 4 0 → way ≡ 3 → d ≡ drive_on s.bits → record { op = 0; done = false; drive = d } ≡ told_by s k m
  unfolding told_by
  told_done way d e b w f = rw (e, ← b, w, f)

  pub told_event : (way : ℕ) → k ≡ 2 → way ≡ get_or m 4 0 → (way ≡ 3 → ⊥) → none ≡ told_by s k m
  unfolding told_by
  told_event way e b w = rw (e, ← b, ne_eqb way 3 w)

  pub told_result : (op n d : ℕ) → k ≡ 3 → op ≡ (code_at s.set n).op → n ≡ get_or m 6 0 → d ≡ get_or m 7 0
      → record { op = op; done = eqb d 1; drive = 0 } ≡ told_by s k m
  unfolding told_by
  told_result op n d e o a b = rw (e, o, a, b)

  pub told_other : (k ≡ 2 → ⊥) → (k ≡ 3 → ⊥) → none ≡ told_by s k m
  unfolding told_by
  told_other a b = rw (ne_eqb k 2 a, ne_eqb k 3 b)

told_none : (s : Station) (m : List ℕ) (k : ℕ) → eqb k 2 ≡ false → eqb k 3 ≡ false → told_by s k m ≡ none
told_none s m k a b = sym (told_other s m (eqb-false k 2 a) (eqb-false k 3 b))

-- a request tells nothing of these, be it read or refused
request_tells : (s : Station) (m : List ℕ) → tells_of s (read_request m).message.what ≡ none
unfolding read_request
request_tells s m =
    let P : Received → Type 0 = λ r. tells_of s r.message.what ≡ none in
    let count = get_or m 4 0 in
    ways P (ltb (length m) 5) (λ _. refl)
    (λ _. ways P (ltb 8 count) (λ _. refl)
    (λ _. ways P (eqb (length m) (5 + 5 * count))
    (λ _. ways P (ltb (least count (bad_in (drop 5 m))) count) (λ _. refl) (λ _. refl))
    (λ _. refl)))

module _ (s : Station) (m : List ℕ) where
  -- what is read, if it isn't refused, tells what the bytes tell
  abbrev Told : Received → Type 0
  Told r = number_of r.answer ≡ 0 → told_by s (kind_read m) m ≡ tells_of s r.message.what

  sized_told : (b : List ℕ) (n : ℕ) (w : What) → (length b ≡ n → told_by s (kind_read m) m ≡ tells_of s w) → Told (sized b n w)
  sized_told b n w f =
      ways Told (eqb (length b) n)
      (λ e. ways Told (in_range w) (λ _ _. f (eqb-true (length b) n e)) (λ _ z. absurd (omega arith)))
      (λ _ z. absurd (omega arith))

  module _ (n : ℕ) (e : frame_of m ≡ Whole n) where
    abbrev b : List ℕ
    b = take n m

    long : length b ≡ n
    long = length-take-le n m (whole_frame m n e).within

    same_kind : kind_at b ≡ kind_at m
    same_kind = kind_taken m n (whole_frame m n e).low

    is : (k : ℕ) → eqb (kind_at b) k ≡ true → k ≤ 5 → kind_read m ≡ k
    is k t h = kind_is m n k e (sym same_kind ∙ eqb-true (kind_at b) k t) h

    nothing_told : (k : ℕ) → eqb (kind_at b) k ≡ true → k ≤ 5 → eqb k 2 ≡ false → eqb k 3 ≡ false → told_by s (kind_read m) m ≡ none
    nothing_told k t h p q = ap (λ (x : ℕ). told_by s x m) (is k t h) ∙ told_none s m k p q

    byte_same : (i : ℕ) → i < n → get_or b i 0 ≡ get_or m i 0
    byte_same i h = get_or-take n m i 0 h

    event_told : eqb (kind_at b) 2 ≡ true → length b ≡ 5 → told_by s (kind_read m) m ≡ tells_of s (Event (get_or b 4 0))
    unfolding told_by
    event_told t l = rw (is 2 t (omega arith), byte_same 4 (omega (arith, long)))

    result_told : eqb (kind_at b) 3 ≡ true → length b ≡ 8 → (issue : ℕ) → told_by s (kind_read m) m ≡ tells_of s (Result issue (get_or b 6 0) (get_or b 7 0))
    unfolding told_by
    result_told t l issue = rw (is 3 t (omega arith), byte_same 6 (omega (arith, long)), byte_same 7 (omega (arith, long)))

    whole_told : Told (read_whole kinds_asked b)
    unfolding read_whole
    whole_told =
        ways Told (eqb (kind_at b) 1)
        (λ t _. nothing_told 1 t (omega arith) refl refl ∙ sym (request_tells s b))
        (λ _. ways Told (eqb (kind_at b) 2) (λ t. sized_told b 5 (event_kind.says b) (event_told t))
        (λ _. ways Told (eqb (kind_at b) 3) (λ t. sized_told b 8 (result_kind.says b) (λ l. result_told t l (from_little_endian 2 4 b)))
        (λ _. ways Told (eqb (kind_at b) 4) (λ t. sized_told b 20 (image_kind.says b) (λ _. nothing_told 4 t (omega arith) refl refl))
        (λ _. ways Told (eqb (kind_at b) 5) (λ t. sized_told b 4 Ask (λ _. nothing_told 5 t (omega arith) refl refl))
        (λ _ z. absurd (omega arith))))))

  framed_told : (f : Frame) → frame_of m ≡ f → Told (read_framed kinds_asked f m)
  framed_told Cut e z = absurd (omega arith)
  framed_told Wrong e z = absurd (omega arith)
  framed_told (Whole n) e z = whole_told n e z

  read_told : Told (read_asked m)
  unfolding read_asked
  read_told = framed_told (frame_of m) refl

  -- a message that is answered with 0 was read
  was_read : number_answered (respond s m).answer ≡ 0 → number_of (read_asked m).answer ≡ 0
  unfolding respond
  was_read z =
      split (eqb (number_of (read_asked m).answer) 0)
      (λ t. eqb-true (number_of (read_asked m).answer) 0 t)
      (λ t. rw t at z)

  pub taken_told : number_answered (respond s m).answer ≡ 0 → told_by s (kind_read m) m ≡ tells_of s (read_asked m).message.what
  taken_told z = read_told (was_read z)
