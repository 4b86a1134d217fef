-- A message whose bytes are exactly m as a call: where it is a request and where it is none; the set that it leaves; and that the reply to
-- the first message of some bytes is the reply to its call. Assumes nothing.
use mathlib.Core.Path.{◌≡◌, refl, sym, ap, ap₂, ◌∙◌}
use mathlib.Core.Bool.{Bool, true, false, cond, not, ◌&&◌, and-false}
use mathlib.Core.List.{List, [], ◌∷◌, ◌++◌}
use Prim.Native.Nat.{ℕ, zero, suc, ◌+◌, ◌*◌, ◌-◌, ◌<◌, ◌≤◌}
use native.Mathlib.Omega.{arith}
use borrow.Author.Tests.{eq-eqb, ne_eqb, eqb-true, eqb-false, lt-ltb, le-ltb, lt-leb, le-leb, ltb-true, ltb-false}
use lib.Dec.{eqb, ltb}
use lib.ListN.{get_or, length, take, drop, replicate, length-drop, drop_of_length-le}
use lib.Seq.{length-take-le, take_all, take_at}
use Rattle.bits.specs.Search.{least}
use Rattle.bits.proofs.Cases.{split}
use Rattle.codec.specs.Bytes.{from_little_endian}
use Rattle.std.specs.declared.option.Option.{Option}
use Rattle.std.specs.declared.option.Option.TheVariants.{Some, None}
use Rattle.rules.specs.declared.Instruction.{Instruction}
use Rattle.rules.specs.Codes.{read_code, read_bytes}
use Rattle.rules.specs.Verdicts.{on_code}
use Rattle.answers.specs.declared.Answer.{Answer}
use Rattle.answers.specs.declared.Answer.TheVariants.{Taken, TooFewBytes, BadLength, UnknownKind, BadField, TooMany, SetOutstanding, EmptySet, Unfit}
use Rattle.answers.specs.Answers.{number_of, nowhere}
use Rattle.station.specs.declared.Station.{Station}
use Rattle.station.specs.declared.Outcome.{Outcome}
use Rattle.station.specs.declared.Turn.{Turn}
use Rattle.station.specs.Station.{fit}
use Rattle.station.specs.Held.{code_at, is_good, bad}
use Rattle.station.specs.Calls.{refused, requested}
use Rattle.station.specs.Turns.{turn_of, kept_set, after_turn}
use Rattle.station.proofs.Padding.{padded_code}
use Rattle.station.proofs.Turns.{Kept, rebuilt, kept_refused, kept_requested, kept_evented, kept_resulted, kept_imaged}
use Rattle.wire.specs.declared.What.{What}
use Rattle.wire.specs.declared.What.TheVariants.{Request, Event, Result, Image, Ask, Held}
use Rattle.wire.specs.declared.Parsed.{Parsed}
use Rattle.std.specs.declared.result.Result as kept
use Rattle.std.specs.declared.result.Result.TheVariants.{Ok, Err}
use Rattle.wire.specs.declared.Message.{Message}
use Rattle.wire.specs.Reads.{Received}
use Rattle.wire.specs.declared.Frame.TheVariants.{Cut, Wrong, Whole}
use Rattle.wire.specs.Kinds.{SizedKind, event_kind, result_kind, image_kind, kinds_asked, in_range, plain, set_of}
use Rattle.wire.specs.Reads.{kind_at, frame_of, is_bad, bad_in, sized, read_request, read_among, read_whole, read_asked, as_parsed, said_in}
use Rattle.wire.proofs.Parts.{from_on, set_short}
use Rattle.wire.proofs.Reading.{read_too_many, read_bad_length, read_bad_one, read_all_good, parsed_ok, parsed_err, said_ok, said_err}
use Rattle.service.specs.Service.{answer_message, reply_of, respond, on_known, called_known, respond_known}
use Rattle.service.specs.Private.{is_result, called_as, message_call, reply_said, message_reply}
use Rattle.service.proofs.Readings.{ways}
use Rattle.service.proofs.Called.{known_reply, kept_on_known}

-- ---- no request

-- what is no request holds no instruction
record Plain (r : Received) : Type 0 where
  plainly : r.message ≡ plain r.message.what

sized_plain : (m : List ℕ) (n : ℕ) (w : What) → Plain (sized m n w)
sized_plain m n w =
    ways Plain (eqb (length m) n)
    (λ _. ways Plain (in_range w) (λ _. record { plainly = refl }) (λ _. record { plainly = refl }))
    (λ _. record { plainly = refl })

among_plain : (ks : List SizedKind) (m : List ℕ) → Plain (read_among ks m)
among_plain [] m = record { plainly = refl }
among_plain (k ∷ ks) m =
    ways Plain (eqb (kind_at m) k.number) (λ _. sized_plain m (4 + k.size) (k.says m)) (λ _. among_plain ks m)

module _ (known : Bool) (s : Station) (m : List ℕ) (k : kind_at m ≡ 1 → ⊥) {x : kept.Result What Answer} (e : x ≡ said_in (read_among kinds_asked m)) where
  among : message_call known s m ≡ called_as known s (read_among kinds_asked m)
  unfolding message_call read_whole
  among = ap (λ (t : Bool). called_as known s (cond t (read_request m) (read_among kinds_asked m))) (ne_eqb (kind_at m) 1 k)

  pub said_refused : {a : Answer} → x ≡ Err a → refused s a ≡ message_call known s m
  said_refused z =
      let (n, why) = said_err (read_among kinds_asked m) e z in
      ap (refused s) (sym why) ∙ sym (among ∙ rw n)

  pub said_called : {w : What} → x ≡ Ok w → called_known known w s 0 (replicate 40 0) ≡ message_call known s m
  said_called z =
      let (n, what) = said_ok (read_among kinds_asked m) e z in
      ap (λ (w : What). called_known known w s 0 (replicate 40 0)) (sym what)
      ∙ sym (among ∙ rw n (ap (λ (y : Message). called_known known y.what s y.count y.set) (among_plain kinds_asked m).plainly))

-- ---- a result

-- what is not of the kind of results is none
module _ (m : List ℕ) where
  record Other (r : Received) : Type 0 where
    other : is_result r.message.what ≡ false

  sized_other : (n : ℕ) (w : What) → is_result w ≡ false → Other (sized m n w)
  sized_other n w e =
      ways Other (eqb (length m) n)
      (λ _. ways Other (in_range w) (λ _. record { other = e }) (λ _. record { other = refl }))
      (λ _. record { other = refl })

  pub no_result : (kind_at m ≡ 3 → ⊥) → {x : kept.Result What Answer} → x ≡ said_in (read_among kinds_asked m) → {w : What} → x ≡ Ok w → is_result w ≡ false
  no_result k e z =
      let k₀ = kind_at m in
      ap is_result (sym (said_ok (read_among kinds_asked m) e z).1) ∙ (ways Other (eqb k₀ 2) (λ _. sized_other 5 (event_kind.says m) refl)
      (λ _. ways Other (eqb k₀ 3) (λ t. absurd (k (eqb-true k₀ 3 t)))
      (λ _. ways Other (eqb k₀ 4) (λ _. sized_other 20 (image_kind.says m) refl)
      (λ _. ways Other (eqb k₀ 5) (λ _. sized_other 4 Ask refl)
      (λ _. record { other = refl }))))).other

module _ (known : Bool) (s : Station) (m : List ℕ) (k : kind_at m ≡ 3) where
  reporting : message_call known s m ≡ called_as known s (sized m 8 (result_kind.says m))
  unfolding message_call read_whole
  reporting = rw k

  pub report_long : (length m ≡ 8 → ⊥) → refused s BadLength ≡ message_call known s m
  report_long l = sym (reporting ∙ rw (ne_eqb (length m) 8 l))

  module _ (l : length m ≡ 8) {ending : ℕ} (d : ending ≡ get_or m 7 0) where
    pub report_bad : 2 < ending → refused s (BadField nowhere) ≡ message_call known s m
    report_bad h = sym (reporting ∙ rw (eq-eqb (length m) 8 l, ← d, lt-leb ending 2 h))

    pub report_called : {issue number : ℕ} → ending ≤ 2 → issue ≡ from_little_endian 2 4 m → number ≡ get_or m 6 0
        → called_known known (Result issue number ending) s 0 (replicate 40 0) ≡ message_call known s m
    report_called h e n = rw (e, n) (sym (reporting ∙ rw (eq-eqb (length m) 8 l, ← d, le-leb ending 2 h)))

-- ---- a request

same_least : (n : ℕ) (p q : ℕ → Bool) → ((j : ℕ) → j < n → p j ≡ q j) → least n p ≡ least n q
unfolding least
same_least zero p q h = refl
same_least (suc n) p q h =
    rw (h 0 (omega arith), same_least n (λ j. p (suc j)) (λ j. q (suc j)) (λ j l. h (suc j) (omega arith)))

-- an instruction is bad to the reader as it is to the station
reads_bad : (y : (Option Instruction)) → not (on_code (λ i. true) false y) ≡ is_bad y
reads_bad (Some i) = refl
reads_bad None = refl

same_bad : (l : List ℕ) (n k : ℕ) → length l ≡ 5 * n → (i : ℕ) → i < n → bad (l ++ replicate k 0) i ≡ bad_in l i
unfolding is_good read_bytes code_at
same_bad l n k e i h =
    ap (λ (f : ℕ → _). not (on_code (λ i. true) false (read_code (f i)))) (padded_code l k)
    ∙ reads_bad (read_code (code_at l i))
    ∙ sym (ap (λ (t : Bool). is_bad (cond t None (read_code (code_at l i)))) (le-ltb (length (drop (5 * i) l)) 5 (rw (length-drop (5 * i) l) (omega arith))))

-- what was read is a request
record Requests (r : Received) : Type 0 where
  requests : number_of r.answer ≡ 0 → r.message.what ≡ Request

read_is : (m : List ℕ) → Requests (read_request m)
unfolding read_request
read_is m =
    let count = get_or m 4 0 in
    ways Requests (ltb (length m) 5) (λ _. record { requests = λ q. absurd (omega arith) })
    (λ _. ways Requests (ltb 8 count) (λ _. record { requests = λ q. absurd (omega arith) })
    (λ _. ways Requests (eqb (length m) (5 + 5 * count))
    (λ _. ways Requests (ltb (least count (bad_in (drop 5 m))) count) (λ _. record { requests = λ q. absurd (omega arith) }) (λ _. record { requests = λ q. refl }))
    (λ _. record { requests = λ q. absurd (omega arith) })))

module _ (s : Station) (m : List ℕ) (k : kind_at m ≡ 1) where
  asking : (known : Bool) → message_call known s m ≡ called_as known s (read_request m)
  unfolding message_call read_whole
  asking known = ap (λ (t : Bool). called_as known s (cond t (read_request m) (read_among kinds_asked m))) (eq-eqb (kind_at m) 1 k)

  module _ {n : ℕ} (e : n ≡ get_or m 4 0) where
    pub too_many : 8 < n → refused s TooMany ≡ message_call true s m
    too_many h = sym (asking true ∙ ap (called_as true s) (read_too_many m e h))

    pub bad_length : n ≤ 8 → (length m ≡ 5 + 5 * n → ⊥) → refused s BadLength ≡ message_call true s m
    bad_length h l = sym (asking true ∙ ap (called_as true s) (read_bad_length m e h l))

    -- on a station without a set the call tells a bad instruction as the reader does
    pub opened : n ≤ 8 → length m ≡ 5 + 5 * n → s.count ≡ 0 → {set : List ℕ} → set ≡ set_of (drop 5 m) → requested s n set ≡ message_call true s m
    unfolding requested
    opened h l z {set} f =
        let d : length (drop 5 m) ≡ 5 * n = length-drop 5 m ∙ omega arith in
        let g : set ≡ drop 5 m ++ replicate (40 - length (drop 5 m)) 0 = f ∙ set_short (drop 5 m) (omega arith) in
        let b : least n (bad set) ≡ least n (bad_in (drop 5 m)) =
        rw g (same_least n (bad (drop 5 m ++ replicate (40 - length (drop 5 m)) 0)) (bad_in (drop 5 m)) (same_bad (drop 5 m) n (40 - length (drop 5 m)) d)) in
        split (ltb (least n (bad_in (drop 5 m))) n)
        (λ t.
        let a = ltb-true (least n (bad_in (drop 5 m))) n t in
        rw (le-ltb 0 s.count (omega arith), le-ltb 8 n h, ne_eqb n 0 (λ q. absurd (omega arith)), b, t)
        (sym (asking true ∙ ap (called_as true s) (read_bad_one m e h l refl a))))
        (λ t.
        let a = ltb-false (least n (bad_in (drop 5 m))) n t in
        sym (asking true ∙ ap (called_as true s) (sym (read_all_good m e h l refl a
        (g ∙ ap (λ (q : List ℕ). q ++ replicate (40 - length q) 0) (sym (from_on m 5)))))))

  module _ {x : Parsed} (e : x ≡ as_parsed (read_request m)) where
    abbrev r : Received
    r = read_request m

    pub request_refused : (known : Bool) {a : Answer} → x.says ≡ Err a → refused s a ≡ message_call known s m
    request_refused known z =
        let (n, why) = parsed_err r e z in
        ap (refused s) (sym why) ∙ sym (asking known ∙ rw n)

    read : (known : Bool) {y : Message} → x.says ≡ Ok y → called_known known Request s r.message.count r.message.set ≡ message_call known s m
    read known z =
        let (n, all) = parsed_ok r e z in
        let w : r.message.what ≡ Request = (read_is m).requests (eqb-true (number_of r.answer) 0 n) in
        sym (asking known ∙ rw (n, w))

    beside : (n : ℕ) (set : List ℕ) → (s.count ≡ 0 → ⊥) → requested s n set ≡ refused s SetOutstanding
    unfolding requested
    beside n set c = rw (lt-ltb 0 s.count (positive s.count c))
      where
        positive : (k : ℕ) → (k ≡ 0 → ⊥) → 0 < k
        positive k c = omega arith

    pub request_beside : {known : Bool} {y : Message} → x.says ≡ Ok y → known ≡ true → known && eqb s.count 0 ≡ false → refused s SetOutstanding ≡ message_call known s m
    request_beside {known} z q f =
        rw q (sym (beside r.message.count r.message.set (eqb-false s.count 0 (rw q at f))) ∙ read true z)

    pub request_unfit : {known : Bool} {y : Message} → x.says ≡ Ok y → known ≡ false → refused s Unfit ≡ message_call known s m
    request_unfit {known} z q = rw q (read false z)

-- ---- the set that is left

module _ (known : Bool) (s : Station) (m : List ℕ) where
  record K (r : Received) : Type 0 where
    keeps : Kept s (set_of (drop 5 m)) (called_as known s r)

  no : (a : Answer) → Kept s (set_of (drop 5 m)) (refused s a)
  no a = kept_refused s (set_of (drop 5 m)) a

  on : {o : Outcome} → Kept s (set_of (drop 5 m)) o → Kept s (set_of (drop 5 m)) (on_known known s o)
  on k = kept_on_known known s (set_of (drop 5 m)) k

  sized_kept : (n : ℕ) (w : What) → Kept s (set_of (drop 5 m)) (called_known known w s 0 (replicate 40 0)) → K (sized m n w)
  sized_kept n w f =
      ways K (eqb (length m) n)
      (λ _. ways K (in_range w) (λ _. record { keeps = f }) (λ _. record { keeps = no (BadField nowhere) }))
      (λ _. record { keeps = no BadLength })

  request_kept : K (read_request m)
  unfolding read_request
  request_kept =
      let n = get_or m 4 0 in
      let bad = least n (bad_in (drop 5 m)) in
      ways K (ltb (length m) 5) (λ _. record { keeps = no BadLength })
      (λ _. ways K (ltb 8 n) (λ _. record { keeps = no TooMany })
      (λ h. ways K (eqb (length m) (5 + 5 * n))
      (λ l. ways K (ltb bad n) (λ _. record { keeps = no (BadField bad) })
      (λ _. record { keeps = on (kept_requested s (set_of (drop 5 m)) n _ (brought n (ltb-false 8 n h) (eqb-true (length m) (5 + 5 * n) l))) }))
      (λ _. record { keeps = no BadLength })))
    where
      brought : (n : ℕ) → n ≤ 8 → length m ≡ 5 + 5 * n
          → set_of (drop 5 m) ≡ take (5 * n) (take (5 * n) (drop 5 m) ++ replicate (40 - 5 * n) 0) ++ replicate (40 - 5 * n) 0
      brought n h l =
          let d : length (drop 5 m) ≡ 5 * n = length-drop 5 m ∙ omega arith in
          set_short (drop 5 m) (omega arith)
          ∙ rw (d, take_at (take (5 * n) (drop 5 m)) (replicate (40 - 5 * n) 0) (5 * n) (length-take-le (5 * n) (drop 5 m) (omega arith)), take_all (5 * n) (drop 5 m) (omega arith))

  whole_kept : K (read_whole kinds_asked m)
  unfolding read_whole
  whole_kept =
      let fresh = set_of (drop 5 m) in
      ways K (eqb (kind_at m) 1) (λ _. request_kept)
      (λ _. ways K (eqb (kind_at m) 2) (λ _. sized_kept 5 (event_kind.says m) (on (kept_evented s fresh (get_or m 4 0))))
      (λ _. ways K (eqb (kind_at m) 3)
      (λ _. sized_kept 8 (result_kind.says m) (on (kept_resulted s fresh (record { issue = from_little_endian 2 4 m; number = get_or m 6 0; ending = get_or m 7 0 }))))
      (λ _. ways K (eqb (kind_at m) 4)
      (λ _. sized_kept 20 (image_kind.says m) (on (kept_imaged s fresh (record { bits = from_little_endian 8 4 m; apart = from_little_endian 8 12 m }))))
      (λ _. ways K (eqb (kind_at m) 5) (λ _. sized_kept 4 Ask (on (no Taken)))
      (λ _. record { keeps = no UnknownKind })))))

  pub heard_kept : Kept s (set_of (drop 5 m)) (message_call known s m)
  unfolding message_call
  heard_kept = whole_kept.keeps

-- ---- the reply

-- what a message is told, by the two tests that its turn makes
module _ (kind : ℕ) (t : Turn) {n : ℕ} (e : n ≡ number_of t.answer) where
  pub told_image : eqb kind 5 && eqb n 0 ≡ true → reply_said kind t ≡ Held t.bits t.apart
  told_image q = ap (λ (b : Bool). cond b (Held t.bits t.apart) (answer_message t.answer)) (ap (λ (x : ℕ). eqb kind 5 && eqb x 0) (sym e) ∙ q)

  pub told_answer : eqb kind 5 && eqb n 0 ≡ false → reply_said kind t ≡ answer_message t.answer
  told_answer q = ap (λ (b : Bool). cond b (Held t.bits t.apart) (answer_message t.answer)) (ap (λ (x : ℕ). eqb kind 5 && eqb x 0) (sym e) ∙ q)

abbrev is_ask : What → Bool
is_ask Request = false
is_ask (Event way) = false
is_ask (Result issue number ending) = false
is_ask (Image bits apart) = false
is_ask Ask = true
is_ask (What.Answer number place issue) = false
is_ask (Held bits apart) = false

module _ (k : ℕ) where
  -- what was read is an ask exactly if the kind is that of asks
  record Right (r : Received) : Type 0 where
    rightly : number_of r.answer ≡ 0 → eqb k 5 ≡ is_ask r.message.what

  reply_told : (w : What) (o : Outcome) → eqb k 5 ≡ is_ask w → reply_of w o ≡ message_reply k o
  reply_told Request o e = rw e
  reply_told (Event way) o e = rw e
  reply_told (Result issue number ending) o e = rw e
  reply_told (Image bits apart) o e = rw e
  reply_told Ask o e = rw e
  reply_told (What.Answer number place issue) o e = rw e
  reply_told (Held bits apart) o e = rw e

  -- the reply to what was read is that to its call
  replying : (known : Bool) (s : Station) (r : Received) → Right r
      → cond (eqb (number_of r.answer) 0) (reply_of r.message.what (called_known known r.message.what s r.message.count r.message.set))
      (record { station = s; answer = answer_message r.answer })
      ≡ message_reply k (called_as known s r)
  replying known s r f =
      split (eqb (number_of r.answer) 0)
      (λ t. rw t (reply_told r.message.what _ (f.rightly (eqb-true (number_of r.answer) 0 t))))
      (λ t. rw t (ap (λ (w : What). record { station = s; answer = w })
      (sym (told_answer k (turn_of (refused s r.answer)) refl (ap (λ (b : Bool). eqb k 5 && b) t ∙ and-false (eqb k 5))))))

  sized_right : (m : List ℕ) (n : ℕ) (w : What) → eqb k 5 ≡ is_ask w → Right (sized m n w)
  sized_right m n w e =
      ways Right (eqb (length m) n)
      (λ _. ways Right (in_range w) (λ _. record { rightly = λ q. e }) (λ _. record { rightly = λ q. absurd (omega arith) }))
      (λ _. record { rightly = λ q. absurd (omega arith) })

right : (m : List ℕ) → Right (kind_at m) (read_whole kinds_asked m)
unfolding read_whole
right m =
    let k = kind_at m in
    ways (Right k) (eqb k 1) (λ e. record { rightly = λ q. rw (eqb-true k 1 e, (read_is m).requests q) })
    (λ _. ways (Right k) (eqb k 2) (λ e. sized_right k m 5 (event_kind.says m) (rw (eqb-true k 2 e)))
    (λ _. ways (Right k) (eqb k 3) (λ e. sized_right k m 8 (result_kind.says m) (rw (eqb-true k 3 e)))
    (λ _. ways (Right k) (eqb k 4) (λ e. sized_right k m 20 (image_kind.says m) (rw (eqb-true k 4 e)))
    (λ _. ways (Right k) (eqb k 5) (λ e. sized_right k m 4 Ask e)
    (λ _. record { rightly = λ q. absurd (omega arith) })))))

module _ (known : Bool) (s : Station) (bytes : List ℕ) where
  pub respond_cut : frame_of bytes ≡ Cut → record { station = s; answer = answer_message TooFewBytes } ≡ respond_known known s bytes
  unfolding respond_known read_asked
  respond_cut e = rw e

  pub respond_wrong : frame_of bytes ≡ Wrong → record { station = s; answer = answer_message BadLength } ≡ respond_known known s bytes
  unfolding respond_known read_asked
  respond_wrong e = rw e

  pub respond_whole : (n : ℕ) → frame_of bytes ≡ Whole n → respond_known known s bytes ≡ message_reply (kind_at (take n bytes)) (message_call known s (take n bytes))
  unfolding respond_known read_asked message_call
  respond_whole n e = rw e (replying (kind_at (take n bytes)) known s (read_whole kinds_asked (take n bytes)) (right (take n bytes)))

-- a station by the turn of a message and the set that it brings
module _ (known : Bool) (s : Station) (m : List ℕ) {t : Turn} (e : t ≡ turn_of (message_call known s m)) where
  pub heard_after : after_turn s t (set_of (drop 5 m)) ≡ message_call known s m
  heard_after = rebuilt s (set_of (drop 5 m)) e (heard_kept known s m)

  pub heard_told : {k : ℕ} → k ≡ kind_at m → reply_said k t ≡ (message_reply (kind_at m) (message_call known s m)).answer
  heard_told f = ap₂ reply_said f e

  pub reply_by : {k : ℕ} {w : What} {x : Station} → k ≡ kind_at m → w ≡ reply_said k t → x ≡ (after_turn s t (set_of (drop 5 m))).station
      → record { station = x; answer = w } ≡ message_reply (kind_at m) (message_call known s m)
  reply_by f g h =
      ap₂ (λ (x : Station) (w : What). record { station = x; answer = w }) (h ∙ ap (λ (o : Outcome). o.station) heard_after) (g ∙ heard_told f)

-- ---- the set that a turn leaves

-- of bytes that are fewer than five, none
pub no_set : (m : List ℕ) → length m < 5 → replicate 40 0 ≡ set_of (drop 5 m)
no_set m h = ap set_of (sym (drop_of_length-le m {i = 5} (omega arith)))

-- where no instructions came, whatever the new one would be; where as many are left, the set stays
module _ (s : Station) (t : Turn) where
  pub whichever_set : (x y : List ℕ) → t.count ≤ s.count → after_turn s t x ≡ after_turn s t y
  unfolding kept_set
  whichever_set x y h = rw (le-ltb s.count t.count h)

  pub set_stays : (x : List ℕ) → t.count ≡ s.count
      → record { bits = t.bits; count = s.count; answered = t.answered; set = s.set; next = t.next; apart = t.apart } ≡ (after_turn s t x).station
  unfolding kept_set
  set_stays x e = rw (e, le-ltb s.count s.count (omega arith))

-- ---- a request of no instruction

module _ (s : Station) where
  pub none_beside : 0 < s.count → refused s SetOutstanding ≡ requested s 0 (replicate 40 0)
  unfolding requested
  none_beside h = rw (lt-ltb 0 s.count h)

  pub none_asked : s.count ≤ 0 → refused s EmptySet ≡ requested s 0 (replicate 40 0)
  unfolding requested
  none_asked h = rw (le-ltb 0 s.count h)

-- ---- in a run

-- the station that a message leaves, and what it is told, are the reply to it
module _ (s : Station) (bytes : List ℕ) {known : Bool} (f : known ≡ fit s) (n : ℕ) (e : frame_of bytes ≡ Whole n) {t : Turn} {k : ℕ}
    (h : t ≡ turn_of (message_call known s (take n bytes))) (q : k ≡ kind_at (take n bytes)) where
  reply : {x : Station} → x ≡ (message_call known s (take n bytes)).station → record { station = x; answer = reply_said k t } ≡ respond s bytes
  reply g =
      ap₂ (λ (x : Station) (w : What). record { station = x; answer = w }) g (heard_told known s (take n bytes) h q)
      ∙ sym (respond_whole known s bytes n e)
      ∙ known_reply s bytes f

  pub reply_new : {x : Station} → x ≡ (after_turn s t (set_of (drop 5 (take n bytes)))).station → record { station = x; answer = reply_said k t } ≡ respond s bytes
  reply_new g = reply (g ∙ ap (λ (o : Outcome). o.station) (heard_after known s (take n bytes) h))

  pub reply_same : t.count ≡ s.count
      → record { station = record { bits = t.bits; count = s.count; answered = t.answered; set = s.set; next = t.next; apart = t.apart }; answer = reply_said k t }
      ≡ respond s bytes
  reply_same c = reply_new (set_stays s t (set_of (drop 5 (take n bytes))) c)
