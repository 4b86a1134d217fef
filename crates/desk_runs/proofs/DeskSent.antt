-- What the station inside a desk is sent makes it. Assumes nothing.
use mathlib.Core.Path.{◌≡◌, refl, sym, ap, ap₂, subst, ◌∙◌}
use mathlib.Core.Logic.{◌⊎◌, inl, inr, ⊎_elim}
use mathlib.Core.Bool.{Bool, true, false}
use mathlib.Core.List.{List, [], ◌∷◌, ◌++◌, append-nil}
use Prim.Native.Nat.{ℕ, zero, suc, ◌+◌, ◌*◌, ◌-◌, ◌^◌, ◌%◌, ◌≤◌, ◌<◌}
use native.Mathlib.Omega.{arith}
use borrow.Author.Tests.{eq-eqb, ne_eqb, eqb-true, leb-true, leb-false, ltb-true, ltb-false, le-leb, lt-leb, le-ltb}
use lib.Dec.{eqb, ltb, leb}
use lib.ListN.{length, get_or, take, drop}
use lib.Seq.{take-length, get_or-drop}
use Rattle.bits.specs.Search.{least}
use Rattle.bits.proofs.Cases.{split, clash, both}
use Rattle.codec.specs.Bytes.{Bytes, from_little_endian, little_endian}
use Rattle.codec.specs.Fours.{four_at}
use Rattle.codec.proofs.Numbers.{number_back}
use Rattle.answers.specs.declared.Answer.{Answer}
use Rattle.answers.specs.declared.Answer.TheVariants.{BadLength, BadField, UnknownKind}
use Rattle.answers.specs.Answers.{number_of, nowhere}
use Rattle.station.specs.declared.Station.{Station}
use Rattle.station.specs.Calls as calls
use Rattle.wire.specs.declared.What.{What}
use Rattle.wire.specs.declared.What.TheVariants.{Event, Image}
use Rattle.wire.specs.declared.Frame.{Frame}
use Rattle.wire.specs.declared.Frame.TheVariants.{Cut, Wrong, Whole}
use Rattle.wire.specs.Kinds.{kinds_asked, result_kind, image_kind, ask_kind, in_range, plain}
use Rattle.wire.specs.Reads.{frame_of, kind_at, sized, message_refused, bad_in, read_request, read_whole, read_asked}
use Rattle.wire.specs.Writes.{message_bytes}
use Rattle.wire.proofs.Parts.{from_on}
use Rattle.service.specs.Service.{respond}
use Rattle.journal.specs.Journal.{station_after_messages, Follows}
use Rattle.desk.specs.declared.Desk.{Desk}
use Rattle.desk.specs.Desk.{desk_fit, reply_place, reply_issue}
use Rattle.desk.specs.Lines.{listed_cars, outstanding}
use Rattle.desk_laws.specs.Runs as run
use Rattle.desk_laws.specs.Runs.{DeskCall, call_desk, desk_answer_number, itself, under}
use Rattle.station_laws.specs.Runs as stationRun
use Rattle.desk_laws.proofs.Calls.{its_own}
use Rattle.desk_wire.specs.Shapes.{Shape, shaped_size, fields_in, entries_in}
use Rattle.desk_wire.specs.DeskKinds.{shapes_asked, begin_kind, cards_kind}
use Rattle.desk_wire.specs.DeskReads.{DeskReceived, frame_up_to, as_received, read_shape, read_shaped, read_shaped_in, read_desk_asked}
use Rattle.desk_wire.proofs.Framing.{whole_up, framed_up, cut_up}
use Rattle.desk_service.specs.declared.DeskTold.{DeskTold}
use Rattle.desk_service.specs.declared.DeskTold.TheVariants as told
use Rattle.desk_service.specs.DeskService.{DeskSaid, briefly, in_lines, in_set, DeskReplied, brief, answer_told, desk_unread, desk_called, own_said, reply_read, respond_desk, brief_bytes, told_bytes}
use Rattle.desk_service.specs.Private.{cards_read}
use Rattle.desk_service.proofs.Saying.{begin_short, begin_zero, begin_card, image_short, image_none, image_many, image_cards}
use Rattle.desk_buffer.proofs.Serving.{form_same, form_begin, form_image, form_none}
use Rattle.desk_buffer.specs.DeskServing.{number_in, held_back, begin_form, image_form, station_form, passed_on, desk_step_at, desk_step, desk_run_of}
use Rattle.desk_runs.specs.DeskRuns.{ToldItself}
use Rattle.desk_runs.specs.DeskSent.{DeskSends}
use Rattle.desk_runs.specs.DeskHeard.{DeskHeard, makes, seeks, parts, lists, opens, compares, refuses, desk_heard, call_told, desk_reply_to}
use Rattle.desk_runs.proofs.DeskRuns.{desk_message_is_call, number_told, fit_keeps, compare_keeps, reply_keeps}
use Rattle.desk_runs.proofs.DeskStays.{step_fit}
use Rattle.desk_runs.proofs.SameMeaning.{station_means_same}

-- ---- what an answer's bytes say

-- the answer is one with which a message is kept from the station
abbrev Kept : DeskSaid → Bool
Kept t = held_back (number_in (told_bytes t))

own_kept : (n p i : ℕ) → 37 ≤ n → n ≤ 39 → Kept (briefly (told.Answer n p i)) ≡ true
own_kept n p i low high =
    let e : n % 256 ≡ n = omega arith in
    rw (e, le-leb 1 n (omega arith), lt-leb n 5 (omega arith), le-leb 37 n low, le-leb n 39 high)

itself_kept : (t : DeskSaid) → ToldItself t → Kept t ≡ true
itself_kept (briefly (told.Answer n p i)) h = own_kept n p i h.0 h.1
itself_kept (briefly (told.Held bits apart)) h = absurd h
itself_kept (briefly (told.Place place flag next)) h = absurd h
itself_kept (briefly (told.Card card)) h = absurd h
itself_kept (in_lines kind xs) h = absurd h
itself_kept (in_set o) h = absurd h

-- what has no number is not kept
sent_on : (t : DeskTold) → number_told (briefly t) ≡ 0 → Kept (briefly t) ≡ false
sent_on (told.Answer n p i) z = ap (λ (x : ℕ). Kept (briefly (told.Answer x p i))) z
sent_on (told.Held bits apart) z = refl
sent_on (told.Place place flag next) z = refl
sent_on (told.Card card) z = refl

-- where a message is kept from the station the desk is as it was
heard_same : (d : Desk) (h : DeskHeard) → Kept (desk_reply_to d h).told ≡ true → (desk_reply_to d h).desk ≡ d
heard_same d (makes c) k = reply_keeps d (makes c) (λ z. clash k (sent_on (call_told d c) z))
heard_same d (seeks c) k = refl
heard_same d parts k = refl
heard_same d lists k = fit_keeps d (in_lines 138 (listed_cars d))
heard_same d opens k = fit_keeps d (in_set (outstanding d))
heard_same d (compares p n ns) k = compare_keeps d p n ns
heard_same d (refuses a) k = refl

kept_same : (d : Desk) (m : List ℕ) → Kept (respond_desk d m).told ≡ true → (respond_desk d m).desk ≡ d
kept_same d m k =
    let e = desk_message_is_call d m in
    ap (λ (r : DeskReplied). r.desk) e ∙ heard_same d (desk_heard m) (subst (λ (r : DeskReplied). Kept r.told ≡ true) e k)

-- ---- what the station's reader says of a message: it is short and taken, or kept from the station

abbrev Reads : List ℕ → Answer → Type 0
Reads m a = ((number_of a ≡ 0) × (length m ≤ 45)) ⊎ ((eqb (number_of a) 0 ≡ false) × (Kept (briefly (answer_told a)) ≡ true))

sized_reads : (m : List ℕ) (n : ℕ) (w : What) → n ≤ 45 → Reads m (sized m n w).answer
sized_reads m n w h =
    split (eqb (length m) n)
    (λ t. split (in_range w) (λ u. rw (t, u) (inl (refl, (let e = eqb-true (length m) n t in omega arith)))) (λ u. rw (t, u) (inr (refl, refl))))
    (λ t. rw t (inr (refl, refl)))

request_reads : (m : List ℕ) → Reads m (read_request m).answer
unfolding read_request
request_reads m =
    let count = get_or m 4 0 in
    let bad = least count (bad_in (drop 5 m)) in
    split (ltb (length m) 5) (λ t. rw t (inr (refl, refl)))
    (λ t. split (ltb 8 count) (λ u. rw (t, u) (inr (refl, refl)))
    (λ u. split (eqb (length m) (5 + 5 * count))
    (λ v. split (ltb bad count) (λ x. rw (t, u, v, x) (inr (refl, refl)))
    (λ x. rw (t, u, v, x) (inl (refl, (let a = eqb-true (length m) (5 + 5 * count) v in let b = ltb-false 8 count u in omega arith)))))
    (λ v. rw (t, u, v) (inr (refl, refl)))))

whole_reads : (m : List ℕ) → Reads m (read_whole kinds_asked m).answer
unfolding read_whole
whole_reads m =
    split (eqb (kind_at m) 1) (λ t. rw t (request_reads m))
    (λ t. split (eqb (kind_at m) 2) (λ u. rw (t, u) (sized_reads m 5 (Event (get_or m 4 0)) (omega arith)))
    (λ u. split (eqb (kind_at m) 3) (λ v. rw (t, u, v) (sized_reads m 8 (result_kind.says m) (omega arith)))
    (λ v. split (eqb (kind_at m) 4) (λ x. rw (t, u, v, x) (sized_reads m 20 (image_kind.says m) (omega arith)))
    (λ x. split (eqb (kind_at m) 5) (λ y. rw (t, u, v, x, y) (sized_reads m 4 (ask_kind.says m) (omega arith))) (λ y. rw (t, u, v, x, y) (inr (refl, refl)))))))

-- ---- the station's messages that stand for the desk's

event_sent : (s : Station) → (respond s (message_bytes (plain (Event 1)))).station ≡ (calls.event s 1).station
unfolding respond read_asked read_whole
event_sent s = refl

image_sent : (s : Station) (bits apart : ℕ) → bits < 2 ^ 64 → apart < 2 ^ 64
    → (respond s (message_bytes (plain (Image bits apart)))).station ≡ (calls.take_image s (record { bits = bits; apart = apart })).station
unfolding respond read_asked read_whole
image_sent s bits apart b a =
    ap₂ (λ (x y : ℕ). (calls.take_image s (record { bits = x; apart = y })).station) (number_back 8 bits (little_endian 8 apart) b) (number_back 8 apart [] a)

eight_below : (s : List ℕ) (i : ℕ) → Bytes s → from_little_endian 8 i s < 2 ^ 64
eight_below s i h =
    let a = h i in
    let b = h (suc i) in
    let c = h (suc (suc i)) in
    let d = h (suc (suc (suc i))) in
    let e = h (suc (suc (suc (suc i)))) in
    let f = h (suc (suc (suc (suc (suc i))))) in
    let g = h (suc (suc (suc (suc (suc (suc i)))))) in
    let k = h (suc (suc (suc (suc (suc (suc (suc i))))))) in
    omega arith

bytes_drop : (n : ℕ) (s : List ℕ) → Bytes s → Bytes (drop n s)
bytes_drop n s h i = subst (λ (x : ℕ). x < 256) (sym (get_or-drop n s i 0)) (h (n + i))

bytes_take : (n : ℕ) (s : List ℕ) → Bytes s → Bytes (take n s)
bytes_take zero s h i = omega arith
bytes_take (suc n) [] h i = omega arith
bytes_take (suc n) (x ∷ s) h zero = h 0
bytes_take (suc n) (x ∷ s) h (suc i) = bytes_take n s (λ j. h (suc j)) i

-- above 5, and neither 6 nor 7
eight : (n : ℕ) → 5 < n → (n ≡ 6 → ⊥) → (n ≡ 7 → ⊥) → 8 ≤ n
eight n h a b =
    split (leb 8 n) (λ t. leb-true 8 n t)
    (λ t. let l = leb-false 8 n t in
    split (leb n 6) (λ u. let k = leb-true n 6 u in absurd (a (omega arith))) (λ u. let k = leb-false n 6 u in absurd (b (omega arith))))

-- no kind of the station's
unknown : (m : List ℕ) → 6 ≤ kind_at m → read_whole kinds_asked m ≡ message_refused UnknownKind (length m)
unfolding read_whole
unknown m k =
    rw (ne_eqb (kind_at m) 1 (λ e. omega arith), ne_eqb (kind_at m) 2 (λ e. omega arith), ne_eqb (kind_at m) 3 (λ e. omega arith), ne_eqb (kind_at m) 4 (λ e. omega arith), ne_eqb (kind_at m) 5 (λ e. omega arith))

-- ---- a question, or no kind of a desk's, changes nothing

own_question : (kind : ℕ) (ns : List ℕ) (xs : List (List ℕ)) (d : Desk) → 8 ≤ kind → (own_said kind ns xs d).desk ≡ d
own_question kind ns xs d h =
    let t6 = ne_eqb kind 6 (λ e. omega arith) in
    let t7 = ne_eqb kind 7 (λ e. omega arith) in
    split (eqb kind 8) (λ t. rw (t6, t7, t))
    (λ t8. split (eqb kind 9) (λ t. rw (t6, t7, t8, t))
    (λ t9. split (eqb kind 10) (λ t. rw (t6, t7, t8, t9, t) (fit_keeps d (in_lines 138 (listed_cars d))))
    (λ t10. split (eqb kind 11) (λ t. rw (t6, t7, t8, t9, t10, t) (fit_keeps d (in_set (outstanding d))))
    (λ t11. split (eqb kind 12) (λ t. rw (t6, t7, t8, t9, t10, t11, t) (compare_keeps d _ _ _)) (λ t. rw (t6, t7, t8, t9, t10, t11, t))))))

module _ (d : Desk) (m : List ℕ) where
  shape_same : (k : Shape) → 8 ≤ k.number → (reply_read d (read_shape k m)).desk ≡ d
  unfolding read_shape
  shape_same k h =
      let body = drop 4 m in
      split (eqb (length body) (shaped_size k body))
      (λ t. split (k.ranged (fields_in k body) (entries_in k body)) (λ u. rw (t, u) (own_question k.number (fields_in k body) (entries_in k body) d h)) (λ u. rw (t, u)))
      (λ t. rw t)

  among_same : (shapes : List Shape) → 8 ≤ kind_at m → (reply_read d (read_shaped kinds_asked shapes m)).desk ≡ d
  among_same [] h = rw (unknown m (omega arith))
  among_same (k ∷ shapes) h =
      split (eqb (kind_at m) k.number)
      (λ t. let e = eqb-true (kind_at m) k.number t in rw t (shape_same k (omega arith)))
      (λ t. rw t (among_same shapes h))

-- ---- one message

-- nothing is sent and the station is as it was; or a whole message, and the station is the one after it
abbrev Sends : Station → List ℕ → Station → Type 0
Sends s p next = ((p ≡ []) × (next ≡ s)) ⊎ ((frame_of p ≡ Whole (length p)) × (next ≡ (respond s p).station))

module _ (d : Desk) (m : List ℕ) (f : desk_fit d ≡ true) (w : frame_up_to 143 m ≡ Whole (length m)) where
  exact : read_desk_asked m ≡ read_shaped kinds_asked shapes_asked m
  unfolding read_desk_asked
  exact = ap (λ (x : Frame). read_shaped_in kinds_asked shapes_asked x m) w ∙ ap (read_shaped kinds_asked shapes_asked) (take-length m)

  as_read : {r : DeskReceived} → read_shaped kinds_asked shapes_asked m ≡ r → respond_desk d m ≡ reply_read d r
  unfolding respond_desk
  as_read e = ap (reply_read d) (exact ∙ e)

  -- a refusal in reading is kept
  unread_kept : (a : Answer) → respond_desk d m ≡ brief (desk_unread d a) → Kept (briefly (answer_told a)) ≡ true → Kept (respond_desk d m).told ≡ true
  unread_kept a e h = subst (λ (r : DeskReplied). Kept r.told ≡ true) (sym e) h

  no_shape : kind_at m ≤ 5 → read_shaped kinds_asked shapes_asked m ≡ as_received (read_whole kinds_asked m)
  no_shape k =
      let else : (n : ℕ) → 5 < n → eqb (kind_at m) n ≡ false = λ n h. ne_eqb (kind_at m) n (λ e. omega arith) in
      rw (else 6 (omega arith), else 7 (omega arith), else 8 (omega arith), else 9 (omega arith), else 10 (omega arith), else 11 (omega arith), else 12 (omega arith))

  -- one of the station's
  of_station : kind_at m ≤ 5 → Kept (respond_desk d m).told ≡ false → Sends d.station m (respond_desk d m).desk.station
  of_station k h =
      let r = as_read (no_shape k) in
      let g = whole_up 143 m (length m) w in
      let l = g.long in
      let low = g.low in
      ⊎_elim
      (λ p. let short = p.1 in
      ⊎_elim
      (λ e. inr (framed_up 43 m (length m) (record { long = l; low = low; high = short; within = omega arith }), e))
      (λ q. clash (itself_kept (respond_desk d m).told q.0) h)
      (station_means_same d m f (omega arith) k))
      (λ p. clash (unread_kept (read_whole kinds_asked m).answer (r ∙ rw p.0) p.1) h)
      (whole_reads m)

  -- a call with a card
  by_call : (c : DeskCall) (p : List ℕ) → respond_desk d m ≡ brief (desk_called (call_desk d c)) → Kept (respond_desk d m).told ≡ false
      → frame_of p ≡ Whole (length p) → (respond d.station p).station ≡ stationRun.station_after d.station (under c)
      → Sends d.station p (respond_desk d m).desk.station
  by_call c p e h whole same =
      ⊎_elim
      (λ q. inr (whole, ap (λ (r : DeskReplied). r.desk.station) e ∙ q.1 ∙ sym same))
      (λ q. let t = both (leb 37 (desk_answer_number d c)) (leb (desk_answer_number d c) 39) q.0 in
      clash (subst (λ (r : DeskReplied). Kept r.told ≡ true) (sym e)
      (own_kept (desk_answer_number d c) (reply_place (call_desk d c).reply) (reply_issue (call_desk d c).reply) (leb-true _ _ t.0) (leb-true _ _ t.1))) h)
      (its_own d c f)

  -- a drive-in begins with a card
  of_begin : kind_at m ≡ 6 → Kept (respond_desk d m).told ≡ false → Sends d.station (begin_form m) (respond_desk d m).desk.station
  of_begin k h =
      let r : respond_desk d m ≡ reply_read d (read_shape begin_kind m) = as_read {r = read_shape begin_kind m} (rw (eq-eqb (kind_at m) 6 k)) in
      split (eqb (length m) 8)
      (λ t. let l = eqb-true (length m) 8 t in
      split (eqb (four_at 4 m) 0)
      (λ z. clash (unread_kept (BadField nowhere) (r ∙ sym (begin_zero d m l refl (eqb-true (four_at 4 m) 0 z))) refl) h)
      (λ z. rw (le-ltb (length m) 8 (omega arith))
      (by_call (run.event 1 (four_at 4 m)) (message_bytes (plain (Event 1))) (r ∙ sym (begin_card d m l refl (λ e. clash (eq-eqb (four_at 4 m) 0 e) z))) h refl
      (event_sent d.station))))
      (λ t. clash (unread_kept BadLength (r ∙ sym (begin_short d m (λ e. clash (eq-eqb (length m) 8 e) t))) refl) h)

  -- an image with cards
  of_image : Bytes m → kind_at m ≡ 7 → Kept (respond_desk d m).told ≡ false → Sends d.station (image_form m) (respond_desk d m).desk.station
  of_image b k h =
      let r : respond_desk d m ≡ reply_read d (read_shape cards_kind m) = as_read {r = read_shape cards_kind m} (rw (ne_eqb (kind_at m) 6 (λ e. omega arith), eq-eqb (kind_at m) 7 k)) in
      let n = get_or m 20 0 in
      split (eqb (length m) (21 + 4 * n))
      (λ t. let l = eqb-true (length m) (21 + 4 * n) t in
      split (ltb n 1) (λ u. clash (unread_kept (BadField nowhere) (r ∙ sym (image_none d m l (ltb-true n 1 u))) refl) h)
      (λ u. split (ltb 31 n) (λ v. clash (unread_kept (BadField nowhere) (r ∙ sym (image_many d m l (ltb-true 31 n v))) refl) h)
      (λ v.
      let bits = from_little_endian 8 0 (drop 4 m) in
      let apart = from_little_endian 8 0 (drop 12 m) in
      let given = cards_read (take (length m - 21) (drop 21 m)) in
      rw (le-ltb (length m) 20 (omega arith))
      (by_call (run.pictures (record { bits = bits; apart = apart }) n given) (message_bytes (plain (Image bits apart)))
      (r ∙ sym (image_cards d m l (ap (from_little_endian 8 0) (sym (from_on m 4))) (ap (from_little_endian 8 0) (sym (from_on m 12))) refl (ltb-false n 1 u) (ltb-false 31 n v))) h refl
      (image_sent d.station bits apart (eight_below (drop 4 m) 0 (bytes_drop 4 m b)) (eight_below (drop 12 m) 0 (bytes_drop 12 m b)))))))
      (λ t. clash (unread_kept BadLength (r ∙ sym (image_short d m (λ e. clash (eq-eqb (length m) (21 + 4 * n) e) t))) refl) h)

  -- a question, or no kind of a desk's
  of_other : 8 ≤ kind_at m → (respond_desk d m).desk ≡ d
  of_other k = ap (λ (r : DeskReplied). r.desk) (as_read refl) ∙ among_same d m shapes_asked k

  form_sends : Bytes m → Kept (respond_desk d m).told ≡ false → Sends d.station (station_form m) (respond_desk d m).desk.station
  form_sends b h =
      split (leb (kind_at m) 5)
      (λ t. let k = leb-true (kind_at m) 5 t in rw (form_same m refl k) (of_station k h))
      (λ t. let k = leb-false (kind_at m) 5 t in
      split (eqb (kind_at m) 6)
      (λ u. let e = eqb-true (kind_at m) 6 u in rw (form_begin m refl k e) (of_begin e h))
      (λ u. let x : (kind_at m ≡ 6 → ⊥) = λ e. clash (eq-eqb (kind_at m) 6 e) u in
      split (eqb (kind_at m) 7)
      (λ v. let e = eqb-true (kind_at m) 7 v in rw (form_image m refl k x e) (of_image b e h))
      (λ v. let y : (kind_at m ≡ 7 → ⊥) = λ e. clash (eq-eqb (kind_at m) 7 e) v in
      rw (form_none m refl k x y) (inl (refl, ap (λ (z : Desk). z.station) (of_other (eight (kind_at m) k x y)))))))

  message_sends : Bytes m → Sends d.station (passed_on (told_bytes (respond_desk d m).told) m) (respond_desk d m).desk.station
  message_sends b =
      split (Kept (respond_desk d m).told)
      (λ t. rw t (inl (refl, ap (λ (x : Desk). x.station) (kept_same d m t))))
      (λ t. rw t (form_sends b t))

-- ---- a run

follow : {s mid next : Station} (p rest : List ℕ) → Sends s p mid → Follows mid rest next → Follows s (p ++ rest) next
follow p rest h g =
    ⊎_elim
    (λ q. record { messages = g.messages; each = g.each; bytes_are = ap (λ (x : List ℕ). x ++ rest) q.0 ∙ g.bytes_are; station = g.station ∙ ap (λ (x : Station). station_after_messages x g.messages) q.1 })
    (λ q. record { messages = p ∷ g.messages; each = (q.0, g.each); bytes_are = ap (λ (x : List ℕ). p ++ x) g.bytes_are; station = g.station ∙ ap (λ (x : Station). station_after_messages x g.messages) q.1 })
    h

stays : (s : Station) → Follows s [] s
stays s = record { messages = []; each = tt; bytes_are = refl; station = refl }

step_sends : (x : Frame) (room : ℕ) (d : Desk) (s : List ℕ) → frame_up_to 143 s ≡ x → desk_fit d ≡ true → Bytes s
    → Sends d.station (desk_step_at x room d s).sent (desk_step_at x room d s).desk.station
step_sends Cut room d s e f b = inl (refl, refl)
step_sends Wrong room d s e f b = split (ltb room (length (brief_bytes (answer_told BadLength)))) (λ t. rw t (inl (refl, refl))) (λ t. rw t (inl (refl, refl)))
step_sends (Whole n) room d s e f b =
    let g = whole_up 143 s n e in
    let c = cut_up 143 s n g in
    let size = c.size in
    let low = g.low in
    let high = g.high in
    let w = framed_up 143 (take n s) (length (take n s)) (record { long = sym c.long; low = omega arith; high = omega arith; within = omega arith }) in
    split (ltb room (length (told_bytes (respond_desk d (take n s)).told))) (λ t. rw t (inl (refl, refl)))
    (λ t. rw t (message_sends d (take n s) f w (bytes_take n s b)))

run_sends : (k room : ℕ) (d : Desk) (s : List ℕ) → desk_fit d ≡ true → Bytes s
    → Follows d.station (desk_run_of k room d s).sent (desk_run_of k room d s).desk.station
unfolding desk_run_of desk_step
run_sends zero room d s f b = stays d.station
run_sends (suc k) room d s f b =
    let a = desk_step room d s in
    let h = step_sends (frame_up_to 143 s) room d s refl f b in
    split a.on
    (λ t. rw t (follow a.sent (desk_run_of k (room - length a.bytes) a.desk (drop a.used s)).sent h
    (run_sends k (room - length a.bytes) a.desk (drop a.used s) (step_fit (frame_up_to 143 s) room d s f) (bytes_drop a.used s b))))
    (λ t. rw t (subst (λ (x : List ℕ). Follows d.station x a.desk.station) (append-nil a.sent) (follow a.sent [] h (stays a.desk.station))))

pub desk_sends : DeskSends
desk_sends room d input f b = run_sends (length input) room d input f b
