-- The reply to what was read from exactly a message's bytes, by its kind. Assumes nothing.
use mathlib.Core.Path.{◌≡◌, refl, sym, ◌∙◌, ap, ap₂, subst}
use mathlib.Core.Bool.{Bool, true, false, cond, not, ◌&&◌}
use mathlib.Core.List.{List, [], ◌∷◌}
use Prim.Native.Nat.{ℕ, suc, ◌+◌, ◌*◌, ◌-◌, ◌≤◌, ◌<◌}
use native.Mathlib.Omega.{arith}
use borrow.Author.Tests.{eq-eqb, ne_eqb, le-leb, lt-leb, eqb-true}
use lib.Dec.{eqb, ltb, leb}
use lib.ListN.{length, get_or, take, drop, length-drop, replicate}
use lib.Seq.{take_all, get_or-drop, drop-drop}
use Rattle.bits.specs.Search.{least}
use Rattle.codec.specs.Bytes.{from_little_endian}
use Rattle.codec.specs.Fours.{four_at}
use Rattle.codec.proofs.Fours.{four_there}
use Rattle.codec.proofs.Numbers.{read_from}
use Rattle.answers.specs.declared.Answer.{Answer}
use Rattle.answers.specs.declared.Answer.TheVariants.{TooFewBytes, BadLength, BadField, TooMany}
use Rattle.answers.specs.Answers.{number_of, nowhere}
use Rattle.wire.specs.declared.What.{What}
use Rattle.wire.specs.declared.What.TheVariants.{Request}
use Rattle.wire.specs.declared.Message.{Message}
use Rattle.wire.specs.Reads.{Received}
use Rattle.wire.specs.declared.Parsed.{Parsed}
use Rattle.std.specs.declared.result.Result as kept
use Rattle.std.specs.declared.result.Result.TheVariants.{Ok, Err}
use Rattle.wire.proofs.Reading.{parsed_ok, parsed_err, said_ok, said_err}
use Rattle.wire.specs.declared.Frame.{Frame}
use Rattle.wire.specs.declared.Frame.TheVariants.{Cut, Wrong, Whole}
use Rattle.wire.specs.Kinds.{SizedKind, kinds_asked, in_range, plain}
use Rattle.wire.specs.Reads.{kind_at, message_refused, bad_in, read_request, read_among, read_whole, as_parsed, said_in}
use Rattle.desk.specs.declared.Desk.{Desk}
use Rattle.desk.specs.Calls.{desk_request, desk_event, desk_take_image, desk_ask}
use Rattle.desk.specs.declared.DeskOutcome.{DeskOutcome}
use Rattle.desk.specs.Desk.{reply_number}
use Rattle.desk.specs.Questions.{whereabouts, leaving}
use Rattle.desk.specs.Lines.{listed_cars, outstanding}
use Rattle.desk_wire.specs.Shapes.{Shape, shaped_size, fields_in, entries_in, read_each}
use Rattle.desk_wire.specs.DeskKinds.{begin_kind, cards_kind, where_kind, leaving_kind, list_kind, open_kind, compare_kind, shapes_asked}
use Rattle.desk_wire.specs.DeskReads.{as_received, frame_up_to, read_shape, read_shaped, read_shaped_in, read_desk_asked}
use Rattle.desk_wire.proofs.Laying.{each_many}
use Rattle.wire.specs.Writes.{LeavesMessage, put}
use Rattle.desk_service.specs.declared.DeskReply.{DeskReply}
use Rattle.desk_service.specs.declared.DeskAnswered.{DeskAnswered}
use Rattle.desk_service.specs.DeskService.{DeskSaid, in_lines, in_set, DeskReplied, brief, fit_said, compare_said, told_bytes, LeavesReply, desk_unread, desk_called, where_told, leaving_told, cards_brought, station_said, own_said, reply_read, respond_desk}
use Rattle.desk_service.specs.Private.{cards_read}
use Rattle.desk_service.proofs.Cards.{cards_same}

-- ---- by a shape

module _ (k : Shape) (d : Desk) (m : List ℕ) where
  abbrev body : List ℕ
  body = drop 4 m

  shape_taken : eqb (length body) (shaped_size k body) ≡ true → k.ranged (fields_in k body) (entries_in k body) ≡ true
      → reply_read d (read_shape k m) ≡ own_said k.number (fields_in k body) (entries_in k body) d
  unfolding read_shape
  shape_taken a b = rw (a, b)

  shape_bad : eqb (length body) (shaped_size k body) ≡ true → k.ranged (fields_in k body) (entries_in k body) ≡ false
      → reply_read d (read_shape k m) ≡ brief (desk_unread d (BadField nowhere))
  unfolding read_shape
  shape_bad a b = rw (a, b)

  shape_short : eqb (length body) (shaped_size k body) ≡ false → reply_read d (read_shape k m) ≡ brief (desk_unread d BadLength)
  unfolding read_shape
  shape_short a = rw a

-- ---- a card of four bytes, or nothing

module _ (m : List ℕ) where
  four_long : length m ≡ 8 → eqb (length (drop 4 m)) 4 ≡ true
  four_long l = let s : length (drop 4 m) ≡ 4 = length-drop 4 m ∙ omega arith in eq-eqb (length (drop 4 m)) 4 s

  four_else : (length m ≡ 8 → ⊥) → eqb (length (drop 4 m)) 4 ≡ false
  four_else l = let s = length-drop 4 m in ne_eqb (length (drop 4 m)) 4 (λ e. let q : length m - 4 ≡ 4 = sym s ∙ e in l (omega arith))

  four_read_at : length m ≡ 8 → four_at 4 m ≡ from_little_endian 4 0 (drop 4 m)
  four_read_at l = four_there 4 m (omega arith) ∙ read_from 4 4 m (omega arith)

module _ (d : Desk) (m : List ℕ) where
  pub begin_short : (length m ≡ 8 → ⊥) → brief (desk_unread d BadLength) ≡ reply_read d (read_shape begin_kind m)
  begin_short l = sym (shape_short begin_kind d m (four_else m l))

  pub begin_zero : {v : ℕ} → length m ≡ 8 → v ≡ four_at 4 m → v ≡ 0 → brief (desk_unread d (BadField nowhere)) ≡ reply_read d (read_shape begin_kind m)
  begin_zero l e z =
      let q : from_little_endian 4 0 (drop 4 m) ≡ 0 = sym (four_read_at m l) ∙ sym e ∙ z in
      sym (shape_bad begin_kind d m (four_long m l) (ap (λ (x : ℕ). not (eqb x 0)) q))

  pub begin_card : {v : ℕ} → length m ≡ 8 → v ≡ four_at 4 m → (v ≡ 0 → ⊥) → brief (desk_called (desk_event d 1 v)) ≡ reply_read d (read_shape begin_kind m)
  begin_card l e z =
      let q = e ∙ four_read_at m l in
      let nonzero = ne_eqb (from_little_endian 4 0 (drop 4 m)) 0 (λ w. z (q ∙ w)) in
      ap (λ (x : ℕ). brief (desk_called (desk_event d 1 x))) q
      ∙ sym (shape_taken begin_kind d m (four_long m l) (ap not nonzero))

  pub seek_short : (length m ≡ 8 → ⊥) → brief (desk_unread d BadLength) ≡ reply_read d (read_shape where_kind m)
  seek_short l = sym (shape_short where_kind d m (four_else m l))

  pub seek_told : {v : ℕ} → length m ≡ 8 → v ≡ four_at 4 m
      → brief (record { desk = d; told = where_told (whereabouts d v) }) ≡ reply_read d (read_shape where_kind m)
  seek_told l e =
      ap (λ (x : ℕ). brief (record { desk = d; told = where_told (whereabouts d x) })) (e ∙ four_read_at m l)
      ∙ sym (shape_taken where_kind d m (four_long m l) refl)

  -- a kind that has no body
  empty_long : (k : Shape) → 4 < length m → shaped_size k (drop 4 m) ≡ 0 → brief (desk_unread d BadLength) ≡ reply_read d (read_shape k m)
  empty_long k h z =
      let s = length-drop 4 m in
      sym (shape_short k d m (rw z (ne_eqb (length (drop 4 m)) 0 (λ e. let q : length m - 4 ≡ 0 = sym s ∙ e in omega arith))))

  none_behind : length m ≤ 4 → eqb (length (drop 4 m)) 0 ≡ true
  none_behind h = let s : length (drop 4 m) ≡ 0 = length-drop 4 m ∙ omega arith in eq-eqb (length (drop 4 m)) 0 s

  pub leave_long : 4 < length m → brief (desk_unread d BadLength) ≡ reply_read d (read_shape leaving_kind m)
  leave_long h = empty_long leaving_kind h refl

  pub leave_told : length m ≤ 4 → brief (record { desk = d; told = leaving_told (leaving d) }) ≡ reply_read d (read_shape leaving_kind m)
  leave_told h = sym (shape_taken leaving_kind d m (none_behind h) refl)

  pub list_long : 4 < length m → brief (desk_unread d BadLength) ≡ reply_read d (read_shape list_kind m)
  list_long h = empty_long list_kind h refl

  pub list_told : length m ≤ 4 → fit_said d (in_lines 138 (listed_cars d)) ≡ reply_read d (read_shape list_kind m)
  list_told h = sym (shape_taken list_kind d m (none_behind h) refl)

  pub open_long : 4 < length m → brief (desk_unread d BadLength) ≡ reply_read d (read_shape open_kind m)
  open_long h = empty_long open_kind h refl

  pub open_told : length m ≤ 4 → fit_said d (in_set (outstanding d)) ≡ reply_read d (read_shape open_kind m)
  open_told h = sym (shape_taken open_kind d m (none_behind h) refl)

-- ---- an image with cards

module _ (d : Desk) (m : List ℕ) where
  abbrev tail : List ℕ
  tail = drop 16 (drop 4 m)

  -- the bytes from a place on, as code takes them
  abbrev rest : ℕ → List ℕ
  rest n = take (length m - n) (drop n m)

  all_of_rest : (n : ℕ) → rest n ≡ drop n m
  all_of_rest n = let l = length-drop n m in take_all (length m - n) (drop n m) (omega arith)

  count_at : get_or tail 0 0 ≡ get_or m 20 0
  count_at = get_or-drop 16 (drop 4 m) 0 0 ∙ get_or-drop 4 m 16 0

  abbrev entries : List (List ℕ)
  entries = read_each (4 ∷ []) (get_or tail 0 0) (drop 1 tail)

  many : length entries ≡ get_or m 20 0
  many = each_many (4 ∷ []) (get_or tail 0 0) (drop 1 tail) ∙ count_at

  size_right : length m ≡ 21 + 4 * get_or m 20 0 → eqb (length (drop 4 m)) (16 + suc (get_or tail 0 0 * 4)) ≡ true
  size_right l =
      let c = count_at in
      let s : length (drop 4 m) ≡ 16 + suc (get_or tail 0 0 * 4) = length-drop 4 m ∙ omega arith in
      eq-eqb (length (drop 4 m)) (16 + suc (get_or tail 0 0 * 4)) s

  pub image_short : (length m ≡ 21 + 4 * get_or m 20 0 → ⊥) → brief (desk_unread d BadLength) ≡ reply_read d (read_shape cards_kind m)
  image_short l =
      let c = count_at in
      let s = length-drop 4 m in
      sym (shape_short cards_kind d m (ne_eqb (length (drop 4 m)) (16 + suc (get_or tail 0 0 * 4)) (λ e. let q : length m - 4 ≡ 16 + suc (get_or tail 0 0 * 4) = sym s ∙ e in l (omega arith))))

  pub image_none : length m ≡ 21 + 4 * get_or m 20 0 → get_or m 20 0 < 1 → brief (desk_unread d (BadField nowhere)) ≡ reply_read d (read_shape cards_kind m)
  image_none l h =
      let n = many in
      let z : leb 1 (length entries) ≡ false = lt-leb 1 (length entries) (omega arith) in
      sym (shape_bad cards_kind d m (size_right l) (ap (λ (t : Bool). t && leb (length entries) 31) z))

  pub image_many : length m ≡ 21 + 4 * get_or m 20 0 → 31 < get_or m 20 0 → brief (desk_unread d (BadField nowhere)) ≡ reply_read d (read_shape cards_kind m)
  image_many l h =
      let n = many in
      let y : leb 1 (length entries) ≡ true = le-leb 1 (length entries) (omega arith) in
      let z : leb (length entries) 31 ≡ false = lt-leb (length entries) 31 (omega arith) in
      sym (shape_bad cards_kind d m (size_right l) (ap₂ ◌&&◌ y z))

  pub compare_short : (length m ≡ 21 + 4 * get_or m 20 0 → ⊥) → brief (desk_unread d BadLength) ≡ reply_read d (read_shape compare_kind m)
  compare_short l =
      let c = count_at in
      let s = length-drop 4 m in
      sym (shape_short compare_kind d m (ne_eqb (length (drop 4 m)) (16 + suc (get_or tail 0 0 * 4)) (λ e. let q : length m - 4 ≡ 16 + suc (get_or tail 0 0 * 4) = sym s ∙ e in l (omega arith))))

  pub compare_many : length m ≡ 21 + 4 * get_or m 20 0 → 31 < get_or m 20 0 → brief (desk_unread d (BadField nowhere)) ≡ reply_read d (read_shape compare_kind m)
  compare_many l h =
      let n = many in
      let z : leb (length entries) 31 ≡ false = lt-leb (length entries) 31 (omega arith) in
      sym (shape_bad compare_kind d m (size_right l) z)

  -- the parts that code has read are those of the message, whatever is made of them
  module _ {bits apart : ℕ} {given : List ℕ} (l : length m ≡ 21 + 4 * get_or m 20 0)
      (b : bits ≡ from_little_endian 8 0 (rest 4)) (a : apart ≡ from_little_endian 8 0 (rest 12)) (g : given ≡ cards_read (rest 21)) where
    parts_read : (F : ℕ → ℕ → ℕ → List ℕ → DeskReplied)
        → F bits apart (get_or m 20 0) given ≡ F (from_little_endian 8 0 (drop 4 m)) (from_little_endian 8 0 (drop 8 (drop 4 m))) (length entries) (cards_brought entries)
    parts_read F =
        let n = many in
        let past : drop 8 (drop 4 m) ≡ drop 12 m = drop-drop 8 4 m in
        let behind : drop 1 tail ≡ drop 21 m = drop-drop 1 16 (drop 4 m) ∙ drop-drop 17 4 m in
        let long : length (drop 1 tail) ≡ 4 * get_or tail 0 0 = ap length behind ∙ length-drop 21 m ∙ (let c = count_at in omega arith) in
        let cards : given ≡ cards_brought entries = g ∙ ap cards_read (all_of_rest 21 ∙ sym behind) ∙ cards_same (drop 1 tail) (get_or tail 0 0) long in
        ap (λ (x : ℕ). F x apart (get_or m 20 0) given) (b ∙ ap (from_little_endian 8 0) (all_of_rest 4))
        ∙ ap (λ (x : ℕ). F (from_little_endian 8 0 (drop 4 m)) x (get_or m 20 0) given) (a ∙ ap (from_little_endian 8 0) (all_of_rest 12 ∙ sym past))
        ∙ ap₂ (λ (x : ℕ) (y : List ℕ). F (from_little_endian 8 0 (drop 4 m)) (from_little_endian 8 0 (drop 8 (drop 4 m))) x y) (sym n) cards

    pub image_cards : 1 ≤ get_or m 20 0 → get_or m 20 0 ≤ 31
        → brief (desk_called (desk_take_image d (record { bits = bits; apart = apart }) (get_or m 20 0) given)) ≡ reply_read d (read_shape cards_kind m)
    image_cards low high =
        let n = many in
        let y : leb 1 (length entries) ≡ true = le-leb 1 (length entries) (omega arith) in
        let z : leb (length entries) 31 ≡ true = le-leb (length entries) 31 (omega arith) in
        parts_read (λ x y n ns. brief (desk_called (desk_take_image d (record { bits = x; apart = y }) n ns)))
        ∙ sym (shape_taken cards_kind d m (size_right l) (ap₂ ◌&&◌ y z))

    pub image_compared : get_or m 20 0 ≤ 31
        → compare_said d (record { bits = bits; apart = apart }) (get_or m 20 0) given ≡ reply_read d (read_shape compare_kind m)
    image_compared high =
        let n = many in
        let z : leb (length entries) 31 ≡ true = le-leb (length entries) 31 (omega arith) in
        parts_read (λ x y n ns. compare_said d (record { bits = x; apart = y }) n ns)
        ∙ sym (shape_taken compare_kind d m (size_right l) z)

-- ---- the station's

ways : {A : Type 0} (P : A → Type 0) (t : Bool) {x y : A} → P x → P y → P (cond t x y)
ways P true f g = f
ways P false f g = g

-- a request that was taken says so; any other message holds no instruction
record Asks (r : Received) : Type 0 where
  requests : number_of r.answer ≡ 0 → r.message.what ≡ Request

record Plain (r : Received) : Type 0 where
  plainly : r.message ≡ plain r.message.what

refusing : {a : Answer} {n : ℕ} → 0 < number_of a → Asks (message_refused a n)
refusing h = record { requests = λ e. absurd (omega arith) }

request_asks : (m : List ℕ) → Asks (read_request m)
unfolding read_request
request_asks m =
    let count = get_or m 4 0 in
    let bad = least count (bad_in (drop 5 m)) in
    ways Asks (ltb (length m) 5) (refusing {a = BadLength} {n = length m} (omega arith))
    (ways Asks (ltb 8 count) (refusing {a = TooMany} {n = length m} (omega arith))
    (ways Asks (eqb (length m) (5 + 5 * count))
    (ways Asks (ltb bad count) (refusing {a = BadField bad} {n = length m} (omega arith)) (record { requests = λ e. refl }))
    (refusing {a = BadLength} {n = length m} (omega arith))))

among_plain : (ks : List SizedKind) (m : List ℕ) → Plain (read_among ks m)
among_plain [] m = record { plainly = refl }
among_plain (k ∷ ks) m =
    ways Plain (eqb (kind_at m) k.number)
    (ways Plain (eqb (length m) (4 + k.size)) (ways Plain (in_range (k.says m)) (record { plainly = refl }) (record { plainly = refl })) (record { plainly = refl }))
    (among_plain ks m)

module _ (d : Desk) (m : List ℕ) where
  asked_for : kind_at m ≡ 1 → read_whole kinds_asked m ≡ read_request m
  unfolding read_whole
  asked_for k = rw (eq-eqb (kind_at m) 1 k)

  other : (kind_at m ≡ 1 → ⊥) → read_whole kinds_asked m ≡ read_among kinds_asked m
  unfolding read_whole
  other k = rw (ne_eqb (kind_at m) 1 k)

  pub request_refused : {x : Parsed} {a : Answer} → kind_at m ≡ 1 → x ≡ as_parsed (read_request m) → x.says ≡ Err a
      → brief (desk_unread d a) ≡ reply_read d (as_received (read_whole kinds_asked m))
  request_refused k e z =
      let (n, why) = parsed_err (read_request m) e z in
      ap (λ (a : Answer). brief (desk_unread d a)) (sym why)
      ∙ sym (ap (λ (x : Received). reply_read d (as_received x)) (asked_for k) ∙ rw n)

  pub request_taken : {x : Parsed} {y : Message} → kind_at m ≡ 1 → x ≡ as_parsed (read_request m) → x.says ≡ Ok y
      → brief (desk_called (desk_request d y.count y.set)) ≡ reply_read d (as_received (read_whole kinds_asked m))
  request_taken k e z =
      let r = read_request m in
      let (n, all) = parsed_ok r e z in
      let q : r.message.what ≡ Request = (request_asks m).requests (eqb-true (number_of r.answer) 0 n) in
      ap (λ (y : Message). brief (desk_called (desk_request d y.count y.set))) (sym all)
      ∙ sym
      (ap (λ (x : Received). reply_read d (as_received x)) (asked_for k) ∙ rw n
      (ap (λ (w : What). brief (station_said w d r.message.count r.message.set)) q))

  pub said_refused : {x : kept.Result What Answer} {a : Answer} → (kind_at m ≡ 1 → ⊥) → x ≡ said_in (read_among kinds_asked m) → x ≡ Err a
      → brief (desk_unread d a) ≡ reply_read d (as_received (read_whole kinds_asked m))
  said_refused k e z =
      let (n, why) = said_err (read_among kinds_asked m) e z in
      ap (λ (a : Answer). brief (desk_unread d a)) (sym why) ∙ sym (ap (λ (y : Received). reply_read d (as_received y)) (other k) ∙ rw n)

  pub said_taken : {x : kept.Result What Answer} {w : What} → (kind_at m ≡ 1 → ⊥) → x ≡ said_in (read_among kinds_asked m) → x ≡ Ok w
      → brief (station_said w d 0 (replicate 40 0)) ≡ reply_read d (as_received (read_whole kinds_asked m))
  said_taken k e z =
      let (n, what) = said_ok (read_among kinds_asked m) e z in
      ap (λ (w : What). brief (station_said w d 0 (replicate 40 0))) (sym what)
      ∙ sym (ap (λ (y : Received). reply_read d (as_received y)) (other k)
      ∙ rw n (ap (λ (y : Message). brief (station_said y.what d y.count y.set)) (among_plain kinds_asked m).plainly))

-- ---- the first message of some bytes

module _ (d : Desk) (s : List ℕ) where
  pub respond_cut : frame_up_to 143 s ≡ Cut → brief (desk_unread d TooFewBytes) ≡ respond_desk d s
  unfolding respond_desk read_desk_asked
  respond_cut e = sym (ap (λ (f : Frame). reply_read d (read_shaped_in kinds_asked shapes_asked f s)) e)

  pub respond_wrong : frame_up_to 143 s ≡ Wrong → brief (desk_unread d BadLength) ≡ respond_desk d s
  unfolding respond_desk read_desk_asked
  respond_wrong e = sym (ap (λ (f : Frame). reply_read d (read_shaped_in kinds_asked shapes_asked f s)) e)

  pub respond_whole : (n : ℕ) → frame_up_to 143 s ≡ Whole n → reply_read d (read_shaped kinds_asked shapes_asked (take n s)) ≡ respond_desk d s
  unfolding respond_desk read_desk_asked
  respond_whole n e = sym (ap (λ (f : Frame). reply_read d (read_shaped_in kinds_asked shapes_asked f s)) e)

-- ---- replies that are written

-- a reply that is another is left as it
pub as_reply : {a b : DeskReplied} (room : List ℕ) {r : DeskAnswered} {last : List ℕ} → LeavesReply a room r last → a ≡ b → LeavesReply b room r last
as_reply room {r} {last} w e = subst (λ (x : DeskReplied). LeavesReply x room r last) e w

-- so of an answer that a part of the code has found
pub as_brief : {x y : DeskReply} {b : DeskReplied} (room : List ℕ) {r : DeskAnswered} {last : List ℕ} → x ≡ y → brief y ≡ b → LeavesReply (brief x) room r last
    → LeavesReply b room r last
as_brief room e f w = as_reply room w (ap brief e ∙ f)

-- a question of a fit desk, refused or answered
module _ (d : Desk) (x : DeskSaid) (room : List ℕ) {r : DeskAnswered} {last : List ℕ} {o : DeskOutcome} (e : o ≡ desk_ask d) where
  pub fit_refused : (reply_number o.reply ≡ 0 → ⊥) → {y : DeskReply} → y ≡ desk_called o → LeavesReply (brief y) room r last → LeavesReply (fit_said d x) room r last
  fit_refused h f w =
      let t : fit_said d x ≡ brief (desk_called (desk_ask d)) = ap (λ (b : Bool). cond b (record { desk = d; told = x }) (brief (desk_called (desk_ask d)))) (ne_eqb (reply_number (desk_ask d).reply) 0 (rw e at h)) in
      as_reply room w (ap brief (f ∙ ap desk_called e) ∙ sym t)

  pub fit_told : reply_number o.reply ≡ 0 → r.desk ≡ d → LeavesMessage (put (told_bytes x) room) r.written last → LeavesReply (fit_said d x) room r last
  fit_told h f w =
      let t : fit_said d x ≡ record { desk = d; told = x } = ap (λ (b : Bool). cond b (record { desk = d; told = x }) (brief (desk_called (desk_ask d)))) (eq-eqb (reply_number (desk_ask d).reply) 0 (rw e at h)) in
      as_reply {a = record { desk = d; told = x }} room (f, w) (sym t)
