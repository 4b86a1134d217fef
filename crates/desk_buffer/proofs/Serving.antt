-- A run of messages: what one of them leaves, that a run is its first message and then the run of the rest, and the loop over them.
-- Assumes nothing.
use mathlib.Core.Path.{◌≡◌, refl, sym, ◌∙◌, ap, subst}
use mathlib.Core.Bool.{Bool, true, false, cond, not}
use mathlib.Core.List.{List, [], ◌∷◌, ◌++◌, append_assoc, append-nil}
use Prim.Native.Nat.{ℕ, zero, suc, ◌+◌, ◌-◌, ◌≤◌, ◌<◌}
use native.Mathlib.Omega.{arith}
use borrow.Author.Tests.{eq-eqb, ne_eqb, le-leb, lt-leb, le-ltb, ltb-false}
use lib.Dec.{eqb, ltb, leb}
use lib.ListN.{length, take, drop, length-append, length-drop, drop_of_length-le}
use lib.Seq.{length-take-le, take-length, take_all, take_at, drop_at, drop-drop}
use Rattle.bits.proofs.Cases.{split, clash}
use Rattle.codec.specs.Bytes.{from_little_endian}
use Rattle.answers.specs.declared.Answer.{Answer}
use Rattle.answers.specs.declared.Answer.TheVariants.{Taken, BadLength, NoRoom}
use Rattle.answers.specs.Answers.{number_of}
use Rattle.std.specs.declared.result.Result.TheVariants.{Ok, Err}
use Rattle.wire.proofs.Results.{size_said, no_both, same_ok}
use Rattle.wire.specs.declared.What.{What}
use Rattle.wire.specs.declared.What.TheVariants.{Image}
use Rattle.wire.specs.declared.Frame.{Frame}
use Rattle.wire.specs.declared.Frame.TheVariants.{Cut, Wrong, Whole}
use Rattle.wire.specs.Writes.{Written}
use Rattle.wire.specs.Kinds.{in_range, plain}
use Rattle.wire.specs.Reads.{kind_at}
use Rattle.wire.specs.Writes.{LeavesMessage, Writing, put, message_bytes, writing_message}
use Rattle.wire.proofs.Parts.{from_on}
use Rattle.wire.proofs.Room.{plain_written}
use Rattle.desk.specs.declared.Desk.{Desk}
use Rattle.desk_wire.specs.DeskReads.{frame_up_to}
use Rattle.desk_wire.proofs.Framing.{whole_up}
use Rattle.desk_service.specs.declared.DeskAnswered.{DeskAnswered}
use Rattle.desk_service.specs.DeskService.{answer_told, brief, desk_unread, respond_desk, brief_bytes, told_bytes, LeavesReply}
use Rattle.desk_service.proofs.Saying.{respond_wrong, as_reply}
use Rattle.desk_buffer.specs.declared.Step.{Step}
use Rattle.desk_buffer.specs.DeskServing.{number_in, held_back, begin_form, image_form, station_form, passed_on, DeskRan, desk_run_ends, answered_ran, wrong_ran, desk_step_at, desk_step, then_ran, desk_run_of, desk_run, DeskServes, served_desk}
use Rattle.desk_buffer.specs.Private.{LeavesBytes, DeskSteps, DeskPasses}

-- ---- what a write into lent room says

module _ (b room : List ℕ) {w : Written} {last : List ℕ} (l : LeavesMessage (put b room) w last) where
  pub no_room_lem : {a : Answer} → w ≡ Err a → (ltb (length room) (length b) ≡ true) × (last ≡ room)
  no_room_lem z = split (ltb (length room) (length b))
      (λ t. (t, l.1 ∙ rw t))
      (λ t. let q : w ≡ Ok (length b) = l.0 ∙ rw t in no_both (sym q ∙ z))

  pub has_room : {n : ℕ} → w ≡ Ok n → (ltb (length room) (length b) ≡ false) × (n ≡ length b) × (last ≡ b ++ drop (length b) room)
  has_room z = split (ltb (length room) (length b))
      (λ t. let q : w ≡ Err NoRoom = l.0 ∙ rw t in no_both (sym z ∙ q))
      (λ t. let q : w ≡ Ok (length b) = l.0 ∙ rw t in (t, same_ok (sym z ∙ q), l.1 ∙ rw t))

-- a message of the station's in room that is long enough
pub wrote_plain : (w : What) (room : List ℕ) {r : Written} {last : List ℕ} → in_range w ≡ true → length (message_bytes (plain w)) ≤ length room
    → LeavesMessage (writing_message (plain w) room) r last → LeavesBytes (message_bytes (plain w)) (size_said r) room last
wrote_plain w room f h l =
    let b = message_bytes (plain w) in
    let p : put b room ≡ record { says = Ok (length b); leaves = b ++ drop (length b) room } = simp (le-ltb (length room) (length b) h) in
    let q = plain_written w room f refl ∙ p in
    (ap size_said (l.0 ∙ ap (λ (x : Writing). x.says) q), l.1 ∙ ap (λ (x : Writing). x.leaves) q)

-- what the station is sent, by the kind that a call found
module _ (m : List ℕ) {k : ℕ} (e : k ≡ kind_at m) where
  pub form_same : k ≤ 5 → station_form m ≡ m
  unfolding station_form
  form_same h = rw (le-leb (kind_at m) 5 (subst (λ (x : ℕ). x ≤ 5) e h))

  late : (5 < k) → leb (kind_at m) 5 ≡ false
  late h = lt-leb (kind_at m) 5 (subst (λ (x : ℕ). 5 < x) e h)

  pub form_begin : 5 < k → k ≡ 6 → station_form m ≡ begin_form m
  unfolding station_form
  form_begin h f = rw (late h, eq-eqb (kind_at m) 6 (sym e ∙ f))

  pub form_image : 5 < k → (k ≡ 6 → ⊥) → k ≡ 7 → station_form m ≡ image_form m
  unfolding station_form
  form_image h n f = rw (late h, ne_eqb (kind_at m) 6 (λ z. n (e ∙ z)), eq-eqb (kind_at m) 7 (sym e ∙ f))

  pub form_none : 5 < k → (k ≡ 6 → ⊥) → (k ≡ 7 → ⊥) → station_form m ≡ []
  unfolding station_form
  form_none h n f = rw (late h, ne_eqb (kind_at m) 6 (λ z. n (e ∙ z)), ne_eqb (kind_at m) 7 (λ z. f (e ∙ z)))

pub copied : (m room : List ℕ) {n : ℕ} {last : List ℕ} → station_form m ≡ m → (n ≡ length m) × (last ≡ take (length m) m ++ drop (length m) room)
    → LeavesBytes (station_form m) n room last
copied m room e h = rw e (h.0, h.1 ∙ ap (λ (x : List ℕ). x ++ drop (length m) room) (take-length m))

pub image_passed : (m room : List ℕ) {bits apart n : ℕ} {last : List ℕ} → 20 ≤ length m
    → bits ≡ from_little_endian 8 0 (take (length m - 4) (drop 4 m)) → apart ≡ from_little_endian 8 0 (take (length m - 12) (drop 12 m))
    → LeavesBytes (message_bytes (plain (Image bits apart))) n room last → LeavesBytes (image_form m) n room last
image_passed m room {bits} {apart} {n} {last} h b a l =
    let p = b ∙ ap (from_little_endian 8 0) (from_on m 4) in
    let q = a ∙ ap (from_little_endian 8 0) (from_on m 12) in
    rw (le-ltb (length m) 20 h)
    (subst (λ (x : ℕ). LeavesBytes (message_bytes (plain (Image (from_little_endian 8 0 (drop 4 m)) x))) n room last) q
    (subst (λ (x : ℕ). LeavesBytes (message_bytes (plain (Image x apart))) n room last) p l))

-- ---- one message

module _ (d : Desk) (m out sent : List ℕ) {r : DeskAnswered} {last : List ℕ} (l : LeavesReply (respond_desk d m) out r last) where
  pub replied_none : {s : Step} {a : Answer} → r.written ≡ Err a
      → s ≡ record { desk = d; used = 0; made = 0; passed = 0; on = false; stop = false; full = true }
      → DeskPasses (answered_ran (length out) d m) s out last sent sent
  replied_none z f = let n = no_room_lem (told_bytes (respond_desk d m).told) out l.1 z in rw n.0 ((f, n.1), refl)

  pub answer_left : {size : ℕ} → r.written ≡ Ok size → (size ≤ length last) × (take size last ≡ told_bytes (respond_desk d m).told)
  answer_left {size} z =
      let b = told_bytes (respond_desk d m).told in
      let n = has_room b out l.1 z in
      let k = length-append b (drop (length b) out) in
      let e = ap length n.2 in
      let s = n.1 in
      (omega arith, ap (take size) n.2 ∙ take_at b (drop (length b) out) size (sym n.1))

  pub replied_some : {p size : ℕ} {gone : List ℕ} → r.written ≡ Ok size → LeavesBytes (passed_on (take size last) m) p sent gone
      → DeskPasses (answered_ran (length out) d m) (record { desk = r.desk; used = length m; made = size; passed = p; on = true; stop = false; full = false }) out last sent gone
  replied_some {p} {size} {gone} z h =
      let n = has_room (told_bytes (respond_desk d m).told) out l.1 z in
      let g = subst (λ (x : List ℕ). LeavesBytes (passed_on x m) p sent gone) (answer_left z).1 h in
      rw n.0 ((rw (n.1, g.0, l.0), n.2), g.1)

module _ (d : Desk) (m out : List ℕ) {r : DeskAnswered} {last : List ℕ} (w : frame_up_to 143 m ≡ Wrong) (l : LeavesReply (respond_desk d m) out r last) where
  refused : LeavesReply (brief (desk_unread d BadLength)) out r last
  refused = as_reply out l (sym (respond_wrong d m w))

  pub wrong_none : {s : Step} {a : Answer} → r.written ≡ Err a
      → s ≡ record { desk = d; used = 0; made = 0; passed = 0; on = false; stop = false; full = true } → DeskSteps (wrong_ran (length out) d) s out last
  wrong_none z f = let n = no_room_lem (brief_bytes (answer_told BadLength)) out refused.1 z in rw n.0 (f, n.1)

  pub wrong_some : {s : Step} {size : ℕ} → r.written ≡ Ok size
      → s ≡ record { desk = d; used = 0; made = size; passed = 0; on = false; stop = true; full = false } → DeskSteps (wrong_ran (length out) d) s out last
  wrong_some z f = let n = has_room (brief_bytes (answer_told BadLength)) out refused.1 z in rw n.0 (f ∙ rw n.1, n.2)

-- a wrong length sends nothing
none_sent : (d : Desk) (b : Bool) → (cond b (desk_run_ends d [] false true) (desk_run_ends d (brief_bytes (answer_told BadLength)) true false)).sent ≡ []
none_sent d true = refl
none_sent d false = refl

module _ (d : Desk) (s out sent : List ℕ) {r : Step} where
  pub first_cut : frame_up_to 143 s ≡ Cut → r ≡ record { desk = d; used = 0; made = 0; passed = 0; on = false; stop = false; full = false }
      → DeskPasses (desk_step (length out) d s) r out out sent sent
  unfolding desk_step
  first_cut e f = rw e ((f, refl), refl)

  pub first_wrong : {last : List ℕ} → frame_up_to 143 s ≡ Wrong → DeskSteps (wrong_ran (length out) d) r out last → DeskPasses (desk_step (length out) d s) r out last sent sent
  unfolding desk_step
  first_wrong e h =
      let z = none_sent d (ltb (length out) (length (brief_bytes (answer_told BadLength)))) in
      rw e (h, sym (ap (λ (l : List ℕ). l ++ drop (length l) sent) z))

  pub first_whole : (n : ℕ) {last gone : List ℕ} → frame_up_to 143 s ≡ Whole n
      → DeskPasses (answered_ran (length out) d (take n s)) r out last sent gone → DeskPasses (desk_step (length out) d s) r out last sent gone
  unfolding desk_step
  first_whole n e h = rw e h

-- ---- how much one message takes

begin_short : (m : List ℕ) → length (begin_form m) ≤ length m
begin_short m = split (ltb (length m) 8) (λ t. rw t (omega arith)) (λ t. let h = ltb-false (length m) 8 t in rw t (omega arith))

image_short : (m : List ℕ) → length (image_form m) ≤ length m
image_short m = split (ltb (length m) 20) (λ t. rw t (omega arith)) (λ t. let h = ltb-false (length m) 20 t in rw t (omega arith))

pub form_short : (m : List ℕ) → length (station_form m) ≤ length m
unfolding station_form
form_short m =
    split (leb (kind_at m) 5) (λ t. rw t (omega arith))
    (λ t. split (eqb (kind_at m) 6) (λ s. rw (t, s) (begin_short m))
    (λ s. split (eqb (kind_at m) 7) (λ r. rw (t, s, r) (image_short m)) (λ r. rw (t, s, r) (omega arith))))

passed_short : (b m : List ℕ) → length (passed_on b m) ≤ length m
passed_short b m = split (held_back (number_in b)) (λ t. rw t (omega arith)) (λ t. rw t (form_short m))

-- within the input and the room; one that goes on took a message
pub record Takes (a : DeskRan) (room : ℕ) (s : List ℕ) : Type 0 where
  pub used : a.used ≤ length s
  pub made : length a.bytes ≤ room
  pub sent : length a.sent ≤ a.used
  pub some : a.on ≡ true → 4 ≤ a.used

takes_nothing : (d : Desk) (room : ℕ) (s : List ℕ) (stop full : Bool) → Takes (desk_run_ends d [] stop full) room s
takes_nothing d room s stop full = record { used = omega arith; made = omega arith; sent = omega arith; some = λ t. clash t refl }

takes_at : (f : Frame) (room : ℕ) (d : Desk) (s : List ℕ) → frame_up_to 143 s ≡ f → Takes (desk_step_at f room d s) room s
takes_at Cut room d s e = takes_nothing d room s false false
takes_at Wrong room d s e =
    let b = brief_bytes (answer_told BadLength) in
    split (ltb room (length b)) (λ t. rw t (takes_nothing d room s false true))
    (λ t. let h = ltb-false room (length b) t in rw t (record { used = omega arith; made = h; sent = omega arith; some = λ t. clash t refl }))
takes_at (Whole n) room d s e =
    let b = told_bytes (respond_desk d (take n s)).told in
    let f = whole_up 143 s n e in
    let l = length-take-le n s f.within in
    split (ltb room (length b)) (λ t. rw t (takes_nothing d room s false true))
    (λ t. let h = ltb-false room (length b) t in
    rw t (record { used = rw l f.within; made = h; sent = passed_short b (take n s); some = λ _. rw l f.low }))

pub takes : (room : ℕ) (d : Desk) (s : List ℕ) → Takes (desk_step room d s) room s
unfolding desk_step
takes room d s = takes_at (frame_up_to 143 s) room d s refl

-- ---- a run is its first message, and then the run of the rest

none_left : (room : ℕ) (d : Desk) (s : List ℕ) → length s ≤ 0 → desk_step room d s ≡ desk_run_ends d [] false false
unfolding desk_step
none_left room d [] h = refl
none_left room d (x ∷ s) h = absurd (omega arith)

same : (k j room : ℕ) (d : Desk) (s : List ℕ) → length s ≤ k → length s ≤ j → desk_run_of k room d s ≡ desk_run_of j room d s
unfolding desk_run_of
same zero zero room d s h g = refl
same zero (suc j) room d s h g = rw (none_left room d s h)
same (suc k) zero room d s h g = rw (none_left room d s g)
same (suc k) (suc j) room d s h g =
    let a = desk_step room d s in
    let l = length-drop a.used s in
    split a.on
    (λ t. let u = (takes room d s).some t in
    rw t (ap (then_ran a) (same k j (room - length a.bytes) a.desk (drop a.used s) (omega arith) (omega arith))))
    (λ t. rw t)

pub run_on : (room : ℕ) (d : Desk) (s : List ℕ) → let a = desk_step room d s in
    a.on ≡ true → desk_run room d s ≡ then_ran a (desk_run (room - length a.bytes) a.desk (drop a.used s))
unfolding desk_run_of
run_on room d s t =
    let a = desk_step room d s in
    let l = length-drop a.used s in
    same (length s) (suc (length s)) room d s (omega arith) (omega arith)
    ∙ rw t (ap (then_ran a) (same (length s) (length (drop a.used s)) (room - length a.bytes) a.desk (drop a.used s) (omega arith) (omega arith)))

pub run_done : (room : ℕ) (d : Desk) (s : List ℕ) → let a = desk_step room d s in a.on ≡ false → desk_run room d s ≡ a
unfolding desk_run_of
run_done room d s t = same (length s) (suc (length s)) room d s (omega arith) (omega arith) ∙ rw t

-- ---- the loop

-- the room after a call that left something at the start of what stands past the first `made` bytes
abbrev put_at : List ℕ → List ℕ → ℕ → List ℕ
put_at out last made = take made out ++ (last ++ drop (length out - made) (drop made out))

room_more : (done b before out last : List ℕ) (made : ℕ) → length done ≡ made → out ≡ done ++ drop made before → length out ≡ length before → made ≤ length out
    → last ≡ b ++ drop (length b) (take (length out - made) (drop made out))
    → put_at out last made ≡ (done ++ b) ++ drop (made + length b) before
room_more done b before out last made hd e l h hl =
    let k = length out - made in
    let tail = drop made before in
    let f : drop made out ≡ tail = ap (drop made) e ∙ drop_at done tail made hd in
    let g : take made out ≡ done = ap (take made) e ∙ take_at done tail made hd in
    let t : length tail ≡ k = length-drop made before ∙ omega arith in
    rw (hl, f, g)
    (rw (take_all k tail (omega arith), drop_of_length-le tail {i = k} (omega arith), drop-drop (length b) made before)
    (simp (append-nil, append_assoc)))

-- so many bytes taken, and these answered and sent before
abbrev pub so_far : ℕ → List ℕ → List ℕ → DeskRan → DeskRan
so_far n b c r =
    record { desk = r.desk; used = n + r.used; bytes = b ++ r.bytes; sent = c ++ r.sent; on = r.on; stop = r.stop; full = r.full }

so_more : (n k : ℕ) (b x c y : List ℕ) (r : DeskRan) → so_far n b c (so_far k x y r) ≡ so_far (n + k) (b ++ x) (c ++ y) r
so_more n k b x c y r =
    let e : n + (k + r.used) ≡ n + k + r.used = omega arith in
    rw (e, append_assoc b x r.bytes, append_assoc c y r.sent)

so_none : (r : DeskRan) → r ≡ so_far 0 [] [] r
so_none r =
    let e : r.used ≡ 0 + r.used = omega arith in
    ap (λ (n : ℕ). record { desk = r.desk; used = n; bytes = r.bytes; sent = r.sent; on = r.on; stop = r.stop; full = r.full }) e

pub record DeskMidway (input before kept : List ℕ) (d₀ : Desk) (out sent : List ℕ) (d : Desk) (at made passed : ℕ) : Type 0 where
  pub within : at ≤ length input
  pub small : made ≤ length before
  pub fewer : passed ≤ at
  pub long : length out ≡ length before
  pub wide : length sent ≡ length kept
  pub room : out ≡ take made out ++ drop made before
  pub space : sent ≡ take passed sent ++ drop passed kept
  pub rest : desk_run (length before) d₀ input ≡ so_far at (take made out) (take passed sent) (desk_run (length before - made) d (drop at input))

pub desk_started : (input before kept : List ℕ) (d : Desk) → DeskMidway input before kept d before kept d 0 0 0
desk_started input before kept d =
    let z : length before - 0 ≡ length before = omega arith in
    record { within = omega arith; small = omega arith; fewer = omega arith; long = refl; wide = refl; room = refl; space = refl; rest = rw z (so_none _) }

-- what a test that is turned round says
is_on : (b : Bool) → not b ≡ false → b ≡ true
is_on true z = refl
is_on false z = clash refl z

is_off : (b : Bool) → not b ≡ true → b ≡ false
is_off true z = clash z refl
is_off false z = refl

-- the room for what is sent is as long as what is left
pub parts_fit : {input before kept : List ℕ} {d₀ : Desk} {out sent : List ℕ} {d : Desk} {at made passed : ℕ} → DeskMidway input before kept d₀ out sent d at made passed
    → length input ≤ length kept → length (take (length input - at) (drop at input)) ≤ length (take (length sent - passed) (drop passed sent))
parts_fit {input} {out = out} {sent = sent} {at = at} {passed = passed} m h =
    let l = m.wide in
    let f = m.fewer in
    let a = ap length (from_on input at) ∙ length-drop at input in
    let b = ap length (from_on sent passed) ∙ length-drop passed sent in
    omega arith

module _ {input before kept : List ℕ} {d₀ : Desk} {out sent : List ℕ} {d : Desk} {at made passed : ℕ} (m : DeskMidway input before kept d₀ out sent d at made passed)
    (roomy : length input ≤ length kept) {w : Step} {last gone : List ℕ}
    (h : DeskPasses (desk_step (length (take (length out - made) (drop made out))) d (take (length input - at) (drop at input))) w
    (take (length out - made) (drop made out)) last (take (length sent - passed) (drop passed sent)) gone) where
  abbrev one : DeskRan
  one = desk_step (length before - made) d (drop at input)

  left_long : length (take (length out - made) (drop made out)) ≡ length before - made
  left_long = let l = m.long in ap length (from_on out made) ∙ length-drop made out ∙ rw l

  as_one : desk_step (length (take (length out - made) (drop made out))) d (take (length input - at) (drop at input)) ≡ one
  as_one = rw (left_long, from_on input at)

  stepped : DeskPasses one w (take (length out - made) (drop made out)) last (take (length sent - passed) (drop passed sent)) gone
  stepped = subst (λ (x : DeskRan). DeskPasses x w (take (length out - made) (drop made out)) last (take (length sent - passed) (drop passed sent)) gone) as_one h

  bounds : Takes one (length before - made) (drop at input)
  bounds = takes (length before - made) d (drop at input)

  used_is : w.used ≡ one.used
  used_is = ap (λ (x : Step). x.used) stepped.0.0

  made_is : w.made ≡ length one.bytes
  made_is = ap (λ (x : Step). x.made) stepped.0.0

  passed_is : w.passed ≡ length one.sent
  passed_is = ap (λ (x : Step). x.passed) stepped.0.0

  pub used_within : at + w.used ≤ length input
  used_within = let a = bounds.used in let e = used_is in let l = length-drop at input in let i = m.within in omega arith

  pub made_within : made + w.made ≤ length before
  made_within = let a = bounds.made in let e = made_is in let i = m.small in omega arith

  pub passed_within : passed + w.passed ≤ at + w.used
  passed_within = let a = bounds.sent in let e = passed_is in let f = used_is in let i = m.fewer in omega arith

  answers_done : length (take made out) ≡ made
  answers_done = let l = m.long in let i = m.small in length-take-le made out (omega arith)

  sent_done : length (take passed sent) ≡ passed
  sent_done = let l = m.wide in let i = m.fewer in let j = m.within in length-take-le passed sent (omega arith)

  answers_more : put_at out last made ≡ (take made out ++ one.bytes) ++ drop (made + length one.bytes) before
  answers_more = let l = m.long in let i = m.small in
      room_more (take made out) one.bytes before out last made answers_done m.room l (omega arith) stepped.0.1

  sent_more : put_at sent gone passed ≡ (take passed sent ++ one.sent) ++ drop (passed + length one.sent) kept
  sent_more = let l = m.wide in let i = m.fewer in let j = m.within in
      room_more (take passed sent) one.sent kept sent gone passed sent_done m.space l (omega arith) stepped.1

  answers_long : length (take made out ++ one.bytes) ≡ made + w.made
  answers_long = length-append (take made out) one.bytes ∙ rw (answers_done, made_is)

  sent_long : length (take passed sent ++ one.sent) ≡ passed + w.passed
  sent_long = length-append (take passed sent) one.sent ∙ rw (sent_done, passed_is)

  answers_said : take (made + w.made) (put_at out last made) ≡ take made out ++ one.bytes
  answers_said = ap (take (made + w.made)) answers_more ∙ take_at (take made out ++ one.bytes) _ (made + w.made) answers_long

  sent_said : take (passed + w.passed) (put_at sent gone passed) ≡ take passed sent ++ one.sent
  sent_said = ap (take (passed + w.passed)) sent_more ∙ take_at (take passed sent ++ one.sent) _ (passed + w.passed) sent_long

  pub answers_whole : length (put_at out last made) ≡ length before
  answers_whole =
      let b = made_within in
      ap length answers_more ∙ length-append (take made out ++ one.bytes) _
      ∙ (let p = answers_long in let q = made_is in let l = length-drop (made + length one.bytes) before in omega arith)

  pub sent_whole : length (put_at sent gone passed) ≡ length kept
  sent_whole =
      let c = passed_within in
      let g = used_within in
      ap length sent_more ∙ length-append (take passed sent ++ one.sent) _
      ∙ (let p = sent_long in let q = passed_is in let l = length-drop (passed + length one.sent) kept in omega arith)

  pub more_taken : not w.on ≡ false → 4 ≤ w.used
  more_taken z = let t = is_on w.on z in let e = used_is in let u = bounds.some (sym (ap (λ (x : Step). x.on) stepped.0.0) ∙ t) in omega arith

  pub goes_on : not w.on ≡ false
      → DeskMidway input before kept d₀ (put_at out last made) (put_at sent gone passed) w.desk (at + w.used) (made + w.made) (passed + w.passed)
  goes_on z =
      let t = is_on w.on z in
      let e = sym (ap (λ (x : Step). x.on) stepped.0.0) ∙ t in
      let b = made_within in
      let c = passed_within in
      let g = used_within in
      let i = m.within in
      let left : length before - made - length one.bytes ≡ length before - (made + w.made) = (let q = made_is in omega arith) in
      record {
        within = g;
        small = b;
        fewer = c;
        long = answers_whole;
        wide = sent_whole;
        room = answers_more ∙ rw (answers_said, made_is);
        space = sent_more ∙ rw (sent_said, passed_is);
        rest =
            m.rest
            ∙ ap (so_far at (take made out) (take passed sent)) (run_on (length before - made) d (drop at input) e)
            ∙ so_more at one.used (take made out) one.bytes (take passed sent) one.sent _
            ∙ rw (answers_said, sent_said, left, used_is, drop-drop one.used at input, ap (λ (x : Step). x.desk) stepped.0.0);
      }

  pub all_served : not w.on ≡ true
      → DeskServes (served_desk (desk_run (length before) d₀ input) before kept)
      (record { answer = Taken; desk = w.desk; used = at + w.used; made = made + w.made; passed = passed + w.passed; stop = w.stop; full = w.full })
      (put_at out last made) (put_at sent gone passed)
  all_served z =
      let t = is_off w.on z in
      let e = sym (ap (λ (x : Step). x.on) stepped.0.0) ∙ t in
      let r : desk_run (length before) d₀ input ≡ so_far at (take made out) (take passed sent) one = m.rest ∙ ap (so_far at (take made out) (take passed sent)) (run_done (length before - made) d (drop at input) e) in
      rw (r, answers_long, sent_long, stepped.0.0)
      (refl, answers_more, sent_more)
