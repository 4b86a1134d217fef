-- A journal that another follows: the new one goes on where the old one ends, and the old one ends there. Assumes nothing.
use mathlib.Core.Path.{◌≡◌, refl, sym, ap, subst, ◌∙◌}
use mathlib.Core.Bool.{Bool, true, false, cond, not}
use mathlib.Core.List.{List, [], ◌∷◌, append-nil}
use Prim.Native.Nat.{ℕ, ◌^◌, ◌≤◌, ◌<◌}
use native.Mathlib.Omega.{arith}
use lib.ListN.{length, replicate}
use Rattle.bits.specs.Bits.{bit, packed}
use Rattle.bits.specs.Search.{some, every, least}
use Rattle.bits.specs.Places.{join}
use Rattle.floor.specs.Floor.{drive_in}
use Rattle.floor.specs.Cars.{cars}
use Rattle.floor.specs.Sound.{paired, sound, total}
use Rattle.rules.specs.Codes.{read_event}
use Rattle.rules.specs.Events.{in_turn, possible, places_open, after_event}
use Rattle.station.specs.declared.Station.{Station}
use Rattle.station.specs.Station.{start_of, fit}
use Rattle.station.specs.Held.{held_parts, parts_in, touches, lift_in, crosses_drive}
use Rattle.station.specs.Calls.{occurred, driven, evented, event, ask}
use Rattle.wire.specs.Reads.{read_request, read_whole, read_message, read_asked}
use Rattle.station_laws.proofs.Fits.{fit_start}
use Rattle.service.specs.Service.{respond}
use Rattle.service.specs.Runs.{run}
use Rattle.service.proofs.Called.{respond_fit}
use Rattle.rooms.specs.Rooms.{station_bytes}
use Rattle.rooms.specs.Promises.{StationTyped}
use Rattle.journal.specs.Journal.{station_after_messages, Follows}
use Rattle.journal.specs.Statements.{two_messages}
use Rattle.checksum.specs.Checksum.{crc_over}
use Rattle.checksum.proofs.Promises.{in_range}
use Rattle.journal_file.specs.declared.Kind.TheVariants.{Good}
use Rattle.journal_file.specs.declared.Front.{Front}
use Rattle.journal_file.specs.declared.Head.{Head}
use Rattle.journal_file.specs.declared.Replay.{Replay}
use Rattle.journal_file.specs.declared.Step.{Step}
use Rattle.journal_file.specs.Appends.{closed_kind, carries_messages, carried_messages, sum_after, append_of, front_of}
use Rattle.journal_file.specs.Heads.{title_bytes, head_sum, head_of}
use Rattle.journal_file.specs.Replaying.{not_taken, append_taken, messages_taken, mark_taken, step_by, step_of, file_replay_begun, Leads}
use Rattle.journal_file.specs.Statements.{recorded_in}
use Rattle.journal_laws.specs.Following.{head_for, Unbroken, TakesOver, StartFit, FollowGoesOn, AsOneFile, closing_mark, MarkCloses, ClosedTakesNothing, ClosedIsLast, example_name, example_end, Followed}
use Rattle.journal_file.proofs.Taking.{last_of}
use Rattle.journal_file.proofs.Forms.{append_reads_back}
use Rattle.journal_file.proofs.HeadForms.{head_reads_back}
use Rattle.journal_file.proofs.Files.{both_follow, run_of_lem, replay_follows, follows_goes_on, file_keeps_up}

-- ---- the new one

-- messages keep a station fit
fit_after : (s : Station) (ms : List (List ℕ)) → fit (station_after_messages s ms) ≡ fit s
fit_after s [] = refl
fit_after s (m ∷ ms) = fit_after (respond s m).station ms ∙ respond_fit s m

fit_following : {s next : Station} {bytes : List ℕ} → fit s ≡ true → Follows s bytes next → fit next ≡ true
fit_following {s} fits f = ap fit f.station ∙ fit_after s f.messages ∙ fits

-- the head is read as it was written
module _ (name : List ℕ) (s : Station) (named : length name ≡ 40) (typed : StationTyped s) (fits : fit s ≡ true) where
  read_back : head_of crc_over (head_for name s) ≡ record { kind = Good; station = s; sum = head_sum crc_over name s }
  read_back = ap (head_of crc_over) (sym (append-nil (head_for name s))) ∙ head_reads_back name s [] named typed fits

  new_good : (head_of crc_over (head_for name s)).kind ≡ Good
  new_good = ap (λ (h : Head). h.kind) read_back

  new_station : (file_replay_begun crc_over (head_for name s)).station ≡ s
  new_station = ap (λ (h : Head). h.station) read_back

  new_follows : (more : List (List ℕ)) (p : Replay) → Leads (file_replay_begun crc_over (head_for name s)) more p → Follows s (recorded_in more) p.station
  new_follows more p l =
      subst (λ (x : Station). Follows x (recorded_in more) p.station) new_station (replay_follows (file_replay_begun crc_over (head_for name s)) p more l)

unbroken : {s : Station} {recorded : List ℕ} {p : Replay} → Follows s recorded p.station → Unbroken s recorded p
unbroken f = record { follows = f; answers = follows_goes_on f }

pub takes_over : TakesOver
takes_over first s recorded name more p fits f typed named =
    let now_fit = fit_following fits f in
    (new_good name s named typed now_fit, λ l. unbroken (both_follow f (new_follows name s named typed now_fit more p l)))

pub start_fit : StartFit
start_fit = fit_start

pub follow_goes_on : FollowGoesOn
follow_goes_on r q p appends more name fits l typed named =
    takes_over r.station q.station (recorded_in appends) name more p fits (replay_follows r q appends l) typed named

pub as_one_file : AsOneFile
as_one_file q one p further more name fits typed named l m same =
    let a = (run_of_lem (replay_follows q one further l)).1 in
    let b = (run_of_lem (new_follows name q.station named typed fits more p m)).1 in
    sym a ∙ ap (λ (bytes : List ℕ). (run q.station bytes).station) same ∙ b

-- ---- the old one

module _ (q : Replay) (open-still : q.closed ≡ false) (small : q.sum < 2 ^ 32) where
  abbrev mark : Front
  mark = record { whole = true; short = false; kind = closed_kind; carries = 0; sum = sum_after crc_over q.sum closed_kind [] }

  mark_there : front_of crc_over q.sum (closing_mark q.sum) ≡ mark
  mark_there =
      ap (front_of crc_over q.sum) (sym (append-nil (closing_mark q.sum))) ∙ append_reads_back q.sum closed_kind [] [] small (omega arith)

  by_mark : (used : ℕ) (next : Station) → step_by q mark used next ≡ append_taken q.station mark true
  by_mark used next =
      sym (last_of false q.closed false (not_taken q false) (not_taken q false) (messages_taken q mark used next) (mark_taken q mark) refl open-still refl)

  closes : step_of crc_over q (closing_mark q.sum) ≡ append_taken q.station mark true
  unfolding step_of
  closes =
      let w = run q.station (carried_messages (closing_mark q.sum)) in
      rw mark_there (by_mark w.used w.station)

pub mark_closes : MarkCloses
mark_closes q open-still small = closes q open-still small

-- what is said behind a closed journal
module _ (w k : Bool) (r : Replay) (short : Bool) (t m : Step) where
  abbrev said : Bool → Step
  said c = cond (not w) (not_taken r short) (cond c (not_taken r false) (cond k t m))

none_behind : (w k : Bool) (r : Replay) (short : Bool) (t m : Step) → ((said w k r short t m true).took ≡ 0) × ((said w k r short t m true).replay ≡ r)
none_behind true k r short t m = (refl, refl)
none_behind false k r short t m = (refl, refl)

pub closed_takes_nothing : ClosedTakesNothing
unfolding step_of
closed_takes_nothing over r m e =
    let f = front_of over r.sum m in
    let w = run r.station (carried_messages m) in
    let k = carries_messages f.kind in
    let t = messages_taken r f w.used w.station in
    subst (λ (c : Bool). ((said f.whole k r f.short t (mark_taken r f) c).took ≡ 0) × ((said f.whole k r f.short t (mark_taken r f) c).replay ≡ r))
    (sym e) (none_behind f.whole k r f.short t (mark_taken r f))

pub closed_is_last : ClosedIsLast
closed_is_last r q [] e l = refl
closed_is_last r q (a ∷ more) e (long, took, l) = absurd (omega (arith, long, took, (closed_takes_nothing crc_over r a e).0))

-- ---- that there are such journals

-- the station that the two messages make
abbrev driving : Station
driving = record { bits = 0x00891B0000000000; count = 0; answered = 0; set = replicate 40 0; next = 0; apart = 0 }

after_two : station_after_messages start_of two_messages ≡ driving
unfolding cars paired sound total packed some every least in_turn possible places_open after_event held_parts parts_in touches lift_in crosses_drive fit
    occurred driven evented event ask read_event read_request read_whole read_message read_asked respond
after_two = refl

typed_driving : StationTyped driving
typed_driving = record { image = omega arith; places = refl; issue = omega arith; apart = omega arith }

typed_start : StationTyped start_of
typed_start = record { image = omega arith; places = refl; issue = omega arith; apart = omega arith }

two_follow : Follows start_of (join two_messages) (station_after_messages start_of two_messages)
two_follow = record { messages = two_messages; each = (refl, (refl, tt)); bytes_are = refl; station = refl }

-- an append of whole messages behind a new head
module _ (s next : Station) (bytes : List ℕ) (typed : StationTyped s) (fits : fit s ≡ true) (f : Follows s bytes next) (some : 0 < length bytes) (few : length bytes ≤ 65536) where
  abbrev first : Replay
  first = file_replay_begun crc_over (head_for example_name s)

  small : first.sum < 2 ^ 32
  small =
      rw (ap (λ (h : Head). h.sum) (read_back example_name s refl typed fits))
      (in_range (crc_over (crc_over 0 title_bytes) example_name) (station_bytes s)
      (in_range (crc_over 0 title_bytes) example_name (in_range 0 title_bytes (omega arith))))

  one_append : Leads first (append_of crc_over first.sum 1 bytes ∷ []) (record { station = next; sum = sum_after crc_over first.sum 1 bytes; closed = false })
  one_append =
      file_keeps_up first first [] bytes next refl refl small
      (subst (λ (x : Station). Follows x bytes next) (sym (new_station example_name s refl typed fits)) f) some few

pub followed : Followed
followed = record {
  begins = ap fit (new_station example_name start_of refl typed_start fit_start) ∙ fit_start;
  leads = one_append start_of (station_after_messages start_of two_messages) (join two_messages) typed_start fit_start two_follow (omega arith) (omega arith);
  typed = subst StationTyped (sym after_two) typed_driving;
  named = refl;
  drives = ap (λ (s : Station). bit s.bits drive_in) after_two;
  last = _;
  more = _;
  goes = one_append example_end.station (station_after_messages example_end.station two_messages) (join two_messages) (subst StationTyped (sym after_two) typed_driving)
      (fit_following fit_start two_follow) (record { messages = two_messages; each = (refl, (refl, tt)); bytes_are = refl; station = refl }) (omega arith) (omega arith);
}
