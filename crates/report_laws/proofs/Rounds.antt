-- The report's room beside a station's: what each round leaves in both, and the week of all messages. Assumes nothing.
use mathlib.Core.Path.{◌≡◌, refl, sym, ap, subst, ◌∙◌}
use mathlib.Core.Bool.{Bool, true}
use mathlib.Core.List.{List, [], ◌∷◌, ◌++◌, map}
use Prim.Native.Nat.{ℕ, ◌≤◌}
use native.Mathlib.Omega.{arith}
use borrow.Author.Tests.{le-leb, le-ltb, eqb-true}
use lib.Dec.{eqb, ltb}
use lib.ListN.{length, drop_of_length-le}
use Rattle.bits.specs.Places.{join}
use Rattle.bits.proofs.Cases.{split}
use Rattle.codec.specs.Bytes.{Bytes}
use Rattle.station.specs.declared.Station.{Station}
use Rattle.station.specs.Station.{start_of}
use Rattle.service.specs.declared.Reply.{Reply}
use Rattle.service.specs.Service.{respond, answer_bytes}
use Rattle.service.proofs.Replies.{answer_bytes_length}
use Rattle.journal.specs.Journal.{Messages, station_after_messages}
use Rattle.std.specs.declared.option.Option.{Option}
use Rattle.std.specs.declared.option.Option.TheVariants.{Some, None}
use Rattle.std.specs.Prelude.{is_none}
use Rattle.totals.specs.declared.Totals.{Totals}
use Rattle.totals.specs.declared.Happened.{Happened}
use Rattle.totals.specs.declared.Tally.{Tally}
use Rattle.totals.specs.Totals.{size, first_full, blank, counted_in, counted_all}
use Rattle.week.specs.Weeks.{happened, happenings_for, happenings, week_of}
use Rattle.week.proofs.Pieces.{happenings_more}
use Rattle.report_text.specs.Lines.{report_of}
use Rattle.rooms.specs.Rooms.{station_of}
use Rattle.report_c.specs.Entries.{no_total, full_by, known_full, texting, lining}
use Rattle.entries_laws.specs.Uses.{start, message, entry_used, roomy, started}
use Rattle.entries_laws.proofs.Messages.{message_is_call}
use Rattle.entries_laws.proofs.Lent as lent
use Rattle.report_laws.specs.Rounds.{HostReport, Told, tell_all, StationsLent, happened_to, Host, host_begun, Round, round, rounds, Answered, messages_in, happened_in}
use Rattle.report_laws.specs.Statements.{RoomsCountTheWeek, RoomsHoldTheWeek, RoomsTellTheWeek, ReplyFits}
use Rattle.report_laws.proofs.Reports.{Holds, new_told}

-- ---- the station's room

-- a message that has room for its reply leaves the station that answered it
left_by : (station : List ℕ) → lent.Lent station → (m out : List ℕ) → Bytes m → roomy station (message m out) ≡ true
    → station_of (entry_used station (message m out)).leaves ≡ (respond (station_of station) m).station
left_by station L m out b r =
    (lent.done station L.long L.typed (message m out) b (lent.long_enough station (message m out) r)).holds
    ∙ ap (λ (x : Reply). x.station) (sym (message_is_call (station_of station) m))

begun_lent : (totals station : List ℕ) → 60 ≤ length station → lent.Lent (host_begun totals station).station
begun_lent totals station h = lent.begun (entry_used station start).leaves (started station h)

begun_start : (totals station : List ℕ) → 60 ≤ length station → station_of (host_begun totals station).station ≡ start_of
begun_start totals station h = (lent.begun_start station h).holds

pub reply_fits : ReplyFits
reply_fits station m out h =
    let w = (respond (station_of station) m).answer in
    let l = answer_bytes_length w in
    le-leb (length (answer_bytes w)) (length out) (omega arith)

-- ---- round after round

-- the station's room as it is lent with each message
abbrev lent_with : List ℕ → List Round → List Told
lent_with station [] = []
lent_with station (r ∷ rs) = record { station = station; message = r.message } ∷ lent_with (entry_used station (message r.message r.reply)).leaves rs

told_by : (h : Host) (rs : List Round) → (rounds h rs).report ≡ tell_all h.report (lent_with h.station rs)
told_by h [] = refl
told_by h (r ∷ rs) = told_by (round h r) rs

lent_each : (h : Host) → lent.Lent h.station → (rs : List Round) → Answered h rs → StationsLent (lent_with h.station rs)
lent_each h L [] a = tt
lent_each h L (r ∷ rs) (b, k, a) = (L.long, lent_each (round h r) (lent.lent_used h.station L (message r.message r.reply) b) rs a)

-- each message meets the station that those before it have left
met : (h : Host) → lent.Lent h.station → (rs : List Round) → Answered h rs
    → map happened_to (lent_with h.station rs) ≡ happened_in (station_of h.station) (messages_in rs)
met h L [] a = refl
met h L (r ∷ rs) (b, k, a) =
    ap (◌∷◌ (happened (station_of h.station) r.message))
    (met (round h r) (lent.lent_used h.station L (message r.message r.reply) b) rs a
    ∙ ap (λ (s : Station). happened_in s (messages_in rs)) (left_by h.station L r.message r.reply b k))

after_all : (h : Host) → lent.Lent h.station → (rs : List Round) → Answered h rs
    → station_of (rounds h rs).station ≡ station_after_messages (station_of h.station) (messages_in rs)
after_all h L [] a = refl
after_all h L (r ∷ rs) (b, k, a) =
    after_all (round h r) (lent.lent_used h.station L (message r.message r.reply) b) rs a
    ∙ ap (λ (s : Station). station_after_messages s (messages_in rs)) (left_by h.station L r.message r.reply b k)

module _ (totals station : List ℕ) (h : 208 ≤ length totals) (l : 60 ≤ length station) (rs : List Round) (a : Answered (host_begun totals station) rs) where
  counted : Holds (rounds (host_begun totals station) rs).report (counted_all blank (happened_in start_of (messages_in rs)))
  counted =
      let host = host_begun totals station in
      let L = begun_lent totals station l in
      let all = met host L rs a ∙ ap (λ (s : Station). happened_in s (messages_in rs)) (begun_start totals station l) in
      subst (λ (hs : List Happened). Holds (rounds host rs).report (counted_all blank hs)) all
      (subst (λ (r : HostReport). Holds r (counted_all blank (map happened_to (lent_with host.station rs)))) (sym (told_by host rs))
      (new_told totals h (lent_with host.station rs) (lent_each host L rs a)))

pub rooms_count_the_week : RoomsCountTheWeek
rooms_count_the_week totals station h l rs a = (
  (counted totals station h l rs a).counted,
  after_all (host_begun totals station) (begun_lent totals station l) rs a
      ∙ ap (λ (s : Station). station_after_messages s (messages_in rs)) (begun_start totals station l),
)

-- ---- the week

-- whole messages, one behind the other
all_happened : (s : Station) (ms : List (List ℕ)) → Messages ms → happenings s (join ms) ≡ happened_in s ms
unfolding happenings_for
all_happened s [] w = refl
all_happened s (m ∷ ms) (e, w) =
    happenings_more s m (join ms) (length m) e
    ∙ ap (◌∷◌ (happened s m))
    (ap (λ (l : List ℕ). happenings (respond s m).station (l ++ join ms)) (drop_of_length-le m {i = length m} (omega arith))
    ∙ all_happened (respond s m).station ms w)

-- what happens by them, counted, is their week
week_is : (ms : List (List ℕ)) → Messages ms → counted_all blank (happened_in start_of ms) ≡ week_of (join ms)
week_is ms w = ap (counted_all blank) (sym (all_happened start_of ms w))

pub rooms_hold_the_week : RoomsHoldTheWeek
rooms_hold_the_week totals station h l rs a w = (counted totals station h l rs a).counted ∙ week_is (messages_in rs) w

-- ---- its text

-- what a count says is full is a place or none
abbrev a_place : Option ℕ → Bool
a_place None = true
a_place (Some p) = ltb p size

place_one : (t : Totals) (x : Happened) → a_place (counted_in t x).full ≡ true
unfolding counted_in
place_one t x = split (ltb (first_full t x) size) (λ e. rw (e, e)) (λ e. rw e)

place_all : (t : Totals) (xs : List Happened) → a_place (counted_all t xs).full ≡ true
unfolding counted_all
place_all t [] = refl
place_all t (x ∷ xs) =
    let c = counted_in t x in
    split (is_none c.full) (λ e. rw e (place_all c.totals xs)) (λ e. rw e (place_one t x))

known_by : (n : ℕ) (o : Option ℕ) → full_by n ≡ o → a_place o ≡ true → known_full n ≡ true
known_by n o e w =
    split (eqb n no_total)
    (λ t. ap known_full (eqb-true n no_total t))
    (λ t. let q : Some n ≡ o = rw t at e in rw (ap a_place q ∙ w))

pub rooms_tell_the_week : RoomsTellTheWeek
unfolding lining
rooms_tell_the_week totals station h l rs a w out =
    let c = counted totals station h l rs a in
    let e = c.counted ∙ week_is (messages_in rs) w in
    let r = (rounds (host_begun totals station) rs).report in
    let k = known_by r.full _ (ap (λ (t : Tally). t.full) c.counted) (place_all blank (happened_in start_of (messages_in rs))) in
    rw (k, le-ltb _ _ c.long) (ap (λ (t : Tally). texting (report_of t.totals t.full) out) e)
