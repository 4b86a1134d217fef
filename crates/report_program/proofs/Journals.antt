-- The week of a journal, append by append. Assumes nothing.
use mathlib.Core.Path.{◌≡◌, refl, sym, ap, ap₂, subst, ◌∙◌}
use mathlib.Core.Bool.{Bool, true, cond}
use mathlib.Core.List.{List, [], ◌∷◌, ◌++◌, append_assoc, append-nil}
use Prim.Native.Nat.{ℕ, ◌<◌}
use native.Mathlib.Omega.{arith}
use lib.Dec.{eqb}
use lib.ListN.{length, get_or}
use lib.Seq.{drop-length}
use Rattle.bits.specs.Places.{join}
use Rattle.bits.proofs.Cases.{split}
use Rattle.station.specs.declared.Station.{Station}
use Rattle.service.specs.Service.{respond}
use Rattle.totals.specs.declared.Happened.{Happened}
use Rattle.totals.specs.declared.Totals.{Totals}
use Rattle.std.specs.Prelude.{is_none}
use Rattle.totals.specs.Totals.{counted_in, counted_all}
use Rattle.week.specs.Weeks.{happened, happenings_for, happenings}
use Rattle.week.proofs.Pieces.{happenings_more}
use Rattle.journal.specs.Journal.{Messages, station_after_messages, Follows}
use Rattle.checksum.specs.Checksum.{crc_over}
use Rattle.journal_file.specs.declared.Replay.{Replay}
use Rattle.journal_file.specs.Appends.{carries_messages, carried_messages}
use Rattle.journal_file.specs.Replaying.{step_of, Leads}
use Rattle.journal_file.specs.Statements.{recorded_in}
use Rattle.journal_file.proofs.Files.{one_follows}
use Rattle.report_program.specs.Journals.{happenings_by, happenings_in, AllMessages, SessionCounted, SessionEnded}

-- ---- whole messages, and more behind them

-- one message
behind_one : (s : Station) (m u : List ℕ) → Messages (m ∷ []) → happenings s (m ++ u) ≡ happened s m ∷ happenings (respond s m).station u
behind_one s m u (e, _) =
    happenings_more s m u (length m) e
    ∙ ap (λ (l : List ℕ). happened s m ∷ happenings (respond s m).station (l ++ u)) (drop-length m)

behind_messages : (s : Station) (ms : List (List ℕ)) (u : List ℕ) → Messages ms
    → happenings s (join ms ++ u) ≡ happenings s (join ms) ++ happenings (station_after_messages s ms) u
unfolding happenings_for
behind_messages s [] u e = refl
behind_messages s (m ∷ ms) u (e, each) =
    ap (happenings s) (append_assoc m (join ms) u)
    ∙ behind_one s m (join ms ++ u) (e, tt)
    ∙ ap (◌∷◌ (happened s m)) (behind_messages (respond s m).station ms u each)
    ∙ ap (λ (l : List Happened). l ++ happenings (station_after_messages (respond s m).station ms) u) (sym (behind_one s m (join ms) (e, tt)))

pub behind_following : {s next : Station} {bytes : List ℕ} → Follows s bytes next → (u : List ℕ)
    → happenings s (bytes ++ u) ≡ happenings s bytes ++ happenings next u
behind_following {s} {next} {bytes} f u =
    ap (λ (l : List ℕ). happenings s (l ++ u)) f.bytes_are
    ∙ behind_messages s f.messages u f.each
    ∙ ap₂ (λ (l : List ℕ) (x : Station). happenings s l ++ happenings x u) (sym f.bytes_are) (sym f.station)

-- ---- a session

module _ (r : Replay) (a : List ℕ) (kind : carries_messages (get_or a 0 0) ≡ true) where
  recorded_one : (rest : List ℕ) → cond (carries_messages (get_or a 0 0)) (carried_messages a) [] ++ rest ≡ carried_messages a ++ rest
  recorded_one rest = ap (λ (b : Bool). cond b (carried_messages a) [] ++ rest) kind

  follows_one : 0 < (step_of crc_over r a).took → Follows r.station (carried_messages a) (step_of crc_over r a).replay.station
  follows_one h =
      subst (λ (l : List ℕ). Follows r.station l (step_of crc_over r a).replay.station)
      (ap (λ (b : Bool). cond b (carried_messages a) []) kind) (one_follows r a h)

-- what more happens behind some reads
session : (r q : Replay) (reads : List (List ℕ)) (u : List ℕ) → Leads r reads q → AllMessages reads
    → happenings r.station (recorded_in reads ++ u) ≡ happenings_in r reads ++ happenings q.station u
session r q [] u l all = ap (λ (x : Replay). happenings x.station u) (sym l)
session r q (a ∷ more) u (h, t, l) (kind, all) =
    let next = (step_of crc_over r a).replay in
    let f = follows_one r a kind (omega (arith, h, t)) in
    ap (happenings r.station) (ap (λ (m : List ℕ). m ++ u) (recorded_one r a kind (recorded_in more)) ∙ append_assoc (carried_messages a) (recorded_in more) u)
    ∙ behind_following f (recorded_in more ++ u)
    ∙ ap (◌++◌ (happenings_by r.station a)) (session next q more u l all)
    ∙ sym (append_assoc (happenings_by r.station a) (happenings_in next more) (happenings q.station u))

-- appends behind others
pub happenings_on : (r q : Replay) (appends more : List (List ℕ)) → Leads r appends q → happenings_in r (appends ++ more) ≡ happenings_in r appends ++ happenings_in q more
happenings_on r q [] more l = ap (λ (x : Replay). happenings_in x more) (sym l)
happenings_on r q (a ∷ rest) more (h, t, l) =
    let next = (step_of crc_over r a).replay in
    ap (◌++◌ (happenings_by r.station a)) (happenings_on next q rest more l)
    ∙ sym (append_assoc (happenings_by r.station a) (happenings_in next rest) (happenings_in q more))

pub session_counted : SessionCounted
session_counted r q reads end l all =
    happenings_on r q reads (end ∷ []) l
    ∙ ap (◌++◌ (happenings_in r reads)) (append-nil (happenings_by q.station end))
    ∙ sym (session r q reads (carried_messages end) l all)

pub session_ended : SessionEnded
unfolding happenings_for
session_ended r q reads l all =
    sym (append-nil (happenings_in r reads))
    ∙ sym (session r q reads [] l all)
    ∙ ap (happenings r.station) (append-nil (recorded_in reads))

-- ---- counted

-- some, and then others
pub counted_both : (t : Totals) (some more : List Happened)
    → counted_all t (some ++ more) ≡ (let c = counted_all t some in cond (is_none c.full) (counted_all c.totals more) c)
unfolding counted_all
counted_both t [] more = refl
counted_both t (h ∷ some) more =
    let c = counted_in t h in
    split (is_none c.full)
    (λ q. rw q (counted_both c.totals some more))
    (λ q. rw (q, q))
