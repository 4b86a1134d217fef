-- However a journal is cut into pieces, its replay tells the same; and a turn over a buffer is one piece. Assumes nothing.
use Rattle.std.proofs.Common.{◌≡◌, ℕ, ◌+◌, ◌-◌, ◌%◌, ◌^◌, ◌<◌, ◌≤◌, Bool, true, false, cond, ◌⊎◌, List, [], ◌∷◌, ◌++◌, length, take, drop, sym, refl, ap, ◌∙◌, inl, inr, append_assoc, append-nil, add_assoc, arith, length-append, length-drop, length-take, take_at, drop_at, le-leb}
use Rattle.bits.specs.Places.{join}
use Rattle.station.specs.declared.Station.{Station}
use Rattle.station.specs.Station.{start_of}
use Rattle.wire.specs.declared.Frame.TheVariants.{Cut, Wrong}
use Rattle.wire.specs.Reads.{frame_of}
use Rattle.service.specs.Runs.{Ran, run, serving, enough}
use Rattle.service.proofs.Running.{turn_cut}
use Rattle.service.proofs.Pieces.{left_cut, wrong_more, unless_stopped}
use Rattle.service.specs.declared.buffer.Turned.{Turned}
use Rattle.service.specs.Turns.{holding_front, Turns, turning}
use Rattle.journal.specs.declared.Replay.{Replay}
use Rattle.journal.specs.Journal.{Messages, station_after_messages, Replayed, replay_on, counted}
use Rattle.journal.specs.Pieces.{replay_further, replay_fed, Replays, replaying}
use Rattle.journal.specs.Statements.{Behind, ReplayCutAnywhere, ReplayFeeds}
use Rattle.journal.proofs.Messages.{run_messages, parsed}
use Rattle.journal.proofs.Restart.{messages_cut}
use Rattle.journal.proofs.Which.{messages_wrong, used_within}

-- ---- a piece in a buffer

-- what is held after a turn is no more than there was
pub held_within : (s : Station) (buf : List ℕ) (end : ℕ) (room : List ℕ) (t : Turned) → t ≡ (turning s buf end room).says → t.have ≤ end
unfolding turning holding_front
held_within s buf end room t e =
    let w = (serving s (take end buf) room).says in
    let l = length-drop w.used (take end buf) in
    let k = length-take end buf in
    rw (ap (λ (x : Turned). x.have) e) (omega arith)

pub one_piece : (r : Replay) (buf : List ℕ) (end : ℕ) (room : List ℕ) (t : Turned) (after out : List ℕ) (n : ℕ)
    → Turns (turning r.station buf end room) t after out → n ≡ (r.whole + (end - t.have)) % 2 ^ 64
    → Replays (replaying r buf end room) (record { station = t.station; whole = n; have = t.have; damaged = t.stop }) after out
unfolding replaying
one_piece r buf end room t after out n (says, buffer, answers) e =
    (rw (e, says), buffer, answers)

-- ---- more behind a piece

-- what a run tells of a replay
abbrev told : Ran → Replayed
told r = record { station = r.station; whole = r.used; damaged = r.stop }

-- the whole messages first, and then what stands behind them
replay_behind : (s : Station) (ms : List (List ℕ)) (rest : List ℕ) → Messages ms
    → replay_on s (join ms ++ rest) ≡ replay_further (length (join ms)) (replay_on (station_after_messages s ms) rest)
replay_behind s ms rest w = ap told (run_messages s ms rest w)

-- the replay of a piece, and then of what it left with more behind it
abbrev onwards : Replayed → List ℕ → List ℕ → Replayed
onwards r a t = cond r.damaged r (replay_further r.whole (replay_on r.station (drop r.whole a ++ t)))

replay_more : (s : Station) (a t : List ℕ) → replay_on s (a ++ t) ≡ onwards (replay_on s a) a t
replay_more s a t = by (parsed a)
  where
    by : Behind Cut a ⊎ Behind Wrong a → replay_on s (a ++ t) ≡ onwards (replay_on s a) a t
    by (inl b) =
        let ms = b.messages in
        let whole : replay_on s a ≡ record { station = station_after_messages s ms; whole = length (join ms); damaged = false } =
        ap (replay_on s) b.bytes_are ∙ ap told (messages_cut s ms b.rest b.each b.first) in
        let left : drop (length (join ms)) a ≡ b.rest = ap (drop (length (join ms))) b.bytes_are ∙ drop_at (join ms) b.rest (length (join ms)) refl in
        ap (λ (l : List ℕ). replay_on s (l ++ t)) b.bytes_are
        ∙ ap (replay_on s) (append_assoc (join ms) b.rest t)
        ∙ replay_behind s ms (b.rest ++ t) b.each
        ∙ ap (λ (l : List ℕ). replay_further (length (join ms)) (replay_on (station_after_messages s ms) (l ++ t))) (sym left)
        ∙ ap (λ (r : Replayed). onwards r a t) (sym whole)
    by (inr b) =
        let ms = b.messages in
        let damage : (rest : List ℕ) → frame_of rest ≡ Wrong → replay_on s (join ms ++ rest) ≡ record { station = station_after_messages s ms; whole = length (join ms); damaged = true } =
        λ rest e. ap told (messages_wrong s ms rest b.each e) in
        ap (λ (l : List ℕ). replay_on s (l ++ t)) b.bytes_are
        ∙ ap (replay_on s) (append_assoc (join ms) b.rest t)
        ∙ damage (b.rest ++ t) (wrong_more b.rest t b.first)
        ∙ ap (λ (r : Replayed). onwards r a t) (sym (ap (replay_on s) b.bytes_are ∙ damage b.rest b.first))

all_pieces : (s : Station) (held : List ℕ) (pieces : List (List ℕ)) → frame_of held ≡ Cut → replay_fed s held pieces ≡ replay_on s (held ++ join pieces)
unfolding replay_fed
all_pieces s held [] e = sym (ap (replay_on s) (append-nil held) ∙ ap told (turn_cut s held e))
all_pieces s held (p ∷ ps) e =
    let a = held ++ p in
    let r = replay_on s a in
    unless_stopped r.damaged r
    (λ q. ap (replay_further r.whole) (all_pieces r.station (drop r.whole a) ps (left_cut (length a) s a (omega arith) q)))
    ∙ sym (ap (replay_on s) (sym (append_assoc held p (join ps))) ∙ replay_more s a (join ps))

pub replay_cut_anywhere : ReplayCutAnywhere
replay_cut_anywhere pieces = all_pieces start_of [] pieces refl

-- ---- a piece in a buffer is a piece of a journal

-- what the turn leaves in room that is enough
record Turned-as (s : Station) (input : List ℕ) (t : Turned) (held : List ℕ) : Type 0 where
  station : t.station ≡ (run s input).station
  have : t.have ≡ length (drop (run s input).used input)
  stop : t.stop ≡ (run s input).stop
  rest : held ≡ drop (run s input).used input

turned_as : (s : Station) (held piece past room : List ℕ) → enough (length (held ++ piece)) ≤ length room
    → let t = turning s (held ++ (piece ++ past)) (length held + length piece) room in
    Turned-as s (held ++ piece) t.says (take t.says.have t.buffer)
unfolding turning holding_front serving
turned_as s held piece past room h =
    let input = held ++ piece in
    let buf = held ++ (piece ++ past) in
    let rest = drop (run s input).used input in
    let t : take (length held + length piece) buf ≡ input =
    rw (← append_assoc held piece past) (take_at input past (length held + length piece) (length-append held piece)) in
    rw (t, le-leb (enough (length input)) (length room) h)
    (record { station = refl; have = refl; stop = refl; rest = take_at rest (drop (length rest) buf) (length rest) refl })

pub replay_feeds : ReplayFeeds
unfolding replaying replay_fed
replay_feeds s n held piece past room pieces h small =
    let input = held ++ piece in
    let end = length held + length piece in
    let t = turning s (held ++ (piece ++ past)) end room in
    let a = turned_as s held piece past room h in
    let r = run s input in
    let u = used_within s input in
    let l = length-append held piece in
    let d = length-drop r.used input in
    let k = a.have in
    let whole : counted (n + (end - t.says.have)) ≡ n + r.used =
    ap counted (let e : n + (end - t.says.have) ≡ n + r.used = omega arith in e) ∙ small_count (n + r.used) (omega arith) in
    rw (whole, a.station, a.stop, a.rest)
    (fed n r.stop (told r) (replay_fed r.station (drop r.used input) pieces) refl)
  where
    small_count : (m : ℕ) → m < 2 ^ 64 → counted m ≡ m
    small_count m g = omega arith

    fed : (m : ℕ) (b : Bool) (r x : Replayed) → r.damaged ≡ b
        → replay_further m (cond b r (replay_further r.whole x)) ≡ cond b (record { station = r.station; whole = m + r.whole; damaged = true }) (replay_further (m + r.whole) x)
    fed m true r x e = rw e
    fed m false r x e = rw add_assoc
