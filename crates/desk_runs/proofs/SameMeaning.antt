-- The station's messages mean the same to a desk. Assumes nothing.
use mathlib.Core.Path.{◌≡◌, refl, sym}
use mathlib.Core.Logic.{◌⊎◌, inl, inr, ⊎_elim}
use mathlib.Core.Bool.{true}
use mathlib.Core.List.{List}
use Prim.Native.Nat.{ℕ}
use native.Mathlib.Omega.{arith}
use lib.Dec.{eqb}
use Rattle.bits.proofs.Cases.{split}
use Rattle.answers.specs.Answers.{number_of}
use Rattle.station.specs.declared.Station.{Station}
use Rattle.station.specs.Station.{fit}
use Rattle.station.specs.Calls as calls
use Rattle.station_laws.specs.Runs as station
use Rattle.wire.specs.declared.What.{What}
use Rattle.wire.specs.declared.What.TheVariants.{Request, Event, Result, Image, Ask}
use Rattle.wire.specs.Reads.{read_asked}
use Rattle.service.specs.Service.{called, reply_of, respond}
use Rattle.desk.specs.declared.Desk.{Desk}
use Rattle.desk.specs.Desk.{desk_fit}
use Rattle.desk.specs.Calls.{desk_ask}
use Rattle.desk_laws.specs.Runs as run
use Rattle.desk_laws.specs.Runs.{DeskCall, under}
use Rattle.desk_laws.proofs.Calls.{refused_untouched, as_station}
use Rattle.desk_wire.specs.DeskReads.{as_received, read_desk_asked}
use Rattle.desk_wire.proofs.DeskForms.{station_kinds_same}
use Rattle.desk_service.specs.DeskService.{DeskReplied, brief, no_cards, desk_called, station_said, respond_desk}
use Rattle.desk_runs.specs.DeskRuns.{ToldItself, StationMeansSame}

-- what is to be shown of a reply beside the station's
abbrev Same : Desk → Station → DeskReplied → Type 0
Same d s r = (r.desk.station ≡ s) ⊎ (ToldItself r.told × (r.desk ≡ d))

-- a call that is told as it is answered
call_same : (d : Desk) (c : DeskCall) → desk_fit d ≡ true → Same d (station.station_after d.station (under c)) (brief (desk_called (run.call_desk d c)))
call_same d c f =
    ⊎_elim (λ p. inl p.1) (λ p. inr ((p.1, p.2), refused_untouched d c (λ e. let low = p.1 in absurd (omega arith)))) (as_station d c f)

-- an ask changes nothing
ask_keeps : (s : Station) → (calls.ask s).station ≡ s
unfolding calls.ask
ask_keeps s = split (fit s) (λ t. rw t) (λ t. rw t)

ask_same : (d : Desk) (count : ℕ) (set : List ℕ) → desk_fit d ≡ true → Same d (calls.ask d.station).station (brief (station_said Ask d count set))
unfolding desk_ask
ask_same d count set f = rw f (inl (sym (ask_keeps d.station)))

said_same : (w : What) (d : Desk) (count : ℕ) (set : List ℕ) → desk_fit d ≡ true
    → Same d (reply_of w (called w d.station count set)).station (brief (station_said w d count set))
said_same Request d count set f = call_same d (run.request count set) f
said_same (Event way) d count set f = call_same d (run.event way 0) f
said_same (Result issue number ending) d count set f = call_same d (run.reports (record { issue = issue; number = number; ending = ending })) f
said_same (Image bits apart) d count set f = call_same d (run.pictures (record { bits = bits; apart = apart }) 0 no_cards) f
said_same Ask d count set f = ask_same d count set f
said_same (What.Answer number place issue) d count set f = inl refl
said_same (What.Held bits apart) d count set f = inl refl

pub station_means_same : StationMeansSame
unfolding respond_desk respond
station_means_same d bytes f l k =
    let r = read_asked bytes in
    let e : read_desk_asked bytes ≡ as_received r = station_kinds_same bytes l k in
    let m = r.message in
    rw e (split (eqb (number_of r.answer) 0) (λ t. rw t (said_same m.what d m.count m.set f)) (λ t. rw t (inl refl)))
