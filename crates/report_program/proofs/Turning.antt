-- A turn as the program's loop has it: what it holds is less than a message, unless it stops; and round after round of turns, the totals are
-- those of all that was read. Assumes nothing.
use mathlib.Core.Path.{◌≡◌, refl, sym, ap, ap₂, subst, ◌∙◌}
use mathlib.Core.Bool.{Bool, true, false, cond}
use mathlib.Core.List.{List, [], ◌∷◌, ◌++◌, append_assoc}
use Prim.Native.Nat.{ℕ, ◌≤◌}
use native.Mathlib.Omega.{arith}
use lib.ListN.{length, take, drop, take-append-drop}
use lib.Seq.{take-take, take_at}
use Rattle.bits.proofs.Cases.{clash}
use Rattle.station.specs.declared.Station.{Station}
use Rattle.station.specs.Station.{start_of}
use Rattle.std.specs.declared.option.Option.{Option}
use Rattle.std.specs.declared.option.Option.TheVariants.{Some, None}
use Rattle.std.specs.declared.result.Result.TheVariants.{Ok, Err}
use Rattle.streams.specs.Input.{Input, Fills}
use Rattle.totals.specs.declared.Totals.{Totals}
use Rattle.totals.specs.Totals.{totals_of, blank, LeavesCounts}
use Rattle.service.specs.Turns as turns
use Rattle.service.specs.Turns.{Holding, holding_front}
use Rattle.service.proofs.TurnStatements.{cut_below}
use Rattle.week.specs.declared.Counted.{Counted}
use Rattle.week.specs.Counts.{Counting, Counts, tally_in, count_on, count_end, count_fed}
use Rattle.week.proofs.Pieces.{left_cut, week_cut_anywhere}
use Rattle.report_program.specs.declared.Between.{Between}
use Rattle.report_program.specs.Turning.{count_turn, close_turn, failed_turn, turn_by, TurnIs, TurnByRead, Short, Week, HasWeek}

-- ---- one turn

-- a read fills no more than the buffer
pub filled : (before after : List ℕ) (have end : ℕ) (r : Input) → Fills before have r after → r ≡ Ok (Some end) → end ≤ length before
filled before after have end r f e = let g : Fills before have (Ok (Some end)) after = subst (λ (x : Input). Fills before have x after) e f in g.1

-- the count and the hold are a turn
pub as_count_turn : (t : Totals) (s : Station) (buf : List ℕ) (end : ℕ) {w : Counted} {counts : List ℕ} {have : ℕ} {after : List ℕ}
    → Counts (count_on t s (take end buf)) w counts → turns.Holds (holding_front w.used end buf) have after
    → TurnIs (count_turn t s buf end) (record { station = w.station; have = have; full = w.full; stop = w.stop; failed = false }) counts after
unfolding count_turn
as_count_turn t s buf end {w} {counts} {have} {after} (says, leaves) (holds, front) =
    let held = ap (λ (r : Counted). holding_front r.used end buf) says in (
      ap₂ (λ (r : Counted) (n : ℕ). record { station = r.station; have = n; full = r.full; stop = r.stop; failed = false }) says
          (holds ∙ ap (λ (h : Holding). h.says) held),
      leaves,
      front ∙ ap (λ (h : Holding). h.leaves) held,
    )

pub held_short : (t : Totals) (s : Station) (buf : List ℕ) (end : ℕ) {r : Between} {counts after : List ℕ} → TurnIs (count_turn t s buf end) r counts after → Short r
unfolding count_turn holding_front
held_short t s buf end (says, _, _) q =
    let input = take end buf in
    let stop = sym (ap (λ (b : Between). b.stop) says) ∙ q in
    rw (ap (λ (b : Between). b.have) says)
    (cut_below (drop (count_on t s input).says.used input) (left_cut (length input) t s input (omega arith) stop))

pub as_close_turn : (c : List ℕ) (s : Station) (buf : List ℕ) (have : ℕ) {full : Option ℕ} {counts : List ℕ} → LeavesCounts (count_end (totals_of c) s (take have buf)) full counts
    → TurnIs (close_turn (totals_of c) s buf have) (record { station = s; have = 0; full = full; stop = true; failed = false }) counts buf
unfolding close_turn
as_close_turn c s buf have h = (ap (λ (n : Option ℕ). record { station = s; have = 0; full = n; stop = true; failed = false }) h.full, h.counts, refl)

pub close_stops : (t : Totals) (s : Station) (buf : List ℕ) (have : ℕ) → (close_turn t s buf have).says.stop ≡ true
unfolding close_turn
close_stops t s buf have = refl

-- a turn by what a read was found to bring
pub turned_by : (t : Totals) (b : Between) (before read : List ℕ) (input : Input) {found : Input} {r : Between} {counts buf : List ℕ}
    → Fills before b.have found read → found ≡ input → TurnIs (turn_by t b.station b.have input read) r counts buf
    → TurnByRead t b before r counts buf
turned_by t b before read input f e u =
    record { input = input; read = read; fills = subst (λ (x : Input). Fills before b.have x read) e f; turns = u }

-- what a turn that stops holds is of no matter
pub stopped_short : {r x : Between} → r ≡ x → x.stop ≡ true → Short r
stopped_short e stop q = clash (ap (λ (b : Between). b.stop) e ∙ stop) q

-- ---- turn after turn

-- between two turns: after these pieces, whatever pieces follow, the count goes on from here as from the start
pub record SoFar (counts : List ℕ) (b : Between) (buf : List ℕ) : Type 0 where
  pub pieces : List (List ℕ)
  pub on : (more : List (List ℕ))
      → count_fed blank start_of [] (pieces ++ more) ≡ count_fed (totals_of counts) b.station (take b.have buf) more

-- before the first turn
pub nothing_yet : (counts : List ℕ) (b : Between) (buf : List ℕ) → counts ≡ blank.counts → b.station ≡ start_of → b.have ≡ 0 → SoFar counts b buf
nothing_yet counts b buf e s h = record { pieces = []; on = λ more. rw (e, s, h) }

-- a week that has come to its end
module _ {counts : List ℕ} {b : Between} {before : List ℕ} (so : SoFar counts b before) where
  -- after these pieces and some more, with nothing left
  ended : (more : List (List ℕ)) {full : Option ℕ} {last : List ℕ} → count_fed (totals_of counts) b.station (take b.have before) more ≡ record { totals = totals_of last; full = full }
      → Week last full
  ended more e = record {
    pieces = so.pieces ++ more;
    counted = sym e ∙ sym (so.on more) ∙ week_cut_anywhere blank start_of (so.pieces ++ more);
  }

  -- what holds after a turn
  abbrev After : Between → List ℕ → List ℕ → Type 0
  After r last buf = HasWeek r last × (r.stop ≡ false → SoFar last r buf)

  -- a read brought bytes
  module _ (end : ℕ) (read : List ℕ) (fills : Fills before b.have (Ok (Some end)) read) where
    abbrev piece : List ℕ
    piece = drop b.have (take end read)

    abbrev w : Counting
    w = count_on (totals_of counts) b.station (take end read)

    abbrev rest : List ℕ
    rest = drop w.says.used (take end read)

    behind : take b.have before ++ piece ≡ take end read
    behind =
        ap (λ (l : List ℕ). l ++ piece) (sym fills.2 ∙ sym (take-take b.have end read (let l = fills.0 in omega arith)))
        ∙ take-append-drop b.have (take end read)

    one_more : (more : List (List ℕ)) → count_fed (totals_of counts) b.station (take b.have before) (piece ∷ more)
        ≡ cond w.says.stop (tally_in w) (count_fed w.leaves w.says.station rest more)
    unfolding count_fed
    one_more more =
        ap (λ (l : List ℕ). let v = count_on (totals_of counts) b.station l in
        cond v.says.stop (tally_in v) (count_fed v.leaves v.says.station (drop v.says.used l) more)) behind

    by_bytes : {r : Between} {last buf : List ℕ} → TurnIs (count_turn (totals_of counts) b.station read end) r last buf → After r last buf
    unfolding count_turn holding_front
    by_bytes {r} {last} {buf} (says, leaves, front) = (
      λ q _. ended (piece ∷ [])
          (one_more []
          ∙ ap (λ (t : Bool). cond t (tally_in w) (count_fed w.leaves w.says.station rest [])) (sym (ap (λ (x : Between). x.stop) says) ∙ q)
          ∙ ap₂ (λ (l : List ℕ) (n : Option ℕ). record { totals = totals_of l; full = n }) (sym leaves) (sym (ap (λ (x : Between). x.full) says))),
      λ q. record {
        pieces = so.pieces ++ (piece ∷ []);
        on = λ more.
            ap (count_fed blank start_of []) (append_assoc so.pieces (piece ∷ []) more)
            ∙ so.on (piece ∷ more)
            ∙ one_more more
            ∙ ap (λ (t : Bool). cond t (tally_in w) (count_fed w.leaves w.says.station rest more)) (sym (ap (λ (x : Between). x.stop) says) ∙ q)
            ∙ rw (ap (λ (x : Between). x.station) says, ap (λ (x : Between). x.have) says, leaves, front, take_at rest (drop (length rest) read) (length rest) refl);
      },
    )

  -- the input has ended
  by_end : (read : List ℕ) → Fills before b.have (Ok None) read → {r : Between} {last buf : List ℕ}
      → TurnIs (close_turn (totals_of counts) b.station read b.have) r last buf → After r last buf
  unfolding close_turn count_fed
  by_end read (_, kept) {r} {last} (says, leaves, front) = (
    λ _ _. ended []
        (ap (count_end (totals_of counts) b.station) (sym kept)
        ∙ ap₂ (λ (l : List ℕ) (n : Option ℕ). record { totals = totals_of l; full = n }) (sym leaves) (sym (ap (λ (x : Between). x.full) says))),
    λ q. clash (ap (λ (x : Between). x.stop) says) q,
  )

  -- a read has failed
  by_failure : {r : Between} {last buf : List ℕ} → r ≡ failed_turn b.station → After r last buf
  by_failure says = (λ _ q. clash (ap (λ (x : Between). x.failed) says) q, λ q. clash (ap (λ (x : Between). x.stop) says) q)

  by_input : (input : Input) (read : List ℕ) → Fills before b.have input read → {r : Between} {last buf : List ℕ}
      → TurnIs (turn_by (totals_of counts) b.station b.have input read) r last buf → After r last buf
  by_input (Ok (Some end)) read f u = by_bytes end read f u
  by_input (Ok None) read f u = by_end read f u
  by_input (Err e) read f u = by_failure u.0

  pub turned_on : {r : Between} {last buf : List ℕ} → TurnByRead (totals_of counts) b before r last buf
      → HasWeek r last × (r.stop ≡ false → SoFar last r buf)
  turned_on o = by_input o.input o.read o.fills o.turns
