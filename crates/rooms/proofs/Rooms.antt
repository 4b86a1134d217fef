-- What an entry leaves, case by case: the same laws serve every entry. Assumes nothing.
use mathlib.Core.Path.{◌≡◌, refl, sym, ap, ◌∙◌}
use mathlib.Core.Bool.{true, false}
use mathlib.Core.List.{List, ◌++◌}
use Prim.Native.Nat.{ℕ, ◌%◌, ◌≤◌, ◌<◌}
use native.Mathlib.Omega.{arith}
use borrow.Author.Tests.{ltb-false, lt-ltb, le-ltb, eq-eqb, ne_eqb}
use lib.Dec.{eqb, ltb}
use lib.ListN.{length, take, drop}
use lib.Seq.{take-length}
use Rattle.bits.proofs.Cases.{split}
use Rattle.answers.specs.declared.Answer.{Answer}
use Rattle.answers.specs.declared.Answer.TheVariants.{NoRoom}
use Rattle.answers.specs.Answers.{number_of}
use Rattle.station.specs.declared.Station.{Station}
use Rattle.station.specs.declared.Outcome.{Outcome}
use Rattle.rooms.specs.Rooms.{station_bytes, station_of, lent_station, returned, LeavesRoom, writes, telling, outcome_kept, entry}
use Rattle.rooms.proofs.Promises.{number_reads_back}

-- what is told where it doesn't fit
pub no_place : (n : ℕ) (bytes room : List ℕ) {r : ℕ} → length room < length bytes → r ≡ returned NoRoom → LeavesRoom (telling n bytes room) r room
unfolding telling
no_place n bytes room h e = rw (lt-ltb _ _ h) (e, refl)

-- refused, nothing is written
pub not_taken : (n : ℕ) (bytes room : List ℕ) → length bytes ≤ length room → (n % 256 ≡ 0 → ⊥) → LeavesRoom (telling n bytes room) n room
unfolding telling
not_taken n bytes room l h = rw (le-ltb _ _ l, ne_eqb _ _ h) (refl, refl)

-- taken, the bytes are
pub all_taken : (n : ℕ) (bytes room : List ℕ) {last : List ℕ} → length bytes ≤ length room → n % 256 ≡ 0
    → last ≡ take (length bytes) bytes ++ drop (length bytes) room → LeavesRoom (telling n bytes room) n last
unfolding telling
all_taken n bytes room l h e = rw (le-ltb _ _ l, eq-eqb _ _ h) (refl, e ∙ rw take-length)

-- an answer that is told is written, in the bytes that stand for it
pub as_writes : (a : Answer) (bytes room : List ℕ) {b : List ℕ} {n r : ℕ} {last : List ℕ} → b ≡ bytes → length b ≤ length room → n ≡ returned a
    → LeavesRoom (telling n b room) r last → LeavesRoom (writes a bytes room) r last
unfolding telling writes
as_writes a bytes room {b} d l e w =
    let fits : ltb (length room) (length b) ≡ false = le-ltb _ _ l in
    let zero : eqb (returned a % 256) 0 ≡ eqb (number_of a) 0 = ap (λ (k : ℕ). eqb k 0) (number_reads_back a) in
    let t = rw (e, fits, zero) at w in rw (← d) t

-- an outcome, by its station in bytes
pub outcome_kept_lem : (o : Outcome) (room : List ℕ) {b : List ℕ} {n r : ℕ} {last : List ℕ} → b ≡ station_bytes o.station → length b ≡ 60 → n ≡ returned o.answer
    → LeavesRoom (telling n b room) r last → LeavesRoom (outcome_kept o room) r last
unfolding outcome_kept telling
outcome_kept_lem o room {b} e l f w = split (ltb (length room) 60)
    (λ t. let u = rw (l, t) at w in rw t u)
    (λ t. rw t (as_writes o.answer (station_bytes o.station) room e (omega (arith, ltb-false (length room) 60 t, l)) f w))

-- the station that a room holds which is long enough
pub lent_there : (room : List ℕ) {s : Station} → 60 ≤ length room → s ≡ lent_station room → s ≡ station_of room
unfolding lent_station
lent_there room h e = e ∙ rw (le-ltb (length room) 60 h)

-- an entry whose room is too short
pub short : (call : Station → Outcome) (room : List ℕ) {r : ℕ} → length room < 60 → r ≡ returned NoRoom → LeavesRoom (entry call room) r room
unfolding entry
short call room h e = rw (lt-ltb _ _ h) (e, refl)

-- any other leaves what its call's outcome says
pub entered : (call : Station → Outcome) (room : List ℕ) {s : Station} {o : Outcome} {r : ℕ} {last : List ℕ} → 60 ≤ length room
    → s ≡ lent_station room → o ≡ call s → LeavesRoom (outcome_kept o room) r last → LeavesRoom (entry call room) r last
unfolding entry outcome_kept
entered call room h e f w = rw (← lent_there room h e, ← f) w
