-- What a room holds after any entries is what the calls that they make lead to; so what is promised of calls is promised of rooms.
-- Assumes nothing.
use mathlib.Core.Path.{◌≡◌, refl, sym, ap, subst, ◌∙◌}
use mathlib.Core.Bool.{Bool, cond}
use mathlib.Core.List.{List, [], ◌∷◌, ◌++◌}
use Prim.Native.Nat.{ℕ}
use Rattle.bits.specs.Bits.{bit}
use Rattle.bits.proofs.Cases.{split}
use Rattle.floor.specs.Cars.{Layout}
use Rattle.floor.specs.Sound.{Sound}
use Rattle.station.specs.declared.Station.{Station}
use Rattle.station.specs.Station.{present_issue}
use Rattle.station_laws.specs.Runs as run
use Rattle.station_laws.specs.Runs.{Call, station_after, calls}
use Rattle.station_laws.specs.Jams.{stuck, applied}
use Rattle.station_laws.specs.Orders.{Order, Alike}
use Rattle.station_laws.proofs.Jammed.{always_laid_out, cars_counted}
use Rattle.station_laws.specs.Recovery.{HasWayBack}
use Rattle.station_laws.proofs.Demands.{any_order}
use Rattle.station_laws.proofs.Motion.{however_far}
use Rattle.station_laws.proofs.Recovery.{never_locks_up}
use Rattle.rooms.specs.Rooms.{station_of}
use Rattle.entries_laws.specs.Uses.{Use, start, request, event, result, image, ask, message, entry_used, uses, AsPassed, AllPassed, roomy, call_by, calls_by, NoStarts}
use Rattle.entries_laws.specs.Statements.{RoomsAreRuns, RoomsLaidOut, RoomsCounted, RoomsAnyOrder, RoomsHoweverFar, RoomsNeverLockUp}
use Rattle.entries_laws.proofs.Lent.{Lent, done, skipped, long_enough, too_short, lent_used, lent_uses, begun, begun_begins, meant_calls, accepted_by}

-- ---- one entry after the other

calls_both : (s : Station) (l m : List Call) → calls s (l ++ m) ≡ calls (calls s l) m
calls_both s [] m = refl
calls_both s (c ∷ l) m = calls_both (station_after s c) l m

no_starts : (u : Use) (l : List Use) → NoStarts (u ∷ l) → NoStarts (u ∷ []) × NoStarts l
no_starts start l n = absurd n
no_starts (request k set) l n = (tt, n)
no_starts (event e) l n = (tt, n)
no_starts (result k i ending) l n = (tt, n)
no_starts (image r apart) l n = (tt, n)
no_starts (ask out) l n = (tt, n)
no_starts (message m out) l n = (tt, n)

-- one leads where its call does, and nowhere without room for its answer
by_one : (room : List ℕ) → Lent room → (u : Use) → AsPassed u → NoStarts (u ∷ [])
    → station_of (entry_used room u).leaves ≡ calls (station_of room) (cond (roomy room u) (call_by u) [])
by_one room L u p n =
    let s = station_of room in
    split (roomy room u)
    (λ t. (done room L.long L.typed u p (long_enough room u t)).holds ∙ meant_calls s u n ∙ ap (λ (b : Bool). calls s (cond b (call_by u) [])) (sym t))
    (λ t. ap station_of (skipped room L.long u (too_short room u t)).0 ∙ ap (λ (b : Bool). calls s (cond b (call_by u) [])) (sym t))

by_all : (room : List ℕ) → Lent room → (l : List Use) → AllPassed l → NoStarts l
    → station_of (uses room l) ≡ calls (station_of room) (calls_by room l)
by_all room L [] p n = refl
by_all room L (u ∷ l) p n =
    let (m, k) = no_starts u l n in
    let next = (entry_used room u).leaves in
    by_all next (lent_used room L u p.0) l p.1 k
    ∙ ap (λ (t : Station). calls t (calls_by next l)) (by_one room L u p.0 m)
    ∙ sym (calls_both (station_of room) (cond (roomy room u) (call_by u) []) (calls_by next l))

pub rooms_are_runs : RoomsAreRuns
rooms_are_runs room b l p = (begun_begins room b, (lent_uses room (begun room b) l p).reached, λ n. by_all room (begun room b) l p n)

-- ---- so what is promised of calls holds of rooms

pub rooms_laid_out : RoomsLaidOut
rooms_laid_out room b l p n q c =
    let s = station_of room in
    let made = calls_by room l in
    subst (λ (t : Station). Sound (bit (applied (stuck s made) q t.bits))) (sym (by_all room (begun room b) l p n))
    (always_laid_out s (begun_begins room b) made q c)

pub rooms_counted : RoomsCounted
rooms_counted room b l p n i q c first last d e =
    let s = station_of room in
    let made = calls_by room l in
    cars_counted s made i q c first last d
    (subst (λ (t : Station). Layout (bit (applied (stuck s made) q t.bits)) last) (by_all room (begun room b) l p n) e)

pub rooms_any_order : RoomsAnyOrder
rooms_any_order room b l p u n set m e z fate events x y px py nx ny O P =
    let before = uses room l in
    let L = lent_uses room (begun room b) l p in
    let A = accepted_by before L.long L.typed u (run.request n set) m e z in
    let opened = (entry_used before u).leaves in
    let M = lent_used before L u m in
    let alike = subst (λ (s : Station).
    Order (present_issue s) n fate events (calls_by opened x) → Order (present_issue s) n fate events (calls_by opened y)
    → Alike s (calls_by opened x) (calls_by opened y)) (sym A.holds)
    (any_order (station_of before) L.reached n set A.accepted fate events (calls_by opened x) (calls_by opened y)) O P in
    (alike, by_all opened M x px nx ∙ alike.same ∙ sym (by_all opened M y py ny))

pub rooms_however_far : RoomsHoweverFar
rooms_however_far room b l p n =
    (sym (by_all room (begun room b) l p n), λ q U. however_far (station_of room) (begun_begins room b) (calls_by room l) q U)

pub rooms_never_lock_up : RoomsNeverLockUp
rooms_never_lock_up room b l p =
    let R = (lent_uses room (begun room b) l p).reached in
    subst HasWayBack (sym R.here) (never_locks_up R.origin R.begins R.since)
