-- Asks and refused calls leave the station as it was: whatever they are put between meets the same stations. Assumes nothing.
use mathlib.Core.Path.{◌≡◌, refl, sym, ap, ◌∙◌}
use mathlib.Core.Bool.{false}
use mathlib.Core.List.{List, [], ◌∷◌}
use native.Mathlib.Omega.{arith}
use borrow.Author.Tests.{eqb-false}
use Rattle.bits.proofs.Cases.{split}
use Rattle.station.specs.declared.Station.{Station}
use Rattle.station_laws.specs.Runs as run
use Rattle.station_laws.specs.Runs.{Call, answer_number, station_after, calls}
use Rattle.station_laws.specs.Orders.{Amid, ends, kept, asked, refused, takes, turns, turns_amid, Alike, AlikeAmid}
use Rattle.station_laws.specs.SafeInAnyOrder.{AmidUnmoved, AmidExists, AmidCovers}
use Rattle.station_laws.proofs.EachCall.{untouched}
use Rattle.station_laws.proofs.Changes.{event_taken}
use Rattle.station_laws.proofs.Steps as step

-- ---- the stations

turns_same : {s : Station} {l m : List Call} (a : Amid s l m) → turns_amid a ≡ turns s l
turns_same ends = refl
turns_same (kept {s} c a) = ap (λ (ts : List Station). s ∷ ts) (turns_same a)
turns_same (asked {s} {l} a) = turns_same a ∙ ap (λ (t : Station). turns t l) (step.asked s)
turns_same (refused {s} {l} c r a) = turns_same a ∙ ap (λ (t : Station). turns t l) (untouched s c r)

end_same : {s : Station} {l m : List Call} → Amid s l m → calls s m ≡ calls s l
end_same ends = refl
end_same (kept c a) = end_same a
end_same (asked {s} {l} a) = end_same a ∙ ap (λ (t : Station). calls t l) (step.asked s)
end_same (refused {s} {l} c r a) = end_same a ∙ ap (λ (t : Station). calls t l) (untouched s c r)

pub amid_unmoved : AmidUnmoved
amid_unmoved s l m a = (turns_same a, end_same a)

pub amid_alike : {s : Station} {l m x y : List Call} (a : Amid s l x) (b : Amid s m y) → Alike s l m → AlikeAmid a b
amid_alike a b h =
    (turns_same a, turns_same b, end_same a ∙ h.same ∙ sym (end_same b), ap (λ (s : Station). s.count) (end_same a) ∙ h.closed.0)

-- ---- such lists

no_such_event : (s : Station) → answer_number s (run.event 0) ≡ 0 → ⊥
no_such_event s e = omega (arith, (event_taken s 0 e).0)

pub amid_exists : AmidExists
amid_exists s [] = ends
amid_exists s (c ∷ l) =
    let t = station_after s run.ask in
    let u = station_after t (run.event 0) in
    asked (refused (run.event 0) (no_such_event t) (kept c (amid_exists (station_after u c) l)))

put_in : (s : Station) (c : Call) → takes s c ≡ false → {l m : List Call} → Amid (station_after s c) l m → Amid s l (c ∷ m)
put_in s (run.request n set) t a = refused _ (eqb-false _ 0 t) a
put_in s (run.reports r) t a = refused _ (eqb-false _ 0 t) a
put_in s (run.event e) t a = refused _ (eqb-false _ 0 t) a
put_in s (run.pictures p) t a = refused _ (eqb-false _ 0 t) a
put_in s run.ask t a = asked a

pub amid_covers : AmidCovers
amid_covers s [] = ends
amid_covers s (c ∷ l) = let a = amid_covers (station_after s c) l in split (takes s c) (λ t. rw t (kept c a)) (λ t. rw t (put_in s c t a))
