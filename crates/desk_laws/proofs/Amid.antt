-- Asks and rejected calls leave the desk as it was, and the order in which stuck instructions finished leaves each number where it is.
-- Assumes nothing.
use mathlib.Core.Path.{◌≡◌, refl, sym, ap, ◌∙◌}
use mathlib.Core.Bool.{Bool, true, false, cond, ◌||◌}
use mathlib.Core.List.{List, [], ◌∷◌}
use Prim.Native.Nat.{ℕ}
use native.Mathlib.Omega.{arith}
use lib.Dec.{eqb}
use lib.ListN.{length}
use Rattle.bits.specs.Bits.{bit, image}
use Rattle.rules.specs.declared.Code.{Code}
use Rattle.answers.specs.declared.Answer.TheVariants.{Taken, Unfit}
use Rattle.any_order.proofs.Jams as machine-jams
use Rattle.station.specs.Held.{held_next}
use Rattle.station_laws.specs.Jams.{jam_at, has}
use Rattle.station_laws.proofs.Changes.{event_taken}
use Rattle.station_laws.proofs.Jammed.{picks_same}
use Rattle.std.specs.declared.result.Result.TheVariants.{Ok}
use Rattle.cards.specs.Held.{numbers_in, code_cards}
use Rattle.desk.specs.declared.Desk.{Desk}
use Rattle.desk.specs.declared.Reply.TheVariants.{Told}
use Rattle.desk.specs.Desk.{desk_fit}
use Rattle.desk.specs.Calls as calling
use Rattle.desk_laws.specs.Runs as desk
use Rattle.desk_laws.specs.Runs.{DeskCall, desk_answer_number, desk_after, calls_desk, DeskBegins, applied_cards, stuck_at, finished_cards}
use Rattle.desk_laws.specs.Amid.{DeskAmid, ends, kept, asked, rejected}
use Rattle.desk_laws.specs.Amid.{DeskAmidExists, DeskAmidUnmoved, DeskAnyOrderAmid, NumbersAnyOrder}
use Rattle.desk_laws.proofs.Calls.{answered, untouched}
use Rattle.desk_laws.proofs.Carrying.{code_length}
use Rattle.desk_laws.proofs.Instance.{Garage}
use Rattle.desk_laws.proofs.Jams.{whichever, finished_is}
use Rattle.desk_laws.proofs.Ends.{whole_always, begins_whole, numbers_same}
use Rattle.desk_laws.proofs.AnyOrder.{desk_any_order}

-- ---- asks and rejected calls

ask_leaves : (d : Desk) → desk_after d desk.ask ≡ d
unfolding calling.desk_ask
ask_leaves d = go (desk_fit d)
  where
    go : (t : Bool) → (cond t (calling.desk_refused d (Told Taken)) (calling.desk_refused d (Told Unfit))).desk ≡ d
    go true = refl
    go false = refl

end_same : {d : Desk} {l m : List DeskCall} → DeskAmid d l m → calls_desk d m ≡ calls_desk d l
end_same ends = refl
end_same (kept c a) = end_same a
end_same (asked {d} {l} a) = end_same a ∙ ap (λ (e : Desk). calls_desk e l) (ask_leaves d)
end_same (rejected {d} {l} c r a) = end_same a ∙ ap (λ (e : Desk). calls_desk e l) (untouched d c r)

pub desk_amid_unmoved : DeskAmidUnmoved
desk_amid_unmoved d l m a = end_same a

no_such_event : (d : Desk) → desk_answer_number d (desk.event 0 0) ≡ 0 → ⊥
no_such_event d e = omega (arith, (event_taken d.station 0 ((answered d (desk.event 0 0) (Ok tt)).0 e).0.1).0)

pub desk_amid_exists : DeskAmidExists
desk_amid_exists d [] = ends
desk_amid_exists d (c ∷ l) =
    let e = desk_after d desk.ask in
    let f = desk_after e (desk.event 0 0) in
    asked (rejected (desk.event 0 0) (no_such_event e) (kept c (desk_amid_exists (desk_after f c) l)))

pub desk_any_order_amid : DeskAnyOrderAmid
desk_any_order_amid d b before n set z fate drives l m P Q x y p q =
    let A = desk_any_order d b before n set z fate drives l m P Q in
    (end_same p ∙ A.same ∙ sym (end_same q), ap (λ (e : Desk). e.station.count) (end_same p) ∙ A.closed.0)

-- ---- stuck instructions

has_same : (l : List ℕ) (j : ℕ) → machine-jams.has l j ≡ has l j
has_same [] j = refl
has_same (i ∷ l) j = ap (λ (b : Bool). eqb i j || b) (has_same l j)

applied_length : (js : List Code) (p : List ℕ) (r : ℕ) (a : List ℕ) → length a ≡ 42 → length (applied_cards js p r a) ≡ 42
applied_length js [] r a h = h
applied_length js (i ∷ p) r a h =
    applied_length js p (image (held_next (jam_at js i) (bit r))) (code_cards (jam_at js i) r a) (code_length (jam_at js i) r a h)

pub numbers_any_order : NumbersAnyOrder
numbers_any_order d b l p q h k e =
    let whole = whole_always l d (begins_whole d b) in
    numbers_same (finished_cards d l p) (finished_cards d l q)
    (applied_length (stuck_at d l) p _ _ whole)
    (applied_length (stuck_at d l) q _ _ whole)
    (λ n m.
    ap (λ (w : Garage). numbers_in w.1 n) (sym (finished_is d b l p h))
    ∙ ap (λ (v : Bool × ℕ). v.1) ((whichever d b l p h).order q (picks_same _ q k) (λ o. has_same p o ∙ e o ∙ sym (has_same q o)) n m)
    ∙ ap (λ (w : Garage). numbers_in w.1 n) (finished_is d b l q k))
