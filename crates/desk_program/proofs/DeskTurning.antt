-- A turn as the program's loop has it: what it holds lies within the buffer, and is less than a message unless answers had no room or it
-- stops. Assumes nothing.
use mathlib.Core.Path.{◌≡◌, refl, sym, ap, subst, ◌∙◌}
use mathlib.Core.Bool.{Bool, true, false, ◌||◌}
use mathlib.Core.List.{List}
use Prim.Native.Nat.{ℕ, ◌≤◌}
use native.Mathlib.Omega.{arith}
use borrow.Author.Tests.{le-ltb}
use lib.ListN.{length, take, drop, length-take, length-drop, length-append}
use lib.Seq.{slice}
use Rattle.bits.proofs.Cases.{neither, clash}
use Rattle.std.specs.declared.option.Option.TheVariants.{Some}
use Rattle.std.specs.declared.result.Result.TheVariants.{Ok}
use Rattle.streams.specs.Input.{Input, Fills}
use Rattle.service.specs.Turns.{Holds, holding_front}
use Rattle.desk.specs.declared.Desk.{Desk}
use Rattle.desk_buffer.specs.declared.DeskServed.{DeskServed}
use Rattle.desk_buffer.specs.DeskServing.{DeskServing, DeskServes, desk_run, served_desk, desk_serving}
use Rattle.desk_buffer.proofs.DeskRest.{desk_rest_is_short}
use Rattle.desk_program.specs.declared.Between.{Between}
use Rattle.desk_program.specs.DeskTurns.{desk_turning, AsDeskTurn, DeskGoes, DeskTurnedOver}

-- a read fills no more than the buffer
pub filled : (before after : List ℕ) (have end : ℕ) (r : Input) → Fills before have r after → r ≡ Ok (Some end) → end ≤ length before
filled before after have end r f e = let g : Fills before have (Ok (Some end)) after = subst (λ (x : Input). Fills before have x after) e f in g.1

module _ (d : Desk) (buf : List ℕ) (end : ℕ) (out sent : List ℕ) {w : DeskServed} {made gone after : List ℕ} {have : ℕ} (room : length buf ≤ length sent)
    (s : DeskServes (desk_serving d (take end buf) out sent) w made gone) (h : Holds (holding_front w.used end buf) have after) where
  -- in room that is enough it is a run
  ran : desk_serving d (take end buf) out sent ≡ served_desk (desk_run (length out) d (take end buf)) out sent
  unfolding desk_serving
  ran = let l = length-take end buf in rw (le-ltb (length sent) (length (take end buf)) (omega arith))

  said : w ≡ (served_desk (desk_run (length out) d (take end buf)) out sent).says
  said = s.0 ∙ ap (λ (x : DeskServing). x.says) ran

  held : have ≡ length (drop (desk_run (length out) d (take end buf)).used (take end buf))
  unfolding holding_front
  held = h.0 ∙ ap (λ (n : ℕ). length (drop n (take end buf))) (ap (λ (x : DeskServed). x.used) said)

  kept_long : length after ≡ length buf
  unfolding holding_front
  kept_long =
      let x = slice w.used end buf in
      let a = length-append x (drop (length x) buf) in
      let b = length-drop (length x) buf in
      let c = length-drop w.used (take end buf) in
      let e = length-take end buf in
      ap length h.1 ∙ (omega arith)

  pub goes : {t : Between} (other : Bool) → t ≡ record { desk = w.desk; have = have; full = w.full; stop = w.stop || other } → DeskGoes t after
  goes {t} other e z =
      let c = length-drop (desk_run (length out) d (take end buf)).used (take end buf) in
      let l = length-take end buf in
      let k = held in
      let m = kept_long in
      let stop = sym (ap (λ (x : DeskServed). x.stop) said) ∙ (neither w.stop other (sym (ap (λ (x : Between). x.stop) e) ∙ z)).0 in
      rw (ap (λ (x : Between). x.have) e, ap (λ (x : Between). x.full) e)
      (omega arith, λ q. let r = desk_rest_is_short (length out) d (take end buf) stop (sym (ap (λ (x : DeskServed). x.full) said) ∙ q) in omega arith)

  pub as_desk_turn : {t : Between} (other : Bool) → t ≡ record { desk = w.desk; have = have; full = w.full; stop = w.stop || other }
      → AsDeskTurn (desk_turning d buf end out sent) t after made gone
  unfolding desk_turning
  as_desk_turn {t} other e =
      let says = s.0 in
      let used = ap (λ (x : DeskServed). x.used) says in
      rw e (
        ap (λ (x : DeskServed). x.desk) says,
        h.0 ∙ ap (λ (n : ℕ). (holding_front n end buf).says) used,
        ap (λ (x : DeskServed). x.full) says,
        (λ q. sym (ap (λ (x : DeskServed). x.stop) says) ∙ (neither w.stop other q).0),
        h.1 ∙ ap (λ (n : ℕ). (holding_front n end buf).leaves) used,
        s.1,
        s.2,
      )

-- over what was held, and over what was read
pub over_held : (b : Between) {t : Between} (before out₀ sent₀ : List ℕ) {buf out sent : List ℕ} → b.full ≡ true → AsDeskTurn (desk_turning b.desk before b.have out₀ sent₀) t buf out sent
    → DeskTurnedOver b before out₀ sent₀ t buf out sent
over_held b before out₀ sent₀ f a = record { end = b.have; read = before; held = λ _. (refl, refl); fills = λ z. clash f z; turned = a }

pub over_read : (b : Between) {t : Between} (before read out₀ sent₀ : List ℕ) {buf out sent : List ℕ} (end : ℕ) {r : Input} → b.full ≡ false → Fills before b.have r read → r ≡ Ok (Some end)
    → AsDeskTurn (desk_turning b.desk read end out₀ sent₀) t buf out sent → DeskTurnedOver b before out₀ sent₀ t buf out sent
over_read b before read out₀ sent₀ end f g e a =
    record { end = end; read = read; held = λ z. clash z f; fills = λ _. subst (λ (x : Input). Fills before b.have x read) e g; turned = a }
