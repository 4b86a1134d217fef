-- Instructions with areas apart, each allowed and clear of drives, stay so while others of them finish: so whichever do, the numbers are
-- those of the cars. Assumes nothing.
use mathlib.Core.Path.{◌≡◌, refl, ap₂, ◌∙◌}
use mathlib.Core.Logic.{inl, inr, ⊎_elim}
use mathlib.Core.Bool.{Bool, true, false, not}
use mathlib.Core.List.{List, [], ◌∷◌}
use Prim.Native.Nat.{ℕ, ◌+◌}
use lib.Dec.{eqb}
use Rattle.bits.specs.Bits.{Bits, digit}
use Rattle.bits.specs.Places.{share}
use Rattle.bits.proofs.Cases.{clash, off}
use Rattle.bits.proofs.Sharing.{share_at}
use Rattle.floor.specs.Floor.{lift, drive_in, drive_out}
use Rattle.floor.specs.Tests.{holds, under_way}
use Rattle.floor.specs.Sound.{Sound}
use Rattle.rules.specs.declared.Instruction.{Instruction}
use Rattle.rules.specs.declared.Instruction.TheVariants.{Belts, Shuttles, Tilt, Lift, Rotate}
use Rattle.rules.specs.Rules.{well_formed, area_of, area, overlap, seen, allowed, next_record}
use Rattle.rules_laws.specs.Laws.{Clear}
use Rattle.rules_laws.specs.Undoing.{record_after}
use Rattle.rules_laws.proofs.Laws.{same_verdict_lem, kept_outside_lem, sides_kept, stays_sound}
use Rattle.cards.specs.Following.{numbers_after}
use Rattle.cards_laws.specs.Statements.{AllAllowed, InNone, Whichever}
use Rattle.cards_laws.proofs.Sources.{numbers_outside, drive_outside}
use Rattle.cards_laws.proofs.Laws.{fine, cards_after}

module _ (i : Instruction) (f : Bits) (s : Sound f) (ok : allowed i f ≡ true) where
  well : well_formed i ≡ true
  well = (fine i f s ok).0

  -- no drive begins or ends
  same_drives : holds under_way (next_record i f) ≡ holds under_way f
  same_drives =
      ap₂ (λ (a b : Bool). not (eqb (digit a + (digit b + 0)) 0))
      (kept_outside_lem i well f drive_in (drive_outside i well drive_in tt)) (kept_outside_lem i well f drive_out (drive_outside i well drive_out tt))

  still_clear : (j : Instruction) → Clear j f → Clear j (next_record i f)
  still_clear j c = ⊎_elim (λ (idle : holds under_way f ≡ false). inl (same_drives ∙ idle)) (λ (o : share (area_of j) lift ≡ false). inr o) c

  -- what a lift run sees besides its area stays, where it has no place in common with it
  seen_kept : (j : Instruction) → ((k : ℕ) → area i k ≡ true → area j k ≡ false) → seen j (next_record i f) ≡ seen j f
  unfolding area overlap
  seen_kept (Belts row mask toward size) p = refl
  seen_kept (Shuttles side mask orientation toward) p = refl
  seen_kept (Tilt side row orientation) p = refl
  seen_kept (Lift height) p =
      sides_kept i height (off (overlap i (Lift height)) (λ t. let (k, m, o) = share_at (area_of i) (area_of (Lift height)) t in clash o (p k m))) f s ok
  seen_kept Rotate p = refl

  -- those that are apart from it stay allowed
  still : (is : List Instruction) → AllAllowed is f → ((k : ℕ) → area i k ≡ true → InNone is k) → AllAllowed is (next_record i f)
  still [] a p = tt
  still (j ∷ is) a p = (
    same_verdict_lem j (next_record i f) f
        (λ k h. kept_outside_lem i well f k (off (area i k) (λ t. clash h (p k t).0))) (seen_kept j (λ k t. (p k t).0))
        ∙ a.0,
    still_clear j a.1,
    still is a.2 (λ k t. (p k t).1),
  )

pub whichever : Whichever
unfolding record_after
whichever [] f n s c a p = (s, c, λ k h. refl)
whichever (i ∷ is) f n s c a p =
    let ok = a.0 in
    let (sound, cards, out) =
    whichever is (next_record i f) (numbers_after i f n) (stays_sound i f s a.1 ok) (cards_after i f s ok n c) (still i f s ok is a.2 p.0) p.1 in
    (sound, cards, λ k h. out k h.1 ∙ numbers_outside i (well i f s ok) f n k h.0)
