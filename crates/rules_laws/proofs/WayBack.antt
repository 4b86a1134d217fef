-- The promises of specs/Undoing.antt: each move is undone, and so are moves one after the other, from the last back to the first.
-- Assumes nothing.
use mathlib.Core.Path.{◌≡◌, refl, sym, ap, subst, ◌∙◌, fun_ext}
use mathlib.Core.Logic.{inl, inr}
use mathlib.Core.Bool.{Bool, true, false, not, ◌&&◌, beq}
use mathlib.Core.List.{List, [], ◌∷◌, ◌++◌}
use Prim.Native.Nat.{◌+◌}
use lib.Dec.{T, eqb}
use Rattle.bits.specs.Bits.{Bits, bit, digit}
use Rattle.bits.specs.Places.{share}
use Rattle.bits.specs.Search.{every}
use Rattle.bits.proofs.Cases.{both, clash, and_intro, beq→eq, T→true, true→T}
use Rattle.floor.specs.Floor.{lift, street, drives, drive_in, drive_out}
use Rattle.floor.specs.Tests.{holds, all_hold, height_is, under_way}
use Rattle.floor.specs.Sound.{Sound, sound_rules}
use Rattle.floor.proofs.Reading.{holds_agree, nth_holds}
use Rattle.floor.proofs.Rows.{whole_iff_paired}
use Rattle.floor.proofs.Standing.{or_else}
use Rattle.floor.proofs.Promises.{layout_exactly}
use Rattle.rules.specs.declared.Instruction.{Instruction}
use Rattle.rules.specs.declared.Instruction.TheVariants.{Belts, Shuttles, Tilt, Lift, Rotate}
use Rattle.rules.specs.declared.Event.TheVariants.{EndDone}
use Rattle.rules.specs.Rules.{well_formed, area_of, conditions, changes, allowed, next_record}
use Rattle.rules.specs.Events.{possible, after_event}
use Rattle.rules.proofs.Every.{everywhere, each}
use Rattle.rules_laws.specs.Laws.{Clear}
use Rattle.rules_laws.specs.Undoing.{undo, Undoes, EveryMoveUndone, UndoneNeedsSound}
use Rattle.rules_laws.specs.Undoing.{record_after, Moves, way_back, AlwaysAWayBack, Reaches, StillReached, LastInCanLeave}
use Rattle.rules_laws.proofs.Tried.{targets, not_target}
use Rattle.rules_laws.proofs.RulesKept.{apart_at}
use Rattle.rules_laws.proofs.Undoing.{Back, undone, turned}
use Rattle.rules_laws.proofs.Laws.{stays_sound, event_sound}

-- ---- one move

well : (i : Instruction) (f : Bits) → allowed i f ≡ true → (well_formed i ≡ true) × (all_hold (conditions i) f ≡ true)
unfolding allowed
well i f ok = both (well_formed i) (all_hold (conditions i) f) ok

-- no drive is changed by an instruction
abbrev leaves_drives : Instruction → Bool
leaves_drives i = not (share drives (targets (changes i)))

all_leave : T (everywhere leaves_drives)
unfolding everywhere every
all_leave = tt

same_drives : (i : Instruction) (f : Bits) → well_formed i ≡ true → holds under_way (next_record i f) ≡ holds under_way f
unfolding next_record
same_drives i f w =
    holds_agree drives (next_record i f) f
    (λ k m. not_target (changes i) f k
    (apart_at drives (targets (changes i)) (none (share drives (targets (changes i))) (each leaves_drives all_leave i (true→T w))) k m))
    under_way tt
  where
    none : (b : Bool) → T (not b) → b ≡ false
    none true t = absurd t
    none false t = refl

-- what undoes an instruction has the lift in its area if that one has
abbrev lift_alike : Instruction → Bool
lift_alike i = beq (share (area_of (turned i)) lift) (share (area_of i) lift)

all_alike : T (everywhere lift_alike)
unfolding everywhere every
all_alike = tt

same_lift : (i : Instruction) (f : Bits) → well_formed i ≡ true → share (area_of (undo i f)) lift ≡ share (area_of i) lift
same_lift i f w = whichever i ∙ beq→eq (share (area_of (turned i)) lift) (share (area_of i) lift) (each lift_alike all_alike i (true→T w))
  where
    whichever : (i : Instruction) → share (area_of (undo i f)) lift ≡ share (area_of (turned i)) lift
    whichever (Belts row mask toward size) = refl
    whichever (Shuttles side mask orientation toward) = refl
    whichever (Tilt side row orientation) = refl
    whichever (Lift height) = refl
    whichever Rotate = refl

undone_at : (i : Instruction) (f : Bits) → Sound f → allowed i f ≡ true → Undoes (undo i f) i f
unfolding allowed next_record
undone_at i f s ok = record {
  formed = T→true (well_formed (undo i f)) b.formed;
  goes = and_intro (T→true (well_formed (undo i f)) b.formed) (T→true (all_hold (conditions (undo i f)) (next_record i f)) b.hold);
  clear = clear;
  back = b.same;
}
  where
    w : (well_formed i ≡ true) × (all_hold (conditions i) f ≡ true)
    w = well i f ok

    b : Back (undo i f) i f
    b = undone i f (true→T w.0) (true→T w.1) (true→T s.rules) ((whole_iff_paired f).0 ((layout_exactly f).1 s.layout))

    clear : Clear i f → Clear (undo i f) (next_record i f)
    clear (inl idle) = inl (same_drives i f w.0 ∙ idle)
    clear (inr elsewhere) = inr (same_lift i f w.0 ∙ elsewhere)

pub every_move_undone : EveryMoveUndone
every_move_undone i f s ok = undone_at i f s ok

-- a car stands in row 2 at the left, where no lowered shuttle is: an empty one that comes there from row 1 wipes it out, and then the
-- garage has no car that could be brought there
abbrev wiped : Bits
wiped = bit 0x00089D0000100000

abbrev unbrought : Instruction → Bool
unbrought j = not (next_record j (next_record (Shuttles 0 1 0 1) wiped) 20)

all_unbrought : T (everywhere unbrought)
unfolding everywhere every next_record
all_unbrought = tt

pub undone_needs_sound : UndoneNeedsSound
unfolding allowed
undone_needs_sound = record {
  bits = wiped;
  instruction = Shuttles 0 1 0 1;
  goes = refl;
  lost = λ j ok b. clash (b 20)
      (gone (next_record j (next_record (Shuttles 0 1 0 1) wiped) 20) (each unbrought all_unbrought j (true→T (well j _ ok).0)));
}
  where
    gone : (b : Bool) → T (not b) → b ≡ false
    gone true t = absurd t
    gone false t = refl

-- ---- moves one after the other

moves_append : (is js : List Instruction) (f : Bits) → Moves is f → Moves js (record_after is f) → Moves (is ++ js) f
unfolding Moves record_after
moves_append [] js f m n = n
moves_append (i ∷ is) js f m n = (m.0, m.1, moves_append is js (next_record i f) m.2 n)

after_append : (is js : List Instruction) (f : Bits) → record_after (is ++ js) f ≡ record_after js (record_after is f)
unfolding record_after
after_append [] js f = refl
after_append (i ∷ is) js f = after_append is js (next_record i f)

one_more : (i : Instruction) (is : List Instruction) (f : Bits) → allowed i f ≡ true → Clear i f → Moves is (next_record i f) → Moves (i ∷ is) f
unfolding Moves
one_more i is f ok c m = (ok, c, m)

-- the way back as an equation between records
way_back_lem : (is : List Instruction) (f : Bits) → Sound f → Moves is f
    → Moves (way_back is f) (record_after is f) × (record_after (way_back is f) (record_after is f) ≡ f)
unfolding Moves record_after way_back
way_back_lem [] f s m = (tt, refl)
way_back_lem (i ∷ is) f s m =
    let g = next_record i f in
    let h = record_after is g in
    let (n, e) = way_back_lem is g (stays_sound i f s m.1 m.0) m.2 in
    let u : Undoes (undo i f) i f = undone_at i f s m.0 in (
      moves_append (way_back is g) (undo i f ∷ []) h n
          (subst (Moves (undo i f ∷ [])) (sym e) (one_more (undo i f) [] g u.goes (u.clear m.1) tt)),
      after_append (way_back is g) (undo i f ∷ []) h ∙ ap (next_record (undo i f)) e ∙ fun_ext u.back,
    )

pub always_a_way_back : AlwaysAWayBack
always_a_way_back f s is m =
    let (n, e) = way_back_lem is f s m in
    (n, λ k. ap (λ (g : Bits). g k) e)

-- ---- what can be reached

reached_still : (f g h : Bits) → Sound f → Reaches f g → Reaches f h → Reaches g h
reached_still f g h s a b =
    let (n, e) = way_back_lem a.by f s a.moves in
    let r : record_after a.by f ≡ g = fun_ext a.ends in
    subst (λ (x : Bits). Reaches x h) r (record {
      by = way_back a.by f ++ b.by;
      moves = moves_append (way_back a.by f) b.by (record_after a.by f) n (subst (Moves b.by) (sym e) b.moves);
      ends = λ k.
          ap (λ (x : Bits). x k) (after_append (way_back a.by f) b.by (record_after a.by f) ∙ ap (record_after b.by) e)
          ∙ b.ends k;
    })

pub still_reached : StillReached
still_reached f g h s a b = reached_still f g h s a b

here : (f : Bits) → Reaches f f
unfolding Moves record_after
here f = record { by = []; moves = tt; ends = λ k. refl }

back_to : (f g : Bits) → Sound f → Reaches f g → Reaches g f
back_to f g s a = reached_still f g f s a (here f)

pub last_in_can_leave : LastInCanLeave
unfolding possible after_event
last_in_can_leave f g s d reached = (
  back_to (after_event EndDone f) g (event_sound EndDone f s (rw d (going (f drive_out)))) reached,
  and_intro (or_else drives (height_is street) f (nth_holds f sound_rules (true→T s.rules) 13) drive_in tt d) (rw d),
)
  where
    going : (b : Bool) → not (eqb (1 + (digit b + 0)) 0) && true ≡ true
    going true = refl
    going false = refl
