-- An allowed instruction takes the numbers along: they are again those of the cars, none is lost or made, and those in its area stay there.
-- Assumes nothing.
use mathlib.Core.Path.{◌≡◌, refl, sym, ap, subst, ◌∙◌}
use mathlib.Core.Bool.{Bool, true, cond}
use mathlib.Core.List.{List}
use Prim.Native.Nat.{ℕ}
use lib.Dec.{T}
use borrow.Author.Tests.{ne_eqb}
use Rattle.bits.specs.Bits.{Bits}
use Rattle.bits.specs.Places.{elem}
use Rattle.bits.proofs.Cases.{split, clash, both, true→T}
use Rattle.floor.specs.Tests.{holds, all_hold, at_basement, changed}
use Rattle.floor.specs.Cars.{Car, Layout}
use Rattle.floor.specs.Sound.{Sound, sound_rules}
use Rattle.floor.proofs.Rows.{Whole, whole_iff_paired}
use Rattle.floor.proofs.Promises.{layout_exactly}
use Rattle.rules.specs.declared.Instruction.{Instruction}
use Rattle.rules.specs.declared.Instruction.TheVariants.{Belts, Shuttles, Tilt, Lift, Rotate}
use Rattle.rules.specs.Rules.{well_formed, area_of, area, conditions, changes, allowed, next_record}
use Rattle.rules_laws.proofs.Moves.{safe}
use Rattle.cards.specs.Cards.{Numbers, Cards, Has}
use Rattle.cards.specs.Given.{bears}
use Rattle.cards.specs.Following.{no_source, takings, number_at, numbers_after}
use Rattle.cards.specs.Private.{source}
use Rattle.cards_laws.specs.Statements.{NumbersKept, SameNumbers, StaysWithin}
use Rattle.cards_laws.proofs.Anchors.{Marked, cards_marked, marked_cards, Carried, carried_marked, carried_numbers}
use Rattle.cards_laws.proofs.Sources.{source_same, taker_in, one_source, one_to_one_lem, taken_all}
use Rattle.cards_laws.proofs.Belts.{Follows, belts_follow}
use Rattle.cards_laws.proofs.Others.{others_follow}

follow : (i : Instruction) (f : Bits) → T (well_formed i) → T (all_hold (conditions i) f) → T (all_hold sound_rules f) → Whole 20 f
    → Follows f (changed (changes i) f) (source (takings i (holds at_basement f)))
follow (Belts row mask toward size) f v c r w = belts_follow row mask toward size f v c
follow (Shuttles side mask orientation toward) f v c r w = others_follow (Shuttles side mask orientation toward) refl f v c r w
follow (Tilt side row orientation) f v c r w = others_follow (Tilt side row orientation) refl f v c r w
follow (Lift height) f v c r w = others_follow (Lift height) refl f v c r w
follow Rotate f v c r w = others_follow Rotate refl f v c r w

module _ (i : Instruction) (f : Bits) (s : Sound f) (ok : allowed i f ≡ true) where
  abbrev from : ℕ → ℕ
  from = source (takings i (holds at_basement f))

  pub fine : (well_formed i ≡ true) × (all_hold (conditions i) f ≡ true)
  unfolding allowed
  fine = both (well_formed i) (all_hold (conditions i) f) ok

  whole : Whole 20 f
  whole = (whole_iff_paired f).0 ((layout_exactly f).1 s.layout)

  pub follows : Follows f (next_record i f) from
  unfolding next_record
  follows = follow i f (true→T fine.0) (true→T fine.1) (true→T s.rules) whole

  -- the next record has a layout, clear of drives or not
  pub next_layout : (l : List Car) × Layout (next_record i f) l
  unfolding next_record
  next_layout =
      (layout_exactly (next_record i f)).0
      ((whole_iff_paired (next_record i f)).1 (safe i f (true→T fine.0) (true→T fine.1) (true→T s.rules) whole).whole)

  carried : Carried (bears f) (bears (next_record i f)) from
  carried = record {
    there = follows.there;
    one = one_source (takings i (holds at_basement f)) (one_to_one_lem i (true→T fine.0) (holds at_basement f));
    goes = follows.goes;
  }

  module _ (n : Numbers) (c : Cards f n) where
    marked : Marked (bears f) n
    marked = cards_marked f n s.layout.0 s.layout.1 c

    -- the numbers after are those of the sources
    after_from : numbers_after i f n ≡ (λ k. number_at n (from k))
    unfolding numbers_after
    after_from = taken_all i fine.0 (holds at_basement f) n (marked.none no_source refl)

    pub next_marked : Marked (bears (next_record i f)) (numbers_after i f n)
    next_marked =
        subst (Marked (bears (next_record i f))) (sym after_from)
        (carried_marked (bears f) (bears (next_record i f)) from n refl carried marked)

    pub cards_after : Cards (next_record i f) (numbers_after i f n)
    cards_after = marked_cards (next_record i f) (numbers_after i f n) next_marked

pub kept : NumbersKept
kept i f n s ok c = cards_after i f s ok n c

pub same_numbers : SameNumbers
same_numbers i f n s ok c d z =
    subst (λ (m : Numbers). (Has m d → Has n d) × (Has n d → Has m d)) (sym (after_from i f s ok n c))
    (carried_numbers (bears f) (bears (next_record i f)) (from i f s ok) n refl (carried i f s ok) (marked i f s ok n c) d z)

pub stays_within : StaysWithin
unfolding area
stays_within i f n s ok c k here z =
    let M = marked i f s ok n c in
    let a : bears f k ≡ true = split (bears f k) (λ t. t) (λ t. absurd (z (M.none k t))) in
    let (j, q) = (follows i f s ok).goes k a in
    let there : (k ≡ no_source → ⊥) = λ e. clash a (ap (bears f) e) in
    let number : numbers_after i f n j ≡ n k =
    ap (λ (m : Numbers). m j) (after_from i f s ok n c) ∙ ap (number_at n) q ∙ ap (λ (b : Bool). cond b 0 (n k)) (ne_eqb k no_source there) in
    let low = holds at_basement f in
    split (elem j (area_of i))
    (λ t. (j, t, number))
    (λ t. clash here (
    ap (λ (x : ℕ). elem x (area_of i)) (sym q ∙ source_same (takings i low) j (taker_in i (true→T (fine i f s ok).0) low j t)) ∙ t))
