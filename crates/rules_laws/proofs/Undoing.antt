-- Each allowed instruction is undone: the conditions of the one that undoes it hold after it, and each place that either changes is tried.
-- Belts are tried place by place, since their spans are long; that as many cells of the span are occupied is known of them. Of a lift run
-- what lies on either side of the lift is known from the row's whole cars. Assumes nothing.
use mathlib.Core.Path.{◌≡◌, refl, sym, ap₂, subst, ◌∙◌}
use mathlib.Core.Bool.{Bool, true, false, cond, not, ◌&&◌, ◌||◌}
use mathlib.Core.List.{List, [], ◌∷◌, ◌++◌}
use Prim.Native.Nat.{ℕ, ◌+◌, ◌%◌}
use native.Mathlib.Omega.{arith}
use lib.Dec.{T, eqb, leb, leb→le}
use lib.ListN.{get_or, take, drop}
use borrow.Author.Tests.{eq-eqb}
use Rattle.bits.specs.Bits.{Bits, count}
use Rattle.bits.specs.Places.{share}
use Rattle.bits.specs.Search.{every}
use Rattle.bits.proofs.Cases.{and_l, and_r, and_T, or_T_r, true→T}
use Rattle.bits.proofs.Search.{each as each_below}
use Rattle.bits.proofs.Counts.{count_agree, elem_here}
use Rattle.bits.proofs.Fills.{fill}
use Rattle.bits.proofs.Lists.{same, same_eq}
use Rattle.bits.proofs.Sharing.{all_pass, pass_at}
use Rattle.floor.specs.Floor.{row_cells, lowered, tilted, place, height_low, height_high, lift_cells, left_of_lift, right_of_lift}
use Rattle.floor.specs.Tests.{Test, fact, set, free, even, no, both, either, when, holds, all_hold, at_basement, Change, changed}
use Rattle.floor.specs.Sound.{slots, sound_rules}
use Rattle.floor.proofs.Reading.{inside, nth_holds}
use Rattle.floor.proofs.Rows.{Whole, count_from}
use Rattle.rules.specs.declared.Instruction.{Instruction}
use Rattle.rules.specs.declared.Instruction.TheVariants.{Belts, Shuttles, Tilt, Lift, Rotate}
use Rattle.rules.specs.Named.{cells}
use Rattle.rules.specs.Rules.{well_formed, conditions, changes}
use Rattle.rules.proofs.Every.{everywhere, each}
use Rattle.rules_laws.specs.Undoing.{other, undo}
use Rattle.rules_laws.proofs.Tried.{those, targets, not_target}
use Rattle.rules_laws.proofs.Returning.{never, never_holds, returns, tests_hold, back_at, back_all}
use Rattle.rules_laws.proofs.RulesKept.{apart_at, both_lists}
use Rattle.rules_laws.proofs.BeltMove.{belts_carried}
use Rattle.rules_laws.proofs.CarsKept.{count_gain}
use Rattle.rules_laws.proofs.Pair.{whole_even}
use Rattle.rules_laws.proofs.Moves.{belts_named_lem, row_count, lift_whole, ready}

-- j is well formed, its conditions hold after i, and it leads back
pub record Back (j i : Instruction) (f : Bits) : Type 0 where
  pub formed : T (well_formed j)
  pub hold : T (all_hold (conditions j) (changed (changes i) f))
  pub same : (k : ℕ) → changed (changes j) (changed (changes i) f) k ≡ f k

-- an instruction that some record allows passes a test
abbrev unless : Instruction → Bool → Bool
unless i b = never (conditions i) || b

allows : (i : Instruction) (f : Bits) (b : Bool) → T (unless i b) → T (all_hold (conditions i) f) → T b
allows i f b t c = go (never (conditions i)) refl t
  where
    go : (n : Bool) → never (conditions i) ≡ n → T (n || b) → T b
    go true e t = absurd (never_holds (conditions i) f (true→T e) c)
    go false e t = t

-- what undoes an instruction other than a lift run, whatever the record
abbrev pub turned : Instruction → Instruction
turned i = undo i (λ k. false)

five : (a b c d e : Bool) → T (a && (b && (c && (d && e)))) → T a × T b × T c × T d × T e
five true true true true e t = (tt, tt, tt, tt, t)
five true true true false e t = absurd t
five true true false d e t = absurd t
five true false c d e t = absurd t
five false b c d e t = absurd t

-- ---- belts

-- the end of the span is free
abbrev room : Instruction → Test
room i = get_or (conditions i) 4 (fact true)

-- then a place comes back
abbrev cell_back : Test → List Change → List Change → ℕ → Bool
cell_back t cs ds k = returns [] (t ∷ []) cs [] ds (k ∷ [])

-- all conditions but the last hold after, each place of the span comes back, and in row 1 the span is what changes
abbrev span_back : Instruction → Instruction → Bool → List ℕ → Bool
span_back i j first ks =
    well_formed j
    && (returns [] (conditions i) (changes i) (take 5 (conditions j)) [] []
    && (inside (targets (changes j)) (targets (changes i))
    && (all_pass (cell_back (room i) (changes i) (changes j)) (targets (changes j))
    && cond first (same (those (targets (changes i)) (row_cells 1)) ks) true)))

abbrev belts_back : Instruction → Bool
belts_back (Belts row mask toward size) =
    let i = Belts row mask toward size in
    unless i (span_back i (turned i) (eqb row 1) (cells row mask))
belts_back (Shuttles side mask orientation toward) = true
belts_back (Tilt side row orientation) = true
belts_back (Lift height) = true
belts_back Rotate = true

all_belts : T (everywhere belts_back)
unfolding everywhere every
all_belts = tt

rest_same : (x y m n : ℕ) → x + m ≡ y + n → x ≡ y → n ≡ m
rest_same x y m n e d = omega arith

belts_back_lem : (row mask toward size : ℕ) (f : Bits)
    → T (well_formed (Belts row mask toward size)) → T (all_hold (conditions (Belts row mask toward size)) f)
    → Back (Belts row mask (other toward) size) (Belts row mask toward size) f
belts_back_lem row mask toward size f v c = record {
  formed = tested.0;
  hold = both_lists g (take 5 (conditions j)) (last ∷ [])
      (tests_hold [] (conditions i) (changes i) (take 5 (conditions j)) [] [] tested.1 f c)
      (and_T (holds last g) true (even_after (eqb row 1) tested.4 (nth_holds f (conditions i) c 5)) tt);
  same = back_all (changes i) (changes j) f tested.2
      (λ k m. back_at [] (room i ∷ []) (changes i) [] (changes j) (k ∷ [])
      (pass_at (cell_back (room i) (changes i) (changes j)) (targets (changes j)) tested.3 k m)
      f (and_T (holds (room i) f) true (nth_holds f (conditions i) c 4) tt) k (elem_here k []));
}
  where
    i : Instruction
    i = Belts row mask toward size

    j : Instruction
    j = Belts row mask (other toward) size

    g : Bits
    g = changed (changes i) f

    last : Test
    last = when (eqb row 1) (even (cells row mask))

    tested : T (well_formed j)
        × T (returns [] (conditions i) (changes i) (take 5 (conditions j)) [] [])
        × T (inside (targets (changes j)) (targets (changes i)))
        × T (all_pass (cell_back (room i) (changes i) (changes j)) (targets (changes j)))
        × T (cond (eqb row 1) (same (those (targets (changes i)) (row_cells 1)) (cells row mask)) true)
    tested = five (well_formed j) (returns [] (conditions i) (changes i) (take 5 (conditions j)) [] [])
        (inside (targets (changes j)) (targets (changes i)))
        (all_pass (cell_back (room i) (changes i) (changes j)) (targets (changes j)))
        (cond (eqb row 1) (same (those (targets (changes i)) (row_cells 1)) (cells row mask)) true)
        (allows i f (span_back i j (eqb row 1) (cells row mask)) (each belts_back all_belts i v) c)

    -- as many cells of row 1 are occupied, and no other cell of it has changed
    counted : T (same (those (targets (changes i)) (row_cells 1)) (cells row mask)) → count (cells row mask) g ≡ count (cells row mask) f
    counted t =
        let e = same_eq (those (targets (changes i)) (row_cells 1)) (cells row mask) t in
        let k = belts_carried row mask toward size f (belts_named_lem row mask toward size v) c in
        subst (λ (ks : List ℕ). count ks g ≡ count ks f) e
        (rest_same (count (row_cells 1) g) (count (row_cells 1) f)
        (count (those (targets (changes i)) (row_cells 1)) f) (count (those (targets (changes i)) (row_cells 1)) g)
        (count_gain (changes i) f (row_cells 1)) (row_count g 20 ∙ k.same20 ∙ sym (row_count f 20)))

    even_after : (b : Bool) → T (cond b (same (those (targets (changes i)) (row_cells 1)) (cells row mask)) true)
        → T (holds (when b (even (cells row mask))) f) → T (holds (when b (even (cells row mask))) g)
    even_after true t e = subst (λ (n : ℕ). T (eqb (n % 2) 0)) (sym (counted t)) e
    even_after false t e = tt

-- ---- shuttles and tilts

-- all conditions hold after, and all places come back; some bits more are tried
abbrev whole_back_lem : List ℕ → Instruction → Instruction → Bool
whole_back_lem more i j =
    well_formed j
    && (inside (targets (changes j)) (targets (changes i))
    && returns more (conditions i ++ sound_rules) (changes i) (conditions j) (changes j) (targets (changes j)))

abbrev shuttles_back : Instruction → Bool
shuttles_back (Belts row mask toward size) = true
shuttles_back (Shuttles side mask orientation toward) =
    let i = Shuttles side mask orientation toward in
    unless i (whole_back_lem [] i (turned i))
shuttles_back (Tilt side row orientation) = true
shuttles_back (Lift height) = true
shuttles_back Rotate = true

all_shuttles : T (everywhere shuttles_back)
unfolding everywhere every
all_shuttles = tt

-- that there are three on the side is said of all its slots
abbrev tilt_back : Instruction → Bool
tilt_back (Belts row mask toward size) = true
tilt_back (Shuttles side mask orientation toward) = true
tilt_back (Tilt side row orientation) =
    let i = Tilt side row orientation in
    unless i (whole_back_lem (slots side lowered ++ (slots side tilted ++ place side row)) i (turned i))
tilt_back (Lift height) = true
tilt_back Rotate = true

all_tilts : T (everywhere tilt_back)
unfolding everywhere every
all_tilts = tt

-- a trial of all places
module _ (more : List ℕ) (i j : Instruction) (f : Bits) where
  whole_back : T (unless i (whole_back_lem more i j)) → T (all_hold (conditions i) f) → T (all_hold sound_rules f) → Back j i f
  whole_back t c r = record {
    formed = and_l (well_formed j) (inside js is && trial) tested;
    hold = tests_hold more hs (changes i) (conditions j) (changes j) js trial_holds f known;
    same = back_all (changes i) (changes j) f (and_l (inside js is) trial rest)
        (back_at more hs (changes i) (conditions j) (changes j) js trial_holds f known);
  }
    where
      js : List ℕ
      js = targets (changes j)

      is : List ℕ
      is = targets (changes i)

      hs : List Test
      hs = conditions i ++ sound_rules

      trial : Bool
      trial = returns more hs (changes i) (conditions j) (changes j) js

      tested : T (whole_back_lem more i j)
      tested = allows i f (whole_back_lem more i j) t c

      rest : T (inside js is && trial)
      rest = and_r (well_formed j) (inside js is && trial) tested

      trial_holds : T trial
      trial_holds = and_r (inside js is) trial rest

      known : T (all_hold hs f)
      known = both_lists f (conditions i) sound_rules c r

-- ---- the lift

-- the height at which it was, by its two digits: a record with these, and what is known of one
abbrev at_height : Bool → Bool → Bits
at_height low high = fill (height_low ∷ height_high ∷ []) (low ∷ high ∷ [])

abbrev digit_is : ℕ → Bool → Test
digit_is k b = cond b (set (k ∷ [])) (free (k ∷ []))

abbrev lift_known : Bool → Bool → ℕ → List Test
lift_known low high height = digit_is height_low low ∷ digit_is height_high high ∷ even lift_cells ∷ (conditions (Lift height) ++ sound_rules)

-- the first condition holds after, and all places come back
abbrev lift_returns : Bool → Bool → ℕ → Instruction → Bool
lift_returns low high height j =
    returns [] (lift_known low high height) (changes (Lift height)) (take 1 (conditions j)) (changes j) (targets (changes j))

abbrev lift_back : Bool → Bool → ℕ → Bool
lift_back low high height =
    let j = undo (Lift height) (at_height low high) in
    well_formed j && (inside (targets (changes j)) (targets (changes (Lift height))) && lift_returns low high height j)

-- from every height but 3
all_lifts : T (every 3 λ height. lift_back false false height && (lift_back true false height && lift_back false true height))
unfolding every
all_lifts = tt

digit_is_lem : (k : ℕ) (f : Bits) (b : Bool) → f k ≡ b → T (holds (digit_is k b) f)
digit_is_lem k f true e = rw e tt
digit_is_lem k f false e = rw e tt

module _ (height : ℕ) (f : Bits) (v : T (leb height 2))
    (c : T (all_hold (conditions (Lift height)) f)) (r : T (all_hold sound_rules f)) (w : Whole 20 f) where
  abbrev g : Bits
  g = changed (changes (Lift height)) f

  -- the cells on either side of the lift are even in number, before and after
  left_even : count left_of_lift f % 2 ≡ 0
  left_even = let l = lift_whole f w height c r in omega (arith, row_count f 11, l.1)

  right_even : count right_of_lift f % 2 ≡ 0
  right_even = let l = lift_whole f w height c r in omega (arith, whole_even 20 f w, count_from f 7 13, l.0, l.1)

  unmoved : (ks : List ℕ) → share ks (targets (changes (Lift height))) ≡ false → count ks f % 2 ≡ 0 → T (holds (even ks) g)
  unmoved ks o e =
      subst (λ (n : ℕ). T (eqb (n % 2) 0))
      (count_agree ks f g (λ k m. sym (not_target (changes (Lift height)) f k (apart_at ks (targets (changes (Lift height))) o k m))))
      (true→T (eq-eqb (count ks f % 2) 0 e))

  module _ (low high : Bool) (p : f height_low ≡ low) (q : f height_high ≡ high) (tested : T (lift_back low high height)) where
    abbrev j : Instruction
    j = undo (Lift height) (at_height low high)

    abbrev ps : List ℕ
    ps = targets (changes j)

    abbrev again : Bool
    again = lift_returns low high height j

    known : T (all_hold (lift_known low high height) f)
    known =
        and_T (holds (digit_is height_low low) f) (all_hold (digit_is height_high high ∷ even lift_cells ∷ hs) f) (digit_is_lem height_low f low p)
        (and_T (holds (digit_is height_high high) f) (all_hold (even lift_cells ∷ hs) f) (digit_is_lem height_high f high q)
        (both_lists f (even lift_cells ∷ []) hs (ready f w (Lift height) v c r).0 (both_lists f (conditions (Lift height)) sound_rules c r)))
      where
        hs : List Test
        hs = conditions (Lift height) ++ sound_rules

    rest : T (inside ps (targets (changes (Lift height))) && again)
    rest = and_r (well_formed j) (inside ps (targets (changes (Lift height))) && again) tested

    trial : T again
    trial = and_r (inside ps (targets (changes (Lift height)))) again rest

    -- the second condition: the counts on either side
    second : T (holds (either (no at_basement) (either (free lift_cells) (both (even left_of_lift) (even right_of_lift)))) g)
    second =
        or_T_r (holds (no at_basement) g) (holds (either (free lift_cells) (both (even left_of_lift) (even right_of_lift))) g)
        (or_T_r (holds (free lift_cells) g) (holds (both (even left_of_lift) (even right_of_lift)) g)
        (and_T (holds (even left_of_lift) g) (holds (even right_of_lift) g)
        (unmoved left_of_lift refl left_even) (unmoved right_of_lift refl right_even)))

    from_height : Back j (Lift height) f
    from_height = record {
      formed = and_l (well_formed j) (inside ps (targets (changes (Lift height))) && again) tested;
      hold = both_lists g (take 1 (conditions j)) (drop 1 (conditions j))
          (tests_hold [] (lift_known low high height) (changes (Lift height)) (take 1 (conditions j)) (changes j) ps trial f known)
          (and_T (holds (get_or (conditions j) 1 (fact true)) g) true second tt);
      same = back_all (changes (Lift height)) (changes j) f (and_l (inside ps (targets (changes (Lift height)))) again rest)
          (back_at [] (lift_known low high height) (changes (Lift height)) (take 1 (conditions j)) (changes j) ps trial f known);
    }

  three : T (lift_back false false height && (lift_back true false height && lift_back false true height))
  three = each_below 3 _ all_lifts height (omega (arith, leb→le height 2 v))

  lift_back_lem : Back (undo (Lift height) f) (Lift height) f
  lift_back_lem = go (f height_low) (f height_high) refl refl
    where
      two : T (lift_back true false height && lift_back false true height)
      two = and_r (lift_back false false height) (lift_back true false height && lift_back false true height) three

      go : (a b : Bool) → f height_low ≡ a → f height_high ≡ b → Back (undo (Lift height) (at_height a b)) (Lift height) f
      go true true p q = absurd (subst T (ap₂ (λ (x y : Bool). not ((x && true) && (y && true))) p q) (nth_holds f sound_rules r 10))
      go true false p q = from_height true false p q (and_l (lift_back true false height) (lift_back false true height) two)
      go false true p q = from_height false true p q (and_r (lift_back true false height) (lift_back false true height) two)
      go false false p q =
          from_height false false p q (and_l (lift_back false false height) (lift_back true false height && lift_back false true height) three)

-- ---- every instruction

pub undone : (i : Instruction) (f : Bits)
    → T (well_formed i) → T (all_hold (conditions i) f) → T (all_hold sound_rules f) → Whole 20 f → Back (undo i f) i f
undone (Belts row mask toward size) f v c r w = belts_back_lem row mask toward size f v c
undone (Shuttles side mask orientation toward) f v c r w =
    let i = Shuttles side mask orientation toward in
    whole_back [] i (turned i) f (each shuttles_back all_shuttles i v) c r
undone (Tilt side row orientation) f v c r w =
    let i = Tilt side row orientation in
    whole_back (slots side lowered ++ (slots side tilted ++ place side row)) i (turned i) f (each tilt_back all_tilts i v) c r
undone (Lift height) f v c r w = lift_back_lem height f v c r w
undone Rotate f v c r w = record { formed = tt; hold = c; same = λ k. refl }
