-- The locked garage of specs/Locked.antt is one of three records, by the height of the lift, and each instruction that one of them allows
-- is a lift run to another. That is computed at every well-formed instruction. Assumes nothing.
use mathlib.Core.Path.{◌≡◌, refl, sym, ap, subst, ◌∙◌, fun_ext}
use mathlib.Core.Logic.{inl}
use mathlib.Core.Bool.{Bool, true, false, cond, ◌&&◌, ◌||◌, beq}
use mathlib.Core.List.{List, [], ◌∷◌, ◌++◌}
use Prim.Native.Nat.{ℕ, ◌^◌, ◌<◌}
use native.Mathlib.Omega.{arith}
use lib.Dec.{T, ltb, ltb→lt}
use borrow.Author.Tests.{ltb-true, ltb-false}
use Rattle.bits.specs.Bits.{Bits, bit, image, packed}
use Rattle.bits.specs.Places.{elem}
use Rattle.bits.specs.Search.{every}
use Rattle.bits.proofs.Cases.{split, off, both, and_l, and_r, under, beq→eq, true→T}
use Rattle.bits.proofs.Search.{each as each_below}
use Rattle.bits.proofs.Digits.{bit_image, bit_past, packed_lt}
use Rattle.bits.proofs.Sharing.{all_pass, pass_at}
use Rattle.floor.specs.Floor.{lift, lift_cells}
use Rattle.floor.specs.Cars.{cars}
use Rattle.floor.specs.Tests.{all_hold}
use Rattle.floor.specs.Sound.{paired, sound, total}
use Rattle.rules.specs.declared.Instruction.{Instruction}
use Rattle.rules.specs.declared.Instruction.TheVariants.{Belts, Shuttles, Tilt, Lift, Rotate}
use Rattle.rules.specs.Rules.{well_formed, area, conditions, allowed, next_record}
use Rattle.rules.specs.Events.{in_turn, possible, places_open, after_event}
use Rattle.rules.specs.Verdicts.{driven_of}
use Rattle.rules.proofs.Every.{everywhere, each}
use Rattle.rules.proofs.Frame.{area_small, kept_outside_lem}
use Rattle.rules_laws.specs.Undoing.{record_after, Moves, Reaches}
use Rattle.rules_laws.specs.Locked.{unlocked, locked, DriveInLocks}

well : (i : Instruction) (f : Bits) → allowed i f ≡ true → well_formed i ≡ true
unfolding allowed
well i f ok = (both (well_formed i) (all_hold (conditions i) f) ok).0

-- ---- a record by its image

in_record : (i : Instruction) (k : ℕ) → well_formed i ≡ true → area i k ≡ true → k < 64
unfolding area
in_record i k w m = area_small i w k m

-- the next record of an image is that of an image
pub next_image : (i : Instruction) (r : ℕ) → well_formed i ≡ true → r < 2 ^ 64 → next_record i (bit r) ≡ bit (image (next_record i (bit r)))
next_image i r w l = fun_ext (λ k. split (ltb k 64)
    (λ h. sym (bit_image (next_record i (bit r)) k (ltb-true k 64 h)))
    (λ h.
    let n = ltb-false k 64 h in
    kept_outside_lem i (true→T w) (bit r) k (off (area i k) (λ m. absurd (let z = in_record i k w m in omega arith)))
    ∙ bit_past r 64 k l n ∙ sym (bit_past (image (next_record i (bit r))) 64 k (packed_lt 64 0 (next_record i (bit r))) n)))

-- ---- records that no moves leave

abbrev is_lift : Instruction → Bool
is_lift (Belts row mask toward size) = false
is_lift (Shuttles side mask orientation toward) = false
is_lift (Tilt side row orientation) = false
is_lift (Lift height) = true
is_lift Rotate = false

-- street, rotation, basement
abbrev heights : List ℕ
heights = locked ∷ 0x00303FC0F03F660F ∷ 0x00403FC0F03F7E0F ∷ []

small : (r : ℕ) → T (elem r heights) → r < 2 ^ 64
small r m = ltb→lt r (2 ^ 64) (pass_at (λ r. ltb r (2 ^ 64)) heights tt r m)

-- what is allowed on the record r is a lift run, and leads to one of the three
abbrev shut : ℕ → Instruction → Bool
shut r i = cond (allowed i (bit r)) (is_lift i && elem (image (next_record i (bit r))) heights) true

all_shut : T (all_pass (λ r. everywhere (shut r)) heights)
unfolding everywhere every allowed next_record packed
all_shut = tt

shut_at : (r : ℕ) → T (elem r heights) → (i : Instruction) → allowed i (bit r) ≡ true
    → T (is_lift i && elem (image (next_record i (bit r))) heights)
shut_at r m i ok =
    under (allowed i (bit r)) (is_lift i && elem (image (next_record i (bit r))) heights) ok
    (each (shut r) (pass_at (λ r. everywhere (shut r)) heights all_shut r m) i (true→T (well i (bit r) ok)))

-- so moves lead from one of the three to one of the three
shut_after : (is : List Instruction) (r : ℕ) → T (elem r heights) → Moves is (bit r)
    → (q : ℕ) × T (elem q heights) × (record_after is (bit r) ≡ bit q)
unfolding Moves record_after
shut_after [] r m moves = (r, m, refl)
shut_after (i ∷ is) r m moves =
    let q = image (next_record i (bit r)) in
    let e : next_record i (bit r) ≡ bit q = next_image i r (well i (bit r) moves.0) (small r m) in
    let (p, n, d) = shut_after is q (and_r (is_lift i) (elem q heights) (shut_at r m i moves.0)) (subst (Moves is) e moves.2) in
    (p, n, ap (record_after is) e ∙ d)

reached : (g : Bits) → Reaches (bit locked) g → (q : ℕ) × T (elem q heights) × (g ≡ bit q)
reached g a =
    let (q, m, e) = shut_after a.by locked tt a.moves in
    (q, m, sym (fun_ext a.ends) ∙ e)

-- ---- the promise

only_lift_lem : (i : Instruction) → T (is_lift i) → (height : ℕ) × (i ≡ Lift height)
only_lift_lem (Belts row mask toward size) t = absurd t
only_lift_lem (Shuttles side mask orientation toward) t = absurd t
only_lift_lem (Tilt side row orientation) t = absurd t
only_lift_lem (Lift height) t = (height, refl)
only_lift_lem Rotate t = absurd t

-- outside the lift and its two cells the three are the same
abbrev agreed_at : ℕ → ℕ → Bool
agreed_at r k = elem k (lift ++ lift_cells) || beq (bit r k) (bit locked k)

all_agreed : T (all_pass (λ r. every 64 (agreed_at r)) heights)
unfolding every
all_agreed = tt

others_stay_lem : (r : ℕ) → T (elem r heights) → (k : ℕ) → elem k (lift ++ lift_cells) ≡ false → bit r k ≡ bit locked k
others_stay_lem r m k o = split (ltb k 64)
    (λ h. beq→eq (bit r k) (bit locked k)
    (subst (λ (b : Bool). T (b || beq (bit r k) (bit locked k))) o
    (each_below 64 (agreed_at r) (pass_at (λ r. every 64 (agreed_at r)) heights all_agreed r m) k (ltb-true k 64 h))))
    (λ h.
    let n = ltb-false k 64 h in
    bit_past r 64 k (small r m) n ∙ sym (bit_past locked 64 k (ltb→lt locked (2 ^ 64) tt) n))

-- the lift goes down, the left belt and the lift's run two half cells, the lift goes up
abbrev fetching : List Instruction
fetching = Lift 2 ∷ Belts 1 6 1 1 ∷ Lift 0 ∷ []

fetch : Reaches (bit unlocked) (record_after fetching (bit unlocked))
unfolding Moves record_after allowed next_record
fetch = record { by = fetching; moves = (refl, inl refl, (refl, inl refl, (refl, inl refl, tt))); ends = λ k. refl }

pub drive_in_locks : DriveInLocks
unfolding total sound paired cars driven_of in_turn possible places_open after_event packed record_after next_record
drive_in_locks = record {
  fourteen = refl;
  begins = refl;
  ends = refl;
  fifteen = refl;
  fetchable = (record_after fetching (bit unlocked), fetch, refl);
  only_lift = λ g a i ok.
      let (q, m, e) = reached g a in
      only_lift_lem i (and_l (is_lift i) (elem (image (next_record i (bit q))) heights) (shut_at q m i (sym (ap (allowed i) e) ∙ ok)));
  others_stay = λ g a k o. let (q, m, e) = reached g a in ap (λ (x : Bits). x k) e ∙ others_stay_lem q m k o;
  can_leave = refl;
}
