-- What the desk is asked, by what the code has found on the way. Assumes nothing.
use mathlib.Core.Path.{◌≡◌, refl, sym, ap, ap₂, ◌∙◌}
use mathlib.Core.Bool.{Bool, not, ◌&&◌, ◌||◌}
use mathlib.Core.List.{List}
use Prim.Native.Nat.{ℕ, suc, ◌+◌, ◌<◌}
use native.Mathlib.Omega.{arith}
use lib.Dec.{ltb}
use borrow.Author.Tests.{lt-ltb, le-ltb, ltb-true, ltb-false}
use Rattle.bits.specs.Bits.{bit}
use Rattle.bits.specs.Places.{elem}
use Rattle.bits.specs.Search.{least}
use Rattle.bits.proofs.Cases.{split, off}
use Rattle.bits.proofs.Digits.{bit_image, bit_past, packed_lt}
use Rattle.rules.specs.declared.Code.{Code}
use Rattle.std.specs.Option.{unwrap_or}
use Rattle.std.specs.declared.option.Option.{Option}
use Rattle.rules.specs.declared.Instruction.{Instruction}
use Rattle.std.specs.declared.option.Option.TheVariants.{Some, None}
use Rattle.rules.specs.Codes.{read_code}
use Rattle.rules.specs.Verdicts.{on_code, mask_of, code_mask}
use Rattle.station.specs.declared.Station.{Station}
use Rattle.station.specs.Held.{code_at, held_area}
use Rattle.station.specs.Private.{held_mask, mask_in}
use Rattle.station.proofs.Areas.{held_small}
use Rattle.station.proofs.Moves.{held_area_lem}
use Rattle.desk.specs.Questions.{is_under, mover_of}
use Rattle.desk.specs.Private.{mover_in}

-- one of the parts is under the car whose number stands there
pub either_cell : (parts k : ℕ) {a b : Bool} → a ≡ bit parts k → b ≡ bit parts (k + 1) → a || (ltb k 20 && b) ≡ is_under (bit parts) k
either_cell parts k e f = let next : k + 1 ≡ suc k = omega arith in ap₂ (λ (a b : Bool). a || (ltb k 20 && b)) e (f ∙ ap (bit parts) next)

-- ---- the instruction that moves a car

-- the mask of a well-formed instruction's area; bytes that say none have none
pub area_good : (x : Code) (i : Instruction) {a : Option ℕ} → read_code x ≡ Some i → a ≡ mask_of i → mask_in a ≡ held_mask x
unfolding code_mask
area_good x i r e = held_area_lem x (e ∙ sym (ap (on_code mask_of Option.None) r))

pub area_bad : (x : Code) → read_code x ≡ None → 0 ≡ held_mask x
unfolding code_mask
area_bad x r = held_area_lem x {a = Option.None} (sym (ap (on_code mask_of Option.None) r))

pub masked : (a : Option ℕ) → unwrap_or a 0 ≡ mask_in a
masked None = refl
masked (Some m) = refl

-- a mask has the places of an area
mask_has : (x : Code) (k : ℕ) → bit (held_mask x) k ≡ elem k (held_area x)
unfolding held_mask
mask_has x k = split (ltb k 64)
    (λ t. bit_image (λ j. elem j (held_area x)) k (ltb-true k 64 t))
    (λ t. let h = ltb-false k 64 t in
    bit_past _ 64 k (packed_lt 64 0 _) h
    ∙ sym (off _ (λ m. let l = held_small x k m in absurd (omega arith))))

-- instruction i of a set with these marks waits, and has a part under the car at k in its area
abbrev pub moves_at : ℕ → List ℕ → ℕ → ℕ → Bool
moves_at marks set k i = not (bit marks i) && is_under (λ j. elem j (held_area (code_at set i))) k

pub moves_asked : (marks : ℕ) (set : List ℕ) (k i : ℕ) {m : ℕ} {mark over : Bool} → mark ≡ bit marks i → m ≡ held_mask (code_at set i)
    → over ≡ is_under (bit m) k → not mark && over ≡ moves_at marks set k i
moves_asked marks set k i e f g =
    ap₂ (λ (a b : Bool). not a && b) e
    (g ∙ ap (λ n. is_under (bit n) k) f ∙ ap₂ (λ (a b : Bool). a || (ltb k 20 && b)) (mask_has _ k) (mask_has _ (suc k)))

pub mover_found : (s : Station) (k : ℕ) {i : ℕ} → i ≡ least s.count (moves_at s.answered s.set k) → i ≡ mover_of s k
unfolding mover_of
mover_found s k e = e

-- the code's answer: its number where one is found
pub mover_some : (s : Station) (k : ℕ) {i : ℕ} → i ≡ least s.count (moves_at s.answered s.set k) → i < s.count → Some i ≡ mover_in s k
mover_some s k e h =
    let f = mover_found s k e in rw (← f, lt-ltb _ s.count h)

pub mover_none : (s : Station) (k : ℕ) → s.count ≡ least s.count (moves_at s.answered s.set k) → None ≡ mover_in s k
mover_none s k e = let f = mover_found s k e in rw (le-ltb (mover_of s k) s.count (omega (arith, f)))
