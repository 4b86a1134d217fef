-- An instruction of a set by what its bytes say: bad, its parts, the verdict on it, the floor after it. Assumes nothing.
use Rattle.std.proofs.Common.{◌≡◌, ℕ, ◌-◌, ◌*◌, ◌<◌, ◌≤◌, true, false, cond, not, List, length, take, drop, replicate, sym, ap, ◌∙◌, arith, length-drop, take_all, le-ltb}
use Rattle.bits.specs.Bits.{Bits, bit, image}
use Rattle.bits.proofs.Cases.{split}
use Rattle.bits.proofs.Digits.{bit_image}
use Rattle.rules.specs.declared.Instruction.{Instruction}
use Rattle.std.specs.declared.option.Option.{Option}
use Rattle.std.specs.declared.option.Option.TheVariants.{Some, None}
use Rattle.rules.specs.declared.Refusal.TheVariants.{IllFormed}
use Rattle.std.specs.declared.result.Result.TheVariants.{Err}
use Rattle.rules.specs.Rules.{well_formed, allowed, clauses, next_record}
use Rattle.rules.specs.Codes.{read_code, read_bytes}
use Rattle.rules.specs.Verdicts.{judged, verdict_of, on_code, code_verdict}
use Rattle.rules.proofs.CodeLaws.{one_form_lem}
use Rattle.station.specs.Held.{code_at, is_good, held_area, held_allowed, held_next, held_after, bad}
use Rattle.station.proofs.Loops.{past_eighth}
use Rattle.plain.specs.declared.Floor.{Floor}
use Rattle.plain.specs.Plain.{listed, plain_bits, floor_of}
use Rattle.plain.specs.Conditions.{verdict_on}
use Rattle.plain_moves.specs.declared.Parts.{Parts}
use Rattle.plain_moves.specs.Moves.{moved_floor, parts_at, area_parts}
use Rattle.plain_station.proofs.Standing.{floor_bits, floor_same, floor_back}

-- ---- its five bytes

-- zeros say nothing
pub none_there : (set : List ℕ) (i : ℕ) → length set ≡ 40 → 8 ≤ i → None ≡ read_code (code_at set i)
unfolding read_code
none_there set i e h = ap read_code (past_eighth set i e h)

-- the bytes from its place on
pub read_there : (set : List ℕ) (i : ℕ) {y : (Option Instruction)} → length set ≡ 40 → i < 8 → y ≡ read_bytes (take (length set - 5 * i) (drop (5 * i) set))
    → y ≡ read_code (code_at set i)
unfolding read_bytes code_at
read_there set i e h y =
    let l : length (drop (5 * i) set) ≡ length set - 5 * i = length-drop (5 * i) set in
    y ∙ rw (take_all (length set - 5 * i) (drop (5 * i) set) (omega arith), l, le-ltb (length set - 5 * i) 5 (omega arith))

-- ---- what they say

module _ (set : List ℕ) (i : ℕ) {y : (Option Instruction)} (e : y ≡ read_code (code_at set i)) where
  pub bad_is : not (on_code (λ x. true) false y) ≡ bad set i
  unfolding is_good
  bad_is = rw e

  -- none of the parts
  pub no_parts : y ≡ None → ◌≡◌ {A = Parts} (record { cells = replicate 40 false; slots = replicate 12 false; lift = false }) (parts_at (held_area (code_at set i)))
  unfolding parts_at listed held_area
  no_parts b = rw (sym e ∙ b)

  pub its_parts : (x : Instruction) → y ≡ Some x → area_parts x ≡ parts_at (held_area (code_at set i))
  unfolding area_parts held_area
  its_parts x g = rw (sym e ∙ g, (one_form_lem (code_at set i) x (sym e ∙ g)).1)

  module _ (f : Floor) where
    pub no_verdict : y ≡ None → Err IllFormed ≡ code_verdict (code_at set i) (image (plain_bits f))
    unfolding code_verdict
    no_verdict b = rw (sym e ∙ b)

    pub its_verdict : (x : Instruction) → y ≡ Some x → verdict_on x (plain_bits f) ≡ code_verdict (code_at set i) (image (plain_bits f))
    unfolding code_verdict verdict_of verdict_on
    its_verdict x g = rw (sym e ∙ g) (ap (λ (b : Bits). cond (well_formed x) (judged (clauses x) b) (Err IllFormed)) (sym (floor_bits f)))

    pub not_moved : length f.cells ≡ 40 → length f.slots ≡ 12 → y ≡ None
        → f ≡ floor_of (bit (held_after (code_at set i) (image (plain_bits f))))
    unfolding held_after held_allowed
    not_moved c s b = rw (sym e ∙ b, floor_bits f) (sym (floor_back f c s))

    pub its_move : length f.cells ≡ 40 → length f.slots ≡ 12 → (x : Instruction) → y ≡ Some x
        → moved_floor x f ≡ floor_of (bit (held_after (code_at set i) (image (plain_bits f))))
    unfolding held_after held_allowed held_next moved_floor
    its_move c s x g = rw (sym e ∙ g, floor_bits f) (split (allowed x (plain_bits f))
        (λ t. rw t (floor_same (next_record x (plain_bits f)) (bit (image (next_record x (plain_bits f)))) (λ k h. sym (bit_image (next_record x (plain_bits f)) k h))))
        (λ t. rw (t, floor_bits f) (sym (floor_back f c s))))
