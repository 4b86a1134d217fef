-- The instructions of a request that was read: each is the one that its five bytes say, well formed, and these bytes carry it. Assumes nothing.
use mathlib.Core.Path.{◌≡◌, refl, ap}
use mathlib.Core.Bool.{true, false}
use mathlib.Core.List.{List}
use Prim.Native.Nat.{ℕ, ◌*◌}
use native.Mathlib.Omega.{arith}
use borrow.Author.Tests.{ltb-false}
use lib.Dec.{ltb}
use lib.ListN.{length, take, drop}
use Rattle.bits.specs.Search.{least}
use Rattle.bits.proofs.Cases.{split, clash}
use Rattle.bits.proofs.Least.{least_below}
use Rattle.rules.specs.declared.Instruction.{Instruction}
use Rattle.std.specs.declared.option.Option.{Option}
use Rattle.std.specs.declared.option.Option.TheVariants.{Some, None}
use Rattle.rules.specs.Rules.{well_formed}
use Rattle.rules.specs.Codes.{bytes_of, code_from, read_code, read_bytes}
use Rattle.rules.proofs.Promises.{bytes_one_form}
use Rattle.wire.specs.Reads.{is_bad, bad_in}
use Rattle.wire.specs.Writes.{Writing}
use Rattle.wire_laws.specs.Statements.{InstructionsOneForm}
use Rattle.wire_laws.proofs.Back.{wrote}
use Rattle.wire_laws.proofs.Form.{one_form_lem}

-- what is read from a run is read from its first five bytes
code : (s : List ℕ) (j : Instruction) → read_bytes s ≡ Some j → read_code (code_from s) ≡ Some j
unfolding read_bytes
code s j e = split (ltb (length s) 5)
    (λ t. let z : None ≡ Some j = rw t at e in absurd (let z : ◌≡◌ {A = ℕ} 0 1 = cc in omega arith))
    (λ t. rw t at e)

-- bytes that are not bad say an instruction, and carry it
carried : (s : List ℕ) → is_bad (read_bytes s) ≡ false
    → (j : Instruction) × (read_code (code_from s) ≡ Some j) × (well_formed j ≡ true) × (take 5 s ≡ bytes_of j)
carried s e = go (read_bytes s) refl e
  where
    go : (r : (Option Instruction)) → read_bytes s ≡ r → is_bad r ≡ false
        → (j : Instruction) × (read_code (code_from s) ≡ Some j) × (well_formed j ≡ true) × (take 5 s ≡ bytes_of j)
    go (Some j) e f = let (form, well) = bytes_one_form s j e in (j, code s j e, well, form)
    go None e f = clash refl f

pub instructions_one_form : InstructionsOneForm
instructions_one_form s m n b e r i h =
    let g = (wrote m s n (ap (λ (w : Writing). w.says) (one_form_lem s m n b e).written)).good in
    let fine = ltb-false (least m.count (bad_in m.set)) m.count (rw r at g.fine) in
    carried (drop (5 * i) m.set) (least_below m.count (bad_in m.set) i (omega arith))
