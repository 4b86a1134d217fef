-- The promises of specs/Promises.antt kept, by the laws of the five bytes. Assumes nothing.
use mathlib.Core.Path.{◌≡◌, refl, ap, ◌∙◌}
use mathlib.Core.List.{List, [], ◌∷◌, ◌++◌}
use Prim.Native.Nat.{ℕ, ◌≤◌}
use native.Mathlib.Omega.{arith}
use lib.Dec.{ltb}
use lib.ListN.{get_or, length, take}
use borrow.Author.Tests.{le-ltb, ltb-false}
use Rattle.bits.proofs.Cases.{split}
use Rattle.rules.specs.declared.Code.{Code}
use Rattle.std.specs.declared.option.Option.TheVariants.{Some, None}
use Rattle.rules.specs.Codes.{bytes_of, code_from, read_bytes}
use Rattle.rules.specs.Promises.{CodeReadsBack, CodeOneForm, BytesReadBack, BytesOneForm, EventReadsBack, EventOneForm}
use Rattle.rules.proofs.CodeLaws as laws

pub code_reads_back : CodeReadsBack
code_reads_back = laws.reads_back

pub code_one_form : CodeOneForm
code_one_form = laws.one_form_lem

pub bytes_read_back : BytesReadBack
unfolding read_bytes
bytes_read_back i t w = rw (le-ltb (length (bytes_of i ++ t)) 5 (omega arith)) (laws.reads_back i w)

-- the first five of a run, one by one
five : (s : List ℕ) → 5 ≤ length s → take 5 s ≡ get_or s 0 0 ∷ get_or s 1 0 ∷ get_or s 2 0 ∷ get_or s 3 0 ∷ get_or s 4 0 ∷ []
five [] h = absurd (omega arith)
five (a ∷ []) h = absurd (omega arith)
five (a ∷ b ∷ []) h = absurd (omega arith)
five (a ∷ b ∷ c ∷ []) h = absurd (omega arith)
five (a ∷ b ∷ c ∷ d ∷ []) h = absurd (omega arith)
five (a ∷ b ∷ c ∷ d ∷ e ∷ s) h = refl

pub bytes_one_form : BytesOneForm
unfolding read_bytes
bytes_one_form s i e = split (ltb (length s) 5)
    (λ t. let z : None ≡ Some i = rw t at e in absurd (let z : ◌≡◌ {A = ℕ} 0 1 = cc in omega arith))
    (λ t. let (form, well) = laws.one_form_lem (code_from s) i (rw t at e) in
    (five s (ltb-false (length s) 5 t) ∙ ap (λ (x : Code). x.op ∷ x.a ∷ x.b ∷ x.c ∷ x.d ∷ []) form, well))

pub event_reads_back : EventReadsBack
event_reads_back = laws.event_reads_back

pub event_one_form : EventOneForm
event_one_form = laws.event_one_form
