-- A word is a text exactly if the two are equal. Assumes nothing.
use Rattle.std.proofs.Common.{◌≡◌, ℕ, Bool, true, List, length, get_or, eqb, ap, arith, ext_get_or, eqb-true, eq-eqb}
use Rattle.std.specs.Bool.{Decides}
use Rattle.bits.specs.Search.{every}
use Rattle.bits.proofs.Cases.{both, and_intro}
use Rattle.bits.proofs.Search.{every_at, every_is}
use Rattle.commands.specs.Words.{is_text}

module _ (text w : List ℕ) where
  same : ℕ → Bool
  same j = eqb (get_or w j 0) (get_or text j 0)

  pub text_is : is_text text w ≡ true → w ≡ text
  unfolding same
  text_is e =
      let b = both (eqb (length w) (length text)) (every (length text) same) e in
      let l = eqb-true (length w) (length text) b.0 in
      ext_get_or 0 w text l (λ i h. eqb-true (get_or w i 0) (get_or text i 0) (every_at (length text) same b.1 i (omega (arith, h, l))))

  pub is_text_decides : Decides (is_text text w) (w ≡ text)
  is_text_decides = (
    text_is,
    λ e.
        and_intro (eq-eqb (length w) (length text) (ap length e))
        (every_is (length text) (λ j. eqb (get_or w j 0) (get_or text j 0)) (λ j _. eq-eqb (get_or w j 0) (get_or text j 0) (ap (λ (l : List ℕ). get_or l j 0) e))),
  )
