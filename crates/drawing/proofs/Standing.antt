-- A line stands in a text: the loop that tries it, and the same in straight-line code. Assumes nothing.
use mathlib.Core.Path.{◌≡◌, refl, sym, ap, ◌∙◌}
use mathlib.Core.Bool.{Bool, true, false, not, ◌&&◌}
use mathlib.Core.List.{List}
use Prim.Native.Nat.{ℕ, ◌+◌, ◌≤◌, ◌<◌}
use native.Mathlib.Omega.{arith}
use lib.Dec.{eqb}
use lib.ListN.{length, get_or, drop}
use lib.Seq.{get_or-drop}
use borrow.Author.Tests.{not-true, not-false, lt-ltb, le-ltb}
use Rattle.bits.specs.Search.{every}
use Rattle.bits.proofs.Cases.{passed, failed}
use Rattle.bits.proofs.Search.{every_is}
use Rattle.bits.proofs.Least.{Passed, turn, every_not}
use Rattle.std.specs.declared.option.Option.TheVariants.{Some, None}
use Rattle.std.specs.declared.result.Result.{Result}
use Rattle.std.specs.declared.result.Result.TheVariants.{Ok, Err}
use Rattle.drawing.specs.declared.Unread.{Unread}
use Rattle.drawing.specs.declared.Unread.TheVariants.{BadLine}
use Rattle.drawing.specs.declared.Lift.{Lift}
use Rattle.drawing.specs.Reading.{is_mark, is_letter}
use Rattle.drawing.specs.Private.{words_of, stands, lift_line_told, bad_at_end, bad_at, lines_told}
use Rattle.drawing.proofs.Told.{told_is, is_told_lem, not_told}

-- ---- n bytes that pass a test, and a line feed

module _ (good : ℕ → Bool) (s : List ℕ) (at n : ℕ) where
  -- byte j of the line fails
  abbrev pub fails : ℕ → Bool
  fails j = not (good (get_or (drop at s) j 0))

  at_place : (j : ℕ) → get_or (drop at s) j 0 ≡ get_or s (at + j) 0
  at_place j = get_or-drop at s j 0

  module _ (j : ℕ) {b : ℕ} {t : Bool} (p : b ≡ get_or s (at + j) 0) (q : t ≡ good b) where
    tried : t ≡ good (get_or (drop at s) j 0)
    tried = q ∙ ap good (p ∙ sym (at_place j))

    pub stands_not : j < n → not t ≡ true → false ≡ stands n good (drop at s)
    unfolding stands
    stands_not h e =
        let f : good (get_or (drop at s) j 0) ≡ false = sym tried ∙ not-true t e in
        sym (ap (λ (x : Bool). x && eqb (get_or (drop at s) n 0) 10) (every_not n (λ j. good (get_or (drop at s) j 0)) j h f))

    pub stands_on : Passed fails n j → j < n → not t ≡ false → Passed fails n (j + 1)
    stands_on v h e = turn v h (ap not (sym tried ∙ not-false t e))

  pub stands_end : {j b : ℕ} → Passed fails n j → n ≤ j → b ≡ get_or s (at + n) 0 → eqb b 10 ≡ stands n good (drop at s)
  unfolding stands
  stands_end {j} {b} v h p =
      ap (λ (x : ℕ). eqb x 10) (p ∙ sym (at_place n))
      ∙ sym (ap (λ (x : Bool). x && eqb (get_or (drop at s) n 0) 10)
      (every_is n (λ j. good (get_or (drop at s) j 0)) (λ i l. not-false (good (get_or (drop at s) i 0)) (v.none i (omega arith)))))

-- three in straight-line code
turned_round : (a b c d : Bool) → a && b && c && d ≡ (c && (b && (a && true))) && d
turned_round true true true d = refl
turned_round true true false d = refl
turned_round true false true d = refl
turned_round true false false d = refl
turned_round false true true d = refl
turned_round false true false d = refl
turned_round false false true d = refl
turned_round false false false d = refl

pub three_stand : (good : ℕ → Bool) (s : List ℕ) (at : ℕ) {b₀ b₁ b₂ b₃ : ℕ} {t₀ t₁ t₂ : Bool}
    → b₀ ≡ get_or s at 0 → t₀ ≡ good b₀ → b₁ ≡ get_or s (at + 1) 0 → t₁ ≡ good b₁ → b₂ ≡ get_or s (at + 2) 0 → t₂ ≡ good b₂ → b₃ ≡ get_or s (at + 3) 0
    → t₀ && t₁ && t₂ && eqb b₃ 10 ≡ stands 3 good (drop at s)
unfolding stands every
three_stand good s at {b₀} {b₁} {b₂} {b₃} {t₀} {t₁} {t₂} p q r u v w x =
    let z : get_or s at 0 ≡ get_or s (at + 0) 0 = ap (λ (n : ℕ). get_or s n 0) (omega arith) in
    let e₀ : t₀ ≡ good (get_or (drop at s) 0 0) = q ∙ ap good (p ∙ z ∙ sym (get_or-drop at s 0 0)) in
    let e₁ : t₁ ≡ good (get_or (drop at s) 1 0) = u ∙ ap good (r ∙ sym (get_or-drop at s 1 0)) in
    let e₂ : t₂ ≡ good (get_or (drop at s) 2 0) = w ∙ ap good (v ∙ sym (get_or-drop at s 2 0)) in
    let e₃ : eqb b₃ 10 ≡ eqb (get_or (drop at s) 3 0) 10 = ap (λ (n : ℕ). eqb n 10) (x ∙ sym (get_or-drop at s 3 0)) in
    rw (e₀, e₁, e₂, e₃) (turned_round (good (get_or (drop at s) 0 0)) (good (get_or (drop at s) 1 0)) (good (get_or (drop at s) 2 0)) (eqb (get_or (drop at s) 3 0) 10))

-- ---- the first bad line, test by test as the code makes them

module _ (w : Bool) (s : List ℕ) (lift : Lift) where
  pub bad_lift : None ≡ lift_line_told lift → Err (BadLine 5) ≡ lines_told lift (bad_at_end w s lift)
  unfolding bad_at_end
  bad_lift e = rw (not_told lift e)

  module _ {l : Lift} (e : Some l ≡ lift_line_told lift) {n : ℕ} (p : n ≡ length (words_of w l)) where
    size_is : n ≡ length (words_of w lift)
    size_is = p ∙ ap (λ (x : Lift). length (words_of w x)) (told_is lift e)

    pub bad_past : 51 + n < length s → Err (BadLine 6) ≡ lines_told lift (bad_at_end w s lift)
    unfolding bad_at_end
    bad_past h = rw (is_told_lem lift e, lt-ltb (51 + length (words_of w lift)) (length s) (omega (arith, size_is)))

    pub none_bad : length s ≤ 51 + n → Ok l ≡ lines_told lift (bad_at_end w s lift)
    unfolding bad_at_end
    none_bad h = rw (is_told_lem lift e, le-ltb (51 + length (words_of w lift)) (length s) (omega (arith, size_is))) (ap Ok (told_is lift e))

  abbrev told : Result Lift Unread
  told = lines_told lift (bad_at w s lift)

  module _ {a : Bool} (p : a ≡ stands 20 (is_mark w) s) where
    pub bad_0 : not a ≡ true → Err (BadLine 0) ≡ told
    unfolding bad_at
    bad_0 e = rw (failed p e)

    module _ (x : not a ≡ false) {b : Bool} (q : b ≡ stands 10 (is_mark w) (drop 21 s)) where
      pub bad_1 : not b ≡ true → Err (BadLine 1) ≡ told
      unfolding bad_at
      bad_1 e = rw (passed p x, failed q e)

      module _ (y : not b ≡ false) {c : Bool} (r : c ≡ stands 10 (is_mark w) (drop 32 s)) where
        pub bad_2 : not c ≡ true → Err (BadLine 2) ≡ told
        unfolding bad_at
        bad_2 e = rw (passed p x, passed q y, failed r e)

        module _ (z : not c ≡ false) {d : Bool} (t : d ≡ stands 3 is_letter (drop 43 s)) where
          pub bad_3 : not d ≡ true → Err (BadLine 3) ≡ told
          unfolding bad_at
          bad_3 e = rw (passed p x, passed q y, passed r z, failed t e)

          module _ (u : not d ≡ false) {f : Bool} (v : f ≡ stands 3 is_letter (drop 47 s)) where
            pub bad_4 : not f ≡ true → Err (BadLine 4) ≡ told
            unfolding bad_at
            bad_4 e = rw (passed p x, passed q y, passed r z, passed t u, failed v e)

            pub bad_later : not f ≡ false → lines_told lift (bad_at_end w s lift) ≡ told
            unfolding bad_at
            bad_later e = rw (passed p x, passed q y, passed r z, passed t u, passed v e)
