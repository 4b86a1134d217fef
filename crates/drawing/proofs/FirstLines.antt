-- The first line of a text: where it ends, and what stands in it. Assumes nothing.
use mathlib.Core.Path.{◌≡◌, refl, sym, ap, ◌∙◌}
use mathlib.Core.Bool.{Bool, true, false, cond, ◌&&◌}
use mathlib.Core.List.{List, [], ◌∷◌, ◌++◌, append_assoc}
use Prim.Native.Nat.{ℕ, zero, suc, ◌<◌}
use native.Mathlib.Omega.{arith}
use lib.Dec.{T, eqb}
use lib.ListN.{length, get_or, drop, get_or-append}
use borrow.Author.Tests.{eqb-true, eq-eqb, ne_eqb}
use Rattle.bits.specs.Search.{every}
use Rattle.bits.proofs.Cases.{split, clash, both, alike, and_intro}
use Rattle.bits.proofs.Search.{every_at, every_is}
use Rattle.drawing.specs.Reading.{first_line, each, same, begins}
use Rattle.drawing.specs.Private.{stands}
use Rattle.drawing.proofs.Begun.{same_eq, eq_same, begins_eq, begins_is, after_is}

-- a text is its first line and the rest
pub line_rest : (r : List ℕ) → first_line r ++ drop (length (first_line r)) r ≡ r
unfolding first_line
line_rest [] = refl
line_rest (b ∷ s) = split (eqb b 10)
    (λ e. rw e refl)
    (λ e. rw e (ap {B = List ℕ} (λ x. b ∷ x) (line_rest s)))

pub line_byte : (r : List ℕ) (i : ℕ) → i < length (first_line r) → get_or (first_line r) i 0 ≡ get_or r i 0
line_byte r i h =
    sym (get_or-append (first_line r) (drop (length (first_line r)) r) 0 i h) ∙ ap (λ (x : List ℕ). get_or x i 0) (line_rest r)

-- it ends with the first line feed
pub line_ends : (n : ℕ) (r : List ℕ) → ((i : ℕ) → i < n → get_or r i 0 ≡ 10 → ⊥) → get_or r n 0 ≡ 10 → length (first_line r) ≡ suc n
unfolding first_line
line_ends zero [] none e = absurd (omega arith)
line_ends zero (b ∷ s) none e = rw (eq-eqb b 10 e)
line_ends (suc n) [] none e = absurd (omega arith)
line_ends (suc n) (b ∷ s) none e =
    rw (ne_eqb b 10 (none 0 (omega arith))) (ap suc (line_ends n s (λ i h. none (suc i) (omega arith)) e))

-- ---- n bytes that pass a test, and a line feed

module _ (n : ℕ) (good : ℕ → Bool) (no_feed : good 10 ≡ false) (r : List ℕ) where
  good_byte : stands n good r ≡ true → (i : ℕ) → i < n → good (get_or r i 0) ≡ true
  unfolding stands
  good_byte e i h = every_at n (λ j. good (get_or r j 0)) (both (every n (λ j. good (get_or r j 0))) (eqb (get_or r n 0) 10) e).0 i h

  pub stands_length : stands n good r ≡ true → length (first_line r) ≡ suc n
  unfolding stands
  stands_length e =
      line_ends n r (λ i h x. clash (good_byte e i h) (ap good x ∙ no_feed))
      (eqb-true (get_or r n 0) 10 (both (every n (λ j. good (get_or r j 0))) (eqb (get_or r n 0) 10) e).1)

  pub each_stands : each n good (first_line r) ≡ stands n good r
  unfolding each stands
  each_stands = alike _ _ onward back
    where
      onward : each n good (first_line r) ≡ true → stands n good r ≡ true
      onward e =
          let l = first_line r in
          let (p, feed) = both (eqb (length l) (suc n) && every n (λ j. good (get_or l j 0))) (eqb (get_or l n 0) 10) e in
          let (m, all) = both (eqb (length l) (suc n)) (every n (λ j. good (get_or l j 0))) p in
          let k = eqb-true (length l) (suc n) m in
          and_intro
          (every_is n (λ j. good (get_or r j 0)) (λ j h. ap good (sym (line_byte r j (omega arith))) ∙ every_at n (λ j. good (get_or l j 0)) all j h))
          (ap (λ (b : ℕ). eqb b 10) (sym (line_byte r n (omega arith))) ∙ feed)

      back : stands n good r ≡ true → each n good (first_line r) ≡ true
      back e =
          let l = first_line r in
          let k = stands_length e in
          let feed = (both (every n (λ j. good (get_or r j 0))) (eqb (get_or r n 0) 10) e).1 in
          and_intro (and_intro (eq-eqb (length l) (suc n) k)
          (every_is n (λ j. good (get_or l j 0)) (λ j h. ap good (line_byte r j (omega arith)) ∙ good_byte e j h)))
          (ap (λ (b : ℕ). eqb b 10) (line_byte r n (omega arith)) ∙ feed)

-- ---- words

-- a word has no line feed
abbrev pub is_word : List ℕ → Bool
is_word [] = true
is_word (b ∷ s) = cond (eqb b 10) false (is_word s)

-- the first line of a text that begins with a word goes on after it
pub line_word : (word t : List ℕ) → T (is_word word) → first_line (word ++ t) ≡ word ++ first_line t
unfolding first_line
line_word [] t w = refl
line_word (b ∷ s) t w = split (eqb b 10)
    (λ e. absurd (rw e at w))
    (λ e. rw e (ap {B = List ℕ} (λ x. b ∷ x) (line_word s t (rw e at w))))

pub line_ended : (word t : List ℕ) → T (is_word word) → first_line ((word ++ (10 ∷ [])) ++ t) ≡ word ++ (10 ∷ [])
unfolding first_line
line_ended word t w = ap first_line (append_assoc word (10 ∷ []) t) ∙ line_word word (10 ∷ t) w

module _ (word : List ℕ) (w : T (is_word word)) (r : List ℕ) where
  -- whether a text begins with it is seen from the first line
  pub begins_line : begins word (first_line r) ≡ begins word r
  begins_line = alike _ _
      (λ e. begins_is word r _ (sym (line_rest r) ∙ ap (λ (x : List ℕ). x ++ drop (length (first_line r)) r) (begins_eq word (first_line r) e)
      ∙ append_assoc word (drop (length word) (first_line r)) (drop (length (first_line r)) r)))
      (λ e. begins_is word (first_line r) _ (ap first_line (begins_eq word r e) ∙ line_word word (drop (length word) r) w))

  -- and so is what stands after it
  pub after_line : begins word r ≡ true → drop (length word) (first_line r) ≡ first_line (drop (length word) r)
  after_line e = after_is word (first_line r) (first_line (drop (length word) r)) (ap first_line (begins_eq word r e) ∙ line_word word (drop (length word) r) w)

  -- the line is this word, and no more
  pub same_line : same (first_line r) (word ++ (10 ∷ [])) ≡ begins (word ++ (10 ∷ [])) r
  same_line = alike _ _
      (λ e. begins_is (word ++ (10 ∷ [])) r _ (sym (line_rest r) ∙ ap (λ (x : List ℕ). x ++ drop (length (first_line r)) r) (same_eq (first_line r) (word ++ (10 ∷ [])) e)))
      (λ e. eq_same (first_line r) (word ++ (10 ∷ [])) (ap first_line (begins_eq (word ++ (10 ∷ [])) r e) ∙ line_ended word _ w))
