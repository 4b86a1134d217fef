-- Text laid piece after piece is the text laid at once. Assumes nothing.
use mathlib.Core.Path.{◌≡◌, sym, ap, ap₂, ◌∙◌}
use Prim.Native.Nat.{ℕ, ◌+◌, ◌-◌, ◌≤◌}
use mathlib.Core.List.{List, ◌++◌, append_assoc}
use native.Mathlib.Omega.{arith}
use native.Mathlib.Nat.{add_assoc}
use lib.ListN.{length, take, drop, length-append, length-drop}
use borrow.Rule.Slice.PartMut.{put_mid, Post-is}
use lib.Seq.{length-take-le, take_at, drop-append-add, drop-drop}
use Rattle.report_text.specs.declared.Text.{Text}
use Rattle.report_text.specs.Private.{laid_text, AddsText}

-- the part behind a text written anew
pub laid_behind : (d : List ℕ) (at : ℕ) (s p : List ℕ) → p ≡ s → put_mid at (at + length s - at) d p ≡ laid_text d at s
unfolding laid_text
laid_behind d at s p e =
    rw e
    (ap (λ (l : List ℕ). take at d ++ (s ++ l)) (Post-is at (at + length s) d (omega arith))
    ∙ sym (append_assoc (take at d) s (drop (at + length s) d)))

pub length_laid : (d : List ℕ) (at : ℕ) (s : List ℕ) → at + length s ≤ length d → length (laid_text d at s) ≡ length d
unfolding laid_text
length_laid d at s h =
    omega (
      arith,
      length-append (take at d ++ s) (drop (at + length s) d),
      length-append (take at d) s,
      length-drop (at + length s) d,
      length-take-le at d (omega arith),
    )

head_length : (d : List ℕ) (at : ℕ) (a : List ℕ) → at ≤ length d → length (take at d ++ a) ≡ at + length a
head_length d at a h = length-append (take at d) a ∙ ap (λ (n : ℕ). n + length a) (length-take-le at d h)

pub laid_laid : (d : List ℕ) (at : ℕ) (a b : List ℕ) → at ≤ length d → laid_text (laid_text d at a) (at + length a) b ≡ laid_text d at (a ++ b)
unfolding laid_text
laid_laid d at a b h =
    let p = take at d ++ a in
    let e : length p ≡ at + length a = head_length d at a h in
    let t : take (at + length a) (p ++ drop (at + length a) d) ≡ p = take_at p (drop (at + length a) d) (at + length a) e in
    let r : drop (at + length a + length b) (p ++ drop (at + length a) d) ≡ drop (at + length (a ++ b)) d =
    ap (λ (n : ℕ). drop (n + length b) (p ++ drop (at + length a) d)) (sym e) ∙ drop-append-add p (drop (at + length a) d) (length b)
    ∙ drop-drop (length b) (at + length a) d
    ∙ ap (λ (n : ℕ). drop n d) (add_assoc at (length a) (length b) ∙ ap (λ (n : ℕ). at + n) (sym (length-append a b))) in
    ap₂ (λ (x y : List ℕ). x ++ b ++ y) t r ∙ ap (λ (x : List ℕ). x ++ drop (at + length (a ++ b)) d) (append_assoc (take at d) a b)

-- one piece after another
pub then : (d e f : Text) (a b : List ℕ) → d.size ≤ length d.bytes → AddsText d a e → AddsText e b f → AddsText d (a ++ b) f
then d e f a b h x y = record {
  holds = y.holds ∙ ap₂ (λ (l : List ℕ) (n : ℕ). laid_text l n b) x.holds x.next ∙ laid_laid d.bytes d.size a b h;
  next = y.next ∙ ap (λ (n : ℕ). n + length b) x.next ∙ add_assoc d.size (length a) (length b)
      ∙ ap (λ (n : ℕ). d.size + n) (sym (length-append a b));
  same = y.same ∙ x.same;
}
