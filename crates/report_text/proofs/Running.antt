-- The loop that lays a line for each total: how long a line is, the loop's invariant, where it starts, one turn, and what it says at the
-- end. Assumes nothing.
use mathlib.Core.Path.{◌≡◌, refl, sym, ap, ap₂, ◌∙◌}
use mathlib.Core.Bool.{Bool, true, false, cond}
use mathlib.Core.List.{List, [], ◌∷◌, ◌++◌, map, append_assoc, append-nil}
use mathlib.Core.Logic.{◌⊎◌, inl, inr}
use Prim.Native.Nat.{ℕ, zero, suc, ◌+◌, ◌-◌, ◌*◌, ◌^◌, ◌≤◌, ◌<◌}
use native.Mathlib.Omega.{arith}
use native.Mathlib.Numerals.{add-one}
use lib.Dec.{T, leb}
use lib.ListN.{length, take, drop, get_or, replicate, take-append-drop}
use borrow.Author.Tests.{leb-true}
use Rattle.bits.specs.Places.{from, join}
use Rattle.bits.specs.Search.{every}
use Rattle.bits.proofs.Cases.{T→true}
use Rattle.bits.proofs.Search.{each, lt_or_ge}
use Rattle.totals.specs.Totals.{order, name_at, totals_of}
use Rattle.totals.proofs.Order.{most_cars_from}
use Rattle.report_text.specs.declared.Text.{Text}
use Rattle.codec.specs.Text.{ascii, decimal_to}
use Rattle.report_text.specs.Lines.{total_name, line_of, printed, filtered, in_force, report_lines, text_of}
use Rattle.report_text.specs.Private.{no_text, laid_text, AddsText, line_if}
use Rattle.report_text.proofs.Digits.{decimal_short}
use Rattle.report_text.proofs.Laying.{then}
use Rattle.report_text.proofs.Names.{line_length}

-- ---- how long a line is

all_short : T (every 52 (λ p. leb (length (total_name (name_at p))) 9))
unfolding every name_at order total_name ascii decimal_to
all_short = tt

pub name_short : (p : ℕ) → length (total_name (name_at p)) ≤ 9
unfolding total_name ascii
name_short p = go (lt_or_ge p 52)
  where
    go : (p < 52) ⊎ (52 ≤ p) → length (total_name (name_at p)) ≤ 9
    go (inl l) = leb-true _ _ (T→true _ (each 52 (λ p. leb (length (total_name (name_at p))) 9) all_short p l))
    go (inr l) = rw (most_cars_from p (omega arith)) (omega arith)

pub line_short : (p v : ℕ) → v < 2 ^ 32 → length (line_of (name_at p) v) ≤ 21
line_short p v l = omega (arith, line_length (name_at p) v, name_short p, decimal_short 9 v (omega arith))

pub line_if_short : (p v : ℕ) → v < 2 ^ 32 → length (line_if p v) ≤ 21
unfolding line_if
line_if_short p v l = go (printed (name_at p))
  where
    go : (b : Bool) → length (cond b (line_of (name_at p) v) []) ≤ 21
    go true = line_short p v l
    go false = omega arith

-- ---- lines one after another

module _ (f : ℕ → List ℕ) (test : ℕ → Bool) where
  abbrev joined : ℕ → ℕ → List ℕ
  joined a n = join (map f (filtered test (from a n)))

  first : (a n : ℕ) → joined a (suc n) ≡ cond (test a) (f a) [] ++ joined (suc a) n
  unfolding filtered
  first a n = go (test a)
    where
      go : (b : Bool) → join (map f (cond b (a ∷ filtered test (from (suc a) n)) (filtered test (from (suc a) n)))) ≡ cond b (f a) [] ++ joined (suc a) n
      go true = refl
      go false = refl

  pub one_more : (n a : ℕ) → joined a (suc n) ≡ joined a n ++ cond (test (a + n)) (f (a + n)) []
  unfolding filtered
  one_more zero a =
      let e : a ≡ a + 0 = omega arith in
      first a 0 ∙ append-nil (cond (test a) (f a) []) ∙ ap (λ (k : ℕ). cond (test k) (f k) []) e
  one_more (suc n) a =
      let e : suc a + n ≡ a + suc n = omega arith in
      first a (suc n) ∙ ap (λ s. cond (test a) (f a) [] ++ s) (one_more n (suc a) ∙ ap (λ (k : ℕ). joined (suc a) n ++ cond (test k) (f k) []) e)
      ∙ sym (append_assoc (cond (test a) (f a) []) (joined (suc a) n) (cond (test (a + suc n)) (f (a + suc n)) []))
      ∙ ap (λ s. s ++ cond (test (a + suc n)) (f (a + suc n)) []) (sym (first a n))

-- the lines of the first n places
unfoldable pub text_to : List ℕ → ℕ → List ℕ
text_to c n = joined (λ p. line_of (name_at p) (get_or c p 0)) (λ p. printed (name_at p)) 0 n

pub text_none : (c : List ℕ) → text_to c 0 ≡ []
unfolding text_to filtered
text_none c = refl

pub text_more : (c : List ℕ) (n : ℕ) → text_to c (suc n) ≡ text_to c n ++ line_if n (get_or c n 0)
unfolding text_to line_if
text_more c n =
    let e : 0 + n ≡ n = omega arith in
    one_more (λ p. line_of (name_at p) (get_or c p 0)) (λ p. printed (name_at p)) n 0
    ∙ ap (λ (k : ℕ). text_to c n ++ cond (printed (name_at k)) (line_of (name_at k) (get_or c k 0)) []) e

pub text_all : (c : List ℕ) → text_to c 52 ≡ join (report_lines (totals_of c))
unfolding text_to report_lines in_force
text_all c = refl

-- nothing laid
pub adds_none : (d : Text) → AddsText d [] d
unfolding laid_text
adds_none d = record { holds = sym (whole (d.size + 0) (omega arith)); next = omega arith; same = refl }
  where
    whole : (n : ℕ) → n ≡ d.size → take d.size d.bytes ++ [] ++ drop n d.bytes ≡ d.bytes
    whole n e = rw (e, append-nil) (take-append-drop d.size d.bytes)

-- ---- the loop

-- the lines of the first i places are added to a text that had none
pub record Running (d : Text) (c : List ℕ) (e : Text) (i : ℕ) : Type 0 where
  pub within : i ≤ 52
  pub short : e.size ≤ i * 21
  pub lines : AddsText d (text_to c i) e

pub starts : (d : Text) (c : List ℕ) → d.size ≡ 0 → Running d c d 0
unfolding text_to filtered
starts d c z = record { within = omega arith; short = omega arith; lines = adds_none d }

pub turns : (d : Text) (c : List ℕ) (e f : Text) (i : ℕ) → i < 52 → d.size ≤ length d.bytes → f.size ≤ e.size + 21
    → Running d c e i → AddsText e (line_if i (get_or c i 0)) f → Running d c f (i + 1)
turns d c e f i l z v r x = record {
  within = omega arith;
  short = omega (arith, r.short);
  lines = rw (add-one, text_more) (then d e f (text_to c i) (line_if i (get_or c i 0)) z r.lines x);
}

pub ends : (d : Text) (c : List ℕ) (e : Text) (i : ℕ) → 52 ≤ i → Running d c e i → AddsText d (join (report_lines (totals_of c))) e
ends d c e i l r =
    let z : i ≡ 52 = omega (arith, r.within) in
    rw (← text_all c, ← z) r.lines

-- ---- the whole text

-- zeros
abbrev zeros : ℕ → List ℕ
zeros n = replicate n 0

drop_zeros : (k n : ℕ) → drop k (zeros n) ≡ zeros (n - k)
drop_zeros zero n =
    let e : n ≡ n - 0 = omega arith in
    ap zeros e
drop_zeros (suc k) zero =
    let e : 0 ≡ 0 - suc k = omega arith in
    ap zeros e
drop_zeros (suc k) (suc n) =
    let e : n - k ≡ suc n - suc k = omega arith in
    drop_zeros k n ∙ ap zeros e

pub no_text_room : length no_text.bytes ≡ 1092
no_text_room = refl

-- what is added to no text is the text
pub whole_text : (s : List ℕ) (u : Text) → AddsText no_text s u → u ≡ text_of s
unfolding laid_text
whole_text s u x =
    let z : 0 + length s ≡ length s = omega arith in
    ap₂ made (x.holds ∙ ap (λ (b : List ℕ). s ++ b) (ap (λ (n : ℕ). drop n (zeros 1092)) z ∙ drop_zeros (length s) 1092)) (x.next ∙ z)
  where
    made : List ℕ → ℕ → Text
    made b n = record { bytes = b; size = n }
