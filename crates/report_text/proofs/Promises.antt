-- The promises of specs/Promises.antt. What is said of every place or every number below a bound is tried at each. Assumes nothing.
use mathlib.Core.Path.{◌≡◌, refl, ap, subst, ◌∙◌}
use mathlib.Core.Bool.{Bool, true, false, not, ◌||◌}
use mathlib.Core.List.{List, [], ◌∷◌}
use Prim.Native.Nat.{ℕ, zero, suc, ◌+◌, ◌*◌, ◌≤◌, ◌<◌}
use native.Mathlib.Omega.{arith}
use lib.Dec.{T, eqb, ltb}
use lib.ListN.{length, get_or, length-append, length-map}
use borrow.Author.Tests.{eqb-true, eq-eqb, ltb-true}
use Rattle.bits.specs.Bits.{count}
use Rattle.bits.specs.Places.{from}
use Rattle.bits.specs.Search.{every}
use Rattle.bits.proofs.Cases.{split, T→true}
use Rattle.bits.proofs.Search.{each}
use Rattle.bits.proofs.Lists.{same}
use Rattle.answers.specs.Answers.{OfTable, in_table}
use Rattle.answers.proofs.Promises.{table_exactly, number_byte}
use Rattle.std.specs.declared.option.Option.{Option}
use Rattle.std.specs.declared.option.Option.TheVariants.{Some, None}
use Rattle.totals.specs.declared.Name.{Name}
use Rattle.totals.specs.declared.Name.TheVariants.{Number}
use Rattle.totals.specs.Totals.{order, name_at, most_counted}
use Rattle.totals.proofs.Order.{number_at}
use Rattle.codec.specs.Text.{ascii, decimal_to}
use Rattle.report_text.specs.Lines.{total_name, full_line, filtered, in_force, report_lines, report_of}
use Rattle.report_text.specs.Private.{line_if}
use Rattle.report_text.specs.Promises.{NumbersDiffer, NamesDiffer, NumbersPlaced, AsManyLines, ReportFits}
use Rattle.report_text.proofs.Digits.{decimal_once}
use Rattle.report_text.proofs.Running.{text_none, name_short, line_if_short, text_to, text_more, text_all}

pub numbers_differ : NumbersDiffer
numbers_differ = decimal_once

-- ---- names

same_refl : (l : List ℕ) → T (same l l)
same_refl [] = tt
same_refl (n ∷ l) = rw (eq-eqb n n refl) (same_refl l)

abbrev differ : ℕ → ℕ → Bool
differ p q = eqb p q || not (same (total_name (name_at p)) (total_name (name_at q)))

all_differ : T (every 52 (λ p. every 52 (differ p)))
unfolding every name_at order total_name ascii decimal_to
all_differ = tt

apart : (k l : List ℕ) → k ≡ l → T (not (same k l)) → ⊥
apart k l e = go (same k l) (subst (λ m. T (same k m)) e (same_refl k))
  where
    go : (b : Bool) → T b → T (not b) → ⊥
    go true t d = d
    go false t d = t

pub names_differ : NamesDiffer
names_differ p q l m e = split (eqb p q) (eqb-true p q)
    (λ t. absurd (apart (total_name (name_at p)) (total_name (name_at q)) e
    (rw t at (each 52 (differ p) (each 52 (λ p. every 52 (differ p)) all_differ p l) q m))))

-- ---- numbers

all_placed : T (every 256 (λ n. not (in_table n) || ltb n 34))
unfolding every
all_placed = tt

pub numbers_placed : NumbersPlaced
numbers_placed n e =
    let l : n < 34 = placed ((table_exactly n).0 e) in
    let z : 0 + n ≡ n = omega arith in
    (omega arith, number_at n l ∙ ap Number z)
  where
    placed : OfTable n → n < 34
    placed (a, i) =
        let tried = each 256 (λ n. not (in_table n) || ltb n 34) all_placed n (omega (arith, number_byte a)) in
        ltb-true n 34 (T→true (ltb n 34) (rw e at tried))

-- ---- lines

in_force_lem : length in_force ≡ count (from 0 256) in_table + 18
unfolding in_force filtered name_at order
in_force_lem = refl

pub as_many_lines : AsManyLines
unfolding report_lines
as_many_lines t = length-map in_force _ ∙ in_force_lem

text_short : (c : List ℕ) (n : ℕ) → ((p : ℕ) → get_or c p 0 ≤ most_counted) → length (text_to c n) ≤ n * 21
text_short c zero h = omega (arith, ap length (text_none c))
text_short c (suc n) h =
    let more = ap length (text_more c n) ∙ length-append (text_to c n) (line_if n (get_or c n 0)) in
    omega (arith, text_short c n h, line_if_short n (get_or c n 0) (omega (arith, h n)))

pub report_fits : ReportFits
unfolding report_of full_line ascii
report_fits t full h = go full
  where
    alone : (x : Name) → length (total_name x) ≤ 9 → length (full_line x) ≤ 1092
    alone x l = omega (arith, length-append (total_name x) (ascii "\n"))

    go : (o : Option ℕ) → length (report_of t o) ≤ 1092
    go None = rw (← text_all t.counts) (omega (arith, text_short t.counts 52 h))
    go (Some p) = alone (name_at p) (name_short p)
