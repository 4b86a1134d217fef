-- The belt under a cell is the one that has it among its cells: the ranges of `belt_of` and the lists of `belt_cells` agree.
-- Assumes nothing.
use mathlib.Core.Path.{◌≡◌, refl, sym, subst, ap₂}
use mathlib.Core.Bool.{Bool, true, false, ◌&&◌, beq}
use mathlib.Core.List.{[]}
use Prim.Native.Nat.{ℕ, zero, suc}
use native.Mathlib.Omega.{arith}
use lib.Dec.{T, eqb}
use lib.ListN.{get_or}
use borrow.Author.Tests.{eqb-true, eq-eqb}
use Rattle.bits.specs.Places.{elem}
use Rattle.bits.specs.Search.{every}
use Rattle.bits.proofs.Cases.{both, clash, and_intro, beq→eq, T→true, true→T}
use Rattle.bits.proofs.Search.{each}
use Rattle.floor.specs.declared.Belt.{Belt}
use Rattle.std.specs.declared.option.Option.{Option}
use Rattle.std.specs.declared.option.Option.TheVariants.{Some, None}
use Rattle.floor.specs.Floor.{belt_cells, belt, belt_of}
use Rattle.floor.specs.Promises.{BeltsExactly}

-- whether it is this belt
abbrev is : ℕ → ℕ → Option Belt → Bool
is row number (Some b) = eqb b.row row && eqb b.number number
is row number None = false

is_belt : (row number : ℕ) (b : Option Belt) → is row number b ≡ true → b ≡ belt row number
is_belt row number (Some b) e = let (p, q) = both (eqb b.row row) (eqb b.number number) e in ap₂ belt (eqb-true b.row row p) (eqb-true b.number number q)
is_belt row number None e = clash e refl

belt_is : (row number : ℕ) → is row number (belt row number) ≡ true
belt_is row number = and_intro (eq-eqb row row refl) (eq-eqb number number refl)

-- at every row, belt and cell
abbrev agrees : ℕ → ℕ → ℕ → Bool
agrees row number k = beq (is row number (belt_of k)) (elem k (get_or (belt_cells row) number []))

agree_all : T (every 3 λ row. every 5 λ number. every 64 λ k. agrees (suc row) number k)
unfolding every belt_of
agree_all = tt

pub belt_iff_cell : BeltsExactly
belt_iff_cell zero number k (a, b, c, d) = absurd (omega arith)
belt_iff_cell (suc row) number k (a, b, c, d) =
    let in_row = each 3 (λ row. every 5 λ number. every 64 λ k. agrees (suc row) number k) agree_all row (omega arith) in
    let onBelt = each 5 (λ number. every 64 λ k. agrees (suc row) number k) in_row number c in
    let e = beq→eq (is (suc row) number (belt_of k)) (elem k (get_or (belt_cells (suc row)) number [])) (each 64 (λ k. agrees (suc row) number k) onBelt k d) in (
      λ o. subst T e (rw o (true→T (belt_is (suc row) number))),
      λ m. is_belt (suc row) number (belt_of k) (T→true (is (suc row) number (belt_of k)) (subst T (sym e) m)),
    )
