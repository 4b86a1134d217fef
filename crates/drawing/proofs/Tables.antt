-- Lists by their elements, filled from the front by a loop with one store a turn; and a grid, filled so by two. Assumes nothing.
use mathlib.Core.Path.{◌≡◌, refl, ap, ap₂, ◌∙◌}
use mathlib.Core.List.{List, [], ◌∷◌, ◌++◌, append_assoc, append-nil}
use Prim.Native.Nat.{ℕ, zero, suc, ◌+◌, ◌≤◌, ◌<◌}
use native.Mathlib.Omega.{arith}
use native.Mathlib.Numerals.{add-one}
use lib.Dec.{ltb}
use lib.ListN.{length, get_or, set, drop, replicate, length-append, length-drop, drop_of_length-le, get_or-replicate, get_or-append}
use lib.Seq.{set_at, set-set, set-get_or, get_or-set_same, drop-cons, get_or_at}
use borrow.Author.Tests.{ltb-true, ltb-false}
use Rattle.bits.proofs.Cases.{split}
use Rattle.drawing.specs.Private.{table, cell_at, grid}

module _ {A : Type 0} (f : ℕ → A) where
  pub length_table : (n : ℕ) → length (table n f) ≡ n
  unfolding table
  length_table zero = refl
  length_table (suc n) = simp length-append (omega (arith, length_table n))

  pub get_d_table : (n i : ℕ) (d : A) → i < n → get_or (table n f) i d ≡ f i
  unfolding table
  get_d_table zero i d h = absurd (omega arith)
  get_d_table (suc n) i d h = split (ltb i n)
      (λ e.
      let k : i < length (table n f) = omega (arith, length_table n, ltb-true i n e) in
      get_or-append (table n f) _ d i k ∙ get_d_table n i d (ltb-true i n e))
      (λ e.
      let z : n ≡ i = omega (arith, ltb-false i n e) in
      get_or_at (table n f) (f n) [] d i (length_table n ∙ z) ∙ ap f z)

pub table_same : {A : Type 0} (f g : ℕ → A) (n : ℕ) → ((i : ℕ) → i < n → f i ≡ g i) → table n f ≡ table n g
unfolding table
table_same f g zero e = refl
table_same {A} f g (suc n) e = ap₂ (λ (l : List A) (x : A). l ++ (x ∷ [])) (table_same f g n (λ i h. e i (omega arith))) (e n (omega arith))

-- a list is the table of its elements
pub list_table : (l : List ℕ) → table (length l) (λ i. get_or l i 0) ≡ l
list_table l =
    let n = length_table (λ i. get_or l i 0) (length l) in
    lib.Seq.ext_get_or 0 (table (length l) (λ i. get_or l i 0)) l n
    (λ i h. get_d_table (λ i. get_or l i 0) (length l) i 0 (omega (arith, n)))

-- the first n elements are those of f, the rest those of l
unfoldable pub upto : {A : Type 0} → (ℕ → A) → List A → ℕ → List A
upto f l n = table n f ++ drop n l

module _ {A : Type 0} (f : ℕ → A) (l : List A) where
  pub upto_zero : l ≡ upto f l 0
  unfolding upto table
  upto_zero = refl

  pub length_upto : (n : ℕ) → n ≤ length l → length (upto f l n) ≡ length l
  unfolding upto
  length_upto n h = simp (length-append, length_table, length-drop) (omega arith)

  pub upto_turn : (n : ℕ) (d : A) → n < length l → set (upto f l n) n (f n) ≡ upto f l (n + 1)
  unfolding upto table
  upto_turn n d h = rw (add-one, drop-cons l n d h, set_at (table n f) (get_or l n d) (drop (suc n) l) (f n) n (length_table f n), append_assoc) refl

  pub get_d_upto : (n : ℕ) (d : A) → n < length l → get_or (upto f l n) n d ≡ get_or l n d
  unfolding upto
  get_d_upto n d h = rw (drop-cons l n d h, get_or_at (table n f) (get_or l n d) (drop (suc n) l) d n (length_table f n)) refl

  pub upto_all : (n : ℕ) → length l ≡ n → upto f l n ≡ table n f
  unfolding upto
  upto_all n h = let k : length l ≤ n = omega arith in rw (drop_of_length-le l k, append-nil) refl

-- ---- a loop that fills a list

-- l is filled up to n of m
pub record Filled {A : Type 0} (f : ℕ → A) (l₀ : List A) (m : ℕ) (l : List A) (n : ℕ) : Type 0 where
  pub within : n ≤ m
  pub holds : l ≡ upto f l₀ n

pub fill_starts : {A : Type 0} (f : ℕ → A) (l : List A) (m : ℕ) → Filled f l m l 0
fill_starts f l m = record { within = omega arith; holds = upto_zero f l }

pub fills : {A : Type 0} {f : ℕ → A} {l₀ l : List A} {m n : ℕ} {v : A} → A → Filled f l₀ m l n → n < m → m ≤ length l₀ → v ≡ f n → Filled f l₀ m (set l n v) (n + 1)
fills {A} {f} {l₀} {l} {m} {n} d inv h k e =
    record { within = omega arith; holds = ap₂ (λ (x : List A) (y : A). set x n y) inv.holds e ∙ upto_turn f l₀ n d (omega arith) }

pub fill_same : {A : Type 0} {f : ℕ → A} {l₀ l : List A} {m n : ℕ} → Filled f l₀ m l n → m ≤ length l₀ → length l ≡ length l₀
fill_same {A} {f} {l₀} {l} {m} {n} inv k = ap length inv.holds ∙ length_upto f l₀ n (omega (arith, inv.within))

pub fill_ends : {A : Type 0} {f : ℕ → A} {l₀ l : List A} {m n : ℕ} → Filled f l₀ m l n → m ≤ n → l ≡ table m f ++ drop m l₀
unfolding upto
fill_ends {A} {f} {l₀} {l} {m} {n} inv h = let z : n ≡ m = omega (arith, inv.within) in inv.holds ∙ ap (upto f l₀) z

-- an array that is filled whole
pub array_ends : {A : Type 0} {f : ℕ → A} {l₀ l : List A} {m n : ℕ} → Filled f l₀ m l n → m ≤ n → length l₀ ≡ m → l ≡ table m f
array_ends {A} {f} {l₀} {l} {m} {n} inv h k =
    let z : n ≡ m = omega (arith, inv.within) in inv.holds ∙ ap (upto f l₀) z ∙ upto_all f l₀ m k

-- ---- a grid that two loops fill: f k at cell k

abbrev pub rows : (ℕ → ℕ) → ℕ → List ℕ
rows f i = table 20 (λ j. f (cell_at i j))

abbrev pub blank : List (List ℕ)
blank = replicate 3 (replicate 20 0)

blank_row : (i : ℕ) → i < 3 → length (get_or blank i []) ≡ 20
blank_row i h = ap length (get_or-replicate 3 i (replicate 20 0) [] h)

-- the rows before i are filled
pub record Rows (f : ℕ → ℕ) (g : List (List ℕ)) (i : ℕ) : Type 0 where
  pub within : i ≤ 3
  pub holds : g ≡ upto (rows f) blank i

-- and of row i the places before j
unfoldable pub row_to : (ℕ → ℕ) → ℕ → ℕ → List (List ℕ)
row_to f i j = set (upto (rows f) blank i) i (upto (λ j. f (cell_at i j)) (get_or blank i []) j)

pub record Row (f : ℕ → ℕ) (g : List (List ℕ)) (i j : ℕ) : Type 0 where
  pub row : i < 3
  pub within : j ≤ 20
  pub holds : g ≡ row_to f i j

pub rows_start : {f : ℕ → ℕ} → Rows f blank 0
rows_start {f} = record { within = omega arith; holds = upto_zero (rows f) blank }

pub row_starts : {f : ℕ → ℕ} {g : List (List ℕ)} {i : ℕ} → Rows f g i → i < 3 → Row f g i 0
unfolding row_to
row_starts {f} {g} {i} inv h = record { row = h; within = omega arith; holds = inv.holds ∙ begins }
  where
    begins : upto (rows f) blank i ≡ set (upto (rows f) blank i) i (upto (λ j. f (cell_at i j)) (get_or blank i []) 0)
    begins = rw (← upto_zero (λ j. f (cell_at i j)) (get_or blank i []), ← get_d_upto (rows f) blank i [] h, set-get_or) refl

pub row_turns : {f : ℕ → ℕ} {g : List (List ℕ)} {i j v : ℕ} → Row f g i j → j < 20 → v ≡ f (cell_at i j)
    → Row f (set g i (set (get_or g i []) j v)) i (j + 1)
unfolding row_to
row_turns {f} {g} {i} {j} {v} inv h e =
    record {
      row = inv.row;
      within = omega arith;
      holds = ap₂ (λ (x : List (List ℕ)) (y : ℕ). set x i (set (get_or x i []) j y)) inv.holds e ∙ turns;
    }
  where
    turns : set (row_to f i j) i (set (get_or (row_to f i j) i []) j (f (cell_at i j))) ≡ row_to f i (j + 1)
    turns =
        let l = inv.row in
        let z : i < length (upto (rows f) blank i) = omega (arith, length_upto (rows f) blank i (omega arith)) in
        let row : List ℕ = upto (λ j. f (cell_at i j)) (get_or blank i []) j in
        rw (
          get_or-set_same (upto (rows f) blank i) i row [] z,
          set-set,
          upto_turn (λ j. f (cell_at i j)) (get_or blank i []) j 0 (omega (arith, blank_row i l)),
        ) refl

pub row_ends : {f : ℕ → ℕ} {g : List (List ℕ)} {i j : ℕ} → Row f g i j → 20 ≤ j → Rows f g (i + 1)
unfolding row_to
row_ends {f} {g} {i} {j} inv h =
    let l = inv.row in
    let z : j ≡ 20 = omega (arith, inv.within) in
    record { within = omega arith; holds = inv.holds ∙ ap (row_to f i) z ∙ ends l }
  where
    ends : i < 3 → row_to f i 20 ≡ upto (rows f) blank (i + 1)
    ends l = rw (upto_all (λ j. f (cell_at i j)) (get_or blank i []) 20 (blank_row i l), upto_turn (rows f) blank i [] l) refl

pub rows_end : {f : ℕ → ℕ} {g : List (List ℕ)} {i : ℕ} → Rows f g i → 3 ≤ i → g ≡ grid f
unfolding grid
rows_end {f} {g} {i} inv h =
    let z : i ≡ 3 = omega (arith, inv.within) in
    inv.holds ∙ ap (upto (rows f) blank) z ∙ upto_all (rows f) blank 3 refl
