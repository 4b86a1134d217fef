-- An array of numbers that a loop fills by element: the invariant, where it starts, one turn, and what the array then holds.
-- Assumes nothing.
use mathlib.Core.Path.{◌≡◌, refl, sym, ap, ap₂, ◌∙◌, subst}
use mathlib.Core.Bool.{Bool, true, false, cond, ◌||◌}
use mathlib.Core.List.{List, [], ◌∷◌}
use Prim.Native.Nat.{ℕ, zero, suc, ◌+◌, ◌≤◌, ◌<◌}
use native.Mathlib.Omega.{arith}
use lib.Dec.{eqb, ltb, eqb-zero-suc, eqb-suc-zero, eqb-suc-suc}
use lib.ListN.{length, get_or, set, replicate}
use borrow.Author.Tests.{lt-ltb, le-ltb, ne_eqb, eqb-true, eqb-false, ltb-true, ltb-false}
use Rattle.bits.specs.Bits.{bit}
use Rattle.bits.proofs.Cases.{split, neither, true→T}
use Rattle.floor.specs.Floor.{raised_car, drive_in}
use Rattle.floor.specs.Tests.{holds, at_basement}
use Rattle.rules.specs.declared.Instruction.{Instruction}
use Rattle.rules.specs.declared.Event.{Event}
use Rattle.rules.specs.declared.Event.TheVariants.{BeginIn, BeginOut, EndDone, EndNotDone}
use Rattle.rules.specs.Rules.{well_formed}
use Rattle.cards.specs.Cards.{Numbers}
use Rattle.cards.specs.Following.{takings, number_at, numbers_taken, numbers_after, numbers_driven}
use Rattle.cards.specs.Held.{listed_numbers, place_of_element, held_numbers, numbers_in, cards_after, cards_driven}
use Rattle.cards.specs.Private.{number_from, source_of}
use Rattle.cards.proofs.Takings.{taken_source, source_is}

listed_same : (m : ℕ) (f g : Numbers) → ((j : ℕ) → j < m → f j ≡ g j) → listed_numbers m f ≡ listed_numbers m g
unfolding listed_numbers
listed_same zero f g e = refl
listed_same (suc m) f g e = ap₂ ◌∷◌ (e 0 (omega arith)) (listed_same m (λ j. f (suc j)) (λ j. g (suc j)) (λ j h. e (suc j) (omega arith)))

set_listed : (m k : ℕ) (f : Numbers) (v : ℕ) → k < m → set (listed_numbers m f) k v ≡ listed_numbers m (λ j. cond (eqb k j) v (f j))
unfolding listed_numbers
set_listed zero k f v h = absurd (omega arith)
set_listed (suc m) zero f v h = ap (λ (l : List ℕ). v ∷ l) (listed_same m _ _ (λ j l. rw eqb-zero-suc))
set_listed (suc m) (suc k) f v h =
    rw eqb-suc-zero (ap (λ (l : List ℕ). f 0 ∷ l)
    (set_listed m k (λ j. f (suc j)) v (omega arith) ∙ listed_same m _ _ (λ j l. rw eqb-suc-suc)))

-- the first k of m elements are those of f, the others 0
pub record Filling (f : Numbers) (m : ℕ) (kept : List ℕ) (k : ℕ) : Type 0 where
  pub filled : kept ≡ listed_numbers m (λ j. cond (ltb j k) (f j) 0)

none_filled : (m : ℕ) (g : Numbers) → ((j : ℕ) → g j ≡ 0) → replicate m 0 ≡ listed_numbers m g
unfolding listed_numbers
none_filled zero g e = refl
none_filled (suc m) g e = ap₂ ◌∷◌ (sym (e 0)) (none_filled m (λ j. g (suc j)) (λ j. e (suc j)))

pub fill_starts : (f : Numbers) (m : ℕ) → Filling f m (replicate m 0) 0
fill_starts f m = record { filled = none_filled m _ (λ j. rw (le-ltb j 0 (omega arith))) }

pub fills : {f : Numbers} {m k : ℕ} {kept : List ℕ} {v : ℕ} → Filling f m kept k → k < m → v ≡ f k → Filling f m (set kept k v) (k + 1)
fills {f} {m} {k} {kept} {v} p l e =
    record { filled = rw p.filled (set_listed m k _ v l ∙ listed_same m _ _ (λ j h. one j)) }
  where
    one : (j : ℕ) → cond (eqb k j) v (cond (ltb j k) (f j) 0) ≡ cond (ltb j (k + 1)) (f j) 0
    one j = split (eqb k j)
        (λ t. let i = eqb-true k j t in rw (t, lt-ltb j (k + 1) (omega arith)) (e ∙ ap f i))
        (λ t. let ne = eqb-false k j t in split (ltb j k)
        (λ u. let h = ltb-true j k u in rw (t, u, lt-ltb j (k + 1) (omega arith)))
        (λ u. let h = ltb-false j k u in rw (t, u, le-ltb j (k + 1) (omega arith))))

pub fill_ends : {f : Numbers} {m k : ℕ} {kept : List ℕ} → Filling f m kept k → m ≤ k → kept ≡ listed_numbers m f
fill_ends {f} {m} {k} p l = p.filled ∙ listed_same m _ _ (λ j h. rw (lt-ltb j k (omega arith)))

-- ---- numbers as elements

get_d_listed : (m : ℕ) (n : Numbers) (k : ℕ) → get_or (listed_numbers m n) k 0 ≡ cond (ltb k m) (n k) 0
unfolding listed_numbers
get_d_listed zero n k = rw (le-ltb k 0 (omega arith))
get_d_listed (suc m) n zero = rw (lt-ltb 0 (suc m) (omega arith))
get_d_listed (suc m) n (suc k) = get_d_listed m (λ j. n (suc j)) k ∙ ap (λ (b : Bool). cond b (n (suc k)) 0) (suc_ltb k m)
  where
    suc_ltb : (k m : ℕ) → ltb k m ≡ ltb (suc k) (suc m)
    suc_ltb k m = split (ltb k m)
        (λ t. let h = ltb-true k m t in t ∙ sym (lt-ltb (suc k) (suc m) (omega arith)))
        (λ t. let h = ltb-false k m t in t ∙ sym (le-ltb (suc k) (suc m) (omega arith)))

-- a place's number is held as it is, and no other place has one
pub in_held : (n : Numbers) (k : ℕ) → numbers_in (held_numbers n) k ≡ cond (ltb k 40 || (eqb raised_car k || eqb drive_in k)) (n k) 0
unfolding numbers_in held_numbers
in_held n k = split (ltb k 40)
    (λ t. let h = ltb-true k 40 t in rw t (get_d_listed 42 (λ j. n (place_of_element j)) k ∙ rw (lt-ltb k 42 (omega arith), t)))
    (λ t. split (eqb raised_car k)
    (λ u. rw (t, u) (get_d_listed 42 (λ j. n (place_of_element j)) 40 ∙ ap n (eqb-true raised_car k u)))
    (λ u. split (eqb drive_in k)
    (λ v. rw (t, u, v) (get_d_listed 42 (λ j. n (place_of_element j)) 41 ∙ ap n (eqb-true drive_in k v)))
    (λ v. rw (t, u, v))))

pub none_in : (a : List ℕ) (k : ℕ) → ltb k 40 || (eqb raised_car k || eqb drive_in k) ≡ false → numbers_in a k ≡ 0
unfolding numbers_in
none_in a k e =
    let (t, rest) = neither (ltb k 40) (eqb raised_car k || eqb drive_in k) e in
    let (u, v) = neither (eqb raised_car k) (eqb drive_in k) rest in
    rw (t, u, v)

-- ---- elements by the kind of their place

pub cell_place : (j : ℕ) → j < 40 → place_of_element j ≡ j
cell_place j h = rw (lt-ltb j 40 h)

-- what holds of the cells' elements, of the raised lift's and of the waiting one holds of all
pub by_place : (P : ℕ → Type 0) → ((j : ℕ) → j < 40 → P j) → P 40 → P 41 → (j : ℕ) → j < 42 → P j
by_place P cells lift coming j h = split (ltb j 40)
    (λ t. cells j (ltb-true j 40 t))
    (λ t. let a = ltb-false j 40 t in split (eqb j 40)
    (λ u. subst P (sym (eqb-true j 40 u)) lift)
    (λ u. let b = eqb-false j 40 u in let q : 41 ≡ j = omega arith in subst P q coming))

pub place_small : (j : ℕ) → j < 42 → place_of_element j < 64
place_small = by_place (λ j. place_of_element j < 64) (λ j h. rw (lt-ltb j 40 h) (omega arith)) (omega arith) (omega arith)

-- ---- the numbers after an instruction

abbrev pub new_at : Instruction → ℕ → List ℕ → Numbers
new_at i r a j = numbers_after i (bit r) (numbers_in a) (place_of_element j)

-- an element is the number at the source that the code finds
pub element : (i : Instruction) (r : ℕ) (a : List ℕ) (j : ℕ) → j < 42 → well_formed i ≡ true
    → number_from (numbers_in a) (source_of i (holds at_basement (bit r)) (place_of_element j)) ≡ new_at i r a j
unfolding numbers_after
element i r a j h w =
    let s = place_small j h in
    ap (number_at (numbers_in a)) (source_is i (true→T w) (holds at_basement (bit r)) (place_of_element j) s)
    ∙ sym (taken_source (takings i (holds at_basement (bit r))) (numbers_in a) (place_of_element j) (λ e. omega arith))

pub no_new : (i : Instruction) (r : ℕ) (a : List ℕ) → well_formed i ≡ false → a ≡ cards_after i r a
unfolding cards_after
no_new i r a w = rw w

pub all_new : (i : Instruction) (r : ℕ) (a : List ℕ) {new : List ℕ} → well_formed i ≡ true
    → new ≡ listed_numbers 42 (new_at i r a) → new ≡ cards_after i r a
unfolding cards_after held_numbers
all_new i r a w e = rw w e

-- ---- the numbers after a car event

list_is : (m : ℕ) (a : List ℕ) → length a ≡ m → a ≡ listed_numbers m (λ j. get_or a j 0)
unfolding listed_numbers
list_is zero [] e = refl
list_is zero (x ∷ a) e = absurd (omega arith)
list_is (suc m) [] e = absurd (omega arith)
list_is (suc m) (x ∷ a) e = ap (λ (l : List ℕ). x ∷ l) (list_is m a (omega arith))

-- no car event touches a cell's number
kept_cell : (e : Event) (c : ℕ) (n : Numbers) (j : ℕ) → j < 40 → n j ≡ numbers_driven e c n j
unfolding numbers_driven numbers_taken
kept_cell BeginIn c n j h = rw (ne_eqb drive_in j (λ q. omega arith))
kept_cell BeginOut c n j h = refl
kept_cell EndDone c n j h = rw (ne_eqb raised_car j (λ q. omega arith), ne_eqb drive_in j (λ q. omega arith))
kept_cell EndNotDone c n j h = rw (ne_eqb drive_in j (λ q. omega arith))

module _ (a : List ℕ) (len : length a ≡ 42) where
  -- one element set anew
  set_one : (j c : ℕ) → j < 42 → set a j c ≡ listed_numbers 42 (λ i. cond (eqb j i) c (get_or a i 0))
  set_one j c h = ap (λ (l : List ℕ). set l j c) (list_is 42 a len) ∙ set_listed 42 j (λ i. get_or a i 0) c h

  -- a list by its elements is the numbers after an event, where the cells' are as they were and the last two as the event makes them
  driven : (e : Event) (c : ℕ) (f : Numbers) → ((j : ℕ) → j < 40 → f j ≡ get_or a j 0) → f 40 ≡ numbers_driven e c (numbers_in a) raised_car
      → f 41 ≡ numbers_driven e c (numbers_in a) drive_in → listed_numbers 42 f ≡ cards_driven e c a
  unfolding cards_driven held_numbers numbers_in
  driven e c f cells lift coming =
      let n = numbers_driven e c (numbers_in a) in
      listed_same 42 f (λ j. n (place_of_element j)) (by_place (λ j. f j ≡ n (place_of_element j))
      (λ j h. cells j h ∙ cell_in j h ∙ kept_cell e c (numbers_in a) j h ∙ sym (ap n (cell_place j h)))
      lift
      coming)
    where
      cell_in : (j : ℕ) → j < 40 → get_or a j 0 ≡ numbers_in a j
      cell_in j h = rw (lt-ltb j 40 h)

  pub now_waits : (c : ℕ) → set a 41 c ≡ cards_driven BeginIn c a
  unfolding numbers_driven numbers_in
  now_waits c = set_one 41 c (omega arith) ∙ driven BeginIn c _ (λ j h. rw (ne_eqb 41 j (λ q. omega arith))) refl refl

  pub all_kept_lem : (c : ℕ) → a ≡ cards_driven BeginOut c a
  unfolding numbers_driven numbers_in
  all_kept_lem c = list_is 42 a len ∙ driven BeginOut c _ (λ j h. refl) refl refl

  pub has_arrived : (c : ℕ) → set (set a 40 (get_or a 41 0)) 41 0 ≡ cards_driven EndDone c a
  unfolding numbers_driven numbers_in numbers_taken
  has_arrived c =
      ap (λ (l : List ℕ). set l 41 0) (set_one 40 (get_or a 41 0) (omega arith)) ∙ set_listed 42 41 _ 0 (omega arith)
      ∙ driven EndDone c _ (λ j h. rw (ne_eqb 41 j (λ q. omega arith), ne_eqb 40 j (λ q. omega arith))) refl refl

-- a drive-in that is not done is as if the number 0 waited
pub waits_no_more : (a : List ℕ) (c : ℕ) → cards_driven BeginIn 0 a ≡ cards_driven EndNotDone c a
unfolding cards_driven numbers_driven numbers_taken
waits_no_more a c = refl

-- an end that is done doesn't look at the number handed in
pub any_number : (a : List ℕ) (c : ℕ) → cards_driven EndDone 0 a ≡ cards_driven EndDone c a
unfolding cards_driven numbers_driven
any_number a c = refl
