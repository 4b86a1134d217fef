-- Whether numbers are those of a record's cars, whether a number is known, and whether an image's numbers are fine, as tests: what they
-- say. Assumes nothing.
use mathlib.Core.Path.{◌≡◌, refl, sym, ap, ◌∙◌}
use mathlib.Core.Logic.{⊎_elim}
use mathlib.Core.Bool.{Bool, true, false, cond, not, ◌&&◌, ◌||◌, beq}
use mathlib.Core.List.{List}
use Prim.Native.Nat.{ℕ, ◌+◌, ◌≤◌, ◌<◌}
use native.Mathlib.Omega.{arith}
use lib.Dec.{eqb}
use lib.ListN.{length, get_or, take}
use lib.Seq.{length-take-le, get_or-take}
use borrow.Author.Tests.{eqb-true, eqb-false, eq-eqb, ne_eqb, not-true, not-false}
use Rattle.bits.specs.Bits.{bit, digit}
use Rattle.bits.specs.Search.{some, every}
use Rattle.bits.proofs.Cases.{split, clash, both, alike, and_intro, beq→eq, true→T}
use Rattle.bits.proofs.Search.{lt_or_ge, every_at, every_is, none_at, none_is, some_at, some_is}
use Rattle.floor.specs.Floor.{drive_in}
use Rattle.floor.specs.Cars.{cars}
use Rattle.floor.specs.Sound.{Sound, total}
use Rattle.floor.proofs.Promises.{sound_exactly}
use Rattle.std.specs.declared.result.Result.{Result}
use Rattle.cards.specs.declared.GivenError.{GivenError}
use Rattle.std.specs.declared.result.Result.TheVariants.{Ok, Err}
use Rattle.cards.specs.declared.GivenError.TheVariants.{WrongCount, ZeroNumber, TwiceGiven}
use Rattle.cards.specs.Cards.{Has}
use Rattle.cards.specs.Given.{bears, wanted, zero_at, twice_at, given_as, AllNew}
use Rattle.cards.specs.Held.{place_of_element, numbers_in, cards_fit, is_known}
use Rattle.cards.proofs.Listing.{none_in}
use Rattle.cards_laws.specs.Statements.{FitExactly, KnownExactly, FineExactly, New, ThatMany}
use Rattle.cards_laws.proofs.Anchors.{is_place, no_place, Marked, cards_marked, marked_cards}
use Rattle.cards_laws.proofs.Elements.{element_number, one_place, has_element}

-- a number stands at a place
number_place : (a : List ℕ) (k : ℕ) → (numbers_in a k ≡ 0 → ⊥) → is_place k ≡ true
number_place a k z = split (is_place k) (λ t. t) (λ t. absurd (z (none_in a k t)))

-- ---- the test of the numbers

module _ (r : ℕ) (a : List ℕ) where
  abbrev marks : ℕ → Bool
  marks j = beq (not (eqb (get_or a j 0) 0)) (bears (bit r) (place_of_element j))

  -- element i is element j
  abbrev alike_at : ℕ → ℕ → Bool
  alike_at j i = eqb (get_or a i 0) (get_or a j 0)

  abbrev onces : ℕ → Bool
  onces j = eqb (get_or a j 0) 0 || not (some j (alike_at j))

  pub fit_marked : cards_fit r a ≡ true → Marked (bears (bit r)) (numbers_in a)
  unfolding cards_fit
  fit_marked t = record { none = none; some = there; once = once }
    where
      parts : (every 42 marks ≡ true) × (every 42 onces ≡ true)
      parts = both (every 42 marks) (every 42 onces) t

      -- an element is 0 exactly if its place bears none
      mark : (j : ℕ) → j < 42 → not (eqb (numbers_in a (place_of_element j)) 0) ≡ bears (bit r) (place_of_element j)
      mark j h = ap (λ (x : ℕ). not (eqb x 0)) (element_number a j h) ∙ beq→eq _ _ (true→T (every_at 42 marks parts.0 j h))

      mark_place : (k : ℕ) → is_place k ≡ true → not (eqb (numbers_in a k) 0) ≡ bears (bit r) k
      mark_place k e = let (j, h, p) = has_element k e in ap (λ (x : ℕ). not (eqb (numbers_in a x) 0)) (sym p) ∙ mark j h ∙ ap (bears (bit r)) p

      none : (k : ℕ) → bears (bit r) k ≡ false → numbers_in a k ≡ 0
      none k e = split (is_place k)
          (λ u. eqb-true (numbers_in a k) 0 (not-false _ (mark_place k u ∙ e)))
          (λ u. none_in a k u)

      there : (k : ℕ) → bears (bit r) k ≡ true → numbers_in a k ≡ 0 → ⊥
      there k e = split (is_place k)
          (λ u. eqb-false (numbers_in a k) 0 (not-true _ (mark_place k u ∙ e)))
          (λ u. clash e (no_place (bit r) k u))

      -- none before it is the same
      first : (i j : ℕ) → i < j → j < 42 → (get_or a j 0 ≡ 0 → ⊥) → get_or a i 0 ≡ get_or a j 0 → ⊥
      first i j l h z q = clash (eq-eqb (get_or a i 0) (get_or a j 0) q)
          (none_at j (alike_at j)
          (not-true _ (ap (λ (b : Bool). b || not (some j (alike_at j))) (sym (ne_eqb (get_or a j 0) 0 z)) ∙ every_at 42 onces parts.1 j h)) i l)

      one : (i j : ℕ) → i < 42 → j < 42 → (get_or a i 0 ≡ 0 → ⊥) → get_or a i 0 ≡ get_or a j 0 → i ≡ j
      one i j h l z q = ⊎_elim
          (λ (o : i < j). absurd (first i j o l (λ e. z (q ∙ e)) q))
          (λ (o : j ≤ i). split (eqb i j)
          (λ e. eqb-true i j e)
          (λ e. let n : i ≡ j → ⊥ = eqb-false i j e in absurd (first j i (omega arith) h z (sym q)))) (lt_or_ge i j)

      once : (j k : ℕ) → numbers_in a j ≡ numbers_in a k → bears (bit r) j ≡ true → j ≡ k
      once j k q e =
          let z = there j e in
          let (x, h, p) = has_element j (number_place a j z) in
          let (y, l, s) = has_element k (number_place a k (λ o. z (q ∙ o))) in
          let at_x : numbers_in a j ≡ get_or a x 0 = ap (numbers_in a) (sym p) ∙ element_number a x h in
          let at_y : numbers_in a k ≡ get_or a y 0 = ap (numbers_in a) (sym s) ∙ element_number a y l in
          sym p ∙ ap place_of_element (one x y h l (λ o. z (at_x ∙ o)) (sym at_x ∙ q ∙ at_y)) ∙ s

  pub marked_fit : Marked (bears (bit r)) (numbers_in a) → cards_fit r a ≡ true
  unfolding cards_fit
  marked_fit M = and_intro (every_is 42 marks mark) (every_is 42 onces once)
    where
      mark : (j : ℕ) → j < 42 → marks j ≡ true
      mark j h = split (bears (bit r) (place_of_element j))
          (λ e. same (eqb (get_or a j 0) 0) _ (ne_eqb (get_or a j 0) 0 (λ z. M.some (place_of_element j) e (element_number a j h ∙ z))) e)
          (λ e. other (eqb (get_or a j 0) 0) _ (eq-eqb (get_or a j 0) 0 (sym (element_number a j h) ∙ M.none (place_of_element j) e)) e)
        where
          same : (x y : Bool) → x ≡ false → y ≡ true → beq (not x) y ≡ true
          same x y p q = rw (p, q)

          other : (x y : Bool) → x ≡ true → y ≡ false → beq (not x) y ≡ true
          other x y p q = rw (p, q)

      bearing : (j : ℕ) → j < 42 → eqb (get_or a j 0) 0 ≡ false → bears (bit r) (place_of_element j) ≡ true
      bearing j h z = split (bears (bit r) (place_of_element j))
          (λ e. e)
          (λ e. absurd (eqb-false (get_or a j 0) 0 z (sym (element_number a j h) ∙ M.none (place_of_element j) e)))

      once : (j : ℕ) → j < 42 → onces j ≡ true
      once j h = split (eqb (get_or a j 0) 0)
          (λ z. rw z)
          (λ z.
          ap (λ (b : Bool). b || not (some j (alike_at j))) z
          ∙ ap not (none_is j (alike_at j) (λ i l. ne_eqb (get_or a i 0) (get_or a j 0) (λ q.
          let w : i < 42 = omega arith in
          let p : place_of_element j ≡ place_of_element i = M.once (place_of_element j) (place_of_element i) (element_number a j h ∙ sym q ∙ sym (element_number a i w)) (bearing j h z) in
          let e : j ≡ i = one_place j i h w p in
          omega arith))))

pub fit_exactly : FitExactly
fit_exactly r a s = (
  λ t. marked_cards (bit r) (numbers_in a) (fit_marked r a t),
  λ c. marked_fit r a (cards_marked (bit r) (numbers_in a) s.layout.0 s.layout.1 c),
)

-- ---- the test of a known number

pub known_exactly : KnownExactly
unfolding is_known
known_exactly a c o = (
  λ t. let (j, h, e) = some_is 42 (λ j. eqb (get_or a j 0) c) t in (place_of_element j, element_number a j h ∙ eqb-true (get_or a j 0) c e),
  λ m.
      let (k, e) = m in
      let (j, h, p) = has_element k (number_place a k (λ z. o (sym e ∙ z))) in
      some_at 42 (λ j. eqb (get_or a j 0) c) j h (eq-eqb (get_or a j 0) c (sym (element_number a j h) ∙ ap (numbers_in a) p ∙ e)),
)

-- a number that may come in: not 0, and not known
abbrev pub is_new : ℕ → List ℕ → Bool
is_new c a = not (eqb c 0) && not (is_known a c)

pub new_exactly : (c : ℕ) (a : List ℕ) → (is_new c a ≡ true → New c (numbers_in a)) × (New c (numbers_in a) → is_new c a ≡ true)
new_exactly c a = (
  λ t.
      let (z, k) = both (not (eqb c 0)) (not (is_known a c)) t in
      let o = eqb-false c 0 (not-true (eqb c 0) z) in
      (o, λ h. clash ((known_exactly a c o).1 h) (not-true (is_known a c) k)),
  λ n. and_intro (ap not (ne_eqb c 0 n.0)) (unknown n),
)
  where
    unknown : New c (numbers_in a) → not (is_known a c) ≡ true
    unknown n = split (is_known a c) (λ t. absurd (n.1 ((known_exactly a c n.0).0 t))) (λ t. ap not t)

-- a number is known in both of two arrays that have it alike
pub known_same : (c : ℕ) (a b : List ℕ) → (c ≡ 0 → ⊥) → (Has (numbers_in a) c → Has (numbers_in b) c) → (Has (numbers_in b) c → Has (numbers_in a) c)
    → is_known a c ≡ is_known b c
known_same c a b o f g = alike (is_known a c) (is_known b c)
    (λ t. (known_exactly b c o).1 (f ((known_exactly a c o).0 t)))
    (λ t. (known_exactly a c o).1 (g ((known_exactly b c o).0 t)))

-- and new in both
pub new_same : (c : ℕ) (a b : List ℕ) → ((c ≡ 0 → ⊥) → is_known a c ≡ is_known b c) → is_new c a ≡ is_new c b
new_same c a b e = split (eqb c 0)
    (λ t. rw t)
    (λ t. rw t (ap not (e (eqb-false c 0 t))))

-- ---- the test of an image's numbers

abbrev is_fine : Result (Unit {0}) GivenError → Bool
is_fine (Ok tt) = true
is_fine (Err WrongCount) = false
is_fine (Err ZeroNumber) = false
is_fine (Err TwiceGiven) = false

-- by its three tests
abbrev given : (a b c : Bool) → Result (Unit {0}) GivenError
given a b c = cond (not a) (Err WrongCount) (cond b (Err ZeroNumber) (cond c (Err TwiceGiven) (Ok tt)))

fine_test : (a b c : Bool) → is_fine (given a b c) ≡ a && (not b && not c)
fine_test true true c = refl
fine_test true false true = refl
fine_test true false false = refl
fine_test false b c = refl

all_fine : (a b c : Bool) → a ≡ true → b ≡ false → c ≡ false → given a b c ≡ Ok tt
all_fine a b c p q r = rw (p, q, r)

wanted_is : (r : ℕ) → Sound (bit r) → wanted r ≡ cars (bit r) + digit (bit r drive_in)
unfolding total
wanted_is r s = rw ((sound_exactly r).1 s)

module _ (r n : ℕ) (ns : List ℕ) (s : Sound (bit r)) (h : n ≤ length ns) where
  size : length (take n ns) ≡ n
  size = length-take-le n ns h

  at_take : (i : ℕ) → i < length (take n ns) → get_or (take n ns) i 0 ≡ get_or ns i 0
  at_take i l = get_or-take n ns i 0 (omega (arith, size))

  fine_new : eqb n (wanted r) ≡ true → some n (zero_at ns) ≡ false → some n (twice_at ns) ≡ false → ThatMany (bit r) (take n ns) × AllNew (take n ns)
  fine_new p q t = (size ∙ eqb-true n (wanted r) p ∙ wanted_is r s, record { nonzero = nonzero; once = once })
    where
      nonzero : (i : ℕ) → i < length (take n ns) → get_or (take n ns) i 0 ≡ 0 → ⊥
      nonzero i l z = eqb-false (get_or ns i 0) 0 (none_at n (zero_at ns) q i (omega (arith, size))) (sym (at_take i l) ∙ z)

      apart : (i j : ℕ) → i < j → j < length (take n ns) → get_or (take n ns) i 0 ≡ get_or (take n ns) j 0 → ⊥
      apart i j o l e =
          eqb-false (get_or ns i 0) (get_or ns j 0) (none_at j (λ i. eqb (get_or ns i 0) (get_or ns j 0)) (none_at n (twice_at ns) t j (omega (arith, size))) i o)
          (sym (at_take i (omega arith)) ∙ e ∙ at_take j l)

      once : (i j : ℕ) → i < length (take n ns) → j < length (take n ns) → get_or (take n ns) i 0 ≡ get_or (take n ns) j 0 → i ≡ j
      once i j k l e = ⊎_elim
          (λ (o : i < j). absurd (apart i j o l e))
          (λ (o : j ≤ i). split (eqb i j)
          (λ u. eqb-true i j u)
          (λ u. let x : i ≡ j → ⊥ = eqb-false i j u in absurd (apart j i (omega arith) k (sym e)))) (lt_or_ge i j)

  new_fine : ThatMany (bit r) (take n ns) → AllNew (take n ns) → (eqb n (wanted r) ≡ true) × (some n (zero_at ns) ≡ false) × (some n (twice_at ns) ≡ false)
  new_fine m new = (
    eq-eqb n (wanted r) (sym size ∙ m ∙ sym (wanted_is r s)),
    none_is n (zero_at ns) (λ i l. ne_eqb (get_or ns i 0) 0 (λ z. new.nonzero i (omega (arith, size)) (at_take i (omega (arith, size)) ∙ z))),
    none_is n (twice_at ns) (λ j l. none_is j (λ i. eqb (get_or ns i 0) (get_or ns j 0)) (λ i o. ne_eqb (get_or ns i 0) (get_or ns j 0) (λ q.
        let p : i < length (take n ns) = omega (arith, size) in
        let t : j < length (take n ns) = omega (arith, size) in
        let e : i ≡ j = new.once i j p t (at_take i p ∙ q ∙ sym (at_take j t)) in
        omega arith))),
  )

pub fine_exactly : FineExactly
unfolding given_as
fine_exactly r n ns s h = (
  λ e.
      let (p, rest) = both (eqb n (wanted r)) (not (some n (zero_at ns)) && not (some n (twice_at ns)))
      (sym (fine_test (eqb n (wanted r)) (some n (zero_at ns)) (some n (twice_at ns))) ∙ ap is_fine e) in
      let (q, t) = both (not (some n (zero_at ns))) (not (some n (twice_at ns))) rest in
      fine_new r n ns s h p (not-true (some n (zero_at ns)) q) (not-true (some n (twice_at ns)) t),
  λ m. let (p, q, t) = new_fine r n ns s h m.0 m.1 in all_fine (eqb n (wanted r)) (some n (zero_at ns)) (some n (twice_at ns)) p q t,
)
