-- Searches through numbers: whether some pass, by the least that does; numbers that stand where they should, and none twice; what is said
-- of an image's numbers, and where a card's car is told. Assumes nothing.
use mathlib.Core.Path.{◌≡◌, refl, sym, ap, ap₂, ◌∙◌}
use mathlib.Core.Bool.{Bool, true, false, cond, not, ◌&&◌, ◌||◌, beq}
use mathlib.Core.List.{List}
use Prim.Native.Nat.{ℕ, zero, suc, ◌+◌, ◌≤◌, ◌<◌}
use native.Mathlib.Omega.{arith}
use lib.Dec.{eqb, ltb}
use lib.ListN.{get_or, length, take}
use lib.Seq.{length-take-le}
use Rattle.std.specs.Option.{is_some}
use Rattle.std.specs.List.{position, position_or_len}
use Rattle.std.proofs.lemmas.List.{get_or-take}
use Rattle.std.proofs.lemmas.List.Recursion.{is_position_or_len}
use Rattle.std.proofs.lemmas.List.Quantifiers.{position-Some}
use Rattle.std.specs.declared.option.Option.{Option}
use Rattle.std.specs.declared.option.Option.TheVariants.{Some, None}
use borrow.Author.Tests.{lt-ltb, ltb-true, ltb-false, eq-eqb, ne_eqb, not-true, not-false}
use Rattle.bits.specs.Bits.{bit}
use Rattle.bits.specs.Search.{some, every, least}
use Rattle.bits.proofs.Cases.{split}
use Rattle.bits.proofs.Search.{none_at, some_same, some_at, none_is, every_is}
use Rattle.bits.proofs.Least.{least_is, least_none, found_least, least_below, every_not, Passed}
use Rattle.std.specs.declared.result.Result.TheVariants.{Ok, Err}
use Rattle.cards.specs.declared.GivenError.TheVariants.{WrongCount, ZeroNumber, TwiceGiven}
use Rattle.cards.specs.Following.{no_source}
use Rattle.cards.specs.Given.{bears, wanted, zero_at, twice_at, given_as}
use Rattle.cards.specs.Held.{place_of_element, cards_fit, where_is}
use Rattle.cards.specs.Private.{stand_right, repeats}

-- ---- the least that passes says whether some do

pub least_some : (m : ℕ) (p : ℕ → Bool) → ltb (least m p) m ≡ some m p
least_some m p = split (ltb (least m p) m)
    (λ t. let f = found_least m p (ltb-true (least m p) m t) in t ∙ sym (some_at m p (least m p) f.within f.passes))
    (λ t. let h = ltb-false (least m p) m t in t ∙ sym (none_is m p (λ j l. least_below m p j (omega arith))))

-- ---- the first element that passes

first_is : (p : ℕ → Bool) (a : List ℕ) → position_or_len p a ≡ least (length a) (λ i. p (get_or a i 0))
unfolding least
first_is p a = sym (is_position_or_len (λ l. least (length l) (λ i. p (get_or l i 0))) p refl
    (λ x l. ap (cond (p x) 0) {x = suc (least (length l) (λ i. p (get_or l i 0)))} {y = 1 + least (length l) (λ i. p (get_or l i 0))} (omega arith)) a)

pub found_in : (p : ℕ → Bool) (a : List ℕ) → is_some (position p a) ≡ some (length a) (λ i. p (get_or a i 0))
found_in p a = one (ltb (position_or_len p a) (length a)) ∙ ap (λ (k : ℕ). ltb k (length a)) (first_is p a) ∙ least_some (length a) _
  where
    one : (b : Bool) → is_some (cond b (Some (position_or_len p a)) None) ≡ b
    one true = refl
    one false = refl

-- the same of the first m of them
module _ (p : ℕ → Bool) (m : ℕ) (a : List ℕ) (h : m ≤ length a) where
  pub found_front : is_some (position p (take m a)) ≡ some m (λ i. p (get_or a i 0))
  found_front =
      found_in p (take m a) ∙ ap (λ (n : ℕ). some n (λ i. p (get_or (take m a) i 0))) (length-take-le m a h)
      ∙ some_same m _ _ (λ i l. ap p (get_or-take m a i 0 l))

  pub found_there : {j : ℕ} → position p (take m a) ≡ Some j → (j < m) × (least m (λ i. p (get_or a i 0)) ≡ j)
  found_there {j} e =
      let (l, t, n) = position-Some p (take m a) j 0 e in
      let s = length-take-le m a h in
      let k : j < m = omega arith in (
        k,
        least_is m j (λ i. p (get_or a i 0)) k
            (λ i q. sym (ap p (get_or-take m a i 0 (omega arith))) ∙ n i q) (sym (ap p (get_or-take m a j 0 k)) ∙ t),
      )

  pub found_nowhere : position p (take m a) ≡ None → least m (λ i. p (get_or a i 0)) ≡ m
  found_nowhere e = least_none m _ (none_at m _ (sym found_front ∙ ap is_some e))

-- ---- a loop that looks for one that passes

pub one_does : {p : ℕ → Bool} {m j : ℕ} {b : Bool} → Passed p m j → j < m → b ≡ p j → b ≡ true → true ≡ some m p
one_does {p} {m} {j} v h e t = sym (some_at m p j h (sym e ∙ t))

pub none_does : {p : ℕ → Bool} {m j : ℕ} → Passed p m j → m ≤ j → false ≡ some m p
none_does {p} {m} v h = sym (none_is m p (λ i l. v.none i (omega arith)))

-- ---- a number stands exactly where one should

-- one does so at element j
abbrev pub right_at : ℕ → List ℕ → ℕ → Bool
right_at r a j = beq (not (eqb (get_or a j 0) 0)) (bears (bit r) (place_of_element j))

module _ (r : ℕ) (a : List ℕ) (j : ℕ) {here : Bool} (e : here ≡ bears (bit r) (place_of_element j)) where
  asked : not (right_at r a j) ≡ not (beq (not (eqb (get_or a j 0) 0)) here)
  asked = ap (λ (b : Bool). not (beq (not (eqb (get_or a j 0) 0)) b)) (sym e)

  pub stands_wrong : j < 42 → not (beq (not (eqb (get_or a j 0) 0)) here) ≡ true → false ≡ stand_right r a
  unfolding stand_right
  stands_wrong h t = sym (every_not 42 (right_at r a) j h (not-true (right_at r a j) (asked ∙ t)))

  pub stands_right : not (beq (not (eqb (get_or a j 0) 0)) here) ≡ false → not (right_at r a j) ≡ false
  stands_right t = asked ∙ t

pub stand_all : (r : ℕ) (a : List ℕ) {j : ℕ} → Passed (λ i. not (right_at r a i)) 42 j → 42 ≤ j → true ≡ stand_right r a
unfolding stand_right
stand_all r a v h = sym (every_is 42 (right_at r a) (λ i l. not-false (right_at r a i) (v.none i (omega arith))))

-- ---- numbers given twice

pub repeats_is : (a : List ℕ) (j : ℕ) {b : Bool} → (get_or a j 0 ≡ 0 → ⊥) → j < length a
    → b ≡ is_some (position (λ x. eqb x (get_or a j 0)) (take j a)) → b ≡ repeats a j
repeats_is a j z h e = rw (ne_eqb (get_or a j 0) 0 z) (e ∙ found_front (λ x. eqb x (get_or a j 0)) j a (omega arith))

-- the first m of them repeat as in the whole
repeats_front : (m : ℕ) (a : List ℕ) → m ≤ length a → some (length (take m a)) (repeats (take m a)) ≡ some m (repeats a)
repeats_front m a h =
    ap (λ (n : ℕ). some n (repeats (take m a))) (length-take-le m a h)
    ∙ some_same m _ _ (λ j l. let e = get_or-take m a j 0 l in
    ap₂ (λ (x : ℕ) (b : Bool). not (eqb x 0) && b) e (some_same j _ _ (λ i k. ap₂ eqb (get_or-take m a i 0 (omega arith)) e)))

-- none stands twice, said of each
every_not_some : (m : ℕ) (p q : ℕ → Bool) → ((j : ℕ) → q j ≡ not (p j)) → not (some m p) ≡ every m q
unfolding some every
every_not_some zero p q e = refl
every_not_some (suc m) p q e = go (p m) (some m p) ∙ ap₂ ◌&&◌ (sym (e m)) (every_not_some m p q e)
  where
    go : (a b : Bool) → not (a || b) ≡ not a && not b
    go true b = refl
    go false b = refl

pub fit_is : (r : ℕ) (a : List ℕ) → stand_right r a && not (some 42 (repeats a)) ≡ cards_fit r a
unfolding stand_right cards_fit
fit_is r a =
    ap (λ (b : Bool). stand_right r a && b)
    (every_not_some 42 (repeats a) (λ j. eqb (get_or a j 0) 0 || not (twice_at a j)) (λ j. go (eqb (get_or a j 0) 0) (twice_at a j)))
  where
    go : (z t : Bool) → z || not t ≡ not (not z && t)
    go true t = refl
    go false t = refl

-- where none is 0, one is given twice if one repeats
same_twice : (a : List ℕ) (m : ℕ) → some m (zero_at a) ≡ false → some m (repeats a) ≡ some m (twice_at a)
same_twice a m e = some_same m (repeats a) (twice_at a) (λ j h. rw (none_at m (zero_at a) e j h))

-- ---- what is said of an image's numbers

module _ (r n : ℕ) (ns : List ℕ) where
  pub wrong_count : {w : ℕ} → w ≡ wanted r → (n ≡ w → ⊥) → Err WrongCount ≡ given_as r n ns
  unfolding given_as
  wrong_count e h = rw (ne_eqb n (wanted r) (λ q. h (q ∙ sym e)))

  module _ {w : ℕ} (e : w ≡ wanted r) (q : n ≡ w) (h : n ≤ length ns) {z : Bool} (l : z ≡ is_some (position (λ x. eqb x 0) (take n ns))) where
    one_zero : z ≡ some n (zero_at ns)
    one_zero = l ∙ found_front (λ x. eqb x 0) n ns h

    pub zero_given : z ≡ true → Err ZeroNumber ≡ given_as r n ns
    unfolding given_as
    zero_given y = rw (eq-eqb n (wanted r) (q ∙ e), sym one_zero ∙ y)

    module _ (y : z ≡ false) {b : Bool} (t : b ≡ some (length (take n ns)) (repeats (take n ns))) where
      one_twice : some n (twice_at ns) ≡ b
      one_twice = sym (same_twice ns n (sym one_zero ∙ y)) ∙ sym (repeats_front n ns h) ∙ sym t

      pub twice_given : b ≡ true → Err TwiceGiven ≡ given_as r n ns
      unfolding given_as
      twice_given v = rw (eq-eqb n (wanted r) (q ∙ e), sym one_zero ∙ y, one_twice ∙ v)

      pub all_fine : b ≡ false → Ok tt ≡ given_as r n ns
      unfolding given_as
      all_fine v = rw (eq-eqb n (wanted r) (q ∙ e), sym one_zero ∙ y, one_twice ∙ v)

-- ---- where a card's car is

module _ (a : List ℕ) (c : ℕ) (s : length a ≡ 42) (z : c ≡ 0 → ⊥) {r : Option ℕ} (e : r ≡ position (λ x. eqb x c) (take 41 a)) where
  pub stands_below : {j : ℕ} → r ≡ Some j → j < 41
  stands_below q = (found_there (λ x. eqb x c) 41 a (omega arith) (sym e ∙ q)).0

  pub stands_there : {j k : ℕ} → r ≡ Some j → k ≡ place_of_element j → k ≡ where_is a c
  unfolding where_is
  stands_there q p =
      let (l, f) = found_there (λ x. eqb x c) 41 a (omega arith) (sym e ∙ q) in
      rw (ne_eqb c 0 z, f, lt-ltb _ 41 l) p

  pub stands_nowhere : r ≡ None → no_source ≡ where_is a c
  unfolding where_is
  stands_nowhere q = rw (ne_eqb c 0 z, found_nowhere (λ x. eqb x c) 41 a (omega arith) (sym e ∙ q))
