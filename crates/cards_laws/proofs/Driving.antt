-- A number that is put at a place where a car comes to stand, and one that is dropped where a car leaves: the others stay, and the numbers
-- are again those of the cars. Over every place. Assumes nothing.
use mathlib.Core.Path.{◌≡◌, refl, sym, ap, ◌∙◌}
use mathlib.Core.Logic.{◌⊎◌, inl, inr, ⊎_elim}
use mathlib.Core.Bool.{Bool, true, false, cond}
use Prim.Native.Nat.{ℕ}
use lib.Dec.{eqb}
use borrow.Author.Tests.{eqb-true, eqb-false, eq-eqb, ne_eqb}
use Rattle.bits.specs.Bits.{Bits}
use Rattle.bits.proofs.Cases.{split, clash}
use Rattle.cards.specs.Cards.{Numbers, Has}
use Rattle.cards.specs.Following.{no_source}
use Rattle.cards_laws.specs.Statements.{New}
use Rattle.cards_laws.proofs.Anchors.{comes, Marked, Carried}

-- the numbers with c at the place p
abbrev pub put : ℕ → ℕ → Numbers → Numbers
put p c n k = cond (eqb p k) c (n k)

pub put_there : (p c : ℕ) (n : Numbers) → put p c n p ≡ c
put_there p c n = rw (eq-eqb p p refl)

module _ (p : ℕ) (A B : Bits) (n : Numbers) (M : Marked A n) where
  -- the places of B are those of A, and p as b says
  abbrev pub Changes : Bool → Type 0
  Changes b = (k : ℕ) → B k ≡ cond (eqb p k) b (A k)

  away : (b : Bool) → Changes b → (k : ℕ) → eqb p k ≡ false → B k ≡ A k
  away b e k t = e k ∙ ap (λ (x : Bool). cond x b (A k)) t

  -- ---- a car comes

  module _ (free : A p ≡ false) (e : Changes true) (c : ℕ) (new : New c n) where
    pub put_marked : Marked B (put p c n)
    put_marked = record {
      none = λ k q. split (eqb p k)
          (λ t. clash (e k ∙ ap (λ (x : Bool). cond x true (A k)) t) q)
          (λ t. rw t (M.none k (sym (away true e k t) ∙ q)));
      some = λ k q z. split (eqb p k)
          (λ t. new.0 (rw t at z))
          (λ t. M.some k (sym (away true e k t) ∙ q) (rw t at z));
      once = λ j k i q. split (eqb p j)
          (λ t. split (eqb p k)
          (λ u. sym (eqb-true p j t) ∙ eqb-true p k u)
          (λ u. absurd (new.1 (k, sym (rw (t, u) at i)))))
          (λ t. split (eqb p k)
          (λ u. absurd (new.1 (j, rw (t, u) at i)))
          (λ u. M.once j k (rw (t, u) at i) (sym (away true e j t) ∙ q)));
    }

    pub put_numbers : (d : ℕ) → (d ≡ 0 → ⊥) → (Has (put p c n) d → (d ≡ c) ⊎ Has n d) × ((d ≡ c) ⊎ Has n d → Has (put p c n) d)
    put_numbers d z = (
      λ h. split (eqb p h.0) (λ t. inl (sym (rw t at h.1))) (λ t. inr (h.0, rw t at h.1)),
      λ h. ⊎_elim
          (λ (q : d ≡ c). (p, put_there p c n ∙ sym q))
          (λ (m : Has n d). split (eqb p m.0)
          (λ t. absurd (z (sym m.1 ∙ ap n (sym (eqb-true p m.0 t)) ∙ M.none p free)))
          (λ t. (m.0, rw t m.1))) h,
    )

  -- ---- a car goes, if one is there

  module _ (e : Changes false) where
    stays : (k : ℕ) → B k ≡ true → (eqb p k ≡ false) × (A k ≡ true)
    stays k q = split (eqb p k)
        (λ t. clash q (e k ∙ ap (λ (x : Bool). cond x false (A k)) t))
        (λ t. (t, sym (away false e k t) ∙ q))

    pub drop_marked : Marked B (put p 0 n)
    drop_marked = record {
      none = λ k q. split (eqb p k) (λ t. rw t) (λ t. rw t (M.none k (sym (away false e k t) ∙ q)));
      some = λ k q z. (let (t, a) = stays k q in M.some k a (rw t at z));
      once = λ j k i q.
          let (t, a) = stays j q in
          split (eqb p k)
          (λ u. absurd (M.some j a (rw (t, u) at i)))
          (λ u. M.once j k (rw (t, u) at i) a);
    }

    pub drop_numbers : (d : ℕ) → (d ≡ 0 → ⊥) → (Has (put p 0 n) d → Has n d × (d ≡ n p → ⊥)) × (Has n d × (d ≡ n p → ⊥) → Has (put p 0 n) d)
    drop_numbers d z = (
      λ h. split (eqb p h.0)
          (λ t. absurd (z (sym (rw t at h.1))))
          (λ t.
          let here : n h.0 ≡ d = rw t at h.1 in (
            (h.0, here),
            λ q. split (A p)
                (λ a. eqb-false p h.0 t (M.once p h.0 (sym q ∙ sym here) a))
                (λ a. z (q ∙ M.none p a)),
          )),
      λ h. split (eqb p h.0.0)
          (λ t. absurd (h.1 (sym h.0.1 ∙ ap n (sym (eqb-true p h.0.0 t)))))
          (λ t. (h.0.0, rw t h.0.1)),
    )

-- ---- a number that waits at q comes to stand at p

-- from where each place then takes its number
abbrev pub arriving : ℕ → ℕ → ℕ → ℕ
arriving p q k = cond (eqb p k) q (cond (eqb q k) no_source k)

pub arrives : (p q : ℕ) (A B : Bits) → (q ≡ no_source → ⊥) → A no_source ≡ false → A p ≡ false → A q ≡ true
    → ((k : ℕ) → B k ≡ cond (eqb p k) true (cond (eqb q k) false (A k))) → Carried A B (arriving p q)
arrives p q A B here outside free waits e = record { there = there; one = one; goes = goes }
  where
    there : (k : ℕ) → B k ≡ comes A (arriving p q k)
    there k = split (eqb p k)
        (λ t. e k ∙ rw (t, ne_eqb q no_source here) (sym waits))
        (λ t. split (eqb q k)
        (λ u. e k ∙ rw (t, u))
        (λ u. split (eqb k no_source)
        (λ v. e k ∙ rw (t, u, v) (ap A (eqb-true k no_source v) ∙ outside))
        (λ v. e k ∙ rw (t, u, v))))

    one : (j k : ℕ) → arriving p q j ≡ arriving p q k → (arriving p q j ≡ no_source → ⊥) → j ≡ k
    one j k i n = split (eqb p j)
        (λ t. split (eqb p k)
        (λ u. sym (eqb-true p j t) ∙ eqb-true p k u)
        (λ u. split (eqb q k)
        (λ v. absurd (here (rw (t, u, v) at i)))
        (λ v. absurd (eqb-false q k v (rw (t, u, v) at i)))))
        (λ t. split (eqb q j)
        (λ x. absurd (n (rw (t, x))))
        (λ x. split (eqb p k)
        (λ u. absurd (eqb-false q j x (sym (rw (t, x, u) at i))))
        (λ u. split (eqb q k)
        (λ v. absurd (n (i ∙ rw (u, v))))
        (λ v. rw (t, x, u, v) at i))))

    goes : (k : ℕ) → A k ≡ true → (j : ℕ) × (arriving p q j ≡ k)
    goes k a = split (eqb q k)
        (λ t. (p, rw (eq-eqb p p refl) (eqb-true q k t)))
        (λ t. split (eqb p k)
        (λ u. clash a (ap A (sym (eqb-true p k u)) ∙ free))
        (λ u. (k, rw (u, t))))
