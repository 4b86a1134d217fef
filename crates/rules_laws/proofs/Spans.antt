-- The record after the cells of a span are each given a test: what its bits are, and that tests moved by one cell shift the span.
-- Assumes nothing.
use mathlib.Core.Path.{◌≡◌, refl, sym, ap, ◌∙◌}
use mathlib.Core.Bool.{Bool, true, false, cond, ◌&&◌, and-true}
use mathlib.Core.List.{List, [], ◌∷◌, ◌++◌, map}
use Prim.Native.Nat.{ℕ, zero, suc, ◌+◌, ◌-◌, ◌≤◌, ◌<◌}
use native.Mathlib.Nat.{add-zero, add-suc, suc-add, not-suc-le-zero}
use native.Mathlib.Omega.{arith}
use lib.Dec.{eqb}
use borrow.Author.Tests.{eq-eqb, ne_eqb, eqb-true}
use lib.ListN.{length, get_or, length-append, get_or-append}
use lib.Seq.{get_or-append-add}
use Rattle.bits.specs.Bits.{Bits}
use Rattle.bits.specs.Places.{from}
use Rattle.floor.specs.Tests.{Test, fact, set, holds, changed}
use Rattle.rules.specs.Named.{assign, one}
use Rattle.rules_laws.proofs.Shift.{Outside, Up, Down}

-- the record with the m cells from a on given the tests ts
abbrev given : ℕ → ℕ → List Test → Bits → Bits
given a m ts f = changed (assign (map one (from a m)) ts) f

-- below the span nothing changes
given_low : (f : Bits) (k m a : ℕ) (ts : List Test) → k < a → given a m ts f k ≡ f k
given_low f k zero a ts h = refl
given_low f k (suc m) a [] h = refl
given_low f k (suc m) a (t ∷ ts) h =
    rw (ne_eqb a k (λ e. omega arith)) (given_low f k m (suc a) ts (omega arith))

-- above it nothing changes
given_high : (f : Bits) (k m a : ℕ) (ts : List Test) → a + m ≤ k → given a m ts f k ≡ f k
given_high f k zero a ts h = refl
given_high f k (suc m) a [] h = refl
given_high f k (suc m) a (t ∷ ts) h =
    rw (ne_eqb a k (λ e. omega arith)) (given_high f k m (suc a) ts (omega arith))

-- the cell d places up the span is given test d
given_at : (f : Bits) (d m a : ℕ) (ts : List Test) → d < m → m ≤ length ts → given a m ts f (a + d) ≡ holds (get_or ts d (fact false)) f
given_at f d zero a ts h l = absurd (not-suc-le-zero h)
given_at f d (suc m) a [] h l = absurd (not-suc-le-zero l)
given_at f zero (suc m) a (t ∷ ts) h l = rw (add-zero, eq-eqb a a refl)
given_at f (suc d) (suc m) a (t ∷ ts) h l =
    rw (ne_eqb a (a + suc d) (λ e. omega arith), add-suc, ← suc-add a d) (given_at f d m (suc a) ts (omega arith) (omega arith))

-- each cell given itself
pub given_id : (f : Bits) (k m a : ℕ) → given a m (map set (map one (from a m))) f k ≡ f k
given_id f k zero a = refl
given_id f k (suc m) a = go (eqb a k) refl (given_id f k m (suc a))
  where
    rest : Bool
    rest = given (suc a) m (map set (map one (from (suc a) m))) f k

    go : (b : Bool) → eqb a k ≡ b → rest ≡ f k → cond b (f a && true) rest ≡ f k
    go true e r = and-true (f a) ∙ ap f (eqb-true a k e)
    go false e r = r

-- the same of a cell by its number
given_index : (f : Bits) (k m a : ℕ) (ts : List Test) → a ≤ k → k < a + m → m ≤ length ts → given a m ts f k ≡ holds (get_or ts (k - a) (fact false)) f
given_index f k m a ts h l n =
    let e : k ≡ a + (k - a) = omega arith in
    ap (given a m ts f) e ∙ given_at f (k - a) m a ts (omega arith) n

-- the span from a to a + p
module _ (a p : ℕ) (f : Bits) where
  -- the record with its cells given tests
  abbrev pub now : List Test → Bits
  now ts = given a (suc p) ts f

  -- outside it, two such records are the same
  given_out : (ts us : List Test) → Outside a (a + p) (now ts) (now us)
  given_out ts us = record {
    low = λ k h. given_low f k (suc p) a us h ∙ sym (given_low f k (suc p) a ts h);
    high = λ k h. given_high f k (suc p) a us (omega arith) ∙ sym (given_high f k (suc p) a ts (omega arith));
  }

  -- one more free cell at the lower end shifts it up
  pub given_up : (ts : List Test) → suc p ≤ length ts → Up a (a + p) (now ts) (now (fact false ∷ ts))
  given_up ts l = record {
    out = given_out ts (fact false ∷ ts);
    left = rw (eq-eqb a a refl);
    moved = λ k h n.
        let e : suc k - a ≡ suc (k - a) = omega arith in
        given_index f (suc k) (suc p) a (fact false ∷ ts) (omega arith) (omega arith) (omega arith)
        ∙ ap (λ (x : ℕ). holds (get_or (fact false ∷ ts) x (fact false)) f) e
        ∙ sym (given_index f k (suc p) a ts h (omega arith) l);
  }

  -- one more free cell at the upper end shifts it down
  pub given_down : (t : Test) (ts : List Test) → length ts ≡ p → Down a (a + p) (now (t ∷ ts)) (now (ts ++ fact false ∷ []))
  given_down t ts l = record {
    out = given_out (t ∷ ts) (ts ++ fact false ∷ []);
    left =
        let e : p ≡ length ts + 0 = omega arith in
        given_at f p (suc p) a (ts ++ fact false ∷ []) (omega arith) long
        ∙ ap (λ (x : ℕ). holds (get_or (ts ++ fact false ∷ []) x (fact false)) f) e
        ∙ ap (λ (x : Test). holds x f) (get_or-append-add ts (fact false ∷ []) 0 (fact false));
    moved = λ k h n.
        let e : suc k - a ≡ suc (k - a) = omega arith in
        given_index f k (suc p) a (ts ++ fact false ∷ []) h (omega arith) long
        ∙ ap (λ (x : Test). holds x f) (get_or-append ts (fact false ∷ []) (fact false) (k - a) (omega arith))
        ∙ sym (given_index f (suc k) (suc p) a (t ∷ ts) (omega arith) (omega arith) (omega arith)
        ∙ ap (λ (x : ℕ). holds (get_or (t ∷ ts) x (fact false)) f) e);
  }
    where
      long : suc p ≤ length (ts ++ fact false ∷ [])
      long = omega (arith, length-append ts (fact false ∷ []))
