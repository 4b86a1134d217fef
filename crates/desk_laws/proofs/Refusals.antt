-- When the desk itself refuses: 37, 38 and 39 exactly as the numbers that come with a call are. Assumes nothing.
use mathlib.Core.Path.{◌≡◌, refl, sym, ap, ◌∙◌}
use mathlib.Core.Logic.{◌↔◌}
use mathlib.Core.Bool.{Bool, true, false, not, cond}
use mathlib.Core.List.{List}
use Prim.Native.Nat.{ℕ, ◌+◌, ◌≤◌}
use native.Mathlib.Omega.{arith}
use lib.Dec.{eqb}
use lib.ListN.{length, take, length-take}
use borrow.Author.Tests.{eqb-true, eqb-false, ne_eqb, eq-eqb}
use Rattle.bits.specs.Bits.{bit, digit}
use Rattle.bits.specs.Search.{some}
use Rattle.bits.proofs.Cases.{split, clash, off}
use Rattle.bits.proofs.Search.{some_at, some_is}
use Rattle.floor.specs.Floor.{drive_in}
use Rattle.floor.specs.Cars.{cars}
use Rattle.floor.specs.Sound.{sound, total}
use Rattle.floor.proofs.Promises.{sound_exactly}
use Rattle.station_laws.proofs.Calls.{image_has}
use Rattle.std.specs.declared.result.Result.{Result}
use Rattle.cards.specs.declared.GivenError.{GivenError}
use Rattle.std.specs.declared.result.Result.TheVariants.{Ok, Err}
use Rattle.cards.specs.declared.GivenError.TheVariants.{WrongCount, ZeroNumber, TwiceGiven}
use Rattle.cards.specs.Cards.{Has}
use Rattle.cards.specs.Given.{wanted, zero_at, twice_at, given_as, AllNew}
use Rattle.cards.specs.Held.{numbers_in, is_known}
use Rattle.cards_laws.specs.Statements.{ThatMany}
use Rattle.cards_laws.proofs.Tested.{known_exactly, fine_exactly}
use Rattle.desk_laws.specs.Runs as desk
use Rattle.desk_laws.specs.Runs.{DeskCall}
use Rattle.desk_laws.specs.Promises.{Passes, BeginNumbers, AnyZero, ImageNumbers}
use Rattle.desk_laws.proofs.Calls.{begun, begun_fine, ruling_number, answered}

-- past the station, one condition for another
past : {A P B C : Type 0} → A ↔ (P × B) → (P → B ↔ C) → A ↔ (P × C)
past e f = (λ a. let (p, b) = e.0 a in (p, (f p).0 b), λ h. e.1 (h.0, (f h.0).1 h.1))

past_two : {A P B C D : Type 0} → A ↔ (P × B) → (P → B ↔ (C × D)) → A ↔ (P × C × D)
past_two e f = (λ a. let (p, b) = e.0 a in let (c, d) = (f p).0 b in (p, c, d), λ h. e.1 (h.0, (f h.0).1 (h.1, h.2)))

past_three : {A P B C D E : Type 0} → A ↔ (P × B) → (P → B ↔ (C × D × E)) → A ↔ (P × C × D × E)
past_three e f = (λ a. let (p, b) = e.0 a in let (c, d, g) = (f p).0 b in (p, c, d, g), λ h. e.1 (h.0, (f h.0).1 (h.1, h.2, h.3)))

-- ---- a begin of a drive-in

begun_zero : (z k : Bool) → begun z k ≡ Err ZeroNumber → z ≡ true
begun_zero true k e = refl
begun_zero false true e = absurd (omega (arith, ap ruling_number e))
begun_zero false false e = absurd (omega (arith, ap ruling_number e))

begun_known : (z k : Bool) → begun z k ≡ Err TwiceGiven → (z ≡ false) × (k ≡ true)
begun_known true k e = absurd (omega (arith, ap ruling_number e))
begun_known false true e = (refl, refl)
begun_known false false e = absurd (omega (arith, ap ruling_number e))

pub begin_numbers : BeginNumbers
begin_numbers d c = (
  past (answered d (desk.event 1 c) (Err ZeroNumber)) (λ p. (λ e. eqb-true c 0 (begun_zero (eqb c 0) known e), λ z. rw (eq-eqb c 0 z))),
  past_two (answered d (desk.event 1 c) (Err TwiceGiven)) (λ p. (
    λ e. let (z, k) = begun_known (eqb c 0) known e in let n = eqb-false c 0 z in (n, (exactly n).0 k),
    λ h. rw (ne_eqb c 0 h.0, (exactly h.0).1 h.1),
  )),
  past_two (answered d (desk.event 1 c) (Ok tt)) (λ p. (
    λ e. let (z, k) = begun_fine (eqb c 0) known e in let n = eqb-false c 0 z in (n, λ h. clash ((exactly n).1 h) k),
    λ h. rw (ne_eqb c 0 h.0, off known (λ k. h.1 ((exactly h.0).0 k))),
  )),
)
  where
    known : Bool
    known = is_known d.numbers c

    exactly : (c ≡ 0 → ⊥) → (known ≡ true) ↔ Has (numbers_in d.numbers) c
    exactly = known_exactly d.numbers c

-- ---- an image

-- by whether its numbers are that many, one is zero, one is given twice
abbrev given : Bool → Bool → Bool → Result (Unit {0}) GivenError
given w z t = cond (not w) (Err WrongCount) (cond z (Err ZeroNumber) (cond t (Err TwiceGiven) (Ok tt)))

given_wrong : (w z t : Bool) → given w z t ≡ Err WrongCount → w ≡ false
given_wrong true true t e = absurd (omega (arith, ap ruling_number e))
given_wrong true false true e = absurd (omega (arith, ap ruling_number e))
given_wrong true false false e = absurd (omega (arith, ap ruling_number e))
given_wrong false z t e = refl

given_zero : (w z t : Bool) → given w z t ≡ Err ZeroNumber → (w ≡ true) × (z ≡ true)
given_zero true true t e = (refl, refl)
given_zero true false true e = absurd (omega (arith, ap ruling_number e))
given_zero true false false e = absurd (omega (arith, ap ruling_number e))
given_zero false z t e = absurd (omega (arith, ap ruling_number e))

given_twice : (w z t : Bool) → given w z t ≡ Err TwiceGiven → (w ≡ true) × (z ≡ false) × (t ≡ true)
given_twice true true t e = absurd (omega (arith, ap ruling_number e))
given_twice true false true e = (refl, refl, refl)
given_twice true false false e = absurd (omega (arith, ap ruling_number e))
given_twice false z t e = absurd (omega (arith, ap ruling_number e))

-- how many are wanted with a sound record
wanted_is : (r : ℕ) → sound r ≡ true → wanted r ≡ cars (bit r) + digit (bit r drive_in)
unfolding total
wanted_is r s = rw s

given_as_lem : (r n : ℕ) (ns : List ℕ) → given_as r n ns ≡ given (eqb n (wanted r)) (some n (zero_at ns)) (some n (twice_at ns))
unfolding given_as
given_as_lem r n ns = refl

enough_is : (r n : ℕ) (ns : List ℕ) → sound r ≡ true → n ≤ length ns → (eqb n (wanted r) ≡ true) ↔ ThatMany (bit r) (take n ns)
enough_is r n ns s h = (
  λ e. omega (arith, length-take n ns, eqb-true n (wanted r) e, wanted_is r s),
  λ m. eq-eqb n (wanted r) (omega (arith, length-take n ns, m, wanted_is r s)),
)

zero_is : (n : ℕ) (ns : List ℕ) → (some n (zero_at ns) ≡ true) ↔ AnyZero n ns
zero_is n ns = (
  λ e. let (i, l, z) = some_is n (zero_at ns) e in (i, l, eqb-true _ 0 z),
  λ a. some_at n (zero_at ns) a.0 a.1 (eq-eqb _ 0 a.2),
)

pub image_numbers : ImageNumbers
image_numbers d p n ns h = (
  past (answered d call (Err WrongCount)) (λ q. (
    λ e m. clash ((enough q).1 m) (given_wrong right zero twice (sym by ∙ e)),
    λ m. by ∙ rw (off right (λ e. m ((enough q).0 e))),
  )),
  past_two (answered d call (Err ZeroNumber)) (λ q. (
    λ e. let (w, z) = given_zero right zero twice (sym by ∙ e) in ((enough q).0 w, (zero_is n ns).0 z),
    λ m. by ∙ rw ((enough q).1 m.0, (zero_is n ns).1 m.1),
  )),
  past_three (answered d call (Err TwiceGiven)) (λ q. (
    λ e. let (w, z, t) = given_twice right zero twice (sym by ∙ e) in
        ((enough q).0 w, (λ a. clash ((zero_is n ns).1 a) z), λ new. absurd (omega (arith, ap ruling_number (sym e ∙ (fine q).1 ((enough q).0 w, new))))),
    λ m. let w = (enough q).1 m.0 in
        let z = off zero (λ e. m.1 ((zero_is n ns).0 e)) in
        by ∙ rw (w, z) (split twice (λ t. rw t) (λ t. absurd (m.2 ((fine q).0 (by ∙ rw (w, z, t))).1))),
  )),
  past_two (answered d call (Ok tt)) fine,
)
  where
    call : DeskCall
    call = desk.pictures p n ns

    right : Bool
    right = eqb n (wanted p.bits)

    zero : Bool
    zero = some n (zero_at ns)

    twice : Bool
    twice = some n (twice_at ns)

    by : given_as p.bits n ns ≡ given right zero twice
    by = given_as_lem p.bits n ns

    good : Passes d call → sound p.bits ≡ true
    good q = (image_has d.station p.bits p.apart q.1).2

    enough : Passes d call → (right ≡ true) ↔ ThatMany (bit p.bits) (take n ns)
    enough q = enough_is p.bits n ns (good q) h

    fine : Passes d call → (given_as p.bits n ns ≡ Ok tt) ↔ (ThatMany (bit p.bits) (take n ns) × AllNew (take n ns))
    fine q = fine_exactly p.bits n ns ((sound_exactly p.bits).0 (good q)) h
