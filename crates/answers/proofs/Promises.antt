-- The promise of specs/Promises.antt: each answer's number passes the test, and each number that passes it is one's. Assumes nothing.
use mathlib.Core.Path.{◌≡◌, refl, sym, ap, ◌∙◌}
use mathlib.Core.Bool.{true, cond, ◌&&◌, ◌||◌}
use mathlib.Core.Logic.{◌⊎◌, inl, inr}
use Prim.Native.Nat.{ℕ, ◌≤◌, ◌<◌}
use native.Mathlib.Nat.{eq-or-lt_of_le}
use native.Mathlib.Omega.{arith}
use lib.Dec.{eqb, leb}
use borrow.Author.Tests.{leb-true}
use Rattle.bits.proofs.Cases.{both, one_of}
use Rattle.answers.specs.declared.Reason.{Reason}
use Rattle.answers.specs.declared.Reason.TheVariants.{NothingNamed, Gap, NotAvailable, NotFree, OddCount, HalfMove, SameHeight, NotAtRotation, CellsNotFree}
use Rattle.answers.specs.declared.Answer.{Answer}
use Rattle.answers.specs.declared.Answer.TheVariants.{Taken, Opened, TooFewBytes, BadLength, UnknownKind, BadField, TooMany, SetOutstanding, EmptySet, Overlap, NotAllowed, EventImpossible, NoSet, NotInSet, AlreadyAnswered, Unsound, Unfit, NoRoom, Late, NotIssued, OutOfTurn, SetApart, KeptOpen}
use Rattle.answers.specs.Answers.{reason_number, number_of, OfTable, in_table}
use Rattle.answers.specs.Promises.{TableExactly}

-- a reason's number is 20 or more
pub reason_from : (why : Reason) → 20 ≤ reason_number why
reason_from NothingNamed = omega arith
reason_from Gap = omega arith
reason_from NotAvailable = omega arith
reason_from NotFree = omega arith
reason_from OddCount = omega arith
reason_from HalfMove = omega arith
reason_from SameHeight = omega arith
reason_from NotAtRotation = omega arith
reason_from CellsNotFree = omega arith

pub reason_to : (why : Reason) → reason_number why ≤ 28
reason_to NothingNamed = omega arith
reason_to Gap = omega arith
reason_to NotAvailable = omega arith
reason_to NotFree = omega arith
reason_to OddCount = omega arith
reason_to HalfMove = omega arith
reason_to SameHeight = omega arith
reason_to NotAtRotation = omega arith
reason_to CellsNotFree = omega arith

-- it is no other's
numbered : ℕ → Reason
numbered n =
    cond (eqb n 20) NothingNamed (cond (eqb n 21) Gap (cond (eqb n 22) NotAvailable (cond (eqb n 23) NotFree
    (cond (eqb n 24) OddCount (cond (eqb n 25) HalfMove (cond (eqb n 26) SameHeight (cond (eqb n 27) NotAtRotation CellsNotFree)))))))

reads_back : (why : Reason) → numbered (reason_number why) ≡ why
unfolding numbered
reads_back NothingNamed = refl
reads_back Gap = refl
reads_back NotAvailable = refl
reads_back NotFree = refl
reads_back OddCount = refl
reads_back HalfMove = refl
reads_back SameHeight = refl
reads_back NotAtRotation = refl
reads_back CellsNotFree = refl

pub reason_same : (v w : Reason) → reason_number v ≡ reason_number w → v ≡ w
reason_same v w e = sym (reads_back v) ∙ ap numbered e ∙ reads_back w

reason_in : (why : Reason) → in_table (reason_number why) ≡ true
reason_in NothingNamed = refl
reason_in Gap = refl
reason_in NotAvailable = refl
reason_in NotFree = refl
reason_in OddCount = refl
reason_in HalfMove = refl
reason_in SameHeight = refl
reason_in NotAtRotation = refl
reason_in CellsNotFree = refl

pub answer_in : (a : Answer) → in_table (number_of a) ≡ true
answer_in Taken = refl
answer_in (Opened k) = refl
answer_in TooFewBytes = refl
answer_in BadLength = refl
answer_in UnknownKind = refl
answer_in (BadField p) = refl
answer_in TooMany = refl
answer_in SetOutstanding = refl
answer_in EmptySet = refl
answer_in (Overlap p) = refl
answer_in (NotAllowed why p) = reason_in why
answer_in EventImpossible = refl
answer_in NoSet = refl
answer_in NotInSet = refl
answer_in AlreadyAnswered = refl
answer_in Unsound = refl
answer_in Unfit = refl
answer_in NoRoom = refl
answer_in Late = refl
answer_in NotIssued = refl
answer_in OutOfTurn = refl
answer_in (SetApart p) = refl
answer_in KeptOpen = refl

-- where the numbers of the table lie
abbrev Ranges : ℕ → Type 0
Ranges n = (n ≤ 8) ⊎ (((10 ≤ n) × (n ≤ 13)) ⊎ (((15 ≤ n) × (n ≤ 17)) ⊎ ((20 ≤ n) × (n ≤ 33))))

ranges : (n : ℕ) → in_table n ≡ true → Ranges n
ranges n e = first (one_of (leb n 8) (leb 10 n && leb n 13 || (leb 15 n && leb n 17 || leb 20 n && leb n 33)) e)
  where
    inside : (low high : ℕ) → leb low n && leb n high ≡ true → (low ≤ n) × (n ≤ high)
    inside low high e = let (p, q) = both (leb low n) (leb n high) e in (leb-true low n p, leb-true n high q)

    third : (leb 15 n && leb n 17 ≡ true) ⊎ (leb 20 n && leb n 33 ≡ true) → Ranges n
    third (inl e) = inr (inr (inl (inside 15 17 e)))
    third (inr e) = inr (inr (inr (inside 20 33 e)))

    second : (leb 10 n && leb n 13 ≡ true) ⊎ (leb 15 n && leb n 17 || leb 20 n && leb n 33 ≡ true) → Ranges n
    second (inl e) = inr (inl (inside 10 13 e))
    second (inr e) = third (one_of (leb 15 n && leb n 17) (leb 20 n && leb n 33) e)

    first : (leb n 8 ≡ true) ⊎ (leb 10 n && leb n 13 || (leb 15 n && leb n 17 || leb 20 n && leb n 33) ≡ true) → Ranges n
    first (inl e) = inl (leb-true n 8 e)
    first (inr e) = second (one_of (leb 10 n && leb n 13) (leb 15 n && leb n 17 || leb 20 n && leb n 33) e)

-- a number of the table is a byte
pub number_byte : (a : Answer) → number_of a < 256
number_byte a = go (ranges (number_of a) (answer_in a))
  where
    go : Ranges (number_of a) → number_of a < 256
    go (inl h) = omega arith
    go (inr (inl h)) = omega (arith, h.1)
    go (inr (inr (inl h))) = omega (arith, h.1)
    go (inr (inr (inr h))) = omega (arith, h.1)

-- a number from an answer's own on is that one, or greater
from : (a : Answer) (n : ℕ) → (number_of a < n → OfTable n) → number_of a ≤ n → OfTable n
from a n further h = here (eq-or-lt_of_le h)
  where
    here : (number_of a ≡ n) ⊎ (number_of a < n) → OfTable n
    here (inl e) = (a, sym e)
    here (inr l) = further l

-- each number of each range is an answer's
found : (n : ℕ) → Ranges n → OfTable n
found n (inl h) =
    from Taken n (from TooFewBytes n (from BadLength n (from UnknownKind n (from (BadField 0) n (from TooMany n
    (from SetOutstanding n (from EmptySet n (from (Overlap 0) n (λ l. absurd (omega arith)))))))))) (omega arith)
found n (inr (inl h)) =
    from EventImpossible n (from NoSet n (from NotInSet n (from AlreadyAnswered n (λ l. absurd (omega (arith, h.1)))))) h.0
found n (inr (inr (inl h))) = from Unsound n (from Unfit n (from NoRoom n (λ l. absurd (omega (arith, h.1))))) h.0
found n (inr (inr (inr h))) =
    why NothingNamed (why Gap (why NotAvailable (why NotFree (why OddCount (why HalfMove
    (why SameHeight (why NotAtRotation (why CellsNotFree (from Late n (from NotIssued n (from OutOfTurn n (from (SetApart 0) n
    (from KeptOpen n (λ l. absurd (omega (arith, h.1)))))))))))))))) h.0
  where
    why : (w : Reason) → (reason_number w < n → OfTable n) → reason_number w ≤ n → OfTable n
    why w = from (NotAllowed w 0) n

pub table_exactly : TableExactly
table_exactly n = (λ e. found n (ranges n e), λ t. ap in_table t.1 ∙ answer_in t.0)
