-- Of the numbers of answers 8 is an overlap's alone, and 31 that of the lift out of turn. Assumes nothing.
use Rattle.std.proofs.Common.{◌≡◌, ℕ, refl, arith}
use Rattle.answers.specs.declared.Answer.{Answer}
use Rattle.answers.specs.declared.Answer.TheVariants.{Taken, Opened, TooFewBytes, BadLength, UnknownKind, BadField, TooMany, SetOutstanding, EmptySet, Overlap, NotAllowed, EventImpossible, NoSet, NotInSet, AlreadyAnswered, Unsound, Unfit, NoRoom, Late, NotIssued, OutOfTurn, SetApart, KeptOpen}
use Rattle.answers.specs.Answers.{number_of}
use Rattle.answers.proofs.Promises.{reason_from, reason_to}

record Named (a : Answer) : Type 0 where
  overlap : number_of a ≡ 8 → (p : ℕ) × (a ≡ Overlap p)
  turn : number_of a ≡ 31 → a ≡ OutOfTurn

named : (a : Answer) → Named a
named Taken = record { overlap = λ e. absurd (omega arith); turn = λ e. absurd (omega arith) }
named (Opened k) = record { overlap = λ e. absurd (omega arith); turn = λ e. absurd (omega arith) }
named TooFewBytes = record { overlap = λ e. absurd (omega arith); turn = λ e. absurd (omega arith) }
named BadLength = record { overlap = λ e. absurd (omega arith); turn = λ e. absurd (omega arith) }
named UnknownKind = record { overlap = λ e. absurd (omega arith); turn = λ e. absurd (omega arith) }
named (BadField p) = record { overlap = λ e. absurd (omega arith); turn = λ e. absurd (omega arith) }
named TooMany = record { overlap = λ e. absurd (omega arith); turn = λ e. absurd (omega arith) }
named SetOutstanding = record { overlap = λ e. absurd (omega arith); turn = λ e. absurd (omega arith) }
named EmptySet = record { overlap = λ e. absurd (omega arith); turn = λ e. absurd (omega arith) }
named (Overlap p) = record { overlap = λ e. (p, refl); turn = λ e. absurd (omega arith) }
named (NotAllowed why p) = record { overlap = λ e. absurd (omega (arith, reason_from why)); turn = λ e. absurd (omega (arith, reason_to why)) }
named EventImpossible = record { overlap = λ e. absurd (omega arith); turn = λ e. absurd (omega arith) }
named NoSet = record { overlap = λ e. absurd (omega arith); turn = λ e. absurd (omega arith) }
named NotInSet = record { overlap = λ e. absurd (omega arith); turn = λ e. absurd (omega arith) }
named AlreadyAnswered = record { overlap = λ e. absurd (omega arith); turn = λ e. absurd (omega arith) }
named Unsound = record { overlap = λ e. absurd (omega arith); turn = λ e. absurd (omega arith) }
named Unfit = record { overlap = λ e. absurd (omega arith); turn = λ e. absurd (omega arith) }
named NoRoom = record { overlap = λ e. absurd (omega arith); turn = λ e. absurd (omega arith) }
named Late = record { overlap = λ e. absurd (omega arith); turn = λ e. absurd (omega arith) }
named NotIssued = record { overlap = λ e. absurd (omega arith); turn = λ e. absurd (omega arith) }
named OutOfTurn = record { overlap = λ e. absurd (omega arith); turn = λ e. refl }
named (SetApart p) = record { overlap = λ e. absurd (omega arith); turn = λ e. absurd (omega arith) }
named KeptOpen = record { overlap = λ e. absurd (omega arith); turn = λ e. absurd (omega arith) }

pub no_overlap : (a : Answer) → ((p : ℕ) → a ≡ Overlap p → ⊥) → number_of a ≡ 8 → ⊥
no_overlap a n e = let (p, q) = (named a).overlap e in n p q

pub in_turn : (a : Answer) → (a ≡ OutOfTurn → ⊥) → number_of a ≡ 31 → ⊥
in_turn a n e = n ((named a).turn e)
