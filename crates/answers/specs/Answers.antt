-- The table of numbers of document 01, with document 02's reasons, late results, drives, jams and places kept open: the number and
-- the place of each answer, and the issue that it carries. Assumes nothing.
use Rattle.std.specs.Prelude.{◌≡◌, Bool, ◌&&◌, ◌||◌, ℕ, leb}
use Rattle.answers.specs.declared.Reason.{Reason}
use Rattle.answers.specs.declared.Reason.TheVariants.{NothingNamed, Gap, NotAvailable, NotFree, OddCount, HalfMove, SameHeight, NotAtRotation, CellsNotFree}
use Rattle.answers.specs.declared.Answer.{Answer}
use Rattle.answers.specs.declared.Answer.TheVariants.{Taken, Opened, TooFewBytes, BadLength, UnknownKind, BadField, TooMany, SetOutstanding, EmptySet, Overlap, NotAllowed, EventImpossible, NoSet, NotInSet, AlreadyAnswered, Unsound, Unfit, NoRoom, Late, NotIssued, OutOfTurn, SetApart, KeptOpen}

-- the number of a reason
abbrev pub reason_number : Reason → ℕ
reason_number NothingNamed = 20
reason_number Gap = 21
reason_number NotAvailable = 22
reason_number NotFree = 23
reason_number OddCount = 24
reason_number HalfMove = 25
reason_number SameHeight = 26
reason_number NotAtRotation = 27
reason_number CellsNotFree = 28

-- the number of an answer
abbrev pub number_of : Answer → ℕ
number_of Taken = 0
number_of (Opened k) = 0
number_of TooFewBytes = 1
number_of BadLength = 2
number_of UnknownKind = 3
number_of (BadField p) = 4
number_of TooMany = 5
number_of SetOutstanding = 6
number_of EmptySet = 7
number_of (Overlap p) = 8
number_of (NotAllowed why p) = reason_number why
number_of EventImpossible = 10
number_of NoSet = 11
number_of NotInSet = 12
number_of AlreadyAnswered = 13
number_of Unsound = 15
number_of Unfit = 16
number_of NoRoom = 17
number_of Late = 29
number_of NotIssued = 30
number_of OutOfTurn = 31
number_of (SetApart p) = 32
number_of KeptOpen = 33

-- a number of the table: some answer has it
abbrev pub OfTable : ℕ → Type 0
OfTable n = (a : Answer) × (n ≡ number_of a)

-- the same as a test: 0 to 8, 10 to 13, 15 to 17, 20 to 33
abbrev pub in_table : ℕ → Bool
in_table n = leb n 8 || (leb 10 n && leb n 13 || (leb 15 n && leb n 17 || leb 20 n && leb n 33))

-- the place where an answer names no instruction
abbrev pub nowhere : ℕ
nowhere = 255

-- the place of an answer: the least instruction that is bad, touches a part that is set apart, overlaps an earlier one or is not allowed;
-- else nowhere
abbrev pub place_of : Answer → ℕ
place_of Taken = nowhere
place_of (Opened k) = nowhere
place_of TooFewBytes = nowhere
place_of BadLength = nowhere
place_of UnknownKind = nowhere
place_of (BadField p) = p
place_of TooMany = nowhere
place_of SetOutstanding = nowhere
place_of EmptySet = nowhere
place_of (Overlap p) = p
place_of (NotAllowed why p) = p
place_of EventImpossible = nowhere
place_of NoSet = nowhere
place_of NotInSet = nowhere
place_of AlreadyAnswered = nowhere
place_of Unsound = nowhere
place_of Unfit = nowhere
place_of NoRoom = nowhere
place_of Late = nowhere
place_of NotIssued = nowhere
place_of OutOfTurn = nowhere
place_of (SetApart p) = p
place_of KeptOpen = nowhere

-- the issue that an answer carries: the number of the set that it opens, zero unless a request was taken
abbrev pub issue_of : Answer → ℕ
issue_of Taken = 0
issue_of (Opened k) = k
issue_of TooFewBytes = 0
issue_of BadLength = 0
issue_of UnknownKind = 0
issue_of (BadField p) = 0
issue_of TooMany = 0
issue_of SetOutstanding = 0
issue_of EmptySet = 0
issue_of (Overlap p) = 0
issue_of (NotAllowed why p) = 0
issue_of EventImpossible = 0
issue_of NoSet = 0
issue_of NotInSet = 0
issue_of AlreadyAnswered = 0
issue_of Unsound = 0
issue_of Unfit = 0
issue_of NoRoom = 0
issue_of Late = 0
issue_of NotIssued = 0
issue_of OutOfTurn = 0
issue_of (SetApart p) = 0
issue_of KeptOpen = 0
