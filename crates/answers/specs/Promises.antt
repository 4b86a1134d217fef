-- What is promised of the table: the test of its numbers is right. Proved in proofs/Promises.antt. Assumes nothing.
use Rattle.std.specs.Prelude.{◌≡◌, true, ◌↔◌, ℕ}
use Rattle.answers.specs.Answers.{OfTable, in_table}

-- a number is in the table exactly if some answer has it
abbrev pub TableExactly : Type 0
TableExactly = (n : ℕ) → (in_table n ≡ true) ↔ OfTable n
