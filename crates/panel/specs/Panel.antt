-- Conditions explained: the parts of the garage that each reads. Assumes nothing.
use Rattle.std.specs.Prelude.{cond, List, [], ◌∷◌, ◌++◌, ℕ, zero, suc}
use Rattle.std.specs.declared.option.Option.{Option}
use Rattle.std.specs.declared.option.Option.TheVariants.{Some, None}
use Rattle.bits.specs.Bits.{Bits}
use Rattle.floor.specs.Tests.{Test, fact, set, exactly, even, no, both, either}
use Rattle.rules.specs.declared.Instruction.{Instruction}
use Rattle.rules.specs.Rules.{well_formed, Clause, ◌else◌, clauses}
use Rattle.plain.specs.declared.Condition.{Condition}
use Rattle.plain.specs.Conditions.{condition_of}
use Rattle.plain_moves.specs.declared.Parts.{Parts}
use Rattle.plain_moves.specs.Moves.{parts_at}
use Rattle.panel.specs.declared.Explanation.{Explanation}

-- the places that a test reads
unfoldable pub read_by : Test → List ℕ
read_by (fact b) = []
read_by (set ks) = ks
read_by (exactly n ks) = ks
read_by (even ks) = ks
read_by (no t) = read_by t
read_by (both t u) = read_by t ++ read_by u
read_by (either t u) = read_by t ++ read_by u

-- those of condition c of a list, none past the last
abbrev pub read_in : List Clause → ℕ → List ℕ
read_in [] c = []
read_in ((t else why) ∷ cs) zero = read_by t
read_in ((t else why) ∷ cs) (suc c) = read_in cs c

-- a condition, if there is one, with the parts that decide it
abbrev pub with_parts : Parts → Option Condition → Option Explanation
with_parts parts None = None
with_parts parts (Some x) = Some (record { condition = x; parts = parts })

-- condition c of an instruction on a record, and the parts that decide it
unfoldable pub explained : Instruction → ℕ → Bits → Option Explanation
explained i c f = with_parts (parts_at (read_in (cond (well_formed i) (clauses i) []) c)) (condition_of i c f)
