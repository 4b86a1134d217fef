-- The five bytes that carry an instruction, and what the code answers about instructions, good and bad. Assumes nothing.
use Rattle.std.specs.Prelude.{cond, ◌&&◌, List, [], ◌∷◌, ℕ, eqb, ltb, length, get_or}
use Rattle.rules.specs.declared.Instruction.{Instruction}
use Rattle.rules.specs.declared.Instruction.TheVariants.{Belts, Shuttles, Tilt, Lift, Rotate}
use Rattle.rules.specs.declared.Code.{Code}
use Rattle.std.specs.declared.option.Option.{Option}
use Rattle.std.specs.declared.option.Option.TheVariants.{Some, None}
use Rattle.rules.specs.declared.Event.{Event}
use Rattle.rules.specs.declared.Event.TheVariants.{BeginIn, BeginOut, EndDone, EndNotDone}
use Rattle.rules.specs.Rules.{well_formed}

-- an instruction's five bytes: the op, its numbers, and zeros for what it doesn't use
unfoldable pub code_of : Instruction → Code
code_of (Belts row mask toward size) = record { op = 1; a = row; b = mask; c = toward; d = size }
code_of (Shuttles side mask orientation toward) = record { op = 2; a = side; b = mask; c = orientation; d = toward }
code_of (Tilt side row orientation) = record { op = 3; a = side; b = row; c = orientation; d = 0 }
code_of (Lift height) = record { op = 4; a = height; b = 0; c = 0; d = 0 }
code_of Rotate = record { op = 5; a = 0; b = 0; c = 0; d = 0 }

-- the same as a run of bytes
abbrev pub bytes_of : Instruction → List ℕ
bytes_of i = let x = code_of i in x.op ∷ x.a ∷ x.b ∷ x.c ∷ x.d ∷ []

-- an instruction that is well formed is read, any other is bad
abbrev pub well_formed_only : Instruction → Option Instruction
well_formed_only i = cond (well_formed i) (Some i) None

-- what five bytes say
unfoldable pub read_code : Code → Option Instruction
read_code x =
    cond (eqb x.op 1) (well_formed_only (Belts x.a x.b x.c x.d))
    (cond (eqb x.op 2) (well_formed_only (Shuttles x.a x.b x.c x.d))
    (cond (eqb x.op 3) (cond (eqb x.d 0) (well_formed_only (Tilt x.a x.b x.c)) None)
    (cond (eqb x.op 4) (cond (eqb x.b 0 && eqb x.c 0 && eqb x.d 0) (well_formed_only (Lift x.a)) None)
    (cond (eqb x.op 5) (cond (eqb x.a 0 && eqb x.b 0 && eqb x.c 0 && eqb x.d 0) (Some Rotate) None)
    None))))

-- five bytes from the start of a run of bytes
abbrev pub code_from : List ℕ → Code
code_from s = record { op = get_or s 0 0; a = get_or s 1 0; b = get_or s 2 0; c = get_or s 3 0; d = get_or s 4 0 }

-- what a run of bytes says: fewer than five say nothing, and those past the fifth are not looked at
unfoldable pub read_bytes : List ℕ → Option Instruction
read_bytes s = cond (ltb (length s) 5) None (read_code (code_from s))

-- the largest set of instructions
abbrev pub most_in_set : ℕ
most_in_set = 8

-- the byte of an event
abbrev pub event_code : Event → ℕ
event_code BeginIn = 1
event_code BeginOut = 2
event_code EndDone = 3
event_code EndNotDone = 4

-- what an event's byte says
unfoldable pub read_event : ℕ → Option Event
read_event b =
    cond (eqb b 1) (Option.Some BeginIn)
    (cond (eqb b 2) (Option.Some BeginOut)
    (cond (eqb b 3) (Option.Some EndDone)
    (cond (eqb b 4) (Option.Some EndNotDone)
    Option.None)))
