-- A plan's judgement as the entries for C return it, and its grounds as one of them writes them. Assumes nothing.
use Rattle.std.specs.Prelude.{cond, List, [], ◌∷◌, ◌++◌, ℕ, ◌+◌, ◌*◌, ltb, length, drop}
use Rattle.rooms.specs.Rooms.{image_bytes, Entry, no_room}
use Rattle.plan.specs.declared.Judged.{Judged}
use Rattle.plan.specs.declared.Grounds.{Grounds}
use Rattle.plan.specs.Plans.{grounds_of, judged_by}

-- its number, and 256 times the set
abbrev pub returned_judgement : Judged → ℕ
returned_judgement j = j.number + 256 * j.set

-- the grounds in bytes: the record and the parts as in an image, the place of the instruction, and the earlier one
abbrev pub grounds_bytes : Grounds → List ℕ
grounds_bytes g = image_bytes g.bits g.parts ++ (g.place ∷ g.earlier ∷ [])

-- a plan is explained: 17 where the room is too short; else the judgement is returned and its grounds are written, whatever it is, and
-- what stands past them is kept
unfoldable pub explain_into : List ℕ → List ℕ → Entry
explain_into plan room =
    let g = grounds_of plan in
    cond (ltb (length room) 18) (no_room room)
    (record { says = returned_judgement (judged_by g); leaves = grounds_bytes g ++ drop 18 room })
