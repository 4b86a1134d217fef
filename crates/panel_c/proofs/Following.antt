-- The next record by the plain engine is the packed engine's: what the entry for it leaves, case by case. Assumes nothing.
use mathlib.Core.Path.{◌≡◌, refl, sym, ap, ap₂, ◌∙◌}
use mathlib.Core.Bool.{Bool, true, false, cond, ◌&&◌, ◌||◌, and-false}
use mathlib.Core.List.{List, []}
use Prim.Native.Nat.{ℕ, ◌^◌, ◌≤◌, ◌<◌}
use native.Mathlib.Omega.{arith}
use borrow.Author.Tests.{lt-ltb, le-ltb, ne_eqb}
use lib.Dec.{ltb}
use lib.ListN.{length}
use Rattle.bits.specs.Bits.{bit, image}
use Rattle.bits.specs.Places.{share}
use Rattle.floor.specs.Floor.{lift}
use Rattle.floor.specs.Tests.{holds, under_way}
use Rattle.floor.specs.Sound.{sound}
use Rattle.codec.specs.Bytes.{little_endian}
use Rattle.rules.specs.declared.Instruction.{Instruction}
use Rattle.std.specs.declared.option.Option.{Option}
use Rattle.std.specs.declared.option.Option.TheVariants.{Some, None}
use Rattle.rules.specs.declared.Refusal.{Refusal}
use Rattle.rules.specs.declared.Refusal.TheVariants.{NotAllowed, IllFormed}
use Rattle.std.specs.declared.result.Result.{Result}
use Rattle.std.specs.declared.result.Result.TheVariants.{Ok, Err}
use Rattle.rules.specs.Rules.{area_of}
use Rattle.rules.specs.Codes.{code_from, read_code, read_bytes}
use Rattle.rules.specs.Verdicts.{Verdict, on_code, answer_for, moved_by, moved_of}
use Rattle.rules.proofs.CodeLaws.{one_form_lem}
use Rattle.answers.specs.declared.Reason.{Reason}
use Rattle.answers.specs.declared.Answer.{Answer}
use Rattle.answers.specs.declared.Answer.TheVariants.{TooFewBytes, BadField, NoRoom, Unsound, OutOfTurn}
use Rattle.answers.specs.Answers.{number_of, nowhere}
use Rattle.station.specs.Held.{held_area, crosses}
use Rattle.rooms.specs.Rooms.{returned, Entry, LeavesRoom, writes, no_room}
use Rattle.rooms.specs.Questions.{moved, answer_to, request_answer, record_in, nexting}
use Rattle.plain.specs.declared.Floor.{Floor}
use Rattle.plain.specs.Plain.{plain_bits, floor_of}
use Rattle.plain.specs.Conditions.{verdict_on}
use Rattle.plain_moves.specs.declared.Parts.{Parts}
use Rattle.plain_moves.specs.Moves.{moved_floor, parts_at, area_parts}
use Rattle.plain_moves.proofs.Driving.{under_way_lem}
use Rattle.plain_laws.proofs.Promises.{same_as_packed}
use Rattle.panel_c.specs.Entries.{refuses, next_into}
use Rattle.panel_c.specs.Private.{floor_answer, floor_next}
use Rattle.panel_c.proofs.Rooms.{lead, shows}

-- ---- on a floor

-- an answer that isn't taken, whatever would be written
refused_writes : (a : Answer) (bytes room : List ℕ) → (number_of a ≡ 0 → ⊥) → writes a bytes room ≡ refuses a room
unfolding writes
refused_writes a bytes room h = rw (ne_eqb (number_of a) 0 h)

-- a reason has a number of its own
reason_there : (why : Reason) → number_of (Answer.NotAllowed why nowhere) ≡ 0 → ⊥
reason_there Reason.NothingNamed e = absurd (omega arith)
reason_there Reason.Gap e = absurd (omega arith)
reason_there Reason.NotAvailable e = absurd (omega arith)
reason_there Reason.NotFree e = absurd (omega arith)
reason_there Reason.OddCount e = absurd (omega arith)
reason_there Reason.HalfMove e = absurd (omega arith)
reason_there Reason.SameHeight e = absurd (omega arith)
reason_there Reason.NotAtRotation e = absurd (omega arith)
reason_there Reason.CellsNotFree e = absurd (omega arith)

-- what is written of a verdict and a next record is written of the move
of_move : (v : Verdict) (x : ℕ) (room : List ℕ)
    → writes (answer_for v nowhere) (little_endian 8 x) room ≡ writes (answer_to (moved_by v x)) (little_endian 8 (record_in (moved_by v x))) room
of_move (Ok done) x room = refl
of_move (Err (NotAllowed why)) x room = refused_writes _ _ room (reason_there why) ∙ sym (refused_writes _ _ room (reason_there why))
of_move (Err IllFormed) x room = refused_writes _ _ room (λ e. omega arith) ∙ sym (refused_writes _ _ room (λ e. omega arith))

-- ---- on a sound record

module _ (r : ℕ) (k : r < 2 ^ 64) (s : sound r ≡ true) {f : Floor} (e : f ≡ floor_of (bit r)) where
  -- the instruction of some bytes crosses a drive
  crossing : (five : List ℕ) (i : Instruction) → read_code (code_from five) ≡ Some i
      → (f.coming || f.going) && (area_parts i).lift ≡ crosses (code_from five) r
  unfolding crosses area_parts parts_at held_area
  crossing five i g =
      ap₂ ◌&&◌ (under_way_lem f ∙ ap (holds under_way) (shows r k s e))
      (rw (g, (one_form_lem (code_from five) i g).1))

  -- the move by the plain engine
  plain_move : (i : Instruction) → moved_by (verdict_on i (plain_bits f)) (floor_next f i) ≡ moved_of i r
  unfolding floor_next
  plain_move i = ap (λ (g : Floor). moved_by (verdict_on i (plain_bits g)) (image (plain_bits (moved_floor i g)))) e ∙ same_as_packed.next i r (k, s)

  -- what is written of it
  followed : (five room : List ℕ) (i : Instruction) → read_code (code_from five) ≡ Some i
      → writes (floor_answer f i) (little_endian 8 (floor_next f i)) room
      ≡ writes (cond (crosses (code_from five) r) OutOfTurn (answer_to (moved_of i r))) (little_endian 8 (record_in (moved_of i r))) room
  unfolding floor_answer
  followed five room i g =
      ap (λ (b : Bool). writes (cond b OutOfTurn (answer_for (verdict_on i (plain_bits f)) nowhere)) (little_endian 8 (floor_next f i)) room) (crossing five i g)
      ∙ either (crosses (code_from five) r)
      ∙ ap (λ (m : Result ℕ Refusal). writes (cond (crosses (code_from five) r) OutOfTurn (answer_to m)) (little_endian 8 (record_in m)) room) (plain_move i)
    where
      v : Verdict
      v = verdict_on i (plain_bits f)

      either : (b : Bool) → writes (cond b OutOfTurn (answer_for v nowhere)) (little_endian 8 (floor_next f i)) room
          ≡ writes (cond b OutOfTurn (answer_to (moved_by v (floor_next f i)))) (little_endian 8 (record_in (moved_by v (floor_next f i)))) room
      either true = refused_writes OutOfTurn _ room (λ z. omega arith) ∙ sym (refused_writes OutOfTurn _ room (λ z. omega arith))
      either false = of_move v (floor_next f i) room

-- ---- what the entry leaves

module _ (r : ℕ) (five room : List ℕ) where
  -- by what its tests tell
  followed_by : Bool → Bool → Bool → Entry
  followed_by short few fine = cond short (no_room room) (cond few (refuses TooFewBytes room) (cond fine (nexting r five room) (refuses Unsound room)))

  by_tests : (short few fine : Bool) → ltb (length room) 8 ≡ short → ltb (length five) 5 ≡ few → sound r ≡ fine
      → next_into r five room ≡ followed_by short few fine
  unfolding next_into followed_by
  by_tests short few fine a b d = rw (a, b, d)

  pub no_room_lem : {x : ℕ} → length room < 8 → x ≡ returned NoRoom → LeavesRoom (next_into r five room) x room
  unfolding followed_by
  no_room_lem h e = lead (by_tests true _ _ (lt-ltb (length room) 8 h) refl refl) (e, refl)

  module _ (h : 8 ≤ length room) where
    pub too_few : {x : ℕ} → length five < 5 → x ≡ returned TooFewBytes → LeavesRoom (next_into r five room) x room
    unfolding followed_by
    too_few l e = lead (by_tests false true _ (le-ltb (length room) 8 h) (lt-ltb (length five) 5 l) refl) (e, refl)

    module _ (l : 5 ≤ length five) where
      pub not_sound : {x : ℕ} → sound r ≡ false → x ≡ returned Unsound → LeavesRoom (next_into r five room) x room
      unfolding followed_by
      not_sound s e = lead (by_tests false false false (le-ltb (length room) 8 h) (le-ltb (length five) 5 l) s) (e, refl)

      module _ (s : sound r ≡ true) {one : (Option Instruction)} (d : one ≡ read_bytes five) where
        -- the five bytes are all that is read
        reading : read_code (code_from five) ≡ one
        unfolding read_bytes
        reading = sym (d ∙ rw (le-ltb (length five) 5 l))

        -- the packed engine's entry, by what they say
        as_next : next_into r five room
            ≡ writes (cond (crosses (code_from five) r) OutOfTurn (answer_to (on_code (λ i. moved_of i r) (Err Refusal.IllFormed) one)))
            (little_endian 8 (record_in (on_code (λ i. moved_of i r) (Err Refusal.IllFormed) one))) room
        unfolding followed_by nexting request_answer moved
        as_next = by_tests false false true (le-ltb (length room) 8 h) (le-ltb (length five) 5 l) s ∙ rw (le-ltb (length room) 8 h, le-ltb (length five) 5 l, d)

        -- bytes that say no instruction have no area
        no_area : one ≡ None → crosses (code_from five) r ≡ false
        unfolding crosses held_area
        no_area g = ap (λ (y : (Option Instruction)). holds under_way (bit r) && share (on_code area_of [] y) lift) (reading ∙ g) ∙ and-false (holds under_way (bit r))

        pub says_none : {x : ℕ} → one ≡ None → x ≡ returned (BadField nowhere) → LeavesRoom (next_into r five room) x room
        says_none g e =
            lead (as_next
            ∙ ap₂ (λ (b : Bool) (y : (Option Instruction)). writes (cond b OutOfTurn (answer_to (on_code (λ i. moved_of i r) (Err Refusal.IllFormed) y)))
            (little_endian 8 (record_in (on_code (λ i. moved_of i r) (Err Refusal.IllFormed) y))) room) (no_area g) g
            ∙ refused_writes (BadField nowhere) _ room (λ z. omega arith)) (e, refl)

        pub next_so : (i : Instruction) {f : Floor} {x : ℕ} {last : List ℕ} → one ≡ Some i → r < 2 ^ 64 → f ≡ floor_of (bit r)
            → LeavesRoom (writes (floor_answer f i) (little_endian 8 (floor_next f i)) room) x last → LeavesRoom (next_into r five room) x last
        next_so i g k e w =
            lead (as_next
            ∙ ap (λ (y : (Option Instruction)). writes (cond (crosses (code_from five) r) OutOfTurn
            (answer_to (on_code (λ i. moved_of i r) (Err Refusal.IllFormed) y)))
            (little_endian 8 (record_in (on_code (λ i. moved_of i r) (Err Refusal.IllFormed) y))) room) g
            ∙ sym (followed r k s e five room i (reading ∙ g))) w

-- ---- an instruction on a floor

module _ (f : Floor) (i : Instruction) (room : List ℕ) {a : Parts} (e : a ≡ area_parts i) where
  -- what is answered, by whether it has the lift under a driver
  answer_is : (b : Bool) → (f.coming || f.going) && a.lift ≡ b → floor_answer f i ≡ cond b OutOfTurn (answer_for (verdict_on i (plain_bits f)) nowhere)
  unfolding floor_answer
  answer_is b t = ap (λ (y : Bool). cond y OutOfTurn (answer_for (verdict_on i (plain_bits f)) nowhere)) (ap (λ (p : Parts). (f.coming || f.going) && p.lift) (sym e) ∙ t)

  pub hindered : {x : ℕ} → (f.coming || f.going) && a.lift ≡ true → x ≡ returned OutOfTurn
      → LeavesRoom (writes (floor_answer f i) (little_endian 8 (floor_next f i)) room) x room
  hindered t d =
      lead (ap (λ (y : Answer). writes y (little_endian 8 (floor_next f i)) room) (answer_is true t) ∙ refused_writes OutOfTurn _ room (λ z. omega arith)) (d, refl)

  pub written : {v : Verdict} {y : Answer} {m : Floor} {n x : ℕ} {b last : List ℕ} → (f.coming || f.going) && a.lift ≡ false
      → v ≡ verdict_on i (plain_bits f) → y ≡ answer_for v nowhere → m ≡ moved_floor i f → n ≡ image (plain_bits m) → b ≡ little_endian 8 n
      → LeavesRoom (writes y b room) x last → LeavesRoom (writes (floor_answer f i) (little_endian 8 (floor_next f i)) room) x last
  unfolding floor_next
  written t c d g p q w =
      lead (ap₂ (λ (y : Answer) (b : List ℕ). writes y b room)
      (answer_is false t ∙ ap (λ (v : Verdict). answer_for v nowhere) (sym c) ∙ sym d)
      (ap (λ (m : Floor). little_endian 8 (image (plain_bits m))) (sym g) ∙ ap (little_endian 8) (sym p) ∙ sym q)) w
