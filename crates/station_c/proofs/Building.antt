-- What the questions for building sets answer and leave, case by case. Assumes nothing.
use mathlib.Core.Path.{◌≡◌, refl, ap}
use mathlib.Core.List.{List}
use Prim.Native.Nat.{ℕ, ◌≤◌, ◌<◌}
use native.Mathlib.Omega.{arith}
use borrow.Author.Tests.{lt-ltb, le-ltb}
use lib.ListN.{length}
use Rattle.codec.specs.Bytes.{little_endian}
use Rattle.answers.specs.declared.Answer.{Answer}
use Rattle.answers.specs.declared.Answer.TheVariants.{TooFewBytes, BadField, NoRoom}
use Rattle.rules.specs.declared.Instruction.{Instruction}
use Rattle.std.specs.declared.option.Option.{Option}
use Rattle.rules.specs.Codes.{read_bytes}
use Rattle.rules.specs.Verdicts.{on_code, sharing_of}
use Rattle.rooms.specs.Rooms.{returned, LeavesRoom, writes, telling}
use Rattle.rooms.proofs.Rooms.{as_writes}
use Rattle.station_c.specs.Sets.{area_in, area_said, area_bits, area_answer, area_into, sharing_said, pair_answer}

-- ---- an area

module _ (five room : List ℕ) where
  -- its room is too short
  pub area_short : {r : ℕ} → length room < 8 → r ≡ returned NoRoom → LeavesRoom (area_into five room) r room
  unfolding area_into
  area_short h e = rw (lt-ltb _ _ h) (e, refl)

  -- too few bytes say no instruction
  pub area_few : {r : ℕ} → 8 ≤ length room → length five < 5 → r ≡ returned TooFewBytes → LeavesRoom (area_into five room) r room
  unfolding area_into area_answer writes
  area_few h l e = rw (le-ltb _ _ h, lt-ltb _ _ l) (e, refl)

  -- else it is written, or there is none
  pub area_told : {m : (Option ℕ)} {a : Answer} {x : ℕ} {b : List ℕ} {n r : ℕ} {last : List ℕ} → 8 ≤ length room → 5 ≤ length five → m ≡ area_in five
      → a ≡ area_said m → x ≡ area_bits m → b ≡ little_endian 8 x → n ≡ returned a → LeavesRoom (telling n b room) r last → LeavesRoom (area_into five room) r last
  unfolding area_into area_answer
  area_told {m} {a} {x} {b} h l e f g k q w =
      let size : length b ≡ 8 = ap length k in
      rw (le-ltb _ _ h, le-ltb _ _ l, ← e, ← f, ← g) (as_writes a (little_endian 8 x) room k (omega (arith, size, h)) q w)

-- ---- two instructions

module _ (one other : List ℕ) where
  -- the first has too few bytes
  pub pair_few : {x : ℕ} → length one < 5 → x ≡ returned TooFewBytes → x ≡ returned (pair_answer one other)
  unfolding pair_answer
  pair_few h w = rw (lt-ltb _ _ h) w

  -- the second has
  pub pair_few_2 : {x : ℕ} → 5 ≤ length one → length other < 5 → x ≡ returned TooFewBytes → x ≡ returned (pair_answer one other)
  unfolding pair_answer
  pair_few_2 h k w = rw (le-ltb _ _ h, lt-ltb _ _ k) w

  -- else by what they say
  pub pair_read : {first second : (Option Instruction)} {x : ℕ} → 5 ≤ length one → 5 ≤ length other → first ≡ read_bytes one → second ≡ read_bytes other
      → x ≡ returned (on_code (λ i. on_code (λ j. sharing_said (sharing_of i j)) (BadField 1) second) (BadField 0) first)
      → x ≡ returned (pair_answer one other)
  unfolding pair_answer
  pair_read h k e f w = rw (le-ltb _ _ h, le-ltb _ _ k, ← e, ← f) w
