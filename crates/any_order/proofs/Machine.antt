-- The station over any rules: a record, at most one outstanding set, what is set apart, and the calls of document 01 on
-- them: a request, a result, a car event, an image. (To ask for the image changes nothing, and is no call here.) Each call
-- is a test, whether the station takes it, and what the station then becomes; a refused call hands the station back
-- unchanged. Of the numbers that a refusal answers only those of events are told here (`says`). Assumes nothing.
use Prim.Native.Nat.{ℕ}
use mathlib.Core.Bool.{Bool, true, false, not, cond, ◌&&◌, ◌||◌}
use mathlib.Core.List.{List, [], ◌∷◌}
use lib.Dec.{ltb, leb, eqb}
use Rattle.bits.specs.Search.{some, every}
use Rattle.any_order.proofs.Rules.{Rules}

-- a set of instructions, by their numbers from 0: `at j` for each j below `size`
pub record Batch (I : Type 0) : Type 0 where
  pub size : ℕ
  pub at : ℕ → I

-- a station: its record, the set that it holds, the marks "answered", and the places that are set apart
pub record Station (W I : Type 0) : Type 0 where
  pub bits : W
  pub set : Batch I
  pub answered : ℕ → Bool
  pub away : ℕ → Bool

-- what is reported of an instruction: a failure, a success, or that it is stuck
pub data Outcome : Type 0 where
  failed : Outcome
  finished : Outcome
  stuck : Outcome

-- whether it changes the record: only a success does
abbrev pub moves : Outcome → Bool
moves failed = false
moves finished = true
moves stuck = false

-- whether it sets the instruction's area apart: only stuck does
abbrev pub sticks : Outcome → Bool
sticks failed = false
sticks finished = false
sticks stuck = true

-- what may come while a set is outstanding: a result, by the instruction's number, or a car event
pub data Act (E : Type 0) : Type 0 where
  result : ℕ → Outcome → Act E
  event : E → Act E

-- a call: a request with its set, a result or an event, an image
pub data Call (W I E : Type 0) : Type 0 where
  request : Batch I → Call W I E
  act : Act E → Call W I E
  image : W → Call W I E

-- the largest set size
abbrev pub most : ℕ
most = 8

-- nothing is set apart
abbrev pub nowhere : ℕ → Bool
nowhere k = false

-- a station that has just accepted a set: no instruction of it has a result
abbrev pub opened : {W I : Type 0} → Batch I → W → (ℕ → Bool) → Station W I
opened b f away = record { bits = f; set = b; answered = λ j. false; away = away }

-- the marks with instruction i marked too
abbrev pub mark : ℕ → (ℕ → Bool) → ℕ → Bool
mark i answered j = eqb i j || answered j

-- a set is outstanding until each instruction has a result
abbrev pub outstanding : {W I : Type 0} → Station W I → Bool
outstanding s = some s.set.size (λ j. not (s.answered j))

module _ {W C I E : Type 0} (R : Rules W C I E) where
  -- two areas share anything
  abbrev pub meets : (ℕ → Bool) → (ℕ → Bool) → Bool
  meets a b = some R.width (λ k. a k && b k)

  -- no two instructions of a set overlap
  abbrev pub apart : Batch I → Bool
  apart b = every b.size (λ i. every i (λ j. not (meets (R.area (b.at i)) (R.area (b.at j)))))

  -- no instruction of a set touches a part set apart
  abbrev pub free : Batch I → (ℕ → Bool) → Bool
  free b away = every b.size (λ j. not (meets (R.area (b.at j)) away))

  -- a set has 1 to 8 instructions, none touches a part set apart, no two overlap and each is allowed on the present record
  abbrev pub accepted : Batch I → W → (ℕ → Bool) → Bool
  accepted b f away = leb 1 b.size && (leb b.size most && (free b away && (apart b && every b.size (λ j. R.allowed (b.at j) f))))

  -- a set has the lift in any of its areas
  abbrev pub blocks : Batch I → Bool
  blocks b = some b.size (λ j. meets (R.area (b.at j)) R.lift)

  -- no instruction, and a station that holds none and no mark
  abbrev pub empty : Batch I
  empty = record { size = 0; at = λ j. R.blank }

  abbrev pub idle : W → (ℕ → Bool) → Station W I
  idle f away = opened empty f away

  -- what is set apart after a result: of a stuck instruction everything in its area too
  abbrev pub parted : I → Outcome → (ℕ → Bool) → ℕ → Bool
  parted i o away k = (sticks o && R.area i k) || away k

  -- success applies its rule to the record at that moment; failure changes nothing but the mark "answered", stuck that and what is set apart
  abbrev pub noted : Station W I → ℕ → Outcome → Station W I
  noted s j o = record {
    bits = cond (moves o) (R.next (s.set.at j) s.bits) s.bits;
    set = s.set;
    answered = mark j s.answered;
    away = parted (s.set.at j) o s.away;
  }

  -- with the last result the station holds no instruction and no mark
  abbrev pub released : Station W I → Station W I
  released s = cond (outstanding s) s (idle s.bits s.away)

  -- an outstanding set has the lift in any of its areas, answered or not; a part of the lift is set apart
  abbrev pub blocked : Station W I → Bool
  blocked s = outstanding s && blocks s.set

  abbrev pub lost : (ℕ → Bool) → Bool
  lost away = meets R.lift away

  -- a result is taken of an instruction of the set that has none; an event where it is possible, unless an outstanding set has the lift in any of its areas or a part of it is set apart
  abbrev pub taken : Station W I → Act E → Bool
  taken s (result j o) = ltb j s.set.size && not (s.answered j)
  taken s (event e) = not (blocked s) && (not (lost s.away) && R.possible e s.bits)

  -- the number that an event is answered with
  abbrev pub says : Station W I → E → ℕ
  says s e = cond (blocked s) (R.held e) (R.reply e (lost s.away) s.bits)

  -- the station after a result or an event that is taken
  abbrev pub done : Station W I → Act E → Station W I
  done s (result j o) = released (noted s j o)
  done s (event e) = record { bits = R.after e s.bits; set = s.set; answered = s.answered; away = s.away }

  -- the station after a result or an event: unchanged where it is refused
  abbrev pub step : Station W I → Act E → Station W I
  step s a = cond (taken s a) (done s a) s

  -- the station after several
  abbrev pub run : Station W I → List (Act E) → Station W I
  run s [] = s
  run s (a ∷ l) = run (step s a) l

  -- a request is taken where no set is outstanding and the set is accepted, an image where no set is outstanding and it is sound
  abbrev pub takes : Station W I → Call W I E → Bool
  takes s (request b) = not (outstanding s) && accepted b s.bits s.away
  takes s (act a) = taken s a
  takes s (image f) = not (outstanding s) && R.sound f

  -- the station after a call that is taken: an image becomes the record, and nothing is set apart
  abbrev pub does : Station W I → Call W I E → Station W I
  does s (request b) = opened b s.bits s.away
  does s (act a) = done s a
  does s (image f) = record { bits = f; set = s.set; answered = s.answered; away = nowhere }

  -- the station after a call: unchanged where it is refused
  abbrev pub call : Station W I → Call W I E → Station W I
  call s c = cond (takes s c) (does s c) s

  -- the station after several
  abbrev pub calls : Station W I → List (Call W I E) → Station W I
  calls s [] = s
  calls s (c ∷ l) = calls (call s c) l
