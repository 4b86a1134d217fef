-- What "in any order" says. Of a set it is settled what will be reported of each instruction, and which car events come
-- and in which order; the results may come in any order, mixed with the events in any way, a result last. (With the last
-- result the set is gone: an event after it is a call of its own.) Two such lists come to the same, and the record at
-- the end is told by the successes and the events alone, what is set apart by the stuck. Assumes nothing.
use Prim.Native.Nat.{ℕ, ◌+◌, ◌<◌, ◌≤◌}
use mathlib.Core.Path.{◌≡◌}
use mathlib.Core.List.{List, [], ◌∷◌, ◌++◌}
use mathlib.Core.Bool.{Bool, true, false, not, cond, ◌&&◌, ◌||◌}
use lib.Dec.{eqb}
use Rattle.bits.specs.Search.{some}
use Rattle.any_order.proofs.Rules.{Rules, Agree, Same}
use Rattle.any_order.proofs.Machine.{Batch, Station, Outcome, moves, sticks, Act, result, event, blocks, idle, lost, taken, says, step, run}

module _ {E : Type 0} where
  -- how many results of instruction j a list has
  abbrev pub results_of : ℕ → List (Act E) → ℕ
  results_of j [] = 0
  results_of j (result i o ∷ l) = cond (eqb i j) 1 0 + results_of j l
  results_of j (event e ∷ l) = results_of j l

  -- the events of a list, in their order
  abbrev pub events_of : List (Act E) → List E
  events_of [] = []
  events_of (result i o ∷ l) = events_of l
  events_of (event e ∷ l) = e ∷ events_of l

  -- each result reports what is settled for its instruction
  abbrev pub AsChosen : (ℕ → Outcome) → List (Act E) → Type 0
  AsChosen choice [] = Unit {0}
  AsChosen choice (result i o ∷ l) = (o ≡ choice i) × AsChosen choice l
  AsChosen choice (event e ∷ l) = AsChosen choice l

-- an order of the results of n instructions mixed with the events es: one result of each, as settled, no other, and a result last
pub record Order {E : Type 0} (n : ℕ) (choice : ℕ → Outcome) (es : List E) (l : List (Act E)) : Type 0 where
  pub once : (j : ℕ) → j < n → results_of j l ≡ 1
  pub only : (j : ℕ) → n ≤ j → results_of j l ≡ 0
  pub chosen : AsChosen choice l
  pub events : events_of l ≡ es
  pub last : (front : List (Act E)) × (j : ℕ) × (o : Outcome) × (l ≡ front ++ (result j o ∷ []))

module _ {W C I E : Type 0} (R : Rules W C I E) where
  -- each result is taken, and each success is of an instruction allowed on the record at that moment
  abbrev pub Fair : Station W I → List (Act E) → Type 0
  Fair s [] = Unit {0}
  Fair s (result j o ∷ l) =
      (taken R s (result j o) ≡ true)
      × (moves o ≡ true → R.allowed (s.set.at j) s.bits ≡ true)
      × Fair (step R s (result j o)) l
  Fair s (event e ∷ l) = Fair (step R s (event e)) l

  -- the numbers that the events are answered with, in their order
  abbrev pub replies : Station W I → List (Act E) → List ℕ
  replies s [] = []
  replies s (result j o ∷ l) = replies (step R s (result j o)) l
  replies s (event e ∷ l) = says R s e ∷ replies (step R s (event e)) l

  -- the record after an event alone, while a set is outstanding of which nothing is done, and this is set apart
  abbrev pub event_alone : Batch I → (ℕ → Bool) → W → E → W
  event_alone b away f e = cond (not (blocks R b) && (not (lost R away) && R.possible e f)) (R.after e f) f

  -- the record after several
  abbrev pub events_alone : Batch I → (ℕ → Bool) → W → List E → W
  events_alone b away f [] = f
  events_alone b away f (e ∷ es) = events_alone b away (event_alone b away f e) es

  -- what is set apart once these of the set are answered, where `away` was at acceptance: that, and the areas of the stuck
  abbrev pub away_after : Batch I → (ℕ → Outcome) → (ℕ → Bool) → (ℕ → Bool) → ℕ → Bool
  away_after b choice away answered k = away k || some b.size (λ j. answered j && (sticks (choice j) && R.area (b.at j) k))

  -- the record h at the end, where f was the record at acceptance and g is what the events alone make of f
  pub record AtEnd (b : Batch I) (choice : ℕ → Outcome) (f g h : W) : Type 0 where
    -- in the area of a success h is what that instruction alone makes of f
    pub success : (j : ℕ) → j < b.size → moves (choice j) ≡ true
        → Agree R.width R.look (R.area (b.at j)) h (R.next (b.at j) f)
    -- at every other place h is g: what failed or is stuck has changed nothing
    pub rest : (k : ℕ) → k < R.width
        → ((j : ℕ) → j < b.size → moves (choice j) ≡ true → R.area (b.at j) k ≡ false)
        → R.look h k ≡ R.look g k

  -- two lists come to the same: both are fair and end with a sound record and no set, each event answered alike, with the same record and the same set apart
  pub record Alike (s : Station W I) (l m : List (Act E)) : Type 0 where
    pub fair : Fair s l × Fair s m
    pub closed : (run R s l ≡ idle R (run R s l).bits (run R s l).away) × (run R s m ≡ idle R (run R s m).bits (run R s m).away)
    pub sound : (R.sound (run R s l).bits ≡ true) × (R.sound (run R s m).bits ≡ true)
    pub replies : replies s l ≡ replies s m
    pub bits : Same R.width R.look (run R s l).bits (run R s m).bits
    pub away : (k : ℕ) → (run R s l).away k ≡ (run R s m).away k
