-- The numbers as the code holds them, and what it answers about them. Assumes nothing.
use Rattle.std.specs.Prelude.{Bool, cond, not, ◌&&◌, ◌||◌, List, [], ◌∷◌, ℕ, zero, suc, eqb, ltb, get_or}
use Rattle.std.specs.Bool.{beq}
use Rattle.bits.specs.Bits.{bit}
use Rattle.bits.specs.Search.{some, every, least}
use Rattle.floor.specs.Floor.{raised_car, drive_in}
use Rattle.rules.specs.declared.Code.{Code}
use Rattle.rules.specs.declared.Instruction.{Instruction}
use Rattle.rules.specs.declared.Event.{Event}
use Rattle.rules.specs.Rules.{well_formed}
use Rattle.rules.specs.Codes.{read_code}
use Rattle.rules.specs.Verdicts.{on_code}
use Rattle.cards.specs.Cards.{Numbers}
use Rattle.cards.specs.Given.{bears, numbers_given}
use Rattle.cards.specs.Following.{no_source, numbers_after, numbers_driven}

-- n 0, n 1, .., m of them
unfoldable pub listed_numbers : ℕ → Numbers → List ℕ
listed_numbers zero n = []
listed_numbers (suc m) n = n 0 ∷ listed_numbers m (λ j. n (suc j))

-- the place of which an element is the number: the forty cells, then the raised lift, then the one that waits
abbrev pub place_of_element : ℕ → ℕ
place_of_element j = cond (ltb j 40) j (cond (eqb j 40) raised_car drive_in)

-- the numbers as 42 elements, and elements as numbers
unfoldable pub held_numbers : Numbers → List ℕ
held_numbers n = listed_numbers 42 (λ j. n (place_of_element j))

unfoldable pub numbers_in : List ℕ → Numbers
numbers_in a k = cond (ltb k 40) (get_or a k 0) (cond (eqb raised_car k) (get_or a 40 0) (cond (eqb drive_in k) (get_or a 41 0) 0))

-- the numbers after an instruction on the record with the image r; an ill-formed one changes nothing
unfoldable pub cards_after : Instruction → ℕ → List ℕ → List ℕ
cards_after i r a = cond (well_formed i) (held_numbers (numbers_after i (bit r) (numbers_in a))) a

-- the same of five bytes
unfoldable pub code_cards : Code → ℕ → List ℕ → List ℕ
code_cards x r a = on_code (λ i. cards_after i r a) a (read_code x)

-- the numbers after a car event, where c is the number that a begin of a drive-in brings
unfoldable pub cards_driven : Event → ℕ → List ℕ → List ℕ
cards_driven e c a = held_numbers (numbers_driven e c (numbers_in a))

-- the numbers ns given to the cars of the record with the image r
unfoldable pub cards_given : ℕ → List ℕ → List ℕ
cards_given r ns = held_numbers (numbers_given (bit r) ns)

-- the numbers fit the record with the image r: one stands at each place that bears one and nowhere else, and none stands twice
unfoldable pub cards_fit : ℕ → List ℕ → Bool
cards_fit r a =
    every 42 (λ j. beq (not (eqb (get_or a j 0) 0)) (bears (bit r) (place_of_element j)))
    && every 42 (λ j. eqb (get_or a j 0) 0 || not (some j (λ i. eqb (get_or a i 0) (get_or a j 0))))

-- a number is in the garage, or waits
unfoldable pub is_known : List ℕ → ℕ → Bool
is_known a c = some 42 (λ j. eqb (get_or a j 0) c)

-- the first element but the one that waits that is a number, 41 if none is; and its place, nowhere if there is none: 0 is no card's number
abbrev pub element_of : List ℕ → ℕ → ℕ
element_of a c = least 41 (λ j. eqb (get_or a j 0) c)

unfoldable pub where_is : List ℕ → ℕ → ℕ
where_is a c = cond (eqb c 0) no_source (cond (ltb (element_of a c) 41) (place_of_element (element_of a c)) no_source)
