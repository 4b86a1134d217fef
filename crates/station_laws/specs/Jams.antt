-- What "for every choice of which stuck instructions did in fact finish" says. Assumes nothing.
use Rattle.std.specs.Prelude.{◌≡◌, Bool, false, cond, ◌||◌, List, [], ◌∷◌, ℕ, ◌<◌, eqb, length, get_or}
use Rattle.bits.specs.Bits.{bit, image}
use Rattle.rules.specs.declared.Code.{Code}
use Rattle.station.specs.declared.Station.{Station}
use Rattle.station.specs.Held.{code_at, held_next}
use Rattle.station_laws.specs.Runs.{Call, request, reports, event, pictures, ask, answer_number, station_after, calls}

-- the stuck instructions after a call that is taken: one that is told as stuck joins them, and an image leaves none
abbrev pub jam : Station → Call → List Code → List Code
jam s (request n set) js = js
jam s (reports r) js = cond (eqb r.ending 2) (code_at s.set r.number ∷ js) js
jam s (event e) js = js
jam s (pictures p) js = []
jam s ask js = js

-- after a call, taken or not; after several
abbrev pub jammed : Station → Call → List Code → List Code
jammed s c js = cond (eqb (answer_number s c) 0) (jam s c js) js

abbrev pub jams : Station → List Call → List Code → List Code
jams s [] js = js
jams s (c ∷ l) js = jams (station_after s c) l (jammed s c js)

-- those since the first of some calls, or since the last image that was taken
abbrev pub stuck : Station → List Call → List Code
stuck s l = jams s l []

-- one of them, by its number
abbrev pub jam_at : List Code → ℕ → Code
jam_at js i = get_or js i (record { op = 0; a = 0; b = 0; c = 0; d = 0 })

-- a list has a number
abbrev pub has : List ℕ → ℕ → Bool
has [] j = false
has (i ∷ l) j = eqb i j || has l j

-- a choice of n instructions, in the order in which they finished: their numbers, none twice
abbrev pub Picks : ℕ → List ℕ → Type 0
Picks n [] = Unit {0}
Picks n (i ∷ l) = (i < n) × (has l i ≡ false) × Picks n l

-- the record with those applied, one after the other
abbrev pub applied : List Code → List ℕ → ℕ → ℕ
applied js [] r = r
applied js (i ∷ p) r = applied js p (image (held_next (jam_at js i) (bit r)))

-- the record after some calls, where of the stuck instructions these did in fact finish
abbrev pub finished : Station → List Call → List ℕ → ℕ
finished s l p = applied (stuck s l) p (calls s l).bits

-- these are a choice of the stuck ones
abbrev pub Chosen : Station → List Call → List ℕ → Type 0
Chosen s l p = Picks (length (stuck s l)) p
