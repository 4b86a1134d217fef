-- The rules of a garage, over any records, instructions and car events, and the laws that make a set safe in any order:
-- each instruction and each event has an area, outside of which it writes nothing; of what is outside it reads nothing
-- but a view, which changes in other areas leave as it is. They are asked of sound records, and of a change where its
-- test passes. In the garage as it is a lift run has a view, whether each side's count is even, and an event a glance,
-- the number of cars; what it reads and writes of the lift it does so on all records (`Local`). Assumes nothing.
use Prim.Native.Nat.{ℕ, ◌<◌}
use mathlib.Core.Path.{◌≡◌}
use mathlib.Core.Bool.{Bool, true, false}

-- the rules: W are the records, C what a record holds at a place, I the instructions, E the car events
pub record Rules (W C I E : Type 0) : Type 0 where
  -- how many places a record has
  pub width : ℕ
  -- what a record holds at a place
  pub look : W → ℕ → C
  -- whether a record is sound
  pub sound : W → Bool
  -- what stands where the station holds no instruction
  pub blank : I
  -- the area of an instruction: the places that it reads or writes, whatever the record
  pub area : I → ℕ → Bool
  -- whether an instruction is allowed on a record
  pub allowed : I → W → Bool
  -- the record after an instruction
  pub next : I → W → W
  -- the lift's places: the area of every car event
  pub lift : ℕ → Bool
  -- whether an event is possible on a record
  pub possible : E → W → Bool
  -- the record after an event
  pub after : E → W → W
  -- the number that an event is answered with while an outstanding set has the lift in any of its areas
  pub held : E → ℕ
  -- and else: by whether a part of the lift is set apart, and the record
  pub reply : E → Bool → W → ℕ

-- two areas share nothing
abbrev pub Clear : ℕ → (ℕ → Bool) → (ℕ → Bool) → Type 0
Clear width a b = (k : ℕ) → k < width → a k ≡ true → b k ≡ false

module _ {W C : Type 0} (width : ℕ) (look : W → ℕ → C) where
  -- two records agree on an area
  abbrev pub Agree : (ℕ → Bool) → W → W → Type 0
  Agree a f g = (k : ℕ) → k < width → a k ≡ true → look f k ≡ look g k

  -- two records hold the same at every place
  abbrev pub Same : W → W → Type 0
  Same f g = (k : ℕ) → k < width → look f k ≡ look g k

  -- a test and a change, of an instruction or an event, that read and write only an area
  pub record Local (a : ℕ → Bool) (tests : W → Bool) (change : W → W) : Type 0 where
    -- on two records that agree on the area, the verdict is the same
    pub reads : (f g : W) → Agree a f g → tests f ≡ tests g
    -- and so is what is written in the area
    pub writes : (f g : W) → Agree a f g → tests f ≡ true → Agree a (change f) (change g)
    -- outside the area nothing changes
    pub keeps : (f : W) → tests f ≡ true → (k : ℕ) → k < width → a k ≡ false → look (change f) k ≡ look f k

  -- the same of sound records, where besides the area a view is read; and what the change makes of one is sound
  pub record Within {O : Type 0} (sound : W → Bool) (view : W → O)
      (a : ℕ → Bool) (tests : W → Bool) (change : W → W) : Type 0 where
    pub reads : (f g : W) → sound f ≡ true → sound g ≡ true → Agree a f g → view f ≡ view g → tests f ≡ tests g
    pub writes : (f g : W) → sound f ≡ true → sound g ≡ true → Agree a f g → view f ≡ view g → tests f ≡ true
        → Agree a (change f) (change g)
    pub keeps : (f : W) → sound f ≡ true → tests f ≡ true → (k : ℕ) → k < width → a k ≡ false → look (change f) k ≡ look f k
    pub safe : (f : W) → sound f ≡ true → tests f ≡ true → sound (change f) ≡ true

-- a change leaves a view as it is
abbrev pub Quiet : {W O : Type 0} → (W → Bool) → (W → O) → (W → Bool) → (W → W) → Type 0
Quiet {W} sound view tests change = (f : W) → sound f ≡ true → tests f ≡ true → view (change f) ≡ view f

-- the frame of the rules: an instruction reads its area and its view, an event the lift and its glance
pub record Framed {W C O P I E : Type 0} (R : Rules W C I E) (view : I → W → O) (glance : E → W → P) : Type 0 where
  -- each instruction keeps within its area, each event within the lift
  pub instruction : (i : I) → Within R.width R.look R.sound (view i) (R.area i) (R.allowed i) (R.next i)
  pub event : (e : E) → Within R.width R.look R.sound (glance e) R.lift (R.possible e) (R.after e)
  -- what an instruction sees, no instruction and no event with another area changes
  pub view_next : (i j : I) → Clear R.width (R.area i) (R.area j) → Quiet R.sound (view i) (R.allowed j) (R.next j)
  pub view_after : (i : I) (e : E) → Clear R.width (R.area i) R.lift → Quiet R.sound (view i) (R.possible e) (R.after e)
  -- what an event sees, no instruction with another area changes, and another event changes alike where it was alike
  pub glance_next : (e : E) (j : I) → Clear R.width (R.area j) R.lift → Quiet R.sound (glance e) (R.allowed j) (R.next j)
  pub glance_after : (e x : E) (f g : W) → R.sound f ≡ true → R.sound g ≡ true → Agree R.width R.look R.lift f g
      → glance e f ≡ glance e g → glance x f ≡ glance x g → R.possible x f ≡ true
      → glance e (R.after x f) ≡ glance e (R.after x g)
  -- what an event is answered reads the lift and the glance
  pub reply : (e : E) (lost : Bool) (f g : W) → R.sound f ≡ true → R.sound g ≡ true → Agree R.width R.look R.lift f g
      → glance e f ≡ glance e g → R.reply e lost f ≡ R.reply e lost g
