-- Bytes put at the front of a room. Assumes nothing.
use Rattle.std.specs.Prelude.{◌≡◌, List, ◌++◌, ℕ, ◌<◌, ◌≤◌, length, take, drop}

-- all of src stands at the front of the room, and past it is what was there; a room that is too short stays as it was
pub record Copied (src before : List ℕ) (n : ℕ) (after : List ℕ) : Type 0 where
  pub all : length src ≤ length before → (n ≡ length src) × (after ≡ take (length src) src ++ drop (length src) before)
  pub none : length before < length src → (n ≡ 0) × (after ≡ before)
