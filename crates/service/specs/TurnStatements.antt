-- What is promised of a turn. Proved in proofs/. Assumes nothing.
use Rattle.std.specs.Prelude.{◌≡◌, false, cond, List, [], ◌∷◌, ◌++◌, ℕ, ◌+◌, ◌≤◌, ◌<◌, length, take}
use Rattle.station.specs.declared.Station.{Station}
use Rattle.service.specs.Runs.{enough, feed}
use Rattle.service.specs.Turns.{turning}

-- after a turn that doesn't stop, less than a message of the greatest length is held: a longer buffer has room for more
abbrev pub RestIsShort : Type 0
RestIsShort =
    (s : Station) (buf : List ℕ) (end : ℕ) (room : List ℕ)
    → enough (length (take end buf)) ≤ length room
    → (turning s buf end room).says.stop ≡ false
    → (turning s buf end room).says.have < 45

-- a turn is one piece of an input: its answers, and then those to the pieces that follow, are all that these bytes are answered with
abbrev pub TurnFeeds : Type 0
TurnFeeds =
    (s : Station) (held piece past room : List ℕ) (pieces : List (List ℕ))
    → enough (length (held ++ piece)) ≤ length room
    → let t = turning s (held ++ (piece ++ past)) (length held + length piece) room in
    feed s held (piece ∷ pieces) ≡ take t.says.made t.answers ++ cond t.says.stop [] (feed t.says.station (take t.says.have t.buffer) pieces)
