-- The version of what is built here. Assumes nothing.
use Rattle.std.specs.Prelude.{ℕ, ◌+◌, ◌*◌}

-- its three numbers as one: 65536 times the first, 256 times the second, and the third
abbrev pub version : ℕ
version = 65536 * 1 + 256 * 0 + 0
