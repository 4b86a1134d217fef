-- What a read leaves in a buffer past the bytes that it holds. Assumes nothing.
use Rattle.std.specs.Prelude.{◌≡◌, List, ℕ, ◌≤◌, ◌<◌, length, take}
use Rattle.std.specs.declared.option.Option.{Option}
use Rattle.std.specs.declared.option.Option.TheVariants.{Some, None}
use Rattle.std.specs.declared.result.Result.{Result}
use Rattle.std.specs.declared.result.Result.TheVariants.{Ok, Err}
use Rattle.streams.specs.declared.Unread.{Unread}
use Rattle.streams.specs.declared.Unread.TheVariants.{Failed, Full}

-- what a read says: how many bytes there are, none where the input has ended, or why it was no good
abbrev pub Input : Type 0
Input = Result (Option ℕ) Unread

-- a buffer whose first bytes are as they were
abbrev pub FrontKept : List ℕ → ℕ → List ℕ → Type 0
FrontKept before have after = take have after ≡ take have before

-- what a read of a buffer that holds some bytes may say, and that these stay: it brings a byte at least, and there is no room exactly if the bytes held fill the buffer
abbrev pub Fills : List ℕ → ℕ → Input → List ℕ → Type 0
Fills before have (Ok (Some end)) after = (have < end) × (end ≤ length before) × FrontKept before have after
Fills before have (Ok None) after = (have < length before) × FrontKept before have after
Fills before have (Err Failed) after = (have < length before) × FrontKept before have after
Fills before have (Err Full) after = (length before ≤ have) × (after ≡ before)
