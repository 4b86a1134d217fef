-- What the private functions leave: text added to a text. Assumes nothing.
use Rattle.std.specs.Prelude.{◌≡◌, cond, List, [], ◌++◌, ℕ, ◌+◌, length, take, drop}
use Rattle.totals.specs.Totals.{name_at}
use Rattle.report_text.specs.declared.Text.{Text}
use Rattle.report_text.specs.Lines.{line_of, printed, text_of}

-- no text yet
abbrev pub no_text : Text
no_text = text_of []

-- d with s in it from place at on
unfoldable pub laid_text : List ℕ → ℕ → List ℕ → List ℕ
laid_text d at s = take at d ++ s ++ drop (at + length s) d

-- what a function leaves that adds s at the end of a text
pub record AddsText (t : Text) (s : List ℕ) (u : Text) : Type 0 where
  pub holds : u.bytes ≡ laid_text t.bytes t.size s
  pub next : u.size ≡ t.size + length s
  pub same : length u.bytes ≡ length t.bytes

-- the line of the total at a place, if it is printed
unfoldable pub line_if : ℕ → ℕ → List ℕ
line_if p v = cond (printed (name_at p)) (line_of (name_at p) v) []
