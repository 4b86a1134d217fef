-- Places in a file, and heads that can be gone on from. Assumes nothing.
use Rattle.std.specs.Prelude.{ℕ, Bool, true, false, cond, ℤ, pos, negsuc, nat_lt}
use Rattle.journal_file.specs.declared.Kind.{Kind}
use Rattle.journal_file.specs.declared.Kind.TheVariants.{NoJournal, OtherFormat, Damaged, Unfit, Good}

-- the place behind so many bytes of a file; there is none past 2^63
abbrev pub file_offset : ℕ → ℤ
file_offset n = cond (nat_lt n 9223372036854775808) (pos n) (negsuc 0)

-- a head is good only if it is of that kind
abbrev pub is_good_kind : Kind → Bool
is_good_kind NoJournal = false
is_good_kind OtherFormat = false
is_good_kind Damaged = false
is_good_kind Unfit = false
is_good_kind Good = true

-- and there is none in an empty file
abbrev pub is_good_head : Kind → Bool → Bool
is_good_head kind empty = cond empty false (is_good_kind kind)
