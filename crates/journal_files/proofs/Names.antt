-- What a caller learns of a head that was looked at. Assumes nothing.
use Rattle.std.proofs.Common.{◌≡◌, Bool, true, false, cond, refl}
use Rattle.bits.proofs.Cases.{clash}
use Rattle.journal_file.specs.declared.Kind.{Kind}
use Rattle.journal_file.specs.declared.Kind.TheVariants.{NoJournal, OtherFormat, Damaged, Unfit, Good}
use Rattle.journal_files.specs.Places.{is_good_head}

none : (empty : Bool) → cond empty false false ≡ false
none true = refl
none false = refl

-- a head that can be gone on from is a good one
pub good_is : (kind : Kind) (empty : Bool) → is_good_head kind empty ≡ true → kind ≡ Good
good_is NoJournal empty e = clash e (none empty)
good_is OtherFormat empty e = clash e (none empty)
good_is Damaged empty e = clash e (none empty)
good_is Unfit empty e = clash e (none empty)
good_is Good empty e = refl
