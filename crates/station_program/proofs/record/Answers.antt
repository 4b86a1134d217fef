-- `station_program::record` meets its contract: what is appended is what the run took. Assumes nothing.
use Rattle.std.proofs.Common.{◌≡◌, ℕ, ◌≤◌, List, length, take, length-take, length-take-le, inr, refl, sym, ◌∙◌, arith}
use Rattle.journal_file.specs.Cards.{no_numbers}
use Rattle.journal_keeper.specs.declared.Journal.{Journal}
use Rattle.journal_keeper.specs.Keeping.{JournalMakes}
use Rattle.journal_keeper.proofs.Adding.{if_ok, of_ok}
use Rattle.bits.proofs.Cases.{clash}
use Rattle.station_program.proofs.record.Goals as goal

few : (buf : List ℕ) (used : ℕ) → length buf ≤ 65536 → length (take used buf) ≤ 65536
few buf used h = let l = length-take used buf in omega (arith, l, h)

pub slice_bounds-append-end : goal.slice_bounds-append-end
slice_bounds-append-end c = sym (length-take-le _ _ (omega (arith, c.requires.0, c.requires.1)))

pub returns-then-stop : goal.returns-then-stop
returns-then-stop c =
    let a = of_ok (λ (k : Journal). (k.station ≡ c.args.next) × JournalMakes no_numbers k) c.in_ok-kept.was (c.append.ensures no_numbers c.requires.3 c.requires.4 c.requires.5 (few c.args.buf.now c.args.used c.requires.2)) in
    if_ok c.note.result (c.note.ensures no_numbers c.requires.3 a.1 (inr refl)) (λ k n. (n.0 ∙ a.0, (λ u v. n.1 refl v), n.2))

pub returns : goal.returns
returns c =
    let a = of_ok (λ (k : Journal). (k.station ≡ c.args.next) × JournalMakes no_numbers k) c.in_ok-kept.was (c.append.ensures no_numbers c.requires.3 c.requires.4 c.requires.5 (few c.args.buf.now c.args.used c.requires.2)) in
    (a.0, (λ u. clash u c.if-stop.false), a.1)
