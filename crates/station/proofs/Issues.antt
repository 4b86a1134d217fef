-- How far an issue is behind the present one: none exactly if it is that one; else it is late up to 32767, and was not issued from there on.
-- Assumes nothing.
use Rattle.std.proofs.Common.{◌≡◌, ◌<◌, ◌≤◌, arith, eq-eqb, ne_eqb, le-leb}
use borrow.Author.Tests.{lt-leb}
use Rattle.bits.proofs.Cases.{and_intro}
use Rattle.answers.specs.declared.Answer.TheVariants.{Late, NotIssued}
use Rattle.station.specs.declared.Station.{Station}
use Rattle.station.specs.declared.Report.{Report}
use Rattle.station.specs.Station.{present_issue, behind}
use Rattle.station.specs.Calls.{refused, numbered, timely}

module _ (s : Station) (r : Report) (small : r.issue < 65536) where
  pub is_present : behind s r.issue ≡ 0 → numbered s r.number r.ending ≡ timely s r
  unfolding timely
  is_present e =
      let same : r.issue ≡ present_issue s = omega arith in
      rw (e, eq-eqb r.issue (present_issue s) same)

  pub is_late : 1 ≤ behind s r.issue → behind s r.issue ≤ 32767 → refused s Late ≡ timely s r
  unfolding timely
  is_late low high = rw (and_intro (le-leb 1 (behind s r.issue) low) (le-leb (behind s r.issue) 32767 high))

  pub not_issued : 32767 < behind s r.issue → refused s NotIssued ≡ timely s r
  unfolding timely
  not_issued h =
      let other : r.issue ≡ present_issue s → ⊥ = λ e. omega arith in
      rw (le-leb 1 (behind s r.issue) (omega arith), lt-leb (behind s r.issue) 32767 h, ne_eqb r.issue (present_issue s) other)
