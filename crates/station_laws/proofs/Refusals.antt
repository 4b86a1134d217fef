-- A request is refused with a reason exactly where it is orderly: the least instruction not allowed, and its first condition that fails.
-- Assumes nothing.
use mathlib.Core.Path.{◌≡◌, sym, ap, ◌∙◌, subst}
use mathlib.Core.Bool.{true}
use mathlib.Core.List.{List}
use Prim.Native.Nat.{ℕ, ◌≤◌}
use native.Mathlib.Omega.{arith}
use lib.Dec.{eqb, ltb}
use borrow.Author.Tests.{lt-ltb}
use Rattle.bits.specs.Bits.{bit}
use Rattle.bits.specs.Search.{least, IsLeast}
use Rattle.bits.proofs.Least.{least_is}
use Rattle.rules.specs.declared.Refusal.{Refusal}
use Rattle.std.specs.declared.result.Result.TheVariants.{Err}
use Rattle.rules.specs.Codes.{most_in_set}
use Rattle.rules.specs.Verdicts.{Verdict, answer_for}
use Rattle.rules.proofs.CodeLaws.{one_form_lem}
use Rattle.rules.proofs.Reasons.{reason_first}
use Rattle.answers.specs.declared.Reason.{Reason}
use Rattle.answers.specs.declared.Answer.TheVariants.{NotAllowed}
use Rattle.answers.specs.Answers.{reason_number, number_of, place_of}
use Rattle.answers.proofs.Promises.{reason_from, reason_to, reason_same}
use Rattle.station.specs.declared.Station.{Station}
use Rattle.station.specs.declared.Outcome.{Outcome}
use Rattle.station.specs.Held.{code_at, bad, overlaps_earlier, barred, why_not, touches, crosses_drive}
use Rattle.station.specs.Station.{fit}
use Rattle.station.specs.Calls as station
use Rattle.station_laws.specs.AnswersRight.{Orderly, ReasonAt, ReasonExactly}
use Rattle.station_laws.proofs.Reasons.{least_fault, good_refused, told_by}
use Rattle.station_laws.proofs.Calls.{either, orderly_of, orderly_is}

module _ (s : Station) (n : ℕ) (set : List ℕ) (why : Reason) (p : ℕ) where
  -- what is refused so
  record Held : Type 0 where
    orderly : Orderly s n set
    first : IsLeast n (barred set s.bits) p
    reason : ReasonAt set p (bit s.bits) why

  -- an outcome that is told with this reason at this place
  record Told (o : Outcome) : Type 0 where
    then : number_of o.answer ≡ reason_number why → place_of o.answer ≡ p → Held

  -- none with another number is
  other : {o : Outcome} → (number_of o.answer ≡ reason_number why → ⊥) → Told o
  other unlike = record { then = λ e q. absurd (unlike e) }

  beside : {k : ℕ} → ((20 ≤ k) × (k ≤ 28) → ⊥) → k ≡ reason_number why → ⊥
  beside h e = h (subst (λ (m : ℕ). (20 ≤ m) × (m ≤ 28)) (sym e) (reason_from why, reason_to why))

  judged : (O : Orderly s n set) → ltb (least n (barred set s.bits)) n ≡ true → Told (station.refused s (why_not set s.bits (least n (barred set s.bits))))
  judged O t =
      let L = least_fault n (barred set s.bits) t in
      let R = good_refused set s.bits _ L.passes (O.readable.good _ L.within) in
      record {
        then = λ e q.
            let at : least n (barred set s.bits) ≡ p = sym (ap place_of R.told) ∙ q in
            let same : R.why ≡ why = reason_same R.why why (sym (ap number_of R.told) ∙ e) in
            record {
              orderly = O;
              first = subst (IsLeast n (barred set s.bits)) at L;
              reason = subst (λ (k : ℕ). ReasonAt set k (bit s.bits) why) at
                  (R.instruction, R.says, ((reason_first R.instruction s.bits why).0 (R.verdict ∙ ap (λ (why : Reason). Err (Refusal.NotAllowed why)) same)).1);
            };
      }

  request_told : Told (station.request s n set)
  unfolding station.request station.requested station.cleared station.spared station.accepted
  request_told =
      either Told (fit s) (λ a.
      either Told (ltb 0 s.count) (λ t. other (beside (λ h. omega arith))) (λ b.
      either Told (ltb most_in_set n) (λ t. other (beside (λ h. omega arith))) (λ c.
      either Told (eqb n 0) (λ t. other (beside (λ h. omega arith))) (λ d.
      either Told (ltb (least n (bad set)) n) (λ t. other (beside (λ h. omega arith))) (λ f.
      either Told (crosses_drive s.bits set n) (λ t. other (beside (λ h. omega arith))) (λ x.
      either Told (ltb (least n (touches set s.apart)) n) (λ t. other (beside (λ h. omega arith))) (λ y.
      either Told (ltb (least n (overlaps_earlier set)) n) (λ t. other (beside (λ h. omega arith))) (λ g.
      either Told (ltb (least n (barred set s.bits)) n) (judged (orderly_of s n set a b c d f x y g)) (λ h.
      other (beside (λ h. omega arith))))))))))) (λ a. other (beside (λ h. omega arith)))

  -- the other direction: the outcome is the refusal
  told_so : Held → station.request s n set ≡ station.refused s (NotAllowed why p)
  told_so H =
      let L = H.first in
      let (i, e, x) = H.reason in
      let at : least n (barred set s.bits) ≡ p = least_is n p (barred set s.bits) L.within L.none L.passes in
      let told : why_not set s.bits p ≡ NotAllowed why p =
      told_by set s.bits p i e ∙ ap (λ (v : Verdict). answer_for v p) ((reason_first i s.bits why).1 ((one_form_lem (code_at set p) i e).1, x)) in
      orderly_is s n set H.orderly ∙ rw (at, lt-ltb p n L.within, told)

pub reason_exactly : ReasonExactly
reason_exactly s n set why p = (
  λ x. let H = (request_told s n set why p).then x.0 x.1 in (H.orderly, H.first, H.reason),
  λ x. let e = told_so s n set why p record { orderly = x.0; first = x.1; reason = x.2 } in
      (ap (λ (o : Outcome). number_of o.answer) e, ap (λ (o : Outcome). place_of o.answer) e),
)
