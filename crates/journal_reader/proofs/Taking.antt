-- The append that stands in the buffer, taken: it is whole and alone there, and makes the step that the code says. Assumes nothing.
use Rattle.std.proofs.Common.{◌≡◌, ℕ, ◌+◌, ◌-◌, ◌^◌, ◌<◌, ◌≤◌, Bool, true, false, ◌&&◌, List, length, take, drop, sym, refl, ap, ◌∙◌, subst, arith, length-drop, length-take-le, take-take}
use Rattle.bits.proofs.Cases.{split, clash}
use Rattle.journal.specs.Journal.{counted}
use Rattle.codec.specs.Bytes.{Bytes}
use Rattle.codec.proofs.Numbers.{bytes_take, bytes_drop}
use Rattle.checksum.specs.Checksum.{crc_over}
use Rattle.checksum.specs.Slices.{crc_by}
use Rattle.journal_file.specs.declared.Step.{Step}
use Rattle.journal_file.specs.Replaying.{step_of, stepping}
use Rattle.journal_file.proofs.Alone.{stepping_is, step_alone, alone_long, took_room}
use Rattle.journal_reader.specs.declared.Reading.{Reading}
use Rattle.journal_reader.specs.Reading.{ReadingWithin, BuffersLent, Stays, AppendTakes, Next, rest_in}
use Rattle.journal_reader.specs.Private.{stopped_at, ReadingBrought, Steps}

module _ (t room buf : List ℕ) (q : Reading) (within : ReadingWithin q (length buf)) (s : Step)
    (e : s ≡ (stepping (crc_by t) q.replay (rest_in q buf) room).says) (some : s.took ≡ 0 → ⊥) where
  rest_long : length (rest_in q buf) ≡ q.end - q.at
  rest_long = length-take-le (q.end - q.at) (drop q.at buf) (let l = length-drop q.at buf in omega (arith, l, within.2, within.3))

  pub took_inside : (13 ≤ s.took) × (s.took ≤ q.end - q.at)
  took_inside =
      let took = ap (λ (x : Step). x.took) e in
      let r = took_room (crc_by t) q.replay (rest_in q buf) room (omega (arith, took, some)) in
      let l = rest_long in
      (omega (arith, took, r.0), omega (arith, took, r.1, l))

  -- from here up to there it lies within what the buffer is filled with
  pub took_fits : (q.at + 13 ≤ q.at + s.took) × (q.at + s.took ≤ length buf) × (q.at + s.took ≤ q.end)
  took_fits = let i = took_inside in
      (omega (arith, i.0), omega (arith, i.1, within.2, within.3), omega (arith, i.1, within.2))

  pub took_small : {end : ℕ} → end ≡ q.end → end < 2 ^ 64 → q.at + s.took < 2 ^ 64
  took_small e b = let i = took_fits in omega (arith, e, b, i.2)

  pub takes : q.replay.sum < 2 ^ 32 → Bytes buf → BuffersLent t room
      → let a = take (q.at + s.took - q.at) (drop q.at buf) in
      (0 < length a)
      × ((step_of crc_over q.replay a).took ≡ length a)
      × (s.replay ≡ (step_of crc_over q.replay a).replay)
      × (counted (q.place + s.took) ≡ counted (q.place + length a))
  takes small b lent =
      let m = rest_in q buf in
      let bytes : Bytes m = bytes_take (q.end - q.at) (drop q.at buf) (bytes_drop q.at buf b) in
      let stepped : s ≡ step_of crc_over q.replay m =
      e ∙ ap (λ (u : List ℕ). (stepping (crc_by u) q.replay m room).says) lent.0 ∙ stepping_is q.replay m small bytes room lent.1 in
      let took : s.took ≡ (step_of crc_over q.replay m).took = ap (λ (x : Step). x.took) stepped in
      let positive : 0 < (step_of crc_over q.replay m).took = omega (arith, took, some) in
      let i = took_inside in
      let a-is : take (q.at + s.took - q.at) (drop q.at buf) ≡ take (step_of crc_over q.replay m).took m =
      ap (λ (n : ℕ). take n (drop q.at buf)) (let z : q.at + s.took - q.at ≡ s.took = omega arith in z)
      ∙ sym (take-take s.took (q.end - q.at) (drop q.at buf) i.1) ∙ ap (λ (n : ℕ). take n m) took in
      let alone = step_alone q.replay m small bytes positive in
      let whole = ap (step_of crc_over q.replay) a-is ∙ alone in
      let long : length (take (q.at + s.took - q.at) (drop q.at buf)) ≡ s.took =
      ap length a-is ∙ alone_long q.replay m small bytes positive ∙ sym took in (
        omega (arith, long, i.0),
        ap (λ (x : Step). x.took) whole ∙ sym took ∙ sym long,
        ap (λ (x : Step). x.replay) (stepped ∙ sym whole),
        ap (λ (n : ℕ). counted (q.place + n)) (sym long),
      )

-- ---- a whole step

and_false : (b : Bool) → b && false ≡ false
and_false true = refl
and_false false = refl

-- a reading that can't be gone on with stays
pub stopped_next : (t room before after : List ℕ) (q b r : Reading) → r ≡ stopped_at b false → Stays q before b after → Next t room q before r after
stopped_next t room before after q b r e stays =
    subst (λ (x : Reading). Next t room q before x after) (sym e)
    (λ w. clash w (and_false b.well), λ n. stays, λ w l. clash w refl)

-- what was brought, and then taken or not
pub taken_next : (t room before after : List ℕ) (q b r : Reading) → length after ≡ length before → ReadingBrought q before b after → Steps t room b after r → Next t room q before r after
taken_next t room before after q b r len (within, stays) (none, inside, took) = (
  λ w. split r.took (λ y. in_buffer (inside y)) (λ n. subst (λ (x : Reading). ReadingWithin x (length before)) (sym (none n)) within),
  λ n. subst (λ (x : Reading). Stays q before x after) (sym (none n)) stays,
  λ y l. moved (took y l),
)
  where
    in_buffer : (r.from ≡ b.at) × (b.at ≤ r.at) × (r.at ≤ b.end) × (r.end ≡ b.end) → ReadingWithin r (length before)
    in_buffer i = (within.0, omega (arith, i.0, i.1), omega (arith, i.2, i.3), omega (arith, i.3, within.3))

    moved : AppendTakes b r after → AppendTakes q r after
    moved k = rw (← stays.0, ← stays.1) k
