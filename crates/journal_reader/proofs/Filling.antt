-- What reads leave in a buffer: the bytes that were held stay. Assumes nothing.
use Rattle.std.proofs.Common.{◌≡◌, ℕ, zero, suc, ◌+◌, ◌-◌, ◌<◌, ◌≤◌, Bool, true, false, cond, ltb, List, [], ◌∷◌, ◌++◌, length, take, drop, sym, refl, ap, ◌∙◌, subst, arith, take-take, ltb-false}
use Rattle.bits.proofs.Cases.{split}
use lib.Seq.{take-append-le, slice, length-slice}
use Rattle.std.specs.declared.option.Option.TheVariants.{Some, None}
use Rattle.std.specs.declared.result.Result.TheVariants.{Ok, Err}
use Rattle.streams.specs.declared.Unread.TheVariants.{Failed, Full}
use Rattle.streams.specs.Input.{Input, FrontKept, Fills}
use Rattle.service.specs.Turns.{Holds, holding_front}
use Rattle.journal_reader.specs.Reading.{part}

-- whatever a read says, the bytes that were held stay
pub any_kept : (before after : List ℕ) (have : ℕ) (r : Input) → Fills before have r after → FrontKept before have after
any_kept before after have (Ok (Some end)) f = f.2
any_kept before after have (Ok None) f = f.1
any_kept before after have (Err Failed) f = f.1
any_kept before after have (Err Full) f = ap (take have) f.1

pub of_bytes : (before after : List ℕ) (have : ℕ) (r : Input) {end : ℕ} → Fills before have r after → r ≡ Ok (Some end)
    → (have ≤ end) × (end ≤ length before) × FrontKept before have after
of_bytes before after have r {end} f e =
    let g : Fills before have (Ok (Some end)) after = subst (λ (x : Input). Fills before have x after) e f in
    (omega (arith, g.0), g.1, g.2)

-- one read behind others
pub kept_on : (before now after : List ℕ) {have end : ℕ} → have ≤ end → FrontKept before have now → FrontKept now end after → FrontKept before have after
kept_on before now after {have} {end} h a b =
    sym (take-take have end after h) ∙ ap (take have) b ∙ take-take have end now h ∙ a

-- ---- bytes that are held at the front

pub cut_inside : (k n e : ℕ) (l : List ℕ) → k + n ≤ e → take n (drop k (take e l)) ≡ take n (drop k l)
cut_inside zero n e l h = take-take n e l (omega (arith, h))
cut_inside (suc k) n zero l h = absurd (omega (arith, h))
cut_inside (suc k) n (suc e) [] h = refl
cut_inside (suc k) n (suc e) (x ∷ l) h = cut_inside k n e l (omega (arith, h))

module _ (before held after : List ℕ) (from at end have : ℕ) (fa : from ≤ at) (ae : at ≤ end) (el : end ≤ length before)
    (holds : Holds (holding_front from end before) have held) where
  pub held_long : have ≡ end - from
  unfolding holding_front
  held_long = holds.0 ∙ length-slice from end before el

  -- what was taken last still stands there
  pub held_last : FrontKept held have after → part 0 (at - from) after ≡ part from at before
  unfolding holding_front
  held_last kept =
      let n = at - from in
      let s = slice from end before in
      let e = held_long in
      let long = length-slice from end before el in
      ap (λ (k : ℕ). take k after) (let z : n - 0 ≡ n = omega arith in z)
      ∙ sym (take-take n have after (omega (arith, e, fa, ae)))
      ∙ ap (take n) (kept ∙ ap (take have) holds.1)
      ∙ take-take n have (s ++ drop (length s) before) (omega (arith, e, fa, ae))
      ∙ take-append-le n s (drop (length s) before) (omega (arith, long, fa, ae))
      ∙ cut_inside from n end before (omega (arith, fa, ae))

-- ---- the head

pub head_fits : (end size : ℕ) → size ≡ cond (ltb end 128) end 128 → size ≤ end
head_fits end size e = split (ltb end 128) (λ t. below t) (λ t. above t)
  where
    below : ltb end 128 ≡ true → size ≤ end
    below t = let z : size ≡ end = e ∙ ap (λ (b : Bool). cond b end 128) t in omega (arith, z)

    above : ltb end 128 ≡ false → size ≤ end
    above t = let z : size ≡ 128 = e ∙ ap (λ (b : Bool). cond b end 128) t in let h = ltb-false end 128 t in omega (arith, z, h)
