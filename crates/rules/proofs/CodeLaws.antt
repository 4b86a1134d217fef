-- The five bytes and the instructions answer to each other: a well-formed instruction is read back from its bytes, and what is read
-- has one form only. The same of the events' bytes. Assumes nothing.
use mathlib.Core.Path.{◌≡◌, refl, sym, ap, ◌∙◌}
use mathlib.Core.Bool.{Bool, true, cond, ◌&&◌}
use Prim.Native.Nat.{ℕ}
use native.Mathlib.Omega.{arith}
use lib.Dec.{eqb}
use borrow.Author.Tests.{eqb-true}
use Rattle.bits.proofs.Cases.{split, both}
use Rattle.rules.specs.declared.Instruction.{Instruction}
use Rattle.rules.specs.declared.Instruction.TheVariants.{Belts, Shuttles, Tilt, Lift, Rotate}
use Rattle.rules.specs.declared.Code.{Code}
use Rattle.std.specs.declared.option.Option.TheVariants.{Some, None}
use Rattle.rules.specs.declared.Event.{Event}
use Rattle.rules.specs.declared.Event.TheVariants.{BeginIn, BeginOut, EndDone, EndNotDone}
use Rattle.std.specs.declared.option.Option.{Option}
use Rattle.rules.specs.Rules.{well_formed}
use Rattle.rules.specs.Codes.{code_of, well_formed_only, read_code, event_code, read_event}

pub reads_back : (i : Instruction) → well_formed i ≡ true → read_code (code_of i) ≡ Some i
unfolding read_code code_of
reads_back (Belts row mask toward size) w = ap (λ (b : Bool). cond b (Some (Belts row mask toward size)) None) w
reads_back (Shuttles side mask orientation toward) w = ap (λ (b : Bool). cond b (Some (Shuttles side mask orientation toward)) None) w
reads_back (Tilt side row orientation) w = ap (λ (b : Bool). cond b (Some (Tilt side row orientation)) None) w
reads_back (Lift height) w = ap (λ (b : Bool). cond b (Some (Lift height)) None) w
reads_back Rotate w = refl

-- ---- what is read has one form

-- five bytes, byte by byte
bytes : (x : Code) (op a b c d : ℕ) → x.op ≡ op → x.a ≡ a → x.b ≡ b → x.c ≡ c → x.d ≡ d
    → x ≡ record { op = op; a = a; b = b; c = c; d = d }
bytes x op a b c d p q r s t = λ i. record { op = p i; a = q i; b = r i; c = s i; d = t i }

zero : (k : ℕ) → eqb k 0 ≡ true → k ≡ 0
zero k e = eqb-true k 0 e

module _ (x : Code) (i : Instruction) where
  -- x is the one form of i
  abbrev Form : Type 0
  Form = (x ≡ code_of i) × (well_formed i ≡ true)

  bad : None ≡ Some i → Form
  bad e = absurd (let z : ◌≡◌ {A = ℕ} 0 1 = cc in omega arith)

  good : (j : Instruction) → x ≡ code_of j → well_formed_only j ≡ Some i → Form
  good j p e = split (well_formed j)
      (λ w. let h : Some j ≡ Some i = sym (ap (λ (b : Bool). cond b (Some j) None) w) ∙ e in
      let s : j ≡ i = cc in
      (p ∙ ap code_of s, ap well_formed (sym s) ∙ w))
      (λ w. bad (sym (ap (λ (b : Bool). cond b (Some j) None) w) ∙ e))

  pub one_form_lem : read_code x ≡ Some i → (x ≡ code_of i) × (well_formed i ≡ true)
  unfolding read_code code_of
  one_form_lem e = split (eqb x.op 1)
      (λ o. good (Belts x.a x.b x.c x.d) (bytes x 1 x.a x.b x.c x.d (eqb-true x.op 1 o) refl refl refl refl) (rw o at e))
      (λ n1. split (eqb x.op 2)
      (λ o. good (Shuttles x.a x.b x.c x.d) (bytes x 2 x.a x.b x.c x.d (eqb-true x.op 2 o) refl refl refl refl) (rw (n1, o) at e))
      (λ n2. split (eqb x.op 3)
      (λ o. split (eqb x.d 0)
      (λ z. good (Tilt x.a x.b x.c) (bytes x 3 x.a x.b x.c 0 (eqb-true x.op 3 o) refl refl refl (zero x.d z)) (rw (n1, n2, o, z) at e))
      (λ z. bad (rw (n1, n2, o, z) at e)))
      (λ n3. split (eqb x.op 4)
      (λ o. split (eqb x.b 0 && eqb x.c 0 && eqb x.d 0)
      (λ z. let (bc, d) = both (eqb x.b 0 && eqb x.c 0) (eqb x.d 0) z in let (b, c) = both (eqb x.b 0) (eqb x.c 0) bc in
      good (Lift x.a) (bytes x 4 x.a 0 0 0 (eqb-true x.op 4 o) refl (zero x.b b) (zero x.c c) (zero x.d d)) (rw (n1, n2, n3, o, z) at e))
      (λ z. bad (rw (n1, n2, n3, o, z) at e)))
      (λ n4. split (eqb x.op 5)
      (λ o. split (eqb x.a 0 && eqb x.b 0 && eqb x.c 0 && eqb x.d 0)
      (λ z. let (abc, d) = both (eqb x.a 0 && eqb x.b 0 && eqb x.c 0) (eqb x.d 0) z in let (ab, c) = both (eqb x.a 0 && eqb x.b 0) (eqb x.c 0) abc in let (a, b) = both (eqb x.a 0) (eqb x.b 0) ab in
      good Rotate (bytes x 5 0 0 0 0 (eqb-true x.op 5 o) (zero x.a a) (zero x.b b) (zero x.c c) (zero x.d d)) (rw (n1, n2, n3, n4, o, z) at e))
      (λ z. bad (rw (n1, n2, n3, n4, o, z) at e)))
      (λ n5. bad (rw (n1, n2, n3, n4, n5) at e))))))

-- ---- events

pub event_reads_back : (e : Event) → read_event (event_code e) ≡ Option.Some e
unfolding read_event
event_reads_back BeginIn = refl
event_reads_back BeginOut = refl
event_reads_back EndDone = refl
event_reads_back EndNotDone = refl

pub event_one_form : (b : ℕ) (e : Event) → read_event b ≡ Option.Some e → b ≡ event_code e
unfolding read_event
event_one_form b e r = split (eqb b 1)
    (λ o. told 1 BeginIn o (rw o at r) refl)
    (λ n. split (eqb b 2)
    (λ o. told 2 BeginOut o (rw (n, o) at r) refl)
    (λ m. split (eqb b 3)
    (λ o. told 3 EndDone o (rw (n, m, o) at r) refl)
    (λ l. split (eqb b 4)
    (λ o. told 4 EndNotDone o (rw (n, m, l, o) at r) refl)
    (λ k. let h : Option.None ≡ Option.Some e = rw (n, m, l, k) at r in absurd (let z : ◌≡◌ {A = ℕ} 0 1 = cc in omega arith)))))
  where
    told : (c : ℕ) (d : Event) → eqb b c ≡ true → Option.Some d ≡ Option.Some e → event_code d ≡ c → b ≡ event_code e
    told c d o h p = let s : d ≡ e = cc in eqb-true b c o ∙ sym p ∙ ap event_code s
