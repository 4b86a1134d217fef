-- What is told at once is what the rules say: belts by areas that are looked up, and runs of the raised lift. Assumes nothing.
use mathlib.Core.Path.{◌≡◌, refl, sym, ap, ◌∙◌}
use mathlib.Core.Bool.{Bool, true, false, not, ◌&&◌, ◌||◌}
use Prim.Native.Nat.{ℕ, zero, suc, ◌+◌, ◌%◌, ◌^◌, ◌<◌, ◌≤◌}
use native.Mathlib.Omega.{arith}
use lib.Bits.{bit_and}
use lib.Dec.{T, eqb, leb}
use borrow.Author.Tests.{eq-eqb, le-leb, eqb-true, eqb-false, leb-true, not-true}
use Rattle.bits.specs.Bits.{bit, image, count}
use Rattle.bits.specs.Places.{places}
use Rattle.bits.specs.Search.{every}
use Rattle.bits.proofs.Cases.{split, both, true→T, T→true}
use Rattle.floor.specs.Tests.{holds, height_is}
use Rattle.answers.specs.declared.Reason.TheVariants.{NotAvailable, NotFree}
use Rattle.rules.specs.declared.Instruction.{Instruction}
use Rattle.rules.specs.declared.Instruction.TheVariants.{Belts, Shuttles, Tilt, Lift, Rotate}
use Rattle.rules.specs.declared.Code.{Code}
use Rattle.std.specs.declared.option.Option.TheVariants.{Some}
use Rattle.std.specs.declared.result.Result.TheVariants.{Ok}
use Rattle.rules.specs.Named.{step}
use Rattle.rules.specs.Rules.{well_formed, belts_named, area, clauses, next_record}
use Rattle.rules.specs.Codes.{read_code}
use Rattle.rules.specs.Verdicts.{judged}
use Rattle.rules.proofs.Every.{everywhere, each}
use Rattle.areas.specs.Private.{area_mask, belts_mask}
use Rattle.areas.proofs.Areas.{area_right}
use Rattle.rows.specs.Private.{judged_row, looks_asked, belts_move, move_row, gaps, first_in}
use Rattle.engine.specs.Judged.{judge, judged_as, code_next}
use Rattle.engine.specs.Private.{runs, code_runs, room_in, fitting, code_lifts}
use Rattle.engine.proofs.Answers.{code_judged, code_next_lem}
use Rattle.engine.proofs.Ruling.{belts_judge, belts_move_lem}
use Rattle.engine.proofs.Lifting.{lift_law}

-- what is said of an instruction that five bytes say
module _ (x : Code) (i : Instruction) (w : well_formed i ≡ true) (s : read_code x ≡ Some i) (a : ℕ) (q : a ≡ image (area i)) (r : ℕ) where
  pub at_once : judged (clauses i) (bit r) ≡ Ok tt → judged_as a (Ok tt) ≡ judge x r
  at_once j = code_judged x i s r a q (Ok tt) (sym j)

-- ---- belts

-- a row passes if what looks at the record finds it so, and it has room
accepted : (a toward n r : ℕ) → fitting a toward n r ≡ true → not (eqb (room_in a toward n) 0) ≡ true
    → judged_row (looks_asked (bit_and a 0x6FFF0000000000) (bit_and a 0x4FFF0000000000) NotAvailable false (first_in a) (room_in a toward n) NotFree) r ≡ Ok tt
accepted a toward n r e k =
    let b = eqb (bit_and r (bit_and a 0x6FFF0000000000)) (bit_and a 0x4FFF0000000000) in
    let c = eqb (bit_and r (room_in a toward n)) 0 in
    let d = eqb (count (places (first_in a)) (bit r) % 2) 0 in
    let (p, f) = both (b && c) d e in
    let (h, g) = both b c p in
    rw (h, k, g, f)

-- belts without a gap have room
has_room : Instruction → Bool
has_room (Belts row mask toward size) = not (not (eqb mask 0) && not (gaps mask)) || not (eqb (room_in (belts_mask row mask) toward (step row size)) 0)
has_room (Shuttles side mask orientation toward) = true
has_room (Tilt side row orientation) = true
has_room (Lift height) = true
has_room Rotate = true

all_room : T (everywhere has_room)
unfolding everywhere every has_room belts_mask
all_room = tt

module _ (x : Code) (a : ℕ) (e : code_runs x a ≡ true) where
  parts : (eqb x.op 1 ≡ true) × (leb x.c 1 ≡ true) × (leb x.d 1 ≡ true) × (belts_named x.a x.b ≡ true) × (not (eqb x.b 0) ≡ true)
      × (not (gaps x.b) ≡ true) × (a ≡ belts_mask x.a x.b)
  parts =
      let (f, g) = both (eqb x.op 1 && leb x.c 1 && leb x.d 1) (runs x.a x.b a) e in
      let (h, d) = both (eqb x.op 1 && leb x.c 1) (leb x.d 1) f in
      let (o, c) = both (eqb x.op 1) (leb x.c 1) h in
      let (k, m) = both (belts_named x.a x.b && not (eqb x.b 0) && not (gaps x.b)) (eqb a (belts_mask x.a x.b)) g in
      let (l, u) = both (belts_named x.a x.b && not (eqb x.b 0)) (not (gaps x.b)) k in
      let (n, z) = both (belts_named x.a x.b) (not (eqb x.b 0)) l in
      (o, c, d, n, z, u, eqb-true a (belts_mask x.a x.b) m)

  well : well_formed (Belts x.a x.b x.c x.d) ≡ true
  well = rw (parts.3, parts.1, parts.2)

  said : read_code x ≡ Some (Belts x.a x.b x.c x.d)
  unfolding read_code
  said = rw (parts.0, well)

  placed : a ≡ image (area (Belts x.a x.b x.c x.d))
  unfolding area_mask
  placed = parts.6 ∙ area_right (Belts x.a x.b x.c x.d) well

  pub toward_small : x.c < 2
  toward_small = omega (arith, leb-true x.c 1 parts.1)

  -- a move of rows 2 and 3 is full
  is_full : not (eqb x.a 1) && eqb x.d 0 ≡ false → eqb x.a 1 || eqb x.d 1 ≡ true
  is_full n = split (eqb x.a 1) (λ t. rw t) (λ t. rw (t, eq-eqb x.d 1 (omega (arith, leb-true x.d 1 parts.2, eqb-false x.d 0 (rw t at n)))))

  roomy : not (eqb (room_in a x.c (step x.a x.d)) 0) ≡ true
  unfolding has_room
  roomy = ap (λ (a : ℕ). not (eqb (room_in a x.c (step x.a x.d)) 0)) parts.6
      ∙ rw (parts.4, parts.5) at (T→true (has_room (Belts x.a x.b x.c x.d)) (each has_room all_room (Belts x.a x.b x.c x.d) (true→T well)))

  pub belts_told : (r : ℕ) {n : ℕ} {ok : Bool} → (eqb x.a 1 || eqb x.d 1) ≡ true → n ≡ step x.a x.d → ok ≡ fitting a x.c n r → ok ≡ true
      → judged_as a (Ok tt) ≡ judge x r
  belts_told r {n} {ok} half f h o =
      let fine = accepted a x.c (step x.a x.d) r (rw f at (sym h ∙ o)) roomy in
      at_once x (Belts x.a x.b x.c x.d) well said a placed r
      (sym (belts_judge (Belts x.a x.b x.c x.d) r a well placed refl) ∙ rw (half, parts.4, parts.5) fine)

  pub belts_pass : (r n : ℕ) (ok : Bool) → not (eqb x.a 1) && eqb x.d 0 ≡ false → n ≡ step x.a x.d → ok ≡ fitting a x.c n r → ok ≡ true
      → record { area = a; good = true; allowed = true } ≡ judge x r
  belts_pass r n ok full = belts_told r (is_full full)

  pub belts_left : (r n : ℕ) → n < 2 ^ 64 → n ≡ move_row (belts_move a x.a x.c x.d) r → n ≡ code_next x r
  belts_left r n small m =
      code_next_lem x (Belts x.a x.b x.c x.d) said r parts.5 n
      (belts_move_lem (Belts x.a x.b x.c x.d) r a well placed parts.5 n small refl m)

-- in row 1 a full move goes by two cells
pub first_step : (size : ℕ) → size ≤ 1 → 1 + size ≡ step 1 size
first_step zero h = refl
first_step (suc zero) h = refl
first_step (suc (suc k)) h = absurd (omega (arith, h))

pub row_told : (x : Code) (r row a : ℕ) {n : ℕ} {ok : Bool} → x.op ≡ 1 → x.c ≤ 1 → x.d ≤ 1 → x.a ≡ row → runs row x.b a ≡ true
    → (eqb row 1 || eqb x.d 1) ≡ true → n ≡ step row x.d → ok ≡ fitting a x.c n r → ok ≡ true → judged_as a (Ok tt) ≡ judge x r
row_told x r row a o c d e q half f h t =
    belts_told x a (rw (eq-eqb x.op 1 o, le-leb x.c 1 c, le-leb x.d 1 d, e) q) r (rw e half) (rw e f) h t

-- ---- the lift

module _ (x : Code) (e : code_lifts x ≡ true) where
  fields : (eqb x.op 4 ≡ true) × (leb x.a 2 ≡ true) × (eqb x.b 0 ≡ true) × (eqb x.c 0 ≡ true) × (eqb x.d 0 ≡ true)
  fields =
      let o = eqb x.op 4 in
      let p = leb x.a 2 in
      let b = eqb x.b 0 in
      let c = eqb x.c 0 in
      let (e₄, d₁) = both (o && p && b && c) (eqb x.d 0) e in
      let (e₃, c₁) = both (o && p && b) c e₄ in
      let (e₂, b₁) = both (o && p) b e₃ in
      let (o₁, p₁) = both o p e₂ in
      (o₁, p₁, b₁, c₁, d₁)

  pub lift_well : well_formed (Lift x.a) ≡ true
  lift_well = fields.1

  lift_said : read_code x ≡ Some (Lift x.a)
  unfolding read_code
  lift_said = rw (eqb-true x.op 4 fields.0, fields.2, fields.3, fields.4, fields.1)

  lift_placed : 0x70000000001800 ≡ image (area (Lift x.a))
  unfolding area_mask
  lift_placed = area_right (Lift x.a) lift_well

  pub lift_left : (r n : ℕ) → n ≡ image (next_record (Lift x.a) (bit r)) → n ≡ code_next x r
  lift_left r n m = code_next_lem x (Lift x.a) lift_said r refl n m

  risen : (r : ℕ) {still below : Bool} → still ≡ holds (height_is x.a) (bit r) → below ≡ holds (height_is 2) (bit r) → not still ≡ true → not below ≡ true
      → judged_as 0x70000000001800 (Ok tt) ≡ judge x r
  risen r {still} {below} f g s l =
      at_once x (Lift x.a) lift_well lift_said 0x70000000001800 lift_placed r
      (sym (lift_law x.a (bit r) false false _ _ (sym (not-true still s) ∙ f) (sym (not-true below l) ∙ g) refl refl))

pub lift_told_lem : (x : Code) (r : ℕ) {runs still below : Bool} → runs ≡ code_lifts x → still ≡ holds (height_is x.a) (bit r) → below ≡ holds (height_is 2) (bit r)
    → runs && not still && not below ≡ true → judged_as 0x70000000001800 (Ok tt) ≡ judge x r
lift_told_lem x r {runs} {still} {below} q f g e =
    let (d, l) = both (runs && not still) (not below) e in
    let (k, s) = both runs (not still) d in
    risen x (sym q ∙ k) r f g s l
