-- The question whether two may stand in one set says what a request of the two is told. Assumes nothing.
use mathlib.Core.Path.{◌≡◌, refl, sym, ap, ap₂, ◌∙◌}
use mathlib.Core.Bool.{Bool, true, false, not, cond, or-false}
use mathlib.Core.List.{List, [], ◌++◌}
use Prim.Native.Nat.{ℕ, zero, suc, ◌≤◌}
use native.Mathlib.Omega.{arith}
use borrow.Author.Tests.{le-ltb}
use lib.ListN.{length, take}
use lib.Seq.{take_at, drop_at, get_or-take}
use Rattle.bits.specs.Places.{share}
use Rattle.bits.specs.Search.{some, IsLeast}
use Rattle.bits.proofs.Cases.{clash}
use Rattle.bits.proofs.Sharing.{share_at}
use Rattle.answers.specs.declared.Answer.{Answer}
use Rattle.answers.specs.declared.Answer.TheVariants.{Taken, BadField, Overlap}
use Rattle.rules.specs.declared.Instruction.{Instruction}
use Rattle.rules.specs.declared.Code.{Code}
use Rattle.std.specs.declared.option.Option.{Option}
use Rattle.std.specs.declared.option.Option.TheVariants.{Some, None}
use Rattle.rules.specs.Rules.{well_formed, area_of, overlap}
use Rattle.rules.specs.Codes.{read_code, read_bytes, code_from}
use Rattle.rules.specs.Verdicts.{on_code, sharing_of}
use Rattle.rules.proofs.CodeLaws.{one_form_lem}
use Rattle.station.specs.Held.{code_at, is_good, held_area, bad, overlaps_earlier}
use Rattle.station_laws.specs.Runs.{request, fault_index}
use Rattle.station_laws.proofs.Demands.{accepted_exactly, places_right}
use Rattle.station_c.specs.Sets.{sharing_said, pair_answer}
use Rattle.station_c.proofs.Pairs.{share_either}
use Rattle.entries_laws.specs.Statements.{PairIsRequest}

-- what is answered of two with enough bytes, by what they say
abbrev told : (Option Instruction) → (Option Instruction) → Answer
told g h = on_code (λ i. on_code (λ j. sharing_said (sharing_of i j)) (BadField 1) h) (BadField 0) g

-- of two that are well formed, by whether they share anything
shared : (i j : Instruction) (b : Bool) → well_formed i ≡ true → well_formed j ≡ true → share (area_of j) (area_of i) ≡ b
    → sharing_said (sharing_of i j) ≡ cond b (Overlap 1) Taken
unfolding sharing_of overlap
shared i j true wi wj e = rw (wi, wj, share_either (area_of i) (area_of j), e)
shared i j false wi wj e = rw (wi, wj, share_either (area_of i) (area_of j), e)

-- the least bad one
four : (f : ℕ → Bool) (p : ℕ) (g h : (Option Instruction)) → IsLeast 2 f p → f 0 ≡ not (on_code (λ i. true) false g)
    → f 1 ≡ not (on_code (λ i. true) false h) → told g h ≡ BadField p
four f zero None h l a b = refl
four f zero (Some i) h l a b = clash l.passes a
four f (suc zero) None h l a b = clash a (l.none 0 (omega arith))
four f (suc zero) (Some i) None l a b = refl
four f (suc zero) (Some i) (Some j) l a b = clash l.passes b
four f (suc (suc p)) g h l a b = absurd (omega (arith, l.within))

module _ (x y : Code) where
  -- the least that overlaps an earlier one
  eight : (f : ℕ → Bool) (p : ℕ) (g h : (Option Instruction)) → read_code x ≡ g → read_code y ≡ h → IsLeast 2 f p → f 0 ≡ false
      → f 1 ≡ share (on_code area_of [] h) (on_code area_of [] g) → told g h ≡ Overlap p
  eight f zero g h d e l a b = clash l.passes a
  eight f (suc zero) None h d e l a b = let (k, p, q) = share_at (on_code area_of [] h) [] (sym b ∙ l.passes) in clash q refl
  eight f (suc zero) (Some i) None d e l a b = clash l.passes b
  eight f (suc zero) (Some i) (Some j) d e l a b = shared i j true (one_form_lem x i d).1 (one_form_lem y j e).1 (sym b ∙ l.passes)
  eight f (suc (suc p)) g h d e l a b = absurd (omega (arith, l.within))

  -- none
  zero_said : (g h : (Option Instruction)) → read_code x ≡ g → read_code y ≡ h → on_code (λ i. true) false g ≡ true → on_code (λ i. true) false h ≡ true
      → share (on_code area_of [] h) (on_code area_of [] g) ≡ false → told g h ≡ Taken
  zero_said None h d e a b s = clash a refl
  zero_said (Some i) None d e a b s = clash b refl
  zero_said (Some i) (Some j) d e a b s = shared i j false (one_form_lem x i d).1 (one_form_lem y j e).1 s

-- ---- the two in a request's bytes

-- the first five bytes of a run are those of its first five
in_front : (m : List ℕ) → code_from (take 5 m) ≡ code_from m
in_front m =
    rw (
      get_or-take 5 m 0 0 (omega arith),
      get_or-take 5 m 1 0 (omega arith),
      get_or-take 5 m 2 0 (omega arith),
      get_or-take 5 m 3 0 (omega arith),
      get_or-take 5 m 4 0 (omega arith),
    )

module _ (one other : List ℕ) (h : length one ≡ 5) (k : 5 ≤ length other) where
  first : code_at (one ++ other) 0 ≡ code_from one
  unfolding code_at
  first = sym (in_front (one ++ other)) ∙ ap code_from (take_at one other 5 h)

  second : code_at (one ++ other) 1 ≡ code_from other
  unfolding code_at
  second = ap code_from (drop_at one other 5 h)

  asked : pair_answer one other ≡ told (read_code (code_from one)) (read_code (code_from other))
  unfolding pair_answer read_bytes
  asked = rw (le-ltb (length one) 5 (omega arith), le-ltb (length other) 5 k)

  -- a place of the two is bad, or has an area
  bad_at : (i : ℕ) (x : Code) → code_at (one ++ other) i ≡ x → bad (one ++ other) i ≡ not (on_code (λ i. true) false (read_code x))
  unfolding is_good
  bad_at i x e = ap (λ (c : Code). not (on_code (λ i. true) false (read_code c))) e

  sharing : share (held_area (code_at (one ++ other) 1)) (held_area (code_at (one ++ other) 0))
      ≡ share (on_code area_of [] (read_code (code_from other))) (on_code area_of [] (read_code (code_from one)))
  unfolding held_area
  sharing = ap₂ (λ (y x : Code). share (on_code area_of [] (read_code y)) (on_code area_of [] (read_code x))) second first

  overlapping : overlaps_earlier (one ++ other) 1
      ≡ share (on_code area_of [] (read_code (code_from other))) (on_code area_of [] (read_code (code_from one)))
  unfolding overlaps_earlier some
  overlapping = or-false (share (held_area (code_at (one ++ other) 1)) (held_area (code_at (one ++ other) 0))) ∙ sharing

  none_before : overlaps_earlier (one ++ other) 0 ≡ false
  unfolding overlaps_earlier some
  none_before = refl

  good_at : (i : ℕ) (x : Code) → code_at (one ++ other) i ≡ x → is_good (code_at (one ++ other) i) ≡ true
      → on_code (λ i. true) false (read_code x) ≡ true
  unfolding is_good
  good_at i x e g = ap (λ (c : Code). on_code (λ i. true) false (read_code c)) (sym e) ∙ g

pub pair_is_request : PairIsRequest
pair_is_request s one other h k =
    let x = code_from one in
    let y = code_from other in
    let p = fault_index s (request 2 (one ++ other)) in
    let right = places_right s 2 (one ++ other) in
    let said-so = asked one other h k in
    let at-0 = first one other h k in
    let at_1 = second one other h k in (
      λ e. said-so
          ∙ four (bad (one ++ other)) p (read_code x) (read_code y) (right.0 e) (bad_at one other h k 0 x at-0)
          (bad_at one other h k 1 y at_1),
      λ e. said-so
          ∙ eight x y (overlaps_earlier (one ++ other)) p (read_code x) (read_code y) refl refl (right.2 e) (none_before one other h k)
          (overlapping one other h k),
      λ e. let a = ((accepted_exactly s 2 (one ++ other)).0.0 e).orderly in
          said-so
          ∙ zero_said x y (read_code x) (read_code y) refl refl
          (good_at one other h k 0 x at-0 (a.readable.good 0 (omega arith)))
          (good_at one other h k 1 y at_1 (a.readable.good 1 (omega arith)))
          (sym (sharing one other h k) ∙ a.apart 1 0 (omega arith) (omega arith)),
    )
