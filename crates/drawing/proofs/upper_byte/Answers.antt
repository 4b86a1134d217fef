use mathlib.Core.Path.{◌≡◌, ◌∙◌}
use native.Mathlib.Omega.{arith}
use borrow.Author.Tests.{eq-eqb, ne_eqb, lt-ltb, le-ltb}
use Rattle.drawing.specs.Private.{upper_at}
use Rattle.drawing.proofs.upper_byte.Goals as goal

pub returns-in-0-to-19 : goal.returns-in-0-to-19
unfolding upper_at
returns-in-0-to-19 c = let t = c.args.t in simp (lt-ltb t 20 (omega arith))

pub returns-in-21-to-30 : goal.returns-in-21-to-30
unfolding upper_at
returns-in-21-to-30 c = let t = c.args.t in simp (le-ltb t 20 (omega arith), ne_eqb t 20 (λ (e : t ≡ 20). omega arith), lt-ltb t 31 (omega arith))

pub returns-in-32-to-41 : goal.returns-in-32-to-41
unfolding upper_at
returns-in-32-to-41 c =
    let t = c.args.t in
    simp
    (le-ltb t 20 (omega arith), ne_eqb t 20 (λ (e : t ≡ 20). omega arith), le-ltb t 31 (omega arith), ne_eqb t 31 (λ (e : t ≡ 31). omega arith), lt-ltb t 42 (omega arith))

pub returns-in-43-to-45 : goal.returns-in-43-to-45
unfolding upper_at
returns-in-43-to-45 c =
    let t = c.args.t in
    c.letter_of.ensures ∙ simp (
      le-ltb t 20 (omega arith),
      ne_eqb t 20 (λ (e : t ≡ 20). omega arith),
      le-ltb t 31
          (omega arith),
      ne_eqb t 31 (λ (e : t ≡ 31). omega arith),
      le-ltb t 42
          (omega arith),
      ne_eqb t 42 (λ (e : t ≡ 42). omega arith),
      lt-ltb t 46 (omega arith),
    )

pub returns-in-47-to-49 : goal.returns-in-47-to-49
unfolding upper_at
returns-in-47-to-49 c =
    let t = c.args.t in
    c.letter_of-in-47-to-49.ensures ∙ simp (
      le-ltb t 20 (omega arith),
      ne_eqb t 20 (λ (e : t ≡ 20). omega arith),
      le-ltb t 31
          (omega arith),
      ne_eqb t 31 (λ (e : t ≡ 31). omega arith),
      le-ltb t 42
          (omega arith),
      ne_eqb t 42 (λ (e : t ≡ 42). omega arith),
      le-ltb t 46
          (omega arith),
      ne_eqb t 46 (λ (e : t ≡ 46). omega arith),
      lt-ltb t 50 (omega arith),
    )

pub returns-in_default : goal.returns-in_default
unfolding upper_at
returns-in_default c = let t = c.args.t in simp (le-ltb t 20 (omega arith), eq-eqb t 20 (omega arith))

pub returns-in_default-2 : goal.returns-in_default-2
unfolding upper_at
returns-in_default-2 c =
    let t = c.args.t in
    simp (le-ltb t 20 (omega arith), ne_eqb t 20 (λ (e : t ≡ 20). omega arith), le-ltb t 31 (omega arith), eq-eqb t 31 (omega arith))

pub returns-in_default-3 : goal.returns-in_default-3
unfolding upper_at
returns-in_default-3 c =
    let t = c.args.t in
    simp (
      le-ltb t 20 (omega arith),
      ne_eqb t 20 (λ (e : t ≡ 20). omega arith),
      le-ltb t 31
          (omega arith),
      ne_eqb t 31 (λ (e : t ≡ 31). omega arith),
      le-ltb t 42 (omega arith),
      eq-eqb t 42 (omega arith),
    )

pub returns-in_default-4 : goal.returns-in_default-4
unfolding upper_at
returns-in_default-4 c =
    let t = c.args.t in
    simp (
      le-ltb t 20 (omega arith),
      ne_eqb t 20 (λ (e : t ≡ 20). omega arith),
      le-ltb t 31
          (omega arith),
      ne_eqb t 31 (λ (e : t ≡ 31). omega arith),
      le-ltb t 42
          (omega arith),
      ne_eqb t 42 (λ (e : t ≡ 42). omega arith),
      le-ltb t 46 (omega arith),
      eq-eqb t 46 (omega arith),
    )

pub returns-in_default-5 : goal.returns-in_default-5
unfolding upper_at
returns-in_default-5 c =
    let t = c.args.t in
    simp (
      le-ltb t 20 (omega arith),
      ne_eqb t 20 (λ (e : t ≡ 20). omega arith),
      le-ltb t 31
          (omega arith),
      ne_eqb t 31 (λ (e : t ≡ 31). omega arith),
      le-ltb t 42
          (omega arith),
      ne_eqb t 42 (λ (e : t ≡ 42). omega arith),
      le-ltb t 46
          (omega arith),
      ne_eqb t 46 (λ (e : t ≡ 46). omega arith),
      le-ltb t 50 (omega arith),
    )
