-- A result on a fit station where nothing is judged: the reply to its message, and that its bytes say it. Assumes nothing.
use mathlib.Core.Path.{◌≡◌, refl, sym, ap, ap₂, ◌∙◌}
use mathlib.Core.Bool.{true, cond, ◌&&◌}
use mathlib.Core.List.{List}
use Prim.Native.Nat.{ℕ, ◌≤◌}
use native.Mathlib.Omega.{arith}
use borrow.Author.Tests.{eqb-true, leb-true, ltb-false, le-ltb, eq-eqb, le-leb}
use lib.Dec.{eqb, ltb, leb}
use lib.ListN.{get_or, length, take}
use lib.Seq.{length-take-le, get_or-take}
use Rattle.bits.proofs.Cases.{split, clash, both}
use Rattle.codec.specs.Bytes.{from_little_endian}
use Rattle.answers.specs.Answers.{number_of}
use Rattle.station.specs.declared.Station.{Station}
use Rattle.station.specs.declared.Outcome.{Outcome}
use Rattle.station.specs.declared.Report.{Report}
use Rattle.station.specs.declared.Turn.{Turn}
use Rattle.station.specs.Station.{fit}
use Rattle.station.specs.Calls.{resulted}
use Rattle.station.specs.Turns.{turn_of, settled, after_turn}
use Rattle.station.proofs.Turns.{rebuilt, kept_resulted}
use Rattle.station.proofs.Settling.{settled_fit}
use Rattle.wire.specs.declared.Frame.TheVariants.{Whole}
use Rattle.wire.specs.Reads.{Received}
use Rattle.wire.specs.Kinds.{result_kind, kinds_asked}
use Rattle.wire.specs.Reads.{length_at, kind_at, frame_of, sized, read_whole, read_asked}
use Rattle.service.specs.declared.Reply.{Reply}
use Rattle.service.specs.Service.{answer_message, reply_of, called_known, respond_known}
use Rattle.week.specs.Weeks.{kind_read}
use Rattle.week.specs.Private.{brings_result}
use Rattle.week.proofs.Telling.{kind_is, kind_taken}

module _ (m : List ℕ) (b : brings_result m ≡ true) where
  parts : (8 ≤ length m) × (length_at m ≡ 6) × (kind_at m ≡ 3) × (get_or m 7 0 ≤ 2)
  unfolding brings_result
  parts =
      split (ltb (length m) 8)
      (λ t. clash (rw t at b) refl)
      (λ t. let (p, e) = both (eqb (length_at m) 6 && eqb (kind_at m) 3) (leb (get_or m 7 0) 2) (rw t at b) in
      let (l, k) = both (eqb (length_at m) 6) (eqb (kind_at m) 3) p in
      (ltb-false (length m) 8 t, eqb-true (length_at m) 6 l, eqb-true (kind_at m) 3 k, leb-true (get_or m 7 0) 2 e))

  whole_result : frame_of m ≡ Whole 8
  whole_result = let (h, l, k, e) = parts in rw (le-ltb (length m) 2 (omega arith), l, le-ltb (length m) 8 h)

  pub result_kind_lem : 3 ≡ kind_read m
  result_kind_lem = sym (kind_is m 8 3 whole_result parts.2 (omega arith))

  short : length (take 8 m) ≡ 8
  short = length-take-le 8 m parts.0

  kind_three : kind_at (take 8 m) ≡ 3
  kind_three = kind_taken m 8 (omega arith) ∙ parts.2

  last : get_or (take 8 m) 7 0 ≤ 2
  last = omega (arith, get_or-take 8 m 7 0 (omega arith), parts.3)

  sized_as : read_whole kinds_asked (take 8 m) ≡ sized (take 8 m) 8 (result_kind.says (take 8 m))
  unfolding read_whole
  sized_as = rw kind_three

  -- on a fit station the turn of a result and the set that stays are the reply to its message
  module _ (s : Station) where
    abbrev report : Report
    report = record { issue = from_little_endian 2 4 (take 8 m); number = get_or (take 8 m) 6 0; ending = get_or (take 8 m) 7 0 }

    replying : Received → Reply
    replying r =
        cond (eqb (number_of r.answer) 0) (reply_of r.message.what (called_known true r.message.what s r.message.count r.message.set))
        (record { station = s; answer = answer_message r.answer })

    framed : respond_known true s m ≡ replying (read_whole kinds_asked (take 8 m))
    unfolding respond_known read_asked replying
    framed = rw whole_result

    taken : replying (sized (take 8 m) 8 (result_kind.says (take 8 m))) ≡ record { station = (resulted s report).station; answer = answer_message (resulted s report).answer }
    unfolding replying
    taken = rw (eq-eqb (length (take 8 m)) 8 short, le-leb (get_or (take 8 m) 7 0) 2 last)

    module _ (f : fit s ≡ true) {issue number ending : ℕ} {t : Turn} {o : Outcome} (i : issue ≡ from_little_endian 2 4 m) (n : number ≡ get_or m 6 0)
        (d : ending ≡ get_or m 7 0) (q : t ≡ settled s (record { issue = issue; number = number; ending = ending })) (p : o ≡ after_turn s t s.set) where
      issue_taken : from_little_endian 2 4 (take 8 m) ≡ from_little_endian 2 4 m
      issue_taken = rw (get_or-take 8 m 4 0 (omega arith), get_or-take 8 m 5 0 (omega arith))

      same : settled s (record { issue = issue; number = number; ending = ending }) ≡ settled s report
      same = rw (i ∙ sym issue_taken, n ∙ sym (get_or-take 8 m 6 0 (omega arith)), d ∙ sym (get_or-take 8 m 7 0 (omega arith)))

      told : t ≡ turn_of (resulted s report)
      told = q ∙ same ∙ settled_fit s report f

      after : o ≡ resulted s report
      after = p ∙ rebuilt s s.set told (kept_resulted s s.set report)

      pub settled_reply : ◌≡◌ {A = Reply} (record { station = o.station; answer = answer_message t.answer }) (respond_known true s m)
      settled_reply =
          ap₂ (λ (x : Outcome) (y : Turn). record { station = x.station; answer = answer_message y.answer }) after told
          ∙ sym (framed ∙ ap replying sized_as ∙ taken)
