-- `service::answer_all` meets its contract: each turn keeps `Midway`, and what is left of the input shrinks. Assumes nothing.
use Rattle.wire.specs.Reads.{frame_of, kind_at}
use mathlib.Core.Path.{◌≡◌, refl, sym, ap, ◌∙◌}
use mathlib.Core.List.{List}
use Prim.Native.Nat.{ℕ}
use native.Mathlib.Omega.{arith}
use lib.ListN.{take, drop, length-drop}
use lib.Seq.{length-take-le}
use Rattle.answers.specs.declared.Answer.TheVariants.{BadLength}
use Rattle.station.specs.Station.{fit}
use Rattle.station.specs.Turns.{turn_of, after_turn}
use Rattle.wire.specs.Kinds.{set_of}
use Rattle.wire.specs.declared.Frame.{Frame}
use Rattle.wire.specs.declared.Frame.TheVariants.{Whole}
use Rattle.wire.proofs.Frames.{Framed, whole_frame}
use Rattle.wire.proofs.Parts.{from_on}
use Rattle.service.specs.declared.Reply.{Reply}
use Rattle.service.specs.Service.{answer_message}
use Rattle.service.specs.Private.{message_call, reply_said}
use Rattle.service.proofs.Replies.{answer_bytes_length, eight_bytes}
use Rattle.service.proofs.Called.{respond_fit}
use Rattle.service.proofs.Hearing.{reply_new, reply_same}
use Rattle.service.proofs.Turns.{started, room_left, room_last, cut_short_lem, wrong_length, answered}
use Rattle.service.proofs.answer_all.Goals as goal
use Rattle.service.proofs.answer_all.Goals.{After-framed, After-kind_at}

-- the frame that the call found is that of what is left
seen : (c : After-framed)
    → frame_of (drop c.loop-out.at c.args.input.now) ≡ c.framed.result
seen c =
    sym (ap frame_of (from_on c.args.input.now c.loop-out.at))
    ∙ sym c.framed.ensures

-- and a whole message lies within it
whole : (input : List ℕ) (at n : ℕ) {f : Frame} → frame_of (drop at input) ≡ f → f ≡ Whole n → Framed (drop at input) n
whole input at n e g = whole_frame _ _ (e ∙ g)

-- the turn is that of the whole message, and so is the kind
turned : (c : After-kind_at)
    → c.heard-t.result ≡ turn_of (message_call c.fit-known.result c.loop-out.s
    (take c.in-Whole.n (drop c.loop-out.at c.args.input.now)))
turned c =
    c.heard-t.ensures
    ∙ ap (λ (x : List ℕ). turn_of (message_call c.fit-known.result c.loop-out.s (take c.in-Whole.n x)))
    (from_on c.args.input.now c.loop-out.at)

kinded : (c : After-kind_at)
    → c.kind_at.result ≡ kind_at (take c.in-Whole.n (drop c.loop-out.at c.args.input.now))
kinded c =
    c.kind_at.ensures
    ∙ ap (λ (x : List ℕ). kind_at (take c.in-Whole.n x)) (from_on c.args.input.now c.loop-out.at)

pub loop-out-init : goal.loop-out-init
loop-out-init c = (started _ _ _, c.fit-known.ensures)

pub returns-in-Cut : goal.returns-in-Cut
returns-in-Cut c = cut_short_lem c.loop-out.invariant.0 c.requires (seen (goal.at.returns-in-Cut c).After-framed ∙ c.in-Cut.is)

pub put-n-requires : goal.put-n-requires
put-n-requires c = room_last c.loop-out.invariant.0 c.requires _ (seen (goal.at.put-n-requires c).After-framed ∙ c.in-Wrong.is) refl

pub overflow_add-result : goal.overflow_add-result
overflow_add-result c = omega (arith, c.put-n.ensures.0, eight_bytes BadLength)

pub returns-in-Wrong : goal.returns-in-Wrong
returns-in-Wrong c = wrong_length c.loop-out.invariant.0 c.requires (answer_message BadLength) c.put-n.ensures.0 c.put-n.ensures.1 (seen (goal.at.returns-in-Wrong c).After-framed ∙ c.in-Wrong.is) refl

pub slice_bounds-m-end : goal.slice_bounds-m-end
slice_bounds-m-end c = sym (length-take-le _ _ (rw (from_on c.args.input.now c.loop-out.at) (whole c.args.input.now c.loop-out.at c.in-Whole.n (seen (goal.at.slice_bounds-m-end c).After-framed) c.in-Whole.is).within))

pub heard-t-requires : goal.heard-t-requires
heard-t-requires c = λ e. sym c.loop-out.invariant.1 ∙ e

pub tell-made-requires : goal.tell-made-requires
tell-made-requires c = room_left c.loop-out.invariant.0 c.requires _ c.in-Whole.n (seen (goal.at.tell-made-requires c).After-framed ∙ c.in-Whole.is)

pub overflow_add-made : goal.overflow_add-made
overflow_add-made c = omega (arith, c.tell-made.ensures.0, answer_bytes_length (reply_said c.kind_at.result c.heard-t.result))

pub overflow_add-at : goal.overflow_add-at
overflow_add-at c = omega (arith, (whole c.args.input.now c.loop-out.at c.in-Whole.n (seen (goal.at.overflow_add-at c).After-framed) c.in-Whole.is).within, length-drop c.loop-out.at c.args.input.now)

pub loop-out-smaller-then-t-s : goal.loop-out-smaller-then-t-s
loop-out-smaller-then-t-s c = omega (arith, (whole c.args.input.now c.loop-out.at c.in-Whole.n (seen (goal.at.loop-out-smaller-then-t-s c).After-framed) c.in-Whole.is).within, (whole c.args.input.now c.loop-out.at c.in-Whole.n (seen (goal.at.loop-out-smaller-then-t-s c).After-framed) c.in-Whole.is).low, length-drop c.loop-out.at c.args.input.now)

pub loop-out-preserved-then-t-s : goal.loop-out-preserved-then-t-s
loop-out-preserved-then-t-s c =
    let r = reply_new c.loop-out.s (drop c.loop-out.at c.args.input.now) c.loop-out.invariant.1 c.in-Whole.n (seen (goal.at.loop-out-preserved-then-t-s c).After-framed ∙ c.in-Whole.is) (turned (goal.at.loop-out-preserved-then-t-s c).After-kind_at) (kinded (goal.at.loop-out-preserved-then-t-s c).After-kind_at)
    (c.left-s.ensures ∙ ap (λ (x : List ℕ). (after_turn c.loop-out.s c.heard-t.result (set_of (drop 5 (take c.in-Whole.n x)))).station) (from_on c.args.input.now c.loop-out.at)) in (
      answered c.loop-out.invariant.0 c.requires (reply_said c.kind_at.result c.heard-t.result) c.tell-made.ensures.0 c.tell-made.ensures.1 c.in-Whole.n _ (seen (goal.at.loop-out-preserved-then-t-s c).After-framed ∙ c.in-Whole.is) r refl,
      c.loop-out.invariant.1 ∙ sym (ap (λ (r : Reply). fit r.station) r ∙ respond_fit _ _),
    )

pub loop-out-preserved : goal.loop-out-preserved
loop-out-preserved c =
    let r = reply_same c.loop-out.s (drop c.loop-out.at c.args.input.now) c.loop-out.invariant.1 c.in-Whole.n (seen (goal.at.loop-out-preserved c).After-framed ∙ c.in-Whole.is) (turned (goal.at.loop-out-preserved c).After-kind_at) (kinded (goal.at.loop-out-preserved c).After-kind_at) c.if-t-s.false in (
      answered c.loop-out.invariant.0 c.requires (reply_said c.kind_at.result c.heard-t.result) c.tell-made.ensures.0 c.tell-made.ensures.1 c.in-Whole.n _ (seen (goal.at.loop-out-preserved c).After-framed ∙ c.in-Whole.is) r refl,
      c.loop-out.invariant.1 ∙ sym (ap (λ (r : Reply). fit r.station) r ∙ respond_fit _ _),
    )
