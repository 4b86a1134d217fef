-- What makes two desks equal at the end of two lists: 42 numbers that are the same at every place, and records that are the same bit by bit
-- and were left alone by both lists or by neither, so that also an image of more than 64 bits ends alike. Assumes nothing.
use mathlib.Core.Path.{◌≡◌, refl, sym, ap, ◌∙◌}
use mathlib.Core.Bool.{Bool, true, false, cond, ◌||◌}
use mathlib.Core.List.{List, [], ◌∷◌, map}
use Prim.Native.Nat.{ℕ, ◌/◌, ◌^◌, ◌≤◌, ◌<◌}
use native.Mathlib.Omega.{arith}
use lib.Dec.{eqb, ltb}
use lib.ListN.{length}
use borrow.Author.Tests.{eqb-true, eqb-false, ltb-true, ltb-false, le-ltb, ne_eqb}
use Rattle.rules.specs.declared.Event.{Event}
use Rattle.bits.specs.Bits.{bit}
use Rattle.bits.proofs.Cases.{split, clash}
use Rattle.bits.proofs.Digits.{packed_lt, packed_bit, image_ext}
use Rattle.floor.specs.Floor.{raised_car, drive_in}
use Rattle.std.specs.declared.option.Option.{Option}
use Rattle.std.specs.declared.option.Option.TheVariants.{Some, None}
use Rattle.rules.specs.Codes.{read_event}
use Rattle.any_order.proofs.Machine.{Outcome, failed, finished, stuck, moves, Act, result, event}
use Rattle.station_laws.specs.Runs as run
use Rattle.station_laws.proofs.Instance.{possible_as, after_as}
use Rattle.station_laws.proofs.Calls.{event_has}
use Rattle.station_laws.proofs.Lists.{ending}
use Rattle.std.specs.declared.result.Result.TheVariants.{Ok}
use Rattle.cards.proofs.Listing.{none_in}
use Rattle.cards.specs.Held.{numbers_in, cards_driven, cards_given}
use Rattle.cards_laws.proofs.Elements.{held_length, same_array}
use Rattle.desk.specs.declared.Desk.{Desk}
use Rattle.desk.specs.Calls.{passed}
use Rattle.desk_laws.specs.Runs as desk
use Rattle.desk_laws.specs.Runs.{DeskCall, desk_answer_number, desk_after, calls_desk, DeskBegins, at_start, by_image}
use Rattle.desk_laws.specs.Orders.{DeskFair, desk_replies}
use Rattle.desk_laws.proofs.Calls.{moved, answered, left_taken, refused_untouched}
use Rattle.desk_laws.proofs.Fits.{still, success_bits, event_bits}
use Rattle.desk_laws.proofs.Carrying.{code_length}
use Rattle.desk_laws.proofs.Follow.{as_desk}
use Rattle.desk_laws.proofs.Lists.{succeeds}

-- ---- 42 numbers

abbrev pub Whole : Desk → Type 0
Whole d = length d.numbers ≡ 42

moved_long : (d : Desk) (c : DeskCall) → Whole d → length (moved d c) ≡ 42
unfolding cards_driven cards_given
moved_long d (desk.request n set) h = h
moved_long d (desk.reports r) h = split (eqb r.ending 1) (λ t. rw t (code_length _ d.station.bits d.numbers h)) (λ t. rw t h)
moved_long d (desk.event e c) h = split (eqb e 1) (λ t. rw t (held_length _)) (λ t. rw t (other (read_event e)))
  where
    other : (v : (Option Event)) → length (passed v d.numbers) ≡ 42
    other (Some x) = held_length _
    other None = h
moved_long d (desk.pictures p n ns) h = held_length _
moved_long d desk.ask h = h

pub whole_left : (d : Desk) (c : DeskCall) → Whole d → Whole (desk_after d c)
whole_left d c h = split (eqb (desk_answer_number d c) 0)
    (λ t. rw (left_taken d c (eqb-true _ 0 t)) (moved_long d c h))
    (λ t. rw (refused_untouched d c (eqb-false _ 0 t)) h)

pub whole_always : (l : List DeskCall) (d : Desk) → Whole d → Whole (calls_desk d l)
whole_always [] d h = h
whole_always (c ∷ l) d h = whole_always l (desk_after d c) (whole_left d c h)

pub begins_whole : (d : Desk) → DeskBegins d → Whole d
unfolding cards_given
begins_whole d at_start = refl
begins_whole d (by_image before p n ns h e) = rw (left_taken before (desk.pictures p n ns) e) (held_length _)

-- past the record's bits there is no number
none_past : (a : List ℕ) (k : ℕ) → 64 ≤ k → numbers_in a k ≡ 0
none_past a k h = none_in a k (rw (le-ltb k 40 (omega arith), ne_eqb raised_car k (λ e. omega arith), ne_eqb drive_in k (λ e. omega arith)))

pub numbers_same : (a b : List ℕ) → length a ≡ 42 → length b ≡ 42 → ((k : ℕ) → k < 64 → numbers_in a k ≡ numbers_in b k) → a ≡ b
numbers_same a b p q e = same_array a b p q (λ k. split (ltb k 64)
    (λ t. e k (ltb-true k 64 t))
    (λ t. let h = ltb-false k 64 t in none_past a k h ∙ sym (none_past b k h)))

-- ---- what of a record is above its 64 bits

abbrev pub above : ℕ → ℕ
above r = r / 2 ^ 64

pub record_same : (r q : ℕ) → above r ≡ above q → ((k : ℕ) → k < 64 → bit r k ≡ bit q k) → r ≡ q
record_same r q h e =
    let a = packed_bit 64 0 r in
    let b = packed_bit 64 0 q in
    let c = image_ext (bit r) (bit q) e in
    omega arith

none_above : (r : ℕ) → r < 2 ^ 64 → above r ≡ 0
none_above r h = omega arith

-- a result that is taken leaves nothing there if it is a success, else what was
result_above : (d : Desk) (k i : ℕ) (o : Outcome) → desk_answer_number d (as_desk k (result i o)) ≡ 0
    → above (desk_after d (as_desk k (result i o))).station.bits ≡ cond (moves o) 0 (above d.station.bits)
result_above d k i o z =
    ap (λ (b : Desk). above b.station.bits) (left_taken d (as_desk k (result i o)) z)
    ∙ by o ((answered d (as_desk k (result i o)) (Ok tt)).0 z).0.1
  where
    by : (o : Outcome) → run.answer_number d.station (run.result_call k i (ending o)) ≡ 0
        → above (run.station_after d.station (run.result_call k i (ending o))).bits ≡ cond (moves o) 0 (above d.station.bits)
    by failed y = ap above (still d.station (run.result_call k i 0) (λ e. omega arith))
    by finished y =
        ap above (success_bits d.station (record { issue = k; number = i; ending = 1 }) refl y).1 ∙ none_above _ (packed_lt 64 0 _)
    by stuck y = ap above (still d.station (run.result_call k i 2) (λ e. omega arith))

-- an event leaves nothing there if it is taken
event_above : (d : Desk) (e c : ℕ)
    → above (desk_after d (desk.event e c)).station.bits ≡ cond (eqb (desk_answer_number d (desk.event e c)) 0) 0 (above d.station.bits)
event_above d e c = split (eqb (desk_answer_number d (desk.event e c)) 0)
    (λ t. rw t (
    let z = eqb-true _ 0 t in
    let y = ((answered d (desk.event e c) (Ok tt)).0 z).0.1 in
    ap (λ (b : Desk). above b.station.bits) (left_taken d (desk.event e c) z)
    ∙ ap above (event_bits d.station e y) ∙ none_above _ (small (read_event e) (event_has d.station e y).3)))
    (λ t. rw t (ap (λ (b : Desk). above b.station.bits) (refused_untouched d (desk.event e c) (eqb-false _ 0 t))))
  where
    small : (v : (Option Event)) → possible_as v d.station.bits ≡ true → after_as v d.station.bits < 2 ^ 64
    small (Some x) p = packed_lt 64 0 _
    small None p = clash p refl

-- an answer is 0
abbrev pub any_taken : List ℕ → Bool
any_taken [] = false
any_taken (n ∷ l) = eqb n 0 || any_taken l

first_counts : (b x y : Bool) (h : ℕ) → cond (x || y) 0 (cond b 0 h) ≡ cond ((b || x) || y) 0 h
first_counts true true y h = refl
first_counts true false true h = refl
first_counts true false false h = refl
first_counts false x y h = refl

last_counts : (b x y : Bool) (h : ℕ) → cond (x || y) 0 (cond b 0 h) ≡ cond (x || (b || y)) 0 h
last_counts b true y h = refl
last_counts true false true h = refl
last_counts true false false h = refl
last_counts false false y h = refl

-- so a list leaves nothing there if it has a success or an event that is taken, else what was
pub above_end : (k : ℕ) (l : List (Act (ℕ × ℕ))) (d : Desk) → DeskFair d (map (as_desk k) l)
    → above (calls_desk d (map (as_desk k) l)).station.bits
    ≡ cond (succeeds l || any_taken (desk_replies d (map (as_desk k) l))) 0 (above d.station.bits)
above_end k [] d F = refl
above_end k (result i o ∷ l) d F =
    let t = desk_after d (as_desk k (result i o)) in
    above_end k l t F.2 ∙ ap (cond (succeeds l || any_taken (desk_replies t (map (as_desk k) l))) 0) (result_above d k i o F.0)
    ∙ first_counts (moves o) (succeeds l) _ _
above_end k (event e ∷ l) d F =
    let t = desk_after d (as_desk k (event e)) in
    above_end k l t F ∙ ap (cond (succeeds l || any_taken (desk_replies t (map (as_desk k) l))) 0) (event_above d e.0 e.1)
    ∙ last_counts (eqb (desk_answer_number d (desk.event e.0 e.1)) 0) (succeeds l) _ _
