-- What a car event does to the numbers: a begin of a drive-in puts its own where it waits, from where an end that is done takes it to the
-- raised lift; a drive-out that is done drops the one that is there, an end that isn't done the one that waits. Assumes nothing.
use mathlib.Core.Path.{◌≡◌, refl, sym, ap, ap₂, subst, ◌∙◌, fun_ext}
use mathlib.Core.Logic.{◌↔◌}
use mathlib.Core.Bool.{Bool, true, false, cond, not, ◌&&◌, ◌||◌, and-true}
use Prim.Native.Nat.{ℕ, ◌+◌, ◌%◌, ◌<◌}
use native.Mathlib.Omega.{arith}
use lib.Dec.{eqb}
use lib.ListN.{get_or}
use borrow.Author.Tests.{eqb-true, ne_eqb}
use Rattle.bits.specs.Bits.{Bits, digit}
use Rattle.bits.proofs.Cases.{split, clash, off, true→T, T→true}
use Rattle.floor.specs.Floor.{raised_car, drive_in, drive_out}
use Rattle.floor.specs.Tests.{fact, holds}
use Rattle.floor.specs.Sound.{Sound, sound_rules}
use Rattle.floor.proofs.Reading.{nth_holds}
use Rattle.rules.specs.declared.Event.{Event}
use Rattle.rules.specs.declared.Event.TheVariants.{BeginIn, BeginOut, EndDone, EndNotDone}
use Rattle.rules.specs.Events.{event_conditions, possible, after_event}
use Rattle.rules_laws.specs.Laws.{lift_area}
use Rattle.rules_laws.proofs.Shift.{below_same}
use Rattle.cards.specs.Cards.{Numbers, Cards, Has}
use Rattle.cards.specs.Given.{bears}
use Rattle.cards.specs.Following.{no_source, number_at, numbers_taken, numbers_driven}
use Rattle.cards_laws.specs.Statements.{BringsNew, New, EventKept, Remains, EventHas, DrivenInHas, SameOn, EventNumbers}
use Rattle.cards_laws.proofs.Anchors.{bears_same, is_place, no_place, Marked, cards_marked, marked_cards, Carried, carried_marked, carried_numbers}
use Rattle.cards_laws.proofs.Driving.{put, put_marked, put_numbers, drop_marked, drop_numbers, arriving, arrives}

-- ---- the places that bear a number after an event

-- row 1 stays as it is
row_kept : (e : Event) (f : Bits) (k : ℕ) → k < 20 → after_event e f k ≡ f k
unfolding after_event
row_kept BeginIn f k h = rw (ne_eqb drive_in k (λ q. omega arith))
row_kept BeginOut f k h = rw (ne_eqb drive_out k (λ q. omega arith))
row_kept EndDone f k h = rw (ne_eqb raised_car k (λ q. omega arith), ne_eqb drive_in k (λ q. omega arith), ne_eqb drive_out k (λ q. omega arith))
row_kept EndNotDone f k h = rw (ne_eqb drive_in k (λ q. omega arith), ne_eqb drive_out k (λ q. omega arith))

-- so what doesn't change bears a number as before
stays : (e : Event) (f : Bits) (k : ℕ) → after_event e f k ≡ f k → bears (after_event e f) k ≡ bears f k
stays e f k q =
    bears_same f (after_event e f) k q (λ h. ap (λ (x : ℕ). x % 2) (below_same f (after_event e f) 20 (row_kept e f) k (omega arith)))

-- where a drive-out is told no number stands
no_out : (e : Event) (f : Bits) (k : ℕ) → eqb drive_out k ≡ true → bears (after_event e f) k ≡ bears f k
no_out e f k t =
    let o : is_place k ≡ false = ap is_place (sym (eqb-true drive_out k t)) in
    no_place (after_event e f) k o ∙ sym (no_place f k o)

begin_in : (f : Bits) (k : ℕ) → bears (after_event BeginIn f) k ≡ cond (eqb drive_in k) true (bears f k)
unfolding after_event
begin_in f k = split (eqb drive_in k)
    (λ t. ap (bears (after_event BeginIn f)) (sym (eqb-true drive_in k t)) ∙ rw t)
    (λ t. stays BeginIn f k (rw t) ∙ rw t)

begin_out : (f : Bits) (k : ℕ) → bears (after_event BeginOut f) k ≡ bears f k
unfolding after_event
begin_out f k = split (eqb drive_out k) (no_out BeginOut f k) (λ t. stays BeginOut f k (rw t))

end_not_done : (f : Bits) (k : ℕ) → bears (after_event EndNotDone f) k ≡ cond (eqb drive_in k) false (bears f k)
unfolding after_event
end_not_done f k = split (eqb drive_in k)
    (λ t. ap (bears (after_event EndNotDone f)) (sym (eqb-true drive_in k t)) ∙ rw t)
    (λ t. split (eqb drive_out k)
    (λ u. no_out EndNotDone f k u ∙ rw t)
    (λ u. stays EndNotDone f k (rw (t, u)) ∙ rw t))

end_done : (f : Bits) (k : ℕ) → bears (after_event EndDone f) k ≡ cond (eqb raised_car k) (f drive_in) (cond (eqb drive_in k) false (bears f k))
unfolding after_event
end_done f k = split (eqb raised_car k)
    (λ s. ap (bears (after_event EndDone f)) (sym (eqb-true raised_car k s)) ∙ rw s (and-true (f drive_in)))
    (λ s. split (eqb drive_in k)
    (λ t. ap (bears (after_event EndDone f)) (sym (eqb-true drive_in k t)) ∙ rw (s, t))
    (λ t. split (eqb drive_out k)
    (λ u. no_out EndDone f k u ∙ rw (s, t))
    (λ u. stays EndDone f k (rw (s, t, u)) ∙ rw (s, t))))

-- ---- what a sound record and a possible event say of the drives

module _ (f : Bits) (s : Sound f) where
  rule : (j : ℕ) → holds (get_or sound_rules j (fact true)) f ≡ true
  rule j = T→true _ (nth_holds f sound_rules (true→T s.rules) j)

  -- while a car is driven in, no other is driven out, and none is on the raised lift
  into : f drive_in ≡ true → (f drive_out ≡ false) × (f raised_car ≡ false)
  into e = go (f drive_in) (f drive_out) (f raised_car) e (rule 12) (rule 14)
    where
      go : (a b c : Bool) → a ≡ true → not (a && (b && true)) ≡ true → (eqb (digit a + 0) 0 || eqb (digit c + 0) 0) ≡ true → (b ≡ false) × (c ≡ false)
      go true true c e p q = clash p refl
      go true false true e p q = clash q refl
      go true false false e p q = (refl, refl)
      go false b c e p q = clash e refl

idle : (f : Bits) → possible BeginIn f ≡ true → f drive_in ≡ false
unfolding possible
idle f ok = go (f drive_in) (f drive_out) (T→true _ (nth_holds f (event_conditions BeginIn) (true→T ok) 0))
  where
    go : (a b : Bool) → not (not (eqb (digit a + (digit b + 0)) 0)) ≡ true → a ≡ false
    go true true p = clash p refl
    go true false p = clash p refl
    go false b p = refl

-- an end is of a drive-in or of a drive-out
out_of : (f : Bits) → possible EndDone f ≡ true → f drive_in ≡ false → f drive_out ≡ true
unfolding possible
out_of f ok e = go (f drive_in) (f drive_out) e (T→true _ (nth_holds f (event_conditions EndDone) (true→T ok) 0))
  where
    go : (a b : Bool) → a ≡ false → not (eqb (digit a + (digit b + 0)) 0) ≡ true → b ≡ true
    go true b e p = clash refl e
    go false true e p = refl
    go false false e p = clash p refl

-- ---- the numbers after an event: they stand at the places that bear one, and those that remain are there

module _ (f : Bits) (n : Numbers) (c : ℕ) (M : Marked (bears f) n) where
  -- a begin of a drive-out changes none
  same_bears : bears (after_event BeginOut f) ≡ bears f
  same_bears = fun_ext (begin_out f)

  -- an end that isn't done drops what waits
  dropped : numbers_driven EndNotDone c n ≡ put drive_in 0 n
  unfolding numbers_driven numbers_taken
  dropped = refl

  -- an end that is done, of a drive-in: what waits arrives on the raised lift
  arrived : numbers_driven EndDone c n ≡ (λ k. number_at n (arriving raised_car drive_in k))
  unfolding numbers_driven numbers_taken
  arrived = fun_ext (λ k. split (eqb raised_car k)
      (λ t. rw t)
      (λ t. split (eqb drive_in k)
      (λ u. rw (t, u))
      (λ u. split (eqb k no_source)
      (λ v. rw (t, u, v) (ap n (eqb-true k no_source v) ∙ M.none no_source refl))
      (λ v. rw (t, u, v)))))

  arriving_bears : Sound f → f drive_in ≡ true → Carried (bears f) (bears (after_event EndDone f)) (arriving raised_car drive_in)
  arriving_bears s e =
      arrives raised_car drive_in (bears f) (bears (after_event EndDone f)) (λ q. omega arith) refl (into f s e).1 e
      (λ k. end_done f k ∙ ap (λ (b : Bool). cond (eqb raised_car k) b (cond (eqb drive_in k) false (bears f k))) e)

  -- of a drive-out: what is on the raised lift is dropped, since nothing waits
  left : f drive_in ≡ false → numbers_driven EndDone c n ≡ put raised_car 0 n
  unfolding numbers_driven numbers_taken
  left e = fun_ext (λ k. split (eqb raised_car k)
      (λ t. rw t (M.none drive_in e))
      (λ t. split (eqb drive_in k)
      (λ u. rw (t, u) (sym (ap n (sym (eqb-true drive_in k u)) ∙ M.none drive_in e)))
      (λ u. rw (t, u))))

  leaving_bears : f drive_in ≡ false → (k : ℕ) → bears (after_event EndDone f) k ≡ cond (eqb raised_car k) false (bears f k)
  leaving_bears e k =
      end_done f k
      ∙ none_waits (eqb raised_car k) (eqb drive_in k) (f drive_in) (bears f k) e (λ t. ap (bears f) (sym (eqb-true drive_in k t)) ∙ e)
    where
      none_waits : (a b x y : Bool) → x ≡ false → (b ≡ true → y ≡ false) → cond a x (cond b false y) ≡ cond a false y
      none_waits true b x y o h = o
      none_waits false true x y o h = sym (h refl)
      none_waits false false x y o h = refl

marked_after : (e : Event) (f : Bits) (n : Numbers) (c : ℕ) → Sound f → possible e f ≡ true → Marked (bears f) n → BringsNew e c n
    → Marked (bears (after_event e f)) (numbers_driven e c n)
unfolding numbers_driven
marked_after BeginIn f n c s ok M new = put_marked drive_in (bears f) (bears (after_event BeginIn f)) n M (idle f ok) (begin_in f) c (new refl)
marked_after BeginOut f n c s ok M new = subst (λ (A : Bits). Marked A n) (sym (same_bears f n c M)) M
marked_after EndDone f n c s ok M new = split (f drive_in)
    (λ e.
    subst (Marked (bears (after_event EndDone f))) (sym (arrived f n c M))
    (carried_marked (bears f) (bears (after_event EndDone f)) (arriving raised_car drive_in) n refl (arriving_bears f n c M s e) M))
    (λ e.
    subst (Marked (bears (after_event EndDone f))) (sym (left f n c M e))
    (drop_marked raised_car (bears f) (bears (after_event EndDone f)) n M (leaving_bears f n c M e)))
marked_after EndNotDone f n c s ok M new =
    subst (Marked (bears (after_event EndNotDone f))) (sym (dropped f n c M))
    (drop_marked drive_in (bears f) (bears (after_event EndNotDone f)) n M (end_not_done f))

-- those that are there
abbrev Right : Event → Bits → Numbers → ℕ → ℕ → Type 0
Right e f n c d = Has (numbers_driven e c n) d ↔ Remains e f n c d

module _ (f : Bits) (n : Numbers) (c : ℕ) (M : Marked (bears f) n) (d : ℕ) (z : d ≡ 0 → ⊥) where
  begun_in : possible BeginIn f ≡ true → New c n → Right BeginIn f n c d
  unfolding numbers_driven
  begun_in ok new = put_numbers drive_in (bears f) (bears (after_event BeginIn f)) n M (idle f ok) (begin_in f) c new d z

  begun_out : Right BeginOut f n c d
  unfolding numbers_driven
  begun_out = (λ h. h, λ h. h)

  done_in : Sound f → f drive_in ≡ true → Right EndDone f n c d
  done_in s e =
      subst (λ (m : Numbers). Has m d ↔ Remains EndDone f n c d) (sym (arrived f n c M))
      (let (there, back) =
      carried_numbers (bears f) (bears (after_event EndDone f)) (arriving raised_car drive_in) n refl (arriving_bears f n c M s e) M d z in
      (λ h. (there h, λ o. clash o (into f s e).0), λ h. back h.0))

  done_out : possible EndDone f ≡ true → f drive_in ≡ false → Right EndDone f n c d
  done_out ok e =
      subst (λ (m : Numbers). Has m d ↔ Remains EndDone f n c d) (sym (left f n c M e))
      (let (there, back) = drop_numbers raised_car (bears f) (bears (after_event EndDone f)) n M (leaving_bears f n c M e) d z in
      (λ h. ((there h).0, λ o. (there h).1), λ h. back (h.0, h.1 (out_of f ok e))))

  not_done : Right EndNotDone f n c d
  not_done =
      subst (λ (m : Numbers). Has m d ↔ Remains EndNotDone f n c d) (sym (dropped f n c M))
      (drop_numbers drive_in (bears f) (bears (after_event EndNotDone f)) n M (end_not_done f) d z)

-- ---- the statements

pub after_marked : (e : Event) (f : Bits) (n : Numbers) (c : ℕ) → Sound f → possible e f ≡ true → Cards f n → BringsNew e c n
    → Marked (bears (after_event e f)) (numbers_driven e c n)
after_marked e f n c s ok cards = marked_after e f n c s ok (cards_marked f n s.layout.0 s.layout.1 cards)

pub event_kept : EventKept
event_kept e f n c s ok cards new = marked_cards (after_event e f) (numbers_driven e c n) (after_marked e f n c s ok cards new)

pub event_has : EventHas
event_has e f n c s ok cards new d z = go e ok new (cards_marked f n s.layout.0 s.layout.1 cards)
  where
    go : (e : Event) → possible e f ≡ true → BringsNew e c n → Marked (bears f) n → Right e f n c d
    go BeginIn ok new M = begun_in f n c M d z ok (new refl)
    go BeginOut ok new M = begun_out f n c M d z
    go EndDone ok new M = split (f drive_in) (done_in f n c M d z s) (done_out f n c M d z ok)
    go EndNotDone ok new M = not_done f n c M d z

pub driven_in_has : DrivenInHas
unfolding numbers_driven numbers_taken
driven_in_has n c = refl

pub event_numbers : EventNumbers
unfolding numbers_driven numbers_taken
event_numbers = record {
  outside = λ e c n k o. outside e c n k (not_here raised_car k refl o) (not_here drive_in k refl o);
  inside = λ e c n m a k h. inside e c n m a k h;
}
  where
    -- a place outside is none of these
    not_here : (p k : ℕ) → lift_area p ≡ true → lift_area k ≡ false → eqb p k ≡ false
    not_here p k a o = off (eqb p k) (λ t. clash (ap lift_area (sym (eqb-true p k t)) ∙ a) o)

    outside : (e : Event) (c : ℕ) (n : Numbers) (k : ℕ) → eqb raised_car k ≡ false → eqb drive_in k ≡ false → numbers_driven e c n k ≡ n k
    outside BeginIn c n k t u = rw u
    outside BeginOut c n k t u = refl
    outside EndDone c n k t u = rw (t, u)
    outside EndNotDone c n k t u = rw u

    inside : (e : Event) (c : ℕ) (n m : Numbers) → SameOn lift_area n m → (k : ℕ) → lift_area k ≡ true → numbers_driven e c n k ≡ numbers_driven e c m k
    inside BeginIn c n m a k h = ap (cond (eqb drive_in k) c) (a k h)
    inside BeginOut c n m a k h = a k h
    inside EndDone c n m a k h = ap₂ (λ (x y : ℕ). cond (eqb raised_car k) x (cond (eqb drive_in k) 0 y)) (a drive_in refl) (a k h)
    inside EndNotDone c n m a k h = ap (cond (eqb drive_in k) 0) (a k h)
