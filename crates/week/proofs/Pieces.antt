-- However the input is cut into pieces, it is counted the same: a count over some bytes, and then all that happens by what it left with
-- more behind it, is all that happens by the whole. Assumes nothing.
use mathlib.Core.Path.{◌≡◌, refl, sym, ap, ◌∙◌}
use mathlib.Core.Bool.{Bool, true, false, cond}
use mathlib.Core.List.{List, [], ◌∷◌, ◌++◌, append_assoc, append-nil}
use Prim.Native.Nat.{ℕ, zero, suc, ◌+◌, ◌≤◌}
use native.Mathlib.Omega.{arith}
use lib.ListN.{length, drop, get_or-append}
use lib.Seq.{drop-append-le, drop-drop}
use Rattle.std.specs.declared.option.Option.{Option}
use Rattle.std.specs.Prelude.{is_none}
use Rattle.bits.specs.Places.{join}
use Rattle.bits.proofs.Cases.{split}
use Rattle.station.specs.declared.Station.{Station}
use Rattle.wire.specs.declared.Frame.{Frame}
use Rattle.wire.specs.declared.Frame.TheVariants.{Cut, Wrong, Whole}
use Rattle.wire.specs.Reads.{frame_of, kind_at, read_asked}
use Rattle.wire.proofs.Frames.{whole_frame}
use Rattle.service.specs.Service.{respond, no_bytes}
use Rattle.service.proofs.Running.{none_cut, shorter}
use Rattle.service.proofs.Pieces.{whole_more, wrong_more, reading_more, reading_wrong, reply_more, same_reply, same_going, unless_stopped}
use Rattle.totals.specs.declared.Happened.{Happened}
use Rattle.totals.specs.declared.Totals.{Totals}
use Rattle.totals.specs.declared.Tally.{Tally}
use Rattle.totals.specs.Totals.{counted_in, counted_all}
use Rattle.totals.proofs.Steps.{none_told}
use Rattle.week.specs.Weeks.{kind_read, happened, happenings_for, happenings}
use Rattle.week.specs.Counts.{Counting, tally_in, count_ends, count_further, count_after, count_for, count_on, count_end, count_fed}
use Rattle.week.specs.Promises.{WeekCutAnywhere}
use Rattle.week.proofs.Telling.{whole_kind, wrong_kind}

-- ---- what stands behind a message changes nothing

-- what happens rests on the kind and on what is read
same_happened : (s : Station) (a b : List ℕ) → kind_read a ≡ kind_read b → read_asked a ≡ read_asked b → happened s a ≡ happened s b
unfolding happened
same_happened s a b k e = rw (k, e, same_reply s a b e)

kind_more : (a t : List ℕ) → 4 ≤ length a → kind_at (a ++ t) ≡ kind_at a
kind_more a t h = rw (get_or-append a t 0 2 (omega arith), get_or-append a t 0 3 (omega arith))

happened_more : (s : Station) (a t : List ℕ) (n : ℕ) → frame_of a ≡ Whole n → happened s (a ++ t) ≡ happened s a
happened_more s a t n e =
    let f = whole_frame a n e in
    same_happened s (a ++ t) a
    (whole_kind (a ++ t) n (whole_more a t n e) ∙ rw (kind_more a t (omega arith)) (sym (whole_kind a n e)))
    (reading_more a t n e)

happened_wrong : (s : Station) (a t : List ℕ) → frame_of a ≡ Wrong → happened s (a ++ t) ≡ happened s a
happened_wrong s a t e =
    let w = wrong_more a t e in
    same_happened s (a ++ t) a (wrong_kind (a ++ t) w ∙ sym (wrong_kind a e)) (reading_wrong (a ++ t) w ∙ sym (reading_wrong a e))

-- ---- all that happens, message after message

-- more turns than bytes change nothing
same : (k j : ℕ) (s : Station) (input : List ℕ) → length input ≤ k → length input ≤ j → happenings_for k s input ≡ happenings_for j s input
unfolding happenings_for
same zero zero s input h g = refl
same zero (suc j) s [] h g = refl
same zero (suc j) s (b ∷ bs) h g = absurd (omega arith)
same (suc k) zero s [] h g = refl
same (suc k) zero s (b ∷ bs) h g = absurd (omega arith)
same (suc k) (suc j) s input h g =
    ap (λ (r : List Happened). cond (no_bytes input) [] (happened s input ∷ r))
    (let x = (respond s input).station in
    same_going (frame_of input) (happenings_for k x) (happenings_for j x) input refl (λ rest l. same k j x rest (omega arith) (omega arith)))

happenings_wrong : (s : Station) (input : List ℕ) → frame_of input ≡ Wrong → happenings s input ≡ happened s input ∷ []
unfolding happenings_for
happenings_wrong s [] e = let z : ◌≡◌ {A = ℕ} 0 1 = cc in absurd (omega arith)
happenings_wrong s (b ∷ bs) e = rw e

happenings_whole : (s : Station) (input : List ℕ) (n : ℕ) → frame_of input ≡ Whole n
    → happenings s input ≡ happened s input ∷ happenings (respond s input).station (drop n input)
unfolding happenings_for
happenings_whole s [] n e = let z : ◌≡◌ {A = ℕ} 0 1 = cc in absurd (omega arith)
happenings_whole s (b ∷ bs) n e =
    let l = shorter (b ∷ bs) n e in
    rw e
    (ap (◌∷◌ (happened s (b ∷ bs)))
    (same (length bs) (length (drop n (b ∷ bs))) (respond s (b ∷ bs)).station (drop n (b ∷ bs)) (omega arith) (omega arith)))

-- ---- counted

-- one alone
counted_one : (t : Totals) (h : Happened) → counted_all t (h ∷ []) ≡ counted_in t h
unfolding counted_all
counted_one t h =
    let c = counted_in t h in
    split (is_none c.full)
    (λ q. rw q (ap (λ (p : Option ℕ). record { totals = c.totals; full = p }) (sym (none_told c.full q))))
    (λ q. rw q)

-- the end of the input
counted_cut : (t : Totals) (s : Station) (input : List ℕ) → frame_of input ≡ Cut → counted_all t (happenings s input) ≡ count_end t s input
unfolding happenings_for count_end counted_all
counted_cut t s [] e = refl
counted_cut t s (b ∷ bs) e = rw e (counted_one t (happened s (b ∷ bs)))

-- ---- a count, and then the rest with more behind it

-- a count's totals, and all that happens by the rest counted in them
abbrev onwards : Counting → List ℕ → List ℕ → Tally
onwards w a u = cond w.says.stop (tally_in w) (counted_all w.leaves (happenings w.says.station (drop w.says.used a ++ u)))

-- on after a message, or a total was full
going_on : (b : Bool) (w : Counting) (c : Tally) (s : Station) (a u : List ℕ) {x : Tally} → x ≡ onwards w a u
    → cond b x c ≡ onwards (cond b w (count_ends s c true)) a u
going_on true w c s a u e = e
going_on false w c s a u e = refl

pub happenings_more : (s : Station) (a u : List ℕ) (n : ℕ) → frame_of a ≡ Whole n
    → happenings s (a ++ u) ≡ happened s a ∷ happenings (respond s a).station (drop n a ++ u)
happenings_more s a u n e =
    happenings_whole s (a ++ u) n (whole_more a u n e)
    ∙ rw (happened_more s a u n e, reply_more s a u n e, drop-append-le n a u (whole_frame a n e).within)

turned : (f : Frame) (go : Totals → Station → List ℕ → Counting) (t : Totals) (s : Station) (a u : List ℕ) → frame_of a ≡ f
    → ((v : Totals) (x : Station) (b : List ℕ) → length b + 4 ≤ length a → counted_all v (happenings x (b ++ u)) ≡ onwards (go v x b) b u)
    → counted_all t (happenings s (a ++ u)) ≡ onwards (count_after f go t s a) a u
unfolding counted_all
turned Cut go t s a u e rec = refl
turned Wrong go t s a u e rec =
    ap (counted_all t) (happenings_wrong s (a ++ u) (wrong_more a u e) ∙ ap (λ (h : Happened). h ∷ []) (happened_wrong s a u e))
    ∙ counted_one t (happened s a)
turned (Whole n) go t s a u e rec =
    let x = (respond s a).station in
    let c = counted_in t (happened s a) in
    let w = go c.totals x (drop n a) in
    ap (counted_all t) (happenings_more s a u n e)
    ∙ going_on (is_none c.full) (count_further n w) c s a u
    (rec c.totals x (drop n a) (shorter a n e) ∙ rw (drop-drop w.says.used n a))

in_pieces : (k : ℕ) (t : Totals) (s : Station) (a u : List ℕ) → length a ≤ k → counted_all t (happenings s (a ++ u)) ≡ onwards (count_for k t s a) a u
unfolding count_for
in_pieces zero t s a u h = refl
in_pieces (suc k) t s a u h = turned (frame_of a) (count_for k) t s a u refl (λ v x b l. in_pieces k v x b u (omega arith))

-- what a count leaves is cut short, unless it stopped
stopped_or : (b : Bool) (w : Counting) (c : Tally) (s : Station) (a : List ℕ) → (w.says.stop ≡ false → frame_of (drop w.says.used a) ≡ Cut)
    → (cond b w (count_ends s c true)).says.stop ≡ false → frame_of (drop (cond b w (count_ends s c true)).says.used a) ≡ Cut
stopped_or true w c s a f q = f q
stopped_or false w c s a f q = let z : ◌≡◌ {A = ℕ} 0 1 = cc in absurd (omega arith)

left : (f : Frame) (go : Totals → Station → List ℕ → Counting) (t : Totals) (s : Station) (a : List ℕ) → frame_of a ≡ f
    → ((v : Totals) (x : Station) (b : List ℕ) → length b + 4 ≤ length a → (go v x b).says.stop ≡ false → frame_of (drop (go v x b).says.used b) ≡ Cut)
    → (count_after f go t s a).says.stop ≡ false → frame_of (drop (count_after f go t s a).says.used a) ≡ Cut
left Cut go t s a e rec q = e
left Wrong go t s a e rec q = let z : ◌≡◌ {A = ℕ} 0 1 = cc in absurd (omega arith)
left (Whole n) go t s a e rec q =
    let x = (respond s a).station in
    let c = counted_in t (happened s a) in
    let w = go c.totals x (drop n a) in
    stopped_or (is_none c.full) (count_further n w) c s a
    (λ p. rw (← drop-drop w.says.used n a) (rec c.totals x (drop n a) (shorter a n e) p)) q

pub left_cut : (k : ℕ) (t : Totals) (s : Station) (a : List ℕ) → length a ≤ k → (count_for k t s a).says.stop ≡ false
    → frame_of (drop (count_for k t s a).says.used a) ≡ Cut
unfolding count_for
left_cut zero t s a h q = none_cut a h
left_cut (suc k) t s a h q = left (frame_of a) (count_for k) t s a refl (λ v x b l p. left_cut k v x b (omega arith) p) q

-- ---- all pieces

all_pieces : (t : Totals) (s : Station) (held : List ℕ) (pieces : List (List ℕ)) → frame_of held ≡ Cut
    → count_fed t s held pieces ≡ counted_all t (happenings s (held ++ join pieces))
unfolding count_fed
all_pieces t s held [] e = sym (ap (λ (l : List ℕ). counted_all t (happenings s l)) (append-nil held) ∙ counted_cut t s held e)
all_pieces t s held (p ∷ ps) e =
    let a = held ++ p in
    let w = count_on t s a in
    unless_stopped w.says.stop (tally_in w)
    (λ q. all_pieces w.leaves w.says.station (drop w.says.used a) ps (left_cut (length a) t s a (omega arith) q))
    ∙ sym (ap (λ (l : List ℕ). counted_all t (happenings s l)) (sym (append_assoc held p (join ps))) ∙ in_pieces (length a) t s a (join ps) (omega arith))

pub week_cut_anywhere : WeekCutAnywhere
week_cut_anywhere t s pieces = all_pieces t s [] pieces refl
