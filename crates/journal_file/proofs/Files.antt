-- Appends that are taken carry whole messages: replay is the station's own run, it goes on after a restart, and an append more keeps it a
-- journal. Assumes nothing.
use mathlib.Core.Path.{◌≡◌, refl, sym, ap, ap₂, subst, ◌∙◌}
use mathlib.Core.Logic.{◌⊎◌, inl, inr, ⊎_elim}
use mathlib.Core.Bool.{Bool, true, false, cond, not, ◌||◌}
use mathlib.Core.List.{List, [], ◌∷◌, ◌++◌, append-nil}
use Prim.Native.Nat.{ℕ, ◌+◌, ◌-◌, ◌^◌, ◌≤◌, ◌<◌}
use native.Mathlib.Omega.{arith}
use borrow.Author.Tests.{not-false, eqb-true, eq-eqb, ne_eqb, le-ltb, ltb-false}
use lib.Dec.{eqb, ltb}
use lib.ListN.{length, get_or, take, drop, length-drop}
use lib.Seq.{take-length, length-take-le}
use Rattle.bits.specs.Places.{join}
use Rattle.bits.proofs.Cases.{neither, clash}
use Rattle.station.specs.declared.Station.{Station}
use Rattle.service.specs.Service.{answers_on}
use Rattle.service.specs.Runs.{Ran, run}
use Rattle.journal.specs.Journal.{station_after_messages, Follows}
use Rattle.journal.proofs.Restart.{messages_alone, goes_on_from}
use Rattle.journal.proofs.Which.{only_messages, both_messages, join_both, after_both}
use Rattle.checksum.specs.Checksum.{crc_over}
use Rattle.journal_file.specs.declared.Front.{Front}
use Rattle.journal_file.specs.declared.Replay.{Replay}
use Rattle.journal_file.specs.declared.Step.{Step}
use Rattle.journal_file.specs.Appends.{around, sum_after, append_of, carried_of, payload_of, carries_messages, lead_of, carried_messages, whole_front, front_of}
use Rattle.journal_file.specs.Replaying.{not_taken, append_taken, messages_taken, mark_most, mark_taken, step_by, step_of, Leads}
use Rattle.journal_file.specs.Statements.{recorded_in, ReplayFollows, FileGoesOn, FileKeepsUp, FileKeepsCards, MarkKind, FileKeepsMark}
use Rattle.journal_file.proofs.Fronts.{Whole, whole}
use Rattle.journal_file.proofs.Taking.{third_of, last_of}
use Rattle.journal_file.proofs.Forms.{append_reads_back, payload_back, kind_back, append_long}

-- ---- whole messages

none_follow : (s : Station) → Follows s [] s
none_follow s = record { messages = []; each = tt; bytes_are = refl; station = refl }

pub both_follow : {s t u : Station} {a b : List ℕ} → Follows s a t → Follows t b u → Follows s (a ++ b) u
both_follow {s} {t} {u} {a} {b} f g =
    record {
      messages = f.messages ++ g.messages;
      each = both_messages f.messages g.messages f.each g.each;
      bytes_are = ap₂ ◌++◌ f.bytes_are g.bytes_are ∙ sym (join_both f.messages g.messages);
      station = g.station ∙ ap (λ (x : Station). station_after_messages x g.messages) f.station ∙ sym (after_both s f.messages g.messages);
    }

-- a run that takes all bytes
all_follow_lem : (s : Station) (p : List ℕ) → (run s p).used ≡ length p → Follows s p (run s p).station
all_follow_lem s p e =
    subst (λ (l : List ℕ). Follows s l (run s p).station) (ap (λ (n : ℕ). take n p) e ∙ take-length p) (only_messages s p).follows

-- and the run of whole messages
pub run_of_lem : {s next : Station} {p : List ℕ} → Follows s p next → ((run s p).used ≡ length p) × ((run s p).station ≡ next)
run_of_lem {s} {next} {p} f =
    let e = ap (run s) f.bytes_are ∙ messages_alone s f.messages f.each in
    (ap (λ (r : Ran). r.used) e ∙ sym (ap length f.bytes_are), ap (λ (r : Ran). r.station) e ∙ sym f.station)

-- ---- an append that is taken

by_kind : {C : Type 0} (w c k : Bool) (a b t m : Step) → a.took ≡ 0 → b.took ≡ 0 → 0 < (cond (not w) a (cond c b (cond k t m))).took
    → (w ≡ true → k ≡ true → 0 < t.took → cond (not w) a (cond c b (cond k t m)) ≡ t → C)
    → (w ≡ true → k ≡ false → cond (not w) a (cond c b (cond k t m)) ≡ m → C) → C
by_kind false c k a b t m x y h f g = absurd (omega arith)
by_kind true true k a b t m x y h f g = absurd (omega arith)
by_kind true false true a b t m x y h f g = f refl refl h refl
by_kind true false false a b t m x y h f g = g refl refl refl

passes : (z : Bool) (b t : Step) → b.took ≡ 0 → 0 < (cond z b t).took → (z ≡ false) × (cond z b t ≡ t)
passes true b t x h = absurd (omega arith)
passes false b t x h = (refl, refl)

-- whatever a mark is, the station stays
mark_stays : (x y z : Bool) (s : Station) (b t u : Step) → b.replay.station ≡ s → t.replay.station ≡ s → u.replay.station ≡ s
    → (cond x b (cond y t (cond z u b))).replay.station ≡ s
mark_stays true y z s b t u p q r = p
mark_stays false true z s b t u p q r = q
mark_stays false false true s b t u p q r = r
mark_stays false false false s b t u p q r = p

module _ (r : Replay) (a : List ℕ) where
  abbrev w : Ran
  w = run r.station (carried_messages a)

  abbrev f : Front
  f = front_of crc_over r.sum a

  abbrev carried_messages_lem : List ℕ
  carried_messages_lem = cond (carries_messages (get_or a 0 0)) (carried_messages a) []

  -- the bytes that a whole append carries are so many
  carried_long : Whole crc_over r.sum a → length (payload_of a) ≡ carried_of a
  carried_long x = length-take-le (carried_of a) (drop 8 a) (let l = length-drop 8 a in let h = x.within in omega arith)

  -- and its messages are what is behind the numbers
  messages_long : Whole crc_over r.sum a → length (carried_messages a) ≡ carried_of a - lead_of (get_or a 0 0)
  messages_long x = length-drop (lead_of (get_or a 0 0)) (payload_of a) ∙ ap (λ (n : ℕ). n - lead_of (get_or a 0 0)) (carried_long x)

  of_messages : f.whole ≡ true → carries_messages f.kind ≡ true → 0 < (messages_taken r f w.used w.station).took
      → Follows r.station carried_messages_lem (messages_taken r f w.used w.station).replay.station
  of_messages e k h =
      let x = whole crc_over r.sum a e in
      let first = eqb f.carries 0 || ltb f.carries (lead_of f.kind) in
      let long = f.carries - lead_of f.kind in
      let p = passes (first || not (eqb w.used long)) (not_taken r false) (append_taken w.station f false) refl h in
      let used : w.used ≡ long = eqb-true w.used long (not-false _ (neither first (not (eqb w.used long)) p.0).1) in
      let all : w.used ≡ length (carried_messages a) = used ∙ ap (λ (g : Front). g.carries - lead_of g.kind) x.is ∙ sym (messages_long x) in
      let kind : carries_messages (get_or a 0 0) ≡ true = ap (λ (g : Front). carries_messages g.kind) (sym x.is) ∙ k in
      rw (kind, ap (λ (q : Step). q.replay.station) p.1) (all_follow_lem r.station (carried_messages a) all)

  of_mark : f.whole ≡ true → carries_messages f.kind ≡ false → Follows r.station carried_messages_lem (mark_taken r f).replay.station
  of_mark e k =
      let x = whole crc_over r.sum a e in
      let kind : carries_messages (get_or a 0 0) ≡ false = ap (λ (g : Front). carries_messages g.kind) (sym x.is) ∙ k in
      let stays : (mark_taken r f).replay.station ≡ r.station =
      mark_stays (ltb (mark_most f.kind) f.carries) (eqb f.kind 4) (eqb f.kind 2 || eqb f.kind 3) r.station (not_taken r false) (append_taken r.station f true)
      (append_taken r.station f false) refl refl refl in
      rw (kind, stays) (none_follow r.station)

  pub one_follows : 0 < (step_of crc_over r a).took → Follows r.station carried_messages_lem (step_of crc_over r a).replay.station
  unfolding step_of
  one_follows h =
      by_kind f.whole r.closed (carries_messages f.kind) (not_taken r f.short) (not_taken r false) (messages_taken r f w.used w.station) (mark_taken r f)
      refl refl h (λ e k t q. rw (ap (λ (x : Step). x.replay.station) q) (of_messages e k t)) (λ e k q. rw (ap (λ (x : Step). x.replay.station) q) (of_mark e k))

  -- an append of messages that is taken has all that stands before them
  pub lead_within : 0 < (step_of crc_over r a).took → carries_messages (get_or a 0 0) ≡ true → lead_of (get_or a 0 0) ≤ length (payload_of a)
  unfolding step_of
  lead_within h k =
      by_kind f.whole r.closed (carries_messages f.kind) (not_taken r f.short) (not_taken r false) (messages_taken r f w.used w.station) (mark_taken r f)
      refl refl h (λ e j t q. has_lead e t) (λ e j q. clash k (ap (λ (g : Front). carries_messages g.kind) (sym (whole crc_over r.sum a e).is) ∙ j))
    where
      has_lead : f.whole ≡ true → 0 < (messages_taken r f w.used w.station).took → lead_of (get_or a 0 0) ≤ length (payload_of a)
      has_lead e t =
          let x = whole crc_over r.sum a e in
          let first = eqb f.carries 0 || ltb f.carries (lead_of f.kind) in
          let last = not (eqb w.used (f.carries - lead_of f.kind)) in
          let p = passes (first || last) (not_taken r false) (append_taken w.station f false) refl t in
          let n = (neither (eqb f.carries 0) (ltb f.carries (lead_of f.kind)) (neither first last p.0).0).1 in
          let g : lead_of (get_or a 0 0) ≤ carried_of a = subst (λ (y : Front). lead_of y.kind ≤ y.carries) x.is (ltb-false f.carries (lead_of f.kind) n) in
          let l = carried_long x in
          omega (arith, g, l)

-- ---- all of them

pub replay_follows : ReplayFollows
replay_follows r q [] l = record { messages = []; each = tt; bytes_are = refl; station = ap (λ (x : Replay). x.station) l }
replay_follows r q (a ∷ more) (h, t, l) =
    both_follow (one_follows r a (omega (arith, h, t))) (replay_follows (step_of crc_over r a).replay q more l)

-- whole messages are answered, and then what the station that they make answers
pub follows_goes_on : {s next : Station} {p : List ℕ} → Follows s p next → (input : List ℕ) → answers_on s (p ++ input) ≡ (run s p).bytes ++ answers_on next input
follows_goes_on {s} {next} {p} f input =
    let ms = f.messages in
    ap (λ (m : List ℕ). answers_on s (m ++ input)) f.bytes_are
    ∙ goes_on_from s ms input f.each
    ∙ ap₂ (λ (m : List ℕ) (t : Station). m ++ answers_on t input)
    (sym (ap (λ (m : List ℕ). (run s m).bytes) f.bytes_are ∙ ap (λ (x : Ran). x.bytes) (messages_alone s ms f.each))) (sym f.station)

pub file_goes_on : FileGoesOn
file_goes_on r q appends input l = follows_goes_on (replay_follows r q appends l) input

-- ---- one more

pub leads_more : (r q next : Replay) (appends : List (List ℕ)) (a : List ℕ) → Leads r appends q → 0 < length a → (step_of crc_over q a).took ≡ length a
    → next ≡ (step_of crc_over q a).replay → Leads r (appends ++ (a ∷ [])) next
leads_more r q next [] a l h t e =
    subst (λ (x : Replay). (0 < length a) × ((step_of crc_over x a).took ≡ length a) × (next ≡ (step_of crc_over x a).replay)) l (h, t, e)
leads_more r q next (b ∷ more) a (x, y, l) h t e = (x, y, leads_more (step_of crc_over r b).replay q next more a l h t e)

-- whichever kind of append has the messages
module _ (q : Replay) (kind : ℕ) (bytes : List ℕ) (next : Station) (unclosed : q.closed ≡ false) (small : q.sum < 2 ^ 32)
    (has : carries_messages kind ≡ true) (follows : Follows q.station (drop (lead_of kind) bytes) next)
    (some : 0 < length bytes) (enough : lead_of kind ≤ length bytes) (fits : length bytes ≤ 65536) where
  abbrev written : List ℕ
  written = append_of crc_over q.sum kind bytes

  abbrev there : Front
  there = record { whole = true; short = false; kind = kind; carries = length bytes; sum = sum_after crc_over q.sum kind bytes }

  abbrev long : ℕ
  long = length (drop (lead_of kind) bytes)

  front_there : front_of crc_over q.sum written ≡ there
  front_there = ap (front_of crc_over q.sum) (sym (append-nil written)) ∙ append_reads_back q.sum kind bytes [] small fits

  all_used : (eqb (length bytes) 0 || ltb (length bytes) (lead_of kind)) || not (eqb long (length bytes - lead_of kind)) ≡ false
  all_used =
      ap₂ (λ (x y : Bool). x || not y)
      (ap₂ ◌||◌ (ne_eqb (length bytes) 0 (λ (e : length bytes ≡ 0). omega (arith, some, e))) (le-ltb (length bytes) (lead_of kind) enough))
      (eq-eqb long (length bytes - lead_of kind) (length-drop (lead_of kind) bytes))

  messages_there : messages_taken q there long next ≡ append_taken next there false
  messages_there = ap (λ (x : Bool). cond x (not_taken q false) (append_taken next there false)) all_used

  by_there : step_by q there long next ≡ append_taken next there false
  by_there =
      sym (third_of false q.closed (carries_messages kind) (not_taken q false) (not_taken q false) (messages_taken q there long next) (mark_taken q there) refl unclosed has)
      ∙ messages_there

  step_there : step_of crc_over q written ≡ append_taken next there false
  unfolding step_of
  step_there =
      let p : carried_messages written ≡ drop (lead_of kind) bytes =
      ap₂ (λ (k : ℕ) (m : List ℕ). drop (lead_of k) m) (kind_back crc_over q.sum kind bytes) (payload_back q.sum kind bytes small fits) in
      let ran = run_of_lem follows in
      let used : (run q.station (carried_messages written)).used ≡ long = ap (λ (m : List ℕ). (run q.station m).used) p ∙ ran.0 in
      let station : (run q.station (carried_messages written)).station ≡ next = ap (λ (m : List ℕ). (run q.station m).station) p ∙ ran.1 in
      rw (front_there, used, station) by_there

  keeps : (r : Replay) (appends : List (List ℕ)) → Leads r appends q
      → Leads r (appends ++ (written ∷ [])) (record { station = next; sum = sum_after crc_over q.sum kind bytes; closed = false })
  keeps r appends l =
      let e = step_there in
      let n = append_long q.sum kind bytes small fits in
      leads_more r q (record { station = next; sum = sum_after crc_over q.sum kind bytes; closed = false }) appends written l (omega (arith, n))
      (ap (λ (x : Step). x.took) e ∙ sym n) (sym (ap (λ (x : Step). x.replay) e))

pub file_keeps_up : FileKeepsUp
file_keeps_up r q appends bytes next l unclosed small follows some fits =
    keeps q 1 bytes next unclosed small refl follows some (omega arith) fits r appends l

pub file_keeps_cards : FileKeepsCards
file_keeps_cards r q appends bytes next l unclosed small follows enough fits =
    keeps q 5 bytes next unclosed small refl follows (omega (arith, enough)) enough fits r appends l

-- ---- a mark

module _ (q : Replay) (kind : ℕ) (bytes : List ℕ) (unclosed : q.closed ≡ false) (small : q.sum < 2 ^ 32) (mark : MarkKind kind)
    (fits : length bytes ≤ mark_most kind) where
  abbrev marked : List ℕ
  marked = append_of crc_over q.sum kind bytes

  abbrev mark_there : Front
  mark_there = record { whole = true; short = false; kind = kind; carries = length bytes; sum = sum_after crc_over q.sum kind bytes }

  -- it carries less than an append may
  few : length bytes ≤ 65536
  few = let h = cond_most (eqb kind 4) in omega (arith, h, fits)
    where
      cond_most : (b : Bool) → cond b 0 44 ≤ 44
      cond_most true = omega arith
      cond_most false = omega arith

  no_other : (n : ℕ) → (2 ≡ n → ⊥) → (3 ≡ n → ⊥) → (4 ≡ n → ⊥) → eqb kind n ≡ false
  no_other n x y z =
      ne_eqb kind n (λ (e : kind ≡ n). ⊎_elim (λ (k : kind ≡ 2). x (sym k ∙ e)) (⊎_elim (λ (k : kind ≡ 3). y (sym k ∙ e)) (λ (k : kind ≡ 4). z (sym k ∙ e))) mark)

  no_message : carries_messages kind ≡ false
  no_message =
      ap₂ ◌||◌ (no_other 1 (λ (e : 2 ≡ 1). omega (arith, e)) (λ (e : 3 ≡ 1). omega (arith, e)) (λ (e : 4 ≡ 1). omega (arith, e)))
      (no_other 5 (λ (e : 2 ≡ 5). omega (arith, e)) (λ (e : 3 ≡ 5). omega (arith, e)) (λ (e : 4 ≡ 5). omega (arith, e)))

  front_marked : front_of crc_over q.sum marked ≡ mark_there
  front_marked = ap (front_of crc_over q.sum) (sym (append-nil marked)) ∙ append_reads_back q.sum kind bytes [] small few

  -- what a mark of some kind is taken as
  abbrev Marks : ℕ → Type 0
  Marks k =
      ltb (mark_most k) (length bytes) ≡ false
      → let f : Front = record { whole = true; short = false; kind = k; carries = length bytes; sum = sum_after crc_over q.sum kind bytes } in
      mark_taken q f ≡ append_taken q.station f (eqb k 4)

  of_kind : mark_taken q mark_there ≡ append_taken q.station mark_there (eqb kind 4)
  of_kind =
      ⊎_elim (λ (e : kind ≡ 2). subst Marks (sym e) (λ n. rw n))
      (⊎_elim (λ (e : kind ≡ 3). subst Marks (sym e) (λ n. rw n)) (λ (e : kind ≡ 4). subst Marks (sym e) (λ n. rw n))) mark
      (le-ltb (mark_most kind) (length bytes) fits)

  step_marked : step_of crc_over q marked ≡ append_taken q.station mark_there (eqb kind 4)
  unfolding step_of
  step_marked =
      let w = run q.station (carried_messages marked) in
      rw front_marked
      (sym (last_of false q.closed (carries_messages kind) (not_taken q false) (not_taken q false) (messages_taken q mark_there w.used w.station) (mark_taken q mark_there) refl unclosed no_message)
      ∙ of_kind)

pub file_keeps_mark : FileKeepsMark
file_keeps_mark r q appends kind bytes l unclosed small mark fits =
    let e = step_marked q kind bytes unclosed small mark fits in
    let n = append_long q.sum kind bytes small (few q kind bytes unclosed small mark fits) in
    leads_more r q (record { station = q.station; sum = sum_after crc_over q.sum kind bytes; closed = eqb kind 4 }) appends (append_of crc_over q.sum kind bytes) l
    (omega (arith, n)) (ap (λ (x : Step). x.took) e ∙ sym n) (sym (ap (λ (x : Step). x.replay) e))
