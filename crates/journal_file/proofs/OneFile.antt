-- No burst makes one journal of another: the heads are the same, and then append by append. Assumes nothing.
use mathlib.Core.Path.{◌≡◌, refl, sym, ap, ap₂, ◌∙◌, subst}
use mathlib.Core.Bool.{Bool, true, false, cond, not, ◌||◌, ◌&&◌}
use mathlib.Core.List.{List, [], ◌∷◌, ◌++◌}
use Prim.Native.Nat.{ℕ, ◌+◌, ◌-◌, ◌*◌, ◌^◌, ◌≤◌, ◌<◌}
use native.Mathlib.Omega.{arith}
use lib.Dec.{eqb, leb, ltb}
use lib.ListN.{length, get_or, take, drop, length-append, length-drop, get_or-append}
use lib.Seq.{take_at, drop_at, take-append-le, drop-append-le}
use Rattle.bits.specs.Places.{join}
use Rattle.bits.proofs.Cases.{split}
use Rattle.codec.specs.Bytes.{from_little_endian}
use Rattle.codec.specs.Fours.{four_at}
use Rattle.checksum.specs.Checksum.{crc_over}
use Rattle.checksum.specs.Bursts.{Burst}
use Rattle.checksum.proofs.Promises.{crc_lt}
use Rattle.checksum.proofs.Running.{four_at_lem}
use Rattle.checksum.proofs.Stored.{burst_drop, stored_burst_found}
use Rattle.station.specs.declared.Station.{Station}
use Rattle.service.specs.Runs.{run}
use Rattle.journal_file.specs.declared.Front.{Front}
use Rattle.journal_file.specs.declared.Replay.{Replay}
use Rattle.journal_file.specs.declared.Step.{Step}
use Rattle.journal_file.specs.Appends.{cut_short_kind, bad_length_kind, closed_kind, most_carried, end_mark, carried_of, payload_of, carries_messages, lead_of, carried_messages, titled, payload_right, whole_front, front_of}
use Rattle.journal_file.specs.Replaying.{not_taken, append_taken, messages_taken, mark_most, mark_taken, step_by, step_of, file_replay_begun, Leads}
use Rattle.journal_file.specs.Damage.{IsJournal, JournalBurstFound}
use Rattle.journal_file.proofs.Fronts.{Whole, whole, whole_at}
use Rattle.journal_file.proofs.Damage.{title_sum, carried_sum, same_carried, same_append, good_sum, head_sum_is}

-- ---- what was taken

-- a step that took something took what stands at the front, and the next goes on from its checksum
abbrev Fair : Front → Step → Type 0
Fair f s = 0 < s.took → (s.took ≡ f.carries + 13) × (s.replay.sum ≡ f.sum)

module _ (f : Front) where
  fair_none : (r : Replay) (b : Bool) → Fair f (not_taken r b)
  fair_none r b h = absurd (omega arith)

  fair_taken : (s : Station) (b : Bool) → Fair f (append_taken s f b)
  fair_taken s b h = (refl, refl)

  fair_of : (b : Bool) (x y : Step) → Fair f x → Fair f y → Fair f (cond b x y)
  fair_of true x y p q = p
  fair_of false x y p q = q

  fair_mark : (r : Replay) → Fair f (mark_taken r f)
  fair_mark r =
      fair_of (ltb (mark_most f.kind) f.carries) _ _ (fair_none r false)
      (fair_of (eqb f.kind closed_kind) _ _ (fair_taken r.station true)
      (fair_of (eqb f.kind cut_short_kind || eqb f.kind bad_length_kind) _ _ (fair_taken r.station false) (fair_none r false)))

  fair_messages : (r : Replay) (used : ℕ) (next : Station) → Fair f (messages_taken r f used next)
  fair_messages r used next =
      fair_of ((eqb f.carries 0 || ltb f.carries (lead_of f.kind)) || not (eqb used (f.carries - lead_of f.kind))) _ _ (fair_none r false) (fair_taken next false)

  pub fair_step : (r : Replay) (used : ℕ) (next : Station) → Fair f (step_by r f used next)
  fair_step r used next =
      fair_of (not f.whole) _ _ (fair_none r f.short)
      (fair_of r.closed _ _ (fair_none r false)
      (fair_of (carries_messages f.kind) _ _ (fair_messages r used next) (fair_mark r)))

  pub whole_step : (r : Replay) (used : ℕ) (next : Station) → 0 < (step_by r f used next).took → f.whole ≡ true
  whole_step r used next h = split f.whole (λ t. t) (λ t. absurd (none t (rw t at h)))
    where
      none : f.whole ≡ false → 0 < 0 → ⊥
      none t z = omega arith

-- an append that was taken, alone: it is whole, it is all of the bytes, and the next goes on from its checksum
record Took (r : Replay) (a : List ℕ) : Type 0 where
  front : Whole crc_over r.sum a
  size : length a ≡ carried_of a + 13
  next : (step_of crc_over r a).replay.sum ≡ four_at (carried_of a + 8) a

took : (r : Replay) (a : List ℕ) → 0 < length a → (step_of crc_over r a).took ≡ length a → Took r a
unfolding step_of
took r a h e =
    let f = front_of crc_over r.sum a in
    let w = run r.station (carried_messages a) in
    let some : 0 < (step_by r f w.used w.station).took = omega (arith, e) in
    let v = whole crc_over r.sum a (whole_step f r w.used w.station some) in
    let fair = fair_step f r w.used w.station some in
    record {
      front = v;
      size = sym e ∙ fair.0 ∙ ap (λ (x : Front). x.carries + 13) v.is;
      next = fair.1 ∙ ap (λ (x : Front). x.sum) v.is;
    }

-- its checksum is one
next_small : {r : Replay} {a : List ℕ} → Took r a → r.sum < 2 ^ 32 → (step_of crc_over r a).replay.sum < 2 ^ 32
next_small {r} {a} t h =
    let first : four_at 4 a < 2 ^ 32 = rw (title_sum r.sum a t.front.title) (crc_lt r.sum (take 4 a) h) in
    rw (t.next, (carried_sum a t.front.right).0) (crc_lt (four_at 4 a) (payload_of a) first)

-- ---- more bytes behind

pub four_more : (p : ℕ) (a rest : List ℕ) → p + 4 ≤ length a → four_at p (a ++ rest) ≡ four_at p a
four_more p a rest h =
    four_at_lem (a ++ rest) p (omega (arith, length-append a rest)) ∙ ap (from_little_endian 4 0) (drop-append-le p a rest (omega arith))
    ∙ read (drop p a) (omega (arith, length-drop p a)) ∙ sym (four_at_lem a p h)
  where
    read : (x : List ℕ) → 4 ≤ length x → from_little_endian 4 0 (x ++ rest) ≡ from_little_endian 4 0 x
    read x l = omega (arith, get_or-append x rest 0 0 (omega arith), get_or-append x rest 0 1 (omega arith), get_or-append x rest 0 2 (omega arith), get_or-append x rest 0 3 (omega arith))

carried_more : (a rest : List ℕ) → 8 ≤ length a → carried_of (a ++ rest) ≡ carried_of a
carried_more a rest h =
    omega (arith, get_or-append a rest 0 1 (omega arith), get_or-append a rest 0 2 (omega arith), get_or-append a rest 0 3 (omega arith))

whole_more : {sum : ℕ} {a : List ℕ} (rest : List ℕ) → Whole crc_over sum a → Whole crc_over sum (a ++ rest)
whole_more {sum} {a} rest w =
    let n = carried_of a in
    let inside = w.within in
    let same = carried_more a rest (omega arith) in
    let long : carried_of (a ++ rest) + 13 ≤ length (a ++ rest) = omega (arith, length-append a rest) in
    let payload : payload_of (a ++ rest) ≡ payload_of a =
    ap₂ take same (drop-append-le 8 a rest (omega arith)) ∙ take-append-le n (drop 8 a) rest (omega (arith, length-drop 8 a)) in
    let title : titled crc_over sum (a ++ rest) ≡ true =
    ap₂ ◌&&◌ (ap₂ eqb (four_more 4 a rest (omega arith)) (ap (crc_over sum) (take-append-le 4 a rest (omega arith)))) (ap (λ (x : ℕ). leb x most_carried) same) ∙ w.title in
    let right : payload_right crc_over (a ++ rest) ≡ true =
    ap₂ ◌&&◌
    (ap₂ eqb (ap (λ (x : ℕ). four_at (x + 8) (a ++ rest)) same ∙ four_more (n + 8) a rest (omega arith))
    (ap₂ crc_over (four_more 4 a rest (omega arith)) payload))
    (ap (λ (x : ℕ). eqb x end_mark) (ap (λ (x : ℕ). get_or (a ++ rest) (x + 12) 0) same ∙ get_or-append a rest 0 (n + 12) (omega arith)))
    ∙ w.right in
    record {
      is = sym (whole_at crc_over sum (a ++ rest) (omega arith) (sym title) refl refl long (sym right) refl refl);
      title = title;
      within = long;
      right = right;
    }

-- ---- append by append

first_same : (sum k : ℕ) (a b : List ℕ) (more others : List ℕ) → sum < 2 ^ 32 → Burst k (a ++ more) (b ++ others) → Whole crc_over sum a → Whole crc_over sum b
    → length a ≡ carried_of a + 13 → length b ≡ carried_of b + 13 → b ≡ a
first_same sum k a b more others l u w v p q =
    let m = a ++ more in
    let c = b ++ others in
    let wm = whole_more more w in
    let wc = whole_more others v in
    let n = same_carried sum k m c l u wm wc.title in
    let e = same_append sum k m c l u wm wc.title wc.right in
    let ha = w.within in
    let hb = v.within in
    let am = carried_more a more (omega arith) in
    let bm = carried_more b others (omega arith) in
    sym (take_at b others (carried_of m + 13) (omega arith)) ∙ e ∙ take_at a more (carried_of m + 13) (omega arith)

same_appends : (ls ks : List (List ℕ)) (k : ℕ) (r q p : Replay) → r.sum < 2 ^ 32 → Leads r ls q → Leads r ks p → Burst k (join ls) (join ks) → join ls ≡ join ks
same_appends [] [] k r q p l x y u = refl
same_appends [] (b ∷ ks) k r q p l x y u = absurd (omega (arith, u.long, length-append b (join ks), y.0))
same_appends (a ∷ ls) [] k r q p l x y u = absurd (omega (arith, u.long, length-append a (join ls), x.0))
same_appends (a ∷ ls) (b ∷ ks) k r q p l x y u =
    let ta = took r a x.0 x.1 in
    let tb = took r b y.0 y.1 in
    let e = first_same r.sum k a b (join ls) (join ks) l u ta.front tb.front ta.size tb.size in
    let n = length a in
    let rest : Burst (k - 8 * n) (join ls) (join ks) =
    rw (drop_at a (join ls) n refl, drop_at b (join ks) n (ap length e)) at (burst_drop n u) in
    let others : Leads (step_of crc_over r a).replay ks p = subst (λ (z : List ℕ). Leads (step_of crc_over r z).replay ks p) e y.2 in
    ap₂ ◌++◌ (sym e) (same_appends ls ks (k - 8 * n) (step_of crc_over r a).replay q p (next_small ta l) x.2 others rest)

-- ---- a whole file

module _ (file : List ℕ) (j : IsJournal file) where
  -- what stands behind the head, and the head's checksum as a reader of the file sees it
  front_is : take 128 file ≡ j.head
  front_is = ap (take 128) j.bytes_are ∙ take_at j.head (join j.appends) 128 j.headed.0

  back_is : drop 128 file ≡ join j.appends
  back_is = ap (drop 128) j.bytes_are ∙ drop_at j.head (join j.appends) 128 j.headed.0

  head_right : four_at 124 j.head ≡ crc_over 0 (take 124 j.head)
  head_right = good_sum j.head j.headed.1

  file_right : four_at 124 file ≡ crc_over 0 (take 124 file)
  file_right =
      let h = j.headed.0 in
      ap (four_at 124) j.bytes_are ∙ four_more 124 j.head (join j.appends) (omega arith) ∙ head_right
      ∙ ap (crc_over 0) (sym (ap (take 124) j.bytes_are ∙ take-append-le 124 j.head (join j.appends) (omega arith)))

  file_long : 128 ≤ length file
  file_long = let h = j.headed.0 in omega (arith, ap length j.bytes_are, length-append j.head (join j.appends))

  begins_small : (file_replay_begun crc_over j.head).sum < 2 ^ 32
  begins_small = rw (head_sum_is j.head j.headed.0, head_right) (crc_lt 0 (take 124 j.head) (omega arith))

pub journal_burst_found : JournalBurstFound
journal_burst_found k file changed u j i =
    let heads : i.head ≡ j.head =
    sym (front_is changed i) ∙ stored_burst_found 0 124 k file changed (omega arith) u (omega (arith, file_long file j)) (file_right file j) (file_right changed i)
    ∙ front_is file j in
    let rest : Burst (k - 1024) (join j.appends) (join i.appends) = rw (back_is file j, back_is changed i) at (burst_drop 128 u) in
    let others : Leads (file_replay_begun crc_over j.head) i.appends i.last = subst (λ (z : List ℕ). Leads (file_replay_begun crc_over z) i.appends i.last) heads i.leads in
    let appends = same_appends j.appends i.appends (k - 1024) (file_replay_begun crc_over j.head) j.last i.last (begins_small file j) j.leads others rest in
    j.bytes_are ∙ ap₂ ◌++◌ (sym heads) appends ∙ sym i.bytes_are
