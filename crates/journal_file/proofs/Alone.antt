-- A step of a replay as code takes it: by the tables, in room that is enough, and of an append with more bytes behind it. And a head by the
-- tables. Assumes nothing.
use mathlib.Core.Path.{◌≡◌, refl, sym, ap, ap₂, ◌∙◌}
use mathlib.Core.Bool.{Bool, true, false, cond, not}
use mathlib.Core.List.{List, [], ◌∷◌, ◌++◌, append-nil}
use Prim.Native.Nat.{ℕ, zero, suc, ◌+◌, ◌-◌, ◌^◌, ◌≤◌, ◌<◌}
use native.Mathlib.Omega.{arith}
use borrow.Author.Tests.{le-leb}
use lib.Dec.{eqb, leb}
use lib.ListN.{length, get_or, take, drop, length-take, length-drop}
use lib.Seq.{length-take-le}
use Rattle.bits.proofs.Cases.{split}
use Rattle.codec.specs.Bytes.{Bytes}
use Rattle.station.specs.declared.Station.{Station}
use Rattle.service.specs.Runs.{Serving, run, served, serving, enough}
use Rattle.codec.proofs.Numbers.{bytes_take}
use Rattle.checksum.specs.Checksum.{crc_over}
use Rattle.checksum.specs.Slices.{slices, crc_by}
use Rattle.checksum.proofs.Promises.{by_slices}
use Rattle.journal_file.specs.declared.Front.{Front}
use Rattle.journal_file.specs.declared.Replay.{Replay}
use Rattle.journal_file.specs.declared.Step.{Step}
use Rattle.journal_file.specs.Appends.{Over, around, sum_after, append_of, carried_of, payload_of, lead_of, carried_messages, front_of}
use Rattle.journal_file.specs.Heads.{head_kind, head_of}
use Rattle.journal_file.specs.Replaying.{not_taken, step_by, step_of, stepping}
use Rattle.journal_file.proofs.Fronts.{Whole, whole, titled_most}
use Rattle.journal_file.proofs.Forms.{append_reads_back, payload_back, kind_back, front_by_tables}
use Rattle.journal_file.proofs.OneForm.{append_one_form}
use Rattle.journal_file.proofs.OneFile.{fair_step, whole_step}

take_drop : (n : ℕ) (l : List ℕ) → take n l ++ drop n l ≡ l
take_drop zero l = refl
take_drop (suc n) [] = refl
take_drop (suc n) (x ∷ l) = ap (λ (r : List ℕ). x ∷ r) (take_drop n l)

-- where nothing is whole it does not matter what a run would have made
unwhole : (w : Bool) (a x y : Step) → w ≡ false → cond (not w) a x ≡ cond (not w) a y
unwhole w a x y e = rw e

all_served : (s : Station) (p room : List ℕ) → enough (length p) ≤ length room → serving s p room ≡ served (run s p) room
unfolding serving
all_served s p room h = rw (le-leb (enough (length p)) (length room) h)

pub head_by_tables : (m : List ℕ) → Bytes m → head_of (crc_by slices) m ≡ head_of crc_over m
unfolding head_of head_kind
head_by_tables m b = rw (by_slices 0 (take 124 m) (omega arith) (bytes_take 124 m b))

module _ (r : Replay) (m : List ℕ) (small : r.sum < 2 ^ 32) (b : Bytes m) where
  abbrev f : Front
  f = front_of crc_over r.sum m

  -- a whole append carries no more than there is room for answers
  payload_fits : Whole crc_over r.sum m → length (payload_of m) ≤ 65536
  payload_fits w = let l = length-take (carried_of m) (drop 8 m) in let h = titled_most crc_over r.sum m w.title in omega arith

  messages_fit : Whole crc_over r.sum m → length (carried_messages m) ≤ 65536
  messages_fit w = let l = length-drop (lead_of (get_or m 0 0)) (payload_of m) in let h = payload_fits w in omega (arith, l, h)

  pub stepping_is : (room : List ℕ) → 327680 ≤ length room → (stepping (crc_by slices) r m room).says ≡ step_of crc_over r m
  unfolding stepping step_of
  stepping_is room h =
      rw (front_by_tables r.sum m small b)
      (split f.whole
      (λ t. ap (λ (w : Serving). step_by r f w.says.used w.says.station)
      (all_served r.station (carried_messages m) room (let p = messages_fit (whole crc_over r.sum m t) in omega arith)))
      (λ t. unwhole f.whole (not_taken r f.short) _ _ t))

  module _ (took : 0 < (step_of crc_over r m).took) where
    w : Whole crc_over r.sum m
    unfolding step_of
    w = whole crc_over r.sum m (whole_step f r (run r.station (carried_messages m)).used (run r.station (carried_messages m)).station took)

    took_is : (step_of crc_over r m).took ≡ carried_of m + 13
    unfolding step_of
    took_is = (fair_step f r (run r.station (carried_messages m)).used (run r.station (carried_messages m)).station took).0 ∙ ap (λ (x : Front). x.carries + 13) w.is

    pub took_within : (step_of crc_over r m).took ≤ length m
    took_within = let e = took_is in let h = w.within in omega arith

    abbrev a : List ℕ
    a = take (step_of crc_over r m).took m

    abbrev kind : ℕ
    kind = get_or m 0 0

    -- it has the form that is written
    form : a ≡ append_of crc_over r.sum kind (payload_of m)
    form = ap (λ (n : ℕ). take n m) took_is ∙ append_one_form r.sum m b (ap (λ (x : Front). x.whole) w.is)

    abbrev there : Front
    there = record { whole = true; short = false; kind = kind; carries = length (payload_of m); sum = sum_after crc_over r.sum kind (payload_of m) }

    front_alone : front_of crc_over r.sum a ≡ there
    front_alone =
        ap (front_of crc_over r.sum) (form ∙ sym (append-nil (append_of crc_over r.sum kind (payload_of m))))
        ∙ append_reads_back r.sum kind (payload_of m) [] small (payload_fits w)

    front_more : f ≡ there
    front_more =
        let rest = drop (step_of crc_over r m).took m in
        ap (front_of crc_over r.sum) (sym (take_drop (step_of crc_over r m).took m) ∙ ap (λ (x : List ℕ). x ++ rest) form)
        ∙ append_reads_back r.sum kind (payload_of m) rest small (payload_fits w)

    payload_alone : payload_of a ≡ payload_of m
    payload_alone = ap payload_of form ∙ payload_back r.sum kind (payload_of m) small (payload_fits w)

    messages_alone : carried_messages a ≡ carried_messages m
    messages_alone = ap₂ (λ (k : ℕ) (p : List ℕ). drop (lead_of k) p) (ap (λ (l : List ℕ). get_or l 0 0) form ∙ kind_back crc_over r.sum kind (payload_of m)) payload_alone

    -- the append alone makes the same step
    pub step_alone : step_of crc_over r a ≡ step_of crc_over r m
    unfolding step_of
    step_alone =
        ap₂ (λ (g : Front) (p : List ℕ). step_by r g (run r.station p).used (run r.station p).station) (front_alone ∙ sym front_more) messages_alone

    pub alone_long : length a ≡ (step_of crc_over r m).took
    alone_long = length-take-le (step_of crc_over r m).took m took_within

-- whatever the checksum is, an append that was taken has its opening and closing, and lies within the bytes
pub took_room : (over : Over) (r : Replay) (m room : List ℕ) → 0 < (stepping over r m room).says.took
    → (13 ≤ (stepping over r m room).says.took) × ((stepping over r m room).says.took ≤ length m)
unfolding stepping
took_room over r m room h =
    let f = front_of over r.sum m in
    let s = (serving r.station (carried_messages m) room).says in
    let w = whole over r.sum m (whole_step f r s.used s.station h) in
    let e = (fair_step f r s.used s.station h).0 ∙ ap (λ (x : Front). x.carries + 13) w.is in
    let i = w.within in
    (omega (arith, e, i), omega (arith, e, i))
