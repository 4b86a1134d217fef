-- What is written of an append that stands alone, and what a reading leaves of a journal. Assumes nothing.
use Rattle.std.proofs.Common.{◌≡◌, ℕ, ◌+◌, ◌-◌, ◌<◌, ◌≤◌, Bool, true, false, cond, not, eqb, ltb, List, [], ◌∷◌, ◌++◌, length, get_or, take, drop, sym, refl, ap, ◌∙◌, append-nil, arith, length-take, le-ltb}
use Rattle.bits.proofs.Cases.{split, neither}
use Rattle.service.specs.Runs.{run}
use Rattle.checksum.specs.Checksum.{crc_over}
use Rattle.journal_file.specs.declared.Front.{Front}
use Rattle.journal_file.specs.declared.Replay.{Replay}
use Rattle.journal_file.specs.Appends.{carried_of, carries_messages, lead_of, carried_messages, front_of}
use Rattle.journal_file.specs.Replaying.{step_of, FileJournaled}
use Rattle.journal_file.specs.Statements.{recorded_in}
use Rattle.journal_file.proofs.Fronts.{Whole, whole}
use Rattle.journal_file.proofs.Files.{lead_within}
use Rattle.journal_file.proofs.Taking as taking
use Rattle.journal_file.proofs.OneFile.{fair_step, whole_step}
use Rattle.journal_reader.specs.declared.Reading.{Reading}
use Rattle.journal_reader.specs.Reading.{BuffersLent, AppendTakes, Next, ReplayStands, last_in}
use Rattle.journal_program.specs.Telling.{IsAppend}

module _ (a : List ℕ) (is : IsAppend a) where
  abbrev r : Replay
  r = is.behind

  abbrev f : Front
  f = front_of crc_over r.sum a

  took : 0 < (step_of crc_over r a).took
  took = omega (arith, is.whole, is.some)

  whole_there : f.whole ≡ true
  unfolding step_of
  whole_there = let n = run r.station (carried_messages a) in whole_step f r n.used n.station took

  there : Whole crc_over r.sum a
  there = whole crc_over r.sum a whole_there

  long : length a ≡ carried_of a + 13
  unfolding step_of
  long = let n = run r.station (carried_messages a) in sym is.whole ∙ (fair_step f r n.used n.station took).0 ∙ ap (λ (x : Front). x.carries + 13) there.is

  pub append_least : 13 ≤ length a
  append_least = omega (arith, long)

  abbrev kind : ℕ
  kind = get_or a 0 0

  abbrev is_messages : Bool
  is_messages = carries_messages kind

  module _ (n lead : ℕ) (size : n ≡ cond is_messages (length a - 13) 0) (leads : lead ≡ lead_of kind) where
    all_of_it : is_messages ≡ true → n ≡ carried_of a
    all_of_it t = let e = size ∙ ap (λ (b : Bool). cond b (length a - 13) 0) t in omega (arith, e, long)

    none_of_it : is_messages ≡ false → (n ≡ 0) × (lead ≡ 0)
    none_of_it t =
        (size ∙ ap (λ (b : Bool). cond b (length a - 13) 0) t, leads ∙ ap (λ (b : Bool). cond b 168 0) (neither (eqb kind 1) (eqb kind 5) t).1)

    pub size_fits : 8 + n ≤ length a
    size_fits = split is_messages (λ t. omega (arith, all_of_it t, long)) (λ t. omega (arith, (none_of_it t).0, long))

    -- the numbers are among the bytes that it carries
    carried_lead : is_messages ≡ true → lead ≤ carried_of a
    carried_lead t =
        let w = lead_within r a took t in
        let l = length-take (carried_of a) (drop 8 a) in
        omega (arith, w, l, leads)

    pub lead_fits : lead ≤ n
    lead_fits = split is_messages (λ t. omega (arith, all_of_it t, carried_lead t)) (λ t. omega (arith, (none_of_it t).0, (none_of_it t).1))

    -- what stands behind them is what was recorded in it
    pub messages_are : take (8 + n - (8 + lead)) (drop (8 + lead) a) ≡ recorded_in (a ∷ [])
    messages_are = split is_messages messages mark
      where
        shown : (b : Bool) → is_messages ≡ b → cond b (carried_messages a) [] ++ [] ≡ recorded_in (a ∷ [])
        shown b t = ap (λ (x : Bool). cond x (carried_messages a) [] ++ []) (sym t)

        messages : is_messages ≡ true → take (8 + n - (8 + lead)) (drop (8 + lead) a) ≡ recorded_in (a ∷ [])
        messages t =
            let c : f.carries ≡ carried_of a = ap (λ (x : Front). x.carries) there.is in
            let k : f.kind ≡ kind = ap (λ (x : Front). x.kind) there.is in
            let l : lead ≡ lead_of f.kind = leads ∙ sym (ap lead_of k) in
            let h = carried_lead t in
            let few : ltb f.carries (lead_of f.kind) ≡ false = le-ltb f.carries (lead_of f.kind) (omega (arith, c, l, h)) in
            ap (λ (i : ℕ). take (8 + i - (8 + lead)) (drop (8 + lead) a)) (all_of_it t ∙ sym c)
            ∙ taking.messages_are crc_over r.sum a f refl (ap not whole_there) (l ∙ sym (ap (λ (b : Bool). cond b f.carries (lead_of f.kind)) few))
            ∙ sym (append-nil (carried_messages a)) ∙ shown true t

        mark : is_messages ≡ false → take (8 + n - (8 + lead)) (drop (8 + lead) a) ≡ recorded_in (a ∷ [])
        mark t =
            let z = none_of_it t in
            ap (λ (k : ℕ). take k (drop (8 + lead) a)) (let e : 8 + n - (8 + lead) ≡ 0 = omega (arith, z.0, z.1) in e) ∙ shown false t

-- what a step has taken is one append
pub taken_is : (t room before after : List ℕ) (q r : Reading) → Next t room q before r after → BuffersLent t room → r.took ≡ true
    → IsAppend (last_in r after)
taken_is t room before after q r next lent took =
    let k = next.2 took lent in
    record { behind = q.replay; some = k.0; whole = k.1 }

-- what stands in a buffer is a journal's
pub stands_file : {asked last : List ℕ} {r : Replay} {n : ℕ} → ReplayStands asked r n last → FileJournaled r n
stands_file s = record { head = s.head; appends = s.appends; headed = s.headed; leads = s.leads; long = s.long }

-- a room that is twice as long as is asked for
pub room_twice : {m : ℕ} → 655520 ≡ m → 327680 ≤ m
room_twice e = omega arith
