-- A journal with one append more is a journal again, where the append was made by the right tables: the messages of a read, the mark of a
-- session's end, or numbers of cards and messages behind them. Assumes nothing.
use Rattle.std.proofs.Common.{◌≡◌, ℕ, zero, suc, ◌+◌, ◌^◌, ◌<◌, ◌≤◌, Bool, true, false, ◌&&◌, ltb, ◌⊎◌, List, [], ◌∷◌, ◌++◌, length, get_or, take, drop, sym, refl, ap, ◌∙◌, subst, ap₂, inl, inr, arith, length-append, ltb-false}
use Rattle.bits.specs.Places.{join}
use Rattle.codec.specs.Bytes.{Bytes}
use Rattle.station.specs.declared.Station.{Station}
use Rattle.service.specs.Runs.{run_of}
use Rattle.journal.specs.Journal.{Follows, counted}
use Rattle.journal.proofs.Which.{join_both}
use Rattle.checksum.specs.Checksum.{crc_over}
use Rattle.checksum.specs.Slices.{slices, crc_by}
use Rattle.checksum.proofs.Promises.{in_range, by_slices}
use Rattle.journal_file.specs.declared.Replay.{Replay}
use Rattle.journal_file.specs.Appends.{title_of, sum_after, append_of}
use Rattle.journal_file.specs.Replaying.{file_replay_begun, Leads, FileJournaled}
use Rattle.journal_file.specs.Cards.{journal_numbers, CardsJournaled}
use Rattle.journal_file.proofs.Files.{run_of_lem, file_keeps_up, file_keeps_cards, file_keeps_mark}
use Rattle.journal_file.proofs.Cards.{cards_brought, cards_stay}
use Rattle.journal_file.proofs.Forms.{append_long}
use Rattle.std.specs.declared.result.Result.{Result}
use Rattle.std.specs.declared.result.Result.TheVariants.{Ok, Err}
use Rattle.std.specs.Result.{IfOk}
use Rattle.journal_keeper.specs.declared.Journal.{Journal}
use Rattle.journal_keeper.specs.Keeping.{JournalMakes, Adds, moved_to}

-- ---- by the tables

title_bytes : (kind n : ℕ) → kind < 256 → Bytes (title_of kind n)
title_bytes kind n h zero = h
title_bytes kind n h (suc zero) = omega arith
title_bytes kind n h (suc (suc zero)) = omega arith
title_bytes kind n h (suc (suc (suc zero))) = omega arith
title_bytes kind n h (suc (suc (suc (suc i)))) = omega arith

sum_by : (was kind : ℕ) (bytes t : List ℕ) → t ≡ slices → was < 2 ^ 32 → kind < 256 → Bytes bytes
    → sum_after (crc_by t) was kind bytes ≡ sum_after crc_over was kind bytes
sum_by was kind bytes t e small k b =
    let title = title_of kind (length bytes) in
    let first : crc_by t was title ≡ crc_over was title =
    ap (λ (u : List ℕ). crc_by u was title) e ∙ by_slices was title small (title_bytes kind (length bytes) k) in
    ap₂ (λ (u : List ℕ) (x : ℕ). crc_by u x bytes) e first ∙ by_slices (crc_over was title) bytes (in_range was title small) b

-- ---- one more

long_more : (head : List ℕ) (appends : List (List ℕ)) (a : List ℕ) (n m : ℕ) → n ≡ counted (length (head ++ join appends)) → length a ≡ m + 13
    → counted (n + counted (m + 13)) ≡ counted (length (head ++ join (appends ++ (a ∷ []))))
long_more head appends a n m e l =
    let x = ap (λ (z : List ℕ). length (head ++ z)) (join_both appends (a ∷ [])) in
    let p = length-append head (join appends) in
    let q = length-append head (join appends ++ (a ++ [])) in
    let r = length-append (join appends) (a ++ []) in
    let s = length-append a [] in
    wrapped n (length (head ++ join appends)) (length (head ++ join (appends ++ (a ∷ [])))) (length head) (length (join appends)) (length (a ++ [])) m e
    (x ∙ q ∙ ap (◌+◌ (length head)) r) p (omega (arith, s, l))
  where
    wrapped : (n before all h j k m : ℕ) → n ≡ counted before → all ≡ h + (j + k) → before ≡ h + j → k ≡ m + 13
        → counted (n + counted (m + 13)) ≡ counted all
    wrapped n before all h j k m e x p s = omega arith

abbrev open_at : Station → ℕ → Replay
open_at s sum = record { station = s; sum = sum; closed = false }

-- and with the numbers that it has then
cards_more : (q next : Replay) (n m : ℕ) (a numbers after : List ℕ) (j : CardsJournaled q numbers n)
    → ((r : Replay) (appends : List (List ℕ)) → Leads r appends q → Leads r (appends ++ (a ∷ [])) next) → length a ≡ m + 13
    → after ≡ journal_numbers (j.file.appends ++ (a ∷ [])) → CardsJournaled next after (counted (n + counted (m + 13)))
cards_more q next n m a numbers after j f l e =
    record {
      file = record {
        head = j.file.head;
        appends = j.file.appends ++ (a ∷ []);
        headed = j.file.headed;
        leads = f (file_replay_begun crc_over j.file.head) j.file.appends j.file.leads;
        long = long_more j.file.head j.file.appends a n m j.file.long l;
      };
      numbers_are = e;
    }

module _ (s : Station) (was n : ℕ) (bytes numbers : List ℕ) (small : was < 2 ^ 32) (j : CardsJournaled (open_at s was) numbers n) where
  abbrev all_bytes : ℕ
  all_bytes = counted (n + counted (length bytes + 13))

  stays : (kind : ℕ) → (kind ≡ 5 → ⊥) → numbers ≡ journal_numbers (j.file.appends ++ (append_of crc_over was kind bytes ∷ []))
  stays kind other = j.numbers_are ∙ sym (cards_stay was kind j.file.appends bytes other)

  abbrev Then : ℕ → Station → List ℕ → Type 0
  Then kind next after = CardsJournaled (open_at next (sum_after crc_over was kind bytes)) after all_bytes

  marked : (kind : ℕ) → (kind ≡ 2) ⊎ (kind ≡ 3) → length bytes ≤ 44 → Then kind s numbers
  marked kind (inl k) few =
      subst (λ (x : ℕ). Then x s numbers) (sym k)
      (cards_more (open_at s was) (open_at s (sum_after crc_over was 2 bytes)) n (length bytes) (append_of crc_over was 2 bytes) numbers numbers j
      (λ r appends l. file_keeps_mark r (open_at s was) appends 2 bytes l refl small (inl refl) few) (append_long was 2 bytes small (omega arith))
      (stays 2 (λ (e : 2 ≡ 5). omega (arith, e))))
  marked kind (inr k) few =
      subst (λ (x : ℕ). Then x s numbers) (sym k)
      (cards_more (open_at s was) (open_at s (sum_after crc_over was 3 bytes)) n (length bytes) (append_of crc_over was 3 bytes) numbers numbers j
      (λ r appends l. file_keeps_mark r (open_at s was) appends 3 bytes l refl small (inr (inl refl)) few) (append_long was 3 bytes small (omega arith))
      (stays 3 (λ (e : 3 ≡ 5). omega (arith, e))))

  added : (kind : ℕ) (next : Station) (after : List ℕ) → Adds s numbers kind bytes next after → Then kind next after
  added kind next after (inl (k, f, some, few, e)) =
      subst (λ (x : ℕ). Then x next after) (sym k)
      (subst (Then 1 next) (sym e)
      (cards_more (open_at s was) (open_at next (sum_after crc_over was 1 bytes)) n (length bytes) (append_of crc_over was 1 bytes) numbers numbers j
      (λ r appends l. file_keeps_up r (open_at s was) appends bytes next l refl small f some few) (append_long was 1 bytes small few)
      (stays 1 (λ (z : 1 ≡ 5). omega (arith, z)))))
  added kind next after (inr (inl (k, few, same, e))) =
      subst (λ (x : Station). Then kind x after) (sym same) (subst (Then kind s) (sym e) (marked kind k few))
  added kind next after (inr (inr (k, f, enough, few, e))) =
      subst (λ (x : ℕ). Then x next after) (sym k)
      (subst (Then 5 next) (sym e)
      (cards_more (open_at s was) (open_at next (sum_after crc_over was 5 bytes)) n (length bytes) (append_of crc_over was 5 bytes) numbers (take 168 bytes) j
      (λ r appends l. file_keeps_cards r (open_at s was) appends bytes next l refl small f enough few) (append_long was 5 bytes small few)
      (sym (cards_brought was j.file.appends bytes small few))))

-- what is left of an append: the checksum by the tables, and the count
pub adding : (t : List ℕ) (s next : Station) (was n kind : ℕ) (bytes : List ℕ) {sum size all : ℕ} → was < 2 ^ 32 → kind < 256 → Bytes bytes
    → sum ≡ sum_after (crc_by t) was kind bytes → size ≡ counted (length bytes + 13) → all ≡ counted (n + size) → (numbers after : List ℕ) → t ≡ slices
    → CardsJournaled (record { station = s; sum = was; closed = false }) numbers n → Adds s numbers kind bytes next after
    → CardsJournaled (record { station = next; sum = sum; closed = false }) after all
adding t s next was n kind bytes small k b sum size all numbers after lent j adds =
    rw (sum ∙ sum_by was kind bytes t lent small k b, all, size) (added s was n bytes numbers small j kind next after adds)

-- ---- nothing more

no_step : (s next : Station) (bytes : List ℕ) → length bytes ≤ 0 → Follows s bytes next → next ≡ s
unfolding run_of
no_step s next [] h f = sym (run_of_lem f).1
no_step s next (b ∷ bytes) h f = absurd (omega arith)

-- where no journal is kept, or no message was taken
pub still : (kept : Bool) (s next : Station) (bytes numbers : List ℕ) {sum n : ℕ} → kept && ltb 0 (length bytes) ≡ false → Follows s bytes next
    → (kept ≡ true → CardsJournaled (record { station = s; sum = sum; closed = false }) numbers n)
    → kept ≡ true → CardsJournaled (record { station = next; sum = sum; closed = false }) numbers n
still kept s next bytes numbers {sum} {n} e f j q =
    let none : ltb 0 (length bytes) ≡ false = ap (λ (x : Bool). x && ltb 0 (length bytes)) (sym q) ∙ e in
    subst (λ (x : Station). CardsJournaled (record { station = x; sum = sum; closed = false }) numbers n) (sym (no_step s next bytes (ltb-false 0 (length bytes) none) f)) (j q)

pub moved_makes : (j : Journal) {r : Journal} (next : Station) (numbers : List ℕ) → r ≡ moved_to j next → JournalMakes numbers (moved_to j next)
    → (r.station ≡ next) × JournalMakes numbers r
moved_makes j next numbers e f = subst (λ (x : Journal). (x.station ≡ next) × JournalMakes numbers x) (sym e) (refl, f)

-- ---- a call that goes well

pub if_ok : {T E : Type 0} {P Q : T → Type 0} (r : Result T E) → IfOk r P → ((x : T) → P x → Q x) → IfOk r Q
if_ok (Ok x) p f = f x p
if_ok (Err e) p f = tt

pub of_ok : {T E : Type 0} (P : T → Type 0) {r : Result T E} {x : T} → r ≡ Ok x → IfOk r P → P x
of_ok {T} {E} P e p = subst (λ (q : Result T E). IfOk q P) e p
