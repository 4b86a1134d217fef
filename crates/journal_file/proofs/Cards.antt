-- The numbers of cards, append after append. Assumes nothing.
use mathlib.Core.Path.{◌≡◌, refl, sym, ap, ap₂, ◌∙◌}
use mathlib.Core.Bool.{Bool, true, false, cond}
use mathlib.Core.List.{List, [], ◌∷◌, ◌++◌}
use Prim.Native.Nat.{ℕ, ◌≤◌, ◌<◌}
use native.Mathlib.Omega.{arith}
use borrow.Author.Tests.{ne_eqb, eqb-true}
use lib.Dec.{eqb}
use lib.ListN.{length, get_or, take}
use lib.Seq.{length-take-le}
use Rattle.bits.proofs.Cases.{split, neither}
use Rattle.checksum.specs.Checksum.{crc_over}
use Rattle.journal_file.specs.declared.Replay.{Replay}
use Rattle.journal_file.specs.Appends.{append_of, payload_of, carries_messages, lead_of}
use Rattle.journal_file.specs.Replaying.{step_of, Leads}
use Rattle.journal_file.specs.Cards.{has_cards, some_has_cards, numbers_by, numbers_on, no_numbers, journal_numbers}
use Rattle.journal_file.specs.Statements.{CardsBrought, CardsStay, NoCardsNoNumbers, AllNumbers}
use Rattle.journal_file.proofs.Forms.{kind_back, payload_back}
use Rattle.journal_file.proofs.Files.{lead_within}

-- ---- one append more

pub numbers_more : (before : List ℕ) (appends : List (List ℕ)) (a : List ℕ) → numbers_on before (appends ++ (a ∷ [])) ≡ numbers_by (numbers_on before appends) a
numbers_more before [] a = refl
numbers_more before (b ∷ more) a = numbers_more (numbers_by before b) more a

pub cards_brought : CardsBrought
cards_brought sum appends bytes small fits =
    numbers_more no_numbers appends (append_of crc_over sum 5 bytes)
    ∙ ap₂ (λ (k : ℕ) (p : List ℕ). cond (eqb k 5) (take 168 p) (journal_numbers appends)) (kind_back crc_over sum 5 bytes) (payload_back sum 5 bytes small fits)

pub cards_stay : CardsStay
cards_stay sum kind appends bytes other =
    let a = append_of crc_over sum kind bytes in
    numbers_more no_numbers appends a
    ∙ ap (λ (b : Bool). cond b (take 168 (payload_of a)) (journal_numbers appends)) (ap (λ (k : ℕ). eqb k 5) (kind_back crc_over sum kind bytes) ∙ ne_eqb kind 5 other)

-- ---- all of them

stay_on : (before : List ℕ) (appends : List (List ℕ)) → some_has_cards appends ≡ false → numbers_on before appends ≡ before
stay_on before [] e = refl
stay_on before (a ∷ more) e =
    let n = neither (has_cards a) (some_has_cards more) e in
    stay_on (numbers_by before a) more n.1 ∙ ap (λ (b : Bool). cond b (take 168 (payload_of a)) before) n.0

pub no_cards_no_numbers : NoCardsNoNumbers
no_cards_no_numbers appends e = stay_on no_numbers appends e

-- an append that is taken leaves as many numbers
numbers_long : (r : Replay) (before a : List ℕ) → 0 < (step_of crc_over r a).took → length before ≡ 168 → length (numbers_by before a) ≡ 168
numbers_long r before a h l = split (has_cards a) own others
  where
    others : has_cards a ≡ false → length (numbers_by before a) ≡ 168
    others t = ap (λ (b : Bool). length (cond b (take 168 (payload_of a)) before)) t ∙ l

    own : has_cards a ≡ true → length (numbers_by before a) ≡ 168
    own t =
        let k : get_or a 0 0 ≡ 5 = eqb-true (get_or a 0 0) 5 t in
        let m : carries_messages (get_or a 0 0) ≡ true = ap carries_messages k in
        let enough = lead_within r a h m in
        let n : lead_of (get_or a 0 0) ≡ 168 = ap lead_of k in
        ap (λ (b : Bool). length (cond b (take 168 (payload_of a)) before)) t ∙ length-take-le 168 (payload_of a) (omega (arith, enough, n))

long_on : (r q : Replay) (before : List ℕ) (appends : List (List ℕ)) → length before ≡ 168 → Leads r appends q → length (numbers_on before appends) ≡ 168
long_on r q before [] l x = l
long_on r q before (a ∷ more) l (h, t, x) =
    long_on (step_of crc_over r a).replay q (numbers_by before a) more (numbers_long r before a (omega (arith, h, t)) l) x

pub all_numbers : AllNumbers
all_numbers r q appends l = long_on r q no_numbers appends refl l
