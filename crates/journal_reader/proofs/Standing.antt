-- A journal that is read append by append stands in the buffer as a head and appends make it. Assumes nothing.
use Rattle.std.proofs.Common.{◌≡◌, ℕ, ◌+◌, ◌-◌, ◌%◌, ◌^◌, ◌<◌, ◌≤◌, Bool, true, false, cond, ◌||◌, ltb, List, [], ◌∷◌, ◌++◌, length, take, drop, sym, refl, ap, ◌∙◌, subst, ap₂, append-nil, arith, length-append, length-take, length-take-le, ltb-false, ltb-true, lt-ltb}
use Rattle.bits.specs.Places.{join}
use Rattle.bits.proofs.Cases.{split}
use Rattle.journal.specs.Journal.{counted}
use Rattle.codec.specs.Bytes.{Bytes}
use Rattle.codec.proofs.Numbers.{bytes_take}
use Rattle.checksum.specs.Checksum.{crc_over}
use Rattle.checksum.specs.Slices.{slices, crc_by}
use Rattle.journal.proofs.Which.{join_both}
use Rattle.journal_file.specs.declared.Head.{Head}
use Rattle.journal_file.specs.declared.Kind.{Kind}
use Rattle.journal_file.specs.declared.Kind.TheVariants.{NoJournal, OtherFormat, Damaged, Unfit, Good}
use Rattle.journal_file.specs.declared.Replay.{Replay}
use Rattle.journal_file.specs.Appends.{Over}
use Rattle.journal_file.specs.Heads.{head_size, head_of}
use Rattle.journal_file.specs.Replaying.{file_replay_begun, Leads}
use Rattle.journal_file.proofs.Alone.{head_by_tables}
use Rattle.journal_file.specs.Cards.{has_cards, some_has_cards, no_numbers, numbers_by, journal_numbers}
use Rattle.journal_file.proofs.Files.{leads_more}
use Rattle.journal_file.proofs.Cards.{numbers_more}
use Rattle.journal_reader.specs.declared.Reading.{Reading}
use Rattle.journal_reader.specs.declared.Beginning.{Beginning}
use Rattle.journal_reader.proofs.Filling.{cut_inside}
use Rattle.journal_reader.proofs.Cards.{found_numbers}
use Rattle.journal_reader.specs.Reading.{last_in, head_in, ReadingBegins, BuffersLent, AppendTakes, Stays, Next, last_append, HeadOfGarage, ReplayStands, StandsIn, numbers_found, CardsStand}

-- ---- the head

abbrev kind_number : Kind → ℕ
kind_number NoJournal = 0
kind_number OtherFormat = 1
kind_number Damaged = 2
kind_number Unfit = 3
kind_number Good = 4

short_kind : (over : Over) (m : List ℕ) → length m < 128 → (head_of over m).kind ≡ NoJournal
unfolding head_of
short_kind over m h = rw (lt-ltb (length m) 128 h)

module _ (t buf : List ℕ) (b : Beginning) (begins : ReadingBegins (crc_by t) b buf) (good : b.kind ≡ Good) (right : t ≡ slices) (bytes : Bytes buf) where
  abbrev end : ℕ
  end = b.reading.end

  abbrev head : List ℕ
  head = head_in end buf

  by_tables : head_of (crc_by t) head ≡ head_of crc_over head
  by_tables = ap (λ (u : List ℕ). head_of (crc_by u) head) right ∙ head_by_tables head (bytes_take (cond (ltb end 128) end 128) buf bytes)

  good_head : (head_of crc_over head).kind ≡ Good
  good_head = sym (ap (λ (h : Head). h.kind) by_tables) ∙ sym begins.1 ∙ good

  -- a file that is shorter than a head has none
  enough_bytes : ltb end 128 ≡ false
  enough_bytes = split (ltb end 128) (λ t. absurd (never t)) (λ t. t)
    where
      never : ltb end 128 ≡ true → ⊥
      never t =
          let l = length-take (cond (ltb end 128) end 128) buf in
          let z : cond (ltb end 128) end 128 ≡ end = ap (λ (x : Bool). cond x end 128) t in
          let s = ltb-true end 128 t in
          let k = short_kind crc_over head (omega (arith, l, z, s)) in
          omega (arith, ap kind_number (sym k ∙ good_head))

  size_is : cond (ltb end 128) end 128 ≡ 128
  size_is = ap (λ (x : Bool). cond x end 128) enough_bytes

  -- the name in the head, as it stands in the buffer
  named_in : (asked : List ℕ) → (0 < length asked → take 40 (drop 24 buf) ≡ asked) → HeadOfGarage asked head
  named_in asked n some =
      ap (λ (k : ℕ). take 40 (drop 24 (take k buf))) size_is ∙ cut_inside 24 40 128 buf (omega arith) ∙ n some

  -- no append is read, and there are no cards
  pub begins_cards : (asked : List ℕ) → (0 < length asked → take 40 (drop 24 buf) ≡ asked) → CardsStand asked b.reading false no_numbers buf
  begins_cards asked named =
      let h = ltb-false end 128 enough_bytes in
      let long : length head ≡ 128 = length-take-le (cond (ltb end 128) end 128) buf (omega (arith, size_is, h, begins.0)) ∙ size_is in
      let n = length-append head [] in
      let z : 128 ≡ counted (length (head ++ [])) = omega (arith, long, n) in
      let w : b.reading.at - b.reading.from ≡ 128 = omega (arith, begins.4, begins.5) in
      record {
        stands = record {
          head = head;
          appends = [];
          headed = (long, good_head);
          named = named_in asked named;
          leads = begins.2 ∙ ap (λ (x : Head). let r : Replay = record { station = x.station; sum = x.sum; closed = false } in r) by_tables;
          long = begins.3 ∙ z;
          last_is = ap (λ (k : ℕ). take (b.reading.at - b.reading.from) (drop k buf)) begins.4 ∙ ap (λ (k : ℕ). take k buf) (w ∙ sym size_is);
        };
        cards_are = refl;
        numbers_are = refl;
      }

  pub begins_stands : (asked : List ℕ) → (0 < length asked → take 40 (drop 24 buf) ≡ asked) → StandsIn asked b.reading buf
  begins_stands asked named = (begins_cards asked named).stands

-- ---- one step

last_more : (head : List ℕ) (appends : List (List ℕ)) (a : List ℕ) → a ≡ last_append head (appends ++ (a ∷ []))
last_more head [] a = refl
last_more head (b ∷ more) a = last_more b more a

more_long : (head : List ℕ) (appends : List (List ℕ)) (a : List ℕ) → length (head ++ join (appends ++ (a ∷ []))) ≡ length (head ++ join appends) + length a
more_long head appends a =
    let j : length (join (appends ++ (a ∷ []))) ≡ length (join appends ++ (a ++ [])) = ap length (join_both appends (a ∷ [])) in
    let p = length-append head (join (appends ++ (a ∷ []))) in
    let q = length-append head (join appends) in
    let r = length-append (join appends) (a ++ []) in
    let s = ap length (append-nil a) in
    omega (arith, j, p, q, r, s)

counted_more : (n m k place : ℕ) → n ≡ counted m → place ≡ counted (n + k) → place ≡ counted (m + k)
counted_more n m k place e p = omega (arith, e, p)

-- one that has cards, or not, behind others
some_more : (appends : List (List ℕ)) (a : List ℕ) → some_has_cards (appends ++ (a ∷ [])) ≡ some_has_cards appends || has_cards a
some_more [] a = last (has_cards a)
  where
    last : (x : Bool) → x || false ≡ x
    last true = refl
    last false = refl
some_more (b ∷ more) a = ap (◌||◌ (has_cards b)) (some_more more a) ∙ grouped (has_cards b) (some_has_cards more) (has_cards a)
  where
    grouped : (x y z : Bool) → x || (y || z) ≡ (x || y) || z
    grouped true y z = refl
    grouped false y z = refl

module _ {asked : List ℕ} (t room before after : List ℕ) (q r : Reading) (next : Next t room q before r after) (lent : BuffersLent t room) where
  module _ {cards : Bool} {numbers : List ℕ} (cards-stood : CardsStand asked q cards numbers before) where
    abbrev was : StandsIn asked q before
    was = cards-stood.stands

    stayed : Stays q before r after → CardsStand asked r cards numbers after
    stayed s =
        record {
          stands = record {
            head = was.head;
            appends = was.appends;
            headed = was.headed;
            named = was.named;
            leads = subst (λ (x : Replay). Leads (file_replay_begun crc_over was.head) was.appends x) (sym s.0) was.leads;
            long = s.1 ∙ was.long;
            last_is = s.2 ∙ was.last_is;
          };
          cards_are = cards-stood.cards_are;
          numbers_are = cards-stood.numbers_are;
        }

    went : AppendTakes q r after → CardsStand asked r (cards || has_cards (last_in r after)) (numbers_found numbers (last_in r after)) after
    went k =
        let a = last_in r after in
        record {
          stands = record {
            head = was.head;
            appends = was.appends ++ (a ∷ []);
            headed = was.headed;
            named = was.named;
            leads = leads_more (file_replay_begun crc_over was.head) q.replay r.replay was.appends a was.leads k.0 k.1 k.2;
            long = counted_more q.place (length (was.head ++ join was.appends)) (length a) r.place was.long k.3 ∙ ap counted (sym (more_long was.head was.appends a));
            last_is = last_more was.head was.appends a;
          };
          cards_are = ap (λ (x : Bool). x || has_cards a) cards-stood.cards_are ∙ sym (some_more was.appends a);
          numbers_are =
              found_numbers q.replay numbers a k.0 k.1 ∙ ap (λ (x : List ℕ). numbers_by x a) cards-stood.numbers_are
              ∙ sym (numbers_more no_numbers was.appends a);
        }

    -- an append was taken, or none was
    pub next_cards : r.took ≡ true → CardsStand asked r (cards || has_cards (last_in r after)) (numbers_found numbers (last_in r after)) after
    next_cards y = went (next.2 y lent)

    pub still_cards : r.took ≡ false → CardsStand asked r cards numbers after
    still_cards n = stayed (next.1 n)

  pub next_stands : StandsIn asked q before → StandsIn asked r after
  next_stands was =
      let w : CardsStand asked q (some_has_cards was.appends) (journal_numbers was.appends) before = record { stands = was; cards_are = refl; numbers_are = refl } in
      split r.took (λ y. (next_cards w y).stands) (λ n. (still_cards w n).stands)
