-- Lines laid one behind the other are the lines of a list; and what the code has found of each on the way. Assumes nothing.
use mathlib.Core.Path.{◌≡◌, refl, sym, ap, ap₂, ◌∙◌}
use mathlib.Core.List.{List, [], ◌∷◌, ◌++◌, map, append_assoc, append-nil}
use mathlib.Core.Bool.{Bool, true, false, cond, ◌||◌}
use Prim.Native.Nat.{ℕ, zero, suc, ◌+◌, ◌*◌, ◌-◌, ◌≤◌, ◌<◌}
use native.Mathlib.Omega.{arith}
use lib.Dec.{eqb, leb}
use lib.ListN.{length, get_or, take, drop, replicate, length-append, length-drop, drop_of_length-le, replicate-append-replicate}
use lib.Seq.{length-take-le, take_at, drop-append-add, drop-drop}
use borrow.Author.Tests.{le-leb, lt-leb, leb-false, eq-eqb, ne_eqb}
use Rattle.bits.specs.Bits.{bit, digit}
use Rattle.bits.specs.Places.{join}
use Rattle.bits.proofs.Cases.{neither}
use Rattle.codec.specs.Bytes.{little_endian}
use Rattle.floor.specs.Floor.{drive_in}
use Rattle.answers.specs.Answers.{nowhere}
use Rattle.station.specs.declared.Picture.{Picture}
use Rattle.cards.specs.Following.{no_source}
use Rattle.cards.specs.Held.{place_of_element, numbers_in, is_known, where_is}
use Rattle.desk.specs.declared.Desk.{Desk}
use Rattle.desk.specs.declared.DeskOutcome.{DeskOutcome}
use Rattle.desk.specs.declared.Line.{Line}
use Rattle.desk.specs.declared.Lines.{Lines}
use Rattle.desk.specs.declared.Comparison.{Comparison}
use Rattle.desk.specs.declared.Whereabouts.{Whereabouts}
use Rattle.desk.specs.declared.Whereabouts.TheVariants.{Moving}
use Rattle.desk.specs.Desk.{reply_number}
use Rattle.desk.specs.Calls.{desk_take_image}
use Rattle.desk.specs.Questions.{is_under, place_known}
use Rattle.desk.specs.Lines.{place_told, where_line, most_lines, with_line, with_lines, line_bytes, held_lines, element_line, listed_cars, card_place, moved_line, new_line, card_changes, compared}
use Rattle.desk.specs.Private.{line_laid, lines_laid}

-- ---- bytes

pub bytes_laid : (l : Line) (four : List ℕ) → four ≡ little_endian 4 l.card
    → get_or four 0 0 ∷ get_or four 1 0 ∷ get_or four 2 0 ∷ get_or four 3 0 ∷ l.place ∷ l.flag ∷ l.next ∷ 0 ∷ [] ≡ line_bytes l
bytes_laid l four e = ap (λ (b : List ℕ). get_or b 0 0 ∷ get_or b 1 0 ∷ get_or b 2 0 ∷ get_or b 3 0 ∷ l.place ∷ l.flag ∷ l.next ∷ 0 ∷ []) e

-- eight bytes that were copied to their place
pub eight_laid : (l : Line) (r b last : List ℕ) (a : ℕ) → a + 8 ≤ length r → b ≡ line_bytes l
    → last ≡ take (length b) b ++ drop (length b) (take (a + 8 - a) (drop a r))
    → take a r ++ (last ++ drop (a + 8 - a) (drop a r)) ≡ take a r ++ (line_bytes l ++ drop (a + 8) r)
eight_laid l r b last a h e f =
    let k : a + 8 - a ≡ 8 = omega arith in
    let size : length (take 8 (drop a r)) ≡ 8 = length-take-le 8 (drop a r) (rw length-drop (omega arith)) in
    let whole : last ≡ line_bytes l =
    f ∙ ap₂ (λ (m : List ℕ) (j : ℕ). take (length m) m ++ drop (length m) (take j (drop a r))) e k
    ∙ ap (λ (m : List ℕ). line_bytes l ++ m) (drop_of_length-le (take 8 (drop a r)) {i = 8} (omega arith)) ∙ append-nil (line_bytes l) in
    ap₂ (λ (m : List ℕ) (j : ℕ). take a r ++ (m ++ drop j (drop a r))) whole k
    ∙ ap (λ (m : List ℕ). take a r ++ (line_bytes l ++ m)) (drop-drop 8 a r)

abbrev all_bytes : List Line → List ℕ
all_bytes xs = join (map line_bytes xs)

bytes_more : (xs : List Line) (l : Line) → all_bytes (xs ++ l ∷ []) ≡ all_bytes xs ++ line_bytes l
bytes_more [] l = append-nil (line_bytes l)
bytes_more (x ∷ xs) l = ap (λ (b : List ℕ). line_bytes x ++ b) (bytes_more xs l) ∙ sym (append_assoc (line_bytes x) (all_bytes xs) (line_bytes l))

pub bytes_length : (xs : List Line) → length (all_bytes xs) ≡ 8 * length xs
bytes_length [] = refl
bytes_length (x ∷ xs) = length-append (line_bytes x) (all_bytes xs) ∙ rw (bytes_length xs) (omega arith)

-- ---- a line behind others

lines_same : {c d : ℕ} {a b : List ℕ} → c ≡ d → a ≡ b → ◌≡◌ {A = Lines} (record { count = c; bytes = a }) (record { count = d; bytes = b })
lines_same p q = ap₂ (λ (n : ℕ) (m : List ℕ). record { count = n; bytes = m }) p q

more : (xs : List Line) (l : Line) → length xs < most_lines
    → let b = (held_lines xs).bytes in
    ◌≡◌ {A = Lines} (record { count = length xs + 1; bytes = take (8 * length xs) b ++ (line_bytes l ++ drop (8 * length xs + 8) b) }) (held_lines (xs ++ l ∷ []))
unfolding held_lines
more xs l h =
    let n = length xs in
    let z : length (xs ++ l ∷ []) ≡ n + 1 = length-append xs (l ∷ []) in
    let front : take (8 * n) (all_bytes xs ++ zeros (8 * (62 - n))) ≡ all_bytes xs = take_at (all_bytes xs) (zeros (8 * (62 - n))) (8 * n) (bytes_length xs) in
    let back : drop (8 * n + 8) (all_bytes xs ++ zeros (8 * (62 - n))) ≡ zeros (8 * (62 - (n + 1))) =
    ap (λ (k : ℕ). drop (k + 8) (all_bytes xs ++ zeros (8 * (62 - n)))) (sym (bytes_length xs))
    ∙ drop-append-add (all_bytes xs) (zeros (8 * (62 - n))) 8
    ∙ ap (λ (k : ℕ). drop 8 (zeros k)) {x = 8 * (62 - n)} {y = 8 + 8 * (62 - (n + 1))} (omega arith)
    ∙ rest (8 * (62 - (n + 1))) in
    lines_same (sym z)
    (ap₂ (λ (a c : List ℕ). a ++ (line_bytes l ++ c)) front back
    ∙ sym (append_assoc (all_bytes xs) (line_bytes l) (zeros (8 * (62 - (n + 1)))))
    ∙ ap₂ (λ (a : List ℕ) (k : ℕ). a ++ zeros (8 * (62 - k))) (sym (bytes_more xs l)) (sym z))
  where
    zeros : ℕ → List ℕ
    zeros n = replicate n 0

    rest : (k : ℕ) → drop 8 (zeros (8 + k)) ≡ zeros k
    rest k = ap (drop 8) (sym (replicate-append-replicate 8 k 0)) ∙ drop-append-add (replicate 8 0) (zeros k) 0

-- where there is no room, or nothing to lay, the lines are as they were
laid_if : (xs : List Line) (l : Line) (t : Bool) → (t ≡ false → length xs < most_lines)
    → let b = (held_lines xs).bytes in
    cond t (held_lines xs) (record { count = length xs + 1; bytes = take (8 * length xs) b ++ (line_bytes l ++ drop (8 * length xs + 8) b) })
    ≡ held_lines (cond t xs (xs ++ l ∷ []))
laid_if xs l true h = refl
laid_if xs l false h = more xs l (h refl)

laid_one : (xs : List Line) (l : Line) → line_laid (held_lines xs) l ≡ held_lines (with_line xs l)
unfolding line_laid held_lines
laid_one xs l = laid_if xs l (eqb l.card 0 || leb most_lines (length xs))
    (λ t. leb-false most_lines (length xs) (neither (eqb l.card 0) _ t).1)

pub laid_all : (xs : List Line) (n : ℕ) (f : ℕ → Line) → lines_laid (held_lines xs) n f ≡ held_lines (with_lines xs n f)
unfolding lines_laid with_lines
laid_all xs zero f = refl
laid_all xs (suc n) f = ap (λ (m : Lines). line_laid m (f n)) (laid_all xs n f) ∙ laid_one (with_lines xs n f) (f n)

-- ---- the loop

pub laid_start : (m : Lines) (f : ℕ → Line) → m ≡ lines_laid m 0 f
unfolding lines_laid
laid_start m f = refl

pub laid_turn : (m : Lines) (f : ℕ → Line) (j : ℕ) {all next : Lines} {l : Line} → all ≡ lines_laid m j f → l ≡ f j → next ≡ line_laid all l
    → next ≡ lines_laid m (j + 1) f
unfolding lines_laid
laid_turn m f j e g h = h ∙ ap₂ line_laid e g ∙ ap (λ n. lines_laid m n f) {x = suc j} {y = j + 1} (omega arith)

-- ---- one line, by what was found of it

module _ (ls : Lines) (l : Line) where
  pub laid_none : l.card ≡ 0 → ls ≡ line_laid ls l
  unfolding line_laid
  laid_none e = rw (eq-eqb l.card 0 e)

  pub laid_full : (l.card ≡ 0 → ⊥) → most_lines ≤ ls.count → ls ≡ line_laid ls l
  unfolding line_laid
  laid_full e h = rw (ne_eqb l.card 0 e, le-leb most_lines ls.count h)

  pub laid_more : (l.card ≡ 0 → ⊥) → ls.count < most_lines → {b : List ℕ}
      → b ≡ take (8 * ls.count) ls.bytes ++ (line_bytes l ++ drop (8 * ls.count + 8) ls.bytes)
      → ◌≡◌ {A = Lines} (record { count = ls.count + 1; bytes = b }) (line_laid ls l)
  unfolding line_laid
  laid_more e h q = lines_same {c = ls.count + 1} refl q ∙ rw (ne_eqb l.card 0 e, lt-leb most_lines ls.count h)

pub element_found : (d : Desk) (j : ℕ) {l : Line} {w : Whereabouts} {k : ℕ} → l ≡ where_line (get_or d.numbers j 0) w
    → w ≡ place_known d (get_or d.numbers j 0) k → k ≡ place_of_element j → l ≡ element_line d j
unfolding element_line
element_found d j e f g =
    let c = get_or d.numbers j 0 in
    e ∙ ap (where_line c) (f ∙ ap (place_known d c) g)

-- ---- the place of a card

module _ (a : List ℕ) (c : ℕ) where
  abbrev placed : Bool → ℕ
  placed waits = cond waits drive_in no_source

  pub card_there : {k : ℕ} → k ≡ where_is a c → (k ≡ no_source → ⊥) → k ≡ card_place a c
  card_there e h = rw (ne_eqb (where_is a c) no_source (λ q. h (e ∙ q))) e

  pub card_waits : {k : ℕ} → k ≡ where_is a c → k ≡ no_source → get_or a 41 0 ≡ c → drive_in ≡ card_place a c
  unfolding numbers_in
  card_waits e h q = rw (eq-eqb (where_is a c) no_source (sym e ∙ h), eq-eqb (get_or a 41 0) c q)

  pub card_gone : {k : ℕ} → k ≡ where_is a c → k ≡ no_source → (get_or a 41 0 ≡ c → ⊥) → no_source ≡ card_place a c
  unfolding numbers_in
  card_gone e h q = rw (eq-eqb (where_is a c) no_source (sym e ∙ h), ne_eqb (get_or a 41 0) c q)

pub moved_found : (apart : ℕ) (old new : List ℕ) (j : ℕ) {k to c f n : ℕ} {under : Bool} → k ≡ place_of_element j → to ≡ card_place new (get_or old j 0)
    → c ≡ cond (eqb k to) 0 (get_or old j 0) → under ≡ is_under (bit apart) k → f ≡ digit under → n ≡ place_told to
    → ◌≡◌ {A = Line} (record { card = c; place = k; flag = f; next = n }) (moved_line apart old new j)
unfolding moved_line
moved_found apart old new j p q c u f n = rw (c, f, u, n, p, q)

pub new_found : (old new : List ℕ) (j : ℕ) {known : Bool} {c n : ℕ} → known ≡ is_known old (get_or new j 0) → c ≡ cond known 0 (get_or new j 0)
    → n ≡ place_of_element j → ◌≡◌ {A = Line} (record { card = c; place = nowhere; flag = 0; next = n }) (new_line old new j)
unfolding new_line
new_found old new j k c n = rw (c, k, n)

-- ---- the questions

pub list_found : (d : Desk) {none all : Lines} → none ≡ held_lines [] → all ≡ lines_laid none 42 (element_line d) → all ≡ held_lines (listed_cars d)
unfolding listed_cars
list_found d e f = f ∙ ap (λ (m : Lines). lines_laid m 42 (element_line d)) e ∙ laid_all [] 42 (element_line d)

pub changes_found : (apart : ℕ) (old new : List ℕ) {none moved all : Lines} → none ≡ held_lines []
    → moved ≡ lines_laid none 42 (moved_line apart old new) → all ≡ lines_laid moved 42 (new_line old new) → all ≡ held_lines (card_changes apart old new)
unfolding card_changes
changes_found apart old new e f g =
    let first = moved_line apart old new in
    g ∙ ap (λ (m : Lines). lines_laid m 42 (new_line old new)) (f ∙ ap (λ (m : Lines). lines_laid m 42 first) e ∙ laid_all [] 42 first)
    ∙ laid_all (with_lines [] 42 first) 42 (new_line old new)

module _ (d : Desk) (p : Picture) (n : ℕ) (ns : List ℕ) {o : DeskOutcome} (e : o ≡ desk_take_image d p n ns) where
  abbrev answer : DeskOutcome → Bool → Comparison
  answer q taken = record { reply = q.reply; lines = held_lines (cond taken (card_changes d.station.apart d.numbers q.desk.numbers) []) }

  pub compared_refused : (reply_number o.reply ≡ 0 → ⊥) → {m : Lines} → m ≡ held_lines []
      → ◌≡◌ {A = Comparison} (record { reply = o.reply; lines = m }) (compared d p n ns)
  unfolding compared
  compared_refused h f =
      ap (λ (m : Lines). record { reply = o.reply; lines = m }) f
      ∙ ap (answer o) (sym (ne_eqb (reply_number o.reply) 0 h)) ∙ ap (λ (q : DeskOutcome). answer q (eqb (reply_number q.reply) 0)) e

  pub compared_taken : reply_number o.reply ≡ 0 → {m : Lines} → m ≡ held_lines (card_changes d.station.apart d.numbers o.desk.numbers)
      → ◌≡◌ {A = Comparison} (record { reply = o.reply; lines = m }) (compared d p n ns)
  unfolding compared
  compared_taken h f =
      ap (λ (m : Lines). record { reply = o.reply; lines = m }) f
      ∙ ap (answer o) (sym (eq-eqb (reply_number o.reply) 0 h)) ∙ ap (λ (q : DeskOutcome). answer q (eqb (reply_number q.reply) 0)) e
