-- Lines, and what is outstanding, as messages: what is in an array is what is told. Assumes nothing.
use mathlib.Core.Path.{◌≡◌, refl, sym, ap, ap₂, subst, ◌∙◌}
use mathlib.Core.Bool.{true, ◌||◌}
use mathlib.Core.List.{List, [], ◌∷◌, ◌++◌, map, append-nil}
use Prim.Native.Nat.{ℕ, zero, suc, ◌+◌, ◌*◌, ◌-◌, ◌/◌, ◌%◌, ◌^◌, ◌≤◌, ◌<◌}
use native.Mathlib.Omega.{arith}
use borrow.Author.Tests.{leb-true, leb-false, eq-eqb, ne_eqb}
use lib.Dec.{eqb, leb}
use lib.ListN.{length, take, drop, replicate, length-append}
use lib.Seq.{take_at, take-length, length-take-le}
use Rattle.bits.specs.Places.{join}
use Rattle.bits.proofs.Cases.{split, clash, both, neither}
use Rattle.codec.specs.Bytes.{little_endian}
use Rattle.floor.specs.Sound.{sound}
use Rattle.station.specs.declared.Picture.{Picture}
use Rattle.station.specs.declared.Station.{Station}
use Rattle.cards.specs.Held.{cards_fit}
use Rattle.station.specs.Station.{fit}
use Rattle.wire.specs.Writes.{Written}
use Rattle.wire.specs.Writes.{LeavesMessage, put}
use Rattle.wire.proofs.Parts.{set_filled}
use Rattle.wire.proofs.Room.{as_told}
use Rattle.desk.specs.declared.Desk.{Desk}
use Rattle.desk.specs.declared.DeskOutcome.{DeskOutcome}
use Rattle.desk.specs.declared.Line.{Line}
use Rattle.desk.specs.declared.Lines.{Lines}
use Rattle.desk.specs.declared.OpenSet.{OpenSet}
use Rattle.desk.specs.declared.Comparison.{Comparison}
use Rattle.desk.specs.Desk.{desk_fit, reply_number}
use Rattle.desk.specs.Calls.{desk_take_image, desk_ask}
use Rattle.desk.specs.Lines.{with_line, with_lines, line_bytes, held_lines, element_line, listed_cars, outstanding, moved_line, new_line, card_changes, compared}
use Rattle.desk.proofs.Laying.{bytes_length}
use Rattle.desk_service.specs.declared.DeskReply.{DeskReply}
use Rattle.desk_service.specs.declared.DeskAnswered.{DeskAnswered}
use Rattle.desk_service.specs.DeskService.{in_lines, in_set, brief, reply_told, compare_said, body_message, told_bytes, LeavesReply}
use Rattle.desk_service.proofs.Saying.{as_reply}

-- ---- arrays behind a few bytes

lines_filled : (src last : List ℕ) → length src ≡ 496 → last ≡ take (length src) src ++ drop (length src) (replicate 496 0) → last ++ [] ≡ src
lines_filled src last l e = rw (append-nil, e, take-length src, l, append-nil)

pub five_laid : {x y z u v : ℕ} (src last : List ℕ) → length src ≡ 496 → last ≡ take (length src) src ++ drop (length src) (replicate 496 0)
    → x ∷ y ∷ z ∷ u ∷ v ∷ (last ++ []) ≡ x ∷ y ∷ z ∷ u ∷ v ∷ src
five_laid {x} {y} {z} {u} {v} src last l e = ap (λ (s : List ℕ). x ∷ y ∷ z ∷ u ∷ v ∷ s) (lines_filled src last l e)

pub eight_laid : {x y z u a b c d : ℕ} (src last : List ℕ) → length src ≡ 40 → last ≡ take (length src) src ++ drop (length src) (replicate 40 0)
    → x ∷ y ∷ z ∷ u ∷ a ∷ b ∷ c ∷ d ∷ (last ++ []) ≡ x ∷ y ∷ z ∷ u ∷ a ∷ b ∷ c ∷ d ∷ src
eight_laid {x} {y} {z} {u} {a} {b} {c} {d} src last l e = ap (λ (s : List ℕ). x ∷ y ∷ z ∷ u ∷ a ∷ b ∷ c ∷ d ∷ s) (set_filled src last l e)

-- ---- the first of their bytes are the message

module _ (room : List ℕ) {r : Written} {last : List ℕ} where
  pub lines_put : (kind n : ℕ) (bytes b : List ℕ) {k : ℕ} → n ≤ 62 → kind < 256 → 5 + 8 * n ≤ length b
      → b ≡ (3 + 8 * n) % 256 ∷ (3 + 8 * n) / 256 ∷ kind ∷ 0 ∷ n ∷ bytes → k ≡ 5 + 8 * n → LeavesMessage (put (take k b) room) r last
      → LeavesMessage (put (body_message kind (n ∷ take (8 * n) bytes)) room) r last
  lines_put kind n bytes b {k} h small long e q w =
      let all : length b ≡ suc (suc (suc (suc (suc (length bytes))))) = ap length e in
      let size : length (take (8 * n) bytes) ≡ 8 * n = length-take-le (8 * n) bytes (omega arith) in
      let first : 2 + suc (length (take (8 * n) bytes)) ≡ 3 + 8 * n = omega arith in
      let low : (2 + suc (length (take (8 * n) bytes))) % 256 ≡ (3 + 8 * n) % 256 = ap (λ (x : ℕ). x % 256) first in
      let high : (2 + suc (length (take (8 * n) bytes))) / 256 % 256 ≡ (3 + 8 * n) / 256 = ap (λ (x : ℕ). x / 256 % 256) first ∙ omega arith in
      let kind-low : kind % 256 ≡ kind = omega arith in
      let kind-high : kind / 256 % 256 ≡ 0 = omega arith in
      let places : k ≡ suc (suc (suc (suc (suc (8 * n))))) = omega arith in
      as_told
      (ap (λ (x : List ℕ). put x room)
      (ap₂ (λ (x y : ℕ). x ∷ y ∷ kind % 256 ∷ kind / 256 % 256 ∷ n ∷ take (8 * n) bytes) low high
      ∙ ap₂ (λ (x y : ℕ). (3 + 8 * n) % 256 ∷ (3 + 8 * n) / 256 ∷ x ∷ y ∷ n ∷ take (8 * n) bytes) kind-low kind-high
      ∙ sym (ap₂ (λ (j : ℕ) (l : List ℕ). take j l) places e)))
      w

  pub set_put : (issue answered n : ℕ) (set b : List ℕ) {k : ℕ} → n ≤ 8 → issue < 2 ^ 16 → 8 + 5 * n ≤ length b
      → b ≡ (6 + 5 * n) % 256 ∷ (6 + 5 * n) / 256 ∷ 139 ∷ 0 ∷ issue % 256 ∷ issue / 256 ∷ answered ∷ n ∷ set → k ≡ 8 + 5 * n → LeavesMessage (put (take k b) room) r last
      → LeavesMessage (put (body_message 139 (little_endian 2 issue ++ (answered ∷ n ∷ take (5 * n) set))) room) r last
  set_put issue answered n set b {k} h small long e q w =
      let all : length b ≡ suc (suc (suc (suc (suc (suc (suc (suc (length set)))))))) = ap length e in
      let size : length (take (5 * n) set) ≡ 5 * n = length-take-le (5 * n) set (omega arith) in
      let first : 2 + suc (suc (suc (suc (length (take (5 * n) set))))) ≡ 6 + 5 * n = omega arith in
      let low : (2 + suc (suc (suc (suc (length (take (5 * n) set)))))) % 256 ≡ (6 + 5 * n) % 256 = ap (λ (x : ℕ). x % 256) first in
      let high : (2 + suc (suc (suc (suc (length (take (5 * n) set)))))) / 256 % 256 ≡ (6 + 5 * n) / 256 = ap (λ (x : ℕ). x / 256 % 256) first ∙ omega arith in
      let issue-high : issue / 256 % 256 ≡ issue / 256 = omega arith in
      let places : k ≡ suc (suc (suc (suc (suc (suc (suc (suc (5 * n)))))))) = omega arith in
      as_told
      (ap (λ (x : List ℕ). put x room)
      (ap₂ (λ (x y : ℕ). x ∷ y ∷ 139 ∷ 0 ∷ issue % 256 ∷ issue / 256 % 256 ∷ answered ∷ n ∷ take (5 * n) set) low high
      ∙ ap (λ (x : ℕ). (6 + 5 * n) % 256 ∷ (6 + 5 * n) / 256 ∷ 139 ∷ 0 ∷ issue % 256 ∷ x ∷ answered ∷ n ∷ take (5 * n) set) issue-high
      ∙ sym (ap₂ (λ (j : ℕ) (l : List ℕ). take j l) places e)))
      w

  -- held lines are told
  pub lines_told : (kind : ℕ) (xs : List Line) {ls : Lines} → ls ≡ held_lines xs
      → LeavesMessage (put (body_message kind (ls.count ∷ take (8 * ls.count) ls.bytes)) room) r last
      → LeavesMessage (put (told_bytes (in_lines kind xs)) room) r last
  unfolding held_lines
  lines_told kind xs e w =
      as_told
      (ap (λ (x : List ℕ). put x room)
      (sym (ap (λ (l : Lines). body_message kind (l.count ∷ take (8 * l.count) l.bytes)) e
      ∙ ap (λ (l : List ℕ). body_message kind (length xs ∷ l)) (take_at (join (map line_bytes xs)) (replicate (8 * (62 - length xs)) 0) (8 * length xs) (bytes_length xs)))))
      w

  pub set_told : (d : Desk) {s : OpenSet} → s ≡ outstanding d → LeavesMessage (put (told_bytes (in_set s)) room) r last
      → LeavesMessage (put (told_bytes (in_set (outstanding d))) room) r last
  set_told d e w = as_told (ap (λ (x : OpenSet). put (told_bytes (in_set x)) room) (sym e)) w

-- ---- how many there are

few : (xs : List Line) (l : Line) → length xs ≤ 62 → length (with_line xs l) ≤ 62
few xs l h = split (eqb l.card 0 || leb 62 (length xs))
    (λ t. rw t h)
    (λ t. rw t (let z = length-append xs (l ∷ []) in let k = leb-false 62 (length xs) (neither (eqb l.card 0) _ t).1 in omega arith))

few_all : (xs : List Line) (n : ℕ) (f : ℕ → Line) → length xs ≤ 62 → length (with_lines xs n f) ≤ 62
unfolding with_lines
few_all xs zero f h = h
few_all xs (suc n) f h = few (with_lines xs n f) (f n) (few_all xs n f h)

pub few_cars : (d : Desk) {ls : Lines} → ls ≡ held_lines (listed_cars d) → ls.count ≤ 62
unfolding held_lines listed_cars
few_cars d e = let z = ap (λ (l : Lines). l.count) e in let h = few_all [] 42 (element_line d) (omega arith) in omega arith

pub few_changes : (d : Desk) (p : Picture) (n : ℕ) (ns : List ℕ) {c : Comparison} → c ≡ compared d p n ns → c.lines.count ≤ 62
unfolding held_lines compared card_changes
few_changes d p n ns {c} e =
    let o = desk_take_image d p n ns in
    let old = d.numbers in
    let new = o.desk.numbers in
    let apart = d.station.apart in
    let z = ap (λ (x : Comparison). x.lines.count) e in
    let h = few_all (with_lines [] 42 (moved_line apart old new)) 42 (new_line old new) (few_all [] 42 (moved_line apart old new) (omega arith)) in
    split (eqb (reply_number o.reply) 0)
    (λ t. let q = rw t at z in omega arith)
    (λ t. let q = rw t at z in omega arith)

-- a fit desk has at most eight instructions outstanding
few_held : (s : Station) → fit s ≡ true → s.count ≤ 8
unfolding fit
few_held s e = split (leb s.count 8)
    (λ t. leb-true s.count 8 t)
    (λ t. split (sound s.bits) (λ u. clash (rw (u, t) at e) refl) (λ u. clash (rw u at e) refl))

fit_few : (d : Desk) → desk_fit d ≡ true → d.station.count ≤ 8
unfolding desk_fit
fit_few d e = few_held d.station (both (fit d.station) (cards_fit d.station.bits d.numbers) e).0

pub few_open : (d : Desk) {o : DeskOutcome} {s : OpenSet} → o ≡ desk_ask d → reply_number o.reply ≡ 0 → s ≡ outstanding d → s.count ≤ 8
unfolding desk_ask outstanding
few_open d e h g =
    let z = ap (λ (x : OpenSet). x.count) g in
    split (desk_fit d)
    (λ t. let k = fit_few d t in omega arith)
    (λ t. let q : reply_number (desk_ask d).reply ≡ 0 = ap (λ (x : DeskOutcome). reply_number x.reply) (sym e) ∙ h in let w = rw t at q in absurd (omega arith))

-- ---- an image that is compared

reply_same : (d : Desk) (p : Picture) (n : ℕ) (ns : List ℕ) {c : Comparison} → c ≡ compared d p n ns → c.reply ≡ (desk_take_image d p n ns).reply
unfolding compared
reply_same d p n ns e = ap (λ (x : Comparison). x.reply) e

module _ (d : Desk) (p : Picture) (n : ℕ) (ns : List ℕ) (room : List ℕ) {c : Comparison} {r : DeskAnswered} {last : List ℕ} (e : c ≡ compared d p n ns) where
  pub compare_refused : (reply_number c.reply ≡ 0 → ⊥) → {x : DeskReply} → x ≡ record { desk = d; told = reply_told c.reply } → LeavesReply (brief x) room r last
      → LeavesReply (compare_said d p n ns) room r last
  unfolding compare_said
  compare_refused h f w =
      let q = reply_same d p n ns e in
      let t = ne_eqb (reply_number (desk_take_image d p n ns).reply) 0 (λ z. h (ap reply_number q ∙ z)) in
      rw t (as_reply room w (ap brief (f ∙ ap (λ y. record { desk = d; told = reply_told y }) q)))

  pub compare_told : reply_number c.reply ≡ 0 → r.desk ≡ d
      → LeavesMessage (put (body_message 140 (c.lines.count ∷ take (8 * c.lines.count) c.lines.bytes)) room) r.written last
      → LeavesReply (compare_said d p n ns) room r last
  unfolding compare_said compared
  compare_told h f w =
      let o = desk_take_image d p n ns in
      let t = eq-eqb (reply_number o.reply) 0 (sym (ap reply_number (reply_same d p n ns e)) ∙ h) in
      let held : c.lines ≡ held_lines (card_changes d.station.apart d.numbers o.desk.numbers) = ap (λ (x : Comparison). x.lines) e ∙ rw t in
      rw t (f, lines_told room 140 (card_changes d.station.apart d.numbers o.desk.numbers) held w)
