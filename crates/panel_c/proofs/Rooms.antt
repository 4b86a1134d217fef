-- What the entries leave, case by case. Assumes nothing.
use mathlib.Core.Path.{◌≡◌, refl, sym, ap, subst, ◌∙◌}
use mathlib.Core.Bool.{Bool, true, false, cond}
use mathlib.Core.List.{List, [], ◌∷◌, ◌++◌}
use Prim.Native.Nat.{ℕ, ◌+◌, ◌*◌, ◌^◌, ◌≤◌, ◌<◌}
use borrow.Author.Tests.{lt-ltb, le-ltb}
use mir.Val.{bool_byte}
use lib.Dec.{ltb}
use lib.ListN.{length, get_or, take, drop}
use lib.Seq.{take-length}
use Rattle.bits.specs.Bits.{Bits, bit, image}
use Rattle.bits.proofs.Packing.{byte_digit}
use Rattle.floor.specs.Sound.{sound}
use Rattle.codec.specs.Bytes.{little_endian}
use Rattle.rules.specs.declared.Instruction.{Instruction}
use Rattle.std.specs.declared.option.Option.{Option}
use Rattle.std.specs.declared.option.Option.TheVariants.{Some, None}
use Rattle.rules.specs.Codes.{read_bytes}
use Rattle.rules.specs.Verdicts.{on_code}
use Rattle.answers.specs.declared.Answer.TheVariants.{Taken, TooFewBytes, BadField, NoRoom, Unsound}
use Rattle.answers.specs.Answers.{reason_number, nowhere}
use Rattle.bits.proofs.Search.{lt_or_ge}
use mathlib.Core.Logic.{⊎_elim}
use Rattle.station.specs.declared.Station.{Station}
use Rattle.station.specs.declared.Outcome.{Outcome}
use Rattle.rooms.specs.Rooms.{returned, Entry, LeavesRoom, writes, no_room, entry, lent_station, outcome_kept}
use Rattle.rooms.proofs.Rooms.{short, entered}
use Rattle.plain.specs.declared.Floor.{Floor}
use Rattle.plain.specs.declared.Walk.{Walk}
use Rattle.plain.specs.Plain.{plain_bits, floor_of}
use Rattle.plain.specs.Walks.{walked, walk_of}
use Rattle.plain_moves.specs.Moves.{parts_bits}
use Rattle.panel.specs.declared.Explanation.{Explanation}
use Rattle.panel.specs.Panel.{explained}
use Rattle.plain_laws.proofs.Crossing.{reads_back, sound_drawn}
use Rattle.panel_c.specs.Entries.{refuses, condition_bytes, explaining, walking}

-- what is left by an entry that equals another
pub lead : {e g : Entry} {x : ℕ} {last : List ℕ} → e ≡ g → LeavesRoom g x last → LeavesRoom e x last
lead e w = rw e w

-- a floor of a sound record shows its bits
pub shows : (r : ℕ) {f : Floor} → r < 2 ^ 64 → sound r ≡ true → f ≡ floor_of (bit r) → plain_bits f ≡ bit r
shows r h s e = ap plain_bits e ∙ reads_back (bit r) (sound_drawn r (h, s))

-- an entry on a lent station, as on_lent tells it
pub lent : (call : Station → Outcome) (room : List ℕ) {r : ℕ} {last : List ℕ} → (length room < 60 → LeavesRoom (no_room room) r last)
    → (60 ≤ length room → (o : Outcome) × (o ≡ call (lent_station room)) × LeavesRoom (outcome_kept o room) r last) → LeavesRoom (entry call room) r last
lent call room {r} {last} a b = ⊎_elim
    (λ (h : length room < 60). let e = a h in subst (λ (l : List ℕ). LeavesRoom (entry call room) r l) (sym e.1) (short call room h e.0))
    (λ (h : 60 ≤ length room). let m = b h in entered call room h refl m.1 m.2)
    (lt_or_ge (length room) 60)

-- ---- a condition

pub in_bytes : (x : Explanation) {n : ℕ} {told : ℕ} {b : List ℕ} → n ≡ image (parts_bits x.parts) → b ≡ little_endian 8 n → told ≡ reason_number x.condition.why
    → 1 ∷ bool_byte x.condition.holds ∷ told ∷ get_or b 0 0 ∷ get_or b 1 0 ∷ get_or b 2 0 ∷ get_or b 3 0 ∷ get_or b 4 0 ∷ get_or b 5 0 ∷ get_or b 6 0 ∷ get_or b 7 0 ∷ []
    ≡ condition_bytes (Some x)
unfolding condition_bytes
in_bytes x e d t = rw (byte_digit x.condition.holds, t, d, e)

module _ (r : ℕ) (five : List ℕ) (c : ℕ) (room : List ℕ) where
  -- what is left, by what the tests tell
  explained_by : Bool → Bool → (Option Instruction) → Bool → Entry
  explained_by short few one fine =
      cond short (no_room room)
      (cond few (refuses TooFewBytes room)
      (on_code (λ i. cond fine (writes Taken (condition_bytes (explained i c (bit r))) room) (refuses Unsound room)) (refuses (BadField nowhere) room) one))

  by_tests : (short few : Bool) (one : (Option Instruction)) (fine : Bool) → ltb (length room) 11 ≡ short → ltb (length five) 5 ≡ few → read_bytes five ≡ one → sound r ≡ fine
      → explaining r five c room ≡ explained_by short few one fine
  unfolding explaining explained_by
  by_tests short few one fine a b d e = rw (a, b, d, e)

  pub no_room_lem : {x : ℕ} → length room < 11 → x ≡ returned NoRoom → LeavesRoom (explaining r five c room) x room
  unfolding explained_by
  no_room_lem h e = lead (by_tests true _ _ _ (lt-ltb (length room) 11 h) refl refl refl) (e, refl)

  module _ (h : 11 ≤ length room) where
    pub too_few : {x : ℕ} → length five < 5 → x ≡ returned TooFewBytes → LeavesRoom (explaining r five c room) x room
    unfolding explained_by
    too_few l e = lead (by_tests false true _ _ (le-ltb (length room) 11 h) (lt-ltb (length five) 5 l) refl refl) (e, refl)

    module _ (l : 5 ≤ length five) {one : (Option Instruction)} (d : one ≡ read_bytes five) where
      pub says_none : {x : ℕ} → one ≡ None → x ≡ returned (BadField nowhere) → LeavesRoom (explaining r five c room) x room
      unfolding explained_by
      says_none g e = lead (by_tests false false None _ (le-ltb (length room) 11 h) (le-ltb (length five) 5 l) (sym d ∙ g) refl) (e, refl)

      module _ (i : Instruction) (g : one ≡ Some i) where
        pub not_sound : {x : ℕ} → sound r ≡ false → x ≡ returned Unsound → LeavesRoom (explaining r five c room) x room
        unfolding explained_by
        not_sound s e = lead (by_tests false false (Some i) false (le-ltb (length room) 11 h) (le-ltb (length five) 5 l) (sym d ∙ g) s) (e, refl)

        pub told_so : {f : Floor} {x : ℕ} {last : List ℕ} → r < 2 ^ 64 → sound r ≡ true → f ≡ floor_of (bit r)
            → LeavesRoom (writes Taken (condition_bytes (explained i c (plain_bits f))) room) x last → LeavesRoom (explaining r five c room) x last
        unfolding explained_by
        told_so k s e w =
            lead (by_tests false false (Some i) true (le-ltb (length room) 11 h) (le-ltb (length five) 5 l) (sym d ∙ g) s
            ∙ ap (λ (b : Bits). writes Taken (condition_bytes (explained i c b)) room) (sym (shows r k s e))) w

-- ---- cars

module _ (r : ℕ) (room : List ℕ) where
  -- what is left, by what the tests tell
  walked_by : Bool → Bool → Entry
  walked_by short fine =
      let cars = walked (bit r) in
      cond short (no_room room)
      (cond fine (record { says = returned Taken + 65536 * length cars; leaves = (walk_of cars).starts ++ drop 31 room }) (refuses Unsound room))

  by_walk : (short fine : Bool) → ltb (length room) 31 ≡ short → sound r ≡ fine → walking r room ≡ walked_by short fine
  unfolding walking walked_by
  by_walk short fine a b = rw (a, b)

  pub no_room_to_walk : {x : ℕ} → length room < 31 → x ≡ returned NoRoom → LeavesRoom (walking r room) x room
  unfolding walked_by
  no_room_to_walk h e = lead (by_walk true _ (lt-ltb (length room) 31 h) refl) (e, refl)

  module _ (h : 31 ≤ length room) where
    pub no_walk : {x : ℕ} → sound r ≡ false → x ≡ returned Unsound → LeavesRoom (walking r room) x room
    unfolding walked_by
    no_walk s e = lead (by_walk false false (le-ltb (length room) 31 h) s) (e, refl)

    pub walked_so : {f : Floor} {w : Walk} {x : ℕ} {last : List ℕ} → r < 2 ^ 64 → sound r ≡ true → f ≡ floor_of (bit r)
        → w ≡ walk_of (walked (plain_bits f)) → length w.starts ≡ 31 → last ≡ take (length w.starts) w.starts ++ drop (length w.starts) room
        → x ≡ returned Taken + 65536 * w.count → LeavesRoom (walking r room) x last
    unfolding walked_by walk_of
    walked_so {f} {w} k s e d z l c =
        let all : w ≡ walk_of (walked (bit r)) = d ∙ ap (λ (b : Bits). walk_of (walked b)) (shows r k s e) in
        lead (by_walk false true (le-ltb (length room) 31 h) s) (
          c ∙ ap (λ (y : Walk). returned Taken + 65536 * y.count) all,
          l ∙ rw (take-length, z) (ap (λ (y : Walk). y.starts ++ drop 31 room) all),
        )
