-- What a head is, case by case. Assumes nothing.
use mathlib.Core.Path.{◌≡◌, refl, sym, ap, ◌∙◌}
use mathlib.Core.Bool.{Bool, true, false, cond, not}
use mathlib.Core.List.{List, []}
use Prim.Native.Nat.{ℕ, ◌≤◌, ◌<◌}
use borrow.Author.Tests.{lt-ltb, le-ltb, eq-eqb, ne_eqb}
use lib.Dec.{eqb}
use lib.ListN.{length, get_or, take, drop}
use Rattle.bits.proofs.Cases.{passed, failed}
use Rattle.station.specs.declared.Station.{Station}
use Rattle.station.specs.Station.{fit}
use Rattle.codec.specs.Fours.{four_at}
use Rattle.rooms.specs.Rooms.{lent_station}
use Rattle.commands.specs.Words.{is_text}
use Rattle.journal_file.specs.declared.Kind.{Kind}
use Rattle.journal_file.specs.declared.Kind.TheVariants.{NoJournal, OtherFormat, Damaged, Unfit, Good}
use Rattle.journal_file.specs.declared.Head.{Head}
use Rattle.journal_file.specs.Appends.{Over}
use Rattle.journal_file.specs.Heads.{magic, format, head_kind, head_of}

module _ (over : Over) (m : List ℕ) where
  pub no_journal : {x : Bool} → x ≡ is_text magic (take 20 m) → not x ≡ true → NoJournal ≡ head_kind over m
  unfolding head_kind
  no_journal a t = rw (failed a t)

  module _ {x : Bool} (a : x ≡ is_text magic (take 20 m)) (s : not x ≡ false) where
    pub other_format : (get_or m 20 0 ≡ 2 → ⊥) → OtherFormat ≡ head_kind over m
    unfolding head_kind
    other_format t = rw (passed a s, ne_eqb (get_or m 20 0) 2 t)

    module _ {p q : ℕ} (b : get_or m 20 0 ≡ 2) (c : p ≡ four_at 124 m) (d : q ≡ over 0 (take 124 m)) where
      pub damaged : (p ≡ q → ⊥) → Damaged ≡ head_kind over m
      unfolding head_kind
      damaged t = rw (passed a s, eq-eqb (get_or m 20 0) 2 b, ne_eqb (four_at 124 m) (over 0 (take 124 m)) (λ e. t (c ∙ e ∙ sym d)))

      module _ {f : Bool} {station : Station} (u : p ≡ q) (v : f ≡ fit station) (w : station ≡ lent_station (take 60 (drop 64 m))) where
        sums : eqb (four_at 124 m) (over 0 (take 124 m)) ≡ true
        sums = eq-eqb (four_at 124 m) (over 0 (take 124 m)) (sym c ∙ u ∙ d)

        pub unfit : not f ≡ true → Unfit ≡ head_kind over m
        unfolding head_kind
        unfit t = rw (passed a s, eq-eqb (get_or m 20 0) 2 b, sums, failed (v ∙ ap fit w) t)

        pub good : not f ≡ false → Good ≡ head_kind over m
        unfolding head_kind
        good t = rw (passed a s, eq-eqb (get_or m 20 0) 2 b, sums, passed (v ∙ ap fit w) t)

  -- the whole head
  pub none : {station : Station} → length m < 128 → station ≡ lent_station [] → record { kind = NoJournal; station = station; sum = 0 } ≡ head_of over m
  unfolding head_of lent_station
  none h e = rw (lt-ltb (length m) 128 h, e)

  pub all : {kind : Kind} {station : Station} {sum : ℕ} → 128 ≤ length m → kind ≡ head_kind over m → station ≡ lent_station (take 60 (drop 64 m)) → sum ≡ four_at 124 m
      → record { kind = kind; station = station; sum = sum } ≡ head_of over m
  unfolding head_of
  all h k s n = rw (le-ltb (length m) 128 h, k, s, n)
