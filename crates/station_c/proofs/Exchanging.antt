-- What the entry for messages leaves in its two rooms, case by case. Assumes nothing.
use mathlib.Core.Path.{◌≡◌, refl, sym, ap, ◌∙◌}
use mathlib.Core.Bool.{Bool, true, false}
use mathlib.Core.List.{List, [], ◌∷◌, ◌++◌}
use Prim.Native.Nat.{ℕ, ◌%◌, ◌≤◌, ◌<◌}
use native.Mathlib.Omega.{arith}
use borrow.Author.Tests.{lt-ltb, le-ltb, eq-eqb, ne_eqb}
use denote.Enum.Declared.{tag_of}
use types.Run.{OneOf, miss}
use lib.Dec.{ltb}
use lib.ListN.{length, take, drop}
use lib.Seq.{take-length}
use Rattle.bits.proofs.Cases.{split, off}
use Rattle.answers.specs.declared.Answer.TheVariants.{Taken, NoRoom}
use Rattle.answers.specs.Answers.{number_of}
use Rattle.station.specs.declared.Station.{Station}
use Rattle.std.specs.declared.result.Result.TheVariants.{Ok, Err}
use Rattle.answers.specs.declared.Answer as answer
use Rattle.wire.proofs.Results.{no_both, same_err}
use Rattle.wire.specs.contracts.What as what
use Rattle.wire.specs.declared.What.{What}
use Rattle.wire.specs.declared.What.TheVariants.{Request, Event, Result, Image, Ask, Held}
use Rattle.wire.specs.Writes.{Written}
use Rattle.wire.specs.Kinds.{plain}
use Rattle.wire.specs.Writes as writes
use Rattle.wire.specs.Writes.{Writing, writing_message}
use Rattle.service.specs.declared.Reply.{Reply}
use Rattle.service.specs.Service as service
use Rattle.service.specs.Service.{respond}
use Rattle.service.proofs.Replies.{plain_written}
use Rattle.service.proofs.Ranges.{replies_in_range}
use Rattle.rooms.specs.Rooms.{station_bytes, station_of, returned}
use Rattle.station_c.specs.Entries.{returned_of, Exchanges, exchange}

-- only of an answer the number is returned
pub not_an_answer : (w : What) → OneOf (0 ∷ 1 ∷ 2 ∷ 3 ∷ 4 ∷ 6 ∷ []) (tag_of what.the_type w) → returned Taken ≡ returned_of w
not_an_answer Request h = refl
not_an_answer (Event way) h = refl
not_an_answer (Result issue number ending) h = refl
not_an_answer (Image bits apart) h = refl
not_an_answer Ask h = refl
not_an_answer (What.Answer number place issue) h = absurd (miss (0 ∷ 1 ∷ 2 ∷ 3 ∷ 4 ∷ 6 ∷ []) 5 tt h)
not_an_answer (Held bits apart) h = refl

module _ (room message reply : List ℕ) where
  pub short_room : {r : ℕ} → length room < 60 → r ≡ returned NoRoom → Exchanges (exchange room message reply) r room reply
  unfolding exchange
  short_room h e = rw (lt-ltb _ _ h) (e, refl, refl)

  module _ {s : Station} {o : Reply} {w : Written} {last : List ℕ} (h : 60 ≤ length room) (e : s ≡ station_of room) (f : o ≡ respond s message)
      (g : writes.LeavesMessage (writing_message (plain o.answer) reply) w last) where
    -- the reply's room is too short
    short : Bool
    short = ltb (length reply) (length (service.answer_bytes o.answer))

    written : writing_message (plain o.answer) reply ≡ writes.put (service.answer_bytes o.answer) reply
    written = plain_written o.answer reply (rw f (replies_in_range s message))

    -- then nothing was written
    not_wrote : short ≡ true → (w ≡ Err NoRoom) × (last ≡ reply)
    unfolding short
    not_wrote t =
        let q : writing_message (plain o.answer) reply ≡ writes.nothing_written NoRoom reply = written ∙ rw t in
        (g.0 ∙ ap (λ (x : Writing). x.says) q, g.1 ∙ ap (λ (x : Writing). x.leaves) q)

    -- else all of it was
    wrote : short ≡ false → (w ≡ Ok (length (service.answer_bytes o.answer))) × (last ≡ service.answer_bytes o.answer ++ drop (length (service.answer_bytes o.answer)) reply)
    unfolding short
    wrote t =
        let b = service.answer_bytes o.answer in
        let q : writing_message (plain o.answer) reply ≡ record { says = Ok (length b); leaves = b ++ drop (length b) reply } = written ∙ rw t in
        (g.0 ∙ ap (λ (x : Writing). x.says) q, g.1 ∙ ap (λ (x : Writing). x.leaves) q)

    pub short_reply : {a : answer.Answer} {r : ℕ} → w ≡ Err a → r ≡ returned a → Exchanges (exchange room message reply) r room last
    unfolding exchange short
    short_reply k a = split short
        (λ t. let p = not_wrote t in rw (le-ltb _ _ h, ← e, ← f, t) (a ∙ ap returned (same_err (sym k ∙ p.0)), refl, p.1))
        (λ t. no_both (sym (wrote t).0 ∙ k))

    -- the reply was written
    module _ {n : ℕ} (k : w ≡ Ok n) where
      fits : short ≡ false
      fits = off short (λ t. no_both (sym k ∙ (not_wrote t).0))

      -- it refuses: the station stays
      pub told_why : {r : ℕ} → r ≡ returned_of o.answer → (r % 256 ≡ 0 → ⊥) → Exchanges (exchange room message reply) r room last
      unfolding exchange short
      told_why a q = rw (le-ltb _ _ h, ← e, ← f, fits, ← a, ne_eqb (_ % 256) 0 q) (refl, refl, (wrote fits).1)

      -- the message was taken
      pub replied : {r : ℕ} {b final : List ℕ} → r ≡ returned_of o.answer → r % 256 ≡ 0 → b ≡ station_bytes o.station → length b ≡ 60
          → final ≡ take (length b) b ++ drop (length b) room → Exchanges (exchange room message reply) r final last
      unfolding exchange short
      replied a q c l p = rw (le-ltb _ _ h, ← e, ← f, fits, ← a, eq-eqb (_ % 256) 0 q) (refl, p ∙ rw (take-length, l, c), (wrote fits).1)
