use Rattle.wire.proofs.Room.{says, begins, result_says, answer_says}
use lib.Dec.{lit≤}
use mathlib.Core.Path.{◌≡◌, refl, ap}
use mathlib.Core.List.{List}
use Prim.Native.Nat.{ℕ}
use lib.ListN.{get_or}
use Rattle.wire.proofs.writing.bytes_of.Goals as goal

first : {b l : List ℕ} → b ≡ l → get_or b 0 0 ≡ get_or l 0 0
first e = ap (λ (b : List ℕ). get_or b 0 0) e

second : {b l : List ℕ} → b ≡ l → get_or b 1 0 ≡ get_or l 1 0
second e = ap (λ (b : List ℕ). get_or b 1 0) e

pub returns-in-Request : goal.returns-in-Request
returns-in-Request c = (lit≤ tt, says refl c.in-Request.is)

pub returns-in-Event : goal.returns-in-Event
returns-in-Event c = (lit≤ tt, says refl c.in-Event.is)

pub returns-in-Result : goal.returns-in-Result
returns-in-Result c =
    let issue = result_says _ (first c.to_le_bytes.ensures) (second c.to_le_bytes.ensures) in
    (lit≤ tt, says issue c.in-Result.is)

pub returns-in-Image : goal.returns-in-Image
returns-in-Image c =
    let what = c.args.what in
    begins what c.image_message.ensures (lit≤ tt, says refl c.in-Image.is)

pub returns-in-Ask : goal.returns-in-Ask
returns-in-Ask c = (lit≤ tt, says refl c.in-Ask.is)

pub returns-in-Answer : goal.returns-in-Answer
returns-in-Answer c =
    let issue = answer_says _ (first c.to_le_bytes-in-Answer.ensures) (second c.to_le_bytes-in-Answer.ensures) in
    (lit≤ tt, says issue c.in-Answer.is)

pub returns-in-Held : goal.returns-in-Held
returns-in-Held c =
    let what = c.args.what in
    begins what c.image_message-in-Held.ensures (lit≤ tt, says refl c.in-Held.is)
