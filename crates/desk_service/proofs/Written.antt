-- What is written is what is told: its bytes, put into the room. Assumes nothing.
use mathlib.Core.Path.{◌≡◌, refl, sym, ◌∙◌, ap}
use mathlib.Core.List.{List}
use Prim.Native.Nat.{ℕ}
use Rattle.wire.specs.declared.What.TheVariants.{Held}
use Rattle.wire.specs.Writes.{Written}
use Rattle.wire.specs.Kinds.{plain}
use Rattle.wire.specs.Writes.{LeavesMessage, put, writing_message}
use Rattle.wire.proofs.Room.{as_told}
use Rattle.desk_service.specs.declared.DeskTold.{DeskTold}
use Rattle.desk_service.specs.declared.DeskTold.TheVariants as told
use Rattle.desk_service.specs.DeskService.{brief_bytes}

-- told as this, in these bytes
pub by_bytes : {t u : DeskTold} {b : List ℕ} (room : List ℕ) {last : List ℕ} {r : Written} → t ≡ u → b ≡ brief_bytes u → LeavesMessage (put b room) r last
    → LeavesMessage (put (brief_bytes t) room) r last
by_bytes {t} {u} {b} room e f l = as_told (ap (λ (x : List ℕ). put x room) (ap brief_bytes e ∙ sym f)) l

-- the image is written as the station's
pub by_station : {t : DeskTold} {bits apart : ℕ} (room : List ℕ) {last : List ℕ} {r : Written} → t ≡ told.Held bits apart
    → LeavesMessage (writing_message (plain (Held bits apart)) room) r last → LeavesMessage (put (brief_bytes t) room) r last
unfolding writing_message
by_station {t} {bits} {apart} room e l = as_told (ap (λ (x : DeskTold). put (brief_bytes x) room) e) l
