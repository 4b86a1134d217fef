-- No second answer and no second room fit what an entry promises. Assumes nothing.
use mathlib.Core.Path.{◌≡◌, sym, ◌∙◌}
use mathlib.Core.List.{List}
use Prim.Native.Nat.{ℕ}
use Rattle.rooms.specs.Rooms.{Entry, LeavesRoom}
use Rattle.station_c.specs.Entries.{Exchange, Exchanges}

pub one_entry : (e : Entry) (r s : ℕ) (room other : List ℕ) → LeavesRoom e r room → LeavesRoom e s other → (r ≡ s) × (room ≡ other)
one_entry e r s room other p q = (p.0 ∙ sym q.0, p.1 ∙ sym q.1)

pub one_exchange : (e : Exchange) (r s : ℕ) (room other reply another : List ℕ)
    → Exchanges e r room reply → Exchanges e s other another → (r ≡ s) × (room ≡ other) × (reply ≡ another)
one_exchange e r s room other reply another p q = (p.0 ∙ sym q.0, p.1 ∙ sym q.1, p.2 ∙ sym q.2)
