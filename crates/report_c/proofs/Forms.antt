-- Totals in bytes read back, and have one form. Assumes nothing.
use mathlib.Core.Path.{◌≡◌, ap}
use mathlib.Core.Logic.{◌⊎◌, inl, inr}
use Prim.Native.Nat.{ℕ, ◌≤◌, ◌<◌}
use native.Mathlib.Omega.{arith}
use lib.ListN.{length, get_or, get_or-eq_default}
use Rattle.bits.proofs.Search.{lt_or_ge}
use Rattle.totals.specs.Totals.{totals_of}
use Rattle.codec.proofs.Fours.{valued_length}
use Rattle.codec.proofs.Forms.{number, held_at, number_small, fours_read_back, fours_one_form}
use Rattle.report_c.specs.Entries.{totals_bytes, totals_in}
use Rattle.report_c.specs.Promises.{TotalsReadBack, TotalsOneForm, AnyBytesHold}

pub totals_read_back : TotalsReadBack
unfolding totals_bytes totals_in
totals_read_back t past w = ap totals_of (fours_read_back 52 t.counts past w.places (λ p. let s = w.small p in omega arith))

pub totals_one_form : TotalsOneForm
unfolding totals_bytes totals_in
totals_one_form room b l = fours_one_form 52 room b (omega arith)

pub any_bytes_hold : AnyBytesHold
unfolding totals_in
any_bytes_hold room b = record { places = size; small = λ p. go p (lt_or_ge p 52) }
  where
    size : length (totals_in room).counts ≡ 52
    size = valued_length (number room b) 0 52

    go : (p : ℕ) → (p < 52) ⊎ (52 ≤ p) → get_or (totals_in room).counts p 0 ≤ 4294967295
    go p (inl h) = rw (held_at room b 52 p h) (let s = number_small room b p in omega arith)
    go p (inr h) = rw (get_or-eq_default (totals_in room).counts 0 {n = p} (omega (arith, size))) (omega arith)
