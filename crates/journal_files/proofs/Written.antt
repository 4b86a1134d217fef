-- Parts that are written one behind the other are an append, or a head. Assumes nothing.
use Rattle.std.proofs.Common.{◌≡◌, ℕ, List, ◌++◌, length, ap, ◌∙◌, ap₂}
use Rattle.station.specs.declared.Station.{Station}
use Rattle.codec.specs.Bytes.{little_endian}
use Rattle.rooms.specs.Rooms.{station_bytes}
use Rattle.journal_file.specs.Appends.{Over, opening_of, sum_after, closing_of, append_of}
use Rattle.journal_file.specs.Heads.{title_bytes, head_sum, head_bytes}

pub parts_make : (over : Over) (was kind : ℕ) (bytes : List ℕ) {opening closing : List ℕ} {sum : ℕ} → opening ≡ opening_of over was kind (length bytes)
    → sum ≡ sum_after over was kind bytes → closing ≡ closing_of sum → opening ++ (bytes ++ closing) ≡ append_of over was kind bytes
unfolding append_of
parts_make over was kind bytes o s c = ap₂ (λ (x y : List ℕ). x ++ (bytes ++ y)) o (c ∙ ap closing_of s)

pub head_made : (over : Over) (name : List ℕ) (s : Station) {title bytes four : List ℕ} {sum : ℕ} → title ≡ title_bytes → bytes ≡ station_bytes s
    → sum ≡ head_sum over name s → four ≡ little_endian 4 sum → title ++ (name ++ (bytes ++ four)) ≡ head_bytes over name s
unfolding head_bytes
head_made over name s t b h f =
    ap₂ (λ (x y : List ℕ). x ++ (name ++ y)) t (ap₂ (λ (x y : List ℕ). x ++ y) b (f ∙ ap (little_endian 4) h))
