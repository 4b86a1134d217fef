-- A head that was written reads back. Assumes nothing.
use mathlib.Core.Path.{◌≡◌, refl, sym, ap, ap₂, ◌∙◌}
use mathlib.Core.Bool.{Bool, true, false, cond, not}
use mathlib.Core.List.{List, [], ◌∷◌, ◌++◌, append_assoc, append-nil}
use Prim.Native.Nat.{ℕ, ◌+◌, ◌^◌, ◌≤◌, ◌<◌}
use native.Mathlib.Omega.{arith}
use borrow.Author.Tests.{le-ltb, eq-eqb}
use lib.Dec.{eqb, ltb}
use lib.ListN.{length, get_or, take, drop, length-append}
use lib.Seq.{take_at, drop_at}
use Rattle.bits.specs.Search.{every}
use Rattle.codec.specs.Bytes.{little_endian}
use Rattle.station.specs.declared.Station.{Station}
use Rattle.station.specs.Station.{fit}
use Rattle.codec.specs.Fours.{four_at}
use Rattle.commands.specs.Words.{is_text}
use Rattle.rooms.specs.Rooms.{station_bytes, station_of, lent_station}
use Rattle.rooms.specs.Promises.{StationTyped}
use Rattle.rooms.proofs.Promises.{station_fits, station_reads_back}
use Rattle.checksum.specs.Checksum.{crc_over}
use Rattle.checksum.proofs.Promises.{in_range, continues}
use Rattle.journal_file.specs.declared.Kind.TheVariants.{Good}
use Rattle.journal_file.specs.Heads.{magic, title_bytes, head_sum, head_bytes, head_kind, head_of}
use Rattle.journal_file.specs.Promises.{HeadReadsBack}
use Rattle.journal_file.proofs.Forms.{four_behind}

module _ (name : List ℕ) (s : Station) (past : List ℕ) (named : length name ≡ 40) (typed : StationTyped s) (fits : fit s ≡ true) where
  abbrev bytes : List ℕ
  bytes = station_bytes s

  abbrev sum : ℕ
  sum = head_sum crc_over name s

  -- what the checksum goes over
  abbrev over_it : List ℕ
  over_it = title_bytes ++ (name ++ bytes)

  abbrev m : List ℕ
  m = title_bytes ++ (name ++ (bytes ++ (little_endian 4 sum ++ past)))

  laid : head_bytes crc_over name s ++ past ≡ m
  unfolding head_bytes
  laid =
      ap (◌++◌ title_bytes)
      (append_assoc name (bytes ++ little_endian 4 sum) past ∙ ap (◌++◌ name) (append_assoc bytes (little_endian 4 sum) past))

  parted : over_it ++ (little_endian 4 sum ++ past) ≡ m
  parted = ap (◌++◌ title_bytes) (append_assoc name bytes (little_endian 4 sum ++ past))

  sixty : length bytes ≡ 60
  sixty = station_fits s typed

  over_long : length over_it ≡ 124
  over_long = let l = length-append name bytes in let k = sixty in let j = named in omega arith

  long : 128 ≤ length m
  long =
      let l = length-append name (bytes ++ (little_endian 4 sum ++ past)) in
      let k = length-append bytes (little_endian 4 sum ++ past) in
      omega (arith, l, k, sixty, named)

  worded : is_text magic (take 20 m) ≡ true
  unfolding every
  worded = refl

  sum_small : sum < 2 ^ 32
  sum_small =
      in_range (crc_over (crc_over 0 title_bytes) name) bytes (in_range (crc_over 0 title_bytes) name (in_range 0 title_bytes (omega arith)))

  sum_there : four_at 124 m ≡ sum
  sum_there = ap (four_at 124) (sym parted) ∙ four_behind over_it sum past 124 sum_small over_long

  sum_right : crc_over 0 (take 124 m) ≡ sum
  sum_right =
      ap (crc_over 0) (ap (take 124) (sym parted) ∙ take_at over_it (little_endian 4 sum ++ past) 124 over_long)
      ∙ continues 0 title_bytes (name ++ bytes) ∙ continues (crc_over 0 title_bytes) name bytes

  station_there : lent_station (take 60 (drop 64 m)) ≡ s
  unfolding lent_station
  station_there =
      let rest = little_endian 4 sum ++ past in
      let dropped : drop 64 m ≡ bytes ++ rest =
      drop_at (title_bytes ++ name) (bytes ++ rest) 64 (let j = named in omega arith) in
      let parts : take 60 (drop 64 m) ≡ bytes = ap (take 60) dropped ∙ take_at bytes rest 60 sixty in
      rw (parts, le-ltb (length bytes) 60 (omega (arith, sixty))) (ap station_of (sym (append-nil bytes)) ∙ station_reads_back s [] typed)

  is_good : head_kind crc_over m ≡ Good
  unfolding head_kind
  is_good = rw (worded, eq-eqb (four_at 124 m) (crc_over 0 (take 124 m)) (sum_there ∙ sym sum_right), station_there, fits)

  read : head_of crc_over m ≡ record { kind = Good; station = s; sum = sum }
  unfolding head_of
  read = rw (le-ltb (length m) 128 long, is_good, station_there, sum_there)

pub head_reads_back : HeadReadsBack
head_reads_back name s past named typed fits =
    ap (head_of crc_over) (laid name s past named typed fits) ∙ read name s past named typed fits
