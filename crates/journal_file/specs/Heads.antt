-- A journal's head: what the file is, whose it is, and the station to begin with. Assumes nothing.
use Rattle.std.specs.Prelude.{Bool, false, cond, not, ◌&&◌, ◌||◌, List, [], ◌∷◌, ◌++◌, ℕ, eqb, leb, ltb, length, get_or, take, drop}
use Rattle.station.specs.declared.Station.{Station}
use Rattle.station.specs.Station.{fit, closed}
use Rattle.codec.specs.Fours.{four_at}
use Rattle.version.specs.Version.{version}
use Rattle.rooms.specs.Rooms.{station_bytes, lent_station}
use Rattle.bits.specs.Search.{every}
use Rattle.codec.specs.Bytes.{little_endian}
use Rattle.commands.specs.Words.{is_text}
use Rattle.journal_file.specs.declared.Kind.{Kind}
use Rattle.journal_file.specs.declared.Kind.TheVariants.{NoJournal, OtherFormat, Damaged, Unfit, Good}
use Rattle.journal_file.specs.declared.Head.{Head}
use Rattle.journal_file.specs.Appends.{Over}

-- ---- its bytes

-- what it is, in words: `Vargsnida, journal.` and a line feed
abbrev pub magic : List ℕ
magic = 86 ∷ 97 ∷ 114 ∷ 103 ∷ 115 ∷ 110 ∷ 105 ∷ 100 ∷ 97 ∷ 44 ∷ 32 ∷ 106 ∷ 111 ∷ 117 ∷ 114 ∷ 110 ∷ 97 ∷ 108 ∷ 46 ∷ 10 ∷ []

-- the number of this format
abbrev pub format : ℕ
format = 2

-- a head has so many bytes: 20 in words, the format, the version in three, the garage's name in 40, the station in 60, and four
abbrev pub head_size : ℕ
head_size = 128

-- what stands before the name
abbrev pub title_bytes : List ℕ
title_bytes = magic ++ (format ∷ little_endian 3 version)

-- the checksum of a head
abbrev pub head_sum : Over → List ℕ → Station → ℕ
head_sum over name s = over (over (over 0 title_bytes) name) (station_bytes s)

-- a head of a garage with this name, filled up with zeros to 40 bytes
unfoldable pub head_bytes : Over → List ℕ → Station → List ℕ
head_bytes over name s = title_bytes ++ (name ++ (station_bytes s ++ little_endian 4 (head_sum over name s)))

-- ---- at the front of some bytes

-- what it is: no journal, one of another format, damaged, one whose station is not fit, or a good one
unfoldable pub head_kind : Over → List ℕ → Kind
head_kind over m =
    cond (not (is_text magic (take 20 m))) NoJournal
    (cond (not (eqb (get_or m 20 0) format)) OtherFormat
    (cond (not (eqb (four_at 124 m) (over 0 (take 124 m)))) Damaged
    (cond (not (fit (lent_station (take 60 (drop 64 m))))) Unfit Good)))

-- no head: there are fewer bytes than it has
abbrev pub no_head : Head
no_head = record { kind = NoJournal; station = closed 0 0 0; sum = 0 }

-- the head at the front of some bytes
unfoldable pub head_of : Over → List ℕ → Head
head_of over m =
    cond (ltb (length m) head_size) no_head (record { kind = head_kind over m; station = lent_station (take 60 (drop 64 m)); sum = four_at 124 m })

-- the name in it
abbrev pub head_name : List ℕ → List ℕ
head_name m = take 40 (drop 24 m)

-- ---- a garage's name

-- a byte of a name: printable and no space, or part of a letter that has several
abbrev pub name_byte : ℕ → Bool
name_byte b = leb 33 b && leb b 126 || leb 128 b

-- a word that can be a garage's name
abbrev pub is_garage : List ℕ → Bool
is_garage w = cond (ltb (length w) 1) false (cond (ltb 40 (length w)) false (every (length w) (λ j. name_byte (get_or w j 0))))
