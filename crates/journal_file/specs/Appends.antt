-- An append: what a journal's file has for the messages of one read, or for what ended a session. Read in this order: its bytes as they
-- are written, what stands at the front of some bytes, and when an append was cut off by a lost power supply. Assumes nothing.
use Rattle.std.specs.Prelude.{Bool, true, false, cond, not, ◌&&◌, ◌||◌, List, [], ◌∷◌, ◌++◌, ℕ, zero, suc, ◌+◌, ◌-◌, ◌%◌, eqb, leb, ltb, length, get_or, take, drop}
use Rattle.codec.specs.Bytes.{little_endian, from_little_endian}
use Rattle.codec.specs.Fours.{four_at}
use Rattle.journal_file.specs.declared.Front.{Front}

-- how a checksum goes on over some bytes: by CRC-32C (`crc_over` of the crate checksum), which code takes from tables
abbrev pub Over : Type 0
Over = ℕ → List ℕ → ℕ

-- ---- its bytes

-- the kinds: the whole messages of one read; a session that ended by answer 1, by answer 2, with what was left of its input; the journal is
-- closed, since another follows it
abbrev pub messages_kind : ℕ
messages_kind = 1

abbrev pub cut_short_kind : ℕ
cut_short_kind = 2

abbrev pub bad_length_kind : ℕ
bad_length_kind = 3

abbrev pub closed_kind : ℕ
closed_kind = 4

-- the whole messages of one read, behind the numbers of a desk's cards as they are after them
abbrev pub numbers_kind : ℕ
numbers_kind = 5

-- the numbers of a desk's cards, 42 of four bytes
abbrev pub numbers_size : ℕ
numbers_size = 168

-- an append carries at most so many bytes: a read brings no more
abbrev pub most_carried : ℕ
most_carried = 65536

-- what stands around them: eight bytes before and five behind
abbrev pub around : ℕ
around = 13

-- the last byte is never zero, so that zeros at the end of a file end no append
abbrev pub end_mark : ℕ
end_mark = 10

-- the title: the kind, and the number of bytes carried
abbrev pub title_of : ℕ → ℕ → List ℕ
title_of kind n = kind ∷ little_endian 3 n

-- before the bytes: the title, and the checksum that goes on over it from the append before
abbrev pub opening_of : Over → ℕ → ℕ → ℕ → List ℕ
opening_of over sum kind n = title_of kind n ++ little_endian 4 (over sum (title_of kind n))

-- the checksum goes on over the bytes, and the next append goes on from it
abbrev pub sum_after : Over → ℕ → ℕ → List ℕ → ℕ
sum_after over sum kind bytes = over (over sum (title_of kind (length bytes))) bytes

-- behind the bytes: the checksum and the end mark
abbrev pub closing_of : ℕ → List ℕ
closing_of sum = little_endian 4 sum ++ (end_mark ∷ [])

-- an append behind one with this checksum
unfoldable pub append_of : Over → ℕ → ℕ → List ℕ → List ℕ
append_of over sum kind bytes = opening_of over sum kind (length bytes) ++ (bytes ++ closing_of (sum_after over sum kind bytes))

-- ---- at the front of some bytes

-- how many bytes it carries, as the title says
abbrev pub carried_of : List ℕ → ℕ
carried_of m = from_little_endian 3 1 m

-- the bytes that it carries
abbrev pub payload_of : List ℕ → List ℕ
payload_of m = take (carried_of m) (drop 8 m)

-- whether an append of this kind carries messages
abbrev pub carries_messages : ℕ → Bool
carries_messages kind = eqb kind messages_kind || eqb kind numbers_kind

-- so many of its bytes stand before them: the numbers, where it has cards
abbrev pub lead_of : ℕ → ℕ
lead_of kind = cond (eqb kind numbers_kind) numbers_size 0

-- the messages that it carries
abbrev pub carried_messages : List ℕ → List ℕ
carried_messages m = drop (lead_of (get_or m 0 0)) (payload_of m)

-- the title is right: its checksum is the one behind it, and it carries no more than an append may
abbrev pub titled : Over → ℕ → List ℕ → Bool
titled over sum m = eqb (four_at 4 m) (over sum (take 4 m)) && leb (carried_of m) most_carried

-- what it carries is right: the checksum over it is the one behind it, and the end mark stands there
abbrev pub payload_right : Over → List ℕ → Bool
payload_right over m = eqb (four_at (carried_of m + 8) m) (over (four_at 4 m) (payload_of m)) && eqb (get_or m (carried_of m + 12) 0) end_mark

-- no append: the bytes end inside of one, or are wrong
abbrev pub no_front : Bool → Front
no_front short = record { whole = false; short = short; kind = 0; carries = 0; sum = 0 }

-- an append that is whole
abbrev pub whole_front : List ℕ → Front
whole_front m = record { whole = true; short = false; kind = get_or m 0 0; carries = carried_of m; sum = four_at (carried_of m + 8) m }

-- what stands at the front of some bytes, behind an append with this checksum
unfoldable pub front_of : Over → ℕ → List ℕ → Front
front_of over sum m =
    cond (ltb (length m) 8) (no_front true)
    (cond (not (titled over sum m)) (no_front false)
    (cond (ltb (length m) (carried_of m + around)) (no_front true)
    (cond (payload_right over m) (whole_front m) (no_front false))))

-- ---- cut off by a lost power supply

-- how many bytes there are up to the last that is not zero
abbrev pub written : List ℕ → ℕ
written [] = 0
written (b ∷ m) = let n = written m in cond (eqb n 0) (cond (eqb b 0) 0 1) (suc n)

-- a disk writes whole sectors of so many bytes
abbrev pub sector : ℕ
sector = 512

-- the first place, from the written bytes on, at which a sector begins: `at` is the place in the file of the first byte
abbrev pub lost_from : ℕ → ℕ → ℕ
lost_from at n = cond (eqb n 0) 0 (n + (sector - (at + n) % sector) % sector)

-- an append that is not right, with all bytes to the file's end: from its first byte on, or from a sector on that begins inside of it, there
-- are only zeros. Where they begin within the opening there is nothing to go by; else its title is right, and the file ends where it ends
unfoldable pub zeroed : Over → ℕ → ℕ → List ℕ → Bool
zeroed over sum at m =
    let lost = lost_from at (written m) in
    cond (ltb (most_carried + around) (length m)) false
    (cond (leb (length m) lost) false
    (cond (ltb lost 8) true
    (cond (titled over sum m) (eqb (length m) (carried_of m + around)) false)))
