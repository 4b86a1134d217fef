-- The station: its record, the outstanding set, a mark for each instruction of it that is answered, the issue of the next set, and what is
-- set apart; and when a station is fit.
-- Assumes nothing.
use Rattle.std.specs.Prelude.{ℕ, ◌+◌, ◌-◌, ◌*◌, ◌%◌, ◌^◌, Bool, cond, not, ◌&&◌, ◌||◌, List, ◌++◌, take, replicate, ◌==◌, bit_or, nat_le, nat_lt, slice_index}
use Rattle.bits.specs.Bits.{bit}
use Rattle.bits.specs.Search.{some, every}
use Rattle.floor.specs.Sound.{sound}
use Rattle.rules.specs.Codes.{most_in_set}
use Rattle.station.specs.declared.Station.{Station}
use Rattle.station.specs.Held.{code_at, held_parts, bad, overlaps_earlier, stranded, crosses_drive}

-- no set is outstanding, no instruction and no mark: the record, the issue that the next set will have, and what is set apart
abbrev pub closed : ℕ → ℕ → ℕ → Station
closed r next apart = record { bits = r; count = 0; answered = 0; set = replicate 40 0; next = next; apart = apart }

-- the start: no cars, rows 1 and 2 lowered and row 3 tilted on both sides, lift at street, no set; the first has issue 0; nothing is apart
abbrev pub start_of : Station
start_of = closed 0x00091B0000000000 0 0

-- the issue after this one: it starts over at zero after 65535
abbrev pub issue_after : ℕ → ℕ
issue_after k = (k + 1) % 65536

-- the issue of the present set, which is the one before the next
abbrev pub present_issue : Station → ℕ
present_issue s = (s.next + 65535) % 65536

-- how far an issue is behind the present one, counted round the end
abbrev pub behind : Station → ℕ → ℕ
behind s k = (present_issue s + (65536 - k)) % 65536

-- it is late: 1 to 32767 behind
abbrev pub late : Station → ℕ → Bool
late s k = nat_le 1 (behind s k) && nat_le (behind s k) 32767

-- i is the number of an instruction of the set, which has at most eight
abbrev pub in_set : Station → ℕ → Bool
in_set s i = nat_le s.count most_in_set && nat_lt i s.count

-- instruction i is answered
abbrev pub marked : Station → ℕ → Bool
marked s i = bit s.answered i

-- a place of the set is used by one of its instructions
abbrev pub place_used : Station → ℕ → Bool
place_used s k = nat_lt k (5 * s.count)

-- the record is sound; 0 to 8 instructions, well formed; marks only those; unused places zero; a non-empty set has one unanswered; while a
-- drive is under way, none of them has the lift in its area; no two of them overlap, answered or not; each unanswered one is allowed; what
-- is set apart has zeros above bit 52
unfoldable pub fit : Station → Bool
fit s =
    sound s.bits
    && (nat_le s.count most_in_set
    && (every s.count (λ i. not (bad s.set i))
    && (every 8 (λ i. not (marked s i) || nat_lt i s.count)
    && (every 40 (λ k. place_used s k || slice_index s.set k == 0)
    && ((s.count == 0 || some s.count (λ i. not (marked s i)))
    && (not (crosses_drive s.bits s.set s.count)
    && (every s.count (λ i. not (overlaps_earlier s.set i))
    && (every s.count (λ i. not (stranded s.answered s.set s.bits i))
    && nat_lt s.apart (2 ^ 53)))))))))

-- the same set with these marks, the record now r, and this set apart
abbrev pub noting : Station → ℕ → ℕ → ℕ → Station
noting s marks r apart = record { bits = r; count = s.count; answered = marks; set = s.set; next = s.next; apart = apart }

-- the same station with another record
abbrev pub holding : Station → ℕ → Station
holding s r = noting s s.answered r s.apart

-- the same with the record that somebody saw: nothing is set apart
abbrev pub seeing : Station → ℕ → Station
seeing s r = noting s s.answered r 0

-- a set of n instructions is outstanding, none answered, under the next issue; the record stays, and what is set apart
abbrev pub opened : Station → ℕ → List ℕ → Station
opened s n set =
    record {
      bits = s.bits;
      count = n;
      answered = 0;
      set = take (5 * n) set ++ replicate (40 - 5 * n) 0;
      next = issue_after s.next;
      apart = s.apart;
    }

-- instruction i answered, the record now r, and this set apart; with the last of them the station holds no instruction and no mark
unfoldable pub answering : Station → ℕ → ℕ → ℕ → Station
answering s i r apart =
    let marks = bit_or s.answered (2 ^ i) in
    cond (every s.count (bit marks)) (closed r s.next apart) (noting s marks r apart)

-- what is set apart once instruction i is stuck: all that was, and everything in its area
abbrev pub apart_with : Station → ℕ → ℕ
apart_with s i = bit_or s.apart (held_parts (code_at s.set i))
