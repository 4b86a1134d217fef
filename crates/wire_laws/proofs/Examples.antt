-- Document 01's session and its lengths, computed: the definitions say on them what the paper says. Assumes nothing.
use mathlib.Core.Path.{◌≡◌, refl}
use mathlib.Core.List.{[], ◌∷◌}
use lib.ListN.{replicate}
use Rattle.bits.specs.Search.{least}
use Rattle.answers.specs.declared.Answer.TheVariants.{TooFewBytes, BadLength, UnknownKind, BadField, TooMany}
use Rattle.rules.specs.Codes.{read_code, read_bytes}
use Rattle.wire.specs.declared.What.TheVariants.{Event, Result, Image, Ask, Answer, Held}
use Rattle.wire.specs.Kinds.{plain}
use Rattle.wire.specs.Reads.{message_refused, message_taken, read_request, read_whole, read_message, read_asked}
use Rattle.wire.specs.Writes.{message_bytes}

-- in: a car comes, then the image is asked for
car_in : read_asked (3 ∷ 0 ∷ 2 ∷ 0 ∷ 1 ∷ 2 ∷ 0 ∷ 5 ∷ 0 ∷ []) ≡ message_taken (plain (Event 1)) 5
unfolding read_asked read_whole
car_in = refl

then_ask : read_asked (2 ∷ 0 ∷ 5 ∷ 0 ∷ []) ≡ message_taken (plain Ask) 4
unfolding read_asked read_whole
then_ask = refl

-- out: taken, then the image
answered : message_bytes (plain (Answer 0 255 0)) ≡ 6 ∷ 0 ∷ 0x80 ∷ 0 ∷ 0 ∷ 0xFF ∷ 0 ∷ 0 ∷ []
answered = refl

image_sent : message_bytes (plain (Held 0x00891B0000000000 0)) ≡ 0x12 ∷ 0 ∷ 0x81 ∷ 0 ∷ 0 ∷ 0 ∷ 0 ∷ 0 ∷ 0 ∷ 0x1B ∷ 0x89 ∷ 0 ∷ replicate 8 0
image_sent = refl

-- cells 0 and 1 and the lift are set apart: sent, and read as an image to take; the record alone is too short
jam_sent : message_bytes (plain (Held 0x00191B0000000003 0x0010000000000003)) ≡ 0x12 ∷ 0 ∷ 0x81 ∷ 0 ∷ 3 ∷ 0 ∷ 0 ∷ 0 ∷ 0 ∷ 0x1B ∷ 0x19 ∷ 0 ∷ 3 ∷ 0 ∷ 0 ∷ 0 ∷ 0 ∷ 0 ∷ 0x10 ∷ 0 ∷ []
jam_sent = refl

jam_taken : read_asked (0x12 ∷ 0 ∷ 4 ∷ 0 ∷ 3 ∷ 0 ∷ 0 ∷ 0 ∷ 0 ∷ 0x1B ∷ 0x19 ∷ 0 ∷ 3 ∷ 0 ∷ 0 ∷ 0 ∷ 0 ∷ 0 ∷ 0x10 ∷ 0 ∷ []) ≡ message_taken (plain (Image 0x00191B0000000003 0x0010000000000003)) 20
unfolding read_asked read_whole
jam_taken = refl

record_alone : read_asked (0x0A ∷ 0 ∷ 4 ∷ 0 ∷ 0 ∷ 0 ∷ 0 ∷ 0 ∷ 0 ∷ 0x1B ∷ 0x19 ∷ 0 ∷ []) ≡ message_refused BadLength 12
unfolding read_asked read_whole
record_alone = refl

-- a set of issue 258 is opened, and its instruction 5 is done, or stuck; an ending of 3 is out of its range, and a result without an
-- issue is too short
set_opened : message_bytes (plain (Answer 0 255 258)) ≡ 6 ∷ 0 ∷ 0x80 ∷ 0 ∷ 0 ∷ 0xFF ∷ 2 ∷ 1 ∷ []
set_opened = refl

result_of_it : read_asked (6 ∷ 0 ∷ 3 ∷ 0 ∷ 2 ∷ 1 ∷ 5 ∷ 1 ∷ []) ≡ message_taken (plain (Result 258 5 1)) 8
unfolding read_asked read_whole
result_of_it = refl

stuck : read_asked (6 ∷ 0 ∷ 3 ∷ 0 ∷ 2 ∷ 1 ∷ 5 ∷ 2 ∷ []) ≡ message_taken (plain (Result 258 5 2)) 8
unfolding read_asked read_whole
stuck = refl

no_ending : read_asked (6 ∷ 0 ∷ 3 ∷ 0 ∷ 2 ∷ 1 ∷ 5 ∷ 3 ∷ []) ≡ message_refused (BadField 255) 8
unfolding read_asked read_whole
no_ending = refl

no_issue : read_asked (4 ∷ 0 ∷ 3 ∷ 0 ∷ 5 ∷ 1 ∷ []) ≡ message_refused BadLength 6
unfolding read_asked read_whole
no_issue = refl

-- a count of nine: 5 at length 43, 2 at length 48
nine_at_43 : read_asked (43 ∷ 0 ∷ 1 ∷ 0 ∷ 9 ∷ replicate 40 0) ≡ message_refused TooMany 45
unfolding read_asked read_whole read_request
nine_at_43 = refl

nine_at_48 : read_asked (48 ∷ 0 ∷ 1 ∷ 0 ∷ 9 ∷ replicate 45 0) ≡ message_refused BadLength 0
unfolding read_asked
nine_at_48 = refl

-- length 44, whatever follows; a message cut short; a request with no count; a bad instruction after a good one
length_44 : read_asked (44 ∷ 0 ∷ []) ≡ message_refused BadLength 0
unfolding read_asked
length_44 = refl

cut_short_lem : read_asked (2 ∷ 0 ∷ 5 ∷ []) ≡ message_refused TooFewBytes 0
unfolding read_asked
cut_short_lem = refl

no_count : read_asked (2 ∷ 0 ∷ 1 ∷ 0 ∷ []) ≡ message_refused BadLength 4
unfolding read_asked read_whole read_request
no_count = refl

second_bad : read_asked (13 ∷ 0 ∷ 1 ∷ 0 ∷ 2 ∷ 5 ∷ 0 ∷ 0 ∷ 0 ∷ 0 ∷ 5 ∷ 0 ∷ 0 ∷ 0 ∷ 1 ∷ []) ≡ message_refused (BadField 1) 15
unfolding read_asked read_whole read_request least read_bytes read_code
second_bad = refl

-- kind 128 with a wrong length: unknown to the station, a bad length to the library; kind 257 is not kind 1
answer_asked : read_asked (2 ∷ 0 ∷ 128 ∷ 0 ∷ []) ≡ message_refused UnknownKind 4
unfolding read_asked read_whole
answer_asked = refl

answer_read : read_message (2 ∷ 0 ∷ 128 ∷ 0 ∷ []) ≡ message_refused BadLength 4
unfolding read_message read_whole
answer_read = refl

kind_257 : read_message (3 ∷ 0 ∷ 1 ∷ 1 ∷ 0 ∷ []) ≡ message_refused UnknownKind 5
unfolding read_message read_whole
kind_257 = refl
