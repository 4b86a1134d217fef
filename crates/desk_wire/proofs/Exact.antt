-- Bytes that read as a message are exactly those that writing it gives. Assumes nothing.
use mathlib.Core.Path.{◌≡◌, refl, sym, ◌∙◌, ap, ap₂}
use mathlib.Core.Bool.{Bool, true, false}
use mathlib.Core.List.{List, [], ◌∷◌, ◌++◌}
use Prim.Native.Nat.{ℕ, ◌+◌, ◌-◌, ◌≤◌, ◌<◌}
use native.Mathlib.Omega.{arith}
use borrow.Author.Tests.{le-ltb, eqb-true}
use lib.Dec.{eqb}
use lib.ListN.{length, take, drop, length-drop}
use Rattle.bits.proofs.Cases.{clash}
use Rattle.codec.specs.Bytes.{little_endian, Bytes}
use Rattle.codec.proofs.Numbers.{bytes_take, bytes_drop}
use Rattle.answers.specs.declared.Answer.{Answer}
use Rattle.answers.specs.declared.Answer.TheVariants.{Taken, BadLength, BadField, TooFewBytes}
use Rattle.answers.specs.Answers.{number_of, nowhere}
use Rattle.std.specs.declared.result.Result.TheVariants.{Ok}
use Rattle.wire.specs.declared.Message.{Message}
use Rattle.wire.specs.Reads.{Received}
use Rattle.wire.specs.declared.Frame.{Frame}
use Rattle.wire.specs.declared.Frame.TheVariants.{Cut, Wrong, Whole}
use Rattle.wire.specs.declared.What.TheVariants.{Ask}
use Rattle.wire.specs.Kinds.{kinds_known, kind_of, plain}
use Rattle.wire.specs.Reads.{length_at, kind_at, message_taken, read_whole}
use Rattle.wire.specs.Writes.{message_bytes}
use Rattle.wire.proofs.Frames.{when}
use Rattle.wire_laws.specs.Statements.{Form}
use Rattle.wire_laws.proofs.Messages.{parts}
use Rattle.wire_laws.proofs.Form.{put_over, whole_meant, formed}
use Rattle.desk_wire.specs.Shapes.{Shape, shaped_body, shaped_size, fields_in, entries_in}
use Rattle.desk_wire.specs.DeskReads.{DeskMessage, of_station, shaped, DeskReceived, desk_message_refused, desk_message_taken, as_received, frame_up_to, read_shape, read_shaped, read_shaped_in, read_up_to}
use Rattle.desk_wire.specs.DeskWrites.{shaped_bytes, writing_shape, writing_shaped, is_shaped, writing_with, desk_one_form}
use Rattle.desk_wire.specs.DeskForms.{OneFormBy}
use Rattle.desk_wire.proofs.Laying.{body_form}
use Rattle.desk_wire.proofs.Framing.{FramedUpTo, whole_up, cut_up}

-- a refusal isn't a message taken
refused : {G : Type 0} {a : Answer} {n k : ℕ} {m : DeskMessage} → desk_message_refused a n ≡ desk_message_taken m k → 0 < number_of a → G
refused {a = a} e h = let z : number_of a ≡ 0 = ap (λ (r : DeskReceived). number_of r.answer) e in absurd (omega arith)

-- what is to be shown of a message that was read
abbrev Standing : ℕ → List Shape → List ℕ → DeskMessage → ℕ → Type 0
Standing most shapes s m n = (desk_one_form m ≡ m) × (writing_with most shapes m s ≡ record { says = Ok n; leaves = s })

-- the first message of s takes these bytes
record First (most : ℕ) (s m : List ℕ) (n : ℕ) : Type 0 where
  bytes : Bytes m
  size : length m ≡ n
  long : length_at m + 2 ≡ length m
  low : 4 ≤ n
  high : n ≤ most + 2
  within : n ≤ length s
  cut : take n s ≡ m

-- ---- by its shape

-- a message that was read by a shape
record Shapely (k : Shape) (m : List ℕ) (msg : DeskMessage) (n : ℕ) : Type 0 where
  meant : msg ≡ shaped k.number (fields_in k (drop 4 m)) (entries_in k (drop 4 m))
  took : n ≡ length m
  sized : length (drop 4 m) ≡ shaped_size k (drop 4 m)
  ranged : k.ranged (fields_in k (drop 4 m)) (entries_in k (drop 4 m)) ≡ true

shapely : (k : Shape) (m : List ℕ) (msg : DeskMessage) (n : ℕ) → read_shape k m ≡ desk_message_taken msg n → Shapely k m msg n
unfolding read_shape
shapely k m msg n e =
    when (eqb (length (drop 4 m)) (shaped_size k (drop 4 m))) _ _ _ e
    (λ t e. when (k.ranged (fields_in k (drop 4 m)) (entries_in k (drop 4 m))) _ _ _ e
    (λ r e. record { meant = sym (ap (λ (x : DeskReceived). x.message) e); took = sym (ap (λ (x : DeskReceived). x.used) e); sized = eqb-true _ _ t; ranged = r })
    (λ _ e. refused {a = BadField nowhere} e (omega arith)))
    (λ _ e. refused {a = BadLength} e (omega arith))

-- written over its bytes it changes nothing
shape_form : (most : ℕ) (k : Shape) (s m : List ℕ) (msg : DeskMessage) (n : ℕ) → First most s m n → kind_at m ≡ k.number → Shapely k m msg n
    → writing_shape most k (fields_in k (drop 4 m)) (entries_in k (drop 4 m)) s ≡ record { says = Ok n; leaves = s }
unfolding writing_shape
shape_form most k s m msg n f kind q =
    let body = drop 4 m in
    let ns = fields_in k body in
    let xs = entries_in k body in
    let same : shaped_body k ns xs ≡ body = body_form k body (bytes_drop 4 m f.bytes) q.sized in
    let low = f.low in
    let high = f.high in
    let size = f.size in
    let l : length (shaped_body k ns xs) ≡ length m - 4 = ap length same ∙ length-drop 4 m in
    let whole : m ≡ shaped_bytes k ns xs =
    parts m f.bytes (omega arith) f.long
    ∙ ap₂ (λ (a : ℕ) (b : List ℕ). little_endian 2 (2 + length b) ++ (little_endian 2 a ++ b)) kind (sym same) in
    simp (q.ranged, le-ltb most (2 + length (shaped_body k ns xs)) (omega arith))
    (put_over s (shaped_bytes k ns xs) n (f.cut ∙ whole) f.within (ap length (sym whole) ∙ size))

-- ---- the station's

-- what a desk's reader says, as the station's
abbrev station_part : DeskMessage → Message
station_part (of_station m) = m
station_part (shaped kind ns xs) = plain Ask

abbrev as_station : DeskReceived → Received
as_station r = record { answer = r.answer; used = r.used; message = station_part r.message }

abbrev is_station : DeskMessage → Bool
is_station (of_station m) = true
is_station (shaped kind ns xs) = false

station_form : (most : ℕ) (s m : List ℕ) (msg : Message) (n : ℕ) → First most s m n → read_whole kinds_known m ≡ message_taken msg n → Form s msg n × (kind_of msg.what ≡ kind_at m)
station_form most s m msg n f e =
    let w = whole_meant m msg n f.bytes e in
    let low = f.low in
    let size = f.size in
    let bytes : m ≡ message_bytes msg =
    parts m f.bytes (omega arith) f.long
    ∙ sym (ap₂ (λ (kind : ℕ) (body : List ℕ). little_endian 2 (2 + length body) ++ (little_endian 2 kind ++ body)) w.kind w.body) in
    (formed s msg n w.good w.unused (f.cut ∙ bytes) f.within, w.kind)

-- ---- every message

-- read by one of the shapes, or as the station's, with no shape of that kind
data Way (most : ℕ) (shapes : List Shape) (s m : List ℕ) (msg : DeskMessage) (n : ℕ) : Type 0 where
  by_shape : (ns : List ℕ) (xs : List (List ℕ)) → msg ≡ shaped (kind_at m) ns xs
      → writing_shaped most shapes (kind_at m) ns xs s ≡ record { says = Ok n; leaves = s } → Way most shapes s m msg n
  by_station : is_shaped shapes (kind_at m) ≡ false → as_received (read_whole kinds_known m) ≡ desk_message_taken msg n → Way most shapes s m msg n

further : (most : ℕ) (k : Shape) (shapes : List Shape) (s m : List ℕ) (msg : DeskMessage) (n : ℕ) → eqb (kind_at m) k.number ≡ false
    → Way most shapes s m msg n → Way most (k ∷ shapes) s m msg n
further most k shapes s m msg n t (by_station other e) = by_station (rw t other) e
further most k shapes s m msg n t (by_shape ns xs same e) = by_shape ns xs same (rw t e)

way : (most : ℕ) (shapes : List Shape) (s m : List ℕ) (msg : DeskMessage) (n : ℕ) → First most s m n
    → read_shaped kinds_known shapes m ≡ desk_message_taken msg n → Way most shapes s m msg n
way most [] s m msg n f e = by_station refl e
way most (k ∷ shapes) s m msg n f e =
    when (eqb (kind_at m) k.number) _ _ _ e
    (λ t e.
    let kind = eqb-true (kind_at m) k.number t in
    let q = shapely k m msg n e in
    by_shape (fields_in k (drop 4 m)) (entries_in k (drop 4 m))
    (q.meant ∙ ap (λ (x : ℕ). shaped x (fields_in k (drop 4 m)) (entries_in k (drop 4 m))) (sym kind))
    (rw t (shape_form most k s m msg n f kind q)))
    (λ t e. further most k shapes s m msg n t (way most shapes s m msg n f e))

stands : (most : ℕ) (shapes : List Shape) (s m : List ℕ) (msg : DeskMessage) (n : ℕ) → First most s m n → Way most shapes s m msg n → Standing most shapes s msg n
stands most shapes s m msg n f (by_shape ns xs same e) = rw same (refl, e)
stands most shapes s m (shaped kind ns xs) n f (by_station other e) =
    let z : true ≡ false = ap (λ (r : DeskReceived). is_station r.message) e in
    clash refl z
stands most shapes s m (of_station msg) n f (by_station other e) =
    let (form, kind) = station_form most s m msg n f (ap as_station e) in
    (ap of_station form.unused, rw (kind, other) form.written)

-- it took as many bytes as it has
took_all : (shapes : List Shape) (m : List ℕ) (msg : DeskMessage) (n : ℕ) → Bytes m → read_shaped kinds_known shapes m ≡ desk_message_taken msg n → n ≡ length m
took_all [] m msg n b e = sym (whole_meant m (station_part msg) n b (ap as_station e)).size
took_all (k ∷ shapes) m msg n b e =
    when (eqb (kind_at m) k.number) _ _ _ e (λ _ e. (shapely k m msg n e).took) (λ _ e. took_all shapes m msg n b e)

framed : (most : ℕ) (shapes : List Shape) (s : List ℕ) (msg : DeskMessage) (n k : ℕ) → Bytes s → FramedUpTo most s k
    → read_shaped kinds_known shapes (take k s) ≡ desk_message_taken msg n → Standing most shapes s msg n
framed most shapes s msg n k b f e =
    let c = cut_up most s k f in
    let q : n ≡ k = took_all shapes (take k s) msg n (bytes_take k s b) e ∙ c.size in
    let low = f.low in
    let high = f.high in
    let within = f.within in
    let first : First most s (take k s) n = record {
      bytes = bytes_take k s b;
      size = c.size ∙ sym q;
      long = c.long;
      low = omega arith;
      high = omega arith;
      within = omega arith;
      cut = ap (λ (x : ℕ). take x s) q;
    } in
    stands most shapes s (take k s) msg n first (way most shapes s (take k s) msg n first e)

pub any_one_form : (most : ℕ) (shapes : List Shape) → OneFormBy (writing_with most shapes) (read_up_to most kinds_known shapes) desk_message_taken desk_one_form
any_one_form most shapes s msg n b e = go (frame_up_to most s) refl e
  where
    go : (g : Frame) → frame_up_to most s ≡ g → read_shaped_in kinds_known shapes g s ≡ desk_message_taken msg n → Standing most shapes s msg n
    go Cut g e = refused {a = TooFewBytes} e (omega arith)
    go Wrong g e = refused {a = BadLength} e (omega arith)
    go (Whole k) g e = framed most shapes s msg n k b (whole_up most s k g) e
