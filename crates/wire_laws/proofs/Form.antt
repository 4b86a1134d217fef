-- Bytes that read as a meaning are exactly the bytes that writing it gives, for every kind. Assumes nothing.
use mathlib.Core.Path.{◌≡◌, refl, sym, ◌∙◌, ap, ap₂, subst₂}
use mathlib.Core.Bool.{false}
use mathlib.Core.List.{List, [], ◌∷◌, ◌++◌}
use Prim.Native.Nat.{ℕ, ◌+◌, ◌*◌, ◌-◌, ◌≤◌}
use native.Mathlib.Omega.{arith}
use borrow.Author.Tests.{le-ltb, eqb-true}
use lib.Dec.{ltb, eqb}
use lib.ListN.{get_or, length, take, drop, replicate, length-append, length-drop, drop_of_length-le, take-append-drop}
use lib.Seq.{length-take-le, take_all, take_at, drop-cons, get_or-drop}
use Rattle.bits.specs.Search.{least}
use Rattle.codec.specs.Bytes.{little_endian, from_little_endian, Bytes}
use Rattle.answers.specs.declared.Answer.TheVariants.{Taken, BadLength, BadField, TooMany, UnknownKind}
use Rattle.answers.specs.Answers.{nowhere}
use Rattle.std.specs.declared.result.Result.TheVariants.{Ok}
use Rattle.wire.specs.declared.What.TheVariants.{Request}
use Rattle.wire.specs.declared.Message.{Message}
use Rattle.wire.specs.Kinds.{SizedKind, kinds_known, kind_of, body_of, request_kind, in_range, plain, requesting}
use Rattle.wire.specs.Reads.{kind_at, bad_in, message_taken, sized, read_request, read_among, read_whole}
use Rattle.wire.specs.Writes.{message_bytes, put, is_request, writing_message, one_form}
use Rattle.wire.proofs.Frames.{when}
use Rattle.wire_laws.specs.Statements.{Form, OneForm}
use Rattle.codec.proofs.Numbers.{bytes_take, bytes_drop, word_form, two_form}
use Rattle.wire_laws.proofs.Instructions.{bad_same}
use Rattle.wire_laws.proofs.Messages.{no, taken_message, taken_used, cut_out, read_whole_lem, parts}
use Rattle.wire_laws.proofs.Back.{Good}

-- what is to be shown of a message that was read from exactly the bytes m
pub record Meant (m : List ℕ) (msg : Message) (n : ℕ) : Type 0 where
  pub good : Good msg
  pub kind : kind_of msg.what ≡ kind_at m
  pub body : body_of msg.what msg.count msg.set ≡ drop 4 m
  pub unused : one_form msg ≡ msg
  pub size : length m ≡ n

-- ---- kinds whose body has one size

-- what such a message says is of its kind, and its body is the one that says it
record Lawful (k : SizedKind) : Type 0 where
  other : eqb k.number request_kind ≡ false
  kind : (m : List ℕ) → kind_of (k.says m) ≡ k.number
  body : (m : List ℕ) (count : ℕ) (set : List ℕ) → Bytes m → length m ≡ 4 + k.size → body_of (k.says m) count set ≡ drop 4 m

abbrev Each : List SizedKind → Type 0
Each [] = Unit {0}
Each (k ∷ ks) = Lawful k × Each ks

-- a body of no, one and four bytes
none : (m : List ℕ) → length m ≡ 4 → [] ≡ drop 4 m
none m l = sym (drop_of_length-le m {i = 4} (omega arith))

one : (m : List ℕ) → length m ≡ 5 → get_or m 4 0 ∷ [] ≡ drop 4 m
one m l = sym (drop-cons m 4 0 (omega arith) ∙ rw (drop_of_length-le m {i = 5} (omega arith)))

four : (m : List ℕ) → length m ≡ 8 → get_or m 4 0 ∷ get_or m 5 0 ∷ get_or m 6 0 ∷ get_or m 7 0 ∷ [] ≡ drop 4 m
four m l =
    sym
    (drop-cons m 4 0 (omega arith)
    ∙ rw (drop-cons m 5 0 (omega arith), drop-cons m 6 0 (omega arith), drop-cons m 7 0 (omega arith), drop_of_length-le m {i = 8} (omega arith)))

-- four that begin with an issue, and four that end with one
issue_first : (m : List ℕ) → Bytes m → length m ≡ 8 → little_endian 2 (from_little_endian 2 4 m) ++ get_or m 6 0 ∷ get_or m 7 0 ∷ [] ≡ drop 4 m
issue_first m b l =
    ap (λ (i : List ℕ). i ++ get_or m 6 0 ∷ get_or m 7 0 ∷ []) (word_form (get_or m 4 0) (get_or m 5 0) (b 4) (b 5)) ∙ four m l

issue_last : (m : List ℕ) → Bytes m → length m ≡ 8 → get_or m 4 0 ∷ get_or m 5 0 ∷ little_endian 2 (from_little_endian 2 6 m) ≡ drop 4 m
issue_last m b l = ap (λ (i : List ℕ). get_or m 4 0 ∷ get_or m 5 0 ∷ i) (word_form (get_or m 6 0) (get_or m 7 0) (b 6) (b 7)) ∙ four m l

-- two numbers of eight bytes each
sixteen : (m : List ℕ) → Bytes m → length m ≡ 20 → little_endian 8 (from_little_endian 8 4 m) ++ little_endian 8 (from_little_endian 8 12 m) ≡ drop 4 m
sixteen m b l =
    let record-at : from_little_endian 8 0 (drop 4 m) ≡ from_little_endian 8 4 m = simp get_or-drop in
    let apart_at : from_little_endian 8 8 (drop 4 m) ≡ from_little_endian 8 12 m = simp get_or-drop in
    ap₂ (λ (x y : ℕ). little_endian 8 x ++ little_endian 8 y) (sym record-at) (sym apart_at)
    ∙ two_form 8 8 (drop 4 m) (bytes_drop 4 m b) (length-drop 4 m ∙ omega arith)

lawful : Each kinds_known
lawful = (
  record { other = refl; kind = λ m. refl; body = λ m count set b l. issue_last m b l },
  (
    record { other = refl; kind = λ m. refl; body = λ m count set b l. sixteen m b l },
    (
      record { other = refl; kind = λ m. refl; body = λ m count set b l. one m l },
      (
        record { other = refl; kind = λ m. refl; body = λ m count set b l. issue_first m b l },
        (
          record { other = refl; kind = λ m. refl; body = λ m count set b l. sixteen m b l },
          (
            record { other = refl; kind = λ m. refl; body = λ m count set b l. none m l },
            tt,
          ),
        ),
      ),
    ),
  ),
)

module _ (m : List ℕ) (b : Bytes m) (msg : Message) (n : ℕ) where
  sized_meant : (k : SizedKind) → Lawful k → kind_at m ≡ k.number → sized m (4 + k.size) (k.says m) ≡ message_taken msg n → Meant m msg n
  unfolding one_form
  sized_meant k law kind e =
      let w = k.says m in
      let plainly : is_request (plain w) ≡ false = ap (λ (x : ℕ). eqb x request_kind) (law.kind m) ∙ law.other in
      when (eqb (length m) (4 + k.size)) _ _ _ e
      (λ l e. when (in_range w) _ _ _ e
      (λ r e. subst₂ (λ (x : Message) (y : ℕ). Meant m x y) (taken_message e) (taken_used e)
      (record {
        good = record { few = rw plainly; fine = rw plainly; ranged = r };
        kind = law.kind m ∙ sym kind;
        body = law.body m 0 (replicate 40 0) b (eqb-true _ _ l);
        unused = rw plainly;
        size = refl;
      }))
      (λ _ e. no {a = BadField nowhere} e (omega arith)))
      (λ _ e. no {a = BadLength} e (omega arith))

  among_meant : (ks : List SizedKind) → Each ks → read_among ks m ≡ message_taken msg n → Meant m msg n
  among_meant [] law e = no {a = UnknownKind} e (omega arith)
  among_meant (k ∷ ks) law e =
      when (eqb (kind_at m) k.number) _ _ _ e
      (λ t e. sized_meant k law.0 (eqb-true _ _ t) e)
      (λ _ e. among_meant ks law.1 e)

-- ---- requests

-- what a reader keeps of the bytes s of n instructions: these bytes, and zeros
module _ (n : ℕ) (s : List ℕ) (l : length s ≡ 5 * n) where
  abbrev kept : List ℕ
  kept = (requesting n s).set

  kept_bytes : take (5 * n) kept ≡ s
  kept_bytes = take_at (take (5 * n) s) (replicate (40 - 5 * n) 0) (5 * n) (length-take-le (5 * n) s (omega arith)) ∙ take_all (5 * n) s (omega arith)

  kept_long : 5 * n ≤ length kept
  kept_long = rw (length-append (take (5 * n) s) (replicate (40 - 5 * n) 0), length-take-le (5 * n) s (omega arith)) (omega arith)

  kept_bad : least n (bad_in kept) ≡ least n (bad_in s)
  kept_bad = bad_same kept s n kept_long (omega arith) (kept_bytes ∙ sym (take_all (5 * n) s (omega arith)))

  kept_form : one_form (requesting n s) ≡ requesting n s
  unfolding one_form
  kept_form =
      ap (λ (r : List ℕ). record { what = Request; count = n; set = r ++ replicate (40 - 5 * n) 0 })
      (kept_bytes ∙ sym (take_all (5 * n) s (omega arith)))

request_meant : (m : List ℕ) (msg : Message) (n : ℕ) → kind_at m ≡ request_kind → read_request m ≡ message_taken msg n → Meant m msg n
unfolding read_request
request_meant m msg n kind e =
    let c = get_or m 4 0 in
    let s = drop 5 m in
    when (ltb (length m) 5) _ _ _ e (λ _ e. no {a = BadLength} e (omega arith))
    (λ _ e. when (ltb 8 c) _ _ _ e (λ _ e. no {a = TooMany} e (omega arith))
    (λ few e. when (eqb (length m) (5 + 5 * c)) _ _ _ e
    (λ t e. when (ltb (least c (bad_in s)) c) _ _ _ e (λ _ e. no {a = BadField (least c (bad_in s))} e (omega arith))
    (λ fine e.
    let t : length m ≡ 5 + 5 * c = eqb-true _ _ t in
    let l : length s ≡ 5 * c = length-drop 5 m ∙ omega arith in
    subst₂ (λ (x : Message) (y : ℕ). Meant m x y) (taken_message e) (taken_used e)
    (record {
      good = record { few = few; fine = ap (λ (x : ℕ). ltb x c) (kept_bad c s l) ∙ fine; ranged = refl };
      kind = sym kind;
      body = ap (λ (r : List ℕ). c ∷ r) (kept_bytes c s l) ∙ sym (drop-cons m 4 0 (omega arith));
      unused = kept_form c s l;
      size = refl;
    })))
    (λ _ e. no {a = BadLength} e (omega arith))))

-- ---- every message

-- bytes put where they stand
pub put_over : (s bytes : List ℕ) (n : ℕ) → take n s ≡ bytes → n ≤ length s → length bytes ≡ n
    → put bytes s ≡ record { says = Ok n; leaves = s }
put_over s bytes n e h l = rw (l, le-ltb (length s) n h) (ap (λ (r : List ℕ). record { says = Ok n; leaves = r }) (ap (λ (x : List ℕ). x ++ drop n s) (sym e) ∙ take-append-drop n s))

pub whole_meant : (m : List ℕ) (msg : Message) (n : ℕ) → Bytes m → read_whole kinds_known m ≡ message_taken msg n → Meant m msg n
unfolding read_whole
whole_meant m msg n b e =
    when (eqb (kind_at m) request_kind) _ _ _ e
    (λ t e. request_meant m msg n (eqb-true _ _ t) e)
    (λ _ e. among_meant m b msg n kinds_known lawful e)

-- a message that can be written, over its own bytes
pub formed : (s : List ℕ) (msg : Message) (n : ℕ) → Good msg → one_form msg ≡ msg → take n s ≡ message_bytes msg → n ≤ length s → Form s msg n
unfolding writing_message
formed s msg n g u e h =
    let l : length (message_bytes msg) ≡ n = ap length (sym e) ∙ length-take-le n s h in
    record {
      bytes = e;
      unused = u;
      written = rw (g.few, g.fine, g.ranged) (put_over s (message_bytes msg) n e h l);
    }

pub one_form_lem : OneForm
one_form_lem s msg n b e =
    let (k, f, r) = read_whole_lem s msg n e in
    let c = cut_out s k f in
    let w = whole_meant (take k s) msg n (bytes_take k s b) r in
    let same : k ≡ n = sym c.size ∙ w.size in
    let bytes : take k s ≡ message_bytes msg =
    parts (take k s) (bytes_take k s b) (rw c.size f.low) c.long
    ∙ sym (ap₂ (λ (kind : ℕ) (body : List ℕ). little_endian 2 (2 + length body) ++ (little_endian 2 kind ++ body)) w.kind w.body) in
    formed s msg n w.good w.unused (ap (λ (x : ℕ). take x s) (sym same) ∙ bytes) (rw (← same) f.within)
